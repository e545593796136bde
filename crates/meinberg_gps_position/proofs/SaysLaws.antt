-- The reader of a position takes from the string what it says.
use Prim.Native.Nat.{ℕ}
use native.Mathlib.Omega.{arith}
use mathlib.Core.Path.{◌≡◌, sym, ap, ◌∙◌}
use mathlib.Core.Logic.{◌⊎◌, ⊎_elim}
use mathlib.Core.List.{List}
use lib.Dec.{eqb}
use lib.ListN.{get_or}
use lib.IntN.{ℤ, pos, neg_ℤ}
use borrow.Author.Tests.{eq-eqb, ne_eqb}
use Rattle.clock_time.specs.declared.Position.{Position}
use Rattle.signed.specs.Signed.{signed}
use Rattle.meinberg_gps_position.specs.Position.{angle_of, position_of}
use Rattle.meinberg_gps_position.specs.Rules.{PositionRules, SaysPosition}
use Rattle.meinberg_gps_position.proofs.RulesLaws.{latitude_magnitude_lem, longitude_magnitude_lem, height_number}

-- ---- a magnitude with one of two signs
module _ (b above below : ℕ) {m n : ℕ} (e : m ≡ n) where
  pub signed_above : (above ≡ below → ⊥) → b ≡ above → signed (eqb b below) m ≡ pos n
  unfolding signed
  signed_above d h = rw (h, ne_eqb above below d) (ap pos e)

  pub signed_below : b ≡ below → signed (eqb b below) m ≡ neg_ℤ (pos n)
  unfolding signed
  signed_below h = rw (eq-eqb b below h) (ap (λ (k : ℕ). neg_ℤ (pos k)) e)

  pub signed_said : (z : ℤ) → (above ≡ below → ⊥) → (b ≡ above → z ≡ pos n) → (b ≡ below → z ≡ neg_ℤ (pos n))
      → (b ≡ above) ⊎ (b ≡ below) → z ≡ signed (eqb b below) m
  signed_said z d up down = ⊎_elim (λ h. up h ∙ sym (signed_above d h)) (λ h. down h ∙ sym (signed_below h))

-- ---- positions
pub position_says : (s : List ℕ) → SaysPosition s (position_of s)
unfolding position_of angle_of
position_says s =
    record {
      north = signed_above (get_or s 48 0) 78 83 (latitude_magnitude_lem s) (λ z. omega arith);
      south = signed_below (get_or s 48 0) 78 83 (latitude_magnitude_lem s);
      east = signed_above (get_or s 58 0) 69 87 (longitude_magnitude_lem s) (λ z. omega arith);
      west = signed_below (get_or s 58 0) 69 87 (longitude_magnitude_lem s);
      height = height_number s;
    }

pub position_said : (s : List ℕ) (p : Position) → PositionRules s → SaysPosition s p → p ≡ position_of s
unfolding position_of angle_of
position_said s p r h =
    let lat = signed_said (get_or s 48 0) 78 83 (latitude_magnitude_lem s) p.latitude (λ z. omega arith) h.north
    h.south r.latitude_letter in
    let lon = signed_said (get_or s 58 0) 69 87 (longitude_magnitude_lem s) p.longitude (λ z. omega arith) h.east
    h.west r.longitude_letter in
    λ i. record { latitude = lat i; longitude = lon i; height = (h.height ∙ sym (height_number s)) i }
