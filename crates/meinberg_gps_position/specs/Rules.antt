-- The position of a GPS string in words: its rules, and what it says, with no function of its reader in them.
use Rattle.std.specs.Prelude.{ℕ, suc, ◌+◌, ◌*◌, ◌≤◌, ◌<◌, ◌≡◌, ◌⊎◌, List, [], ◌∷◌, get_or, pos, neg_ℤ}
use Rattle.clock_time.specs.Order.{Line, line}
use Rattle.clock_time.specs.declared.Position.{Position}
use Rattle.layout.specs.Picture.{digit, MayStand}
use Rattle.layout.specs.Says.{digit_at, two_digits_at, Stands}

-- a decimal digit stands at each place from the first to the last
abbrev pub DigitsAt : List ℕ → ℕ → ℕ → Type 0
DigitsAt s first last = (i : ℕ) → first ≤ i → i ≤ last → MayStand digit (get_or s i 0)

-- "whole parts, height among them, are right-aligned with blanks for leading zeros, the last whole digit always
-- present, a needless zero refused" (01, Meinberg and ELV strings): of the places from the first to the last, those
-- before one of them hold blanks, and digits stand from it on
pub record WholePart (s : List ℕ) (first last : ℕ) : Type 0 where
  pub start : ℕ
  pub within : first ≤ start
  pub blanks : (i : ℕ) → first ≤ i → i < start → Stands s i " "
  pub digits : DigitsAt s start last
  -- "the last whole digit always present"
  pub present : start ≤ last
  -- "a needless zero refused"
  pub needless : start < last → Stands s start "0" → ⊥

-- the number of four digits; a blank counts as 0, since its byte is below that of `0`
abbrev pub four_digits_at : List ℕ → ℕ → ℕ
four_digits_at s i = 100 * two_digits_at s i + two_digits_at s (suc (suc i))

-- "latitude 41..48", "each point at 43" (01, Meinberg and ELV strings), in ten-thousandths of a degree
abbrev pub latitude_magnitude : List ℕ → ℕ
latitude_magnitude s = 10000 * two_digits_at s 41 + four_digits_at s 44

-- "longitude 50..58", "each point at [..] 53" (01, Meinberg and ELV strings)
abbrev pub longitude_magnitude : List ℕ → ℕ
longitude_magnitude s = 10000 * (100 * digit_at s 50 + two_digits_at s 51) + four_digits_at s 54

-- the rules of a position (01, Meinberg and ELV strings)
pub record PositionRules (s : List ℕ) : Type 0 where
  -- "latitude 41..48"; "longitude 50..58"; "height 60..63"; "point at 43 and 53"
  pub latitude_degrees : WholePart s 41 42
  pub longitude_degrees : WholePart s 50 52
  pub height : WholePart s 60 63
  -- "four digits after each point at 43 and 53"
  pub latitude_decimals : DigitsAt s 44 47
  pub longitude_decimals : DigitsAt s 54 57
  -- "N or S at 48, E or W at 58"
  pub latitude_letter : Stands s 48 "N" ⊎ Stands s 48 "S"
  pub longitude_letter : Stands s 58 "E" ⊎ Stands s 58 "W"
  -- "at most 900,000 and 1,800,000"
  pub latitude_most : latitude_magnitude s ≤ 900000
  pub longitude_most : longitude_magnitude s ≤ 1800000
  -- "a zero with S or W is refused"
  pub south_zero : latitude_magnitude s ≡ 0 → Stands s 48 "S" → ⊥
  pub west_zero : longitude_magnitude s ≡ 0 → Stands s 58 "W" → ⊥

-- "Kept as signed ten-thousandths of a degree, S and W below zero"; "N or S at 48, E or W at 58"; "height 60..63" (01,
-- Meinberg and ELV strings): the string s says the position p
pub record SaysPosition (s : List ℕ) (p : Position) : Type 0 where
  pub north : Stands s 48 "N" → p.latitude ≡ pos (latitude_magnitude s)
  pub south : Stands s 48 "S" → p.latitude ≡ neg_ℤ (pos (latitude_magnitude s))
  pub east : Stands s 58 "E" → p.longitude ≡ pos (longitude_magnitude s)
  pub west : Stands s 58 "W" → p.longitude ≡ neg_ℤ (pos (longitude_magnitude s))
  pub height : p.height ≡ four_digits_at s 60

-- 9: "position" (01, Refusal numbers)
abbrev pub position_lines : List ℕ → List Line
position_lines s = line 9 (PositionRules s → ⊥) ∷ []
