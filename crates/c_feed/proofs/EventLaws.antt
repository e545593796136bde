-- The number of an event tells which it is, since a complete string has 1 to 66 bytes.
use Prim.Native.Nat.{ℕ, ◌≤◌}
use native.Mathlib.Omega.{arith}
use mathlib.Core.Path.{◌≡◌, refl, ap}
use Rattle.framing.specs.declared.Event.{Event}
use Rattle.framing.specs.declared.Event.TheVariants.{Nothing, Complete, Dropped}
use Rattle.framing.proofs.StepLaws.{nothing_complete, dropped_complete}
use Rattle.c_feed.specs.Feed.{event_number}
use Rattle.c_feed.specs.Event.{EventSays}

nothing_dropped : {A : Type 0} → Nothing ≡ Dropped → A
nothing_dropped e = let z : ◌≡◌ {A = ℕ} 0 1 = cc in absurd (omega arith)

dropped_nothing : {A : Type 0} → Dropped ≡ Nothing → A
dropped_nothing e = let z : ◌≡◌ {A = ℕ} 0 1 = cc in absurd (omega arith)

complete_nothing : {A : Type 0} {m : ℕ} → Complete m ≡ Nothing → A
complete_nothing e = let z : ◌≡◌ {A = ℕ} 0 1 = cc in absurd (omega arith)

complete_dropped : {A : Type 0} {m : ℕ} → Complete m ≡ Dropped → A
complete_dropped e = let z : ◌≡◌ {A = ℕ} 0 1 = cc in absurd (omega arith)

pub number_says : (a : Event) → ((n : ℕ) → a ≡ Complete n → (1 ≤ n) × (n ≤ 66)) → EventSays (event_number a) a
number_says Nothing size =
    record {
      nothing = (λ e. refl, λ e. refl);
      string = λ n. (λ h. absurd (omega arith), nothing_complete);
      overlong = (λ e. absurd (omega arith), nothing_dropped);
    }
number_says (Complete m) size =
    let h = size m refl in
    record {
      nothing = (λ e. absurd (omega arith), complete_nothing);
      string = λ n. (λ w. ap Complete w.2, λ e. let q : m ≡ n = cc in (omega arith, omega arith, q));
      overlong = (λ e. absurd (omega arith), complete_dropped);
    }
number_says Dropped size =
    record {
      nothing = (λ e. absurd (omega arith), dropped_nothing);
      string = λ n. (λ h. absurd (omega arith), dropped_complete);
      overlong = (λ e. refl, λ e. refl);
    }
