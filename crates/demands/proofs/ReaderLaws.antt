-- Which strings and runs are accepted, by kind and by what a call from C leaves.
use Prim.Native.Nat.{ℕ, zero, suc, ◌+◌, ◌<◌}
use native.Mathlib.Decide.{dec_le}
use native.Mathlib.Nat.{lt_of_not-le}
use native.Mathlib.Omega.{arith}
use mathlib.Core.Path.{◌≡◌, refl, sym, ap, subst, ◌∙◌}
use mathlib.Core.Bool.{Bool, true, false, cond, ◌&&◌}
use mathlib.Core.Logic.{◌↔◌}
use mathlib.Core.List.{List, [], ◌∷◌}
use lib.Dec.{eqb, leb}
use lib.ListN.{length, get_or}
use lib.IntN.{ℤ}
use borrow.Author.Tests.{eqb-true, eqb-false, leb-true, leb-false, not-true}
use Rattle.clock_time.specs.Errors.{Answer, accepted, refused, given}
use Rattle.clock_time.specs.Called.{Called, called, called_answer, called_memory, and_then}
use Rattle.clock_time.proofs.ErrorLaws.{apart, accepted_passes}
use Rattle.clock_time.proofs.Tests.{both}
use Rattle.time_string.specs.Row.{TellingByte, any_byte, letter_d, other_byte, kind_row, all_kinds}
use Rattle.time_string.specs.Kind.{is_telling, is_told, first_told, kind_of, kind_number, named_kind, kind_named, read_as}
use Rattle.time_string.specs.Accepted.{Telling, TellsKind}
use Rattle.time_string.proofs.KindLaws.{kind_laws, kind_unknown}
use Rattle.time_string.specs.declared.Kind.{Kind}
use Rattle.time_string.specs.declared.Kind.TheVariants.{Standard}
use Rattle.c_numbers.specs.Numbers.{put_answer}
use Rattle.c_numbers.proofs.NumberLaws.{put_no_room, put_room}
use Rattle.c_readings.specs.Strings.{kind_number_of, read_numbered}
use Rattle.demands.specs.Accepted.{AcceptsNumbered}
use Rattle.demands.specs.Exactly.{ReadsExactly, CallAnswersExactly, CallReadsExactly}
use Rattle.demands.proofs.KindLaws.{kind_exactly}

-- ---- the kind of a string
telling : (b : TellingByte) (s : List ℕ) → is_telling b s ≡ true → Telling b s
telling any_byte s h = tt
telling letter_d s h = eqb-true _ _ h
telling other_byte s h = eqb-false _ _ (not-true _ h)

tells_first : (s : List ℕ) (kind : Kind) (ks : List Kind) → first_told s ks ≡ accepted kind → TellsKind s kind
tells_first s kind [] h = apart (sym h)
tells_first s kind (k ∷ ks) h = go (is_told (kind_row k) s) refl h (tells_first s kind ks)
  where
    go : (t : Bool) → is_told (kind_row k) s ≡ t → cond t (accepted k) (first_told s ks) ≡ accepted kind
        → (first_told s ks ≡ accepted kind → TellsKind s kind) → TellsKind s kind
    go true e h later =
        let w = both (eqb (length s) (kind_row k).long) (is_telling (kind_row k).telling s) e in
        let same : k ≡ kind = cc in
        subst (TellsKind s) same (eqb-true _ _ w.0, telling (kind_row k).telling s w.1)
    go false e h later = later h

pub tells_exactly : (s : List ℕ) → ReadsExactly (TellsKind s) (kind_of s)
unfolding kind_of
tells_exactly s kind = (tells_first s kind all_kinds, (kind_laws kind).told s)

-- one answer after another
module _ {A B : Type 0} {P : A → Type 0} {Q : A → B → Type 0} (go : A → Answer B)
    (each : (a : A) → ReadsExactly (Q a) (go a)) where
  then_exactly : (answer : Answer A) → ReadsExactly P answer
      → ReadsExactly (λ b. (a : A) × (P a × Q a b)) (and_then answer go)
  then_exactly (accepted a) exact b = (
    λ h. (a, ((exact a).0 refl, (each a b).0 h)),
    λ r. let q : r.0 ≡ a = cc ((exact r.0).1 r.1.0) in (each a b).1 (subst (λ (x : A). Q x b) q r.1.1),
  )
  then_exactly (refused k) exact b = (λ h. apart (sym h), λ r. apart (sym ((exact r.0).1 r.1.0)))

-- what is told as a number
pub kind_number_exactly : (s : List ℕ)
    → ReadsExactly (λ n. (kind : Kind) × (TellsKind s kind × (n ≡ kind_number kind))) (kind_number_of s)
unfolding kind_number_of
kind_number_exactly s =
    then_exactly (λ k. accepted (kind_number k)) (λ k n. (λ h. cc, λ e. ap accepted (sym e))) (kind_of s)
    (tells_exactly s)

-- ---- by the kind that a number names
-- the kinds of a list have the numbers from i on
abbrev in_order : ℕ → List Kind → Bool
in_order i [] = true
in_order i (k ∷ ks) = eqb i (kind_number k) && in_order (suc i) ks

number_at : (i : ℕ) (ks : List Kind) → in_order i ks ≡ true → (n : ℕ) → n < length ks
    → i + n ≡ kind_number (get_or ks n Standard)
number_at i [] h n below = absurd (omega (arith, below))
number_at i (k ∷ ks) h zero below =
    let w = both (eqb i (kind_number k)) (in_order (suc i) ks) h in
    omega (arith, eqb-true i (kind_number k) w.0)
number_at i (k ∷ ks) h (suc n) below =
    let w = both (eqb i (kind_number k)) (in_order (suc i) ks) h in
    let rest = number_at (suc i) ks w.1 n (omega (arith, below)) in
    omega (arith, rest)

-- a number that is known is that of the kind that it names
pub number_named : (n : ℕ) → leb (length all_kinds) n ≡ false → n ≡ kind_number (named_kind n)
number_named n e = let h = number_at 0 all_kinds refl n (leb-false _ _ e) in omega (arith, h)

pub named_exactly : (n : ℕ) → ReadsExactly (λ kind. n ≡ kind_number kind) (kind_named n)
unfolding kind_named
named_exactly n kind = (named, λ e. rw e (kind_laws kind).named)
  where
    named : kind_named n ≡ accepted kind → n ≡ kind_number kind
    named h =
        let w = accepted_passes (given 1 (leb (length all_kinds) n) ∷ []) (named_kind n) kind h in
        number_named n w.0.0 ∙ ap kind_number (sym w.1)

-- it is unknown exactly if no kind has it
pub unknown_exactly : (n : ℕ) → (leb (length all_kinds) n ≡ true) ↔ ((kind : Kind) → n ≡ kind_number kind → ⊥)
unknown_exactly n = (
  λ h kind e. apart (sym ((named_exactly n kind).1 e) ∙ kind_unknown n (leb-true _ _ h)),
  go (leb (length all_kinds) n) refl,
)
  where
    go : (t : Bool) → leb (length all_kinds) n ≡ t → ((kind : Kind) → n ≡ kind_number kind → ⊥) → t ≡ true
    go true e none = refl
    go false e none = absurd (none (named_kind n) (number_named n e))

pub numbered_exactly : (n : ℕ) (s : List ℕ) → ReadsExactly (AcceptsNumbered n s) (read_numbered n s)
unfolding read_numbered read_as
numbered_exactly n s =
    then_exactly (λ kind. read_as kind s) (λ kind. kind_exactly kind s) (kind_named n) (named_exactly n)

-- ---- what a call leaves
-- behind a pointer; no refusal has the number 0
pub call_answers : {A : Type 0} {Accepts : A → Type 0} (old : A) (answer : Answer A) → (answer ≡ refused 0 → ⊥)
    → ReadsExactly Accepts answer → CallAnswersExactly Accepts (called_answer old answer)
call_answers {A = A} old (accepted a) some exact b = (
  λ h. (exact b).0 (ap (λ (c : Called A). accepted c.memory) h),
  λ h. ap (called 0) (let q : b ≡ a = cc ((exact b).1 h) in sym q),
)
call_answers {A = A} old (refused k) some exact b = (
  λ h. absurd (some (ap (λ (c : Called A). refused c.status) h)),
  λ h. apart (sym ((exact b).1 h)),
)

no_status : (n : ℕ) (y z : List ℤ) {B : Type 0} → (n ≡ 0 → ⊥) → called n y ≡ called 0 z → B
no_status n y z d e = absurd (d (ap (λ (c : Called (List ℤ)). c.status) e))

module _ {A : Type 0} (numbers : A → List ℤ) {Accepts : A → Type 0} (fields : List ℤ) where
  -- as numbers in front of those lent
  pub call_reads : (answer : Answer A) → (answer ≡ refused 0 → ⊥) → ReadsExactly Accepts answer
      → CallReadsExactly numbers Accepts fields (called_memory (put_answer numbers answer fields))
  unfolding put_answer
  call_reads (accepted a) some exact z = elim (dec_le (length (numbers a)) (length fields)) [
    | yes room ↦
        rw (← (put_room (numbers a) fields room _ refl)) (
          λ h. (a, ((exact a).0 refl, room, ap (λ (c : Called (List ℤ)). c.memory) (sym h))),
          λ r.
              let q : r.0 ≡ a = cc ((exact r.0).1 r.1.0) in
              rw (r.1.2, q) refl,
        )
    | no short ↦
        rw (← (put_no_room (numbers a) fields (lt_of_not-le short))) (
          λ h. no_status 20 fields z (λ e. omega (arith, e)) h,
          λ r.
              let q : r.0 ≡ a = cc ((exact r.0).1 r.1.0) in
              absurd (short (rw q at r.1.1)),
        )
  ]
  call_reads (refused k) some exact z = (
    λ h. no_status k fields z (λ e. some (ap refused e)) h,
    λ r. apart (sym ((exact r.0).1 r.1.0)),
  )
