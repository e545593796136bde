-- Laws of runs of bytes: counted eight at a time, skipped, and kept.
use Prim.Native.Nat.{ℕ, zero, suc, ◌+◌, ◌*◌, ◌≤◌, ◌<◌, ◌-◌}
use native.Mathlib.Nat.{add-zero, zero-add, add_assoc}
use native.Mathlib.Numerals.{add-one}
use native.Mathlib.Decide.{ℕ_discrete}
use native.Mathlib.Omega.{arith}
use mathlib.Core.Path.{◌≡◌, refl, sym, ap, ap₂, ◌∙◌}
use mathlib.Core.Bool.{Bool, true, false, cond, not, ◌||◌}
use mathlib.Core.List.{List, [], ◌∷◌}
use lib.Dec.{eqb, ltb, lit<}
use lib.ListN.{length, get_or, take, drop, set, length-take, take-append-drop}
use lib.Seq.{paste, drop-cons, drop-drop}
use lib.Bits.{bit_and, and_block, and_le_r}
use borrow.Author.Tests.{ne_eqb}
use Rattle.bits.proofs.ByteLaws.{word, set_block}
use Rattle.std.specs.List.{position_or_len}
use Rattle.std.specs.Option.{unwrap_or}
use Rattle.std.specs.declared.option.Option.TheVariants.{Some, None}
use Rattle.std.proofs.lemmas.Grind.{common_steps}
use Rattle.std.proofs.lemmas.Bool.{not-true}
use Rattle.std.specs.Simd.{first_chunks}
use Rattle.std.proofs.lemmas.List.Sums.{position_or_len_is, prefix_len-le-length, prefix_len_passes}
use Rattle.std.proofs.lemmas.List.Folds.{prefix_len-append}
use Rattle.std.proofs.lemmas.List.Edits.{paste_none, paste_more}
use Rattle.framing.specs.declared.Mode.TheVariants.{Inside}
use Rattle.framing.specs.declared.Framer.{Framer}
use Rattle.framing.specs.declared.Event.TheVariants.{Nothing}
use Rattle.framing.specs.Step.{framer_of, step_of}
use Rattle.framing.specs.Run.{Taken, Still, before}
use Rattle.framing.proofs.StepLaws.{step_keeps}
use Rattle.framing.proofs.FeedLaws.{rest, taken_none, taken_step}

unwrap_cut : (n m : ℕ) → n ≤ m → unwrap_or (cond (ltb n m) (Some n) None) m ≡ n
unwrap_cut n m h = grind (arith, common_steps)

-- the first place where a test passes, or the length if there is none
pub unwrap_place : {B : Type 0} (test : B → Bool) (xs : List B)
    → unwrap_or (cond (ltb (position_or_len test xs) (length xs)) (Some (position_or_len test xs)) None) (length xs)
    ≡ position_or_len test xs
unwrap_place test xs = unwrap_cut (position_or_len test xs) (length xs) (prefix_len-le-length _ xs)

-- the same byte k times, as one number
abbrev each : ℕ → ℕ → ℕ
each zero b = 0
each (suc k) b = each k b * 256 + b

plain_byte : (b : ℕ) → bit_and (bit_and b 124 + 124) 128 ≡ 128 → eqb b 2 || eqb b 3 ≡ false
plain_byte b h =
    simp (
      ne_eqb b 2 (λ e. let z : 0 ≡ 128 = rw e at h in omega arith),
      ne_eqb b 3 (λ e. let z : 0 ≡ 128 = rw e at h in omega arith),
    )

module _ (s : List ℕ) (bytes : (i : ℕ) → get_or s i 0 < 256) where
  plain_word : (k at : ℕ) → bit_and (bit_and (word k at s) (each k 124) + each k 124) (each k 128) ≡ each k 128
      → (i : ℕ) → at ≤ i → i < at + k → eqb (get_or s i 0) 2 || eqb (get_or s i 0) 3 ≡ false
  plain_word zero at h i l u = absurd (omega arith)
  plain_word (suc k) at h i l u =
      let b = get_or s at 0 in
      let above = bit_and (word k (suc at) s) (each k 124) + each k 124 in
      let low : bit_and b 124 + 124 < 256 = omega (arith, and_le_r b 124) in
      let same : bit_and (word (suc k) at s) (each (suc k) 124) + each (suc k) 124
      ≡ above * 256 + (bit_and b 124 + 124) =
      rw (and_block 8 (word k (suc at) s) (each k 124) b 124 (bytes at) (lit< tt)) (omega arith) in
      let w = set_block above (each k 128) (bit_and b 124 + 124) 128 low (lit< tt) (rw same at h) in
      elim (ℕ_discrete i at) [
        | yes e ↦ rw e (plain_byte b w.0)
        | no e ↦ plain_word k (suc at) w.1 i (omega arith) (omega arith)
      ]

  pub eight_plain : (n : ℕ) → length s ≡ 8 → n ≡ word 8 0 s
      → bit_and (bit_and n 8970181431921507452 + 8970181431921507452) 9259542123273814144 ≡ 9259542123273814144
      → before 3 s ≡ 8
  eight_plain n size e h =
      position_or_len_is (λ b. eqb b 2 || eqb b 3) s 8 0 (omega (arith, size))
      (λ i u. plain_word 8 0 (rw e at h) i (omega arith) u)
      (λ u. absurd (omega (arith, size)))

pub before_length : (last : ℕ) (s : List ℕ) → before last s ≤ length s
before_length last s = prefix_len-le-length _ s

-- eight plain bytes, and those after them
eight_more : (s : List ℕ) → before 3 (take 8 s) ≡ 8 → before 3 s ≡ 8 + before 3 (drop 8 s)
eight_more s h =
    let size : length (take 8 s) ≡ 8 = omega (arith, h, before_length 3 (take 8 s), length-take 8 s) in
    ap (before 3) (sym (take-append-drop 8 s)) ∙ prefix_len-append _ (take 8 s) (drop 8 s) ∙ simp (h, size)

pub eights_more : (k m : ℕ) (s : List ℕ) → k ≤ m
    → ((i : ℕ) → i < k → before 3 (get_or (first_chunks 8 m s) i []) ≡ 8)
    → before 3 s ≡ 8 * k + before 3 (drop (8 * k) s)
eights_more zero m s h plain = simp zero-add
eights_more (suc k) zero s h plain = absurd (omega arith)
eights_more (suc k) (suc m) s h plain =
    let e = eight_more s (plain 0 (omega arith)) in
    let f = eights_more k m (drop 8 s) (omega arith) (λ i l. plain (suc i) (omega arith)) in
    let n : 8 * suc k ≡ 8 + 8 * k = omega arith in
    rw (n, ← drop-drop) (omega (arith, e, f))

plain_at : (last : ℕ) (s : List ℕ) (i : ℕ) → i < before last s
    → eqb (get_or s i 0) 2 || eqb (get_or s i 0) last ≡ false
plain_at last s i h = not-true _ (prefix_len_passes (λ b. not (eqb b 2 || eqb b last)) s i 0 h)

pub before_take : (last m : ℕ) (s : List ℕ) → before last (take m s) ≤ before last s
before_take last zero s = omega arith
before_take last (suc m) [] = omega arith
before_take last (suc m) (b ∷ s) = go (not (eqb b 2 || eqb b last)) (before_take last m s)
  where
    go : (t : Bool) → before last (take m s) ≤ before last s
        → cond t (1 + before last (take m s)) 0 ≤ cond t (1 + before last s) 0
    go true h = omega arith
    go false h = omega arith

-- bytes that each do what is said of them
taken_run : (f : Framer) (s : List ℕ) (g : ℕ → Framer) (n : ℕ) → f ≡ g 0 → n ≤ length s
    → ((i : ℕ) → i < n → step_of (g i) (get_or s i 0) ≡ record { framer = g (i + 1); event = Nothing })
    → Taken f s (g n) (drop n s)
taken_run f s g zero e h steps = rw (← e) (taken_none f s)
taken_run f s g (suc n) e h steps =
    let here : drop n s ≡ get_or s n 0 ∷ drop (suc n) s = drop-cons s n 0 (omega arith) in
    taken_step f s (g n) (get_or s n 0) (drop (suc n) s)
    (rw here at (taken_run f s g n e (omega arith) (λ i l. steps i (omega arith))))
    (g (suc n)) Nothing (rw add-one at (steps n (omega arith))) refl

-- bytes that do nothing are skipped
pub taken_still : (f : Framer) (last : ℕ) → Still f last → (s : List ℕ) (n : ℕ) → n ≡ before last s
    → Taken f s f (take (length s - n) (drop n s))
taken_still f last still s n e =
    rw (rest s n, e)
    (taken_run f s (λ i. f) (before last s) refl (before_length last s) (λ i l. still _ (plain_at last s i l)))

-- plain bytes for which there is room are kept
pub taken_kept : (f : Framer) (s : List ℕ) (n : ℕ) → f.mode ≡ Inside → n ≤ before 3 s → f.count + n ≤ 66
    → length f.bytes ≡ 66 → Taken f s (framer_of (paste f.bytes f.count s n) (f.count + n) f.mode) (drop n s)
taken_kept f s n inside h room size =
    taken_run f s (λ i. kept (paste f.bytes f.count s i) (f.count + i)) n
    (ap₂ kept (paste_none f.bytes f.count s) (sym (add-zero f.count))) (omega (arith, before_length 3 s))
    (λ i l.
    step_kept i l
    ∙ ap₂ (λ (l : List ℕ) (m : ℕ). record { framer = kept l m; event = Nothing })
    (paste_more f.bytes f.count s i 0 (omega (arith, size)) (omega (arith, before_length 3 s)))
    (add_assoc f.count i 1))
  where
    kept : List ℕ → ℕ → Framer
    kept l m = framer_of l m f.mode

    step_kept : (i : ℕ) → i < n → step_of (kept (paste f.bytes f.count s i) (f.count + i)) (get_or s i 0)
        ≡ record {
          framer = kept (set (paste f.bytes f.count s i) (f.count + i) (get_or s i 0)) (f.count + i + 1);
          event = Nothing;
        }
    step_kept i l =
        rw inside
        (step_keeps (paste f.bytes f.count s i) (f.count + i) (get_or s i 0) (omega arith)
        (plain_at 3 s i (omega arith)))
