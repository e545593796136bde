-- Laws of the gaps of a recording, and of what a mark at one place changes in them.
use Prim.Native.Nat.{ℕ, zero, suc, ◌+◌, ◌-◌, ◌<◌, ◌≤◌, zero-le, suc-le-suc}
use native.Mathlib.Decide.{dec_lt, ℕ_discrete}
use native.Mathlib.Nat.{not-suc-le-zero, add-zero}
use native.Mathlib.Numerals.{add-one}
use native.Mathlib.Omega.{arith}
use mathlib.Core.Path.{◌≡◌, refl, sym, ap, ◌∙◌}
use mathlib.Core.Logic.{◌↔◌}
use mathlib.Core.Bool.{true}
use mathlib.Core.List.{List, [], ◌∷◌}
use mathlib.Core.Option.{Option, none, some}
use lib.ListN.{length, get_or, take, drop, set, length-drop}
use lib.Seq.{length-take-le, get_or-take, take_all, drop-cons, get_or-set_other, drop-set-lt, get_or-drop}
use borrow.Author.Tests.{eq-eqb, ne_eqb}
use Rattle.std.specs.Prelude as Prelude
use Rattle.std.specs.Prelude.{MatchOption}
use Rattle.dcf77.specs.Marks.{eight_sure}
use Rattle.dcf77.proofs.MarkLaws.{eight_small}
use Rattle.recording.specs.Gaps.{gap_before, first_gap, gap_after, gap_of, FirstGapAfter, NearestGapBefore}

-- ---- what is found is one place
pub some_one : (x : Option ℕ) (g k : ℕ) → x ≡ some g → x ≡ some k → g ≡ k
some_one x g k a b = cc

pub none_some : (x : Option ℕ) (g : ℕ) → x ≡ none → x ≡ some g → ⊥
none_some x g a b = let z : ◌≡◌ {A = ℕ} 0 1 = cc in omega arith

-- ---- one step of the two searches
pub before_gap : (m : List ℕ) (i j : ℕ) → i ≡ suc j → get_or m j 0 ≡ 2 → gap_before m i ≡ some j
unfolding gap_before
before_gap m i j e h = rw e (simp (eq-eqb _ _ h))

pub before_more : (m : List ℕ) (i j : ℕ) → i ≡ suc j → (get_or m j 0 ≡ 2 → ⊥) → gap_before m i ≡ gap_before m j
unfolding gap_before
before_more m i j e h = rw e (simp (ne_eqb _ _ h))

pub before_start : (m : List ℕ) (i : ℕ) → i ≡ 0 → gap_before m i ≡ none
unfolding gap_before
before_start m i e = rw e

pub after_more : (m : List ℕ) (i : ℕ) → i < length m → (get_or m i 0 ≡ 2 → ⊥)
    → first_gap (drop i m) i ≡ first_gap (drop (i + 1) m) (i + 1)
unfolding first_gap
after_more m i l h = rw (add-one, drop-cons m i 0) (simp (ne_eqb _ _ h))

pub after_start : (m : List ℕ) (p : ℕ) → first_gap (drop (p + 1) m) (p + 1) ≡ gap_after m p
unfolding gap_after
after_start m p = simp add-one

-- ---- the search back finds exactly the nearest earlier gap
pub before_none : (m : List ℕ) (p : ℕ) → gap_before m p ≡ none → (i : ℕ) → i < p → get_or m i 0 ≡ 2 → ⊥
before_none m zero e i h q = not-suc-le-zero h
before_none m (suc p) e i h q =
    elim (ℕ_discrete (get_or m p 0) 2) [
      | yes g ↦ none_some _ p e (before_gap m (suc p) p refl g)
      | no g ↦ elim (ℕ_discrete i p) [
        | yes w ↦ g (ap (λ (k : ℕ). get_or m k 0) (sym w) ∙ q)
        | no w ↦ before_none m p (sym (before_more m (suc p) p refl g) ∙ e) i (omega arith) q
      ]
    ]

pub before_is_nearest : (m : List ℕ) (p g : ℕ) → gap_before m p ≡ some g → NearestGapBefore m p g
before_is_nearest m zero g e = absurd (none_some _ g (before_start m zero refl) e)
before_is_nearest m (suc p) g e =
    elim (ℕ_discrete (get_or m p 0) 2) [
      | yes q ↦ let z : p ≡ g = some_one _ p g (before_gap m (suc p) p refl q) e in
          record {
            earlier = omega arith;
            mark = ap (λ (k : ℕ). get_or m k 0) (sym z) ∙ q;
            nearest = λ i a b h. omega arith;
          }
      | no q ↦ let r = before_is_nearest m p g (sym (before_more m (suc p) p refl q) ∙ e) in
          record {
            earlier = omega (arith, r.earlier);
            mark = r.mark;
            nearest = λ i a b h. elim (ℕ_discrete i p) [
              | yes w ↦ q (ap (λ (k : ℕ). get_or m k 0) (sym w) ∙ h)
              | no w ↦ r.nearest i a (omega arith) h
            ];
          }
    ]

nearest_one : (m : List ℕ) (p g k : ℕ) → NearestGapBefore m p g → NearestGapBefore m p k → g ≡ k
nearest_one m p g k a b =
    elim (dec_lt g k) [
      | yes l ↦ absurd (a.nearest k l b.earlier b.mark)
      | no l ↦ elim (ℕ_discrete g k) [
        | yes e ↦ e
        | no e ↦ absurd (b.nearest g (omega arith) a.earlier a.mark)
      ]
    ]

pub nearest_is_before : (m : List ℕ) (p g : ℕ) → NearestGapBefore m p g → gap_before m p ≡ some g
nearest_is_before m p g n = go (gap_before m p) refl
  where
    go : (x : Option ℕ) → gap_before m p ≡ x → x ≡ some g
    go none e = absurd (before_none m p e g n.earlier n.mark)
    go (some k) e = ap some (nearest_one m p k g (before_is_nearest m p k e) n)

pub none_before : (m : List ℕ) (p : ℕ) → ((i : ℕ) → i < p → get_or m i 0 ≡ 2 → ⊥) → gap_before m p ≡ none
none_before m p n = go (gap_before m p) refl
  where
    go : (x : Option ℕ) → gap_before m p ≡ x → x ≡ none
    go none e = refl
    go (some k) e = let b = before_is_nearest m p k e in absurd (n k b.earlier b.mark)

-- ---- past places that are no gaps
-- what is the same at each place and the next is the same at the first and the last
steady : (f : ℕ → Option ℕ) (i k : ℕ) → i ≤ k → ((j : ℕ) → i ≤ j → j < k → f j ≡ f (j + 1)) → f i ≡ f k
steady f i zero h s = ap f (omega arith)
steady f i (suc k) h s =
    elim (ℕ_discrete i (suc k)) [
      | yes e ↦ ap f e
      | no e ↦ steady f i k (omega arith) (λ j a b. s j a (omega arith))
          ∙ s k (omega arith) (omega arith)
          ∙ ap f (add-one k)
    ]

module _ (m : List ℕ) (i k : ℕ) (h : i ≤ k) (n : (j : ℕ) → i ≤ j → j < k → get_or m j 0 ≡ 2 → ⊥) where
  before_past : gap_before m i ≡ gap_before m k
  before_past = steady (gap_before m) i k h (λ j a b. sym (before_more m (j + 1) j (add-one j) (n j a b)))

  after_past : k ≤ length m → first_gap (drop i m) i ≡ first_gap (drop k m) k
  after_past l = steady (λ j. first_gap (drop j m) j) i k h (λ j a b. after_more m j (omega arith) (n j a b))

-- eight marks that are short or long
module _ (m : List ℕ) (i : ℕ) (s : eight_sure i m ≡ true) where
  no_gap : (j : ℕ) → i ≤ j → j < i + 8 → get_or m j 0 ≡ 2 → ⊥
  no_gap j a b e = omega (arith, (eight_small i m s).1 j a b)

  pub before_eight : (k : ℕ) → k ≡ i + 8 → gap_before m i ≡ gap_before m k
  before_eight k e = rw e (before_past m i (i + 8) (omega arith) no_gap)

  pub after_eight : first_gap (drop i m) i ≡ first_gap (drop (i + 8) m) (i + 8)
  after_eight = after_past m i (i + 8) (omega arith) no_gap (eight_small i m s).0

-- ---- a mark v at place p
pub before_set : (m : List ℕ) (p v i : ℕ) → i ≤ p → gap_before (set m p v) i ≡ gap_before m i
unfolding gap_before
before_set m p v zero h = refl
before_set m p v (suc i) h = rw (get_or-set_other m p i v 0 (λ e. omega arith), before_set m p v i (omega arith))

-- past a gap g after p, the nearest earlier gap is the same with and without the mark, and is not before g
pub before_later : (m : List ℕ) (p v g : ℕ) → p < g → get_or m g 0 ≡ 2 → (i : ℕ) → g < i
    → (k : ℕ) × (g ≤ k) × (gap_before (set m p v) i ≡ some k) × (gap_before m i ≡ some k)
before_later m p v g pg e zero h = absurd (not-suc-le-zero h)
before_later m p v g pg e (suc i) h =
    let same : get_or (set m p v) i 0 ≡ get_or m i 0 = get_or-set_other m p i v 0 (λ z. omega arith) in
    elim (ℕ_discrete (get_or m i 0) 2) [
      | yes q ↦ (i, omega arith, before_gap _ _ _ refl (same ∙ q), before_gap _ _ _ refl q)
      | no q ↦ let ne : i ≡ g → ⊥ = λ z. q (ap (λ (k : ℕ). get_or m k 0) z ∙ e) in
          let r = before_later m p v g pg e i (omega arith) in
          (r.0, r.1, before_more _ _ _ refl (λ z. q (sym same ∙ z)) ∙ r.2, before_more _ _ _ refl q ∙ r.3)
    ]

pub after_set : (m : List ℕ) (p v : ℕ) → gap_after (set m p v) p ≡ gap_after m p
unfolding gap_after
after_set m p v = rw (drop-set-lt (suc p) m p v (omega arith))

-- ---- the first gap
first_found : (m : List ℕ) (j k : ℕ) → get_or m k 0 ≡ 2 → (g : ℕ) × (first_gap m j ≡ some (j + g)) × (g ≤ k)
unfolding first_gap
first_found [] j k e = let z : ⊥ = omega (arith, e) in absurd z
first_found (x ∷ m) j zero e = (0, simp (eq-eqb _ _ e, add-zero), zero-le)
first_found (x ∷ m) j (suc k) e =
    elim (ℕ_discrete x 2) [
      | yes q ↦ (0, simp (eq-eqb _ _ q, add-zero), zero-le)
      | no q ↦ let r = first_found m (suc j) k e in
          (suc r.0, simp (ne_eqb _ _ q) (r.1 ∙ ap some (omega arith)), suc-le-suc r.2)
    ]

first_in : (m : List ℕ) (j g : ℕ) → first_gap m j ≡ some g
    → (k : ℕ) × (g ≡ j + k) × (k < length m) × (get_or m k 0 ≡ 2)
unfolding first_gap
first_in [] j g e = absurd (none_some _ g refl e)
first_in (x ∷ m) j g e =
    elim (ℕ_discrete x 2) [
      | yes q ↦ let f : some j ≡ some g = simp (eq-eqb _ _ q) at e in
          let z : j ≡ g = cc in (0, omega arith, omega arith, q)
      | no q ↦ let r = first_in m (suc j) g (simp (ne_eqb _ _ q) at e) in
          (suc r.0, omega (arith, r.1), omega (arith, r.2), r.3)
    ]

-- what is found is a gap of the recording after the place, and none comes before it
pub after_in : (m : List ℕ) (p g : ℕ) → gap_after m p ≡ some g → (p < g) × (g < length m) × (get_or m g 0 ≡ 2)
unfolding gap_after
after_in m p g e =
    let r = first_in (drop (suc p) m) (suc p) g e in
    (omega (arith, r.1), omega (arith, r.1, r.2, length-drop (suc p) m), rw (r.1, ← get_or-drop) r.3)

pub after_first : (m : List ℕ) (p i : ℕ) → p < i → get_or m i 0 ≡ 2 → (g : ℕ) × (gap_after m p ≡ some g) × (g ≤ i)
unfolding gap_after
after_first m p i h q =
    let w : suc p + (i - suc p) ≡ i = omega arith in
    let r = first_found (drop (suc p) m) (suc p) (i - suc p) (get_or-drop (suc p) m (i - suc p) 0 ∙ rw w q) in
    (suc p + r.0, r.1, omega (arith, r.2))

-- ---- the search finds exactly the first gap
pub after_is_first : (m : List ℕ) (p g : ℕ) → gap_after m p ≡ some g → FirstGapAfter m p g
after_is_first m p g e =
    record {
      later = (after_in m p g e).0;
      mark = (after_in m p g e).2;
      nearest = λ i a b q.
          let r = after_first m p i a q in
          let z : r.0 ≡ g = some_one _ _ _ r.1 e in omega (arith, r.2);
    }

pub first_is_after : (m : List ℕ) (p g : ℕ) → FirstGapAfter m p g → gap_after m p ≡ some g
first_is_after m p g f =
    let r = after_first m p g f.later f.mark in
    let d = after_in m p r.0 r.1 in
    elim (ℕ_discrete r.0 g) [
      | yes e ↦ r.1 ∙ ap some e
      | no q ↦ absurd (f.nearest r.0 d.0 (omega (arith, r.2)) d.2)
    ]

-- no gap lies between a place and the first gap after it
pub before_first : (m : List ℕ) (p g : ℕ) → gap_after m p ≡ some g → gap_before m (p + 1) ≡ gap_before m g
before_first m p g e =
    let f = after_is_first m p g e in
    before_past m (p + 1) g (omega (arith, f.later)) (λ j a b. f.nearest j (omega arith) b)

-- the marks before and after a correction have the same first gap after its place
pub first_set : (m : List ℕ) (p v g : ℕ) → FirstGapAfter m p g ↔ FirstGapAfter (set m p v) p g
first_set m p v g = (
  λ f. after_is_first (set m p v) p g (after_set m p v ∙ first_is_after m p g f),
  λ f. after_is_first m p g (sym (after_set m p v) ∙ first_is_after (set m p v) p g f),
)

-- ---- what a search through some of the marks has found
module _ (m : List ℕ) where
  pub last_before : (end : ℕ) (r : Prelude.Option ℕ) → end ≤ length m
      → MatchOption r
      ((k : ℕ) → k < length (take end m) → get_or (take end m) k 0 ≡ 2 → ⊥)
      (λ i. (i < length (take end m)) × (get_or (take end m) i 0 ≡ 2)
      × ((k : ℕ) → i < k → k < length (take end m) → get_or (take end m) k 0 ≡ 2 → ⊥))
      → gap_of r ≡ gap_before m end
  last_before end Prelude.None h n =
      let long = length-take-le end m h in
      sym (none_before m end (λ i l q. n i (omega arith) (get_or-take end m i 0 l ∙ q)))
  last_before end (Prelude.Some g) h f =
      let long = length-take-le end m h in
      let l : g < end = omega (arith, f.0) in
      sym (nearest_is_before m end g (record {
        earlier = l;
        mark = sym (get_or-take end m g 0 l) ∙ f.1;
        nearest = λ i a b q. f.2 i a (omega arith) (get_or-take end m i 0 b ∙ q);
      }))

  no_gap_in : (j : ℕ) → ((k : ℕ) → k < length m → get_or m k 0 ≡ 2 → ⊥) → first_gap m j ≡ none
  no_gap_in j n = go (first_gap m j) refl
    where
      go : (x : Option ℕ) → first_gap m j ≡ x → x ≡ none
      go none e = refl
      go (some g) e = let r = first_in m j g e in absurd (n r.0 r.2 r.3)

  gap_in : (j i : ℕ) → get_or m i 0 ≡ 2 → ((k : ℕ) → k < i → get_or m k 0 ≡ 2 → ⊥)
      → first_gap m j ≡ some (j + i)
  gap_in j i q n =
      let r = first_found m j i q in
      let s = first_in m j (j + r.0) r.1 in
      elim (ℕ_discrete r.0 i) [
        | yes e ↦ r.1 ∙ ap (λ (k : ℕ). some (j + k)) e
        | no e ↦ absurd (n s.0 (omega (arith, r.2, s.1)) s.3)
      ]

-- the marks from a place on, as the code cuts them out, after marks that are no gaps
module _ (m : List ℕ) (p start : ℕ) (same : first_gap (drop start m) start ≡ first_gap (drop (p + 1) m) (p + 1)) where
  abbrev rest : List ℕ
  rest = take (length m - start) (drop start m)

  rest_all : rest ≡ drop start m
  rest_all = take_all (length m - start) (drop start m) (omega (arith, length-drop start m))

  pub none_after : ((k : ℕ) → k < length rest → get_or rest k 0 ≡ 2 → ⊥) → none ≡ gap_after m p
  none_after n = sym (no_gap_in (drop start m) start (rw rest_all at n)) ∙ same ∙ after_start m p

  pub some_after : (i : ℕ) → get_or rest i 0 ≡ 2 → ((k : ℕ) → k < i → get_or rest k 0 ≡ 2 → ⊥)
      → some (start + i) ≡ gap_after m p
  some_after i q n =
      sym (gap_in (drop start m) start i (rw rest_all at q) (rw rest_all at n)) ∙ same ∙ after_start m p
