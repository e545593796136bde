-- Laws of how far the listing has come.
use Prim.Native.Nat.{ℕ, ◌+◌, ◌-◌, ◌≤◌}
use native.Mathlib.Omega.{arith}
use mathlib.Core.Path.{◌≡◌, refl, sym, ap, ◌∙◌}
use mathlib.Core.Bool.{true, true≢false}
use mathlib.Core.List.{List, ◌++◌}
use lib.ListN.{length, take, drop, length-append, length-drop}
use lib.Seq.{take_all, take-add, take-append_seam, drop-drop}
use Rattle.clock_time.specs.Writing.{Written, written, writing}
use Rattle.clock_time.proofs.WritingLaws.{writing_accepted}
use Rattle.std.specs.Prelude.{Result, Ok, Err, IsOk, IsErr, IfOk}
use Rattle.std.specs.declared.io.Error.{Error}
use Rattle.framing.proofs.FeedLaws.{rest as left_of}
use Rattle.listing.specs.Listing.{after, listed_into, list_of}
use Rattle.listing.specs.declared.Listing.{Listing}
use Rattle.listing.specs.declared.Listed.{Listed}
use Rattle.listing.proofs.CallsLaws.{listed_within, listed_some, listed_state}
use Rattle.listing.proofs.ListingLaws.{after_append}
use Rattle.list_times.specs.Progress.{Takes, ListsAll, Reaches}

-- what was written stands at the front
pub written_fits : (n : ℕ) (x text d : List ℕ) → written (Ok n) x ≡ writing true text d → n ≤ length x
written_fits n x text d e =
    let w = writing_accepted text d true n (sym (ap (λ (o : Written). o.answer) e)) in
    let m : x ≡ text ++ drop (length text) d = ap (λ (o : Written). o.memory) e ∙ w.2 in
    rw (w.1, m) (omega (arith, length-append text (drop (length text) d)))

pub written_text : (n : ℕ) (x text d : List ℕ) → written (Ok n) x ≡ writing true text d → take n x ≡ text
written_text n x text d e =
    let w = writing_accepted text d true n (sym (ap (λ (o : Written). o.answer) e)) in
    let m : x ≡ text ++ drop (length text) d = ap (λ (o : Written). o.memory) e ∙ w.2 in
    rw (w.1, m) (take-append_seam text _)

is_err_not_ok : {A E : Type 0} (q : Result A E) → IsErr q → IsOk q → ⊥
is_err_not_ok (Ok x) e o = true≢false (sym e)
is_err_not_ok (Err x) e o = true≢false (sym o)

-- a call of `list` takes some bytes
pub takes : (l : Listing) (s buffer out : List ℕ) (k : Listed) → listed_into k out ≡ list_of l s buffer
    → 35 ≤ length buffer → (r : Result ℕ Error) → IfOk r (λ n. n ≡ k.taken) → Takes l s k.listing r
takes l s buffer out k e room r told =
    record {
      taken = k.taken;
      within = listed_within l s buffer out k e;
      some = listed_some l s buffer out k e room;
      state = listed_state l s buffer out k e;
      told = told;
    }

-- bytes of s are passed: `rest` is what is left, and g is the listing after them
pub record Passed (l : Listing) (s : List ℕ) (g : Listing) (rest : List ℕ) : Type 0 where
  pub passed : ℕ
  pub left : rest ≡ drop passed s
  pub state : g ≡ after l (take passed s)

pub passed_none : (l : Listing) (s : List ℕ) → Passed l s l s
unfolding after
passed_none l s = record { passed = 0; left = refl; state = refl }

-- of what is left some bytes are taken
module _ (l g end : Listing) (s rest : List ℕ) (r : Result ℕ Error)
    (p : Passed l s g rest) (w : Takes g rest end r) where
  passed_state : end ≡ after l (take (p.passed + w.taken) s)
  passed_state =
      w.state
      ∙ ap (λ (x : Listing). after x (take w.taken rest)) p.state
      ∙ ap (λ (x : List ℕ). after (after l (take p.passed s)) (take w.taken x)) p.left
      ∙ sym (after_append l (take p.passed s) (take w.taken (drop p.passed s)))
      ∙ ap (after l) (sym (take-add p.passed w.taken s))

  -- n of them, and `&rest[n..]` is what is left then
  pub passed_more : (n : ℕ) → n ≡ w.taken → Passed l s end (take (length rest - n) (drop n rest))
  passed_more n told =
      record {
        passed = p.passed + n;
        left = left_of rest n ∙ rw p.left (drop-drop n p.passed s);
        state = rw told passed_state;
      }

  pub passed_part : (q : Result (Unit {0}) Error) → IsErr q → ListsAll l s end q
  passed_part q failed =
      record {
        whole = λ o. absurd (is_err_not_ok q failed o);
        part = (p.passed + w.taken, passed_state);
      }

-- the bytes passed are all of s if none is left
pub passed_all : (l g : Listing) (s rest : List ℕ) (q : Result (Unit {0}) Error) → Passed l s g rest
    → length rest ≡ 0 → ListsAll l s g q
passed_all l g s rest q p none =
    let size : length (drop p.passed s) ≡ 0 = rw (← p.left) none in
    record {
      whole = λ o. p.state ∙ ap (after l) (take_all p.passed s (omega (arith, size, length-drop p.passed s)));
      part = (p.passed, p.state);
    }

-- a part of s comes after the bytes before
pub reaches_more : (l g end : Listing) (s : List ℕ) (r : Result (Unit {0}) Error) → Reaches l g → ListsAll g s end r
    → Reaches l end
reaches_more l g end s r before lists =
    let t = take lists.part.0 s in (
      before.0 ++ t,
      lists.part.1 ∙ ap (λ (x : Listing). after x t) before.1 ∙ sym (after_append l before.0 t),
    )
