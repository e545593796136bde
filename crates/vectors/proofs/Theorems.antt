-- The main results: what is read is written back byte for byte, what is written reads as what it was, and a number is
-- refused exactly if nothing that can be read stands for it.
use Rattle.std.proofs.Common.{◌≡◌, ℕ, ◌≤◌, ◌↔◌, List, ◌++◌, length, take, drop, sym, take_at}
use Rattle.clock_time.specs.Errors.{accepted, refused}
use Rattle.vectors.specs.DigitRun.{read_digits, write_digits}
use Rattle.decimal.proofs.DecimalLaws.{length_digits}
use Rattle.vectors.proofs.ReadLaws.{read_accepted, accepted_reads, digits_read}
use Rattle.vectors.proofs.WriteLaws.{reads_digits, read_writable, written}
use Rattle.vectors.proofs.WriteLaws.{write_unwritable, write_room, writable_not_23}

-- what is read as n is what n is written as
pub write_read : (s : List ℕ) (n : ℕ) → (read_digits s).answer ≡ accepted n → (d : List ℕ) → length s ≤ length d →
    write_digits n (length s) d ≡ record { answer = accepted (length s); memory = s ++ drop (length s) d }
write_read s n h d room =
    let r = accepted_reads s h in
    rw (digits_read r) at (sym (write_room n (length s) d (read_writable r) room))

-- what n is written as is read as n
pub read_write : (n k m : ℕ) (d : List ℕ) → (write_digits n k d).answer ≡ accepted m →
    (read_digits (take m (write_digits n k d).memory)).answer ≡ accepted n
read_write n k m d h =
    let w = written n k d m h in
    rw (w.1, w.2, take_at _ (drop k d) k (length_digits k n)) (read_accepted (reads_digits n k w.0))

-- 23 exactly if no k bytes are read as n
pub write_refused : (n k : ℕ) (d : List ℕ) →
    ((write_digits n k d).answer ≡ refused 23)
    ↔ ((s : List ℕ) → length s ≡ k → (read_digits s).answer ≡ accepted n → ⊥)
write_refused n k d = (
  λ e s l h. writable_not_23 n k d (rw l at (read_writable (accepted_reads s h))) e,
  λ none. rw (← write_unwritable n k d (λ w. none _ (length_digits k n) (read_accepted (reads_digits n k w)))),
)
