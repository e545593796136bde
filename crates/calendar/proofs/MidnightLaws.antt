-- Second 60 is the last before midnight in UTC, so its instant is a multiple of 86,400.
use Prim.Native.Nat.{ℕ, zero, suc, ◌+◌, ◌*◌}
use native.Mathlib.Nat.{mul_assoc, mul-zero}
use native.Mathlib.Omega.{arith}
use mathlib.Core.Path.{◌≡◌, refl, sym, ap, ap₂, ◌∙◌}
use mathlib.Core.Bool.{true}
use lib.IntN.{ℤ, pos, negsuc, neg_ℤ, ◌+ℤ◌, ◌-ℤ◌, ◌*ℤ◌, zero-*ℤ, suc_ℤ-*ℤ, +ℤ_assoc, +ℤ_comm, +ℤ-neg_ℤ_cancel, -ℤ-+ℤ_cancel}
use Rattle.clock_time.specs.declared.ClockTime.{ClockTime}
use Rattle.calendar.specs.Date.{days_since_epoch}
use Rattle.calendar.specs.UnixTime.{is_reading, instant_of}
use Rattle.calendar.proofs.RulesLaws.{time_exactly}
use Rattle.calendar.proofs.ValidLaws.{valid}

-- ---- a number of times
pairs : (a b c d : ℤ) → (a +ℤ b) +ℤ (c +ℤ d) ≡ (a +ℤ c) +ℤ (b +ℤ d)
pairs a b c d =
    +ℤ_assoc a b (c +ℤ d)
    ∙ ap (λ (x : ℤ). a +ℤ x) (sym (+ℤ_assoc b c d) ∙ ap (λ (x : ℤ). x +ℤ d) (+ℤ_comm b c) ∙ +ℤ_assoc c b d)
    ∙ sym (+ℤ_assoc a c (b +ℤ d))

times_sum : (k : ℕ) (a b : ℤ) → pos k *ℤ (a +ℤ b) ≡ pos k *ℤ a +ℤ pos k *ℤ b
times_sum zero a b =
    zero-*ℤ (a +ℤ b) ∙ sym (ap₂ (λ (x y : ℤ). x +ℤ y) (zero-*ℤ a) (zero-*ℤ b))
times_sum (suc k) a b =
    suc_ℤ-*ℤ (pos k) (a +ℤ b) ∙ ap (λ (x : ℤ). x +ℤ (a +ℤ b)) (times_sum k a b)
    ∙ pairs (pos k *ℤ a) (pos k *ℤ b) a b
    ∙ sym (ap₂ (λ (x y : ℤ). x +ℤ y) (suc_ℤ-*ℤ (pos k) a) (suc_ℤ-*ℤ (pos k) b))

times_minus : (m n : ℕ) → pos m *ℤ neg_ℤ (pos n) ≡ neg_ℤ (pos (m * n))
times_minus m zero = rw (mul-zero m)
times_minus m (suc n) = refl

times_times : (m n : ℕ) (z : ℤ) → pos m *ℤ (pos n *ℤ z) ≡ pos (m * n) *ℤ z
times_times m n (pos k) = ap pos (sym (mul_assoc m n k))
times_times m n (negsuc k) = times_minus m (n * suc k) ∙ ap (λ (x : ℕ). neg_ℤ (pos x)) (sym (mul_assoc m n (suc k)))

-- ---- the instant
sixty_minutes : (minutes : ℕ) (offset : ℤ)
    → pos (60 * minutes) ≡ pos 60 *ℤ (pos minutes -ℤ offset) +ℤ pos 60 *ℤ offset
sixty_minutes minutes offset =
    sym (ap (λ (x : ℤ). pos 60 *ℤ x) (-ℤ-+ℤ_cancel (pos minutes) offset))
    ∙ times_sum 60 (pos minutes -ℤ offset) offset

-- 1,439 minutes above a multiple of 1,440 are 60 seconds below one of 86,400
sixty_last : (d : ℤ) → pos 60 *ℤ (pos 1440 *ℤ d +ℤ pos 1439) ≡ pos 86340 +ℤ pos 86400 *ℤ d
sixty_last d =
    times_sum 60 (pos 1440 *ℤ d) (pos 1439)
    ∙ ap (λ (x : ℤ). x +ℤ pos 86340) (times_times 60 1440 d)
    ∙ +ℤ_comm (pos 86400 *ℤ d) (pos 86340)

midnight : (days hour minute second : ℕ) (offset d : ℤ)
    → pos (60 * hour + minute) -ℤ offset ≡ pos 1440 *ℤ d +ℤ pos 1439 → second ≡ 60
    → pos (86400 * days + (3600 * hour + 60 * minute + second)) -ℤ pos 60 *ℤ offset
    ≡ pos 86400 *ℤ (pos (days + 1) +ℤ d)
midnight days hour minute second offset d e sixty =
    let whole = pos (86400 * days + 60) in
    let z = pos (60 * hour + minute) -ℤ offset in
    let o = pos 60 *ℤ offset in
    ap (λ (n : ℕ). pos n -ℤ o) split
    ∙ ap (λ (x : ℤ). (whole +ℤ x) -ℤ o) (sixty_minutes (60 * hour + minute) offset)
    ∙ ap (λ (x : ℤ). x -ℤ o) (sym (+ℤ_assoc whole (pos 60 *ℤ z) o))
    ∙ +ℤ-neg_ℤ_cancel (whole +ℤ pos 60 *ℤ z) o
    ∙ ap (λ (x : ℤ). whole +ℤ x) (ap (λ (x : ℤ). pos 60 *ℤ x) e ∙ sixty_last d)
    ∙ sym (+ℤ_assoc whole (pos 86340) (pos 86400 *ℤ d))
    ∙ ap (λ (n : ℕ). pos n +ℤ pos 86400 *ℤ d) next
    ∙ sym (times_sum 86400 (pos (days + 1)) d)
  where
    split : 86400 * days + (3600 * hour + 60 * minute + second) ≡ 86400 * days + 60 + 60 * (60 * hour + minute)
    split = omega (arith, sixty)

    next : 86400 * days + 60 + 86340 ≡ 86400 * (days + 1)
    next = omega arith

pub second_60_midnight : (t : ClockTime) → is_reading t ≡ true → t.second ≡ 60
    → (days : ℤ) × (instant_of t ≡ pos 86400 *ℤ days)
unfolding instant_of
second_60_midnight t h sixty =
    let time = (time_exactly t.hour t.minute t.second t.utc_offset).0 (valid t h).time in
    let before = time.leap_second sixty in
    let days = days_since_epoch t.year t.month t.day in (
      pos (days + 1) +ℤ before.0,
      midnight days t.hour t.minute _ t.utc_offset before.0 before.1 sixty,
    )
