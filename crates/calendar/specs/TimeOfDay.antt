-- The time of day, with second 60.
use Rattle.std.specs.Prelude.{ℕ, ◌+◌, ◌-◌, ◌*◌, ◌%◌, Bool, ◌&&◌, ◌||◌, ltb, eqb, ℤ, pos, negsuc, ◌-ℤ◌}

-- the remainder, never negative: −1 modulo 1,440 is 1,439
unfoldable pub modulo : ℤ → ℕ → ℕ
modulo (pos n) k = n % k
modulo (negsuc n) k = k - 1 - n % k

-- "(60 × hour + minute − offset) modulo 1,440" (01, The reading)
unfoldable pub utc_minute : ℕ → ℕ → ℤ → ℕ
utc_minute hour minute offset = modulo (pos (60 * hour + minute) -ℤ offset) 1440

-- not 6: "no such time of day, second 60 rule included" (01, Refusal numbers);
-- "Second 60 is allowed only where (60 × hour + minute − offset) modulo 1,440 is 1,439." (01, The reading)
unfoldable pub time_exists : ℕ → ℕ → ℕ → ℤ → Bool
time_exists hour minute second offset =
    ltb hour 24 && ltb minute 60 && (ltb second 60 || eqb second 60 && eqb (utc_minute hour minute offset) 1439)
