-- The instant that an accepted minute's number announces.
use Rattle.std.specs.Prelude.{ℕ, ◌-◌, ◌*◌, ◌/◌, ◌%◌, Bool, not, ◌&&◌, [], ◌∷◌, leb, eqb, ℤ, pos, ◌-ℤ◌, ◌*ℤ◌}
use Rattle.clock_time.specs.Zone.{cet_offset}
use Rattle.clock_time.specs.Errors.{Answer, given, checked}

-- "100 + 32 L + 16 (run of 60) + 8 (offset 120) + 4 antenna + 2 change + 1 leap, where L is local minutes from
-- 1970-01-01 00:00" (01, Tape and sheet): the numbers from 100 on whose L is one of the 52,596,000 minutes up to 2069
unfoldable pub in_hundred_years : ℕ → Bool
in_hundred_years n = leb 100 n && leb n 1683072099

-- and, not 19: "60 marks without all of: mark 19 long, mark 59 short, minute 0 announced" (01, Refusal numbers), with
-- the 16 of a run of 60 only those that have the 1 and a minute 0
unfoldable pub is_minute_number : ℕ → Bool
is_minute_number n =
    let sent = n - 100 in
    in_hundred_years n && not (eqb (sent / 16 % 2) 1 && not (eqb (sent % 2) 1 && eqb (sent / 32 % 60) 0))

-- "The instant is 86,400 × days since 1 January 1970 + 3,600 × hour + 60 × minute + second − 60 × offset." (01, The
-- reading): with second 0, which a minute announces, that is 60 L − 60 × offset
unfoldable pub outcome_instant : ℕ → ℤ
outcome_instant n = pos (60 * ((n - 100) / 32)) -ℤ pos 60 *ℤ cet_offset (eqb ((n - 100) / 8 % 2) 1)

-- 23: "reading that no accepted string or minute of this format gives" (01, Refusal numbers)
unfoldable pub outcome_unix_time : ℕ → Answer ℤ
outcome_unix_time n = checked (given 23 (not (is_minute_number n)) ∷ []) (outcome_instant n)
