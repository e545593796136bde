-- The table of refusals for a minute, in words and with no function of its reader in them.
use Rattle.std.specs.Prelude.{ℕ, ◌≤◌, ◌<◌, ◌≡◌, ◌⊎◌, List, [], ◌∷◌, length, get_or}
use Rattle.clock_time.specs.Order.{Line, line}
use Rattle.clock_time.specs.declared.ClockTime.{ClockTime}
use Rattle.gregorian.specs.Rules.{GregorianDate}
use Rattle.calendar.specs.Rules.{TimeOfDay}
use Rattle.dcf77.specs.Says.{Short, Long, four_marks, Even, Announces}

-- "For a minute: 11, 12, 13, 14, 15, 16, 17, 18, 7, 5, 6, 19" (01, Refusal numbers)
unfoldable pub minute_lines : List ℕ → List Line
minute_lines m =
    -- "run is not 59 or 60 marks"
    line 11 ((length m ≡ 59) ⊎ (length m ≡ 60) → ⊥)
    -- "a mark in the run that is neither short nor long"
    ∷ line 12 ((i : ℕ) × (i < length m) × (Short m i → ⊥) × (Long m i → ⊥))
    -- "mark 0 is not short, or mark 20 is not long"
    ∷ line 13 ((Short m 0 → ⊥) ⊎ (Long m 20 → ⊥))
    -- "marks 17 and 18 equal"
    ∷ line 14 (get_or m 17 0 ≡ get_or m 18 0)
    -- "minute, hour, date parity" (01, Refusal numbers); "Parity is even over 21..28, 29..35 and 36..58." (01, DCF77
    -- marks)
    ∷ line 15 (Even 21 28 m → ⊥)
    ∷ line 16 (Even 29 35 m → ⊥)
    ∷ line 17 (Even 36 58 m → ⊥)
    -- "a decimal digit above 9" (01, Refusal numbers); "minute 21..24 [..]; hour 29..32, [..]; day 36..39, [..]; month
    -- 45..48, [..]; year 50..53, tens 54..57" (01, DCF77 marks)
    ∷ line 18
    ((9 < four_marks m 21) ⊎ (9 < four_marks m 29) ⊎ (9 < four_marks m 36) ⊎ (9 < four_marks m 45) ⊎ (9 < four_marks m 50)
    ⊎ (9 < four_marks m 54))
    -- "weekday outside 1..7"
    ∷ line 7 ((t : ClockTime) × (Announces m t × ((1 ≤ t.weekday) × (t.weekday ≤ 7) → ⊥)))
    -- "no such date"
    ∷ line 5 ((t : ClockTime) × (Announces m t × (GregorianDate t.year t.month t.day → ⊥)))
    -- "no such time of day, second 60 rule included"
    ∷ line 6 ((t : ClockTime) × (Announces m t × (TimeOfDay t.hour t.minute t.second t.utc_offset → ⊥)))
    -- "60 marks without all of: mark 19 long, mark 59 short, minute 0 announced"
    ∷ line 19
    ((length m ≡ 60)
    × ((t : ClockTime) × (Announces m t × (Long m 19 × Short m 59 × (t.minute ≡ 0) → ⊥))))
    ∷ []
