-- The table of refusals for the Trimble string, in words.
use Rattle.std.specs.Prelude.{ℕ, ◌⊎◌, List, [], ◌∷◌, length, ◌≢◌}
use Rattle.clock_time.specs.Order.{Line, line}
use Rattle.gregorian.specs.Rules.{GregorianDate}
use Rattle.calendar.specs.Rules.{TimeOfDay}
use Rattle.layout.specs.Picture.{Misplaced}
use Rattle.layout.specs.Says.{Stands}
use Rattle.trimble_sv6.specs.Says.{trimble_picture, SumRules, YearRules, SaysTrimble}
use Rattle.trimble_sv6.specs.declared.TrimbleTime.{TrimbleTime}

-- "Order for text: 1, 2, 3, 4, 8, 9, 5, 6, 7." (01, Refusal numbers); "Refusals: 24, the sum is wrong or no hex, after
-- 3; 25, v is not `1`, after 24." (02, T-01). None of its places is a flag's of line 4, it sends no offset and no
-- position, and "weekday is worked out" (02, T-01), so that there are no lines 4, 8, 9 and 7.
abbrev pub trimble_order : List ℕ
trimble_order = 1 ∷ 2 ∷ 3 ∷ 24 ∷ 25 ∷ 5 ∷ 6 ∷ []

-- the lines of a Trimble string, in this order
abbrev pub trimble_lines : List ℕ → List Line
trimble_lines s =
    -- "string length wrong for its kind"
    line 1 (length s ≢ length trimble_picture)
    -- "a fixed byte differs" (01, Refusal numbers); "rrrrr is any bytes from 32 to 126 (others give 2)" (02, T-01)
    ∷ line 2 (Misplaced 2 trimble_picture s)
    -- "no digit in a digit place"
    ∷ line 3 (Misplaced 3 trimble_picture s)
    -- "the sum is wrong or no hex" (02, T-01)
    ∷ line 24 (SumRules s → ⊥)
    -- "v is not `1`" (02, T-01)
    ∷ line 25 (Stands s 26 "1" → ⊥)
    -- "years 1970 to 2069, else 5" (02, T-01); "no such date"
    ∷ line 5
    ((YearRules s → ⊥)
    ⊎ ((g : TrimbleTime)
    × (SaysTrimble s g × (let t = g.time in GregorianDate t.year t.month t.day → ⊥))))
    -- "no such time of day, second 60 rule included"
    ∷ line 6
    ((g : TrimbleTime)
    × (SaysTrimble s g × (let t = g.time in TimeOfDay t.hour t.minute t.second t.utc_offset → ⊥)))
    ∷ []
