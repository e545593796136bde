-- The line of the totals.
use Rattle.std.specs.Prelude.{ℕ, true, List, ◌++◌}
use Rattle.clock_time.specs.Writing.{Written, writing}
use Rattle.clock_time.specs.Lists.{ascii}
use Rattle.listing_lines.specs.Numeral.{numeral}
use Rattle.listing_lines.specs.declared.Totals.{Totals}

-- "frames 2 refused 1 dropped 0", "each line ended by LF" (01, Examples (P: proved))
unfoldable pub totals_line : Totals → List ℕ
totals_line t =
    ascii "frames " ++ numeral t.frames
    ++ ascii " refused " ++ numeral t.refused
    ++ ascii " dropped " ++ numeral t.dropped ++ ascii "\n"

-- 20: "[..] a buffer too short to write to" (01, Refusal numbers)
unfoldable pub write_totals : Totals → List ℕ → Written
write_totals t buffer = writing true (totals_line t) buffer
