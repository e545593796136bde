-- The table of refusals for the standard string, in words.
use Rattle.std.specs.Prelude.{ℕ, List}
use Rattle.clock_time.specs.Order.{Line}
use Rattle.layout.specs.Lines.{no_faults, text_lines}
use Rattle.meinberg_standard.specs.Says.{standard_picture, SaysStandard}

-- "Order for text: 1, 2, 3, 4, 8, 9, 5, 6, 7." (01, Refusal numbers): 8 and 9 are never given, since it has neither the
-- digits of an offset nor a position
abbrev pub standard_lines : List ℕ → List Line
standard_lines = text_lines standard_picture no_faults SaysStandard (λ t. t)
