-- The table of refusals for the PZF string, in words.
use Rattle.std.specs.Prelude.{ℕ, List}
use Rattle.clock_time.specs.Order.{Line}
use Rattle.layout.specs.Lines.{no_faults, text_lines}
use Rattle.meinberg_pzf.specs.Says.{pzf_picture, SaysPzf}

-- "Order for text: 1, 2, 3, 4, 8, 9, 5, 6, 7." (01, Refusal numbers): 8 and 9 are never given, since it has neither the
-- digits of an offset nor a position
abbrev pub pzf_lines : List ℕ → List Line
pzf_lines = text_lines pzf_picture no_faults SaysPzf (λ t. t)
