-- The table of refusals for the GPS string, in words.
use Rattle.std.specs.Prelude.{ℕ, List, [], ◌∷◌}
use Rattle.clock_time.specs.Order.{Line, line}
use Rattle.layout.specs.Lines.{OwnFaults, text_lines}
use Rattle.meinberg_gps_position.specs.Rules.{PositionRules}
use Rattle.meinberg_gps.specs.Says.{gps_picture, SaysGps, OffsetRules, LeapLetter}

-- 8: "offset sign or size"; 9: "position" (01, Refusal numbers); "b must be `L` exactly if the second is 60 (wrong
-- letter 4, mismatch 6)."; "All faults in 41..63 but the fixed bytes at 43, 49, 53 and 59 are 9." (01, Meinberg and ELV
-- strings)
abbrev pub gps_faults : OwnFaults
gps_faults =
    record {
      Flags = λ s. ⊥;
      lines = λ s. line 8 (OffsetRules s → ⊥) ∷ line 9 (PositionRules s → ⊥) ∷ [];
      Time = λ s. LeapLetter s → ⊥;
    }

-- "Order for text: 1, 2, 3, 4, 8, 9, 5, 6, 7." (01, Refusal numbers)
abbrev pub gps_lines : List ℕ → List Line
gps_lines = text_lines gps_picture gps_faults SaysGps (λ g. g.time)
