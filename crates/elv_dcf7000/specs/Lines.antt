-- The table of refusals for the ELV string, in words.
use Rattle.std.specs.Prelude.{ℕ, ◌<◌, List, []}
use Rattle.clock_time.specs.Order.{Line}
use Rattle.layout.specs.Lines.{OwnFaults, text_lines}
use Rattle.layout.specs.Says.{two_digits_at}
use Rattle.elv_dcf7000.specs.Says.{elv_picture, SaysElv}

-- "FF is 00..07, else 4" (01, Meinberg and ELV strings)
abbrev pub elv_faults : OwnFaults
elv_faults =
    record {
      Flags = λ s. 7 < two_digits_at s 18;
      lines = λ s. [];
      Time = λ s. ⊥;
    }

-- "Order for text: 1, 2, 3, 4, 8, 9, 5, 6, 7." (01, Refusal numbers): 8 and 9 are never given, since it has neither the
-- digits of an offset nor a position; nor is 7, since "No weekday is sent" (01, Meinberg and ELV strings)
abbrev pub elv_lines : List ℕ → List Line
elv_lines = text_lines elv_picture elv_faults SaysElv (λ t. t)
