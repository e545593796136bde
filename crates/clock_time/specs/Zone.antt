-- The offset of the zone of German clocks.
use Rattle.std.specs.Prelude.{Bool, cond, ℤ, pos}

-- "summer (offset 120, else 60)" (01, Meinberg and ELV strings): CEST with summer time, else CET
abbrev pub cet_offset : Bool → ℤ
cet_offset summer = cond summer (pos 120) (pos 60)
