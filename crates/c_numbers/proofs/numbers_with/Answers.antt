use borrow.Author.Rules.{rules, sfits_of}
use lib.IntN.{pos}
use lib.ListN.{length, get_or}
use mathlib.Core.Path.{◌≡◌, ◌∙◌}
use mir.Syntax.{w16, w32}
use mir.Val.{SFits}
use mir.Facts.{to_z-of_z}
use Rattle.c_numbers.specs.Numbers.{time_numbers}
use Rattle.c_numbers.proofs.NumberLaws.{held, flag_byte, three}
use Rattle.c_numbers.proofs.numbers_with.Goals as goal

pub returns : goal.returns
unfolding time_numbers
returns c =
    let t = c.args.t in
    let offset : SFits w16 t.utc_offset = search sfits_of in
    let first : SFits w32 (get_or c.args.more 0 (pos 0)) = search sfits_of in
    let second : SFits w32 (get_or c.args.more 1 (pos 0)) = search sfits_of in
    let third : SFits w32 (get_or c.args.more 2 (pos 0)) = search sfits_of in
    let long : length c.args.more ≡ 3 = search rules in
    rw (
      held w32 c.from.type_inv c.from.ensures,
      held w32 c.from-2.type_inv c.from-2.ensures,
      held w32 c.from-3.type_inv c.from-3.ensures,
      held w32 c.from-4.type_inv c.from-4.ensures,
      held w32 c.from-5.type_inv c.from-5.ensures,
      held w32 c.from-6.type_inv c.from-6.ensures,
      held w32 c.from-7.type_inv c.from-7.ensures,
      held w32 c.from-8.type_inv c.from-8.ensures,
      to_z-of_z offset,
      held w32 c.from-9.type_inv (c.from-9.ensures ∙ flag_byte t.unsynchronised),
      held w32 c.from-10.type_inv (c.from-10.ensures ∙ flag_byte t.unverified),
      held w32 c.from-11.type_inv (c.from-11.ensures ∙ flag_byte t.summer_time),
      held w32 c.from-12.type_inv (c.from-12.ensures ∙ flag_byte t.dst_change_announced),
      held w32 c.from-13.type_inv (c.from-13.ensures ∙ flag_byte t.leap_second_announced),
      held w32 c.from-14.type_inv (c.from-14.ensures ∙ flag_byte t.alternate_antenna),
      to_z-of_z first,
      to_z-of_z second,
      to_z-of_z third,
      three c.args.more long,
    )
