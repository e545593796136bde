use Rattle.std.proofs.Common.{rules, tests, ◌∙◌, nat_eq}
use Rattle.std.proofs.lemmas.Iterator.{YieldsList-from_slice, YieldsList-from_zip}
use Rattle.std.proofs.lemmas.Iterator.Search.{any_from_yields_List}
use Rattle.clock_time.specs.Errors.{error_number}
use Rattle.layout.specs.Layout.{pattern_place, offence}
use Rattle.layout.proofs.PlacesLaws.{some_found}
use Rattle.layout.proofs.is_found.Goals as goal

pub returns : goal.returns
returns c =
    let k = error_number c.args.error in
    let l = c.args.pattern.now in
    let s = c.args.s.now in
    any_from_yields_List (λ e. nat_eq (offence (pattern_place e.0) e.1) k) c.any.new.self _ _ c.any.ensures.ran
    (YieldsList-from_zip (YieldsList-from_slice l cc) (YieldsList-from_slice s cc))
    (λ x b q h. search (rules, tests))
    ∙ some_found k l s c.requires
