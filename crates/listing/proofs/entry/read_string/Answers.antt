use mathlib.Core.Path.{◌≡◌}
use Rattle.std.proofs.Common.{rules, refl, Err}
use Rattle.listing.specs.Items.{read_string}
use Rattle.listing.proofs.entry.read_string.Goals as goal

pub returns-in_err-kind : goal.returns-in_err-kind
unfolding read_string
returns-in_err-kind c =
    let refused : c.from_residual.result ≡ Err c.in_err-kind.field-0.0 = search rules in
    let kind = rw c.in_err-kind.was at c.kind_of.ensures in
    rw (refused, ← kind) refl

pub returns-in_err-reading : goal.returns-in_err-reading
unfolding read_string
returns-in_err-reading c =
    let refused : c.from_residual-in_err-reading.result ≡ Err c.in_err-reading.field-0.0 = search rules in
    let kind = rw c.in_ok-kind.was at c.kind_of.ensures in
    let reading = rw c.in_err-reading.was at c.read.ensures in
    rw (refused, ← kind, ← reading) refl

pub returns : goal.returns
unfolding read_string
returns c =
    let kind = rw c.in_ok-kind.was at c.kind_of.ensures in
    let reading = rw c.in_ok-reading.was at c.read.ensures in
    rw (c.time.ensures, ← kind, ← reading) refl
