use Rattle.clock_time.proofs.Tests.{tests}
use Rattle.clock_time.specs.Lists.{ascii}
use Rattle.list_times.specs.Request.{read_argument, choose, names_none}
use Rattle.list_times.proofs.RequestLaws.{same}
use Rattle.list_times.proofs.request.read_argument.Goals as goal

pub returns-then-eq : goal.returns-then-eq
unfolding read_argument choose ascii
returns-then-eq c =
    let dash = same c.args.s.now c.as_slice.result.now _ c.as_slice.ensures c.eq.ensures c.if-eq.true in
    simp dash

pub returns-then-eq-2 : goal.returns-then-eq-2
unfolding read_argument choose ascii
returns-then-eq-2 c =
    let s = c.args.s.now in
    simp (
      same s c.as_slice.result.now _ c.as_slice.ensures c.eq.ensures c.if-eq.false,
      same s c.as_slice-else-eq.result.now _ c.as_slice-else-eq.ensures c.eq-else-eq.ensures c.if-eq-2.true,
    )

pub returns-then-eq-3 : goal.returns-then-eq-3
unfolding read_argument choose ascii
returns-then-eq-3 c =
    let s = c.args.s.now in
    simp (
      same s c.as_slice.result.now _ c.as_slice.ensures c.eq.ensures c.if-eq.false,
      same s c.as_slice-else-eq.result.now _ c.as_slice-else-eq.ensures c.eq-else-eq.ensures c.if-eq-2.false,
      same s c.as_slice-else-eq-2.result.now _ c.as_slice-else-eq-2.ensures c.eq-else-eq-2.ensures c.if-eq-3.true,
    )

pub returns-in-empty : goal.returns-in-empty
unfolding read_argument choose names_none ascii
returns-in-empty c =
    let s = c.args.s.now in
    search (
      tests,
      same s c.as_slice.result.now _ c.as_slice.ensures c.eq.ensures c.if-eq.false,
      same s c.as_slice-else-eq.result.now _ c.as_slice-else-eq.ensures c.eq-else-eq.ensures c.if-eq-2.false,
      same s c.as_slice-else-eq-2.result.now _ c.as_slice-else-eq-2.ensures c.eq-else-eq-2.ensures c.if-eq-3.false,
    )

pub returns-in-empty-2 : goal.returns-in-empty-2
unfolding read_argument choose names_none ascii
returns-in-empty-2 c =
    let s = c.args.s.now in
    search (
      tests,
      same s c.as_slice.result.now _ c.as_slice.ensures c.eq.ensures c.if-eq.false,
      same s c.as_slice-else-eq.result.now _ c.as_slice-else-eq.ensures c.eq-else-eq.ensures c.if-eq-2.false,
      same s c.as_slice-else-eq-2.result.now _ c.as_slice-else-eq-2.ensures c.eq-else-eq-2.ensures c.if-eq-3.false,
    )

pub returns-in_default : goal.returns-in_default
unfolding read_argument choose names_none ascii
returns-in_default c =
    let s = c.args.s.now in
    search (
      tests,
      same s c.as_slice.result.now _ c.as_slice.ensures c.eq.ensures c.if-eq.false,
      same s c.as_slice-else-eq.result.now _ c.as_slice-else-eq.ensures c.eq-else-eq.ensures c.if-eq-2.false,
      same s c.as_slice-else-eq-2.result.now _ c.as_slice-else-eq-2.ensures c.eq-else-eq-2.ensures c.if-eq-3.false,
    )
