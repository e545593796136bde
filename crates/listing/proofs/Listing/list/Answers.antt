use Rattle.std.proofs.Common.{arith}
use Rattle.listing.proofs.SoFarLaws.{so_far_none, Turn, turn, so_far_end, so_far_full}
use Rattle.listing.proofs.Listing.list.Goals as goal
use Rattle.listing.proofs.Listing.list.Goals.{After-next_line-result}

pub loop-i-init : goal.loop-i-init
loop-i-init c = so_far_none _ _ _

pub overflow_sub-out : goal.overflow_sub-out
overflow_sub-out c = omega (arith, c.loop-i.invariant.fits, c.loop-i.invariant.same)

pub shape_of-out-then-out-at-lt-ROOM : goal.shape_of-out-then-out-at-lt-ROOM
shape_of-out-then-out-at-lt-ROOM c = c.loop-i.invariant.same

pub returns-then-out-at-lt-ROOM : goal.returns-then-out-at-lt-ROOM
returns-then-out-at-lt-ROOM c = so_far_full _ _ _ _ _ _ _ c.loop-i.invariant c.if-out-at-lt-ROOM.true

-- what a turn comes to, with the line as it is lent
turn_of : (c : After-next_line-result) → let l = c.loop-i in
    Turn c.args.self c.args.s.now c.args.out.now l.i l.at l.out c.next_line-result.result
turn_of c =
    turn _ _ _ _ _ _ _ c.loop-i.invariant _ c.loop-i-test.true c.if-out-at-lt-ROOM.false c.next_line-result.ensures

pub put_line-requires : goal.put_line-requires
put_line-requires c = rw c.as_slice-line.ensures.value (turn_of (goal.at.put_line-requires c).After-next_line-result).fits

pub overflow_add-at : goal.overflow_add-at
overflow_add-at c = let fits = rw (← c.as_slice-line.ensures.value) at (turn_of (goal.at.overflow_add-at c).After-next_line-result).fits in omega arith

pub overflow_add-i : goal.overflow_add-i
overflow_add-i c = omega (arith, (turn_of (goal.at.overflow_add-i c).After-next_line-result).within)

pub loop-i-smaller : goal.loop-i-smaller
loop-i-smaller c = omega (arith, (turn_of (goal.at.loop-i-smaller c).After-next_line-result).some)

pub loop-i-preserved : goal.loop-i-preserved
loop-i-preserved c = rw (c.put_line.ensures, c.as_slice-line.ensures.value) (turn_of (goal.at.loop-i-preserved c).After-next_line-result).more

pub shape_of-out : goal.shape_of-out
shape_of-out c = c.loop-i.invariant.same

pub returns : goal.returns
returns c = so_far_end _ _ _ _ _ _ _ c.loop-i.invariant c.loop-i-test.false
