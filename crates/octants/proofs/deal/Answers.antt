-- What is left to prove of `deal`. Assumes nothing.
use Rattle.std.proofs.Common.{arith, rules}
use Rattle.octants.proofs.Sorting.{deal-start, deal-step, deal-end, place-small}
use Rattle.octants.proofs.deal.Goals as goal

pub loop-i-init : goal.loop-i-init
loop-i-init c = deal-start _ _ _ _ _ c.requires.starts

pub offset_bounds-order-places : goal.offset_bounds-order-places
offset_bounds-order-places c =
    let p = place-small c.loop-i.auto.order c.requires.small c.loop-i.invariant c.loop-i-test.true in
    search rules

pub bounds-order-places : goal.bounds-order-places
bounds-order-places c = place-small c.loop-i.auto.order c.requires.small c.loop-i.invariant c.loop-i-test.true

pub overflow_add-places : goal.overflow_add-places
overflow_add-places c =
    let p = place-small c.loop-i.auto.order c.requires.small c.loop-i.invariant c.loop-i-test.true in
    search rules

pub loop-i-preserved : goal.loop-i-preserved
loop-i-preserved c = deal-step c.loop-i.auto.order c.requires.small c.loop-i.invariant c.loop-i-test.true (omega arith)

pub returns : goal.returns
returns c = deal-end _ _ _ _ _ _ c.loop-i.auto.order c.requires.small (omega (arith, c.loop-i-test.false, c.loop-i.auto.i-end)) c.loop-i.invariant
