-- `numbers::order::smaller` meets its contract: each arm is a case of the definition. Assumes nothing.
use Rattle.floats.specs.Order.{smaller}
use Rattle.numbers.proofs.order.smaller.Goals as goal

pub returns-then-b-a : goal.returns-then-b-a
unfolding smaller
returns-then-b-a c = rw c.if-b-a.true

pub returns-else-b-a : goal.returns-else-b-a
unfolding smaller
returns-else-b-a c = rw c.if-b-a.false
