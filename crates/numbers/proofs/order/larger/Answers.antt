-- `numbers::order::larger` meets its contract: each arm is a case of the definition. Assumes nothing.
use Rattle.floats.specs.Order.{larger}
use Rattle.numbers.proofs.order.larger.Goals as goal

pub returns-then-a-b : goal.returns-then-a-b
unfolding larger
returns-then-a-b c = rw c.if-a-b.true

pub returns-else-a-b : goal.returns-else-a-b
unfolding larger
returns-else-a-b c = rw c.if-a-b.false
