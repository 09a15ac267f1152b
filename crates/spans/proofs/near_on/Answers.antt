-- `spans::near_on` meets its contract: each arm is a case of the definition. Assumes nothing.
use Rattle.touch.specs.Touch.{cutoff2}
use Rattle.spans.specs.Inner.{near_on}
use Rattle.spans.proofs.near_on.Goals as goal

pub returns-then-level : goal.returns-then-level
unfolding near_on cutoff2
returns-then-level c = rw (c.if-level.true, c.magnitude_squared.ensures, c.separation-then-level.ensures, c.separation.ensures)

pub returns : goal.returns
unfolding near_on cutoff2
returns c = rw (c.if-level.false, c.near_by.ensures)
