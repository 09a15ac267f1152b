-- `gates::holds` meets its contract: the four tests are the definition. Assumes nothing.
use Rattle.gates.specs.Inner.{holds_at}
use Rattle.gates.proofs.holds.Goals as goal

pub returns : goal.returns
unfolding holds_at
returns c = rw (c.turns.ensures, c.turns-2.ensures, c.clear_right.ensures, c.clear_left.ensures)
