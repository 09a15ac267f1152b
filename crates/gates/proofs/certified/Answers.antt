-- `gates::certified` meets its contract: the three tests are the definition. Assumes nothing.
use Rattle.gates.specs.Inner.{gate_start, certified}
use Rattle.gates.proofs.certified.Goals as goal

pub returns : goal.returns
unfolding certified gate_start
returns c = rw (c.short.ensures, c.short-2.ensures, c.holds.ensures, c.ends_at-g.ensures)
