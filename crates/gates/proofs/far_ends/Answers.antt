-- `gates::far_ends` meets its contract: each arm is a case of the definition. Assumes nothing.
use mathlib.Core.Path.{sym, ap₂, ◌∙◌}
use lib.Ieee.{le}
use Rattle.gates.specs.Inner.{far_ends}
use Rattle.gates.proofs.far_ends.Goals as goal

pub returns-then-turns-k : goal.returns-then-turns-k
unfolding far_ends
returns-then-turns-k c = rw (c.clear_right.ensures, c.clear_left.ensures, sym (ap₂ le c.turns.ensures c.turns-k.ensures) ∙ c.if-turns-k.true)

pub returns : goal.returns
unfolding far_ends
returns c = rw (c.holds.ensures, sym (ap₂ le c.turns.ensures c.turns-k.ensures) ∙ c.if-turns-k.false, c.turns-k.ensures)
