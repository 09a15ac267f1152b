-- `gates::gate_of` meets its contract: each arm is a case of the definition. Assumes nothing.
use mathlib.Core.Path.{sym, ◌∙◌}
use Rattle.gates.specs.Inner.{gate_start, gate_at}
use Rattle.gates.proofs.gate_of.Goals as goal

pub returns-then-certified : goal.returns-then-certified
unfolding gate_at gate_start
returns-then-certified c = c.ends_at.ensures ∙ rw (sym c.certified.ensures ∙ c.if-certified.true)

pub returns : goal.returns
unfolding gate_at gate_start
returns c = rw (sym c.certified.ensures ∙ c.if-certified.false)
