-- `gates::gates_of` meets its contract: the gate of each side. Assumes nothing.
use Rattle.gates.specs.Inner.{gates_of}
use Rattle.gates.proofs.gates_of.Goals as goal

pub returns : goal.returns
unfolding gates_of
returns c = rw (c.gate_of.ensures, c.gate_of-2.ensures, c.gate_of-3.ensures, c.extent-e.ensures)
