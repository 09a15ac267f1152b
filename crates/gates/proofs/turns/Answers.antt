-- `gates::turns` meets its contract: the quotient, rounded. Assumes nothing.
use Rattle.gates.specs.Inner.{turns_of}
use Rattle.gates.proofs.turns.Goals as goal

pub returns : goal.returns
unfolding turns_of
returns c = cc
