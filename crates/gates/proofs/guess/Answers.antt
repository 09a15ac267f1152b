-- `gates::guess` meets its contract: the last digits of the sum. Assumes nothing.
use Rattle.gates.specs.Inner.{guess_of}
use Rattle.gates.proofs.guess.Goals as goal

pub returns : goal.returns
unfolding guess_of
returns c = rw c.to_bits.ensures
