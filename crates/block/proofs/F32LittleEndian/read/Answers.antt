-- The float whose bits the word is. Assumes nothing.
use Rattle.std.proofs.Common.{ap, ◌∙◌}
use lib.Ieee.{binary32, of_bits}
use Rattle.block.specs.Block.{float_at}
use Rattle.block.proofs.F32LittleEndian.read.Goals as goal

pub returns : goal.returns
unfolding float_at
returns c = c.from_bits.ensures ∙ ap (of_bits binary32) c.read.ensures
