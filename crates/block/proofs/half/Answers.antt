-- `block::half` meets its contract: two bytes, the lower first. Assumes nothing.
use Rattle.std.proofs.Common.{arith}
use Rattle.block.specs.Block.{half_at}
use Rattle.block.proofs.half.Goals as goal

pub returns : goal.returns
unfolding half_at
returns c = omega (arith, c.from_le_bytes.ensures)
