-- A word is two halves, the lower first. Assumes nothing.
use Rattle.std.proofs.Common.{◌≡◌, ◌+◌, arith}
use Rattle.block.specs.Block.{half_at, word_at}
use Rattle.block.proofs.U32LittleEndian.read.Goals as goal

pub returns : goal.returns
unfolding half_at word_at
returns c =
    let third : c.args.p + 2 + 1 ≡ c.args.p + 3 = omega arith in
    rw third (omega (arith, c.from_le_bytes.ensures))
