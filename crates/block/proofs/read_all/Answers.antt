-- Entry i is written at turn i. Assumes nothing.
use Rattle.std.proofs.Common.{arith}
use Rattle.block.proofs.Reading.{values-none, values-next}
use Rattle.block.proofs.read_all.Goals as goal

pub loop-i-init : goal.loop-i-init
loop-i-init g c = values-none (g.T.LittleEndian.at c.args.bytes.now) c.args.p

pub loop-i-preserved : goal.loop-i-preserved
loop-i-preserved g c = rw c.read.ensures (values-next (g.T.LittleEndian.at c.args.bytes.now) c.args.p c.loop-i.i c.loop-i.table (omega arith) c.loop-i.invariant)
