-- The values so far stand at the table's start.
use Rattle.std.proofs.Common.{◌≡◌, take}
use Rattle.block.specs.Block.{values_from}
use Rattle.block.proofs.read_all.Given as goal

abbrev pub invariant-loop-i : goal.invariant-loop-i
invariant-loop-i g l = take l.i l.table ≡ values_from (g.T.LittleEndian.at l.bytes) l.i l.p
