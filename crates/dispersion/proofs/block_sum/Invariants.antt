-- `dispersion::block_sum` meets its contract. The loop's invariant: the squares from the loop's index on, added to the sum, give the block's.
-- Assumes nothing.
use Rattle.std.proofs.Common.{◌≡◌, ◌+◌, ◌-◌}
use Rattle.dispersion.specs.Dispersion.{row_sum}
use Rattle.dispersion.proofs.block_sum.Given as goal

abbrev pub invariant-loop-square : goal.invariant-loop-square
invariant-loop-square l = row_sum l.fn.e l.centers l.i (16 - l.square-index) (l.j + l.square-index) l.sum ≡ row_sum l.fn.e l.centers l.i 16 l.j l.s
