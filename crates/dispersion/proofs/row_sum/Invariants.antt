-- `dispersion::row_sum` meets its contract. The loop's invariant: the centers from block `b` on, added to the sum, give the row's. Assumes nothing.
use Rattle.std.proofs.Common.{◌≡◌, ◌+◌, ◌-◌, ◌*◌}
use Rattle.dispersion.specs.Dispersion.{row_sum}
use Rattle.dispersion.proofs.row_sum.Given as goal

abbrev pub invariant-loop-b : goal.invariant-loop-b
invariant-loop-b l = row_sum l.e l.centers l.i (l.n - (l.i + 1 + l.b * 16)) (l.i + 1 + l.b * 16) l.sum ≡ row_sum l.e l.centers l.i (l.n - (l.i + 1)) (l.i + 1) l.s
