-- `dispersion::stretch_sum` meets its contract. The loop's invariant: the centers from `k` on, added to the sum, give the stretch's. Assumes nothing.
use Rattle.std.proofs.Common.{◌≡◌, ◌-◌}
use Rattle.dispersion.specs.Dispersion.{row_sum}
use Rattle.dispersion.proofs.stretch_sum.Given as goal

abbrev pub invariant-loop-k : goal.invariant-loop-k
invariant-loop-k l = row_sum l.e l.centers l.i (l.end - l.k) l.k l.sum ≡ row_sum l.e l.centers l.i (l.end - l.j) l.j l.s
