-- `dispersion::block_squares` meets its contract. The loop's invariant: those written are the squared distances (`Distances`). Assumes nothing.
use Rattle.std.proofs.Common.{◌≡◌, length}
use Rattle.dispersion.proofs.Sums.{Distances}
use Rattle.dispersion.proofs.block_squares.Given as goal

abbrev pub invariant-loop-k : goal.invariant-loop-k
invariant-loop-k l = (length l.square-items ≡ 16) × Distances l.e l.centers l.i l.j l.square-items l.k
