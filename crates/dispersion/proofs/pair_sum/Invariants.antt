-- `dispersion::pair_sum` meets its contract. The loop's invariant: the rows from `i` on, added to the sum, give the sum of all. Assumes nothing.
use Rattle.std.proofs.Common.{◌≡◌, ◌-◌}
use lib.Ieee.{binary64, of_bits}
use Rattle.dispersion.specs.Dispersion.{pair_sum}
use Rattle.dispersion.proofs.pair_sum.Given as goal

abbrev pub invariant-loop-i : goal.invariant-loop-i
invariant-loop-i l = pair_sum l.e l.centers l.n (l.n - l.i) l.i l.sum ≡ pair_sum l.e l.centers l.n l.n 0 (of_bits binary64 0)
