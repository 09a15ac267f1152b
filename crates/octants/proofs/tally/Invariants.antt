-- `tally` meets its contract. After i turns the octants of the points seen are noted and counted (`Tallying`). Assumes nothing.
use Rattle.octants.proofs.Sorting.{Tallying}
use Rattle.octants.proofs.tally.Given as goal

abbrev pub invariant-loop-i : goal.invariant-loop-i
invariant-loop-i l = Tallying l.points l.center l.order l.i l.codes l.counts
