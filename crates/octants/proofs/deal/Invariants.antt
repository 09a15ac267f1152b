-- `deal` meets its contract. After i turns each octant has its points of those at the front of its stretch (`Dealing`). Assumes nothing.
use Rattle.std.proofs.Common.{length}
use Rattle.octants.proofs.Sorting.{Dealing}
use Rattle.octants.proofs.deal.Given as goal

abbrev pub invariant-loop-i : goal.invariant-loop-i
invariant-loop-i l = Dealing l.codes l.saved (length l.initial.order) l.i l.places l.order
