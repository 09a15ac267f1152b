-- `centers::put_centers` meets its contract. The loop's invariant (`Writing`): the centers of the copies before `i` are written. Assumes nothing.
use mathlib.Core.List.{[]}
use Rattle.pick_lists.specs.Input.{given}
use Rattle.centers.proofs.CenterList.{Writing}
use Rattle.centers.proofs.put_centers.Given as goal

abbrev pub invariant-loop-i : goal.invariant-loop-i
invariant-loop-i l = Writing (given l.cell l.xs [] l.starts l.picks) l.initial.centers l.i l.centers
