-- `centers::center` meets its contract. The loop's invariant: the picks that are left, added to the sum, give the sum of all. Assumes nothing.
use mathlib.Core.Path.{◌≡◌}
use lib.ListN.{drop}
use Rattle.centers.specs.Centers.{origin, sum_from}
use Rattle.centers.proofs.center.Given as goal

abbrev pub invariant-loop-p : goal.invariant-loop-p
invariant-loop-p l = sum_from l.cell l.xs l.anchor l.sum (drop l.p-index l.picks) ≡ sum_from l.cell l.xs l.anchor origin l.picks
