-- `spans::ends_of` meets its contract. Invariant: from lo and hi on, what is left of the picks gives the least and the greatest of all. Assumes nothing.
use mathlib.Core.Path.{◌≡◌}
use lib.ListN.{drop}
use Rattle.spans.specs.Inner.{least_from, greatest_from, least_of, greatest_of}
use Rattle.spans.proofs.ends_of.Given as goal

abbrev pub invariant-loop-p : goal.invariant-loop-p
invariant-loop-p l = (least_from l.xs l.axis l.lo (drop l.p-index l.p-items) ≡ least_of l.xs l.axis l.a) × (greatest_from l.xs l.axis l.hi (drop l.p-index l.p-items) ≡ greatest_of l.xs l.axis l.a)
