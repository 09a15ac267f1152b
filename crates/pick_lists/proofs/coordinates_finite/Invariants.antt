-- `pick_lists::coordinates_finite` meets its contract. The loop's invariant: what was found of the coordinates so far. Assumes nothing.
use Rattle.std.proofs.Common.{◌≡◌, take}
use Rattle.pick_lists.specs.Inner.{finite_coordinates}
use Rattle.pick_lists.proofs.coordinates_finite.Given as goal

abbrev pub invariant-loop-x : goal.invariant-loop-x
invariant-loop-x l = l.all ≡ finite_coordinates (take l.x-index l.xs)
