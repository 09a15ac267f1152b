-- `pick_lists::finite_atom` meets its contract. The test of the atom's point is the definition.
-- Assumes nothing.
use Rattle.pick_lists.specs.Sound.{finite_atom}
use Rattle.pick_lists.proofs.finite_atom.Goals as goal

pub returns : goal.returns
unfolding finite_atom
returns c = rw (c.is_finite.ensures, c.point.ensures)
