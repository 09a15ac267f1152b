-- `selection::put_finite` meets its contract. The loop's invariant: the finite atoms from number base + k on are still to be written, from
-- entry `end` on. Assumes nothing.
use Rattle.std.proofs.Common.{◌+◌, ◌-◌}
use Rattle.base.proofs.Filling.{Filling}
use Rattle.selection.specs.Selection.{finite_atoms}
use Rattle.selection.proofs.put_finite.Given as goal

abbrev pub invariant-loop-k : goal.invariant-loop-k
invariant-loop-k l = Filling l.at (finite_atoms l.xs l.per l.base) l.initial.picks l.end (finite_atoms l.xs (l.per - l.k) (l.base + l.k)) l.picks
