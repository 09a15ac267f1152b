-- `selection::count_finite` meets its contract. The loop's invariant: with the finite atoms from number base + k on, n is the whole count.
-- Assumes nothing.
use Rattle.std.proofs.Common.{◌≡◌, ◌≤◌, ◌+◌, ◌-◌, length}
use Rattle.selection.specs.Selection.{finite_atoms}
use Rattle.selection.proofs.count_finite.Given as goal

abbrev pub invariant-loop-k : goal.invariant-loop-k
invariant-loop-k l = (l.n ≤ l.k) × (l.n + length (finite_atoms l.xs (l.per - l.k) (l.base + l.k)) ≡ length (finite_atoms l.xs l.per l.base))
