-- `selection::count_indexed` meets its contract. The loop's invariant: with what the indices that are left pick, n is the whole count.
-- Assumes nothing.
use Rattle.std.proofs.Common.{◌≡◌, ◌≤◌, ◌+◌, length, drop}
use Rattle.selection.specs.Selection.{indexed}
use Rattle.selection.proofs.count_indexed.Given as goal

abbrev pub invariant-loop-i : goal.invariant-loop-i
invariant-loop-i l = (l.n ≤ l.i-index) × (l.n + length (indexed l.xs l.per l.base (drop l.i-index l.indices)) ≡ length (indexed l.xs l.per l.base l.indices))
