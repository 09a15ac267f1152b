-- `selection::put_indexed` meets its contract. The loop's invariant: what the indices that are left pick is still to be written, from
-- entry `end` on. Assumes nothing.
use Rattle.std.proofs.Common.{drop}
use Rattle.base.proofs.Filling.{Filling}
use Rattle.selection.specs.Selection.{indexed}
use Rattle.selection.proofs.put_indexed.Given as goal

abbrev pub invariant-loop-i : goal.invariant-loop-i
invariant-loop-i l = Filling l.at (indexed l.xs l.per l.base l.indices) l.initial.picks l.end (indexed l.xs l.per l.base (drop l.i-index l.indices)) l.picks
