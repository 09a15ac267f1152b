-- `selection::fill` meets its contract. The loop's invariant: the pick lists of the copies from the chunk on are still to be written.
-- With no copies the lists are the single start 0 and no picks. Assumes nothing.
use Rattle.selection.specs.Selection.{kept_copies}
use Rattle.selection.proofs.Copies.{copies_left}
use Rattle.selection.proofs.Writing.{Writing}
use Rattle.selection.proofs.fill.Given as goal

abbrev pub invariant-loop-chunk : goal.invariant-loop-chunk
invariant-loop-chunk l = Writing (kept_copies l.xs l.per l.indices) l.initial.starts l.initial.picks (copies_left l.xs l.per l.indices l.chunk) l.copies l.at l.starts l.picks
