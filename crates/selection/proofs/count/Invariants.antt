-- `selection::count` meets its contract. The loop's invariant: with the copies from the chunk on, the counts are the whole counts, and
-- they are small, so that neither sum wraps: at most a copy for each chunk passed, and 256 picks for each atom. Assumes nothing.
use mathlib.Core.Path.{◌≡◌}
use Prim.Native.Nat.{◌≤◌, ◌+◌, ◌*◌}
use lib.ListN.{length}
use Rattle.base.specs.Limits.{max_indices}
use Rattle.selection.specs.Selection.{kept_copies, picks_of}
use Rattle.selection.proofs.Copies.{copies_left}
use Rattle.selection.proofs.count.Given as goal

abbrev pub invariant-loop-chunk : goal.invariant-loop-chunk
invariant-loop-chunk l =
    let kept = kept_copies l.xs l.per l.indices in
    let rest = copies_left l.xs l.per l.indices l.chunk in
    (l.copies ≤ l.chunk) × (l.picks ≤ l.chunk * l.per * max_indices) × (l.copies + length rest ≡ length kept) × (l.picks + length (picks_of rest) ≡ length (picks_of kept))
