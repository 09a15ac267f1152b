-- `scan::scan_boxed` meets its contract: as `clusters::scan_row`, with the flags that `mark_apart` has set. Assumes nothing.
use mathlib.Core.List.{[]}
use Rattle.pick_lists.specs.Input.{given}
use Rattle.touch.specs.Touch.{copies_touch}
use Rattle.clusters.proofs.Passes.{Run}
use Rattle.scan.proofs.scan_boxed.Given as goal

abbrev pub invariant-loop-k : goal.invariant-loop-k
invariant-loop-k l = Run (copies_touch (given l.cell l.solutes [] l.starts l.picks) l.cutoff) l.n l.i l.initial.table l.table l.k
