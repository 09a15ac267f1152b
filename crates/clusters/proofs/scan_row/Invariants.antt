-- `clusters::scan_row` meets its contract. Invariant, before copy j is tested: what is left of the pass over the table gives what the
-- whole pass gives over the table at entry, and the table is ready for one more contact (`Run`); measure n - j. Copies that the tests of the axes keep apart from
-- copy i do not touch it, by gates or by images, so that the pass goes on at the first of the others (`run-over`). Assumes nothing.
use mathlib.Core.List.{[]}
use Prim.Native.Nat.{◌-◌}
use Rattle.pick_lists.specs.Input.{given}
use Rattle.touch.specs.Touch.{copies_touch}
use Rattle.clusters.proofs.Passes.{Run}
use Rattle.clusters.proofs.scan_row.Given as goal

abbrev pub invariant-loop-j : goal.invariant-loop-j
invariant-loop-j l = Run (copies_touch (given l.cell l.solutes [] l.starts l.picks) l.cutoff) l.n l.i l.initial.table l.table l.j

abbrev pub decreases-loop-j : goal.decreases-loop-j
decreases-loop-j l = l.n - l.j
