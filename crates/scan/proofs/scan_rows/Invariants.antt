-- `scan::scan_rows` meets its contract. Invariant, before row i: the rows from i on give, over the table, what every row gives over the
-- opened one (`Scan`). Assumes nothing.
use mathlib.Core.List.{[]}
use Rattle.pick_lists.specs.Input.{given}
use Rattle.scan.proofs.Scans.{Scan}
use Rattle.scan.proofs.scan_rows.Given as goal

abbrev pub invariant-loop-i : goal.invariant-loop-i
invariant-loop-i l = Scan (given l.cell l.solutes [] l.starts l.picks) l.cutoff l.initial.table l.table l.i
