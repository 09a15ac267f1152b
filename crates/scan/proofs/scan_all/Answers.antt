-- `scan::scan_all` meets its contract: the span table and the marks are made once, and every row scanned with them. Assumes nothing.
use native.Mathlib.Omega.{arith}
use Rattle.clusters.proofs.Accepted.{accepted-sound, accepted-lists}
use Rattle.scan.proofs.scan_all.Goals as goal

pub fill_spans-requires : goal.fill_spans-requires
fill_spans-requires c = record { picks_value = accepted-sound _ c.requires.picks_value.0; starts_in_bounds = omega (arith, (accepted-lists _ c.requires.picks_value.0).few) }

pub overflow_sub-starts : goal.overflow_sub-starts
overflow_sub-starts c = omega (arith, (accepted-lists _ c.requires.picks_value.0).number)

pub marks_of-g-requires : goal.marks_of-g-requires
marks_of-g-requires c =
    let n = (accepted-lists _ c.requires.picks_value.0).few in
    (n, omega (arith, n))

pub scan_rows-requires : goal.scan_rows-requires
scan_rows-requires c =
    let n = (accepted-lists _ c.requires.picks_value.0).few in
    record { picks_value = c.requires.picks_value; starts_in_bounds = c.requires.starts_in_bounds; sure_marks = (c.marks_of-g.ensures, omega (arith, n), omega (arith, n)); spans = c.fill_spans.ensures.table }
