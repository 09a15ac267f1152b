-- What is left to prove of `scan_rows`. Assumes nothing.
use native.Mathlib.Omega.{arith}
use native.Mathlib.Numerals.{add-one}
use Rattle.pick_lists.proofs.SoundLists.{sound-lists}
use Rattle.scan.specs.Scan.{scanned}
use Rattle.clusters.proofs.Held.{sound-table}
use Rattle.scan.proofs.Scans.{lists, few, scan-first, scan-next, scan-done}
use Rattle.scan.proofs.scan_rows.Goals as goal

pub overflow_sub-copies : goal.overflow_sub-copies
overflow_sub-copies c = omega (arith, (sound-lists _ _ _ (lists _ c.requires.picks_value.0)).number)

pub open_table-requires : goal.open_table-requires
open_table-requires c = (few _ c.requires.picks_value.0, c.requires.starts_in_bounds)

pub loop-i-init : goal.loop-i-init
loop-i-init c = rw (c.open_table.ensures, c.to_bits.ensures) (scan-first _ c.requires.picks_value.0 _ c.requires.picks_value.1 c.args.table.now c.requires.starts_in_bounds)

pub scan_boxed-requires : goal.scan_boxed-requires
scan_boxed-requires c =
    let z = c.loop-i.invariant in
    record { picks_value = c.requires.picks_value; starts_in_bounds = (z.state.long, sound-table z.state, c.loop-i-test.true); sure_marks = (c.requires.sure_marks.0, c.requires.sure_marks.1, omega (arith, c.requires.sure_marks.2)); spans = c.requires.spans }

pub loop-i-preserved : goal.loop-i-preserved
loop-i-preserved c = rw (c.scan_boxed.ensures, add-one) (scan-next _ c.requires.picks_value.0 _ c.requires.picks_value.1 c.loop-i-test.true c.loop-i.invariant)

pub returns : goal.returns
unfolding scanned
returns c = scan-done _ c.requires.picks_value.0 _ c.requires.picks_value.1 c.args.table.now c.requires.starts_in_bounds c.to_bits.ensures c.open_table.ensures c.loop-i-test.false c.loop-i.invariant
