-- `cluster_table::open_table` meets its contract. The loop's invariant: the parents so far are their own numbers. Assumes nothing.
use Rattle.std.proofs.Common.{◌≡◌, take}
use Rattle.base.specs.Tables.{first_numbers}
use Rattle.cluster_table.proofs.open_table.Given as goal

abbrev pub invariant-loop-i : goal.invariant-loop-i
invariant-loop-i l = take l.i l.parent-items ≡ first_numbers l.i
