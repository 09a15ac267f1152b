-- `leaf_table::put_leaves` meets its contract. The loop's invariant (`Reporting`): of the nodes before i so many are reported and so many dry,
-- and with the leaves from node i on written, the table is the one to be left. Measure: n - i. Assumes nothing.
use Rattle.leaf_table.proofs.LeafList.{Reporting}
use Rattle.leaf_table.proofs.put_leaves.Given as goal

abbrev pub invariant-loop-i : goal.invariant-loop-i
invariant-loop-i l = Reporting l.cell l.density l.reference l.waters l.m l.records l.boxes l.n l.initial.leaves l.i l.reported l.dry l.leaves
