-- `cluster_table::contacted` meets its contract. The loop's invariant: k is the number of degrees above 0 so far. Assumes nothing.
use Rattle.std.proofs.Common.{◌≡◌, ◌≤◌, ltb}
use Rattle.base.specs.Range.{count}
use Rattle.cluster_table.specs.Table.{degree}
use Rattle.cluster_table.proofs.contacted.Given as goal

abbrev pub invariant-loop-degree : goal.invariant-loop-degree
invariant-loop-degree l = (l.k ≤ l.degree-index) × (l.k ≡ count l.degree-index (λ j. ltb 0 (degree l.n l.table j)))
