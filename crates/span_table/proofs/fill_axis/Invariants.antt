-- `span_table::fill_axis` meets its contract. Invariant: the entries of the copies before i are right and all others as at entry. Assumes nothing.
use Rattle.pick_lists.specs.Sound.{pick_list}
use Rattle.spans.specs.Inner.{least_of, greatest_of}
use Rattle.span_table.proofs.Filling.{Filled}
use Rattle.span_table.proofs.fill_axis.Given as goal

abbrev pub invariant-loop-i : goal.invariant-loop-i
invariant-loop-i l = Filled (λ m. least_of l.xs l.axis (pick_list l.starts l.picks m)) (λ m. greatest_of l.xs l.axis (pick_list l.starts l.picks m)) l.at l.n l.initial.table l.i l.table
