-- `span_table::mark_by` meets its contract. Invariant: the flags of the copies after i and before j are set, and all others are as at entry
-- (`Marked`). Assumes nothing.
use Rattle.spans.specs.Inner.{apart_on}
use Rattle.span_table.proofs.Flags.{Marked}
use Rattle.span_table.proofs.mark_by.Given as goal

abbrev pub invariant-loop-j : goal.invariant-loop-j
invariant-loop-j g l = Marked (apart_on g.T.AxisTest.rejects l.g) l.table l.n l.i l.initial.flags l.j l.flags
