-- `points::wrap_all` meets its contract. The loop's invariant (`Wrapping`): the points before i are wrapped, those from i on are as they
-- were. Assumes nothing.
use Rattle.points.proofs.Wrapping.{Wrapping}
use Rattle.points.proofs.wrap_all.Given as goal

abbrev pub invariant-loop-i : goal.invariant-loop-i
invariant-loop-i l = Wrapping l.cell l.n l.initial.xs l.i l.xs
