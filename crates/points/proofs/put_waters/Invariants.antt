-- `points::put_waters` meets its contract. The loop's invariant (`Writing`): of the waters before k, m are finite, and with the finite ones
-- from k on written, the table is the one to be left. Assumes nothing.
use Rattle.points.proofs.WaterList.{Writing}
use Rattle.points.proofs.put_waters.Given as goal

abbrev pub invariant-loop-k : goal.invariant-loop-k
invariant-loop-k l = Writing l.cell l.waters l.initial.out l.k l.m l.out
