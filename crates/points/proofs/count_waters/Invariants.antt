-- `points::count_waters` meets its contract. The loop's invariant (`Counting`): of the waters before k, m are finite. Assumes nothing.
use Rattle.points.proofs.WaterList.{Counting}
use Rattle.points.proofs.count_waters.Given as goal

abbrev pub invariant-loop-k : goal.invariant-loop-k
invariant-loop-k l = Counting l.waters l.k l.m
