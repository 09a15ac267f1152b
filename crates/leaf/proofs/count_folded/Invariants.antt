-- `leaf::count_folded` meets its contract. The loop's invariant: of the waters before i, n are in the shell. Assumes nothing.
use Rattle.std.proofs.Common.{◌≡◌, ◌+◌, ◌-◌, ◌≤◌}
use Rattle.leaf.specs.Leaf.{shell_from}
use Rattle.leaf.proofs.count_folded.Given as goal

abbrev pub invariant-loop-i : goal.invariant-loop-i
invariant-loop-i l = (l.n ≤ l.i) × (l.n + shell_from l.cell l.b l.waters (l.m - l.i) l.i ≡ shell_from l.cell l.b l.waters l.m 0)
