-- What holds while the lines are taken: each counted once, and it has a byte at least. Assumes nothing.
use Rattle.std.proofs.Common.{◌+◌, ◌≤◌, length}
use Rattle.vectors.proofs.group.take_lines.Given as goal

abbrev pub invariant-loop-s : goal.invariant-loop-s
invariant-loop-s g l = (l.t.agreed ≤ l.t.of) × (l.t.of ≤ l.number) × (l.number + length l.rest ≤ length l.initial.rest)

abbrev pub decreases-loop-s : goal.decreases-loop-s
decreases-loop-s g l = length l.rest
