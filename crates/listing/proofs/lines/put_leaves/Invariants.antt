-- The lines from the loop's leaf on are still to be written, from entry `end` on (Filling).
use Rattle.std.proofs.Common.{◌-◌, ◌*◌}
use Rattle.listing.specs.Listing.{leaf_lines}
use Rattle.base.proofs.Filling.{Filling}
use Rattle.listing.proofs.lines.put_leaves.Given as goal

abbrev pub invariant-loop-leaf : goal.invariant-loop-leaf
invariant-loop-leaf l = Filling l.at (leaf_lines l.leaves l.count 0) l.initial.out l.end (leaf_lines l.leaves (l.count - l.leaf-index) (l.leaf-index * 8)) l.out
