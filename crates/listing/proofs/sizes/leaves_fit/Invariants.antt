-- Whether the lines from the loop's leaf on fit into what is left of the room decides.
use Rattle.std.proofs.Common.{◌≡◌, ◌-◌, ◌*◌, leb, length}
use Rattle.listing.specs.Listing.{leaf_lines}
use Rattle.listing.proofs.sizes.leaves_fit.Given as goal

abbrev pub invariant-loop-leaf : goal.invariant-loop-leaf
invariant-loop-leaf l = leb (length (leaf_lines l.leaves (l.count - l.leaf-index) (l.leaf-index * 8))) l.left ≡ leb (length (leaf_lines l.leaves l.count 0)) l.room
