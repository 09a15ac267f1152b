-- `build` meets its contract. The measure of the recursion is 14 - depth. The loop over the octants keeps `Growing`: the children so far
-- and those of the octants left, joined, are all that stands below the node. Assumes nothing.
use mathlib.Core.List.{List}
use Prim.Native.Nat.{ℕ, ◌+◌, ◌-◌, ◌≤◌}
use lib.Ieee.{Float}
use Rattle.division.specs.Split.{max_depth}
use Rattle.bounds.specs.declared.OctreeBounds.{OctreeBounds}
use Rattle.octree.specs.Tree.{subtree}
use Rattle.octree.proofs.Growing.{Site, Turn, Growing}
use Rattle.octree.proofs.build.+build.Given as goal

abbrev pub decreases-build : goal.decreases-build
decreases-build l = max_depth - l.depth

-- a node's site: its subtrees are those of one depth more
abbrev pub site_of : OctreeBounds → ℕ → List Float → List Float → List ℕ → List ℕ → ℕ → ℕ → List ℕ → List Float → ℕ → ℕ → ℕ → Site
site_of b depth C W cs₀ ws₀ fc fw rec₀ box₀ at room turns =
    record {
      C = C;
      W = W;
      go = subtree C W (max_depth - (depth + 1));
      b = b;
      at = at;
      depth = depth;
      fc = fc;
      fw = fw;
      room = room;
      turns = turns;
      cs₀ = cs₀;
      ws₀ = ws₀;
      rec₀ = rec₀;
      box₀ = box₀;
    }

abbrev pub invariant-loop-o : goal.invariant-loop-o
invariant-loop-o l =
    let S : Site = site_of l.b l.depth l.centers l.waters l.fn.corder l.fn.worder l.fc l.fw l.fn.records l.fn.boxes l.at l.room l.left in
    let T : Turn =
    record { left = 8 - l.o; next = l.next; deep = l.deep; kids = l.children; ca = l.ca; wa = l.wa; cs = l.corder; ws = l.worder; rec = l.records; box = l.boxes } in
    record {
      grows : Growing S T;
      few : l.children ≤ l.o;
    }
