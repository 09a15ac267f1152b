-- No ratio that Report writes has the bits 0, so that the word 0 is dry alone: every box of a tree stays within the cell's bounds. Assumes
-- nothing.
use mathlib.Core.Path.{◌≡◌}
use mathlib.Core.List.{List}
use Prim.Native.Nat.{ℕ, zero, suc, ◌≤◌, ◌<◌, ◌*◌}
use native.Mathlib.Omega.{arith}
use borrow.Author.Tests.{ltb-false}
use lib.ListN.{length, get_or}
use lib.Ieee.{binary32, mul}
use Rattle.base.specs.Limits.{max_atoms}
use Rattle.cell.specs.Cell.{volume_of}
use Rattle.frame_limits.specs.Limits.{long, frame_refusals}
use Rattle.base.specs.Refusals.{first_refusal}
use Rattle.pick_lists.specs.Input.{Input}
use Rattle.frame_limits.proofs.FiniteFrame.{limited}
use Rattle.frame_limits.proofs.FrameRefusals.{frame-none}
use Rattle.bounds.specs.declared.OctreeBounds.{OctreeBounds}
use Rattle.bounds.specs.Bounds.{cell_box}
use Rattle.nodes.specs.Nodes.{Node}
use Rattle.points.specs.Points.{tree_centers, tree_waters, finite_waters}
use Rattle.tree.specs.Tree.{frame_tree}
use Rattle.points.proofs.WaterList.{waters-length, waters-few}
use Rattle.leaf.specs.Leaf.{density_of, expanded, occupancy_of, occupancy_word}
use Rattle.leaf.proofs.Ratios.{ratios-not-zero}
use Rattle.report.proofs.NodeBoxes.{Boxed, no-box, one-box, tree-boxed}
use Rattle.report.proofs.BoxBounds.{Bounded, between-bounded, child-bounded}

boxed_at : (P : OctreeBounds → Type 0) {vs : List Node} → Boxed P vs → (v₀ : Node) (i : ℕ) → i < length vs → P (get_or vs i v₀).box
boxed_at P no-box v₀ i h = absurd (omega arith)
boxed_at P (one-box p f) v₀ zero h = p
boxed_at P (one-box p f) v₀ (suc i) h = boxed_at P f v₀ i (omega arith)

-- for a frame that none of 1, 2, 3, 4 and 15 refuses: at each node of its tree, neither occupancy with some water seen has the word 0
pub ratio-not-zero :
    (f : Input) → first_refusal (frame_refusals f.cell f.solutes f.waters) ≡ 0 → (v₀ : Node) (i : ℕ) → i < length (frame_tree f).nodes → (n : ℕ) → n < max_atoms →
    let b = (get_or (frame_tree f).nodes i v₀).box in
    let density = density_of f.cell (finite_waters f.waters) in
    (occupancy_word (occupancy_of (suc n) (mul binary32 density (volume_of b.extent))) ≡ 0 → ⊥)
    × (occupancy_word (occupancy_of (suc n) (mul binary32 density (volume_of (expanded f.cell b)))) ≡ 0 → ⊥)
unfolding frame_tree long
ratio-not-zero f ok v₀ i h n few =
    let c = f.cell in
    let l = limited c f.solutes f.waters ok in
    let cell = between-bounded c.low c.high l.low-around l.high-around in
    let bounded : Bounded (get_or (frame_tree f).nodes i v₀).box =
    boxed_at Bounded (tree-boxed Bounded child-bounded (tree_centers f) (tree_waters c f.waters) (cell_box c) cell) v₀ i h in
    let short : length f.waters ≤ max_atoms * 3 = ltb-false (max_atoms * 3) (length f.waters) (frame-none c f.solutes f.waters ok).waters-few in
    ratios-not-zero c (get_or (frame_tree f).nodes i v₀).box (finite_waters f.waters) n l bounded.extent (omega (arith, waters-length c f.waters, waters-few c f.waters)) few
