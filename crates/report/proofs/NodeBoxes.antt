-- What holds of the box of every node of a tree: whatever goes from a box to the box of each octant. Assumes nothing.
use mathlib.Core.Path.{◌≡◌, refl}
use mathlib.Core.Bool.{Bool, true, false, cond}
use mathlib.Core.List.{List, [], ◌∷◌, ◌++◌}
use Prim.Native.Nat.{ℕ, zero, suc, ◌+◌, ◌-◌}
use lib.Dec.{eqb}
use lib.ListN.{length}
use lib.Ieee.{Float}
use Rattle.bounds.specs.declared.OctreeBounds.{OctreeBounds}
use Rattle.bounds.specs.Bounds.{box_between, child_of}
use Rattle.octants.specs.Octants.{octant_points}
use Rattle.division.specs.Split.{splits, max_depth}
use Rattle.nodes.specs.Nodes.{Node}
use Rattle.octree.specs.Tree.{Builder, none, where_some, children_from, subtree, tree_of, point_numbers}

-- P holds of each node's box
pub data Boxed (P : OctreeBounds → Type 0) : List Node → Type 0 where
  no-box : Boxed P []
  one-box : {v : Node} {vs : List Node} → P v.box → Boxed P vs → Boxed P (v ∷ vs)

boxed-append : {P : OctreeBounds → Type 0} {xs : List Node} (ys : List Node) → Boxed P xs → Boxed P ys → Boxed P (xs ++ ys)
boxed-append ys no-box g = g
boxed-append ys (one-box p f) g = one-box p (boxed-append ys f g)

-- a builder that hands P on
abbrev Keeps : (OctreeBounds → Type 0) → Builder → Type 0
Keeps P go = (at fc fw : ℕ) (b : OctreeBounds) (cs ws : List ℕ) → P b → Boxed P (go at fc fw b cs ws).nodes

module _ (P : OctreeBounds → Type 0) (down : (b : OctreeBounds) (o : ℕ) → P b → P (child_of b o)) (C W : List Float) where
  where-keeps : (go : Builder) → Keeps P go → Keeps P (where_some go)
  unfolding where_some
  where-keeps go h at fc fw b cs ws p = by-test (eqb (length cs + length ws) 0)
    where
      by-test : (t : Bool) → Boxed P (cond t (none [] []) (go at fc fw b cs ws)).nodes
      by-test true = no-box
      by-test false = h at fc fw b cs ws p

  children-keeps : (go : Builder) → Keeps P go → (left : ℕ) → Keeps P (children_from C W go left)
  unfolding children_from
  children-keeps go h zero at fc fw b cs ws p = no-box
  children-keeps go h (suc left) at fc fw b cs ws p =
      let c = octant_points C b.center (7 - left) cs in
      let w = octant_points W b.center (7 - left) ws in
      let s = where_some go at fc fw (child_of b (7 - left)) c w in
      boxed-append (children_from C W go left (at + length s.nodes) (fc + length c) (fw + length w) b cs ws).nodes
      (where-keeps go h at fc fw (child_of b (7 - left)) c w (down b (7 - left) p))
      (children-keeps go h left (at + length s.nodes) (fc + length c) (fw + length w) b cs ws p)

  subtree-keeps : (levels : ℕ) → Keeps P (subtree C W levels)
  unfolding subtree
  subtree-keeps zero at fc fw b cs ws p = one-box p no-box
  subtree-keeps (suc levels) at fc fw b cs ws p = one-box p (by-test (splits b cs) (children-keeps (subtree C W levels) (subtree-keeps levels) 8 (at + 1) fc fw b cs ws p))
    where
      by-test :
          (t : Bool) → Boxed P (children_from C W (subtree C W levels) 8 (at + 1) fc fw b cs ws).nodes →
          Boxed P (cond t (children_from C W (subtree C W levels) 8 (at + 1) fc fw b cs ws) (none cs ws)).nodes
      by-test true h = h
      by-test false h = no-box

  pub tree-boxed : (b : OctreeBounds) → P b → Boxed P (tree_of b C W).nodes
  unfolding tree_of
  tree-boxed b p = where-keeps (subtree C W max_depth) (subtree-keeps max_depth) 0 0 0 b (point_numbers C) (point_numbers W) p

-- ---- every box is the one between its corners
abbrev pub Between : OctreeBounds → Type 0
Between b = b ≡ box_between b.low b.high

child-between : (b : OctreeBounds) (o : ℕ) → Between b → Between (child_of b o)
unfolding child_of
child-between b o p = refl

pub tree-between : (C W : List Float) (b : OctreeBounds) → Between b → Boxed Between (tree_of b C W).nodes
tree-between C W = tree-boxed Between child-between C W
