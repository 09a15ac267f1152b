-- What holds of every tree: it has at most 15 nodes for each point, every node has depth 14 at most and its points within the order
-- lists, and these have a number for each point. All by the points of the octants from one on. Assumes nothing.
use mathlib.Core.Path.{◌≡◌, refl, sym, ap, subst, ◌∙◌}
use mathlib.Core.Logic.{⊎_elim}
use mathlib.Core.Bool.{Bool, true, false, cond}
use mathlib.Core.List.{List, [], ◌∷◌, ◌++◌}
use Prim.Native.Nat.{ℕ, zero, suc, ◌+◌, ◌-◌, ◌*◌, ◌/◌, ◌≤◌, ◌<◌}
use native.Mathlib.Nat.{mul-add, suc-mul, eq-zero-or-pos}
use native.Mathlib.Omega.{arith}
use lib.ListN.{length, get_or, length-append}
use lib.Ieee.{Float}
use Rattle.bounds.specs.declared.OctreeBounds.{OctreeBounds}
use Rattle.bounds.specs.Bounds.{child_of}
use Rattle.octants.specs.Octants.{octant_points}
use Rattle.division.specs.Split.{splits, max_depth}
use Rattle.nodes.specs.Nodes.{Node}
use Rattle.octree.specs.Tree.{Subtrees, Builder, none, where_some, rooted, children_from, subtree, tree_of, point_numbers}
use Rattle.octants.specs.Inner.{lists_from, by_octant}
use Rattle.base.proofs.Filling.{numbers-length}
use Rattle.octants.proofs.Arranging.{octants-length}
use Rattle.octree.proofs.Children.{no-points, some-points}

-- a law of subtrees goes from a builder to what it makes where there are points
some_or_none : (P : Subtrees → Type 0) (go : Builder) (at fc fw : ℕ) (b : OctreeBounds) (cs ws : List ℕ)
    → (length cs + length ws ≡ 0 → P (where_some go at fc fw b cs ws)) → (0 < length cs + length ws → P (go at fc fw b cs ws)) → P (where_some go at fc fw b cs ws)
some_or_none P go at fc fw b cs ws f g =
    ⊎_elim f (λ p. subst P (sym (some-points go at fc fw b cs ws (λ e. omega (arith, e, p)))) (g p)) (eq-zero-or-pos (length cs + length ws))

-- ---- the number of nodes
abbrev Few : ℕ → Builder → Type 0
Few m go = (at fc fw : ℕ) (b : OctreeBounds) (cs ws : List ℕ) → 0 < length cs + length ws → length (go at fc fw b cs ws).nodes ≤ m * (length cs + length ws)

module _ (C W : List Float) (go : Builder) (m : ℕ) (h : Few m go) where
  where-few : (at fc fw : ℕ) (b : OctreeBounds) (cs ws : List ℕ) → length (where_some go at fc fw b cs ws).nodes ≤ m * (length cs + length ws)
  where-few at fc fw b cs ws =
      some_or_none (λ (g : Subtrees). length g.nodes ≤ m * (length cs + length ws)) go at fc fw b cs ws
      (λ e. rw (no-points go at fc fw b cs ws e) (omega arith)) (h at fc fw b cs ws)

  children-few : (left at fc fw : ℕ) (b : OctreeBounds) (cs ws : List ℕ)
      → length (children_from C W go left at fc fw b cs ws).nodes ≤ m * (length (lists_from (by_octant C b.center cs) left) + length (lists_from (by_octant W b.center ws) left))
  unfolding children_from lists_from
  children-few zero at fc fw b cs ws = omega arith
  children-few (suc l) at fc fw b cs ws =
      let c = octant_points C b.center (7 - l) cs in
      let w = octant_points W b.center (7 - l) ws in
      let c' = lists_from (by_octant C b.center cs) l in
      let w' = lists_from (by_octant W b.center ws) l in
      let s = where_some go at fc fw (child_of b (7 - l)) c w in
      let r = children_from C W go l (at + length s.nodes) (fc + length c) (fw + length w) b cs ws in
      let k : length c + length w + (length c' + length w') ≡ length (c ++ c') + length (w ++ w') = omega (arith, length-append c c', length-append w w') in
      let e : m * (length (c ++ c') + length (w ++ w')) ≡ m * (length c + length w) + m * (length c' + length w') =
      ap (λ (n : ℕ). m * n) (sym k) ∙ mul-add m (length c + length w) (length c' + length w') in
      omega (arith, where-few at fc fw (child_of b (7 - l)) c w, children-few l (at + length s.nodes) (fc + length c) (fw + length w) b cs ws, e, length-append s.nodes r.nodes)

  all-few : (at fc fw : ℕ) (b : OctreeBounds) (cs ws : List ℕ) → length (children_from C W go 8 at fc fw b cs ws).nodes ≤ m * (length cs + length ws)
  all-few at fc fw b cs ws =
      (rw (octants-length C b.center cs, octants-length W b.center ws) at (children-few 8 at fc fw b cs ws))

either : (P : Subtrees → Type 0) (t : Bool) (x y : Subtrees) → P x → P y → P (cond t x y)
either P true x y p q = p
either P false x y p q = q

subtree-few : (C W : List Float) (f : ℕ) → Few (suc f) (subtree C W f)
unfolding subtree
subtree-few C W zero at fc fw b cs ws h = omega arith
subtree-few C W (suc f) at fc fw b cs ws h =
    let n = length cs + length ws in
    let s = children_from C W (subtree C W f) 8 (at + 1) fc fw b cs ws in
    let k = either (λ (g : Subtrees). length g.nodes ≤ suc f * n) (splits b cs) s (none cs ws)
    (all-few C W (subtree C W f) (suc f) (subtree-few C W f) (at + 1) fc fw b cs ws) (omega arith) in
    omega (arith, k, suc-mul (suc f) n)

pub nodes-few : (b : OctreeBounds) (C W : List Float) → length (tree_of b C W).nodes ≤ 15 * (length C / 3 + length W / 3)
unfolding tree_of
nodes-few b C W =
    let k = where-few C W (subtree C W max_depth) 15 (subtree-few C W max_depth) 0 0 0 b (point_numbers C) (point_numbers W) in
    omega (arith, k, numbers-length (length C / 3), numbers-length (length W / 3))

-- ---- every node
-- P holds of each node of the list, by its number
abbrev pub Every : (Node → Type 0) → List Node → Type 0
Every P ns = (n₀ : Node) (i : ℕ) → i < length ns → P (get_or ns i n₀)

every-none : (P : Node → Type 0) → Every P []
every-none P n₀ i h = absurd (omega arith)

every_more : (P : Node → Type 0) (n : Node) (ns : List Node) → P n → Every P ns → Every P (n ∷ ns)
every_more P n ns p f n₀ zero h = p
every_more P n ns p f n₀ (suc i) h = f n₀ i (omega arith)

every_append : (P : Node → Type 0) (a b : List Node) → Every P a → Every P b → Every P (a ++ b)
every_append P [] b f g = g
every_append P (n ∷ ns) b f g = every_more P n (ns ++ b) (f n 0 (omega arith)) (every_append P ns b (λ n₀ i h. f n₀ (suc i) (omega arith)) g)

every-weaker : (P Q : Node → Type 0) (ns : List Node) → ((n : Node) → P n → Q n) → Every P ns → Every Q ns
every-weaker P Q ns f g n₀ i h = f (get_or ns i n₀) (g n₀ i h)

-- at depth 14 at most, with centers among the nc from fc on and waters among the nw from fw on
pub record NodeWithin (fc nc fw nw : ℕ) (n : Node) : Type 0 where
  pub shallow : n.depth ≤ max_depth
  pub from-c : fc ≤ n.first_center
  pub to-c : n.first_center + n.centers ≤ fc + nc
  pub from-w : fw ≤ n.first_water
  pub to-w : n.first_water + n.waters ≤ fw + nw

abbrev Inside : Builder → Type 0
Inside go = (at fc fw : ℕ) (b : OctreeBounds) (cs ws : List ℕ) → Every (NodeWithin fc (length cs) fw (length ws)) (go at fc fw b cs ws).nodes

wider : (fc nc fw nw fc' nc' fw' nw' : ℕ) → fc ≤ fc' → fc' + nc' ≤ fc + nc → fw ≤ fw' → fw' + nw' ≤ fw + nw
    → (n : Node) → NodeWithin fc' nc' fw' nw' n → NodeWithin fc nc fw nw n
wider fc nc fw nw fc' nc' fw' nw' p q r s n w =
    record { shallow = w.shallow; from-c = omega (arith, w.from-c); to-c = omega (arith, w.to-c); from-w = omega (arith, w.from-w); to-w = omega (arith, w.to-w) }

module _ (C W : List Float) (go : Builder) (h : Inside go) where
  where-inside : Inside (where_some go)
  where-inside at fc fw b cs ws =
      some_or_none (λ (g : Subtrees). Every (NodeWithin fc (length cs) fw (length ws)) g.nodes) go at fc fw b cs ws
      (λ e. rw (no-points go at fc fw b cs ws e) (every-none (NodeWithin fc (length cs) fw (length ws)))) (λ p. h at fc fw b cs ws)

  children-inside : (left at fc fw : ℕ) (b : OctreeBounds) (cs ws : List ℕ)
      → Every (NodeWithin fc (length (lists_from (by_octant C b.center cs) left)) fw (length (lists_from (by_octant W b.center ws) left))) (children_from C W go left at fc fw b cs ws).nodes
  unfolding children_from lists_from
  children-inside zero at fc fw b cs ws = every-none (NodeWithin fc 0 fw 0)
  children-inside (suc l) at fc fw b cs ws =
      let c = octant_points C b.center (7 - l) cs in
      let w = octant_points W b.center (7 - l) ws in
      let c' = lists_from (by_octant C b.center cs) l in
      let w' = lists_from (by_octant W b.center ws) l in
      let s = where_some go at fc fw (child_of b (7 - l)) c w in
      let r = children_from C W go l (at + length s.nodes) (fc + length c) (fw + length w) b cs ws in
      let kc = length-append c c' in
      let kw = length-append w w' in
      let P = NodeWithin fc (length (c ++ c')) fw (length (w ++ w')) in
      every_append P s.nodes r.nodes
      (every-weaker (NodeWithin fc (length c) fw (length w)) P s.nodes
      (wider fc (length (c ++ c')) fw (length (w ++ w')) fc (length c) fw (length w) (omega arith) (omega (arith, kc)) (omega arith) (omega (arith, kw)))
      (where-inside at fc fw (child_of b (7 - l)) c w))
      (every-weaker (NodeWithin (fc + length c) (length c') (fw + length w) (length w')) P r.nodes
      (wider fc (length (c ++ c')) fw (length (w ++ w')) (fc + length c) (length c') (fw + length w) (length w') (omega arith) (omega (arith, kc)) (omega arith) (omega (arith, kw)))
      (children-inside l (at + length s.nodes) (fc + length c) (fw + length w) b cs ws))

  all-inside : Inside (children_from C W go 8)
  all-inside at fc fw b cs ws = (rw (octants-length C b.center cs, octants-length W b.center ws) at (children-inside 8 at fc fw b cs ws))

root-inside : (d at fc fw : ℕ) (b : OctreeBounds) (cs ws : List ℕ) (below : Subtrees) → d ≤ max_depth
    → Every (NodeWithin fc (length cs) fw (length ws)) below.nodes → Every (NodeWithin fc (length cs) fw (length ws)) (rooted d at fc fw b cs ws below).nodes
root-inside d at fc fw b cs ws below h f =
    every_more (NodeWithin fc (length cs) fw (length ws)) _ below.nodes
    (record { shallow = h; from-c = omega arith; to-c = omega arith; from-w = omega arith; to-w = omega arith }) f

subtree-inside : (C W : List Float) (f : ℕ) → Inside (subtree C W f)
unfolding subtree
subtree-inside C W zero at fc fw b cs ws = root-inside max_depth at fc fw b cs ws (none cs ws) (omega arith) (every-none (NodeWithin fc (length cs) fw (length ws)))
subtree-inside C W (suc f) at fc fw b cs ws =
    root-inside (max_depth - suc f) at fc fw b cs ws (cond (splits b cs) (children_from C W (subtree C W f) 8 (at + 1) fc fw b cs ws) (none cs ws)) (omega arith)
    (either (λ (g : Subtrees). Every (NodeWithin fc (length cs) fw (length ws)) g.nodes) (splits b cs) (children_from C W (subtree C W f) 8 (at + 1) fc fw b cs ws) (none cs ws)
    (all-inside C W (subtree C W f) (subtree-inside C W f) (at + 1) fc fw b cs ws) (every-none (NodeWithin fc (length cs) fw (length ws))))

pub nodes-within : (b : OctreeBounds) (C W : List Float) → Every (NodeWithin 0 (length C / 3) 0 (length W / 3)) (tree_of b C W).nodes
unfolding tree_of
nodes-within b C W =
    let kc = numbers-length (length C / 3) in
    let kw = numbers-length (length W / 3) in
    every-weaker (NodeWithin 0 (length (point_numbers C)) 0 (length (point_numbers W))) (NodeWithin 0 (length C / 3) 0 (length W / 3)) (tree_of b C W).nodes
    (wider 0 (length C / 3) 0 (length W / 3) 0 (length (point_numbers C)) 0 (length (point_numbers W)) (omega arith) (omega (arith, kc)) (omega arith) (omega (arith, kw)))
    (where-inside C W (subtree C W max_depth) (subtree-inside C W max_depth) 0 0 0 b (point_numbers C) (point_numbers W))

-- ---- the order lists: as many numbers as points
abbrev Ordered : List ℕ → List ℕ → Subtrees → Type 0
Ordered cs ws g = (length g.center_order ≡ length cs) × (length g.water_order ≡ length ws)

module _ (C W : List Float) (go : Builder) (h : (at fc fw : ℕ) (b : OctreeBounds) (cs ws : List ℕ) → Ordered cs ws (go at fc fw b cs ws)) where
  where-ordered : (at fc fw : ℕ) (b : OctreeBounds) (cs ws : List ℕ) → Ordered cs ws (where_some go at fc fw b cs ws)
  where-ordered at fc fw b cs ws =
      some_or_none (Ordered cs ws) go at fc fw b cs ws
      (λ e. rw (no-points go at fc fw b cs ws e) (omega (arith, e), omega (arith, e))) (λ p. h at fc fw b cs ws)

  children-ordered : (left at fc fw : ℕ) (b : OctreeBounds) (cs ws : List ℕ)
      → Ordered (lists_from (by_octant C b.center cs) left) (lists_from (by_octant W b.center ws) left) (children_from C W go left at fc fw b cs ws)
  unfolding children_from lists_from
  children-ordered zero at fc fw b cs ws = (refl, refl)
  children-ordered (suc l) at fc fw b cs ws =
      let c = octant_points C b.center (7 - l) cs in
      let w = octant_points W b.center (7 - l) ws in
      let s = where_some go at fc fw (child_of b (7 - l)) c w in
      let r = children_from C W go l (at + length s.nodes) (fc + length c) (fw + length w) b cs ws in
      let first = where-ordered at fc fw (child_of b (7 - l)) c w in
      let rest = children-ordered l (at + length s.nodes) (fc + length c) (fw + length w) b cs ws in (
        omega (arith, first.0, rest.0, length-append s.center_order r.center_order, length-append c (lists_from (by_octant C b.center cs) l)),
        omega (arith, first.1, rest.1, length-append s.water_order r.water_order, length-append w (lists_from (by_octant W b.center ws) l)),
      )

  all-ordered : (at fc fw : ℕ) (b : OctreeBounds) (cs ws : List ℕ) → Ordered cs ws (children_from C W go 8 at fc fw b cs ws)
  all-ordered at fc fw b cs ws =
      let e = children-ordered 8 at fc fw b cs ws in
      (e.0 ∙ octants-length C b.center cs, e.1 ∙ octants-length W b.center ws)

subtree-ordered : (C W : List Float) (levels at fc fw : ℕ) (b : OctreeBounds) (cs ws : List ℕ) → Ordered cs ws (subtree C W levels at fc fw b cs ws)
unfolding subtree
subtree-ordered C W zero at fc fw b cs ws = (refl, refl)
subtree-ordered C W (suc levels) at fc fw b cs ws =
    either (Ordered cs ws) (splits b cs) (children_from C W (subtree C W levels) 8 (at + 1) fc fw b cs ws) (none cs ws)
    (all-ordered C W (subtree C W levels) (subtree-ordered C W levels) (at + 1) fc fw b cs ws) (refl, refl)

-- so a tree's order list replaces a lent list of as many entries whole
pub tree-ordered : (b : OctreeBounds) (C W : List Float) → (length (tree_of b C W).center_order ≡ length C / 3) × (length (tree_of b C W).water_order ≡ length W / 3)
unfolding tree_of
tree-ordered b C W =
    let e = where-ordered C W (subtree C W max_depth) (subtree-ordered C W max_depth) 0 0 0 b (point_numbers C) (point_numbers W) in
    (e.0 ∙ numbers-length (length C / 3), e.1 ∙ numbers-length (length W / 3))
