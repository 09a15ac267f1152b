-- The end of the octant loop of `build`, with the node's own record and box; and what an answer tells. Assumes nothing.
use mathlib.Core.Path.{◌≡◌, refl, sym, ap, ap₂, subst, ◌∙◌}
use mathlib.Core.Logic.{inl, inr}
use mathlib.Core.List.{List, [], ◌∷◌, ◌++◌, append-nil}
use Prim.Native.Nat.{ℕ, suc, ◌+◌, ◌*◌, ◌≤◌, ◌<◌, max}
use native.Mathlib.Nat.{add-zero}
use native.Mathlib.Omega.{arith}
use lib.ListN.{length}
use lib.Ieee.{Float}
use Rattle.std.specs.Prelude.{Option, Some, None}
use Rattle.base.specs.Tables.{placed}
use Rattle.bounds.specs.declared.OctreeBounds.{OctreeBounds}
use Rattle.bounds.specs.Bounds.{child_of}
use Rattle.octree.specs.declared.TreeSize.{TreeSize}
use Rattle.nodes.specs.Nodes.{Node, deepest, corners_of, records_of, boxes_of}
use Rattle.octree.specs.Tree.{Subtrees, none, join, children_from, rooted}
use Rattle.octants.specs.Inner.{lists_from}
use Rattle.octree.specs.Inner.{Filled, Planted}
use Rattle.nodes.proofs.NodeTables.{eight, records-length, boxes-length}
use Rattle.base.proofs.Placing.{placed-before}
use Rattle.octree.proofs.Stretches.{stretch, child-points}
use Rattle.octree.proofs.Growing.{Site, Turn, Growing, Visited, child_tree, next-c, next-w, whole_of, later_c, later_w}

module _ (S : Site) (T : Turn) (z : Growing S T) (no-turn : T.left ≡ 0) (rr : S.room * 8 ≤ length S.rec₀) (rb : S.room * 6 ≤ length S.box₀) where
  last : join z.done (none (later_c S 0) (later_w S 0)) ≡ whole_of S
  unfolding children_from lists_from
  last = (rw no-turn at z.total)

  nodes-are : z.done.nodes ≡ (whole_of S).nodes
  nodes-are = sym (append-nil z.done.nodes) ∙ ap (λ (g : Subtrees). g.nodes) last

  roots-are : T.kids ≡ (whole_of S).roots
  roots-are = z.roots-is ∙ sym (add-zero z.done.roots) ∙ ap (λ (g : Subtrees). g.roots) last

  -- the number after the subtree, and its greatest depth
  next-is : T.next ≡ S.at + 1 + length (whole_of S).nodes
  next-is = omega (arith, z.count, ap length nodes-are)

  all-next : T.next ≡ S.at + suc (length (whole_of S).nodes)
  all-next = omega (arith, next-is)

  deep_is : T.deep ≡ max S.depth (deepest (whole_of S).nodes)
  deep_is = z.deep_is ∙ ap (λ (x : List Node). max S.depth (deepest x)) nodes-are

  abbrev header : List ℕ
  header = S.depth ∷ S.fc ∷ length S.cs₀ ∷ S.fw ∷ length S.ws₀ ∷ (whole_of S).roots ∷ (S.at + 1 + length (whole_of S).nodes) ∷ 0 ∷ []

  -- the node's own entries before those of the nodes below it
  table_is : placed (S.at * 8) header T.rec ≡ placed (S.at * 8) (header ++ records_of (whole_of S).nodes) S.rec₀
  table_is =
      ap (placed (S.at * 8) header) (z.table ∙ ap (λ (x : List Node). placed ((S.at + 1) * 8) (records_of x) S.rec₀) nodes-are)
      ∙ placed-before S.rec₀ header (records_of (whole_of S).nodes) (S.at * 8) ((S.at + 1) * 8) (omega arith)
      (omega (arith, next-is, z.within, records-length (whole_of S).nodes))

  corners-are : placed (S.at * 6) (corners_of S.b) T.box ≡ placed (S.at * 6) (corners_of S.b ++ boxes_of (whole_of S).nodes) S.box₀
  corners-are =
      ap (placed (S.at * 6) (corners_of S.b)) (z.corners ∙ ap (λ (x : List Node). placed ((S.at + 1) * 6) (boxes_of x) S.box₀) nodes-are)
      ∙ placed-before S.box₀ (corners_of S.b) (boxes_of (whole_of S).nodes) (S.at * 6) ((S.at + 1) * 6) (omega arith)
      (omega (arith, next-is, z.within, boxes-length (whole_of S).nodes))

  pub finish : (nc nw : ℕ) (rec' : List ℕ) (box' : List Float) → nc ≡ length S.cs₀ → nw ≡ length S.ws₀
      → rec' ≡ placed (S.at * 8) (S.depth ∷ S.fc ∷ nc ∷ S.fw ∷ nw ∷ T.kids ∷ T.next ∷ 0 ∷ []) T.rec
      → box' ≡ placed (S.at * 6) (corners_of S.b) T.box
      → Planted S.room (rooted S.depth S.at S.fc S.fw S.b S.cs₀ S.ws₀ (whole_of S)) S.at (Some (record { nodes = T.next; depth = T.deep }))
      T.cs T.ws S.rec₀ rec' S.box₀ box'
  unfolding records_of boxes_of deepest
  finish nc nw rec' box' p q u v =
      inl (
        omega (arith, next-is, z.within),
        record {
          answer = ap₂ (λ (n d : ℕ). Some (record { nodes = n; depth = d })) all-next deep_is;
          order-c = (rw no-turn at z.order-c) ∙ ap (λ (g : Subtrees). g.center_order) last;
          order-w = (rw no-turn at z.order-w) ∙ ap (λ (g : Subtrees). g.water_order) last;
          table = u ∙ ap (λ (y : List ℕ). placed (S.at * 8) y T.rec) (eight refl refl p refl q roots-are next-is) ∙ table_is;
          corners = v ∙ corners-are;
        },
      )

-- ---- what an answer tells
module _ (room : ℕ) (g : Subtrees) (at : ℕ) (r : Option TreeSize) (cs ws rec₀ rec : List ℕ) (box₀ box : List Float) where
  pub full-of : Planted room g at r cs ws rec₀ rec box₀ box → r ≡ None → room < at + length g.nodes
  full-of (inl (h, f)) e = cc (f.answer, e)
  full-of (inr (h, f)) e = h

  pub filled_of : Planted room g at r cs ws rec₀ rec box₀ box → (s : TreeSize) → r ≡ Some s
      → (at + length g.nodes ≤ room) × Filled g at r cs ws rec₀ rec box₀ box × (s.nodes ≡ at + length g.nodes) × (s.depth ≡ deepest g.nodes)
  filled_of (inl (h, f)) s e =
      let q : s ≡ record { nodes = at + length g.nodes; depth = deepest g.nodes } = cc (f.answer, e) in
      (h, f, ap (λ (u : TreeSize). u.nodes) q, ap (λ (u : TreeSize). u.depth) q)
  filled_of (inr (h, f)) s e = cc (f, e)

  pub planted-at : (g' : Subtrees) → g ≡ g' → Planted room g at r cs ws rec₀ rec box₀ box → Planted room g' at r cs ws rec₀ rec box₀ box
  planted-at g' e p = subst (λ (u : Subtrees). Planted room u at r cs ws rec₀ rec box₀ box) e p

-- of the subtree of an octant, where the child was asked for the box b' and for its stretches of the order lists
pub planted : {S : Site} {T : Turn} (z : Growing S T) {l o nc nw : ℕ} (v : Visited S T l o nc nw) {r : Option TreeSize} {zc zw rec' : List ℕ} {box' : List Float} {b' : OctreeBounds}
    → b' ≡ child_of S.b o
    → Planted S.room (S.go T.next (S.fc + T.ca) (S.fw + T.wa) b' (stretch T.ca nc T.cs) (stretch T.wa nw T.ws)) T.next r zc zw T.rec rec' T.box box'
    → Planted S.room (child_tree S T o) T.next r zc zw T.rec rec' T.box box'
planted {S} {T} z {o = o} v {r} {zc} {zw} {rec'} {box'} e p =
    planted-at S.room _ T.next r zc zw T.rec rec' T.box box' (child_tree S T o) (cc (e, child-points (next-c z v), child-points (next-w z v))) p
