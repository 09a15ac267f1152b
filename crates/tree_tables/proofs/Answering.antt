-- From the builder's answer at the root to the whole tree's: no points, no room, and room; and what that answer tells a caller.
-- Assumes nothing.
use mathlib.Core.Path.{◌≡◌, refl, sym, ap, ◌∙◌}
use mathlib.Core.Bool.{Bool, true, false, cond}
use mathlib.Core.List.{List, [], ◌∷◌, append-nil}
use Prim.Native.Nat.{ℕ, ◌+◌, ◌/◌, ◌≤◌, ◌<◌, min, ◌*◌}
use native.Mathlib.Omega.{arith}
use lib.ListN.{length, replicate, drop_of_length-le}
use lib.Ieee.{Float, binary32, of_bits}
use borrow.Author.Tests.{lt-ltb, le-ltb}
use lib.Dec.{ltb}
use Rattle.base.specs.Limits.{max_atoms}
use Rattle.division.specs.Split.{max_depth}
use Rattle.base.specs.Refusals.{first_refusal}
use Rattle.base.specs.Tables.{over, first_numbers}
use Rattle.bounds.specs.declared.OctreeBounds.{OctreeBounds}
use Rattle.std.specs.Prelude.{Option, Some, None}
use Rattle.octree.specs.declared.TreeSize.{TreeSize}
use Rattle.octree.specs.Tree.{Subtrees, size_of, none, where_some, subtree, tree_of, point_numbers, room_refusal, TreeTables, tree_tables, tables_after}
use Rattle.octree.specs.Inner.{Numbered, built_answer, built_number, Filled}
use Rattle.nodes.specs.Nodes.{deepest, records_of, boxes_of}
use Rattle.base.proofs.Placing.{placed-zero}
use Rattle.base.proofs.Filling.{numbers-length}
use Rattle.octree.proofs.Children.{no-points, some-points}
use Rattle.octree.proofs.Counting.{nodes-few}

-- a builder's answer b for a tree g of n centers and m waters, and the tables u that it leaves of t
abbrev pub Answers : Option TreeSize → ℕ → Subtrees → ℕ → ℕ → TreeTables → TreeTables → Type 0
Answers b room g n m t u = (b ≡ built_answer room g) × (u ≡ tables_after (built_number b) g n m t)

-- the cap on the room
abbrev pub most_nodes : ℕ
most_nodes = (max_depth + 1) * (2 * max_atoms)

-- an order list's length is the number of its points
pub numbered : (points : List Float) (order : List ℕ) → Numbered points order → length points / 3 ≡ length order
numbered points order h = omega (arith, h.all)

module _ (b : OctreeBounds) (C W : List Float) (cs ws : List ℕ) (hc : Numbered C cs) (hw : Numbered W ws) where
  tree-by : tree_of b C W ≡ where_some (subtree C W max_depth) 0 0 0 b (first_numbers (length cs)) (first_numbers (length ws))
  unfolding tree_of
  tree-by =
      ap (λ (n : ℕ). where_some (subtree C W max_depth) 0 0 0 b (first_numbers n) (point_numbers W)) (numbered C cs hc)
      ∙ ap (λ (n : ℕ). where_some (subtree C W max_depth) 0 0 0 b (first_numbers (length cs)) (first_numbers n)) (numbered W ws hw)

  pub tree-none : length cs + length ws ≡ 0 → tree_of b C W ≡ none [] []
  tree-none e =
      tree-by
      ∙ no-points (subtree C W max_depth) 0 0 0 b (first_numbers (length cs)) (first_numbers (length ws)) (omega (arith, numbers-length (length cs), numbers-length (length ws)))

  pub tree-some : (length cs + length ws ≡ 0 → ⊥) → (cs₁ ws₁ : List ℕ) → cs₁ ≡ first_numbers (length cs) → ws₁ ≡ first_numbers (length ws)
      → subtree C W max_depth 0 0 0 b cs₁ ws₁ ≡ tree_of b C W
  tree-some some cs₁ ws₁ p q =
      ap (λ (u : List ℕ). subtree C W max_depth 0 0 0 b u ws₁) p
      ∙ ap (subtree C W max_depth 0 0 0 b (first_numbers (length cs))) q
      ∙ sym
      (tree-by
      ∙ some-points (subtree C W max_depth) 0 0 0 b (first_numbers (length cs)) (first_numbers (length ws))
      (λ e. some (omega (arith, e, numbers-length (length cs), numbers-length (length ws)))))

  -- the cap on the room changes nothing
  module _ (R room : ℕ) (e : room ≡ min R most_nodes) where
    few : length (tree_of b C W).nodes ≤ most_nodes
    few = omega (arith, nodes-few b C W, numbered C cs hc, numbered W ws hw, hc.few, hw.few)

    pub cap-full : room < 0 + length (tree_of b C W).nodes → R < length (tree_of b C W).nodes
    cap-full h = omega (arith, few)

    pub cap-fits : 0 + length (tree_of b C W).nodes ≤ room → length (tree_of b C W).nodes ≤ R
    cap-fits h = omega (arith, few)

-- tables are equal by their parts
pub tables-same : {co co' wo wo' rec rec' : List ℕ} {box box' : List Float} → co ≡ co' → wo ≡ wo' → rec ≡ rec' → box ≡ box' → tree_tables co wo rec box ≡ tree_tables co' wo' rec' box'
tables-same p q u v = rw (p, q, u, v)

-- a list that replaces a whole table
over-whole : {A : Type 0} {x ys : List A} (t : List A) → x ≡ ys → length ys ≡ length t → x ≡ over ys t
unfolding over
over-whole {ys = ys} t e h = e ∙ sym (rw (drop_of_length-le t {i = length ys} (omega arith), append-nil))

-- order lists with a place for each point, so that they are replaced whole
module _ (g : Subtrees) (room : ℕ) (t : TreeTables) where
  abbrev Whole : Option TreeSize → List ℕ → List ℕ → List ℕ → List Float → Type 0
  Whole r cs ws rec box = Answers r room g (length t.center_order) (length t.water_order) t (tree_tables cs ws rec box)

  pub answered-none : (cs ws : List ℕ) → g ≡ none [] [] → cs ≡ t.center_order → ws ≡ t.water_order → Whole (Some (record { nodes = 0; depth = 0 })) cs ws t.records t.boxes
  unfolding deepest records_of boxes_of over tables_after
  answered-none cs ws e p q = rw (e, p, q, le-ltb room 0 (omega arith)) (refl, refl)

  pub answered-full : (cs ws rec : List ℕ) (box : List Float) → room < length g.nodes → cs ≡ first_numbers (length t.center_order) → ws ≡ first_numbers (length t.water_order)
      → rec ≡ replicate (length t.records) 0 → box ≡ replicate (length t.boxes) (of_bits binary32 0) → Whole None cs ws rec box
  unfolding tables_after
  answered-full cs ws rec box h p q u v =
      rw (lt-ltb room (length g.nodes) h) (refl, tables-same (over-whole t.center_order p (numbers-length (length t.center_order))) (over-whole t.water_order q (numbers-length (length t.water_order))) u v)

  pub answered-fits : (r : Option TreeSize) (cs ws rec : List ℕ) (box : List Float) → length g.nodes ≤ room → Filled g 0 r cs ws t.records rec t.boxes box
      → length cs ≡ length t.center_order → length ws ≡ length t.water_order → Whole r cs ws rec box
  unfolding tables_after
  answered-fits r cs ws rec box h f lc lw =
      let n : 0 + length g.nodes ≡ length g.nodes = omega arith in
      rw (f.answer, le-ltb room (length g.nodes) h) (
        ap (λ (k : ℕ). Some (record { nodes = k; depth = deepest g.nodes })) n,
        tables-same (over-whole t.center_order f.order-c (ap length (sym f.order-c) ∙ lc)) (over-whole t.water_order f.order-w (ap length (sym f.order-w) ∙ lw))
            (f.table ∙ placed-zero (records_of g.nodes) t.records) (f.corners ∙ placed-zero (boxes_of g.nodes) t.boxes),
      )

-- ---- what an answer tells: its number is the refusal's, and its size is the tree's
module _ (g : Subtrees) where
  abbrev told : Bool → Option TreeSize
  told full = cond full None (Some (size_of g.nodes))

  told-number : (full : Bool) → built_number (told full) ≡ cond full 13 0
  told-number true = refl
  told-number false = refl

  told-size : (full : Bool) (s : TreeSize) → Some s ≡ told full → s ≡ size_of g.nodes
  told-size true s e = cc
  told-size false s e = cc

  pub built-told : (room : ℕ) (b : Option TreeSize) → b ≡ built_answer room g
      → (built_number b ≡ first_refusal (room_refusal room g ∷ [])) × ((s : TreeSize) → b ≡ Some s → s ≡ size_of g.nodes)
  unfolding first_refusal
  built-told room b e =
      (ap built_number e ∙ told-number (ltb room (length g.nodes)), λ s p. told-size (ltb room (length g.nodes)) s (sym p ∙ e))
