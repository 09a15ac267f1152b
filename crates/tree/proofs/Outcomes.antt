-- What a call answers and leaves: order lists of which a part was lent come back whole; at a refusal other than 13 every table is as it
-- was; the tree over written points is the frame's; and Tree's answer is the builder's. Assumes nothing.
use mathlib.Core.Path.{◌≡◌, refl, sym, ap, ◌∙◌}
use mathlib.Core.Bool.{Bool, true, false, cond}
use mathlib.Core.List.{List, [], ◌++◌, append_assoc}
use Prim.Native.Nat.{ℕ, ◌*◌, ◌≤◌}
use native.Mathlib.Omega.{arith}
use borrow.Author.Tests.{ne_eqb}
use lib.Dec.{ltb}
use lib.ListN.{length, take, drop, length-append, take-append-drop}
use lib.Seq.{length-take-le, take_at, drop-append-le}
use lib.Ieee.{Float}
use Rattle.std.specs.Prelude.{Option, Some, None, Ok, Err, ok_or}
use Rattle.base.specs.declared.Refused.{Refused}
use Rattle.base.specs.Refusals.{first_refusal, answer_of, refused}
use Rattle.base.specs.Tables.{over, unless_refused}
use Rattle.base.proofs.FirstRefusal.{at-refusal, refused-number}
use Rattle.pick_lists.specs.Sound.{copies}
use Rattle.pick_lists.specs.Input.{Input, given}
use Rattle.centers.specs.Centers.{centers_of}
use Rattle.octree.specs.declared.TreeSize.{TreeSize}
use Rattle.octree.specs.Tree.{Subtrees, size_of, TreeTables, tree_tables, tables_after}
use Rattle.octree.specs.Inner.{built_answer, built_number}
use Rattle.tree_tables.proofs.Answering.{Answers, tables-same, built-told}
use Rattle.points.specs.Points.{tree_centers, tree_waters, finite_waters}
use Rattle.tree.specs.Tree.{frame_tree, whole_records, tree_refusal, tree_answer, input_after, tree_after}
use Rattle.tree.specs.Inner.{tree_over, tree_on}
use Rattle.points.proofs.Wrapping.{centers-size}
use Rattle.points.proofs.WaterList.{waters-length}
use Rattle.tree.proofs.TreeRefusals.{tests, call-tested, call-room}

-- ---- a part of each order list was lent to the builder
part-back : (last x order : List ℕ) (n : ℕ) → length last ≡ length (take n order) → last ≡ over x (take n order) → last ++ drop n order ≡ over x order
unfolding over
part-back last x order n same e =
    let rest = drop (length x) (take n order) in
    let short : length x ≤ length (take n order) = omega (arith, ap length e, length-append x rest) in
    ap (λ (l : List ℕ). l ++ drop n order) e ∙ append_assoc x rest (drop n order)
    ∙ ap (λ (l : List ℕ). x ++ l) (sym (drop-append-le (length x) (take n order) (drop n order) short) ∙ ap (drop (length x)) (take-append-drop n order))

-- the tables t with the first n and m entries of their order lists
abbrev part_of : ℕ → ℕ → TreeTables → TreeTables
part_of n m t = tree_tables (take n t.center_order) (take m t.water_order) t.records t.boxes

module _ (g : Subtrees) (n m : ℕ) (t : TreeTables) (fit-c : n ≤ length t.center_order) (fit-w : m ≤ length t.water_order) where
  module _ (cs ws rec : List ℕ) (box : List Float) (same-c : length cs ≡ length (take n t.center_order)) (same_w : length ws ≡ length (take m t.water_order)) where
    abbrev whole_tables : TreeTables
    whole_tables = tree_tables (cs ++ drop n t.center_order) (ws ++ drop m t.water_order) rec box

    whole_back :
        (x y rec' : List ℕ) (box' : List Float) → tree_tables cs ws rec box ≡ tree_tables (over x (take n t.center_order)) (over y (take m t.water_order)) rec' box' →
        whole_tables ≡ tree_tables (over x t.center_order) (over y t.water_order) rec' box'
    whole_back x y rec' box' e =
        tables-same
        (part-back cs x t.center_order n same-c (ap (λ (u : TreeTables). u.center_order) e))
        (part-back ws y t.water_order m same_w (ap (λ (u : TreeTables). u.water_order) e))
        (ap (λ (u : TreeTables). u.records) e)
        (ap (λ (u : TreeTables). u.boxes) e)

    parts-of : (b : Option TreeSize) → tree_tables cs ws rec box ≡ tables_after (built_number b) g n m (part_of n m t) → whole_tables ≡ tables_after (built_number b) g n m t
    unfolding tables_after
    parts-of (Some s) e = whole_back _ _ _ _ e
    parts-of None e = whole_back _ _ _ _ e

    pub parts-back :
        (b : Option TreeSize) (room : ℕ) → Answers b room g (length (take n t.center_order)) (length (take m t.water_order)) (part_of n m t) (tree_tables cs ws rec box) →
        Answers b room g n m t whole_tables
    parts-back b room (answer, after) = (answer, parts-of b (after ∙ rw (length-take-le n t.center_order fit-c, length-take-le m t.water_order fit-w)))

-- ---- a refusal other than 13
pub unchanged : (r : ℕ) (f : Input) (t : TreeTables) → (r ≡ 0 → ⊥) → (r ≡ 13 → ⊥) → t ≡ input_after r f t
unfolding input_after tables_after
unchanged r f t h k = rw (ne_eqb r 0 h, ne_eqb r 13 k)

-- ---- the tree over points that stand at the start of a list
front : (L t : List Float) (k : ℕ) → length L ≡ k → take k (over L t) ≡ L
unfolding over
front L t k h = take_at L (drop (length L) t) k h

pub over-centers : (f : Input) (table wrapped : List Float) (m : ℕ) → tree_over f.cell (over (tree_centers f) table) (copies f.starts) wrapped m ≡ tree_on f wrapped m
unfolding tree_over tree_on
over-centers f table wrapped m = rw (front (tree_centers f) table (copies f.starts * 3) (centers-size f))

-- what a builder answers over a frame's tree, b, and the tables u that it leaves of t
abbrev pub FrameAnswers : Option TreeSize → ℕ → Input → TreeTables → TreeTables → Type 0
FrameAnswers b room f t u = (b ≡ built_answer room (frame_tree f)) × (u ≡ input_after (built_number b) f t)

-- `tree_of` is given the wrapped waters in place of the frame's
waters-given :
    (f : Input) (table : List Float) →
    tree_on (given f.cell f.solutes [] f.starts f.picks) (over (tree_waters f.cell f.waters) table) (finite_waters f.waters) ≡ frame_tree f
unfolding tree_on frame_tree tree_centers centers_of
waters-given f table = rw (front (tree_waters f.cell f.waters) table (finite_waters f.waters * 3) (waters-length f.cell f.waters))

pub over-waters :
    (f : Input) (b : Option TreeSize) (room m : ℕ) (wrapped table : List Float) (t u : TreeTables) → m ≡ finite_waters f.waters → wrapped ≡ over (tree_waters f.cell f.waters) table →
    Answers b room (tree_on (given f.cell f.solutes [] f.starts f.picks) wrapped m) (copies f.starts) m t u → FrameAnswers b room f t u
unfolding input_after
over-waters f b room m wrapped table t u p q a = rw (p, q, waters-given f table) at a

-- ---- Tree's answer
-- the builder's, with 13 for none
size-told : (g : Subtrees) (full : Bool) →
    ok_or (cond full None (Some (size_of g.nodes))) Refused.Nodes ≡ unless_refused (cond full 13 0) (Ok (size_of g.nodes)) (refused (cond full 13 0))
size-told g true = refl
size-told g false = refl

module _ (f : Input) (t : TreeTables) where
  -- the builder's answer, where the tests refuse nothing
  pub tree-built :
      (b : Option TreeSize) (u : TreeTables) → first_refusal (tests f t.center_order t.water_order) ≡ 0 →
      FrameAnswers b (whole_records t) f t u → (ok_or b Refused.Nodes ≡ tree_answer f t) × (u ≡ tree_after f t)
  unfolding tree_answer tree_after tree_refusal first_refusal
  tree-built b u none (answer, after) =
      let number = call-room (whole_records t) f t none in
      (rw (answer, number) (size-told (frame_tree f) (ltb (whole_records t) (length (frame_tree f).nodes))), rw number (rw (built-told (frame_tree f) (whole_records t) b answer).0 at after))

  -- a refusal of the tests
  pub tree-refused : (e : Refused) → Err e ≡ answer_of (first_refusal (tests f t.center_order t.water_order)) → (Err e ≡ tree_answer f t) × (t ≡ tree_after f t)
  unfolding tree_answer tree_after tree_refusal
  tree-refused e h =
      let r = first_refusal (tests f t.center_order t.water_order) in
      let own = refused-number e r h in
      let first = call-tested (whole_records t) f t r refl own.0 in
      rw (← first.0) (ap Err own.1 ∙ sym (at-refusal r _ _ own.0), unchanged r f t own.0 first.1)
