-- The counts that Select, Tree, Report and the whole frame answer fit a word: within the limits copies, picks, nodes and leaves are few, and no tree is
-- deeper than 14. Assumes nothing.
use mathlib.Core.Path.{◌≡◌, refl, sym, subst}
use mathlib.Core.Bool.{Bool, true, false, cond, ◌&&◌}
use mathlib.Core.List.{List, [], ◌∷◌}
use Prim.Native.Nat.{ℕ, zero, suc, ◌+◌, ◌^◌, ◌≤◌, ◌<◌}
use native.Mathlib.Omega.{arith}
use lib.Dec.{eqb}
use lib.ListN.{length, get_or}
use lib.Ieee.{Float}
use Rattle.division.specs.Split.{max_depth}
use Rattle.std.proofs.Common.{Result, Ok, Err, Option, Some, None}
use Rattle.base.specs.declared.Refused.{Refused}
use Rattle.base.specs.Refusals.{first_refusal, refused}
use Rattle.base.specs.Tables.{unless_refused}
use Rattle.selection.specs.Selection.{kept_copies, picks_of, select_refusal, select_answer, select_values}
use Rattle.selection.proofs.SoundSelect.{select-room}
use Rattle.bounds.specs.Bounds.{cell_box}
use Rattle.nodes.specs.Nodes.{Node, deepest}
use Rattle.octree.proofs.Counting.{nodes-within}
use Rattle.points.specs.Points.{tree_centers, tree_waters}
use Rattle.pick_lists.specs.Input.{Input}
use Rattle.octree.specs.Tree.{TreeTables}
use Rattle.tree.specs.Tree.{frame_tree, test_refusals, refusal_in, whole_records, tree_refusal, tree_answer, tree_values}
use Rattle.tree.proofs.TreeRefusals.{Tested, tested, call-tested}
use Rattle.leaf_table.specs.LeafTable.{is_reported, reported_leaves, dry_leaves}
use Rattle.report.specs.Report.{report_room, report_refusal, answer_by, report_answer, report_values}
use Rattle.leaf_table.proofs.LeafList.{reported-few}
use Rattle.report.proofs.ReportOutcomes.{nodes-small}
use Rattle.mixing.specs.declared.Mixture.{Mixture}
use Rattle.mixing.specs.Frame.{Frame, FrameTables, kept, pick_numbers, tree_input, mixture, frame_answer}
use Rattle.mixing.proofs.Outcomes.{Passed}
use Rattle.mixing.proofs.Tested.{room, waters-few, lists-sound}
use Rattle.mixing.proofs.Answered.{answered}
use Rattle.answers.specs.Interface.{Small, mixed_counts, frame_counts}

small-none : Small []
small-none zero = omega arith
small-none (suc k) = omega arith

small-more : (v : ℕ) (vs : List ℕ) → v < 2 ^ 32 → Small vs → Small (v ∷ vs)
small-more v vs h f zero = h
small-more v vs h f (suc k) = f k

small-two : (a b : ℕ) → a < 2 ^ 32 → b < 2 ^ 32 → Small (a ∷ b ∷ [])
small-two a b h g = small-more a (b ∷ []) h (small-more b [] g small-none)

-- the values of a success x, or of a refusal y
small-unless : {A : Type 0} (values : A → List ℕ) (r : ℕ) (x y : A) → (r ≡ 0 → Small (values x)) → Small (values y) → Small (values (unless_refused r x y))
small-unless values zero x y f g = f refl
small-unless values (suc r) x y f g = g

pub select-small : (solutes : List Float) (per : ℕ) (indices starts picks : List ℕ) → Small (select_values (select_answer solutes per indices starts picks))
unfolding select_answer
select-small solutes per indices starts picks =
    let cs = kept_copies solutes per indices in
    let r = select_refusal solutes per indices starts picks in
    small-unless select_values r (Ok (record { copies = length cs; picks = length (picks_of cs) })) (refused r)
    (λ e.
    let room = select-room solutes per indices starts picks e in
    small-two (length cs) (length (picks_of cs)) (omega (arith, room.few)) (omega (arith, room.short)))
    small-none

-- ---- trees
deepest-most : (vs : List Node) → ((v₀ : Node) (i : ℕ) → i < length vs → (get_or vs i v₀).depth ≤ max_depth) → deepest vs ≤ max_depth
unfolding deepest
deepest-most [] h = omega arith
deepest-most (v ∷ vs) h = omega (arith, h v 0 (omega arith), deepest-most vs (λ v₀ i g. h v₀ (suc i) (omega arith)))

dry-few : (vs : List Node) → dry_leaves vs ≤ reported_leaves vs
unfolding dry_leaves reported_leaves
dry-few [] = omega arith
dry-few (v ∷ vs) = by-test (is_reported v) (eqb v.waters 0) (dry-few vs)
  where
    by-test : (a b : Bool) → dry_leaves vs ≤ reported_leaves vs → cond (a && b) 1 0 + dry_leaves vs ≤ cond a 1 0 + reported_leaves vs
    by-test true true h = omega arith
    by-test true false h = omega arith
    by-test false b h = omega arith

-- nodes, greatest depth, reported leaves and dry leaves
abbrev four_counts : List Node → List ℕ
four_counts vs = length vs ∷ deepest vs ∷ reported_leaves vs ∷ dry_leaves vs ∷ []

module _ (f : Input) where
  abbrev vs : List Node
  vs = (frame_tree f).nodes

  depth-few : deepest vs ≤ max_depth
  unfolding frame_tree
  depth-few = deepest-most vs (λ v₀ i h. (nodes-within (cell_box f.cell) (tree_centers f) (tree_waters f.cell f.waters) v₀ i h).shallow)

  leaves-small : length vs < 2 ^ 32 → Small (four_counts vs)
  leaves-small few =
      let two = small-two (reported_leaves vs) (dry_leaves vs) (omega (arith, few, reported-few vs)) (omega (arith, few, reported-few vs, dry-few vs)) in
      small-more (length vs) (deepest vs ∷ reported_leaves vs ∷ dry_leaves vs ∷ []) few
      (small-more (deepest vs) (reported_leaves vs ∷ dry_leaves vs ∷ []) (omega (arith, depth-few)) two)

  -- a tree that is not refused passed the tests
  module _ (t : TreeTables) (room : ℕ) (e : refusal_in room f t ≡ 0) where
    passed : Tested f t.center_order t.water_order
    passed = tested f t.center_order t.water_order (none (first_refusal (test_refusals f t.center_order t.water_order)) refl)
      where
        none : (r : ℕ) → r ≡ first_refusal (test_refusals f t.center_order t.water_order) → first_refusal (test_refusals f t.center_order t.water_order) ≡ 0
        none zero h = sym h
        none (suc r) h = absurd (omega (arith, (call-tested room f t (suc r) h (λ z. omega arith)).0, e))

    nodes-few : length vs < 2 ^ 32
    nodes-few = nodes-small f passed.sound passed.waters-few

  module _ (t : TreeTables) where
    pub tree-small : Small (tree_values (tree_answer f t))
    unfolding tree_answer tree_refusal
    tree-small =
        small-unless tree_values (tree_refusal f t) (Ok (record { nodes = length vs; depth = deepest vs })) (refused (tree_refusal f t))
        (λ z. small-two (length vs) (deepest vs) (nodes-few t (whole_records t) z) (omega (arith, depth-few))) small-none

    pub report-small : (leaves : List ℕ) → Small (report_values (report_answer f t leaves))
    unfolding report_answer answer_by report_refusal
    report-small leaves =
        small-unless report_values (report_refusal f t leaves) (Ok (record { nodes = length vs; depth = deepest vs; leaves = reported_leaves vs; dry = dry_leaves vs })) (refused (report_refusal f t leaves))
        (λ z. leaves-small (nodes-few t (report_room t leaves) z)) small-none

-- ---- the whole frame
module _ (f : Frame) (t : FrameTables) where
  mixture-small : Passed f t → Small (mixed_counts (Some (mixture f t)))
  unfolding mixture
  mixture-small p =
      let fits = room f t p in
      let four = four_counts (frame_tree (tree_input f)).nodes in
      small-more (length (kept f)) (length (pick_numbers f) ∷ four) (omega (arith, fits.few))
      (small-more (length (pick_numbers f)) four (omega (arith, fits.light))
      (leaves-small (tree_input f) (nodes-small (tree_input f) (lists-sound f t p) (waters-few f p.within))))

  -- a refusal and blank have no counts
  pub frame_small : Small (frame_counts (frame_answer f t))
  frame_small = by-case (frame_answer f t) refl
    where
      by-case : (a : Result (Option Mixture) Refused) → a ≡ frame_answer f t → Small (frame_counts a)
      by-case (Err e) h = small-none
      by-case (Ok None) h = small-none
      by-case (Ok (Some m)) h = let a = answered f t m h in subst (λ (x : Mixture). Small (mixed_counts (Some x))) (sym a.is) (mixture-small a.passed)
