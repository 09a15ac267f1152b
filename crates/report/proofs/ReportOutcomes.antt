-- What Report finds in the tables that Tree filled: the tree's own nodes, with words that are small, and the leaf table over the wrapped
-- waters at the start of the local array; and what the call answers and leaves. Assumes nothing.
use mathlib.Core.Path.{◌≡◌, refl, sym, ap, ◌∙◌}
use mathlib.Core.Bool.{true}
use mathlib.Core.List.{List, [], ◌∷◌}
use Prim.Native.Nat.{ℕ, zero, suc, ◌+◌, ◌*◌, ◌/◌, ◌^◌, ◌≤◌, ◌<◌}
use native.Mathlib.Omega.{arith}
use borrow.Author.Tests.{ltb-false, ne_eqb}
use lib.ListN.{length, get_or, drop, replicate, get_or-append}
use lib.Ieee.{Float}
use Rattle.base.specs.Limits.{max_atoms}
use Rattle.cell.specs.declared.Cell.{Cell}
use Rattle.std.specs.Prelude.{Result, Ok, Err, Some}
use Rattle.base.specs.declared.Refused.{Refused}
use Rattle.base.specs.Refusals.{first_refusal, refused, answer_of, answer_number}
use Rattle.base.specs.Tables.{over}
use Rattle.base.proofs.FirstRefusal.{first-none, at-refusal, refused-number, known, number-answered}
use Rattle.pick_lists.specs.Sound.{copies, sound_lists}
use Rattle.pick_lists.specs.Input.{Input}
use Rattle.pick_lists.proofs.SoundLists.{sound-lists}
use Rattle.bounds.specs.declared.OctreeBounds.{OctreeBounds}
use Rattle.bounds.specs.Bounds.{cell_box}
use Rattle.nodes.specs.Nodes.{Node, record_of, records_of}
use Rattle.octree.specs.Tree.{size_of, room_refusal, TreeTables, tables_after}
use Rattle.nodes.proofs.NodeTables.{records-length, record-word}
use Rattle.octree.proofs.Counting.{nodes-few, nodes-within}
use Rattle.points.specs.Points.{tree_centers, tree_waters, finite_waters}
use Rattle.tree.specs.Tree.{frame_tree, input_after}
use Rattle.points.proofs.Wrapping.{point-over, centers-size}
use Rattle.points.proofs.WaterList.{waters-length, waters-few}
use Rattle.tree.proofs.TreeRefusals.{tests, call-tested, call-room}
use Rattle.tree_tables.proofs.Answering.{built-told}
use Rattle.tree.proofs.Outcomes.{FrameAnswers, unchanged}
use Rattle.leaf.specs.Leaf.{shell_from, density_of, reference_volume}
use Rattle.leaf_table.specs.LeafTable.{leaf_words, leaves_from, reported_leaves, dry_leaves}
use Rattle.leaf_table.specs.Inner.{node_at, nodes_from}
use Rattle.report.specs.Inner.{core_answer}
use Rattle.report.specs.Report.{leaf_table, report_room, report_refusal, answer_by, report_answer, leaves_by, report_after, leaves_after}
use Rattle.report.specs.declared.ReportCounts.{ReportCounts}
use Rattle.octree.specs.declared.TreeSize.{TreeSize}
use Rattle.report.proofs.NodeBoxes.{tree-between}
use Rattle.report.proofs.ReadBack.{read_back}

-- ---- the leaf table over waters at the start of a longer list
shell-over : (c : Cell) (b : OctreeBounds) (L t : List Float) (n i : ℕ) → (i + n) * 3 ≤ length L → shell_from c b (over L t) n i ≡ shell_from c b L n i
unfolding shell_from
shell-over c b L t zero i h = refl
shell-over c b L t (suc n) i h = rw (point-over L t i (omega arith), shell-over c b L t n (i + 1) (omega arith))

leaves-over :
    (c : Cell) (density reference : Float) (L t : List Float) (m : ℕ) → m * 3 ≤ length L → (i : ℕ) (vs : List Node) →
    leaves_from c density reference (over L t) m i vs ≡ leaves_from c density reference L m i vs
unfolding leaves_from leaf_words
leaves-over c density reference L t m h i [] = refl
leaves-over c density reference L t m h i (v ∷ vs) = rw (shell-over c v.box L t m 0 (omega arith), leaves-over c density reference L t m h (i + 1) vs)

module _ (f : Input) where
  pub table-over :
      (density reference : Float) (wrapped t : List Float) (m : ℕ) → density ≡ density_of f.cell m → reference ≡ reference_volume f.cell (copies f.starts) →
      wrapped ≡ over (tree_waters f.cell f.waters) t → m ≡ finite_waters f.waters → (vs : List Node) → leaves_from f.cell density reference wrapped m 0 vs ≡ leaf_table f vs
  unfolding leaf_table
  table-over density reference wrapped t m d r w e vs =
      let ws = tree_waters f.cell f.waters in
      let size : length ws / 3 ≡ m = omega (arith, waters-length f.cell f.waters) in
      rw (size, d, r, w) (leaves-over f.cell (density_of f.cell m) (reference_volume f.cell (copies f.starts)) ws t m (omega (arith, waters-length f.cell f.waters)) 0 vs)

  -- the finite waters are within the limit
  pub waters-most : length f.waters ≤ max_atoms * 3 → finite_waters f.waters ≤ max_atoms
  waters-most few = omega (arith, waters-length f.cell f.waters, waters-few f.cell f.waters)

  -- ---- what Tree left where nothing was refused: n nodes, and both node tables
  pub record Grown (room : ℕ) (size : TreeSize) (t u : TreeTables) : Type 0 where
    pub fits : 0 ≡ first_refusal (room_refusal room (frame_tree f) ∷ [])
    pub size-is : size ≡ size_of (frame_tree f).nodes
    pub after : u ≡ input_after 0 f t

  pub grown : (room : ℕ) (size : TreeSize) (t u : TreeTables) → FrameAnswers (Some size) room f t u → Grown room size t u
  grown room size t u (answer, after) =
      let told = built-told (frame_tree f) room (Some size) answer in
      record { fits = told.0; size-is = told.1 size refl; after = after }

  pub room_fits : (room : ℕ) → 0 ≡ first_refusal (room_refusal room (frame_tree f) ∷ []) → length (frame_tree f).nodes ≤ room
  room_fits room e = ltb-false room (length (frame_tree f).nodes) (first-none (room_refusal room (frame_tree f)) [] (λ z. omega arith) (sym e)).0

  pub nodes-read : (n : ℕ) (t u : TreeTables) → n ≡ length (frame_tree f).nodes → u ≡ input_after 0 f t → nodes_from u.records u.boxes n 0 ≡ (frame_tree f).nodes
  unfolding frame_tree input_after tables_after
  nodes-read n t u e left =
      rw (e, left) (read_back (frame_tree f).nodes t.records t.boxes (tree-between (tree_centers f) (tree_waters f.cell f.waters) (cell_box f.cell) refl))

  module _ (sound : sound_lists f.solutes f.starts f.picks ≡ true) (few : length f.waters ≤ max_atoms * 3) where
    points : (length (tree_centers f) / 3 ≤ max_atoms) × (length (tree_waters f.cell f.waters) / 3 ≤ max_atoms)
    points =
        let copies = (sound-lists f.solutes f.starts f.picks sound).few in
        (omega (arith, centers-size f), omega (arith, waters-few f.cell f.waters))

    pub nodes-small : length (frame_tree f).nodes < 2 ^ 32
    unfolding frame_tree
    nodes-small = omega (arith, points.0, points.1, nodes-few (cell_box f.cell) (tree_centers f) (tree_waters f.cell f.waters))

    -- each node's centers and waters
    pub words_small :
        (t u : TreeTables) → u ≡ input_after 0 f t → (k : ℕ) → k < length (frame_tree f).nodes → (get_or u.records (k * 8 + 2) 0 ≤ max_atoms) × (get_or u.records (k * 8 + 4) 0 ≤ max_atoms)
    unfolding frame_tree input_after tables_after over
    words_small t u left k h =
        let vs = (frame_tree f).nodes in
        let v₀ = node_at [] [] 0 in
        let size : length (records_of vs) ≡ length vs * 8 = records-length vs in
        let rest = drop (length (records_of vs)) t.records in
        let word : (j : ℕ) → j < 8 → get_or u.records (k * 8 + j) 0 ≡ get_or (record_of (get_or vs k v₀)) j 0 =
        λ j g. ap (λ (x : TreeTables). get_or x.records (k * 8 + j) 0) left ∙ get_or-append (records_of vs) rest 0 (k * 8 + j) (omega arith) ∙ record-word vs v₀ k j h g in
        let inside = nodes-within (cell_box f.cell) (tree_centers f) (tree_waters f.cell f.waters) v₀ k h in
        (omega (arith, word 2 (omega arith), inside.to-c, points.0), omega (arith, word 4 (omega arith), inside.to-w, points.1))

  -- ---- the leaf table afterwards
  leaves-unchanged : (r : ℕ) (leaves : List ℕ) → (r ≡ 0 → ⊥) → (r ≡ 13 → ⊥) → leaves ≡ leaves_by r f leaves
  unfolding leaves_by
  leaves-unchanged r leaves h g = rw (ne_eqb r 0 h, ne_eqb r 13 g)

  pub leaves-cleared : (leaves : List ℕ) → replicate (length leaves) 0 ≡ leaves_by 13 f leaves
  unfolding leaves_by
  leaves-cleared leaves = refl

  pub leaves-filled : (leaves : List ℕ) → over (leaf_table f (frame_tree f).nodes) leaves ≡ leaves_by 0 f leaves
  unfolding leaves_by
  leaves-filled leaves = refl

  -- ---- the answer, by its number
  pub answer-leaves :
      (r : ℕ) (size : TreeSize) (reported dry : ℕ) → let vs = (frame_tree f).nodes in
      0 ≡ r → size ≡ size_of vs → reported ≡ reported_leaves vs → dry ≡ dry_leaves vs →
      Ok (record { nodes = size.nodes; depth = size.depth; leaves = reported; dry = dry }) ≡ answer_by r f
  unfolding answer_by
  answer-leaves r size reported dry z e h k = rw (← z, e, h, k)

  pub answer-refused : (r : ℕ) → (r ≡ 0 → ⊥) → refused r ≡ answer_by r f
  unfolding answer_by
  answer-refused r h = sym (at-refusal r _ (refused r) h)

  -- of an answer that refuses with 13 alone
  pub report-told : (room : ℕ) (a : Result ReportCounts Refused) → let r = first_refusal (room_refusal room (frame_tree f) ∷ []) in a ≡ answer_by r f → answer_number a ≡ r
  unfolding answer_by known
  report-told room a e = ap answer_number e ∙ number-answered _ (room_refusal room (frame_tree f) ∷ []) refl

-- ---- the whole call
module _ (f : Input) (t : TreeTables) (leaves : List ℕ) where
  -- it answers a, and leaves u and table
  abbrev Report : Result ReportCounts Refused → TreeTables → List ℕ → Type 0
  Report a u table = (a ≡ report_answer f t leaves) × ((u ≡ report_after f t leaves) × (table ≡ leaves_after f t leaves))

  -- a refusal of the tests
  pub report-refused : (e : Refused) → Err e ≡ answer_of (first_refusal (tests f t.center_order t.water_order)) → Report (Err e) t leaves
  unfolding report_answer report_after leaves_after report_refusal
  report-refused e h =
      let r = first_refusal (tests f t.center_order t.water_order) in
      let own = refused-number e r h in
      let first = call-tested (report_room t leaves) f t r refl own.0 in
      rw (← first.0) (ap Err own.1 ∙ answer-refused f r own.0, (unchanged r f t own.0 first.1, leaves-unchanged f r leaves own.0 first.1))

  -- the core's answer, where the tests refuse nothing
  pub report-worked :
      (a : Result ReportCounts Refused) (u : TreeTables) (table : List ℕ) → first_refusal (tests f t.center_order t.water_order) ≡ 0 →
      (a ≡ core_answer f t leaves) × ((u ≡ input_after (answer_number a) f t) × (table ≡ leaves_by (answer_number a) f leaves)) →
      Report a u table
  unfolding report_answer report_after leaves_after report_refusal
  report-worked a u table none (answer, after) =
      rw (call-room (report_room t leaves) f t none) (answer, rw (report-told f (report_room t leaves) a answer) at after)
