-- A frame with an answer has passed every test, and the leaf table holds every leaf that the answer counts: leaves do not exceed nodes,
-- and nodes not the whole records of the smallest table. Assumes nothing.
use mathlib.Core.Path.{◌≡◌, refl, sym, ◌∙◌}
use mathlib.Core.Bool.{Bool, true, false, cond}
use Prim.Native.Nat.{ℕ, zero, suc, ◌*◌, ◌≤◌}
use native.Mathlib.Omega.{arith}
use lib.Dec.{ltb}
use lib.ListN.{length}
use borrow.Author.Tests.{ltb-false}
use Rattle.base.specs.Refusals.{first_refusal}
use Rattle.base.proofs.FirstRefusal.{zero_of}
use Rattle.leaf_table.proofs.LeafList.{reported-few}
use Rattle.leaf_table.specs.LeafTable.{reported_leaves}
use Rattle.tree.specs.Tree.{frame_tree}
use Rattle.report.specs.Report.{report_room}
use Rattle.std.proofs.Common.{Ok, Some, None, ap}
use Rattle.mixing.specs.declared.Mixture.{Mixture}
use Rattle.mixing.specs.Frame.{Frame, FrameTables, tree_input, sized, limited, blank_holds, refused_or, mixture, mixed_answer, frame_refusal, frame_blank, frame_answer}
use Rattle.mixing.proofs.Outcomes.{Passed, room_number, number-limit, number_size, number-room, blank-is}

nodes-fit : (room n : ℕ) → ◌≡◌ {A = ℕ} (cond (ltb room n) 13 0) 0 → n ≤ room
nodes-fit room n e = by-test (ltb room n) refl e
  where
    by-test : (b : Bool) → ltb room n ≡ b → ◌≡◌ {A = ℕ} (cond b 13 0) 0 → n ≤ room
    by-test true h z = absurd (omega (arith, z))
    by-test false h z = ltb-false room n h

module _ (f : Frame) (t : FrameTables) where
  -- ---- neither blank nor refused
  module _ (b : frame_blank f ≡ false) (e : frame_refusal f t ≡ 0) where
    limits-none : first_refusal (limited f) ≡ 0
    limits-none = zero_of (first_refusal (limited f)) (frame_refusal f t) (number-limit f t) e

    some : blank_holds f ≡ false
    some = sym (blank-is f t limits-none) ∙ b

    pub passes : Passed f t
    passes = record { within = limits-none; some = some; fits = zero_of (first_refusal (sized f t)) (frame_refusal f t) (number_size f t limits-none some) e }

    no-refusal : room_number f t ≡ 0
    no-refusal = sym (number-room f t limits-none some passes.fits) ∙ e

  -- ---- what an answer has
  pub record Answered (m : Mixture) : Type 0 where
    pub passed : Passed f t
    pub unrefused : room_number f t ≡ 0
    pub nodes-few : length (frame_tree (tree_input f)).nodes ≤ report_room t.tree t.leaves
    pub is : m ≡ mixture f t

  pub answered : (m : Mixture) → Ok (Some m) ≡ frame_answer f t → Answered m
  unfolding frame_answer mixed_answer first_refusal
  answered m h = by-blank (frame_blank f) refl (frame_refusal f t) refl h
    where
      by-blank : (b : Bool) → frame_blank f ≡ b → (r : ℕ) → frame_refusal f t ≡ r → Ok (Some m) ≡ cond b (Ok None) (refused_or r (mixed_answer f t)) → Answered m
      by-blank true b r e g = cc
      by-blank false b (suc r) e g = cc
      by-blank false b zero e g = record { passed = passes b e; unrefused = no-refusal b e; nodes-few = nodes-fit _ _ (no-refusal b e); is = cc }

  pub listed-leaves : (m : Mixture) → Ok (Some m) ≡ frame_answer f t → m.report.leaves * 8 ≤ length t.leaves
  unfolding mixture
  listed-leaves m h =
      let a = answered m h in
      let e : m.report.leaves ≡ reported_leaves (frame_tree (tree_input f)).nodes = ap (λ (x : Mixture). x.report.leaves) a.is in
      omega (arith, a.nodes-few, reported-few (frame_tree (tree_input f)).nodes)
