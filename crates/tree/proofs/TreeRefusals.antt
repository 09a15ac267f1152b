-- The refusals of Tree and Report: what each `return` of the tests answers, what input that passes them has, and 13 after them.
-- Assumes nothing.
use mathlib.Core.Path.{◌≡◌, refl, sym, ◌∙◌}
use mathlib.Core.Bool.{Bool, true, false, cond, not, ◌&&◌, and-eq-true_iff}
use mathlib.Core.List.{List, [], ◌∷◌}
use Prim.Native.Nat.{ℕ, ◌*◌, ◌≤◌, ◌<◌}
use native.Mathlib.Omega.{arith}
use borrow.Author.Tests.{eqb-false, lt-ltb, le-ltb, ltb-false, not-true}
use lib.Dec.{eqb, ltb}
use lib.ListN.{length}
use Rattle.frame_limits.specs.Limits.{long, lengths, counts, bounds, coordinates, validity, limit_refusals, frame_refusals}
use Rattle.base.specs.Limits.{max_atoms}
use Rattle.std.specs.Prelude.{Err}
use Rattle.base.specs.declared.Refused.{Refused}
use Rattle.base.specs.Refusals.{Refusal, first_refusal, answer_of}
use Rattle.base.proofs.FirstRefusal.{numbered, first-hit, first-skip, first-none, append-hit, append-skip, append-none, append-refused}
use Rattle.base.proofs.Tests.{neither}
use Rattle.frame_limits.proofs.FrameRefusals.{frame-none}
use Rattle.pick_lists.specs.Sound.{copies, sound_lists, soundness}
use Rattle.pick_lists.specs.Input.{Input, input_refusals}
use Rattle.pick_lists.proofs.InputRefusals.{input-numbered, input-accepted}
use Rattle.octree.specs.Tree.{TreeTables, room_refusal}
use Rattle.points.specs.Points.{finite_waters}
use Rattle.tree.specs.Tree.{frame_tree, order_refusal, test_refusals, refusal_in}

-- ---- a number that no refusal of a list has
unfoldable pub without : ℕ → List Refusal → Bool
without n [] = true
without n (r ∷ rs) = not (eqb r.number n) && without n rs

pub first-without : (n : ℕ) (rs : List Refusal) → without n rs ≡ true → (0 ≡ n → ⊥) → first_refusal rs ≡ n → ⊥
unfolding without first_refusal
first-without n [] w z e = z e
first-without n (r ∷ rs) w z e =
    let parts = (and-eq-true_iff (not (eqb r.number n)) (without n rs)).0 w in
    by-test r.holds parts.0 (first-without n rs parts.1 z) e
  where
    by-test : (b : Bool) → not (eqb r.number n) ≡ true → (first_refusal rs ≡ n → ⊥) → cond b r.number (first_refusal rs) ≡ n → ⊥
    by-test true m f h = eqb-false r.number n (not-true (eqb r.number n) m) h
    by-test false m f h = f h

module _ (f : Input) (center_order water_order : List ℕ) where
  -- what none of 1, 2, 3, 4, 15, 8 and 7 refuses
  pub record Tested : Type 0 where
    pub none : first_refusal (frame_refusals f.cell f.solutes f.waters) ≡ 0
    pub sound : sound_lists f.solutes f.starts f.picks ≡ true
    pub waters-few : length f.waters ≤ max_atoms * 3
    pub centers-fit : copies f.starts ≤ length center_order
    pub waters-fit : finite_waters f.waters ≤ length water_order

  abbrev pub tests : List Refusal
  tests = test_refusals f center_order water_order

  tests-numbered : numbered tests ≡ true
  unfolding numbered test_refusals input_refusals order_refusal frame_refusals limit_refusals lengths counts bounds coordinates validity soundness
  tests-numbered = refl

  tests-without : without 13 tests ≡ true
  unfolding without test_refusals input_refusals order_refusal frame_refusals limit_refusals lengths counts bounds coordinates validity soundness
  tests-without = refl

  -- ---- the tests
  abbrev seven : Refusal
  seven = order_refusal f center_order water_order

  pub test-input : (e : Refused) → Err e ≡ answer_of (first_refusal (input_refusals f)) → Err e ≡ answer_of (first_refusal tests)
  unfolding test_refusals
  test-input e h = append-refused (input_refusals f) (seven ∷ []) (input-numbered f) e h

  test-order : first_refusal (input_refusals f) ≡ 0 → first_refusal tests ≡ first_refusal (seven ∷ [])
  unfolding test_refusals
  test-order e = append-skip (input_refusals f) (seven ∷ []) (input-numbered f) e

  -- 7 for the centers' list, and for the waters'
  pub test-centers : first_refusal (input_refusals f) ≡ 0 → length center_order < copies f.starts → 7 ≡ first_refusal tests
  unfolding order_refusal
  test-centers e h =
      let holds : seven.holds ≡ true = rw (lt-ltb (length center_order) (copies f.starts) h) in
      sym (test-order e ∙ first-hit seven [] holds)

  pub test-waters : first_refusal (input_refusals f) ≡ 0 → copies f.starts ≤ length center_order → length water_order < finite_waters f.waters → 7 ≡ first_refusal tests
  unfolding order_refusal
  test-waters e fit h =
      let holds : seven.holds ≡ true = rw (le-ltb (length center_order) (copies f.starts) fit, lt-ltb (length water_order) (finite_waters f.waters) h) in
      sym (test-order e ∙ first-hit seven [] holds)

  pub test-none : first_refusal (input_refusals f) ≡ 0 → copies f.starts ≤ length center_order → finite_waters f.waters ≤ length water_order → 0 ≡ first_refusal tests
  unfolding order_refusal first_refusal
  test-none e fit h =
      let fails : seven.holds ≡ false = rw (le-ltb (length center_order) (copies f.starts) fit, le-ltb (length water_order) (finite_waters f.waters) h) in
      sym (test-order e ∙ first-skip seven [] fails)

  -- ---- what input that passes them has
  pub tested : first_refusal tests ≡ 0 → Tested
  unfolding test_refusals order_refusal long
  tested e =
      let input : first_refusal (input_refusals f) ≡ 0 = append-none (input_refusals f) (seven ∷ []) (input-numbered f) e in
      let fails = (first-none seven [] (λ z. omega arith) (sym (test-order input) ∙ e)).0 in
      let fit = neither (ltb (length center_order) (copies f.starts)) (ltb (length water_order) (finite_waters f.waters)) fails in
      let accepted = input-accepted f input in
      record {
        none = accepted.0;
        sound = accepted.1;
        waters-few = ltb-false (max_atoms * 3) (length f.waters) (frame-none f.cell f.solutes f.waters accepted.0).waters-few;
        centers-fit = ltb-false (length center_order) (copies f.starts) fit.0;
        waters-fit = ltb-false (length water_order) (finite_waters f.waters) fit.1;
      }

-- ---- the whole call: a refusal of the tests, or 13
module _ (room : ℕ) (f : Input) (t : TreeTables) where
  pub call-tested : (r : ℕ) → r ≡ first_refusal (tests f t.center_order t.water_order) → (r ≡ 0 → ⊥) → (r ≡ refusal_in room f t) × (r ≡ 13 → ⊥)
  unfolding refusal_in
  call-tested r e n = (
    e ∙ sym (append-hit (tests f t.center_order t.water_order) (room_refusal room (frame_tree f) ∷ []) (tests-numbered f t.center_order t.water_order) (λ z. n (e ∙ z))),
    λ z. first-without 13 (tests f t.center_order t.water_order) (tests-without f t.center_order t.water_order) (λ w. omega arith) (sym e ∙ z),
  )

  pub call-room : first_refusal (tests f t.center_order t.water_order) ≡ 0 → refusal_in room f t ≡ first_refusal (room_refusal room (frame_tree f) ∷ [])
  unfolding refusal_in
  call-room e = append-skip (tests f t.center_order t.water_order) (room_refusal room (frame_tree f) ∷ []) (tests-numbered f t.center_order t.water_order) e
