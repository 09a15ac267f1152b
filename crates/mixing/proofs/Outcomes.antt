-- What the whole frame answers and leaves, test by test. Assumes nothing.
use mathlib.Core.Path.{◌≡◌, refl, sym, ◌∙◌}
use mathlib.Core.Bool.{Bool, true, false, cond}
use mathlib.Core.List.{List, [], ◌∷◌}
use Prim.Native.Nat.{ℕ}
use native.Mathlib.Omega.{arith}
use borrow.Author.Tests.{eq-eqb, ne_eqb}
use Rattle.base.specs.Refusals.{Refusal, first_refusal, refused, answer_of}
use Rattle.frame_limits.specs.Limits.{limit_refusals, lengths, counts, bounds, coordinates}
use Rattle.base.proofs.FirstRefusal.{numbered, append-hit, append-skip, at-refusal, refused-number}
use Rattle.frame_limits.proofs.FrameRefusals.{limit-numbered}
use Rattle.octree.specs.Tree.{room_refusal, by_number}
use Rattle.tree.specs.Tree.{frame_tree}
use Rattle.tree.proofs.TreeRefusals.{without, first-without}
use Rattle.report.specs.Report.{report_room}
use Rattle.std.proofs.Common.{Ok, Err, None, ap}
use Rattle.base.specs.declared.Refused.{Refused}
use Rattle.cell.specs.Reach.{reach}
use Rattle.frame_tests.specs.Tests.{size_refusals}
use Rattle.mixing.specs.Frame.{Frame, FrameTables, tree_input, sized, table_refusals, limited, blank_holds, frame_refusal, frame_blank, refused_or, mixed_answer, frame_answer, worked, frame_after}

-- what Report refuses over the frame's pick lists: 13 or nothing
abbrev pub room_number : Frame → FrameTables → ℕ
room_number f t = first_refusal (room_refusal (report_room t.tree t.leaves) (frame_tree (tree_input f)) ∷ [])

-- a frame that is not blank and passes every test but 13
pub record Passed (f : Frame) (t : FrameTables) : Type 0 where
  pub within : first_refusal (limited f) ≡ 0
  pub some : blank_holds f ≡ false
  pub fits : first_refusal (sized f t) ≡ 0

module _ (f : Frame) (t : FrameTables) where
  -- ---- the number
  rest : List Refusal
  rest = cond (blank_holds f) [] (table_refusals f t)

  pub number-limit : (first_refusal (limited f) ≡ 0 → ⊥) → frame_refusal f t ≡ first_refusal (limited f)
  unfolding frame_refusal limited rest
  number-limit n = append-hit (limited f) rest (limit-numbered f.cell f.solutes f.waters f.indices) n

  number-rest : first_refusal (limited f) ≡ 0 → frame_refusal f t ≡ first_refusal rest
  unfolding frame_refusal limited rest
  number-rest e = append-skip (limited f) rest (limit-numbered f.cell f.solutes f.waters f.indices) e

  -- ---- what a refusal other than 13 answers and leaves, where the frame is not blank
  same_tables : (r : ℕ) → (r ≡ 0 → ⊥) → (r ≡ 13 → ⊥) → by_number r (worked 0 f t) (worked 13 f t) t ≡ t
  same_tables r a b = rw (ne_eqb r 0 a, ne_eqb r 13 b)

  answers : frame_blank f ≡ false → (r : ℕ) → frame_refusal f t ≡ r → (r ≡ 0 → ⊥) → (r ≡ 13 → ⊥) → (refused r ≡ frame_answer f t) × (t ≡ frame_after f t)
  unfolding frame_answer frame_after
  answers b r e n m = rw (b, e) (sym (at-refusal r _ (refused r) n), sym (same_tables r n m))

  -- ---- 1, 2, 3, 4
  limit-not-13 : first_refusal (limited f) ≡ 13 → ⊥
  unfolding limited without limit_refusals lengths counts bounds coordinates
  limit-not-13 e = first-without 13 (limited f) refl (λ z. omega arith) e

  not-blank : (first_refusal (limited f) ≡ 0 → ⊥) → frame_blank f ≡ false
  unfolding frame_blank
  not-blank n = rw (ne_eqb (first_refusal (limited f)) 0 n)

  pub outcome-limit : (e : Refused) → Err e ≡ answer_of (first_refusal (limited f)) → (Err e ≡ frame_answer f t) × (t ≡ frame_after f t)
  outcome-limit e h =
      let r = refused-number e (first_refusal (limited f)) h in
      let told = answers (not-blank r.0) (first_refusal (limited f)) (number-limit r.0) r.0 limit-not-13 in
      (ap Err r.1 ∙ told.0, told.1)

  -- ---- none of these holds
  module _ (within : first_refusal (limited f) ≡ 0) where
    pub blank-is : frame_blank f ≡ blank_holds f
    unfolding frame_blank
    blank-is = rw (eq-eqb (first_refusal (limited f)) 0 within)

    pub outcome-blank : blank_holds f ≡ true → (Ok None ≡ frame_answer f t) × (t ≡ frame_after f t)
    unfolding frame_answer frame_after
    outcome-blank e = rw (blank-is, e) (refl, refl)

    -- ---- 5, 6, 16, 7
    module _ (some : blank_holds f ≡ false) where
      number-tables : frame_refusal f t ≡ first_refusal (table_refusals f t)
      unfolding rest
      number-tables = number-rest within ∙ rw some

      size-numbered : numbered (sized f t) ≡ true
      unfolding numbered sized size_refusals reach
      size-numbered = refl

      size-not-13 : first_refusal (sized f t) ≡ 13 → ⊥
      unfolding without sized size_refusals reach
      size-not-13 e = first-without 13 (sized f t) refl (λ z. omega arith) e

      pub number_size : (first_refusal (sized f t) ≡ 0 → ⊥) → frame_refusal f t ≡ first_refusal (sized f t)
      unfolding table_refusals
      number_size n = number-tables ∙ append-hit (sized f t) _ size-numbered n

      pub number-room : first_refusal (sized f t) ≡ 0 → frame_refusal f t ≡ room_number f t
      unfolding table_refusals
      number-room e = number-tables ∙ append-skip (sized f t) _ size-numbered e

      pub outcome-size : (e : Refused) → Err e ≡ answer_of (first_refusal (sized f t)) → (Err e ≡ frame_answer f t) × (t ≡ frame_after f t)
      outcome-size e h =
          let r = refused-number e (first_refusal (sized f t)) h in
          let told = answers (blank-is ∙ some) (first_refusal (sized f t)) (number_size r.0) r.0 size-not-13 in
          (ap Err r.1 ∙ told.0, told.1)

  -- ---- what is left is Report's answer, 13 or none
  module _ (p : Passed f t) where
    not-blank-is : frame_blank f ≡ false
    not-blank-is = blank-is p.within ∙ p.some

    number_is : frame_refusal f t ≡ room_number f t
    number_is = number-room p.within p.some p.fits

    pub answer-worked : refused_or (room_number f t) (mixed_answer f t) ≡ frame_answer f t
    unfolding frame_answer
    answer-worked = rw (not-blank-is, number_is)

    pub tables-worked : worked (room_number f t) f t ≡ frame_after f t
    unfolding frame_after first_refusal
    tables-worked = rw (not-blank-is, number_is) (by-room (room_refusal (report_room t.tree t.leaves) (frame_tree (tree_input f))).holds)
      where
        by-room : (b : Bool) → worked (cond b 13 0) f t ≡ by_number (cond b 13 0) (worked 0 f t) (worked 13 f t) t
        by-room true = refl
        by-room false = refl
