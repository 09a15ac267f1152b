-- The refusals that every call on pick lists makes first: what each arm of `input_refusal` returns, and what input with none of them has.
-- Assumes nothing.
use mathlib.Core.Path.{◌≡◌, refl, sym, ap, ◌∙◌}
use mathlib.Core.Bool.{true, false, not}
use mathlib.Core.List.{[], ◌∷◌}
use native.Mathlib.Omega.{arith}
use borrow.Author.Tests.{not-false}
use Rattle.frame_limits.specs.Limits.{lengths, counts, bounds, coordinates, validity, limit_refusals, frame_refusals}
use Rattle.std.proofs.Common.{Ok, Err}
use Rattle.std.specs.Bool.{⊤}
use Rattle.base.specs.declared.Refused.{Refused}
use Rattle.base.specs.Refusals.{first_refusal, answer_of}
use Rattle.base.proofs.FirstRefusal.{numbered, first-hit, first-skip, first-none, append-skip, append-none, append-refused, accepted-zero}
use Rattle.frame_limits.proofs.FrameRefusals.{frame-numbered}
use Rattle.pick_lists.specs.Sound.{sound_lists, soundness}
use Rattle.pick_lists.specs.Input.{Input, input_refusals}

pub input-numbered : (f : Input) → numbered (input_refusals f) ≡ true
unfolding numbered input_refusals frame_refusals limit_refusals lengths counts bounds coordinates validity soundness
input-numbered f = refl

module _ (f : Input) where
  -- a refusal of the frame is the first
  pub input-frame : (e : Refused) → Err e ≡ answer_of (first_refusal (frame_refusals f.cell f.solutes f.waters)) → Err e ≡ answer_of (first_refusal (input_refusals f))
  unfolding input_refusals
  input-frame e h = append-refused (frame_refusals f.cell f.solutes f.waters) (soundness f.solutes f.starts f.picks ∷ []) (frame-numbered f.cell f.solutes f.waters) e h

  -- without one the pick lists decide
  pub input-lists : first_refusal (frame_refusals f.cell f.solutes f.waters) ≡ 0 → first_refusal (input_refusals f) ≡ first_refusal (soundness f.solutes f.starts f.picks ∷ [])
  unfolding input_refusals
  input-lists e = append-skip (frame_refusals f.cell f.solutes f.waters) (soundness f.solutes f.starts f.picks ∷ []) (frame-numbered f.cell f.solutes f.waters) e

  pub input-unsound : first_refusal (frame_refusals f.cell f.solutes f.waters) ≡ 0 → sound_lists f.solutes f.starts f.picks ≡ false → first_refusal (input_refusals f) ≡ 8
  unfolding soundness
  input-unsound e u = input-lists e ∙ first-hit (soundness f.solutes f.starts f.picks) [] (ap not u)

  pub input-sound : first_refusal (frame_refusals f.cell f.solutes f.waters) ≡ 0 → sound_lists f.solutes f.starts f.picks ≡ true → first_refusal (input_refusals f) ≡ 0
  unfolding soundness first_refusal
  input-sound e s = input-lists e ∙ first-skip (soundness f.solutes f.starts f.picks) [] (ap not s)

  -- input that none of 1, 2, 3, 4, 15 and 8 refuses
  pub input-accepted : first_refusal (input_refusals f) ≡ 0 → (first_refusal (frame_refusals f.cell f.solutes f.waters) ≡ 0) × (sound_lists f.solutes f.starts f.picks ≡ true)
  unfolding input_refusals soundness
  input-accepted h =
      let none = append-none (frame_refusals f.cell f.solutes f.waters) (soundness f.solutes f.starts f.picks ∷ []) (frame-numbered f.cell f.solutes f.waters) h in
      (none, not-false (sound_lists f.solutes f.starts f.picks) (first-none (soundness f.solutes f.starts f.picks) [] (λ z. omega arith) (sym (input-lists none) ∙ h)).0)

  -- the same of input that a call accepted
  pub accepted-input : {u : ⊤} → Ok u ≡ answer_of (first_refusal (input_refusals f)) → sound_lists f.solutes f.starts f.picks ≡ true
  accepted-input h = (input-accepted (accepted-zero (first_refusal (input_refusals f)) h)).1
