-- `pick_lists::input_refusal` meets its contract: the frame's refusals first, then 8 (`InputRefusals`). Assumes nothing.
use mathlib.Core.Path.{sym, ◌∙◌}
use Rattle.std.proofs.lemmas.Result.{err_from_is_err_and}
use Rattle.base.proofs.FirstRefusal.{accepted-zero}
use Rattle.pick_lists.proofs.InputRefusals.{input-frame, input-unsound, input-sound}
use Rattle.pick_lists.proofs.input_refusal.Goals as goal

pub returns-in_err-frame_refusal : goal.returns-in_err-frame_refusal
returns-in_err-frame_refusal c = let p = err_from_is_err_and c.from_residual.result c.from_residual.ensures.1 in rw (p.1, p.2) (input-frame _ _ c.in_err-frame_refusal.ensures)

pub returns-then-not-is_sound : goal.returns-then-not-is_sound
returns-then-not-is_sound c = rw (input-unsound _ (accepted-zero _ c.in_ok-frame_refusal.ensures) (sym c.is_sound.ensures ∙ c.if-not-is_sound.true))

pub returns : goal.returns
returns c = rw (input-sound _ (accepted-zero _ c.in_ok-frame_refusal.ensures) (sym c.is_sound.ensures ∙ c.if-not-is_sound.false))
