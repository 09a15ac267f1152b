-- What each `return` of Dispersion answers. Assumes nothing.
use Rattle.std.proofs.Common.{◌≡◌, Ok, Err}
use Rattle.std.specs.Bool.{⊤}
use Rattle.base.specs.declared.Refused.{Refused}
use Rattle.base.specs.Refusals.{first_refusal, answer_of}
use Rattle.base.proofs.FirstRefusal.{accepted-zero, refused-alike}
use Rattle.pick_lists.specs.Input.{Input, input_refusals}
use Rattle.dispersion.specs.Dispersion.{dispersion_of, dispersion_refusal, dispersion_answer}

module _ (f : Input) where
  pub dispersion-refused : (e : Refused) → Err e ≡ answer_of (first_refusal (input_refusals f)) → Err e ≡ dispersion_answer f
  unfolding dispersion_answer dispersion_refusal
  dispersion-refused e h = refused-alike (first_refusal (input_refusals f)) _ _ e h

  pub dispersion-answered : {u : ⊤} → Ok u ≡ answer_of (first_refusal (input_refusals f)) → Ok (dispersion_of f) ≡ dispersion_answer f
  unfolding dispersion_answer dispersion_refusal
  dispersion-answered h = rw (accepted-zero (first_refusal (input_refusals f)) h)
