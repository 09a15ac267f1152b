-- `baithrum_dispersion` meets its contract: the number and the score are Dispersion's, in the cell of the six numbers. Assumes nothing.
use mathlib.Core.Path.{ap, ◌∙◌}
use Rattle.std.proofs.Common.{Result}
use Rattle.base.specs.declared.Refused.{Refused}
use Rattle.base.specs.Refusals.{answer_number}
use lib.Ieee.{Float}
use Rattle.dispersion.specs.Dispersion.{dispersion_values}
use Rattle.answers.specs.Interface.{bits_of, answers_after}
use Rattle.mixing_c.proofs.Numbers.{dispersion-number}
use Rattle.mixing_c.proofs.baithrum_dispersion.Goals as goal

pub returns : goal.returns
returns c =
    let got = rw c.cell.ensures at c.dispersion.ensures in
    let told = c.dispersed.ensures in
    record { number = told.number ∙ ap answer_number got.answer ∙ dispersion-number _; answers_after = told.answers_after ∙ ap (λ (a : Result Float Refused). answers_after (bits_of (dispersion_values a)) c.args.answers.now) got.answer }
