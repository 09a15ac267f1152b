-- `baithrum_close` meets its contract: the number and the fractions are Close's. Assumes nothing.
use mathlib.Core.Path.{ap, ◌∙◌}
use Rattle.std.proofs.Common.{Result}
use Rattle.base.specs.declared.Refused.{Refused}
use Rattle.base.specs.Refusals.{answer_number}
use Rattle.cluster_table.specs.declared.ClusterFractions.{ClusterFractions}
use Rattle.clusters.specs.Answers.{close_values}
use Rattle.answers.specs.Interface.{bits_of, answers_after}
use Rattle.mixing_c.proofs.Numbers.{close-number}
use Rattle.mixing_c.proofs.baithrum_close.Goals as goal

pub returns : goal.returns
returns c =
    let got = c.close.ensures in
    let told = c.closing.ensures in
    record { number = told.number ∙ ap answer_number got.answer ∙ close-number _; answers_after = told.answers_after ∙ ap (λ (a : Result ClusterFractions Refused). answers_after (bits_of (close_values a)) c.args.answers.now) got.answer }
