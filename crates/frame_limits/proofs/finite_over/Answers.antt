-- What is left to prove of `finite_over`. Assumes nothing.
use Rattle.std.proofs.Common.{arith}
use Rattle.std.proofs.lemmas.Grind.{common_steps}
use Rattle.frame_limits.specs.Limits.{any_over}
use Rattle.frame_limits.proofs.finite_over.Goals as goal

pub returns : goal.returns
unfolding any_over
returns c = grind (arith, common_steps)
