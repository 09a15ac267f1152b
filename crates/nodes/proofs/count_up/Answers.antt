-- What is left to prove of `count_up`. Assumes nothing.
use Rattle.std.proofs.Common.{arith}
use Rattle.base.specs.Tables.{first_numbers}
use Rattle.base.proofs.Filling.{written, numbers_more, numbers-none}
use Rattle.nodes.proofs.count_up.Goals as goal

pub loop-i-init : goal.loop-i-init
loop-i-init c = numbers-none

pub loop-i-preserved : goal.loop-i-preserved
loop-i-preserved c = written first_numbers (λ n. n) numbers_more _ _ (omega (arith, c.loop-i-test.true, c.loop-i.auto.s)) c.loop-i.invariant
