-- What is left to prove of `all_end`. Assumes nothing.
use Rattle.std.proofs.Common.{sym, ◌∙◌, arith}
use Rattle.base.proofs.Ranges.{all_true, all-false}
use Rattle.sound_parents.proofs.all_end.Goals as goal

pub returns-then-not-ends : goal.returns-then-not-ends
returns-then-not-ends c = sym (all-false _ _ _ c.loop-i-test.true (sym c.ends.ensures.value ∙ c.if-not-ends.true))

pub returns : goal.returns
returns c = sym (all_true _ _ (λ k l. c.loop-i.invariant.1 k (omega arith)))
