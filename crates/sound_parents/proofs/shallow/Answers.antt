-- What is left to prove of `shallow`. Assumes nothing.
use Rattle.std.proofs.Common.{sym, ◌∙◌, arith}
use Rattle.base.proofs.Ranges.{all_true, all-false}
use Rattle.sound_parents.proofs.shallow.Goals as goal

pub returns-then-not-near_root : goal.returns-then-not-near_root
returns-then-not-near_root c = sym (all-false _ _ _ c.loop-i-test.true (sym c.near_root.ensures ∙ c.if-not-near_root.true))

pub returns : goal.returns
returns c = sym (all_true _ _ (λ k l. c.loop-i.invariant k (omega arith)))
