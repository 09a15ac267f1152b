-- What is left to prove of `part_touch`. Assumes nothing.
use Rattle.std.proofs.Common.{sym, ◌∙◌, le_of_eq}
use Rattle.touch.proofs.Any.{pair-part-second, pair-none-second, part-skip, part-hit}
use Rattle.spans.proofs.Parts.{finite-rest}
use Rattle.spans.proofs.part_touch.Goals as goal

pub returns-then-lists_touch : goal.returns-then-lists_touch
returns-then-lists_touch c =
    let part = pair-part-second _ _ _ _ c.in-Some.ensures.steps.1.0 in
    part-hit _ _ _ part (sym c.lists_touch.ensures ∙ c.if-lists_touch.true) ∙ c.loop-q.invariant.0

pub loop-q-preserved : goal.loop-q-preserved
loop-q-preserved c =
    let part = c.in-Some.ensures.steps.1.0 in (
      part-skip _ _ _ (pair-part-second _ _ _ _ part) (sym c.lists_touch.ensures ∙ c.if-lists_touch.false) ∙ c.loop-q.invariant.0,
      finite-rest _ _ _ part c.loop-q.invariant.1,
    )

pub returns : goal.returns
returns c = sym (pair-none-second _ _ _ 0 (le_of_eq c.in-None.ensures.steps.1.0)) ∙ c.loop-q.invariant.0
