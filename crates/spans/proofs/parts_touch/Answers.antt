-- What is left to prove of `parts_touch`. Assumes nothing.
use mathlib.Core.Path.{sym, ◌∙◌}
use native.Mathlib.Nat.{le_of_eq}
use Rattle.touch.proofs.Any.{pair-part-first, pair-none, part-skip, part-hit}
use Rattle.spans.proofs.Parts.{finite-rest}
use Rattle.spans.proofs.parts_touch.Goals as goal

pub returns-then-part_touch : goal.returns-then-part_touch
returns-then-part_touch c =
    let part = c.in-Some.ensures.steps.1 in
    part-hit _ _ _ (pair-part-first _ _ _ _ part.0) (sym c.part_touch.ensures ∙ c.if-part_touch.true) ∙ c.loop-p.invariant.0

pub loop-p-preserved : goal.loop-p-preserved
loop-p-preserved c =
    let part = c.in-Some.ensures.steps.1 in
    (part-skip _ _ _ (pair-part-first _ _ _ _ part.0) (sym c.part_touch.ensures ∙ c.if-part_touch.false) ∙ c.loop-p.invariant.0, finite-rest _ _ _ part.0 c.loop-p.invariant.1)

pub returns : goal.returns
returns c = sym (pair-none _ _ _ 0 (le_of_eq c.in-None.ensures.steps.1.0)) ∙ c.loop-p.invariant.0
