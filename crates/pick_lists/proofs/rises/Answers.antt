-- What is left to prove of `rises`. Assumes nothing.
use mathlib.Core.Path.{◌∙◌}
use mathlib.Core.Bool.{and-true}
use native.Mathlib.Omega.{arith}
use Rattle.pick_lists.proofs.SoundLists.{rises-step, rises-short}
use Rattle.pick_lists.proofs.rises.Goals as goal

pub loop-a-preserved : goal.loop-a-preserved
loop-a-preserved c =
    let w = c.in-Some.ensures.steps.1 in
    rw (w.1, w.2, c.loop-a.iterator.0.1) (rises-step _ c.loop-a.all (omega (arith, w.0, c.loop-a.iterator.0.1)) ∙ c.loop-a.invariant)

pub returns : goal.returns
returns c =
    let none = rises-short c.loop-a.a-iterator.parts.rest.now (omega (arith, c.in-None.ensures.steps, c.loop-a.iterator)) in
    rw (none, and-true) at c.loop-a.invariant
