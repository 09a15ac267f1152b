-- What is left to prove of `firsts`. Assumes nothing.
use Rattle.std.proofs.Common.{◌≡◌, ℕ, ◌+◌, ◌<◌, get_or, set, get_or-set_same, get_or-set_other, length-set, arith, refl, sym, ◌∙◌}
use Rattle.octants.specs.Inner.{sum_before}
use Rattle.octants.proofs.Arranging.{same-or-other, sum-start, sum_more, sum-within}
use Rattle.octants.proofs.firsts.Goals as goal

pub loop-o-init : goal.loop-o-init
loop-o-init c = (refl, sym (sum-start _), λ k h. absurd (omega arith))

pub overflow_add-at : goal.overflow_add-at
overflow_add-at c = omega (arith, sum-within (λ k. get_or c.args.counts.now k 0) c.loop-o.o 8 c.loop-o-test.true)

pub loop-o-preserved : goal.loop-o-preserved
loop-o-preserved c =
    let a = c.loop-o in
    let n = λ (k : ℕ). get_or c.args.counts.now k 0 in (
      omega (arith, length-set a.places a.o a.at),
      omega (arith, sum_more n a.o),
      λ k.
          same-or-other (λ (j : ℕ). j < a.o + 1 → get_or (set a.places a.o a.at) j 0 ≡ sum_before n j) a.o k
          (λ h. get_or-set_same a.places a.o a.at 0 (omega arith) ∙ a.invariant.1)
          (λ ne h. get_or-set_other a.places a.o k a.at 0 ne ∙ a.invariant.2 k (omega arith)),
    )
