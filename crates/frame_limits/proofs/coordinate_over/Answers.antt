-- `frame_limits::coordinate_over` meets its contract: where no coordinate is beyond the limit none is over it, and else the second test decides.
-- Assumes nothing.
use mathlib.Core.Path.{◌≡◌, refl, sym, ◌∙◌}
use mathlib.Core.Bool.{false, and-false}
use mathlib.Core.List.{List, [], ◌∷◌}
use lib.Ieee.{Float}
use lib.Ieee.Scale.{finite}
use Rattle.base.proofs.Tests.{neither}
use Rattle.frame_limits.specs.Limits.{beyond, exceeds, any, any_over}
use Rattle.frame_limits.proofs.coordinate_over.Goals as goal

within-limit : (limit : Float) (xs : List Float) → any (beyond limit) xs ≡ false → any_over limit xs ≡ false
unfolding any_over exceeds
within-limit limit [] e = refl
within-limit limit (x ∷ xs) e =
    let n = neither (beyond limit x) (any (beyond limit) xs) e in
    rw (n.0, and-false (finite x)) (within-limit limit xs n.1)

pub returns-then-not-beyond : goal.returns-then-not-beyond
returns-then-not-beyond c = sym (within-limit _ _ (sym c.beyond.ensures ∙ c.if-not-beyond.true))
