-- `cell::fold_axis` meets its contract: the tests are the definition, and where they hold the comparisons give the image (`fold-image`).
-- Assumes nothing.
use Rattle.std.proofs.Common.{◌≡◌, refl, sym, ap, subst, ◌∙◌, Bool, true, false, ◌&&◌, Some}
use Rattle.std.specs.Bool.{then_some}
use lib.Dec.{T}
use lib.Ieee.{Float, binary32, neg, lt, fits, of_bits}
use lib.Ieee.Scale.{finite}
use Rattle.floats.proofs.Tests.{holds, both}
use Rattle.floats.proofs.Folding.{fold-image}
use Rattle.cell.specs.Cell.{image_axis}
use Rattle.cell.specs.Inner.{within_axis}
use Rattle.cell.proofs.fold_axis.Goals as goal

-- equal where the test holds
same : (t : Bool) (a b : Float) → (t ≡ true → a ≡ b) → then_some t a ≡ then_some t b
same true a b h = ap Some (h refl)
same false a b h = refl

pub returns : goal.returns
unfolding within_axis image_axis of_bits
returns c =
    let held-d : T (fits binary32 c.args.d) = subst T (sym c.well_formed.0.1) tt in
    let held-e : T (fits binary32 c.args.e) = subst T (sym c.well_formed.1.0.1) tt in
    let d = c.args.d in
    let e = c.args.e in
    c.then_some.ensures ∙ rw (c.masked-2.ensures, c.masked.ensures, c.is_finite32.ensures) (same _ _ _ (λ h.
    let p = both (finite e) (lt d e && lt (neg e) d) h in
    let q = both (lt d e) (lt (neg e) d) p.1 in
    fold-image binary32 d e held-d held-e (holds p.0) (holds q.0) (holds q.1)))
