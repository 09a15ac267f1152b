-- Separation both ways round, in any extent and for any points. The minus sign goes through quotient, rounding and product bit for bit, and through a
-- difference but for a zero, where +0 stays +0; so the image of a negated separation is the image turned, and so is that of a separation taken the other way
-- round, or both are images of one +0. A square does not know the sign. As numbers the images are opposite where none is a NaN: of a finite separation, in a
-- valid cell. Assumes nothing.
use mathlib.Core.Path.{◌≡◌, refl, sym, ap, ap₂, ◌∙◌, subst}
use mathlib.Core.Logic.{inl, inr}
use mathlib.Core.Bool.{true, false, not}
use lib.IntN.{pos}
use lib.Dec.{T}
use lib.Ieee.{Float, nan, inf, fin, binary32, unlike, neg, add, sub, mul, div, eq, fits, is_nan}
use lib.Ieee.Bits.{is_true}
use lib.Ieee.Scale.{finite}
use Rattle.floats.specs.Whole.{round_of}
use Rattle.floats.proofs.Signs.{neg-finite}
use Rattle.floats.proofs.Operations.{Nonzero, div-number, mul-number, sub_number}
use Rattle.floats.proofs.Negation.{mul-neg-right, div-neg-left, round_of-neg, Turned, sub-neg, sub-swap, turned-number, turned-square}
use Rattle.floats.proofs.ExactResults.{over_none, times_none, less_none}
use Rattle.floats.proofs.WholeSizes.{round_size, round-rounds, nothing-stays, rounds-number}
use Rattle.floats.proofs.SizeTests.{zero32}
use Rattle.cell.specs.declared.Vec3.{Vec3}
use Rattle.cell.specs.Cell.{image_axis, valid_axis, min_image, squared, minus, distance2}
use Rattle.cell.proofs.Finite.{valid-above, nonzero}

-- ---- one axis, of any extent e
-- the extents that the image of d is less than d
abbrev taken : Float → Float → Float
taken e d = mul binary32 e (round_of binary32 (div binary32 d e))

taken-neg : (e d : Float) → taken e (neg d) ≡ neg (taken e d)
taken-neg e d =
    ap (λ (q : Float). mul binary32 e (round_of binary32 q)) (div-neg-left binary32 d e) ∙ ap (mul binary32 e) (round_of-neg binary32 (div binary32 d e))
    ∙ mul-neg-right binary32 e (round_of binary32 (div binary32 d e))

image-turned : (e d : Float) → Turned (image_axis d e) (image_axis (neg d) e)
unfolding image_axis
image-turned e d = subst (λ (t : Float). Turned (sub binary32 d (taken e d)) (sub binary32 (neg d) t)) (sym (taken-neg e d)) (sub-neg binary32 d (taken e d))

-- from either end
abbrev pub square : Float → Float → Float
square e d = mul binary32 (image_axis d e) (image_axis d e)

-- of a negated separation
pub image-square-neg : (e d : Float) → square e (neg d) ≡ square e d
image-square-neg e d = turned-square binary32 (image-turned e d)

square-swap : (e p q : Float) → square e (sub binary32 q p) ≡ square e (sub binary32 p q)
square-swap e p q = go (sub-swap binary32 p q)
  where
    go : Turned (sub binary32 p q) (sub binary32 q p) → square e (sub binary32 q p) ≡ square e (sub binary32 p q)
    go (inl h) = ap (square e) h ∙ image-square-neg e (sub binary32 p q)
    go (inr (h, k)) = ap (square e) (k ∙ sym h)

-- THE SQUARED DISTANCE, FROM EITHER END
pub distance-swap : (e p q : Vec3) → distance2 e p q ≡ distance2 e q p
unfolding distance2 squared min_image minus
distance-swap e p q =
    ap₂ (add binary32) (ap₂ (add binary32) (square-swap e.x p.x q.x) (square-swap e.y p.y q.y)) (square-swap e.z p.z q.z)

-- +0 is its own image
image-none : (e : Float) → Nonzero e → image_axis zero32 e ≡ zero32
unfolding image_axis
image-none nan h = absurd h
image-none (inf s) h = absurd h
image-none (fin t n d) h =
    let u = unlike false t in
    ap (λ (q : Float). sub binary32 zero32 (mul binary32 (fin t n d) (round_of binary32 q))) (over_none binary32 false t n d h)
    ∙ ap (λ (q : Float). sub binary32 zero32 (mul binary32 (fin t n d) q))
    (sym (nothing-stays binary32 round_size (round_of binary32) (round-rounds binary32) (fin u 0 (pos 0)) (unfold fits in tt) (refl, refl)))
    ∙ ap (sub binary32 zero32) (times_none binary32 t n d u) ∙ less_none binary32 (unlike t u)

-- ---- one axis of a valid cell: images are numbers
module _ (e : Float) (v : valid_axis e ≡ true) where
  off_zero : Nonzero e
  off_zero = nonzero e (valid-above e v)

  image-number : (d : Float) → T (finite d) → T (not (is_nan (image_axis d e)))
  unfolding image_axis
  image-number d p =
      sub_number binary32 d (taken e d) p
      (mul-number binary32 e (round_of binary32 (div binary32 d e)) off_zero
      (rounds-number binary32 round_size (round_of binary32) (round-rounds binary32) (div binary32 d e) (div-number binary32 d e p off_zero)))

  -- THE MINIMUM IMAGE OF A NEGATED SEPARATION
  pub image-neg : (d : Float) → T (finite d) → eq (image_axis (neg d) e) (neg (image_axis d e)) ≡ true
  image-neg d p = is_true (eq (image_axis (neg d) e) (neg (image_axis d e))) (turned-number (image-turned e d) (image-number (neg d) (neg-finite d p)))

  -- THE MINIMUM IMAGE FROM THE OTHER END
  pub image-swap : (p q : Float) → T (finite (sub binary32 q p)) → eq (image_axis (sub binary32 p q) e) (neg (image_axis (sub binary32 q p) e)) ≡ true
  image-swap p q h = go (sub-swap binary32 q p)
    where
      go : Turned (sub binary32 q p) (sub binary32 p q) → eq (image_axis (sub binary32 p q) e) (neg (image_axis (sub binary32 q p) e)) ≡ true
      go (inl k) = rw k (image-neg (sub binary32 q p) h)
      go (inr (k, l)) = rw (k, l, image-none e off_zero) (unfold eq neg in refl)
