-- Where the mirror law ends: with bits for numbers it is false, and so it is for picks of any kind. In the cell 0 .. 10 the image of -0 is +0, as that of +0 is, and a
-- pick past the solutes has a NaN for its image. Assumes nothing.
use mathlib.Core.Path.{◌≡◌, refl, ap}
use mathlib.Core.Bool.{true, false, false≢true}
use mathlib.Core.List.{[], ◌∷◌}
use native.Mathlib.Omega.{arith}
use Prim.Native.Nat.{ℕ}
use lib.IntN.{pos}
use lib.Dec.{lit<}
use lib.Ieee.{fin, of_bits, neg, sub, mul, div, eq, lt}
use Rattle.floats.specs.Whole.{round_of}
use Rattle.cell.specs.declared.Cell.{Cell}
use Rattle.cell.specs.declared.Vec3.{Vec3}
use Rattle.cell.specs.Cell.{extent_of, valid_axis, valid, image_axis, min_image, minus, point_at, finite_point}
use Rattle.cell.proofs.Examples.{alike, up_to, ten}
use Rattle.pick_lists.specs.Input.{Input, given}
use Rattle.touch.specs.Mirror.{opposite, same_numbers, Mirrored}

pub not-bit-for-bit : ((c : Cell) (d : Vec3) → valid c ≡ true → finite_point d ≡ true → min_image (extent_of c) (opposite d) ≡ opposite (min_image (extent_of c) d)) → ⊥
unfolding valid valid_axis finite_point extent_of min_image image_axis opposite round_of of_bits neg sub mul div lt
not-bit-for-bit h =
    let same : fin false 0 (pos 0) ≡ fin true 0 (pos 0) = ap (λ (v : Vec3). v.x) (h (up_to ten) (alike 0) refl refl) in
    let clash : ◌≡◌ {A = ℕ} 0 1 = cc in
    omega arith

pub not-any-picks : ((f : Input) → valid f.cell ≡ true → Mirrored f) → ⊥
unfolding valid valid_axis extent_of same_numbers min_image image_axis minus point_at opposite round_of of_bits neg sub mul div eq lt
not-any-picks h = false≢true ((h (given (up_to ten) [] [] (0 ∷ 1 ∷ []) (0 ∷ [])) refl).images 0 0 (lit< tt) (lit< tt))
