-- Worked cases, which the definitions compute: patterns in, patterns out. Then values that the relations of specs/Standard.antt rule out.
-- Assumes nothing.
use mathlib.Core.Path.{◌≡◌, refl}
use mathlib.Core.Bool.{true, false}
use mathlib.Core.Logic.{inr}
use mathlib.Core.List.{[], ◌∷◌, map}
use Prim.Native.Nat.{ℕ}
use native.Mathlib.Omega.{arith}
use lib.IntN.{pos}
use lib.Ieee.{Float, nan, fin, Format, binary32, binary64, of_bits, to_bits, fits}
use Rattle.floats.specs.Whole.{floor_of, round_of}
use Rattle.floats.specs.Convert.{narrow_of}
use Rattle.floats.specs.Root.{sqrt_of}
use Rattle.floats.specs.Standard.{ConvertsTo, HasRoot}
use Rattle.floats.proofs.Standard.{standard}

-- g from the format f to the format h, on patterns
on : Format → Format → (Float → Float) → ℕ → ℕ
on f h g b = to_bits h (g (of_bits f b))

-- the f32 root of 2 is 3FB504F3. Then 1, 4, the smallest value, the largest, -0, infinity, -infinity, -1, a NaN and 0.1
roots32 : map (on binary32 binary32 (sqrt_of binary32))
    (0x40000000 ∷ 0x3f800000 ∷ 0x40800000 ∷ 0x00000001 ∷ 0x7f7fffff ∷ 0x80000000 ∷ 0x7f800000 ∷ 0xff800000 ∷ 0xbf800000 ∷ 0x7fc00001 ∷ 0x3dcccccd ∷ [])
    ≡ 0x3fb504f3 ∷ 0x3f800000 ∷ 0x40000000 ∷ 0x1a3504f3 ∷ 0x5f7fffff ∷ 0x80000000 ∷ 0x7f800000 ∷ 0x7fc00000 ∷ 0x7fc00000 ∷ 0x7fc00000 ∷ 0x3ea1e89b ∷ []
unfolding on sqrt_of of_bits to_bits
roots32 = refl

-- 2, the smallest value, the largest and -1
roots64 : map (on binary64 binary64 (sqrt_of binary64)) (0x4000000000000000 ∷ 0x0000000000000001 ∷ 0x7fefffffffffffff ∷ 0xbff0000000000000 ∷ [])
    ≡ 0x3ff6a09e667f3bcd ∷ 0x1e60000000000000 ∷ 0x5fefffffffffffff ∷ 0x7ff8000000000000 ∷ []
unfolding on sqrt_of of_bits to_bits
roots64 = refl

-- -0, -0.25, 0.75, -2.5 and 16777215: a zero keeps its sign, and a negative number goes down
floors : map (on binary32 binary32 (floor_of binary32)) (0x80000000 ∷ 0xbe800000 ∷ 0x3f400000 ∷ 0xc0200000 ∷ 0x4b7fffff ∷ [])
    ≡ 0x80000000 ∷ 0xbf800000 ∷ 0x00000000 ∷ 0xc0400000 ∷ 0x4b7fffff ∷ []
unfolding on floor_of of_bits to_bits
floors = refl

-- -0, -0.25, 0.5, -2.5 and the value below 0.5: a half goes away from zero
rounds : map (on binary32 binary32 (round_of binary32)) (0x80000000 ∷ 0xbe800000 ∷ 0x3f000000 ∷ 0xc0200000 ∷ 0x3effffff ∷ [])
    ≡ 0x80000000 ∷ 0x80000000 ∷ 0x3f800000 ∷ 0xc0400000 ∷ 0x00000000 ∷ []
unfolding on round_of of_bits to_bits
rounds = refl

-- 0.1; a tie down to the even one and a tie up to it; the largest f32, and the first number that goes to infinity; the smallest f32, and its half
narrows : map (on binary64 binary32 (narrow_of binary32))
    (0x3fb999999999999a ∷ 0x3ff0000010000000 ∷ 0x3ff0000030000000 ∷ 0x47efffffe0000000 ∷ 0x47effffff0000000 ∷ 0x36a0000000000000 ∷ 0x3690000000000000 ∷ [])
    ≡ 0x3dcccccd ∷ 0x3f800000 ∷ 0x3f800002 ∷ 0x7f7fffff ∷ 0x7f800000 ∷ 0x00000001 ∷ 0x00000000 ∷ []
unfolding on narrow_of of_bits to_bits
narrows = refl

-- ---- outside the numbers of their domain the standard's relations hold of no wrong value: not of +0 for a NaN, nor of 1 for the root of -1; and -0
-- is the root of -0
nan-to-zero : ConvertsTo binary32 nan (fin false 0 (pos 0)) → ⊥
unfolding narrow_of
nan-to-zero h =
    let e : fin false 0 (pos 0) ≡ nan = (standard.converts binary32 nan (fin false 0 (pos 0))).0 h in
    let z : ◌≡◌ {A = ℕ} 0 1 = cc in
    omega arith

root-of-minus-one : HasRoot binary32 (fin true 1 (pos 0)) (fin false 1 (pos 0)) → ⊥
unfolding sqrt_of fits
root-of-minus-one h =
    let e : fin false 1 (pos 0) ≡ nan = (standard.roots binary32 (fin true 1 (pos 0)) tt (fin false 1 (pos 0))).0 h in
    let z : ◌≡◌ {A = ℕ} 0 1 = cc in
    omega arith

root-of-minus-zero : HasRoot binary32 (fin true 0 (pos 0)) (fin true 0 (pos 0))
root-of-minus-zero = inr refl
