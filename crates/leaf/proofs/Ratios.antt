-- No ratio of an occupancy has the bits 0, so that the word 0 is dry alone: what is seen is 1 at least, and what is expected, 0.75 at
-- least, is below 2 ^ 100. Assumes nothing.
use mathlib.Core.Path.{◌≡◌, refl, sym, ap, ◌∙◌, subst}
use mathlib.Core.Bool.{Bool, true, false, cond, ◌||◌}
use Prim.Native.Nat.{ℕ, suc, ◌*◌, ◌^◌, ◌≤◌, ◌<◌}
use native.Mathlib.Nat.{mul-pos, mul-le-mul, mul_assoc, mul_comm, mul_left_comm, le_trans, le_of_eq, one-mul}
use native.Mathlib.Omega.{arith}
use lib.Dec.{T, lit<, lit≤, ltb→lt}
use lib.IntN.{pos}
use lib.Pow.{pow_pos}
use lib.Ieee.{Float, nan, inf, fin, binary32, fits, mul, div, lt, le, eq, of_int, of_bits, to_bits, of_fields, round, size, span, climb, units, odd}
use lib.Ieee.Fits.{div-fits, up_pos}
use lib.Ieee.Bits.{of_bits-to_bits}
use lib.Ieee.Order.{round_mono}
use lib.Ieee.Positive.{num, den, den_pos, positive, above, above_of_le, between, le→cross}
use Rattle.base.specs.Limits.{max_atoms}
use Rattle.floats.proofs.Bounds.{Within}
use Rattle.floats.proofs.Operations.{div_is}
use Rattle.cell.specs.declared.Cell.{Cell}
use Rattle.cell.specs.Cell.{volume_of}
use Rattle.cell.proofs.Finite.{Around}
use Rattle.frame_limits.proofs.FiniteFrame.{Limited}
use Rattle.bounds.specs.declared.OctreeBounds.{OctreeBounds}
use Rattle.floats.specs.Order.{larger}
use Rattle.leaf.specs.Leaf.{density_of, expanded, occupancy_of, occupancy_word}
use Rattle.leaf.proofs.ExpectedBounds.{expected-within}

-- ---- a quotient of what is 1 at least by what is 2 ^ 100 at most is above zero
div-positive : (x y : Float) → T (positive x) → T (positive y) → div binary32 x y ≡ round binary32 false (num x * den y) (num y * den x)
div-positive nan y p q = absurd p
div-positive (inf s) y p q = absurd p
div-positive (fin true m e) y p q = absurd p
div-positive (fin false m e) nan p q = absurd q
div-positive (fin false m e) (inf t) p q = absurd q
div-positive (fin false m e) (fin true n d) p q = absurd q
div-positive (fin false m e) (fin false n d) p q = div_is binary32 false m e false n d (ltb→lt 0 n q)

num_pos : (x : Float) → T (positive x) → 0 < num x
num_pos nan p = absurd p
num_pos (inf s) p = absurd p
num_pos (fin true m e) p = absurd p
num_pos (fin false m e) p = mul-pos (ltb→lt 0 m p) (up_pos e)

tiny : T (positive (round binary32 false 1 (2 ^ 100)))
unfolding round size span climb units odd
tiny = tt

quotient-above : (x y : Float) → T (positive x) → den x ≤ num x → T (positive y) → num y ≤ 2 ^ 100 * den y → T (above (div binary32 x y))
quotient-above x y p one q few =
    subst (λ (z : Float). T (above z)) (sym (div-positive x y p q))
    (above_of_le (round binary32 false 1 (2 ^ 100)) (round binary32 false (num x * den y) (num y * den x)) tiny
    (round_mono binary32 1 (2 ^ 100) (num x * den y) (num y * den x) (pow_pos 100) (mul-pos (num_pos y q) (den_pos x))
    (le_trans (le_of_eq (one-mul (num y * den x))) (le_trans (mul-le-mul few one) (le_of_eq (turned (2 ^ 100) (den y) (num x)))))))
  where
    turned : (a b c : ℕ) → a * b * c ≡ c * b * a
    turned a b c = simp (mul_assoc, mul_comm, mul_left_comm)

-- ---- what is seen, and what is expected
one-positive : T (positive (round binary32 false 1 1))
unfolding round size span climb units odd
one-positive = tt

many-positive : T (positive (round binary32 false 65536 1))
unfolding round size span climb units odd
many-positive = tt

crossed : (d m : ℕ) → num (round binary32 false 1 1) * d ≤ m * den (round binary32 false 1 1) → d ≤ m
unfolding round size span climb units odd
crossed d m h = omega arith

seen-big : (n : ℕ) → n < max_atoms → T (positive (of_int binary32 (pos (suc n)))) × (den (of_int binary32 (pos (suc n))) ≤ num (of_int binary32 (pos (suc n))))
unfolding of_int
seen-big n h =
    let x = round binary32 false (suc n) 1 in
    let lo : T (le (round binary32 false 1 1) x) = round_mono binary32 1 1 (suc n) 1 (lit< tt) (lit< tt) (omega arith) in
    let hi : T (le x (round binary32 false 65536 1)) = round_mono binary32 (suc n) 1 65536 1 (lit< tt) (lit< tt) (omega arith) in
    let p : T (positive x) = between (round binary32 false 1 1) x (round binary32 false 65536 1) one-positive many-positive lo hi in
    (p, crossed (den x) (num x) (le→cross (round binary32 false 1 1) x one-positive p lo))

-- a bounded number above zero
within-positive : (B : ℕ) (e : Float) → T (above e) → Within B e → T (positive e) × (num e ≤ B * den e)
within-positive B nan a w = absurd a
within-positive B (inf s) a w = absurd w
within-positive B (fin true m e) a w = absurd a
within-positive B (fin false m e) a w = (a, w)

abbrev floor : Float
floor = of_bits binary32 0x3f40_0000

floor-positive : T (positive floor) × (num floor ≤ 2 ^ 100 * den floor)
unfolding of_bits of_fields
floor-positive = (tt, lit≤ tt)

over-floor : (e : Float) → lt floor e ≡ true → T (above e)
unfolding le
over-floor e h = above_of_le floor e floor-positive.0 (subst (λ (t : Bool). T (t || eq floor e)) (sym h) tt)

expected-big : (e : Float) → Within (2 ^ 100) e → T (positive (larger floor e)) × (num (larger floor e) ≤ 2 ^ 100 * den (larger floor e))
unfolding larger
expected-big e w = by-test (lt floor e) refl
  where
    by-test : (t : Bool) → lt floor e ≡ t → T (positive (cond t e floor)) × (num (cond t e floor) ≤ 2 ^ 100 * den (cond t e floor))
    by-test true h = within-positive (2 ^ 100) e (over-floor e h) w
    by-test false h = floor-positive

-- ---- the word of a ratio
above_word : (r : Float) → T (fits binary32 r) → T (above r) → to_bits binary32 r ≡ 0 → ⊥
unfolding of_bits of_fields
above_word r f a h = subst (λ (z : Float). T (above z)) (sym (of_bits-to_bits binary32 r f) ∙ ap (of_bits binary32) h) a

word-not-zero : (n : ℕ) (expected : Float) → n < max_atoms → Within (2 ^ 100) expected → occupancy_word (occupancy_of (suc n) expected) ≡ 0 → ⊥
unfolding occupancy_of
word-not-zero n expected h w =
    let x = of_int binary32 (pos (suc n)) in
    let y = larger floor expected in
    let seen = seen-big n h in
    let some = expected-big expected w in
    above_word (div binary32 x y) (div-fits binary32 x y) (quotient-above x y seen.0 seen.1 some.0 some.1)

-- a box with sides 2 ^ 17 at most, in a cell within the limits, with m waters in it: neither occupancy with some water seen has the word 0
pub ratios-not-zero :
    (c : Cell) (b : OctreeBounds) (m n : ℕ) → Limited c → Around 17 b.extent → m ≤ max_atoms → n < max_atoms →
    (occupancy_word (occupancy_of (suc n) (mul binary32 (density_of c m) (volume_of b.extent))) ≡ 0 → ⊥)
    × (occupancy_word (occupancy_of (suc n) (mul binary32 (density_of c m) (volume_of (expanded c b)))) ≡ 0 → ⊥)
ratios-not-zero c b m n l a few seen =
    let within = expected-within c b m l a few in
    (word-not-zero n (mul binary32 (density_of c m) (volume_of b.extent)) seen within.0, word-not-zero n (mul binary32 (density_of c m) (volume_of (expanded c b))) seen within.1)
