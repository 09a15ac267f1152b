-- A sum that has no room for a fraction: `hid f`, which is 2 ^ (prec f - 1), and an a / c below it are rounded to `hid f` and the whole number
-- nearest to a / c, a tie to the even one. For the sum's whole part has all the digits that the format keeps. Assumes nothing.
use mathlib.Core.Path.{◌≡◌, sym, ap, ◌∙◌, subst}
use Prim.Native.Nat.{ℕ, suc, ◌+◌, ◌-◌, ◌*◌, ◌/◌, ◌%◌, ◌^◌, ◌≤◌, ◌<◌, compare}
use native.Mathlib.Nat.{le_trans, le_of_eq, lt_of_lt_of_le, mul-one, mul_assoc, mul_comm, mul_right_comm, mul-pos, mul-lt-mul_of_pos_right, pow-succ', le-div_iff_mul-le, div-lt_iff_lt-mul}
use native.Mathlib.Omega.{arith}
use mathlib.Core.Bool.{false}
use lib.Pow.{pow-add, pow_pos}
use lib.Ieee.{Float, Format, prec, low, hid, size, units, round}
use lib.Ieee.Fits.{two, two-le_pos, nearest-le, core, round_is, round-fits}
use lib.Ieee.Exact.{HasValue, units_val}
use lib.Ieee.Back.{round_whole}
use lib.Ieee.Nearest.{closest, closest_same}
use lib.Ieee.Positive.{num, den}
use Rattle.floats.proofs.Powers.{size_is}
use Rattle.floats.proofs.NearestClose.{closest-shift}
use Rattle.floats.proofs.Signs.{value-finite, value-parts}
use Rattle.floats.proofs.Held.{hid-even, hid-twice, no_overflow}
use Rattle.floats.proofs.SameValue.{same_units}

module _ (f : Format) (a c : ℕ) (C : 0 < c) (small : a < hid f * c) where
  pub closest-le : closest a c ≤ hid f
  closest-le = le_trans (nearest-le (a / c) (compare (a % c * 2) c)) ((div-lt_iff_lt-mul C).1 small)

  pub sum-le : hid f + closest a c ≤ 2 ^ prec f
  sum-le = omega (arith, closest-le, hid-twice f)

  -- as many digits are dropped as stand below one
  dropped : size ((hid f * c + a) * 2 ^ low f / c) - prec f ≡ low f
  dropped =
      let k = prec f - 1 in
      let w : 2 ^ (k + low f) ≡ hid f * 2 ^ low f = pow-add 2 k (low f) in
      let n = (hid f * c + a) * 2 ^ low f in
      ap (λ (z : ℕ). z - prec f)
      (size_is (n / c) (k + low f) ((le-div_iff_mul-le C).1 (above (hid f) (2 ^ low f) (2 ^ (k + low f)) w))
      ((div-lt_iff_lt-mul C).1 (lt_of_lt_of_le (below (hid f) (2 ^ low f) (2 ^ (k + low f)) (pow_pos (low f)) w small)
      (le_of_eq (ap (λ (z : ℕ). z * c) (sym (pow-succ' 2 (k + low f))))))))
      ∙ left (prec f) (low f) (two-le_pos (prec f) (two f))
    where
      above : (P L W : ℕ) → W ≡ P * L → W * c ≤ (P * c + a) * L
      above P L W h = let e : W * c ≡ P * L * c = ap (λ (z : ℕ). z * c) h in omega arith

      below : (P L W : ℕ) → 0 < L → W ≡ P * L → a < P * c → (P * c + a) * L < 2 * W * c
      below P L W l h s =
          let e : W * c ≡ P * L * c = ap (λ (z : ℕ). z * c) h in
          let t : a * L < P * c * L = mul-lt-mul_of_pos_right s l in
          omega arith

      left : (p l : ℕ) → 0 < p → suc (p - 1 + l) - p ≡ l
      left p l h = omega arith

  sum-units : round f false (hid f * c + a) c ≡ units f false (hid f + closest a c) (low f)
  sum-units =
      let n = hid f * c + a in
      let L = 2 ^ low f in
      round_is f false n c
      ∙ ap (λ (k : ℕ). core f false (n * L) c k) dropped
      ∙ ap (λ (q : ℕ). units f false q (low f))
      (closest_same (n * L) (c * L) n c (mul-pos C (pow_pos (low f))) C (mul_assoc n L c ∙ ap (λ (z : ℕ). n * z) (mul_comm L c))
      ∙ closest-shift (hid f) a c C (hid-even f))

  pub sum-whole : round f false (hid f * c + a) c ≡ round f false (hid f + closest a c) 1
  sum-whole =
      let N = hid f + closest a c in
      let L = 2 ^ low f in
      let x = round f false (hid f * c + a) c in
      let y = round f false N 1 in
      let v : HasValue x false (N * L) L = subst (λ (z : Float). HasValue z false (N * L) L) (sym sum-units) (units_val f false N (low f) (no_overflow f N sum-le)) in
      let w : HasValue y false N 1 = round_whole f false N sum-le in
      let p = value-parts x false (N * L) L v in
      let q = value-parts y false N 1 w in
      same_units f x y (N * L) (round-fits f false (hid f * c + a) c) (round-fits f false N 1) (value-finite x false (N * L) L v) (value-finite y false N 1 w)
      (p.0 ∙ sym q.0) p.1
      (ap (λ (z : ℕ). z * L) (sym (mul-one (num y)) ∙ q.1) ∙ mul_right_comm N (den y) L)
