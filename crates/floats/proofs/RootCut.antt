-- The fields of a rounded root, from any R that is the root of A with h binary digit pairs cut off and that has p + 1 digits. For any p. Assumes nothing.
use mathlib.Core.Path.{◌≡◌, sym, ap, ap₂, ◌∙◌, subst}
use Prim.Native.Nat.{ℕ, suc, ◌+◌, ◌-◌, ◌*◌, ◌/◌, ◌%◌, ◌^◌, ◌≤◌, ◌<◌}
use native.Mathlib.Nat.{le_trans, le_antisymm, le_of_eq, le_of_suc-le-suc, lt_of_lt_of_le, lt_of_le_of_lt, mul_comm, mul_assoc, mul_right_comm, mul-mul-mul_comm, mul-pos, mul-le-mul_right, mul-lt-mul_of_pos_right, le_of_mul-le-mul_right, lt_of_mul-lt-mul_right, pow-suc, le-div_iff_mul-le, div-lt_iff_lt-mul}
use native.Mathlib.Numerals.{add-one}
use native.Mathlib.Omega.{arith}
use lib.Dec.{lit≤}
use lib.Pow.{pow-add, pow_pos, pow_mono}
use lib.Count.{count_leading_zeros, leading_top}
use lib.Ieee.{size}
use Rattle.floats.specs.Inner.{Rooted}
use Rattle.floats.specs.Root.{whole_root, root_drop, root_digits}
use Rattle.floats.proofs.Powers.{pow-shift, pow_lt_back, size_is}
use Rattle.floats.proofs.Squares.{sq-lt-back, four_is, whole_root-is}

-- R is the root of A with h digits cut off, and it has p + 1 digits
record Cut (p h A R : ℕ) : Type 0 where
  low : 2 ^ p ≤ R
  high : R < 2 ^ suc p
  under : R * R * (2 ^ h * 2 ^ h) ≤ A
  over : A < suc R * suc R * (2 ^ h * 2 ^ h)

module _ (p h A R : ℕ) (c : Cut p h A R) where
  -- the whole root is R and h digits more
  r-lo : R * 2 ^ h ≤ whole_root A
  r-lo =
      le_of_suc-le-suc (sq-lt-back (R * 2 ^ h) (suc (whole_root A))
      (lt_of_le_of_lt (le_trans (le_of_eq (sym (mul-mul-mul_comm R R (2 ^ h) (2 ^ h)))) c.under) (whole_root-is A).1))

  r-hi : whole_root A < suc R * 2 ^ h
  r-hi =
      sq-lt-back (whole_root A) (suc R * 2 ^ h) (lt_of_le_of_lt (whole_root-is A).0
      (lt_of_lt_of_le c.over (le_of_eq (mul-mul-mul_comm (suc R) (suc R) (2 ^ h) (2 ^ h)))))

  whole : whole_root A / 2 ^ h ≡ R
  whole = le_antisymm (le_of_suc-le-suc ((div-lt_iff_lt-mul (pow_pos h)).1 r-hi)) ((le-div_iff_mul-le (pow_pos h)).1 r-lo)

  length : size (whole_root A) ≡ suc (p + h)
  length =
      size_is (whole_root A) (p + h) (le_trans (le_of_eq (pow-add 2 p h)) (le_trans (mul-le-mul_right (2 ^ h) c.low) r-lo))
      (lt_of_lt_of_le r-hi (le_trans (mul-le-mul_right (2 ^ h) c.high) (le_of_eq (sym (pow-add 2 (suc p) h) ∙ ap (λ (x : ℕ). 2 ^ x) (slide p h)))))
    where
      slide : (a b : ℕ) → suc a + b ≡ suc (a + b)
      slide a b = omega arith

  drop-is : root_drop p A ≡ h
  unfolding root_drop
  drop-is = ap (λ (x : ℕ). x - suc p) length ∙ back p h
    where
      back : (a b : ℕ) → suc (a + b) - suc a ≡ b
      back a b = omega arith

  digits-is : root_digits p A ≡ (R + 1) / 2
  unfolding root_digits
  digits-is = ap (λ (x : ℕ). (whole_root A / 2 ^ x + 1) / 2) drop-is ∙ ap (λ (x : ℕ). (x + 1) / 2) whole

-- ---- R as `root` gives it: the whole root of m * 4 ^ suc p / 2 ^ 54, for an m of 53 or 54 digits and an even t
module _ (p m t h R : ℕ) (lo : 2 ^ 52 ≤ m) (hi : m < 2 ^ 54) (e : t + 54 ≡ (suc p + suc p) + (h + h)) (r : Rooted (m * 4 ^ suc p / 2 ^ 54) R) where
  abbrev B : ℕ
  B = m * 4 ^ suc p / 2 ^ 54

  abbrev q : ℕ
  q = 4 ^ suc p

  P54 : 0 < 2 ^ 54
  P54 = pow_pos 54

  below : R * R * 2 ^ 54 ≤ m * q
  below = (le-div_iff_mul-le P54).0 r.0

  above : m * q < suc R * suc R * 2 ^ 54
  above = (div-lt_iff_lt-mul P54).0 r.1

  -- 2 ^ 54 * 2 ^ t is 4 ^ suc p * 4 ^ h
  scale : 2 ^ 54 * 2 ^ t ≡ 2 ^ h * 2 ^ h * q
  scale =
      sym (pow-add 2 54 t) ∙ ap (λ (x : ℕ). 2 ^ x) (turn t e) ∙ pow-add 2 (h + h) (suc p + suc p)
      ∙ ap₂ (λ (x y : ℕ). x * y) (pow-add 2 h h) (pow-add 2 (suc p) (suc p) ∙ sym (four_is (suc p)))
    where
      turn : (x : ℕ) → x + 54 ≡ (suc p + suc p) + (h + h) → 54 + x ≡ (h + h) + (suc p + suc p)
      turn x k = omega arith

  -- R cut from A: both bounds of `r`, times 2 ^ t
  q-pos : 0 < q
  q-pos = subst (λ (x : ℕ). 0 < x) (sym (four_is (suc p))) (mul-pos (pow_pos (suc p)) (pow_pos (suc p)))

  cut-under : R * R * (2 ^ h * 2 ^ h) ≤ m * 2 ^ t
  cut-under =
      le_of_mul-le-mul_right
      (le_trans (le_of_eq (mul_assoc (R * R) (2 ^ h * 2 ^ h) q ∙ ap (λ (x : ℕ). R * R * x) (sym scale) ∙ sym (mul_assoc (R * R) (2 ^ 54) (2 ^ t))))
      (le_trans (mul-le-mul_right (2 ^ t) below) (le_of_eq (mul_right_comm m q (2 ^ t)))))
      q-pos

  cut-over : m * 2 ^ t < suc R * suc R * (2 ^ h * 2 ^ h)
  cut-over =
      lt_of_mul-lt-mul_right q
      (lt_of_le_of_lt (le_of_eq (mul_right_comm m (2 ^ t) q))
      (lt_of_lt_of_le (mul-lt-mul_of_pos_right above (pow_pos t))
      (le_of_eq (mul_assoc (suc R * suc R) (2 ^ 54) (2 ^ t) ∙ ap (λ (x : ℕ). suc R * suc R * x) scale ∙ sym (mul_assoc (suc R * suc R) (2 ^ h * 2 ^ h) q)))))

  -- 4 ^ p ≤ B < 4 ^ suc p
  B-lo : 2 ^ p * 2 ^ p ≤ B
  B-lo = (le-div_iff_mul-le P54).1 (le_trans (le_of_eq split) (mul-le-mul_right q lo))
    where
      split : 2 ^ p * 2 ^ p * 2 ^ 54 ≡ 2 ^ 52 * q
      split =
          mul_comm (2 ^ p * 2 ^ p) (2 ^ 54) ∙ mul_assoc (2 ^ 52) 4 (2 ^ p * 2 ^ p)
          ∙ ap (λ (x : ℕ). 2 ^ 52 * x) (mul_comm 4 (2 ^ p * 2 ^ p) ∙ ap (λ (x : ℕ). x * 4) (sym (four_is p)) ∙ sym (pow-suc 4 p))

  B-hi : B < 2 ^ suc p * 2 ^ suc p
  B-hi =
      (div-lt_iff_lt-mul P54).1
      (lt_of_lt_of_le (mul-lt-mul_of_pos_right hi q-pos) (le_of_eq (mul_comm (2 ^ 54) q ∙ ap (λ (x : ℕ). x * 2 ^ 54) (four_is (suc p)))))

  cut : Cut p h (m * 2 ^ t) R
  cut = record {
    low = le_of_suc-le-suc (sq-lt-back (2 ^ p) (suc R) (lt_of_le_of_lt B-lo r.1));
    high = sq-lt-back R (2 ^ suc p) (lt_of_le_of_lt r.0 B-hi);
    under = cut-under;
    over = cut-over;
  }

-- ---- the same, as `even_root` has it
module _ (p m t R : ℕ) (lo : 2 ^ 52 ≤ m) (hi : m < 2 ^ 54) (even : t % 2 ≡ 0) (far : 66 ≤ t) (P : p ≤ 53) (r : Rooted (m * 4 ^ (p + 1) / 2 ^ 54) R) where
  the-cut : Cut p (t / 2 + 26 - p) (m * 2 ^ t) R
  the-cut = cut p m t (t / 2 + 26 - p) R lo hi (halves t even far) (subst (λ (k : ℕ). Rooted (m * 4 ^ k / 2 ^ 54) R) (add-one p) r)
    where
      halves : (x : ℕ) → x % 2 ≡ 0 → 66 ≤ x → x + 54 ≡ (suc p + suc p) + ((x / 2 + 26 - p) + (x / 2 + 26 - p))
      halves x a b = omega arith

  pub even-exponent : t / 2 + 27 - p ≡ suc (root_drop p (m * 2 ^ t))
  even-exponent = next (t / 2) (above-all t far) ∙ ap suc (sym (drop-is p (t / 2 + 26 - p) (m * 2 ^ t) R the-cut))
    where
      above-all : (x : ℕ) → 66 ≤ x → 33 ≤ x / 2
      above-all x a = omega arith

      next : (x : ℕ) → 33 ≤ x → x + 27 - p ≡ suc (x + 26 - p)
      next x a = omega arith

  pub even-digits : (R + 1) / 2 ≡ root_digits p (m * 2 ^ t)
  even-digits = sym (digits-is p (t / 2 + 26 - p) (m * 2 ^ t) R the-cut)

  pub even-lt : R < 2 ^ 54
  even-lt = lt_of_lt_of_le the-cut.high (pow_mono (up_to p P))
    where
      up_to : (x : ℕ) → x ≤ 53 → suc x ≤ 54
      up_to x a = omega arith

-- ---- m shifted up by its leading zeros has 53 digits
pub record Shifted (m z : ℕ) : Type 0 where
  pub room : 11 ≤ z
  pub few : z ≤ 63
  pub long : 2 ^ 52 ≤ m * 2 ^ (z - 11)
  pub short : m * 2 ^ (z - 11) < 2 ^ 53

pub shifted : (m : ℕ) → 0 < m → m < 2 ^ 53 → Shifted m (count_leading_zeros 64 m)
shifted m p h =
    let z = count_leading_zeros 64 m in
    let t = leading_top 64 m p (lt_of_lt_of_le h (lit≤ tt)) in
    let j : t.0 < 53 = pow_lt_back t.0 53 (lt_of_le_of_lt t.2 h) in
    record {
      room = least z t.0 t.1 j;
      few = most z t.0 t.1;
      long = le_trans (le_of_eq (split z t.0 52 (low z t.0 t.1 j))) (mul-le-mul_right (2 ^ (z - 11)) t.2);
      short = lt_of_lt_of_le (mul-lt-mul_of_pos_right t.3 (pow_pos (z - 11))) (le_of_eq (sym (split z (suc t.0) 53 (high z t.0 t.1 j))));
    }
  where
    least : (z j : ℕ) → z + suc j ≡ 64 → j < 53 → 11 ≤ z
    least z j e l = omega arith

    most : (z j : ℕ) → z + suc j ≡ 64 → z ≤ 63
    most z j e = omega arith

    low : (z j : ℕ) → z + suc j ≡ 64 → j < 53 → 52 ≡ j + (z - 11)
    low z j e l = omega arith

    high : (z j : ℕ) → z + suc j ≡ 64 → j < 53 → 53 ≡ suc j + (z - 11)
    high z j e l = omega arith

    split : (z j n : ℕ) → n ≡ j + (z - 11) → 2 ^ n ≡ 2 ^ j * 2 ^ (z - 11)
    split z j n e = ap (λ (x : ℕ). 2 ^ x) e ∙ pow-add 2 j (z - 11)

-- the shift changes digits and exponent, not the number
pub shift_same : (m s t : ℕ) → s ≤ t → m * 2 ^ s * 2 ^ (t - s) ≡ m * 2 ^ t
shift_same m s t h = mul_right_comm m (2 ^ s) (2 ^ (t - s)) ∙ pow-shift m t s h

pub one_up : (d e : ℕ) → 0 < e → d * 2 * 2 ^ (e - 1) ≡ d * 2 ^ e
one_up d e h = shift_same d 1 e h
