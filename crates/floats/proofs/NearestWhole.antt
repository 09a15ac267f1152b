-- `half_up a c` is the whole number nearest to a / c among those of both signs, and at a half the one further from zero.
-- Nothing here is about floats. Assumes nothing.
use mathlib.Core.Path.{◌≡◌, sym, ap}
use mathlib.Core.Logic.{inl, inr}
use Prim.Native.Nat.{ℕ, zero, suc, ◌+◌, ◌*◌, ◌≤◌, ◌<◌}
use native.Mathlib.Nat.{le_trans, le_of_eq, le_of_lt, lt_of_lt_of_le, lt_of_not-le, lt_irrefl, zero-lt-suc, eq-or-lt_of_le, suc-mul, mul_left_comm, mul-pos, le_of_mul-le-mul_right, div-mul-le_self, lt-div-mul-add}
use native.Mathlib.Omega.{arith}
use native.Mathlib.Decide.{dec_le}
use mathlib.Core.Bool.{Bool, true, false}
use Rattle.floats.specs.Whole.{half_up}
use Rattle.floats.specs.Standard.{gap}
use Rattle.floats.proofs.Fractions.{step}
use Rattle.floats.proofs.Differences.{apart}

-- n is a whole number nearest to a / c, and not below it at a half
abbrev pub Near : ℕ → ℕ → ℕ → Type 0
Near a c n = (2 * (n * c) ≤ 2 * a + c) × (2 * a + c < 2 * (n * c) + 2 * c)

pub half-near : (a c : ℕ) → 0 < c → Near a c (half_up a c)
half-near a c C =
    let q = half_up a c in
    let e : q * (2 * c) ≡ 2 * (q * c) = mul_left_comm q 2 c in (
      le_trans (le_of_eq (sym e)) (div-mul-le_self (2 * a + c) (2 * c)),
      lt_of_lt_of_le (lt-div-mul-add (mul-pos (zero-lt-suc 1) C))
          (le_of_eq (ap (λ (x : ℕ). x + 2 * c) e)),
    )

-- ---- against k with the same sign
beyond : (a c p q : ℕ) → 2 * p ≤ 2 * a + c → 2 * a + c < 2 * p + 2 * c → p + c ≤ q → gap a p < gap a q
beyond a c p q g h l = omega arith

near-like : (a c n k : ℕ) → Near a c n → gap a (n * c) ≤ gap a (k * c)
near-like a c n k h = go (dec_le k n)
  where
    below : (p q : ℕ) → 2 * p ≤ 2 * a + c → q + c ≤ p → gap a p ≤ gap a q
    below p q i l = omega arith

    go : Dec (k ≤ n) → gap a (n * c) ≤ gap a (k * c)
    go (yes l) = elim (eq-or-lt_of_le l) [ inl e ↦ le_of_eq (ap (λ (i : ℕ). gap a (i * c)) (sym e)) | inr b ↦ below (n * c) (k * c) h.0 (step k n c b) ]
    go (no l) = le_of_lt (beyond a c (n * c) (k * c) h.0 h.1 (step n k c (lt_of_not-le l)))

away-like : (a c n k : ℕ) → Near a c n → gap a (n * c) ≡ gap a (k * c) → k ≤ n
away-like a c n k h e = go (dec_le k n)
  where
    go : Dec (k ≤ n) → k ≤ n
    go (yes l) = l
    go (no l) =
        absurd (lt_irrefl (gap a (n * c)) (lt_of_lt_of_le (beyond a c (n * c) (k * c) h.0 h.1 (step n k c (lt_of_not-le l)))
        (le_of_eq (sym e))))

-- ---- against k with the other sign
near-unlike : (a c n k : ℕ) → Near a c n → gap a (n * c) ≤ a + k * c
near-unlike a c zero k h = omega arith
near-unlike a c (suc n) k h = more (suc n * c) (n * c) (k * c) (suc-mul n c) h.0
  where
    more : (p r q : ℕ) → p ≡ r + c → 2 * p ≤ 2 * a + c → gap a p ≤ a + q
    more p r q e i = omega arith

away-unlike : (a c n k : ℕ) → 0 < c → gap a (n * c) ≡ a + k * c → k ≤ n
away-unlike a c n k C e = le_of_mul-le-mul_right (less (n * c) (k * c) e) C
  where
    less : (p q : ℕ) → gap a p ≡ a + q → q ≤ p
    less p q z = omega arith

-- ---- of ±a / c, against ±k
pub near : (s : Bool) (a c n : ℕ) (t : Bool) (k : ℕ) → Near a c n → apart s a s (n * c) ≤ apart s a t (k * c)
near false a c n false k h = near-like a c n k h
near true a c n true k h = near-like a c n k h
near false a c n true k h = near-unlike a c n k h
near true a c n false k h = near-unlike a c n k h

pub outward : (s : Bool) (a c n : ℕ) (t : Bool) (k : ℕ) → 0 < c → Near a c n → apart s a s (n * c) ≡ apart s a t (k * c) → k ≤ n
outward false a c n false k C h e = away-like a c n k h e
outward true a c n true k C h e = away-like a c n k h e
outward false a c n true k C h e = away-unlike a c n k C e
outward true a c n false k C h e = away-unlike a c n k C e
