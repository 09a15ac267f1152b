-- Powers of two, and the length of a number in binary digits. Nothing here is about floats. Assumes nothing.
use mathlib.Core.Path.{◌≡◌, sym, ap, ◌∙◌}
use Prim.Native.Nat.{ℕ, suc, ◌+◌, ◌-◌, ◌*◌, ◌^◌, ◌≤◌, ◌<◌}
use native.Mathlib.Nat.{le_antisymm, lt_of_lt_of_le, lt_of_not-le, not-le_of_lt, lt_irrefl, mul_assoc, pow-succ'}
use native.Mathlib.Omega.{arith}
use lib.Pow.{pow-add, pow_mono}
use lib.Ieee.{size}
use lib.Ieee.Digits.{back, size-lt, size-le}

pub suc-pred : (n : ℕ) → 0 < n → n ≡ suc (n - 1)
suc-pred n h = omega arith

pub pow-halved : (n : ℕ) → 0 < n → 2 ^ n ≡ 2 * 2 ^ (n - 1)
pow-halved n h = ap (λ (x : ℕ). 2 ^ x) (suc-pred n h) ∙ pow-succ' 2 (n - 1)

-- ---- a number times powers
pub pow-join : (c i j : ℕ) → c * 2 ^ i * 2 ^ j ≡ c * 2 ^ (i + j)
pow-join c i j = mul_assoc c (2 ^ i) (2 ^ j) ∙ ap (λ (x : ℕ). c * x) (sym (pow-add 2 i j))

pub pow-shift : (c j k : ℕ) → k ≤ j → c * 2 ^ (j - k) * 2 ^ k ≡ c * 2 ^ j
pow-shift c j k h = pow-join c (j - k) k ∙ ap (λ (x : ℕ). c * 2 ^ x) (back j k h)

pub pow_lt_back : (i p : ℕ) → 2 ^ i < 2 ^ p → i < p
pow_lt_back i p h = lt_of_not-le (λ (g : p ≤ i). lt_irrefl (2 ^ i) (lt_of_lt_of_le h (pow_mono g)))

-- ---- lengths: a number of no more than j digits is below 2 ^ j, so one from 2 ^ j on has more
pub size-gt : (n j : ℕ) → 2 ^ j ≤ n → j < size n
size-gt n j h = lt_of_not-le (λ (g : size n ≤ j). not-le_of_lt (lt_of_lt_of_le (size-lt n) (pow_mono g)) h)

pub size_is : (n j : ℕ) → 2 ^ j ≤ n → n < 2 ^ suc j → size n ≡ suc j
size_is n j a b = le_antisymm (size-le n (suc j) b) (size-gt n j a)
