-- How many contacts there can be: a copy has fewer than n, and all have at most n (n - 1) / 2. Assumes nothing.
use mathlib.Core.Path.{◌≡◌, refl, ap}
use mathlib.Core.Bool.{Bool, true, false, ◌||◌}
use Prim.Native.Nat.{ℕ, zero, suc, ◌+◌, ◌-◌, ◌*◌, ◌≤◌, ◌<◌, zero-le}
use native.Mathlib.Nat.{le_refl, le-div_iff_mul-le, suc-mul, zero-lt-suc}
use native.Mathlib.Omega.{arith}
use Rattle.base.specs.Range.{bit, count, total}
use Rattle.cluster_table.specs.Table.{pairs}
use Rattle.clusters.specs.Graph.{contacts_of, degree_of, either}
use Rattle.base.proofs.Ranges.{count-lt}

-- only numbers above i pass
pub count-above : (n i : ℕ) (f : ℕ → Bool) → ((k : ℕ) → f k ≡ true → i < k) → count n f ≤ n - suc i
unfolding count
count-above zero i f h = zero-le
count-above (suc n) i f h = go (f n) refl (count-above n i f h)
  where
    go : (b : Bool) → f n ≡ b → count n f ≤ n - suc i → bit (f n) + count n f ≤ suc n - suc i
    go true e l = rw e (omega (arith, h n e))
    go false e l = rw e (omega arith)

total-le : (n : ℕ) (f g : ℕ → ℕ) → ((k : ℕ) → f k ≤ g k) → total n f ≤ total n g
unfolding total
total-le zero f g h = zero-le
total-le (suc n) f g h = omega (arith, h n, total-le n f g h)

-- 0 + 1 + .. + (n - 1)
tri : ℕ → ℕ
tri zero = 0
tri (suc n) = n + tri n

tri-suc : (m k : ℕ) → m ≡ suc k → tri m ≡ k + tri k
unfolding tri
tri-suc m k e = ap tri e

falling : (N n : ℕ) → n ≤ N → total n (λ i. N - suc i) + tri (N - n) ≡ tri N
unfolding total
falling N zero l = omega (arith, ap tri (native.Mathlib.Nat.sub-zero N))
falling N (suc n) l = omega (arith, falling N n (omega arith), tri-suc (N - n) (N - suc n) (omega arith))

tri-twice : (n : ℕ) → tri n * 2 ≡ n * (n - 1)
unfolding tri
tri-twice zero = refl
tri-twice (suc zero) = refl
tri-twice (suc (suc n)) =
    omega (
      arith,
      tri-twice (suc n),
      suc-mul n (suc n - 1),
      suc-mul (suc n) (suc (suc n) - 1),
      ap (λ (k : ℕ). n * k) (one_less n),
      ap (λ (k : ℕ). suc n * k) (one_less (suc n)),
      suc-mul n (suc n),
      native.Mathlib.Nat.mul-suc n n,
    )
  where
    one_less : (k : ℕ) → suc k - 1 ≡ k
    one_less k = omega arith

pub contacts-few : (n : ℕ) (g : ℕ → ℕ → Bool) → ((i j : ℕ) → g i j ≡ true → (i < j) × (j < n)) → contacts_of n g ≤ pairs n
unfolding contacts_of
contacts-few n g h =
    let a : total n (λ i. count n (g i)) ≤ total n (λ i. n - suc i) = total-le n (λ i. count n (g i)) (λ i. n - suc i) (λ i. count-above n i (g i) (λ k e. (h i k e).0)) in
    let b : total n (λ i. n - suc i) + tri (n - n) ≡ tri n = falling n n (le_refl n) in
    (le-div_iff_mul-le (zero-lt-suc 1)).1 (omega (arith, tri-twice n))

pub degree-below : (n : ℕ) (g : ℕ → ℕ → Bool) (i : ℕ) → ((i j : ℕ) → g i j ≡ true → (i < j) × (j < n)) → i < n → degree_of n g i < n
unfolding degree_of
degree-below n g i h l = count-lt n (either g i) i l (go (g i i) refl)
  where
    go : (b : Bool) → g i i ≡ b → (g i i || g i i) ≡ false
    go true e = absurd (omega (arith, (h i i e).0))
    go false e = rw e
