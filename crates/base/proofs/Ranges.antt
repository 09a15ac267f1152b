-- Laws of tests, counts, sums and the greatest over the numbers below n; those on sums serve `clusters`. Assumes nothing.
use mathlib.Core.Path.{◌≡◌, refl, sym, ap, ap₂, ◌∙◌, subst}
use mathlib.Core.Bool.{Bool, true, false, ◌&&◌}
use mathlib.Core.Logic.{⊎_elim}
use Prim.Native.Nat.{ℕ, zero, suc, ◌+◌, ◌≤◌, ◌<◌, max, zero-le}
use native.Mathlib.Nat.{le_refl, le_of_suc-le-suc, not-suc-le-zero, eq-or-lt_of_le}
use native.Mathlib.Omega.{arith}
use native.Mathlib.Decide.{dec_le}
use native.Mathlib.Numerals.{add-one}
use Rattle.base.proofs.Tests.{and_left, and_right, and-false, bit_le}
use Rattle.base.specs.Range.{bit, all_below, count, total, greatest}

-- a number below n + 1 is n or below n
pub split : {P : Type 0} {k n : ℕ} → k < suc n → (k ≡ n → P) → (k < n → P) → P
split l f g = ⊎_elim f g (eq-or-lt_of_le (le_of_suc-le-suc l))

-- ---- tests
-- the steps of a loop that tests all
pub all_none : (f : ℕ → Bool) → true ≡ all_below 0 f
unfolding all_below
all_none f = refl

pub all-next : (n : ℕ) (f : ℕ → Bool) (a : Bool) → a ≡ all_below n f → (a && f n) ≡ all_below (n + 1) f
unfolding all_below
all-next n f a e = rw (add-one, e)

pub all_true : (n : ℕ) (f : ℕ → Bool) → ((k : ℕ) → k < n → f k ≡ true) → all_below n f ≡ true
unfolding all_below
all_true zero f h = refl
all_true (suc n) f h = rw (all_true n f (λ k l. h k (omega arith)), h n (le_refl (suc n)))

-- two tests of the same answers, and two tests at once
pub all_same : (n : ℕ) (f g : ℕ → Bool) → ((k : ℕ) → k < n → f k ≡ g k) → all_below n f ≡ all_below n g
unfolding all_below
all_same zero f g h = refl
all_same (suc n) f g h = rw (all_same n f g (λ k l. h k (omega arith)), h n (le_refl (suc n)))

and-swap : (a b c d : Bool) → ((a && c) && (b && d)) ≡ ((a && b) && (c && d))
and-swap false b c d = refl
and-swap true b true d = refl
and-swap true true false d = refl
and-swap true false false d = refl

pub all_both : (n : ℕ) (f g : ℕ → Bool) → (all_below n f && all_below n g) ≡ all_below n (λ k. f k && g k)
unfolding all_below
all_both zero f g = refl
all_both (suc n) f g = rw (← all_both n f g) (and-swap (all_below n f) (all_below n g) (f n) (g n))

pub all-at : (n : ℕ) (f : ℕ → Bool) (k : ℕ) → all_below n f ≡ true → k < n → f k ≡ true
unfolding all_below
all-at zero f k e l = absurd (not-suc-le-zero l)
all-at (suc n) f k e l =
    let ih : k < n → f k ≡ true = λ l. all-at n f k (and_left (all_below n f) (f n) e) l in
    split l (λ d. ap f d ∙ and_right (all_below n f) (f n) e) ih

pub all-false : (n : ℕ) (f : ℕ → Bool) (k : ℕ) → k < n → f k ≡ false → all_below n f ≡ false
unfolding all_below
all-false zero f k l e = absurd (not-suc-le-zero l)
all-false (suc n) f k l e =
    let ih : k < n → all_below n f ≡ false = λ l. all-false n f k l e in
    split l
    (λ d. and-false (all_below n f) (f n) (sym (ap f d) ∙ e))
    (λ m. rw (ih m))

-- ---- counts
pub count-le : (n : ℕ) (f : ℕ → Bool) → count n f ≤ n
unfolding count
count-le zero f = zero-le
count-le (suc n) f = omega (arith, bit_le (f n), count-le n f)

pub count-bounded : (n : ℕ) (f : ℕ → Bool) (k : ℕ) → k ≡ count n f → k ≤ n
count-bounded n f k e = rw e (count-le n f)

pub count_same : (n : ℕ) (f g : ℕ → Bool) → ((k : ℕ) → k < n → f k ≡ g k) → count n f ≡ count n g
unfolding count
count_same zero f g h = refl
count_same (suc n) f g h = ap₂ (λ b m. bit b + m) (h n (le_refl (suc n))) (count_same n f g (λ k l. h k (omega arith)))

-- none passes
pub count-zero : (n : ℕ) (f : ℕ → Bool) → ((k : ℕ) → k < n → f k ≡ false) → count n f ≡ 0
unfolding count
count-zero zero f h = refl
count-zero (suc n) f h = rw (h n (le_refl (suc n))) (omega (arith, count-zero n f (λ k l. h k (omega arith))))

-- one number more passes
pub count_add : (n : ℕ) (f g : ℕ → Bool) (x : ℕ) → x < n → ((k : ℕ) → k < n → (k ≡ x → ⊥) → f k ≡ g k) → f x ≡ false → g x ≡ true
    → count n g ≡ suc (count n f)
unfolding count
count_add zero f g x l h p q = absurd (not-suc-le-zero l)
count_add (suc n) f g x l h p q =
    let ih : x < n → count n g ≡ suc (count n f) = λ l. count_add n f g x l (λ k m. h k (omega arith)) p q in
    split l
    (λ e. rw (sym (ap g e) ∙ q, sym (ap f e) ∙ p, sym (count_same n f g (λ k m. h k (omega arith) (λ d. omega arith)))) (omega arith))
    (λ m. rw (sym (h n (le_refl (suc n)) (λ d. omega arith)), ih m) (omega arith))

-- a number that fails is not counted
pub count-lt : (n : ℕ) (f : ℕ → Bool) (x : ℕ) → x < n → f x ≡ false → count n f < n
unfolding count
count-lt zero f x l h = absurd (not-suc-le-zero l)
count-lt (suc n) f x l h =
    let ih : x < n → count n f < n = λ l. count-lt n f x l h in
    split l
    (λ e. rw (sym (ap f e) ∙ h) (omega (arith, count-le n f)))
    (λ m. omega (arith, bit_le (f n), ih m))

-- a number that passes is counted, and where one is counted it is there
pub count-pos : (n : ℕ) (f : ℕ → Bool) (x : ℕ) → x < n → f x ≡ true → 0 < count n f
unfolding count
count-pos zero f x l h = absurd (not-suc-le-zero l)
count-pos (suc n) f x l h =
    let ih : x < n → 0 < count n f = λ l. count-pos n f x l h in
    split l
    (λ e. rw (sym (ap f e) ∙ h) (omega arith))
    (λ m. omega (arith, ih m))

pub count-some : (n : ℕ) (f : ℕ → Bool) → 0 < count n f → (k : ℕ) × (k < n) × (f k ≡ true)
unfolding count
count-some zero f l = absurd (not-suc-le-zero l)
count-some (suc n) f l = go (f n) refl (λ h. count-some n f h)
  where
    go : (b : Bool) → f n ≡ b → (0 < count n f → (k : ℕ) × (k < n) × (f k ≡ true)) → (k : ℕ) × (k < suc n) × (f k ≡ true)
    go true e ih = (n, le_refl (suc n), e)
    go false e ih =
        let h : 0 < bit false + count n f = subst (λ b. 0 < bit b + count n f) e l in
        let w = ih (omega arith) in (w.0, omega (arith, w.1), w.2)

-- ---- the steps of a loop that counts
pub count_none : (f : ℕ → Bool) → 0 ≡ count 0 f
unfolding count
count_none f = refl

pub count_next : (n : ℕ) (f : ℕ → Bool) → count (n + 1) f ≡ bit (f n) + count n f
unfolding count
count_next n f = rw add-one

pub count-hit : (i : ℕ) (f : ℕ → Bool) (k m : ℕ) → k ≡ count i f → f i ≡ true → m ≡ k + 1 → m ≡ count (i + 1) f
count-hit i f k m e h d = omega (arith, count_next i f ∙ ap (λ b. bit b + count i f) h)

pub count-miss : (i : ℕ) (f : ℕ → Bool) (k m : ℕ) → k ≡ count i f → f i ≡ false → m ≡ k → m ≡ count (i + 1) f
count-miss i f k m e h d = omega (arith, count_next i f ∙ ap (λ b. bit b + count i f) h)

-- ---- sums
pub total-same : (n : ℕ) (f g : ℕ → ℕ) → ((k : ℕ) → k < n → f k ≡ g k) → total n f ≡ total n g
unfolding total
total-same zero f g h = refl
total-same (suc n) f g h = ap₂ ◌+◌ (h n (le_refl (suc n))) (total-same n f g (λ k l. h k (omega arith)))

-- one value is one more
pub total-add : (n : ℕ) (f g : ℕ → ℕ) (x : ℕ) → x < n → ((k : ℕ) → k < n → (k ≡ x → ⊥) → f k ≡ g k) → g x ≡ suc (f x)
    → total n g ≡ suc (total n f)
unfolding total
total-add zero f g x l h q = absurd (not-suc-le-zero l)
total-add (suc n) f g x l h q =
    let ih : x < n → total n g ≡ suc (total n f) = λ l. total-add n f g x l (λ k m. h k (omega arith)) q in
    split l
    (λ e. omega (arith, sym (ap g e) ∙ q ∙ ap (λ y. suc (f y)) e, total-same n f g (λ k m. h k (omega arith) (λ d. omega arith))))
    (λ m. omega (arith, h n (le_refl (suc n)) (λ d. omega arith), ih m))

-- ---- the greatest
pub greatest-same : (n : ℕ) (f g : ℕ → ℕ) → ((k : ℕ) → k < n → f k ≡ g k) → greatest n f ≡ greatest n g
unfolding greatest
greatest-same zero f g h = refl
greatest-same (suc n) f g h = ap₂ max (h n (le_refl (suc n))) (greatest-same n f g (λ k l. h k (omega arith)))

pub greatest-le : (n : ℕ) (f : ℕ → ℕ) (m : ℕ) → ((k : ℕ) → f k ≤ m) → greatest n f ≤ m
unfolding greatest
greatest-le zero f m h = zero-le
greatest-le (suc n) f m h = omega (arith, h n, greatest-le n f m h)

-- it is at least each value
pub greatest-at : (n : ℕ) (f : ℕ → ℕ) (k : ℕ) → k < n → f k ≤ greatest n f
unfolding greatest
greatest-at zero f k l = absurd (not-suc-le-zero l)
greatest-at (suc n) f k l =
    let ih : k < n → f k ≤ greatest n f = λ l. greatest-at n f k l in
    split l (λ e. omega (arith, ap f e)) (λ m. omega (arith, ih m))

-- and one of them
pub greatest-is : (n : ℕ) (f : ℕ → ℕ) → 0 < n → (k : ℕ) × (k < n) × (f k ≡ greatest n f)
unfolding greatest
greatest-is zero f l = absurd (not-suc-le-zero l)
greatest-is (suc zero) f l = (0, le_refl 1, omega arith)
greatest-is (suc (suc n)) f l = pick (greatest-is (suc n) f (omega arith))
  where
    pick : (k : ℕ) × (k < suc n) × (f k ≡ greatest (suc n) f) → (k : ℕ) × (k < suc (suc n)) × (f k ≡ max (f (suc n)) (greatest (suc n) f))
    pick w = go (dec_le (f (suc n)) (greatest (suc n) f))
      where
        go : Dec (f (suc n) ≤ greatest (suc n) f) → (k : ℕ) × (k < suc (suc n)) × (f k ≡ max (f (suc n)) (greatest (suc n) f))
        go (yes h) = (w.0, omega arith, omega arith)
        go (no h) = (suc n, le_refl (suc (suc n)), omega arith)

-- one value is raised
pub greatest-raise : (n : ℕ) (f g : ℕ → ℕ) (x : ℕ) → x < n → ((k : ℕ) → k < n → (k ≡ x → ⊥) → f k ≡ g k) → f x ≤ g x
    → greatest n g ≡ max (g x) (greatest n f)
unfolding greatest
greatest-raise zero f g x l h m = absurd (not-suc-le-zero l)
greatest-raise (suc n) f g x l h m =
    let ih : x < n → greatest n g ≡ max (g x) (greatest n f) = λ l. greatest-raise n f g x l (λ k m. h k (omega arith)) m in
    split l
    (λ e. omega (arith, ap g e, ap f e, greatest-same n f g (λ k m. h k (omega arith) (λ d. omega arith))))
    (λ j. omega (arith, h n (le_refl (suc n)) (λ d. omega arith), ih j))
