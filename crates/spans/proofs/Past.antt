-- The first number that fails a test: a step of the search for it, and where it ends. Assumes nothing.
use mathlib.Core.Path.{◌≡◌, ap, ◌∙◌}
use mathlib.Core.Bool.{Bool, true, false, cond}
use Prim.Native.Nat.{ℕ, zero, suc, ◌+◌, ◌-◌, ◌≤◌, ◌<◌}
use native.Mathlib.Numerals.{add-one}
use native.Mathlib.Omega.{arith}
use Rattle.spans.specs.Inner.{first_past}

-- the search never goes back
pub past-least : (f : ℕ → Bool) (k j : ℕ) → j ≤ first_past f k j
unfolding first_past
past-least f zero j = omega arith
past-least f (suc k) j = by (f j) (past-least f k (suc j))
  where
    by : (b : Bool) → suc j ≤ first_past f k (suc j) → j ≤ cond b (first_past f k (suc j)) j
    by true h = omega arith
    by false h = omega arith

module _ (f : ℕ → Bool) (n k : ℕ) where
  past-step : k < n → first_past f (n - k) k ≡ cond (f k) (first_past f (n - (k + 1)) (k + 1)) k
  unfolding first_past
  past-step l = rw (left, add-one k)
    where
      left : n - k ≡ suc (n - (k + 1))
      left = omega arith

  -- a number that passes is passed over
  pub past-on : k < n → f k ≡ true → first_past f (n - k) k ≡ first_past f (n - (k + 1)) (k + 1)
  past-on l e = past-step l ∙ rw e

  -- one that fails is the first
  pub past-here : k < n → f k ≡ false → first_past f (n - k) k ≡ k
  past-here l e = past-step l ∙ rw e

  -- none is left
  pub past-none : n ≤ k → first_past f (n - k) k ≡ k
  unfolding first_past
  past-none h = ap (λ (m : ℕ). first_past f m k) left
    where
      left : n - k ≡ 0
      left = omega arith
