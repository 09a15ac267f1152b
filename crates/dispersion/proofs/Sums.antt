-- The sums of squared distances that the loops make, a term or a block at a time: what is left from an index on decides. Assumes nothing.
use mathlib.Core.Path.{◌≡◌, ap, ◌∙◌}
use mathlib.Core.List.{List}
use Prim.Native.Nat.{ℕ, zero, suc, ◌+◌, ◌-◌, ◌≤◌, ◌<◌}
use native.Mathlib.Nat.{add-zero, zero-add, suc-add}
use native.Mathlib.Omega.{arith}
use lib.ListN.{get_or}
use lib.Ieee.{Float, nan, binary64, add}
use Rattle.cell.specs.declared.Vec3.{Vec3}
use Rattle.cell.specs.Cell.{distance2, point_at}
use Rattle.dispersion.specs.Dispersion.{row_sum, pair_sum}

-- ---- over the centers after center i, of which m - k are left, and over the centers i
left-more : (n j : ℕ) → j < n → n - j ≡ suc (n - (j + 1))
left-more n j h = omega arith

left-none : (n j : ℕ) → n ≤ j → n - j ≡ 0
left-none n j h = omega arith

module _ (e : Vec3) (cs : List Float) where
  pub row_more : (i m k j : ℕ) (s : Float) → k < m → row_sum e cs i (m - k) j s ≡ row_sum e cs i (m - (k + 1)) (j + 1) (add binary64 s (distance2 e (point_at cs i) (point_at cs j)))
  unfolding row_sum
  row_more i m k j s h = rw (left-more m k h)

  pub row_none : (i m k j : ℕ) (s : Float) → m ≤ k → row_sum e cs i (m - k) j s ≡ s
  unfolding row_sum
  row_none i m k j s h = rw (left-none m k h)

  pub pair_more : (n i : ℕ) (s : Float) → i < n → pair_sum e cs n (n - i) i s ≡ pair_sum e cs n (n - (i + 1)) (i + 1) (row_sum e cs i (n - (i + 1)) (i + 1) s)
  unfolding pair_sum
  pair_more n i s h = rw (left-more n i h)

  pub pair_none : (n i : ℕ) (s : Float) → n ≤ i → pair_sum e cs n (n - i) i s ≡ s
  unfolding pair_sum
  pair_none n i s h = rw (left-none n i h)

-- ---- a block at a time
row-split : (e : Vec3) (cs : List Float) (i a b j : ℕ) (s : Float) → row_sum e cs i (a + b) j s ≡ row_sum e cs i b (j + a) (row_sum e cs i a j s)
unfolding row_sum
row-split e cs i zero b j s = rw (zero-add, add-zero)
row-split e cs i (suc a) b j s =
    ap (λ (k : ℕ). row_sum e cs i k j s) (suc-add a b) ∙ row-split e cs i a b (j + 1) (add binary64 s (distance2 e (point_at cs i) (point_at cs j)))
    ∙ ap (λ (k : ℕ). row_sum e cs i b k (row_sum e cs i (suc a) j s)) (later j a)
  where
    later : (j a : ℕ) → j + 1 + a ≡ j + suc a
    later j a = omega arith

pub row_block : (e : Vec3) (cs : List Float) (n i j b : ℕ) (s : Float) → b ≤ n - j → row_sum e cs i (n - j) j s ≡ row_sum e cs i (n - (j + b)) (j + b) (row_sum e cs i b j s)
row_block e cs n i j b s h = ap (λ (k : ℕ). row_sum e cs i k j s) (left n j b h) ∙ row-split e cs i b (n - (j + b)) j s
  where
    left : (n j b : ℕ) → b ≤ n - j → n - j ≡ b + (n - (j + b))
    left n j b h = omega arith

-- the first n of the list are the squared distances of center i to the centers from j on
abbrev pub Distances : Vec3 → List Float → ℕ → ℕ → List Float → ℕ → Type 0
Distances e cs i j qs n = (k : ℕ) → k < n → get_or qs k nan ≡ distance2 e (point_at cs i) (point_at cs (j + k))
