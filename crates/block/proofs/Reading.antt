-- Values of the bytes read into a table, one at a time.
-- Assumes nothing.
use mathlib.Core.Path.{◌≡◌, refl, ap}
use mathlib.Core.List.{List, [], ◌∷◌, ◌++◌}
use Prim.Native.Nat.{ℕ, zero, suc, ◌+◌, ◌*◌, ◌≤◌, ◌<◌}
use native.Mathlib.Omega.{arith}
use lib.ListN.{length, take, drop, set}
use lib.Seq.{length-take-le}
use Rattle.base.specs.Tables.{over}
use Rattle.base.proofs.Filling.{written}
use Rattle.block.specs.Block.{values_from}

module _ {A : Type 0} (f : ℕ → A) where
  pub length-values : (n p : ℕ) → length (values_from f n p) ≡ n
  unfolding values_from
  length-values zero p = refl
  length-values (suc n) p = ap suc (length-values n (p + 4))

  -- none yet
  pub values-none : (p : ℕ) → [] ≡ values_from f 0 p
  unfolding values_from
  values-none p = refl

  values-more : (p n : ℕ) → values_from f (suc n) p ≡ values_from f n p ++ (f (p + n * 4) ∷ [])
  unfolding values_from
  values-more p zero = let e : p + 0 * 4 ≡ p = omega arith in rw e
  values-more p (suc n) = let e : p + 4 + n * 4 ≡ p + suc n * 4 = omega arith in ap (λ l. f p ∷ l) (rw (values-more (p + 4) n, e))

  -- entry i written at turn i
  pub values-next : (p i : ℕ) (t : List A) → i < length t → take i t ≡ values_from f i p → take (i + 1) (set t i (f (p + i * 4))) ≡ values_from f (i + 1) p
  values-next p i t = written (λ n. values_from f n p) (λ n. f (p + n * 4)) (values-more p) t i

  -- the table's start is filled
  pub values-over : (n p : ℕ) (t new : List A) → n ≤ length t → new ≡ values_from f (length (take n t)) p → new ++ drop n t ≡ over (values_from f n p) t
  unfolding over
  values-over n p t new h e = rw (e, length-take-le n t h, length-values n p)
