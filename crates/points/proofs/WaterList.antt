-- The finite waters, wrapped: counted, and written into a table, point by point. Assumes nothing.
use mathlib.Core.Path.{◌≡◌, refl, ◌∙◌}
use mathlib.Core.Bool.{Bool, true, false, cond}
use mathlib.Core.List.{List, []}
use Prim.Native.Nat.{ℕ, zero, suc, ◌+◌, ◌-◌, ◌*◌, ◌/◌, ◌≤◌, ◌<◌}
use native.Mathlib.Nat.{sub-zero, zero-add, add-zero}
use native.Mathlib.Omega.{arith}
use lib.ListN.{length, set}
use lib.Ieee.{Float}
use Rattle.cell.specs.declared.Cell.{Cell}
use Rattle.cell.specs.Cell.{wrap, point_at, finite_point}
use Rattle.base.proofs.Tests.{bit_le}
use Rattle.base.specs.Tables.{over}
use Rattle.base.proofs.Filling.{Filling, filling-first, filling-last, filling-three}
use Rattle.base.proofs.Placing.{placed-zero}
use Rattle.points.specs.Points.{point_before, wrap_finite_from, finite_count, tree_waters, finite_waters}

finite-few : (ws : List Float) (n i : ℕ) → finite_count ws n i ≤ n
unfolding finite_count
finite-few ws zero i = omega arith
finite-few ws (suc n) i = by-test (finite_point (point_at ws i)) (finite-few ws n (i + 1))
  where
    by-test : (b : Bool) → finite_count ws n (i + 1) ≤ n → cond b 1 0 + finite_count ws n (i + 1) ≤ suc n
    by-test true h = omega arith
    by-test false h = omega arith

module _ (c : Cell) (ws : List Float) where
  -- three floats for each finite water
  from-length : (n i : ℕ) → length (wrap_finite_from c ws n i) ≡ finite_count ws n i * 3
  unfolding wrap_finite_from finite_count
  from-length zero i = refl
  from-length (suc n) i = by-test (finite_point (point_at ws i)) (from-length n (i + 1))
    where
      rest : List Float
      rest = wrap_finite_from c ws n (i + 1)

      by-test :
          (b : Bool) → length rest ≡ finite_count ws n (i + 1) * 3 →
          length (cond b (point_before (wrap c (point_at ws i)) rest) rest) ≡ (cond b 1 0 + finite_count ws n (i + 1)) * 3
      by-test true h = omega arith
      by-test false h = omega arith

  pub waters-length : length (tree_waters c ws) ≡ finite_waters ws * 3
  unfolding tree_waters finite_waters
  waters-length = from-length (length ws / 3) 0

  pub waters-few : length (tree_waters c ws) ≤ length ws
  unfolding finite_waters
  waters-few = omega (arith, waters-length, finite-few ws (length ws / 3) 0)

  -- what is still to come from water k on
  pub later : ℕ → List Float
  later k = wrap_finite_from c ws (length ws / 3 - k) k

  later_first : later 0 ≡ tree_waters c ws
  unfolding later tree_waters
  later_first = rw sub-zero

  later-finite : (k : ℕ) → k < length ws / 3 → finite_point (point_at ws k) ≡ true → later k ≡ point_before (wrap c (point_at ws k)) (later (k + 1))
  unfolding later wrap_finite_from
  later-finite k h f =
      let more : length ws / 3 - k ≡ suc (length ws / 3 - (k + 1)) = omega arith in
      rw (more, f)

  later-other : (k : ℕ) → k < length ws / 3 → finite_point (point_at ws k) ≡ false → later k ≡ later (k + 1)
  unfolding later wrap_finite_from
  later-other k h f =
      let more : length ws / 3 - k ≡ suc (length ws / 3 - (k + 1)) = omega arith in
      rw (more, f)

  later_last : (k : ℕ) → length ws / 3 ≤ k → later k ≡ []
  unfolding later wrap_finite_from
  later_last k h =
      let none : length ws / 3 - k ≡ 0 = omega arith in
      rw none

-- of the waters before k, m are finite
pub record Counting (ws : List Float) (k m : ℕ) : Type 0 where
  pub few : m ≤ k
  pub total : m + finite_count ws (length ws / 3 - k) k ≡ finite_waters ws

module _ {ws : List Float} where
  pub counting-first : Counting ws 0 0
  unfolding finite_waters
  counting-first = record { few = omega arith; total = rw (sub-zero, zero-add) }

  -- water k is finite, or it is not
  counting-next : {k m : ℕ} (b : Bool) → k < length ws / 3 → finite_point (point_at ws k) ≡ b → Counting ws k m → Counting ws (k + 1) (m + cond b 1 0)
  unfolding finite_count
  counting-next {k} {m} b h f p =
      let more : length ws / 3 - k ≡ suc (length ws / 3 - (k + 1)) = omega arith in
      let total : m + (cond b 1 0 + finite_count ws (length ws / 3 - (k + 1)) (k + 1)) ≡ finite_waters ws = rw (more, f) at p.total in
      record { few = omega (arith, p.few, bit_le b); total = omega arith }

  pub counting-finite : {k m : ℕ} → k < length ws / 3 → finite_point (point_at ws k) ≡ true → Counting ws k m → Counting ws (k + 1) (m + 1)
  counting-finite h f p = counting-next true h f p

  pub counting-other : {k m : ℕ} → k < length ws / 3 → finite_point (point_at ws k) ≡ false → Counting ws k m → Counting ws (k + 1) m
  counting-other {m = m} h f p = rw (add-zero m) at (counting-next false h f p)

  pub counting-last : {k m : ℕ} → length ws / 3 ≤ k → Counting ws k m → m ≡ finite_waters ws
  unfolding finite_count
  counting-last {k} {m} h p =
      let none : length ws / 3 - k ≡ 0 = omega arith in
      let total : m + 0 ≡ finite_waters ws = rw none at p.total in
      omega arith

-- and they are written from the start of the table out₀, now out
pub record Writing (c : Cell) (ws out₀ : List Float) (k m : ℕ) (out : List Float) : Type 0 where
  pub counting : Counting ws k m
  pub filling : Filling 0 (tree_waters c ws) out₀ (m * 3) (later c ws k) out

module _ {c : Cell} {ws out₀ : List Float} where
  pub writing-first : length ws ≤ length out₀ → Writing c ws out₀ 0 0 out₀
  writing-first h =
      let few = waters-few c ws in
      record { counting = counting-first; filling = rw (later_first c ws) (filling-first (omega arith)) }

  pub writing-finite :
      {k m : ℕ} {out : List Float} → k < length ws / 3 → finite_point (point_at ws k) ≡ true → Writing c ws out₀ k m out →
      let w = wrap c (point_at ws k) in
      Writing c ws out₀ (k + 1) (m + 1) (set (set (set out (m * 3) w.x) (m * 3 + 1) w.y) (m * 3 + 2) w.z)
  writing-finite {k} {m} h f z =
      let at : (m + 1) * 3 ≡ m * 3 + 3 = omega arith in
      record {
        counting = counting-finite h f z.counting;
        filling = rw at (filling-three (rw (later-finite c ws k h f) at z.filling));
      }

  pub writing-other : {k m : ℕ} {out : List Float} → k < length ws / 3 → finite_point (point_at ws k) ≡ false → Writing c ws out₀ k m out → Writing c ws out₀ (k + 1) m out
  writing-other {k} {m} h f z = record { counting = counting-other h f z.counting; filling = rw (later-other c ws k h f) at z.filling }

  pub writing-last : {k m : ℕ} {out : List Float} → length ws / 3 ≤ k → Writing c ws out₀ k m out → (m ≡ finite_waters ws) × (out ≡ over (tree_waters c ws) out₀)
  writing-last {k} {m} h z =
      (counting-last h z.counting, filling-last (rw (later_last c ws k h) at z.filling) ∙ placed-zero (tree_waters c ws) out₀)
