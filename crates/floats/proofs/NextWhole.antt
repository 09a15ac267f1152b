-- A rounded value is at most another rounded value, or at least that and one, as the sum has it. Assumes nothing.
use mathlib.Core.Path.{◌≡◌, refl, sym, subst}
use mathlib.Core.Logic.{◌⊎◌, inl, inr}
use mathlib.Core.Bool.{Bool, true, false, not, true≢false}
use Prim.Native.Nat.{ℕ, ◌+◌, ◌*◌, ◌≤◌, ◌<◌}
use native.Mathlib.Nat.{zero-lt-suc, mul-pos, mul-le-mul_right, add_comm}
use native.Mathlib.Omega.{arith}
use lib.Dec.{T, ltb, ltb→lt, nltb→le}
use lib.Ieee.{Float, nan, inf, fin, Format, fits, up, down, round, add, le}
use lib.Ieee.Fits.{down_pos}
use lib.Ieee.Scale.{finite}
use lib.Ieee.Exact.{HasValue}
use Rattle.floats.specs.Standard.{gain, loss}
use Rattle.floats.specs.Whole.{half_up, round_of}
use Rattle.floats.proofs.Signed.{round-le, rounded-le}
use Rattle.floats.proofs.Operations.{add-rounded}
use Rattle.floats.proofs.WholeSizes.{round_size, round-rounds, rounds-value}

next-split : (f : Format) (s : Bool) (n : ℕ) (K o : Float) → K ≡ round f s n 1 → HasValue K s n 1 → HasValue o false 1 1 → (y : Float) → T (finite y)
    → T (le (round_of f y) K) ⊎ T (le (add f K o) (round_of f y))
unfolding round_of
next-split f s n K o is v u nan p = absurd p
next-split f s n K o is v u (inf b) p = absurd p
next-split f s n nan o is v u (fin b k e) p = absurd v
next-split f s n (inf c) o is v u (fin b k e) p = absurd v
next-split f s n (fin c a d) nan is v u (fin b k e) p = absurd u
next-split f s n (fin c a d) (inf c') is v u (fin b k e) p = absurd u
next-split f s n (fin c a d) (fin c' a' d') is v u (fin b k e) p = go b (half_up (k * up e) (down e))
  where
    scaled : (gs ls x y D D' gb lb : ℕ) → gs + lb < gb + ls → y * 1 ≡ 1 * D' → (gs * D * D' + y * D) * 1 + lb * (D * D') ≤ gb * (D * D') + (ls * D * D' + 0 * D) * 1
    scaled gs ls x y D D' gb lb l i =
        let j : y ≡ D' = omega (arith, i) in
        let k : (gs + lb + 1) * (D * D') ≤ (gb + ls) * (D * D') = mul-le-mul_right (D * D') (omega (arith, l)) in
        subst (λ (w : ℕ). (gs * D * D' + w * D) * 1 + lb * (D * D') ≤ gb * (D * D') + (ls * D * D' + 0 * D) * 1) (sym j) (omega (arith, k))

    at : (c s : Bool) (n x D : ℕ) → c ≡ s → x * 1 ≡ n * D → (gain c x ≡ gain s n * D) × (loss c x ≡ loss s n * D)
    at false false n x D i k = (omega (arith, k), omega arith)
    at true true n x D i k = (omega arith, omega (arith, k))
    at true false n x D i k = absurd (true≢false i)
    at false true n x D i k = absurd (true≢false (sym i))

    sum-le : (b : Bool) (h : ℕ) (c c' : Bool) → c ≡ s → c' ≡ false → gain s n + loss b h < gain b h + loss s n → T (le (add f (fin c a d) (fin c' a' d')) (round f b h 1))
    sum-le b h c true i j l = absurd (true≢false j)
    sum-le b h c false i j l =
        let k = at c s n (a * up d) (down d) i v.1 in
        rounded-le f (add f (fin c a d) (fin false a' d')) (gain c (a * up d) * down d' + a' * up d' * down d) (loss c (a * up d) * down d' + 0 * down d) (down d * down d')
        (round f b h 1) (gain b h) (loss b h) 1
        (mul-pos (down_pos d) (down_pos d')) (zero-lt-suc 0) (add-rounded f (fin c a d) (fin false a' d') tt tt)
        (record { s = b; k = h; is = refl; val = add_comm (gain b h) (loss b h) })
        (subst (λ (w : ℕ). (w * down d' + a' * up d' * down d) * 1 + loss b h * (down d * down d') ≤ gain b h * (down d * down d') + (loss c (a * up d) * down d' + 0 * down d) * 1) (sym k.0)
        (subst (λ (w : ℕ). (gain s n * down d * down d' + a' * up d' * down d) * 1 + loss b h * (down d * down d') ≤ gain b h * (down d * down d') + (w * down d' + 0 * down d) * 1) (sym k.1)
        (scaled (gain s n) (loss s n) (a * up d) (a' * up d') (down d) (down d') (gain b h) (loss b h) l u.1)))

    go : (b : Bool) (h : ℕ) → T (le (round f b h 1) (fin c a d)) ⊎ T (le (add f (fin c a d) (fin c' a' d')) (round f b h 1))
    go b h = by (ltb (gain s n + loss b h) (gain b h + loss s n)) refl
      where
        by : (z : Bool) → ltb (gain s n + loss b h) (gain b h + loss s n) ≡ z → T (le (round f b h 1) (fin c a d)) ⊎ T (le (add f (fin c a d) (fin c' a' d')) (round f b h 1))
        by true q = inr (sum-le b h c c' v.0 u.0 (ltb→lt (gain s n + loss b h) (gain b h + loss s n) (subst T (sym q) tt)))
        by false q =
            let l : gain b h + loss s n ≤ gain s n + loss b h = nltb→le (gain s n + loss b h) (gain b h + loss s n) (subst (λ (z : Bool). T (not z)) (sym q) tt) in
            inl (subst (λ (z : Float). T (le (round f b h 1) z)) (sym is) (round-le f b h 1 s n 1 (zero-lt-suc 0) (zero-lt-suc 0) (omega arith)))

pub next_of : (f : Format) (x y o : Float) → T (finite x) → T (fits f x) → HasValue o false 1 1 → T (finite y) → T (le (round_of f y) (round_of f x)) ⊎ T (le (add f (round_of f x) o) (round_of f y))
unfolding round_of
next_of f nan y o p h u q = absurd p
next_of f (inf s) y o p h u q = absurd p
next_of f (fin s m e) y o p h u q =
    next-split f s (half_up (m * up e) (down e)) (round_of f (fin s m e)) o refl (rounds-value f round_size (round_of f) (round-rounds f) s m e h) u y q
