-- The order of finite floats: what its tests say, the larger and the smaller of two, values beside a whole number, values off zero.
-- Assumes nothing.
use mathlib.Core.Path.{◌≡◌, refl, sym, subst}
use mathlib.Core.Logic.{◌⊎◌, inl, inr}
use mathlib.Core.Bool.{Bool, true, false, not, ◌||◌, cond}
use Prim.Native.Nat.{ℕ, suc, ◌+◌, ◌*◌, ◌≤◌, ◌<◌, zero-le}
use native.Mathlib.Nat.{le_of_eq, zero-lt-suc}
use native.Mathlib.Omega.{arith}
use lib.Dec.{T, eqb, eqb→eq, ltb, ltb→lt, lt→ltb, nltb→le}
use lib.Ieee.{Float, nan, inf, fin, Format, binary32, up, down, below, level, round, of_bits, neg, lt, le, eq}
use lib.Ieee.Fits.{and_l, and_r}
use lib.Ieee.Scale.{finite}
use lib.Ieee.Positive.{positive, first_pos}
use Rattle.floats.specs.Standard.{gain, loss}
use Rattle.floats.specs.Whole.{half_up, round_of}
use Rattle.floats.proofs.Signed.{to-test, Le→le, round-le}
use Rattle.floats.specs.Order.{larger, smaller}

pub le-refl-finite : (x : Float) → T (finite x) → T (le x x)
le-refl-finite x p = Le→le x x p p (le_of_eq refl)

-- what is not above is at most
pub flip : (a b : Float) → T (finite a) → T (finite b) → lt b a ≡ false → T (le a b)
unfolding le lt eq
flip nan b p q h = absurd p
flip (inf s) b p q h = absurd p
flip (fin s m e) nan p q h = absurd q
flip (fin s m e) (inf t) p q h = absurd q
flip (fin s m e) (fin t n d) p q h = to-test s (m * up e * down d) t (n * up d * down e) (not-less t (n * up d * down e) s (m * up e * down d) h)
  where
    is-least : (a b : ℕ) → not (below false a false b) ≡ true → b ≤ a
    is-least a b k = nltb→le a b (subst T (sym k) tt)

    not-less : (s : Bool) (a : ℕ) (t : Bool) (b : ℕ) → below s a t b ≡ false → gain t b + loss s a ≤ gain s a + loss t b
    not-less false a false b k = let l : b ≤ a = is-least a b (rw k) in omega arith
    not-less false a true b k = zero-le
    not-less true a false b k = let l : a + b ≤ 0 = is-least 0 (a + b) (rw k) in omega arith
    not-less true a true b k = let l : a ≤ b = is-least b a (rw k) in omega arith

pub less-le : (a b : Float) → lt b a ≡ true → T (le b a)
unfolding le
less-le a b h = subst (λ (x : Bool). T (x || eq b a)) (sym h) tt

-- of equal numbers each is at most the other
pub eq-le : (x y : Float) → T (finite x) → T (finite y) → T (eq x y) → T (le y x)
unfolding le lt eq
eq-le nan y p q h = absurd p
eq-le (inf s) y p q h = absurd p
eq-le (fin s m e) nan p q h = absurd q
eq-le (fin s m e) (inf t) p q h = absurd q
eq-le (fin s m e) (fin t n d) p q h = to-test t (n * up d * down e) s (m * up e * down d) (turned s (m * up e * down d) t (n * up d * down e) h)
  where
    turned : (s : Bool) (a : ℕ) (t : Bool) (b : ℕ) → T (level s a t b) → gain t b + loss s a ≤ gain s a + loss t b
    turned false a false b k = let l = eqb→eq a b (and_l (eqb a b) true k) in omega (arith, l)
    turned true a true b k = let l = eqb→eq a b (and_l (eqb a b) true k) in omega (arith, l)
    turned false a true b k = zero-le
    turned true a false b k =
        let l = eqb→eq a b (and_l (eqb a b) (eqb a 0) k) in
        let o = eqb→eq a 0 (and_r (eqb a b) (eqb a 0) k) in
        omega (arith, l, o)

-- ---- the larger and the smaller of two
pub larger-is : (a b : Float) → (larger a b ≡ a) ⊎ (larger a b ≡ b)
unfolding larger
larger-is a b = go (lt a b)
  where
    go : (t : Bool) → (cond t b a ≡ a) ⊎ (cond t b a ≡ b)
    go true = inr refl
    go false = inl refl

pub smaller-is : (a b : Float) → (smaller a b ≡ a) ⊎ (smaller a b ≡ b)
unfolding smaller
smaller-is a b = go (lt b a)
  where
    go : (t : Bool) → (cond t b a ≡ a) ⊎ (cond t b a ≡ b)
    go true = inr refl
    go false = inl refl

-- either one has what both have
pub of-larger : (P : Float → Type 0) (a b : Float) → P a → P b → P (larger a b)
of-larger P a b p q = elim (larger-is a b) [ inl e ↦ subst P (sym e) p | inr e ↦ subst P (sym e) q ]

pub of-smaller : (P : Float → Type 0) (a b : Float) → P a → P b → P (smaller a b)
of-smaller P a b p q = elim (smaller-is a b) [ inl e ↦ subst P (sym e) p | inr e ↦ subst P (sym e) q ]

module _ (a b : Float) (p : T (finite a)) (q : T (finite b)) where
  pub larger-first : T (le a (larger a b))
  unfolding larger
  larger-first = go (lt a b) refl
    where
      go : (t : Bool) → lt a b ≡ t → T (le a (cond t b a))
      go true h = less-le b a h
      go false h = le-refl-finite a p

  pub larger-second : T (le b (larger a b))
  unfolding larger
  larger-second = go (lt a b) refl
    where
      go : (t : Bool) → lt a b ≡ t → T (le b (cond t b a))
      go true h = le-refl-finite b q
      go false h = flip b a q p h

  pub smaller-first : T (le (smaller a b) a)
  unfolding smaller
  smaller-first = go (lt b a) refl
    where
      go : (t : Bool) → lt b a ≡ t → T (le (cond t b a) a)
      go true h = less-le a b h
      go false h = le-refl-finite a p

  pub smaller-second : T (le (smaller a b) b)
  unfolding smaller
  smaller-second = go (lt b a) refl
    where
      go : (t : Bool) → lt b a ≡ t → T (le (cond t b a) b)
      go true h = le-refl-finite b q
      go false h = flip a b p q h

-- ---- a rounded value is at most a whole number, or at least the next one: n with sign s, and m with sign t
module _ (f : Format) (s : Bool) (n : ℕ) (t : Bool) (m : ℕ) (next : gain t m + loss s n ≡ suc (gain s n + loss t m)) where
  pub whole_split : (x : Float) → T (finite x) → T (le (round_of f x) (round f s n 1)) ⊎ T (le (round f t m 1) (round_of f x))
  unfolding round_of
  whole_split nan p = absurd p
  whole_split (inf b) p = absurd p
  whole_split (fin b k e) p = go b (half_up (k * up e) (down e))
    where
      go : (b : Bool) (h : ℕ) → T (le (round f b h 1) (round f s n 1)) ⊎ T (le (round f t m 1) (round f b h 1))
      go b h = by (ltb (gain s n + loss b h) (gain b h + loss s n)) refl
        where
          by : (c : Bool) → ltb (gain s n + loss b h) (gain b h + loss s n) ≡ c → T (le (round f b h 1) (round f s n 1)) ⊎ T (le (round f t m 1) (round f b h 1))
          by true q =
              let l : gain s n + loss b h < gain b h + loss s n = ltb→lt (gain s n + loss b h) (gain b h + loss s n) (subst T (sym q) tt) in
              inr (round-le f t m 1 b h 1 (zero-lt-suc 0) (zero-lt-suc 0) (omega (arith, next)))
          by false q =
              let l : gain b h + loss s n ≤ gain s n + loss b h = nltb→le (gain s n + loss b h) (gain b h + loss s n) (subst (λ (z : Bool). T (not z)) (sym q) tt) in
              inl (round-le f b h 1 s n 1 (zero-lt-suc 0) (zero-lt-suc 0) (omega arith))

-- ---- from the tests against zero
pub plus-of : (a : Float) → T (finite a) → T (lt (of_bits binary32 0) a) → T (positive a)
unfolding lt of_bits
plus-of nan p h = absurd p
plus-of (inf s) p h = absurd p
plus-of (fin true m e) p h = absurd h
plus-of (fin false m e) p h = lt→ltb 0 m (first_pos m (up e) (tidy (m * up e) (down e) (ltb→lt (0 * down e) (m * up e * 1) h)))
  where
    tidy : (u v : ℕ) → 0 * v < u * 1 → 0 < u
    tidy u v k = omega arith

pub minus-of : (b : Float) → T (finite b) → T (lt b (of_bits binary32 0)) → T (positive (neg b))
unfolding lt of_bits neg
minus-of nan p h = absurd p
minus-of (inf s) p h = absurd p
minus-of (fin false m e) p h = absurd (clash (m * up e) (down e) (ltb→lt (m * up e * 1) (0 * down e) h))
  where
    clash : (u v : ℕ) → u * 1 < 0 * v → ⊥
    clash u v k = omega arith
minus-of (fin true m e) p h = lt→ltb 0 m (first_pos m (up e) (tidy (m * up e) (down e) (ltb→lt 0 (m * up e * 1 + 0 * down e) h)))
  where
    tidy : (u v : ℕ) → 0 < u * 1 + 0 * v → 0 < u
    tidy u v k = omega arith
