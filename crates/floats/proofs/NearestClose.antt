-- The whole number nearest to n / u, a tie to the even one (`closest` of lib.Ieee.Nearest): how near it is, and how it stands to any other whole
-- number (`close-verdict`) and to a half up (`half-next`, `half-same`). Nothing here is about floats. Assumes nothing.
use mathlib.Core.Path.{◌≡◌, refl, ap, ap₂, ◌∙◌, subst}
use mathlib.Core.Logic.{◌⊎◌, inl, inr}
use Prim.Native.Nat.{ℕ, zero, suc, ◌+◌, ◌*◌, ◌/◌, ◌%◌, ◌≤◌, ◌<◌, compare, Ordering}
use native.Mathlib.Nat.{zero-lt-suc, eq-or-lt_of_le, suc-mul, eq_of_mul-eq-mul_right, div-add-mod', mod-lt, div-eq_of_lt-le, mul-add-div_right, mul-add-mod_self_right}
use native.Mathlib.Omega.{arith}
use native.Mathlib.Decide.{dec_le}
use mathlib.Core.Bool.{not}
use lib.Dec.{T, is_le, compare_is_eq, eqb, eqb_refl, leb→le, nleb→lt, eqb→eq}
use lib.Arith.{lt_of_le-ne}
use lib.Ieee.{nearest}
use lib.Ieee.Nearest.{closest}
use Rattle.floats.specs.Whole.{half_up}
use Rattle.floats.specs.Standard.{gap}
use Rattle.floats.proofs.Fractions.{step}

-- ---- how `closest` decides: twice the remainder, compared with u
abbrev Cmp : Ordering → ℕ → ℕ → Type 0
Cmp Ordering.lt a b = a < b
Cmp Ordering.eq a b = a ≡ b
Cmp Ordering.gt a b = b < a

cmp : (a b : ℕ) → Cmp (compare a b) a b
cmp a b = go (compare a b) (leb→le a b) (nleb→lt a b) (eqb→eq a b) (λ (e : a ≡ b). subst (λ (x : ℕ). T (eqb a x)) e (eqb_refl a))
  where
    go : (o : Ordering) → (T (is_le o) → a ≤ b) → (T (not (is_le o)) → b < a) → (T (compare_is_eq o) → a ≡ b) → (a ≡ b → T (compare_is_eq o)) → Cmp o a b
    go Ordering.lt h k e n = lt_of_le-ne (h tt) n
    go Ordering.eq h k e n = e tt
    go Ordering.gt h k e n = k tt

module _ (n u : ℕ) where
  pub closest-down : n % u * 2 < u → closest n u ≡ n / u
  closest-down h = go (compare (n % u * 2) u) (cmp (n % u * 2) u)
    where
      go : (o : Ordering) → Cmp o (n % u * 2) u → nearest (n / u) o ≡ n / u
      go Ordering.lt c = refl
      go Ordering.eq c = absurd (omega (arith, c, h))
      go Ordering.gt c = absurd (omega (arith, c, h))

  pub closest-up : u < n % u * 2 → closest n u ≡ suc (n / u)
  closest-up h = go (compare (n % u * 2) u) (cmp (n % u * 2) u)
    where
      go : (o : Ordering) → Cmp o (n % u * 2) u → nearest (n / u) o ≡ suc (n / u)
      go Ordering.lt c = absurd (omega (arith, c, h))
      go Ordering.eq c = absurd (omega (arith, c, h))
      go Ordering.gt c = refl

  pub closest-tie : n % u * 2 ≡ u → closest n u ≡ n / u + n / u % 2
  closest-tie h = go (compare (n % u * 2) u) (cmp (n % u * 2) u)
    where
      go : (o : Ordering) → Cmp o (n % u * 2) u → nearest (n / u) o ≡ n / u + n / u % 2
      go Ordering.lt c = absurd (omega (arith, c, h))
      go Ordering.eq c = refl
      go Ordering.gt c = absurd (omega (arith, c, h))

-- ---- q is a whole number nearest to n / u: not more than a half away, and at a half it is even
pub record Close (n u q : ℕ) : Type 0 where
  pub above : 2 * n ≤ 2 * (q * u) + u
  pub below : 2 * (q * u) ≤ 2 * n + u
  pub above-even : 2 * n ≡ 2 * (q * u) + u → q % 2 ≡ 0
  pub below-even : 2 * (q * u) ≡ 2 * n + u → q % 2 ≡ 0

stays : (n u a A r : ℕ) → A + r ≡ n → a * u ≡ A → 0 < u → r * 2 < u → Close n u a
stays n u a A r e m U h = record { above = omega arith; below = omega arith; above-even = λ z. omega arith; below-even = λ z. omega arith }

goes-up : (n u a A r : ℕ) → A + r ≡ n → a * u ≡ A + u → r < u → u < r * 2 → Close n u a
goes-up n u a A r e m l h = record { above = omega arith; below = omega arith; above-even = λ z. omega arith; below-even = λ z. omega arith }

ties : (n u a A r : ℕ) → A + r ≡ n → (a * u ≡ A) ⊎ (a * u ≡ A + u) → r * 2 ≡ u → a % 2 ≡ 0 → Close n u a
ties n u a A r e (inl m) h z = record { above = omega arith; below = omega arith; above-even = λ y. z; below-even = λ y. z }
ties n u a A r e (inr m) h z = record { above = omega arith; below = omega arith; above-even = λ y. z; below-even = λ y. z }

to-even : (a : ℕ) → (a + a % 2) % 2 ≡ 0
to-even a = omega arith

-- a tie takes a, or where a is odd the next number up
tie-at : (a u t : ℕ) → t < 2 → ((a + t) * u ≡ a * u) ⊎ ((a + t) * u ≡ a * u + u)
tie-at a u zero h = inl (omega arith)
tie-at a u (suc zero) h = inr (omega arith)
tie-at a u (suc (suc t)) h = absurd (omega (arith, h))

pub closest-close : (n u : ℕ) → 0 < u → Close n u (closest n u)
closest-close n u U = go (compare (r * 2) u) (cmp (r * 2) u)
  where
    a : ℕ
    a = n / u

    r : ℕ
    r = n % u

    go : (o : Ordering) → Cmp o (r * 2) u → Close n u (nearest a o)
    go Ordering.lt c = stays n u a (a * u) r (div-add-mod' n u) refl U c
    go Ordering.eq c = ties n u (a + a % 2) (a * u) r (div-add-mod' n u) (tie-at a u (a % 2) (mod-lt a (zero-lt-suc 1))) c (to-even a)
    go Ordering.gt c = goes-up n u (suc a) (a * u) r (div-add-mod' n u) (suc-mul a u) (mod-lt n U) c

-- ---- against another multiple B of u, of q's Q
near-under : (n Q B u : ℕ) → 2 * Q ≤ 2 * n + u → 2 * n ≤ 2 * Q + u → B + u ≤ Q → gap n Q ≤ gap n B
near-under n Q B u h k l = omega arith

near-over : (n Q B u : ℕ) → 2 * Q ≤ 2 * n + u → 2 * n ≤ 2 * Q + u → Q + u ≤ B → gap n Q ≤ gap n B
near-over n Q B u h k l = omega arith

tie-under : (n Q B u : ℕ) → 0 < u → 2 * Q ≤ 2 * n + u → B + u ≤ Q → gap n Q ≡ gap n B → 2 * Q ≡ 2 * n + u
tie-under n Q B u U h l e = omega arith

tie-over : (n Q B u : ℕ) → 0 < u → 2 * n ≤ 2 * Q + u → Q + u ≤ B → gap n Q ≡ gap n B → 2 * n ≡ 2 * Q + u
tie-over n Q B u U h l e = omega arith

-- a number is the result itself, or is further from n, or is as far and the result's q is even
abbrev pub Verdict : (n q R B : ℕ) → Type 0
Verdict n q R B = (B ≡ R) ⊎ ((gap n R < gap n B) ⊎ ((gap n R ≡ gap n B) × (q % 2 ≡ 0)))

pub close-verdict : (n u q b : ℕ) → 0 < u → Close n u q → Verdict n q (q * u) (b * u)
close-verdict n u q b U c = go (dec_le (suc b) q) (dec_le (suc q) b)
  where
    same : (x y : ℕ) → (suc x ≤ y → ⊥) → (suc y ≤ x → ⊥) → x ≡ y
    same x y h k = omega arith

    judge : (gap n (q * u) ≡ gap n (b * u) → q % 2 ≡ 0) → (gap n (q * u) ≡ gap n (b * u)) ⊎ (gap n (q * u) < gap n (b * u))
        → Verdict n q (q * u) (b * u)
    judge k (inl e) = inr (inr (e, k e))
    judge k (inr l) = inr (inl l)

    go : Dec (suc b ≤ q) → Dec (suc q ≤ b) → Verdict n q (q * u) (b * u)
    go (yes h) k =
        let l : b * u + u ≤ q * u = step b q u h in
        judge (λ e. c.below-even (tie-under n (q * u) (b * u) u U c.below l e)) (eq-or-lt_of_le (near-under n (q * u) (b * u) u c.below c.above l))
    go (no h) (yes k) =
        let l : q * u + u ≤ b * u = step q b u k in
        judge (λ e. c.above-even (tie-over n (q * u) (b * u) u U c.above l e)) (eq-or-lt_of_le (near-over n (q * u) (b * u) u c.below c.above l))
    go (no h) (no k) = inl (ap (λ (x : ℕ). x * u) (same b q h k))

-- the other one of a tie is a neighbour of q, and so odd
tie-next : (n Q B u : ℕ) → 0 < u → 2 * Q ≡ 2 * n + u → B + u ≤ Q → gap n Q ≡ gap n B → (B + u ≡ Q) × (n < B + u)
tie-next n Q B u U h l e = (omega arith, omega arith)

tie-last : (n Q B u : ℕ) → 0 < u → 2 * n ≡ 2 * Q + u → Q + u ≤ B → gap n Q ≡ gap n B → (Q + u ≡ B) × (n < B + u)
tie-last n Q B u U h l e = (omega arith, omega arith)

pub close_tie : (n u q b : ℕ) → 0 < u → Close n u q → (b ≡ q → ⊥) → gap n (q * u) ≡ gap n (b * u) → (b % 2 ≡ 1) × (n < b * u + u)
close_tie n u q b U c other e = go (dec_le (suc b) q)
  where
    next : (x y : ℕ) → x * u + u ≡ y * u → suc x ≡ y
    next x y h = eq_of_mul-eq-mul_right u U (suc x) y (suc-mul x u ∙ h)

    rest : (x y : ℕ) → (suc x ≤ y → ⊥) → (x ≡ y → ⊥) → suc y ≤ x
    rest x y h k = omega arith

    odd-under : (x y : ℕ) → suc x ≡ y → y % 2 ≡ 0 → x % 2 ≡ 1
    odd-under x y h z = omega arith

    odd-over : (x y : ℕ) → suc y ≡ x → y % 2 ≡ 0 → x % 2 ≡ 1
    odd-over x y h z = omega arith

    go : Dec (suc b ≤ q) → (b % 2 ≡ 1) × (n < b * u + u)
    go (yes h) =
        let l : b * u + u ≤ q * u = step b q u h in
        let w : 2 * (q * u) ≡ 2 * n + u = tie-under n (q * u) (b * u) u U c.below l e in
        let z = tie-next n (q * u) (b * u) u U w l e in
        (odd-under b q (next b q z.0) (c.below-even w), z.1)
    go (no h) =
        let l : q * u + u ≤ b * u = step q b u (rest b q h other) in
        let w : 2 * n ≡ 2 * (q * u) + u = tie-over n (q * u) (b * u) u U c.above l e in
        let z = tie-last n (q * u) (b * u) u U w l e in
        (odd-over b q (next q b z.0) (c.above-even w), z.1)

-- ---- an even number of c's goes through `closest`
pub closest-shift : (P a c : ℕ) → 0 < c → P % 2 ≡ 0 → closest (P * c + a) c ≡ P + closest a c
closest-shift P a c C E =
    ap₂ (λ (q r : ℕ). nearest q (compare (r * 2) c)) (mul-add-div_right C P a) (mul-add-mod_self_right P c a) ∙ go (a / c) (compare (a % c * 2) c)
  where
    go : (q : ℕ) (o : Ordering) → nearest (P + q) o ≡ P + nearest q o
    go q Ordering.lt = refl
    go q Ordering.eq = omega arith
    go q Ordering.gt = omega arith

-- ---- q against a half up: one less where q and a half is not above a / c, and else the same
pub half-next : (a c q : ℕ) → 0 < c → Close a c q → (q * 2 + 1) * c ≤ a * 2 → half_up a c ≡ suc q
half-next a c q C k h = div-eq_of_lt-le (2 * c) (omega (arith, k.above)) (omega (arith, k.above))

pub half-same : (a c q : ℕ) → Close a c q → a * 2 < (q * 2 + 1) * c → half_up a c ≡ q
half-same a c q k h = div-eq_of_lt-le (2 * c) (omega (arith, k.below)) (omega arith)
