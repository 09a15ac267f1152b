-- Rounding n / c to p binary digits, over whole numbers and for any p: the result is q * 2 ^ k with k = `drop p n c` and q = `kept p n c` of lib.Ieee.Order.
-- Of all numbers d * 2 ^ j with a d below 2 ^ p none is nearer to n / c (`grid-near`), and one other is as near only where q is even (`grid-even`)
-- and its own last digit is odd (`grid-odd`). From (2 ^ (p + 1) - 1) * 2 ^ (t - 1) on the result is 2 ^ (p + t) or more (`grid-large`, `grid-small`).
-- Nothing here is about floats. Assumes nothing.
use mathlib.Core.Path.{◌≡◌, sym, ap, ap₂, ◌∙◌, subst}
use mathlib.Core.Logic.{◌⊎◌, inl, inr}
use Prim.Native.Nat.{ℕ, zero, suc, ◌+◌, ◌-◌, ◌*◌, ◌/◌, ◌%◌, ◌^◌, ◌≤◌, ◌<◌, zero-le, compare}
use native.Mathlib.Nat.{le_trans, le_antisymm, le_of_eq, le_of_lt, le_of_suc-le-suc, lt_of_lt_of_le, lt_of_le_of_lt, lt_of_not-le, eq-or-lt_of_le, le-add_left, one-mul, mul-one, suc-mul, mul_comm, mul_assoc, add-mul, mul-pos, mul-le-mul_right, mul-lt-mul_of_pos_right, lt_of_mul-lt-mul_right, eq_of_mul-eq-mul_right, pow-suc, pow-succ', le-div_iff_mul-le, mul-mod_left}
use native.Mathlib.Omega.{arith}
use native.Mathlib.Decide.{dec_le}
use lib.Pow.{pow-add, pow_pos, pow_mono, suc_ones}
use lib.Ieee.{size}
use lib.Ieee.Digits.{size_reaches}
use lib.Ieee.Nearest.{nearest-ge}
use lib.Ieee.Order.{drop, kept}
use Rattle.floats.specs.Standard.{gap}
use Rattle.floats.proofs.Powers.{pow-halved, pow-shift, size-gt}
use Rattle.floats.proofs.NearestClose.{Close, closest-close, Verdict, close-verdict, close_tie}

-- ---- the rounding
odd-short : (p d i : ℕ) → d < 2 ^ p → d * 2 ^ i % 2 ≡ 1 → d * 2 ^ i < 2 ^ p
odd-short p d zero h o = lt_of_le_of_lt (le_of_eq (mul-one d)) h
odd-short p d (suc i) h o =
    absurd (clash (d * 2 ^ suc i % 2) o (ap (λ (x : ℕ). x % 2) (ap (λ (x : ℕ). d * x) (pow-suc 2 i) ∙ sym (mul_assoc d (2 ^ i) 2)) ∙ mul-mod_left
    (d * 2 ^ i) 2))
  where
    clash : (r : ℕ) → r ≡ 1 → r ≡ 0 → ⊥
    clash r x y = omega arith

upto : (x a b : ℕ) → 0 < x → a < b → x + a ≤ x - 1 + b
upto x a b g l = omega arith

module _ (p n c : ℕ) (P : 0 < p) (C : 0 < c) where
  abbrev k : ℕ
  k = drop p n c

  abbrev u : ℕ
  u = c * 2 ^ k

  abbrev q : ℕ
  q = kept p n c

  abbrev N : ℕ
  N = q * 2 ^ k

  u-pos : 0 < u
  u-pos = mul-pos C (pow_pos k)

  close : Close n u q
  close = closest-close n u u-pos

  in-units : (b : ℕ) → b * 2 ^ k * c ≡ b * u
  in-units b = mul_assoc b (2 ^ k) c ∙ ap (λ (x : ℕ). b * x) (mul_comm (2 ^ k) c)

  -- where digits are dropped, n / c has p digits at least
  full : 0 < k → 2 ^ (p - 1) * 2 ^ k * c ≤ n
  full K = (le-div_iff_mul-le C).0 (le_trans (le_of_eq (sym (pow-add 2 (p - 1) k))) (size_reaches (n / c) (p - 1 + k) (in_use (size (n / c)) p P K)))
    where
      in_use : (z x : ℕ) → 0 < x → 0 < z - x → x - 1 + (z - x) < z
      in_use z x h l = omega arith

  -- d * 2 ^ j is a multiple of 2 ^ k, with p digits where it is an odd one, or is below every result that drops digits
  abbrev Placed : ℕ → Type 0
  Placed g = ((b : ℕ) × (g ≡ b * 2 ^ k) × (b % 2 ≡ 1 → b < 2 ^ p)) ⊎ ((0 < k) × (g < 2 ^ (p - 1) * 2 ^ k))

  placed : (d j : ℕ) → d < 2 ^ p → Placed (d * 2 ^ j)
  placed d j h = go (dec_le k j)
    where
      under : (a b x : ℕ) → 0 < x → (a ≤ b → ⊥) → (0 < a) × (x + b ≤ x - 1 + a)
      under a b x h g = (omega arith, omega arith)

      go : Dec (k ≤ j) → Placed (d * 2 ^ j)
      go (yes l) = inl (d * 2 ^ (j - k), sym (pow-shift d j k l), odd-short p d (j - k) h)
      go (no l) =
          let z = under k j p P l in
          inr (
            z.0,
            lt_of_lt_of_le (mul-lt-mul_of_pos_right h (pow_pos j))
                (le_trans (le_of_eq (sym (pow-add 2 p j))) (le_trans (pow_mono z.1) (le_of_eq (pow-add 2 (p - 1) k)))),
          )

  -- against a multiple of 2 ^ k, and against one that is below them all
  at : (b : ℕ) → Verdict n q (N * c) (b * 2 ^ k * c)
  at b =
      subst (λ (x : ℕ). Verdict n q x (b * 2 ^ k * c)) (sym (in-units q))
      (subst (λ (x : ℕ). Verdict n q (q * u) x) (sym (in-units b)) (close-verdict n u q b u-pos close))

  shorter-far : (g : ℕ) → 0 < k → g < 2 ^ (p - 1) * 2 ^ k → gap n (N * c) < gap n (g * c)
  shorter-far g K l = past (N * c) (2 ^ (p - 1) * 2 ^ k * c) (g * c) (full K) (mul-lt-mul_of_pos_right l C) (at (2 ^ (p - 1)))
    where
      further : (x B D : ℕ) → B ≤ x → D < B → gap x B < gap x D
      further x B D h m = omega arith

      past : (R B D : ℕ) → B ≤ n → D < B → Verdict n q R B → gap n R < gap n D
      past R B D h m (inl e) = subst (λ (x : ℕ). gap n x < gap n D) e (further n B D h m)
      past R B D h m (inr (inl v)) = lt_of_lt_of_le v (le_of_lt (further n B D h m))
      past R B D h m (inr (inr v)) = lt_of_le_of_lt (le_of_eq v.0) (further n B D h m)

  verdict : (d j : ℕ) → d < 2 ^ p → Verdict n q (N * c) (d * 2 ^ j * c)
  verdict d j h = go (placed d j h)
    where
      go : Placed (d * 2 ^ j) → Verdict n q (N * c) (d * 2 ^ j * c)
      go (inl (b, e, o)) = subst (λ (x : ℕ). Verdict n q (N * c) (x * c)) (sym e) (at b)
      go (inr (K, l)) = inr (inl (shorter-far (d * 2 ^ j) K l))

  -- no number d * 2 ^ j with a d below 2 ^ p is nearer to n / c than the result is
  pub grid-near : (d j : ℕ) → d < 2 ^ p → gap n (N * c) ≤ gap n (d * 2 ^ j * c)
  grid-near d j h = go (verdict d j h)
    where
      go : Verdict n q (N * c) (d * 2 ^ j * c) → gap n (N * c) ≤ gap n (d * 2 ^ j * c)
      go (inl e) = le_of_eq (ap (gap n) (sym e))
      go (inr (inl l)) = le_of_lt l
      go (inr (inr m)) = le_of_eq m.0

  -- where another one is as near, q is even
  pub grid-even : (d j : ℕ) → d < 2 ^ p → (d * 2 ^ j ≡ N → ⊥) → gap n (N * c) ≡ gap n (d * 2 ^ j * c) → q % 2 ≡ 0
  grid-even d j h other same = go (verdict d j h)
    where
      clash : (a b : ℕ) → a < b → a ≡ b → ⊥
      clash a b x y = omega arith

      go : Verdict n q (N * c) (d * 2 ^ j * c) → q % 2 ≡ 0
      go (inl e) = absurd (other (eq_of_mul-eq-mul_right c C (d * 2 ^ j) N e))
      go (inr (inl l)) = absurd (clash (gap n (N * c)) (gap n (d * 2 ^ j * c)) l same)
      go (inr (inr m)) = m.1

  -- and that other one is b * 2 ^ k with an odd b of p digits at most, and p of them where digits are dropped
  pub record Odd (g : ℕ) : Type 0 where
    pub b : ℕ
    pub is : g ≡ b * 2 ^ k
    pub odd : b % 2 ≡ 1
    pub short : b < 2 ^ p
    pub long : 0 < k → 2 ^ (p - 1) ≤ b

  pub grid-odd : (d j : ℕ) → d < 2 ^ p → (d * 2 ^ j ≡ N → ⊥) → gap n (N * c) ≡ gap n (d * 2 ^ j * c) → Odd (d * 2 ^ j)
  grid-odd d j h other same = go (placed d j h)
    where
      clash : (x y : ℕ) → x < y → x ≡ y → ⊥
      clash x y l e = omega arith

      go : Placed (d * 2 ^ j) → Odd (d * 2 ^ j)
      go (inl (b, e, o)) =
          let z = close_tie n u q b u-pos close (λ i. other (e ∙ ap (λ (x : ℕ). x * 2 ^ k) i))
          (ap (gap n) (sym (in-units q)) ∙ same ∙ ap (λ (x : ℕ). gap n (x * c)) e ∙ ap (gap n) (in-units b)) in
          record {
            b = b;
            is = e;
            odd = z.0;
            short = o z.0;
            long = λ K.
                le_of_suc-le-suc (lt_of_mul-lt-mul_right u (lt_of_le_of_lt (le_trans (le_of_eq (sym (in-units (2 ^ (p - 1))))) (full K))
                (lt_of_lt_of_le z.1 (le_of_eq (sym (suc-mul b u))))));
          }
      go (inr (K, l)) = absurd (clash (gap n (N * c)) (gap n (d * 2 ^ j * c)) (shorter-far (d * 2 ^ j) K l) same)

  -- ---- where the result is 2 ^ (p + t) or more: from (2 ^ (p + 1) - 1) / 2 * 2 ^ t on
  abbrev top : ℕ → ℕ
  top t = (2 ^ suc p - 1) * 2 ^ t * c

  top-is : (t : ℕ) → top t + 2 ^ t * c ≡ 2 * (2 ^ (p + t) * c)
  top-is t =
      let M = 2 ^ suc p - 1 in
      ap (λ (x : ℕ). x + 2 ^ t * c) (mul_assoc M (2 ^ t) c)
      ∙ sym (suc-mul M (2 ^ t * c))
      ∙ ap (λ (x : ℕ). x * (2 ^ t * c)) (suc_ones (suc p) ∙ pow-succ' 2 p)
      ∙ mul_assoc 2 (2 ^ p) (2 ^ t * c)
      ∙ ap (λ (x : ℕ). 2 * x) (sym (mul_assoc (2 ^ p) (2 ^ t) c) ∙ ap (λ (x : ℕ). x * c) (sym (pow-add 2 p t)))

  pub grid-small : (t : ℕ) → 2 * n < top t → N < 2 ^ (p + t)
  grid-small t h = go (dec_le (suc t) k)
    where
      some : (a b : ℕ) → suc a ≤ b → 0 < b
      some a b l = omega arith

      over : (T X Z m : ℕ) → T + X ≡ 2 * Z → 2 * m < T → Z ≤ m → ⊥
      over T X Z m e g l = omega arith

      under : (T X Z m Q v : ℕ) → T + X ≡ 2 * Z → 2 * m < T → 2 * Q ≤ 2 * m + v → v ≤ X → Q < Z
      under T X Z m Q v e g l x = omega arith

      go : Dec (suc t ≤ k) → N < 2 ^ (p + t)
      go (yes l) =
          absurd (over (top t) (2 ^ t * c) (2 ^ (p + t) * c) n (top-is t) h
          (le_trans (mul-le-mul_right c (le_trans (pow_mono (upto p t k P l)) (le_of_eq (pow-add 2 (p - 1) k)))) (full (some t k l))))
      go (no l) =
          lt_of_mul-lt-mul_right c
          (lt_of_le_of_lt (le_of_eq (in-units q))
          (under (top t) (2 ^ t * c) (2 ^ (p + t) * c) n (q * u) u (top-is t) h close.below
          (le_trans (le_of_eq (mul_comm c (2 ^ k))) (mul-le-mul_right c (pow_mono (le_of_suc-le-suc (lt_of_not-le l)))))))

  -- there t digits are dropped, or more
  long : (t : ℕ) → top t ≤ 2 * n → t ≤ k
  long t h =
      drops (size (n / c)) p t P
      (size-gt (n / c) (p - 1 + t) ((le-div_iff_mul-le C).1 reached))
    where
      drops : (z x y : ℕ) → 0 < x → x - 1 + y < z → y ≤ z - x
      drops z x y g l = omega arith

      split : (x y : ℕ) → 0 < x → x + y ≡ suc (x - 1 + y)
      split x y g = omega arith

      half : (T X Y Z m : ℕ) → T + X ≡ 2 * Z → Z ≡ 2 * Y → X ≤ Y → T ≤ 2 * m → Y ≤ m
      half T X Y Z m e z x g = omega arith

      reached : 2 ^ (p - 1 + t) * c ≤ n
      reached =
          half (top t) (2 ^ t * c) (2 ^ (p - 1 + t) * c) (2 ^ (p + t) * c) n (top-is t)
          (ap (λ (x : ℕ). x * c) (ap (λ (x : ℕ). 2 ^ x) (split p t P) ∙ pow-succ' 2 (p - 1 + t)) ∙ mul_assoc 2 (2 ^ (p - 1 + t)) c)
          (mul-le-mul_right c (pow_mono (le-add_left t (p - 1)))) h

  -- digits dropped: what is kept fills p digits
  pub kept_full : 0 < k → 2 ^ (p - 1) ≤ q
  kept_full K =
      le_trans ((le-div_iff_mul-le u-pos).1 (le_trans (le_of_eq (sym (in-units (2 ^ (p - 1))))) (full K))) (nearest-ge (n / u) (compare (n % u * 2) u))

  -- at the tie q would be 2 ^ p - 1, which is odd
  at_top : (2 ^ suc p - 1) * u ≤ 2 * n → q < 2 ^ p → ⊥
  at_top h l =
      let M = 2 ^ suc p - 1 in
      let e : 2 ^ suc p ≡ 2 * 2 ^ p = pow-succ' 2 p in
      let e' : 2 ^ p ≡ 2 * 2 ^ (p - 1) = pow-halved p P in
      let m : (2 * q + 1) * u ≡ 2 * (q * u) + u = add-mul (2 * q) 1 u ∙ ap₂ (λ (x y : ℕ). x + y) (mul_assoc 2 q u) (one-mul u) in
      let a : (2 * q + 1) * u ≤ M * u = mul-le-mul_right u (room q (2 ^ p) (2 ^ suc p) e l) in
      odd q (2 ^ (p - 1)) (2 ^ p) (2 ^ suc p) e e' (eq_of_mul-eq-mul_right u u-pos (2 * q + 1) M
      (le_antisymm a (le_trans h (le_trans close.above (le_of_eq (sym m))))))
      (close.above-even (le_antisymm close.above (le_trans (le_of_eq (sym m)) (le_trans a h))))
    where
      room : (x y z : ℕ) → z ≡ 2 * y → x < y → 2 * x + 1 ≤ z - 1
      room x y z e g = omega arith

      odd : (x w y z : ℕ) → z ≡ 2 * y → y ≡ 2 * w → 2 * x + 1 ≡ z - 1 → x % 2 ≡ 0 → ⊥
      odd x w y z e e' g o =
          let a : x + 1 ≡ 2 * w = omega arith in
          let b : x ≡ 2 * (x / 2) = omega arith in
          omega arith

  pub grid-large : (t : ℕ) → top t ≤ 2 * n → 2 ^ (p + t) ≤ N
  grid-large t h = go (eq-or-lt_of_le (long t h))
    where
      go : (t ≡ k) ⊎ (t < k) → 2 ^ (p + t) ≤ N
      go (inl e) =
          let h' : (2 ^ suc p - 1) * u ≤ 2 * n =
          le_trans (le_of_eq (sym (in-units (2 ^ suc p - 1)))) (subst (λ (x : ℕ). (2 ^ suc p - 1) * 2 ^ x * c ≤ 2 * n) e h) in
          le_trans (le_of_eq (ap (λ (x : ℕ). 2 ^ (p + x)) e ∙ pow-add 2 p k))
          (mul-le-mul_right (2 ^ k) (le_of_suc-le-suc (lt_of_not-le (λ (l : q < 2 ^ p). at_top h' l))))
      go (inr l) =
          le_trans (pow_mono (upto p t k P l)) (le_trans (le_of_eq (pow-add 2 (p - 1) k))
          (mul-le-mul_right (2 ^ k) (kept_full (lt_of_le_of_lt zero-le l))))
