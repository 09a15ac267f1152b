-- Rounding to a whole number by a sum, for any format. A size below 2 ^ (prec - 1), with that added and taken off again, is the nearest whole
-- number, a tie to the even one (`even_is`). One more, where that and a half is not above the size, rounds a half up (`away-is`). A zero with x's
-- sign, less the opposite, has x's sign, and so has a zero (`round-by-sum`). From 2 ^ (prec - 1) on a value stays (`round-stays`). Assumes nothing.
use mathlib.Core.Path.{◌≡◌, refl, sym, ap, ap₂, ◌∙◌, subst}
use Prim.Native.Nat.{ℕ, zero, suc, ◌+◌, ◌-◌, ◌*◌, ◌^◌, ◌≤◌, ◌<◌, zero-le}
use native.Mathlib.Nat.{le_trans, le_of_eq, le_of_lt, lt_of_le_of_lt, lt_of_not-le, not-le_of_lt, zero-lt-suc, mul-one, mul-pos, mul-le-mul_left}
use native.Mathlib.Omega.{arith}
use native.Mathlib.Decide.{dec_le}
use mathlib.Core.Bool.{Bool, true, false, not, cond}
use lib.IntN.{ℤ, pos, negsuc}
use lib.Dec.{T, ltb→lt, nltb→le, not_T, T_not}
use lib.Ieee.{Float, nan, inf, fin, Format, binary32, binary64, prec, low, hid, up, down, round, neg, sum, add, sub, mul, eq, lt, le, fits}
use lib.Ieee.Fits.{up_pos, down_pos}
use lib.Ieee.Exact.{HasValue, round_exact}
use lib.Ieee.Back.{round_whole}
use lib.Ieee.Nearest.{closest}
use lib.Ieee.Order.{transfer, round_mono}
use lib.Ieee.Positive.{num, den, den_pos}
use borrow.Author.Tests.{lt-ltb}
use Rattle.floats.specs.Order.{larger}
use Rattle.floats.specs.Whole.{half_up, round_of}
use Rattle.floats.proofs.Fractions.{half_le}
use Rattle.floats.proofs.NearestClose.{Close, closest-close, half-next, half-same}
use Rattle.floats.proofs.Signs.{neg-neg, neg-round, value-finite, value-parts, value-unsigned}
use Rattle.floats.proofs.Held.{hid-twice, low-halved, no_overflow}
use Rattle.floats.proofs.SameValue.{own-round, none_is}
use Rattle.floats.proofs.Signed.{lt_not_le, nlt→cross}
use Rattle.floats.proofs.Magnitudes.{le-trans-all}
use Rattle.floats.proofs.Operations.{add_at, sub-whole}
use Rattle.floats.proofs.SizeTests.{zero32, Large}
use Rattle.floats.proofs.WholeSizes.{round_size, round-rounds, large-stays, times_zero}
use Rattle.floats.proofs.WholeSum.{closest-le, sum-le, sum-whole}

-- ---- the code, on a size y: the nearest whole number, a tie to the even one, and then a tie that went down goes up
abbrev pub limit : Format → Float
limit f = fin false 1 (pos (prec f - 1))

abbrev half : Float
half = fin false 1 (negsuc 0)

abbrev unit : Bool → Float
unit t = cond t (fin false 1 (pos 0)) zero32

abbrev pub to_even : Format → Float → Float
to_even f y = sub f (add f y (limit f)) (limit f)

abbrev pub to_away : Format → Float → Float
to_away f y = add f (to_even f y) (unit (le (add f (to_even f y) half) y))

limit-value : (f : Format) → HasValue (limit f) false (hid f) 1
limit-value f = (refl, omega arith)

-- what is at most a size, as fractions
at_least : (z : Float) (b d : ℕ) (m : ℕ) (e : ℤ) → 0 < d → HasValue z false b d → T (le z (fin false m e)) → b * down e ≤ m * up e * d
at_least z b d m e D v h =
    let y = fin false m e in
    transfer b (m * up e) d (down e) (num z) (m * up e) (den z) (down e) (den_pos z) (down_pos e) (sym (value-parts z false b d v).1) refl
    (nlt→cross y z tt (value-unsigned z b d v) (not_T (lt y z) (λ l. lt_not_le z y (value-finite z false b d v) tt l h)))

module _ (f : Format) (m : ℕ) (e : ℤ) (F : T (fits f (fin false m e))) (small : m * up e < hid f * down e) where
  abbrev y : Float
  y = fin false m e

  abbrev a : ℕ
  a = m * up e

  abbrev c : ℕ
  c = down e

  abbrev q : ℕ
  q = closest a c

  q-le : q ≤ hid f
  q-le = closest-le f a c (down_pos e) small

  even_is : to_even f y ≡ round f false q 1
  even_is =
      ap (λ (z : Float). sub f z (limit f))
      (add_at f false y (limit f) a c (hid f) 1 (down_pos e) (zero-lt-suc 0) (refl, refl) (limit-value f)
      ∙ ap₂ (λ (i j : ℕ). round f false i j) (tidy a (hid f * c)) (mul-one c)
      ∙ sum-whole f a c (down_pos e) small)
      ∙ sub-whole f (round f false (hid f + q) 1) (limit f) q (hid f) (round_whole f false (hid f + q) (sum-le f a c (down_pos e) small)) (limit-value f)
    where
      tidy : (i j : ℕ) → i * 1 + j ≡ j + i
      tidy i j = omega arith

  even-value : HasValue (round f false q 1) false q 1
  even-value = round_whole f false q (le_trans q-le (omega (arith, hid-twice f)))

  -- ---- q and a half, as the format holds it
  abbrev middle : Float
  middle = round f false (q * 2 + 1) 2

  middle-is : add f (round f false q 1) half ≡ middle
  middle-is = add_at f false (round f false q 1) half q 1 1 2 (zero-lt-suc 0) (zero-lt-suc 1) even-value (refl, refl)

  -- it is exact below `hid`
  middle-value : q < hid f → HasValue middle false (q * 2 + 1) 2
  middle-value h =
      let n = q * 2 + 1 in
      let t : 2 ^ prec f ≡ 2 * hid f = hid-twice f in
      let l : n < 2 ^ prec f = omega arith in
      let K = 2 ^ (low f - 1) in
      round_exact f false n 2 n (low f - 1) (zero-lt-suc 1) l
      (lt_of_le_of_lt (mul-le-mul_left n (less K (2 ^ low f) (low-halved f))) (no_overflow f n (under n (2 ^ prec f) l)))
      (ap (λ (z : ℕ). n * z) (low-halved f) ∙ twice n K)
    where
      less : (i j : ℕ) → j ≡ 2 * i → i ≤ j
      less i j k = omega arith

      under : (i j : ℕ) → i < j → i ≤ j
      under i j k = omega arith

      twice : (i j : ℕ) → i * (2 * j) ≡ i * j * 2
      twice i j = omega arith

  -- the test says whether q and a half is at most the size
  tie-yes : T (le middle y) → (q * 2 + 1) * c ≤ a * 2
  tie-yes h = go (dec_le (suc q) (hid f))
    where
      go : Dec (suc q ≤ hid f) → (q * 2 + 1) * c ≤ a * 2
      go (yes l) = at_least middle (q * 2 + 1) 2 m e (zero-lt-suc 1) (middle-value l) h
      go (no n) =
          let W = round f false (hid f) 1 in
          let u : T (le W middle) = round_mono f (hid f) 1 (q * 2 + 1) 2 (zero-lt-suc 0) (zero-lt-suc 1) (omega (arith, lt_of_not-le n)) in
          let k : hid f * c ≤ a * 1 = at_least W (hid f) 1 m e (zero-lt-suc 0) (round_whole f false (hid f) (omega (arith, hid-twice f))) (le-trans-all W middle y u h) in
          absurd (not-le_of_lt small (le_trans k (le_of_eq (mul-one a))))

  tie-no : T (not (le middle y)) → a * 2 < (q * 2 + 1) * c
  tie-no h =
      lt_of_not-le (λ (k : (q * 2 + 1) * c ≤ a * 2). T_not (le middle y) h
      (subst (λ (z : Float). T (le middle z)) (own-round f false m e F) (round_mono f (q * 2 + 1) 2 a c (zero-lt-suc 1) (down_pos e) k)))

  away-is : to_away f y ≡ round f false (half_up a c) 1
  away-is =
      ap (λ (z : Float). add f z (unit (le (add f z half) y))) even_is
      ∙ ap (λ (z : Float). add f E (unit (le z y))) middle-is
      ∙ go (le middle y) tie-yes tie-no
    where
      E : Float
      E = round f false q 1

      K : Close a c q
      K = closest-close a c (down_pos e)

      go : (t : Bool) → (T t → (q * 2 + 1) * c ≤ a * 2) → (T (not t) → a * 2 < (q * 2 + 1) * c) → add f E (unit t) ≡ round f false (half_up a c) 1
      go true h k =
          add_at f false E (unit true) q 1 1 1 (zero-lt-suc 0) (zero-lt-suc 0) even-value (refl, refl)
          ∙ ap (λ (n : ℕ). round f false n 1) (next q ∙ sym (half-next a c q (down_pos e) K (h tt)))
        where
          next : (i : ℕ) → i * 1 + 1 ≡ suc i
          next i = omega arith
      go false h k =
          add_at f false E (unit false) q 1 0 1 (zero-lt-suc 0) (zero-lt-suc 0) even-value (refl, refl)
          ∙ ap (λ (n : ℕ). round f false n 1) (same q ∙ sym (half-same a c q K (k tt)))
        where
          same : (i : ℕ) → i * 1 + 0 ≡ i
          same i = omega arith

  away-le : half_up a c ≤ 2 ^ prec f
  away-le = omega (arith, hid-twice f, half_le a c (hid f) (down_pos e) (le_of_lt small))

-- ---- and on any x: its size, and its sign given back
abbrev pub size_of : Float → Float
size_of x = larger x (neg x)

abbrev pub opposite : Float → Float → Float
opposite x a = cond (lt zero32 x) (neg a) a

abbrev pub by_sum : Format → Float → Float
by_sum f x = sub f (mul f x zero32) (opposite x (to_away f (size_of x)))

-- ---- at a zero all of it computes
zero-by-sum : (f : Format) (s : Bool) → by_sum f (fin s 0 (pos 0)) ≡ round_of f (fin s 0 (pos 0))
unfolding sub add sum mul neg round lt le eq larger round_of
zero-by-sum binary32 true = refl
zero-by-sum binary32 false = refl
zero-by-sum binary64 true = refl
zero-by-sum binary64 false = refl

zero-below : (f : Format) (s : Bool) → T (lt (size_of (fin s 0 (pos 0))) (limit f))
unfolding neg lt larger
zero-below binary32 true = tt
zero-below binary32 false = tt
zero-below binary64 true = tt
zero-below binary64 false = tt

-- ---- off zero the size has no minus sign
module _ (f : Format) (s : Bool) (m : ℕ) (e : ℤ) where
  size-off : size_of (fin s (suc m) e) ≡ fin false (suc m) e
  unfolding larger lt neg
  size-off = go s
    where
      A : ℕ
      A = suc m * up e * down e

      go : (t : Bool) → size_of (fin t (suc m) e) ≡ fin false (suc m) e
      go false = refl
      go true = rw (lt-ltb 0 (A + A) (omega (arith, mul-pos (mul-pos (zero-lt-suc m) (up_pos e)) (down_pos e)))) refl

  -- a zero with the sign s, less -n where x is above zero and else n, is n with the sign s
  signed : (n : ℕ) → n ≤ 2 ^ prec f
      → sub f (mul f (fin s (suc m) e) zero32) (opposite (fin s (suc m) e) (round f false n 1)) ≡ round f s n 1
  unfolding sub lt
  signed n h =
      let k : 0 * 1 + n * 1 ≡ n = omega arith in
      ap₂ (λ (z w : Float). add f z w) (times_zero f s (suc m) e) (turned s)
      ∙ add_at f s (round f s 0 1) (round f s n 1) 0 1 n 1 (zero-lt-suc 0) (zero-lt-suc 0) (round_whole f s 0 zero-le) (round_whole f s n h)
      ∙ ap (λ (i : ℕ). round f s i 1) k
    where
      turned : (t : Bool) → neg (opposite (fin t (suc m) e) (round f false n 1)) ≡ round f t n 1
      turned false =
          let p : 0 * 1 * down e < suc m * up e * 1 = omega (arith, mul-pos (zero-lt-suc m) (up_pos e)) in
          rw (lt-ltb (0 * 1 * down e) (suc m * up e * 1) p) (neg-neg (round f false n 1))
      turned true = neg-round f n 1

  off-fits : T (fits f (fin s (suc m) e)) → T (fits f (fin false (suc m) e))
  unfolding fits
  off-fits h = h

  off-by-sum : T (fits f (fin s (suc m) e)) → suc m * up e < hid f * down e
      → by_sum f (fin s (suc m) e) ≡ round f s (half_up (suc m * up e) (down e)) 1
  off-by-sum F l =
      ap (λ (z : Float). sub f (mul f x zero32) (opposite x z)) (ap (λ (z : Float). to_away f z) size-off ∙ away-is f (suc m) e (off-fits F) l)
      ∙ signed (half_up (suc m * up e) (down e)) (away-le f (suc m) e (off-fits F) l)
    where
      x : Float
      x = fin s (suc m) e

  off_small : T (lt (fin false (suc m) e) (limit f)) → suc m * up e < hid f * down e
  unfolding lt
  off_small h = omega (arith, ltb→lt (suc m * up e * 1) (1 * hid f * down e) h)

  off-large : T (not (lt (fin false (suc m) e) (limit f))) → hid f * down e ≤ suc m * up e
  unfolding lt
  off-large h = omega (arith, nltb→le (suc m * up e * 1) (1 * hid f * down e) h)

-- ---- the laws that the code cites: below the limit, and from it on
pub round-by-sum : (f : Format) (x : Float) → T (fits f x) → T (lt (size_of x) (limit f)) → by_sum f x ≡ round_of f x
round-by-sum f nan F h = absurd (unfold larger lt neg in h)
round-by-sum f (inf true) F h = absurd (unfold larger lt neg in h)
round-by-sum f (inf false) F h = absurd (unfold larger lt neg in h)
round-by-sum f (fin s zero e) F h = subst (λ (z : Float). by_sum f z ≡ round_of f z) (sym (none_is f s e F)) (zero-by-sum f s)
round-by-sum f (fin s (suc m) e) F h =
    off-by-sum f s m e F (off_small f s m e (subst (λ (z : Float). T (lt z (limit f))) (size-off f s m e) h))
    ∙ sym ((round-rounds f).at-fin s (suc m) e)

is-large : (f : Format) (x : Float) → T (fits f x) → T (not (lt (size_of x) (limit f))) → Large (prec f - 1) x
is-large f nan F h = tt
is-large f (inf s) F h = tt
is-large f (fin s zero e) F h =
    absurd (T_not (lt (size_of (fin s 0 e)) (limit f)) h (subst (λ (z : Float). T (lt (size_of z) (limit f))) (sym (none_is f s e F)) (zero-below f s)))
is-large f (fin s (suc m) e) F h = off-large f s m e (subst (λ (z : Float). T (not (lt z (limit f)))) (size-off f s m e) h)

pub round-stays : (f : Format) (x : Float) → T (fits f x) → T (not (lt (size_of x) (limit f))) → x ≡ round_of f x
round-stays f x F h = large-stays f round_size (round_of f) (round-rounds f) x F (is-large f x F h)
