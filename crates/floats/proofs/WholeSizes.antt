-- Floor and round as one thing: a function g on floats that takes a finite ±a / c to the whole number ±σ s a c, as the format holds it, and leaves
-- NaN and the infinities. What follows from that alone is said here once, for both. Assumes nothing.
use mathlib.Core.Path.{◌≡◌, refl, sym, ap, ◌∙◌, subst}
use Prim.Native.Nat.{ℕ, suc, ◌-◌, ◌*◌, ◌/◌, ◌^◌, ◌≤◌, ◌<◌}
use native.Mathlib.Nat.{le_trans, le_of_lt, zero-lt-suc, mul-le-mul_left, div-one}
use native.Mathlib.Omega.{arith}
use mathlib.Core.Bool.{Bool, true, false, not}
use lib.IntN.{ℤ, pos, negsuc}
use lib.Dec.{T}
use lib.Pow.{pow_mono}
use lib.Ieee.{Float, nan, inf, fin, Format, prec, up, down, round, neg, mul, of_int, le, fits, is_nan}
use lib.Ieee.Fits.{down_pos}
use lib.Ieee.Exact.{HasValue}
use lib.Ieee.Back.{round_whole}
use lib.Ieee.Scale.{finite}
use lib.Ieee.Positive.{num, den, positive}
use Rattle.floats.specs.Whole.{ceiling, half_up, floor_of, round_of}
use Rattle.floats.proofs.Fractions.{part-le, ceiling-le, ceiling-one, half_le, half-one}
use Rattle.floats.proofs.Signs.{neg-round, round_number, same_sign}
use Rattle.floats.proofs.Held.{hid-twice, fits-digits}
use Rattle.floats.proofs.SameValue.{own-round, round-none}
use Rattle.floats.proofs.ExactResults.{times_none}
use Rattle.floats.proofs.Signed.{Below, le→Le, round-le}
use Rattle.floats.proofs.SizeTests.{zero32, of_int_is, Large, Nothing}

-- the size of the floor of ±a / c, and of the nearest whole number
abbrev pub floor_size : Bool → ℕ → ℕ → ℕ
floor_size false a c = a / c
floor_size true a c = ceiling a c

abbrev pub round_size : Bool → ℕ → ℕ → ℕ
round_size s a c = half_up a c

pub record Rounds (f : Format) (σ : Bool → ℕ → ℕ → ℕ) (g : Float → Float) : Type 0 where
  pub at-nan : g nan ≡ nan
  pub at-inf : (s : Bool) → g (inf s) ≡ inf s
  -- a finite value to ±σ; a whole number stays, and a whole bound is kept
  pub at-fin : (s : Bool) (m : ℕ) (e : ℤ) → g (fin s m e) ≡ round f s (σ s (m * up e) (down e)) 1
  pub one : (s : Bool) (a : ℕ) → σ s a 1 ≡ a
  pub bounded : (s : Bool) (a c k : ℕ) → 0 < c → a ≤ k * c → σ s a c ≤ k

pub floor-rounds : (f : Format) → Rounds f floor_size (floor_of f)
unfolding floor_of
floor-rounds f = record { at-nan = refl; at-inf = λ s. refl; at-fin = at; one = whole; bounded = bound }
  where
    at : (s : Bool) (m : ℕ) (e : ℤ) → floor_of f (fin s m e) ≡ round f s (floor_size s (m * up e) (down e)) 1
    at false m e = refl
    at true m e = refl

    whole : (s : Bool) (a : ℕ) → floor_size s a 1 ≡ a
    whole false a = div-one a
    whole true a = ceiling-one a

    bound : (s : Bool) (a c k : ℕ) → 0 < c → a ≤ k * c → floor_size s a c ≤ k
    bound false a c k C h = part-le a c k h
    bound true a c k C h = ceiling-le a c k C h

pub round-rounds : (f : Format) → Rounds f round_size (round_of f)
unfolding round_of
round-rounds f = record { at-nan = refl; at-inf = λ s. refl; at-fin = λ s m e. refl; one = λ s a. half-one a; bounded = λ s a c k C h. half_le a c k C h }

-- from 2 ^ (prec - 1) on a value has no fraction
big-whole : (f : Format) (s : Bool) (m k : ℕ) → T (fits f (fin s m (negsuc k))) → 2 ^ (prec f - 1) * 2 ^ suc k ≤ m * 1 → ⊥
big-whole f s m k h g =
    let d : m < 2 ^ prec f = fits-digits f s m (negsuc k) h in
    let a : 2 ^ prec f ≡ 2 * 2 ^ (prec f - 1) = hid-twice f in
    let b : 2 ^ (prec f - 1) * 2 ^ 1 ≤ 2 ^ (prec f - 1) * 2 ^ suc k = mul-le-mul_left (2 ^ (prec f - 1)) (pow_mono {i = 1} {j = suc k} (zero-lt-suc k)) in
    omega arith

-- a value times +0 is a zero with its sign
pub times_zero : (f : Format) (s : Bool) (m : ℕ) (e : ℤ) → mul f (fin s m e) zero32 ≡ round f s 0 1
times_zero f s m e = times_none f s m e false ∙ ap (λ (b : Bool). fin b 0 (pos 0)) (same_sign s) ∙ sym (round-none f s 1 (zero-lt-suc 0))

module _ (f : Format) (σ : Bool → ℕ → ℕ → ℕ) (g : Float → Float) (r : Rounds f σ g) where
  -- ---- a whole number stays
  whole-stays : (s : Bool) (m k : ℕ) → T (fits f (fin s m (pos k))) → fin s m (pos k) ≡ g (fin s m (pos k))
  whole-stays s m k h = sym (r.at-fin s m (pos k) ∙ ap (λ (n : ℕ). round f s n 1) (r.one s (m * 2 ^ k)) ∙ own-round f s m (pos k) h)

  pub large-stays : (x : Float) → T (fits f x) → Large (prec f - 1) x → x ≡ g x
  large-stays nan h l = sym r.at-nan
  large-stays (inf s) h l = sym (r.at-inf s)
  large-stays (fin s m (pos k)) h l = whole-stays s m k h
  large-stays (fin s m (negsuc k)) h l = absurd (big-whole f s m k h l)

  pub nothing-stays : (x : Float) → T (fits f x) → Nothing x → x ≡ g x
  nothing-stays nan h z = sym r.at-nan
  nothing-stays (inf s) h z = absurd z
  nothing-stays (fin s m e) h z = subst (λ (d : ℤ). T (fits f (fin s m d)) → fin s m d ≡ g (fin s m d)) (sym z.1) (whole-stays s m 0) h

  -- ---- no NaN comes of what is none
  pub rounds-number : (x : Float) → T (not (is_nan x)) → T (not (is_nan (g x)))
  unfolding is_nan
  rounds-number nan n = absurd n
  rounds-number (inf s) n = rw (r.at-inf s) tt
  rounds-number (fin s m e) n = rw (r.at-fin s m e) (round_number f s (σ s (m * up e) (down e)) 1)

  -- ---- the result's value is ±σ: it has at most prec digits, or it is x itself
  pub rounds-value : (s : Bool) (m : ℕ) (e : ℤ) → T (fits f (fin s m e)) → HasValue (g (fin s m e)) s (σ s (m * up e) (down e)) 1
  rounds-value s m (negsuc k) h =
      let n = σ s (m * 1) (2 ^ suc k) in
      subst (λ (z : Float). HasValue z s n 1) (sym (r.at-fin s m (negsuc k)))
      (round_whole f s n (le_trans (r.bounded s (m * 1) (2 ^ suc k) m (down_pos (negsuc k)) (mul-le-mul_left m (down_pos (negsuc k))))
      (le_of_lt (fits-digits f s m (negsuc k) h))))
  rounds-value s m (pos k) h =
      subst (λ (z : Float). HasValue z s (σ s (m * 2 ^ k) 1) 1) (whole-stays s m k h) (refl, ap (λ (n : ℕ). n * 1) (sym (r.one s (m * 2 ^ k))))

  -- ---- on a value above zero, and on the opposite of one: n is σ, and the code gives n
  pub arm-plus : (x : Float) (n : ℕ) → T (positive x) → n ≡ σ false (num x) (den x) → of_int f (pos n) ≡ g x
  arm-plus nan n p e = absurd p
  arm-plus (inf s) n p e = absurd p
  arm-plus (fin true m d) n p e = absurd p
  arm-plus (fin false m d) n p e = of_int_is f n ∙ ap (λ (k : ℕ). round f false k 1) e ∙ sym (r.at-fin false m d)

  pub arm-minus : (x : Float) (n : ℕ) → T (positive (neg x)) → n ≡ σ true (num (neg x)) (den (neg x)) → neg (of_int f (pos n)) ≡ g x
  unfolding neg
  arm-minus nan n p e = absurd p
  arm-minus (inf s) n p e = absurd p
  arm-minus (fin false m d) n p e = absurd p
  arm-minus (fin true m d) n p e = ap neg (of_int_is f n) ∙ neg-round f n 1 ∙ ap (λ (k : ℕ). round f true k 1) e ∙ sym (r.at-fin true m d)

  -- x * 0.0 is a zero with x's sign, and so is the result where σ is 0
  pub arm-zero : (s : Bool) (m : ℕ) (e : ℤ) → σ s (m * up e) (down e) ≡ 0 → mul f (fin s m e) zero32 ≡ g (fin s m e)
  arm-zero s m e h = times_zero f s m e ∙ ap (λ (n : ℕ). round f s n 1) (sym h) ∙ sym (r.at-fin s m e)

  -- ---- where σ keeps the order, so does g
  pub rounds-mono : ((s : Bool) (a c : ℕ) (t : Bool) (b d : ℕ) → 0 < c → 0 < d → Below s a c t b d → Below s (σ s a c) 1 t (σ t b d) 1)
      → (x y : Float) → T (finite x) → T (finite y) → T (le x y) → T (le (g x) (g y))
  rounds-mono k nan y p q h = absurd p
  rounds-mono k (inf s) y p q h = absurd p
  rounds-mono k (fin s m e) nan p q h = absurd q
  rounds-mono k (fin s m e) (inf t) p q h = absurd q
  rounds-mono k (fin s m e) (fin t n d) p q h =
      rw (r.at-fin s m e, r.at-fin t n d)
      (round-le f s (σ s (m * up e) (down e)) 1 t (σ t (n * up d) (down d)) 1 (zero-lt-suc 0) (zero-lt-suc 0)
      (k s (m * up e) (down e) t (n * up d) (down d) (down_pos e) (down_pos d) (le→Le (fin s m e) (fin t n d) tt tt h)))
