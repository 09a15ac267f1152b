-- The minus sign goes through every operation, of any values, NaN and infinities included. Through products, quotients, rounding to a whole number
-- and narrowing it does so bit for bit. Through sums and differences it does but for a zero: x less x and -x less -x are both +0, where the opposite
-- of +0 is -0. Assumes nothing.
use mathlib.Core.Path.{◌≡◌, refl, sym, ap, ◌∙◌, subst}
use mathlib.Core.Logic.{◌⊎◌, inl, inr}
use Prim.Native.Nat.{ℕ, ◌+◌, ◌-◌, ◌*◌, ◌≤◌, ◌<◌}
use native.Mathlib.Nat.{add_comm, mul_comm, mul-pos}
use native.Mathlib.Omega.{arith}
use mathlib.Core.Bool.{Bool, true, false, not, cond}
use lib.IntN.{pos}
use lib.Dec.{T, ltb, eqb, ltb→lt, nltb→le, eqb_refl}
use lib.Ieee.{Float, nan, inf, fin, Format, unlike, up, down, round, neg, sum, add, sub, mul, div, eq, is_nan}
use lib.Ieee.Fits.{down_pos, and_i}
use Rattle.floats.specs.Whole.{half_up, round_of}
use Rattle.floats.specs.Convert.{narrow_of}
use Rattle.floats.proofs.Signs.{neg-neg, round-neg}
use Rattle.floats.proofs.SameValue.{round-none}

unlike-left : (s t : Bool) → unlike (not s) t ≡ not (unlike s t)
unlike-left false false = refl
unlike-left false true = refl
unlike-left true false = refl
unlike-left true true = refl

unlike-right : (s t : Bool) → unlike s (not t) ≡ not (unlike s t)
unlike-right false false = refl
unlike-right false true = refl
unlike-right true false = refl
unlike-right true true = refl

-- an infinity or a NaN, by a test
neg-cond : (b : Bool) (s t : Bool) → t ≡ not s → cond b nan (inf t) ≡ neg (cond b nan (inf s))
unfolding neg
neg-cond true s t h = refl
neg-cond false s t h = ap inf h

neg-at : (f : Format) (s t : Bool) (a c : ℕ) → t ≡ not s → round f t a c ≡ neg (round f s a c)
neg-at f s t a c h = ap (λ (b : Bool). round f b a c) h ∙ round-neg f s a c

-- ---- products and quotients
mul-neg-left : (f : Format) (x y : Float) → mul f (neg x) y ≡ neg (mul f x y)
unfolding mul neg
mul-neg-left f nan y = refl
mul-neg-left f (inf s) nan = refl
mul-neg-left f (inf s) (inf t) = ap inf (unlike-left s t)
mul-neg-left f (inf s) (fin t n d) = neg-cond (eqb n 0) (unlike s t) (unlike (not s) t) (unlike-left s t)
mul-neg-left f (fin s m e) nan = refl
mul-neg-left f (fin s m e) (inf t) = neg-cond (eqb m 0) (unlike s t) (unlike (not s) t) (unlike-left s t)
mul-neg-left f (fin s m e) (fin t n d) = neg-at f (unlike s t) (unlike (not s) t) (m * up e * (n * up d)) (down e * down d) (unlike-left s t)

pub mul-neg-right : (f : Format) (x y : Float) → mul f x (neg y) ≡ neg (mul f x y)
unfolding mul neg
mul-neg-right f nan y = refl
mul-neg-right f (inf s) nan = refl
mul-neg-right f (inf s) (inf t) = ap inf (unlike-right s t)
mul-neg-right f (inf s) (fin t n d) = neg-cond (eqb n 0) (unlike s t) (unlike s (not t)) (unlike-right s t)
mul-neg-right f (fin s m e) nan = refl
mul-neg-right f (fin s m e) (inf t) = neg-cond (eqb m 0) (unlike s t) (unlike s (not t)) (unlike-right s t)
mul-neg-right f (fin s m e) (fin t n d) = neg-at f (unlike s t) (unlike s (not t)) (m * up e * (n * up d)) (down e * down d) (unlike-right s t)

-- a quotient of finite values with the divisor's zero tested
neg-quotient : (f : Format) (b c : Bool) (s t : Bool) (a k : ℕ) → t ≡ not s
    → cond b (cond c nan (inf t)) (round f t a k) ≡ neg (cond b (cond c nan (inf s)) (round f s a k))
neg-quotient f true c s t a k h = neg-cond c s t h
neg-quotient f false c s t a k h = neg-at f s t a k h

pub div-neg-left : (f : Format) (x y : Float) → div f (neg x) y ≡ neg (div f x y)
unfolding div neg
div-neg-left f nan y = refl
div-neg-left f (inf s) nan = refl
div-neg-left f (inf s) (inf t) = refl
div-neg-left f (inf s) (fin t n d) = ap inf (unlike-left s t)
div-neg-left f (fin s m e) nan = refl
div-neg-left f (fin s m e) (inf t) = ap (λ (b : Bool). fin b 0 (pos 0)) (unlike-left s t)
div-neg-left f (fin s m e) (fin t n d) =
    neg-quotient f (eqb n 0) (eqb m 0) (unlike s t) (unlike (not s) t) (m * up e * down d) (n * up d * down e) (unlike-left s t)

-- ---- to a whole number, and to a format
pub round_of-neg : (f : Format) (x : Float) → round_of f (neg x) ≡ neg (round_of f x)
unfolding round_of neg
round_of-neg f nan = refl
round_of-neg f (inf s) = refl
round_of-neg f (fin s m e) = round-neg f s (half_up (m * up e) (down e)) 1

pub narrow-neg : (f : Format) (x : Float) → narrow_of f (neg x) ≡ neg (narrow_of f x)
unfolding narrow_of neg
narrow-neg f nan = refl
narrow-neg f (inf s) = refl
narrow-neg f (fin s m e) = round-neg f s (m * up e) (down e)

-- ---- squares do not know the sign
pub square-neg : (f : Format) (x : Float) → mul f (neg x) (neg x) ≡ mul f x x
square-neg f x = mul-neg-left f x (neg x) ∙ ap neg (mul-neg-right f x x) ∙ neg-neg (mul f x x)

-- ---- sums and differences
-- w is z turned: its opposite bit for bit, or both are +0
abbrev pub Turned : Float → Float → Type 0
Turned z w = (w ≡ neg z) ⊎ ((z ≡ fin false 0 (pos 0)) × (w ≡ fin false 0 (pos 0)))

turned-back : {z w : Float} → Turned z w → Turned w z
turned-back {z} {w} (inl h) = inl (sym (neg-neg z) ∙ ap neg (sym h))
turned-back (inr (h, k)) = inr (k, h)

module _ (f : Format) (a b c : ℕ) where
  -- a less b, by the two tests of their order: -a less -b, and b less a
  difference-neg : 0 < c → (x y : Bool) → (T (not x) → b ≤ a) → (T (not y) → a ≤ b)
      → Turned (cond x (round f true (b - a) c) (round f false (a - b) c)) (cond x (round f false (b - a) c) (round f y (a - b) c))
  difference-neg C true y h k = inl (round-neg f true (b - a) c)
  difference-neg C false true h k = inl (round-neg f false (a - b) c)
  difference-neg C false false h k =
      let same : a - b ≡ 0 = omega (arith, h tt, k tt) in
      let none : round f false (a - b) c ≡ fin false 0 (pos 0) = ap (λ (n : ℕ). round f false n c) same ∙ round-none f false c C in
      inr (none, none)

  difference-swap : (x y : Bool) → (T x → a < b) → (T y → b < a) → (T (not x) → b ≤ a) → (T (not y) → a ≤ b)
      → cond x (round f true (b - a) c) (round f false (a - b) c) ≡ cond y (round f false (a - b) c) (round f x (b - a) c)
  difference-swap true true h k h' k' = absurd (omega (arith, h tt, k tt))
  difference-swap true false h k h' k' = refl
  difference-swap false true h k h' k' = refl
  difference-swap false false h k h' k' = let same : a - b ≡ b - a = omega (arith, h' tt, k' tt) in ap (λ (n : ℕ). round f false n c) same

sum-neg : (f : Format) (s : Bool) (a : ℕ) (t : Bool) (b c : ℕ) → 0 < c → Turned (sum f s a t b c) (sum f (not s) a (not t) b c)
unfolding sum
sum-neg f false a false b c C = inl (round-neg f false (a + b) c)
sum-neg f true a true b c C = inl (round-neg f true (a + b) c)
sum-neg f false a true b c C = difference-neg f a b c C (ltb a b) (ltb b a) (nltb→le a b) (nltb→le b a)
sum-neg f true a false b c C = turned-back (difference-neg f a b c C (ltb a b) (ltb b a) (nltb→le a b) (nltb→le b a))

sum-swap : (f : Format) (s : Bool) (a : ℕ) (t : Bool) (b c : ℕ) → sum f s a t b c ≡ sum f t b s a c
unfolding sum
sum-swap f false a false b c = ap (λ (n : ℕ). round f false n c) (add_comm a b)
sum-swap f true a true b c = ap (λ (n : ℕ). round f true n c) (add_comm a b)
sum-swap f false a true b c = difference-swap f a b c (ltb a b) (ltb b a) (ltb→lt a b) (ltb→lt b a) (nltb→le a b) (nltb→le b a)
sum-swap f true a false b c = sym (difference-swap f b a c (ltb b a) (ltb a b) (ltb→lt b a) (ltb→lt a b) (nltb→le b a) (nltb→le a b))

pub add-swap : (f : Format) (x y : Float) → add f x y ≡ add f y x
unfolding add
add-swap f nan nan = refl
add-swap f nan (inf t) = refl
add-swap f nan (fin t n d) = refl
add-swap f (inf s) nan = refl
add-swap f (inf true) (inf true) = refl
add-swap f (inf true) (inf false) = refl
add-swap f (inf false) (inf true) = refl
add-swap f (inf false) (inf false) = refl
add-swap f (inf s) (fin t n d) = refl
add-swap f (fin s m e) nan = refl
add-swap f (fin s m e) (inf t) = refl
add-swap f (fin s m e) (fin t n d) =
    sum-swap f s (m * up e * down d) t (n * up d * down e) (down e * down d)
    ∙ ap (sum f t (n * up d * down e) s (m * up e * down d)) (mul_comm (down e) (down d))

add-neg : (f : Format) (x y : Float) → Turned (add f x y) (add f (neg x) (neg y))
unfolding add neg
add-neg f nan y = inl refl
add-neg f (inf s) nan = inl refl
add-neg f (inf true) (inf true) = inl refl
add-neg f (inf true) (inf false) = inl refl
add-neg f (inf false) (inf true) = inl refl
add-neg f (inf false) (inf false) = inl refl
add-neg f (inf s) (fin t n d) = inl refl
add-neg f (fin s m e) nan = inl refl
add-neg f (fin s m e) (inf t) = inl refl
add-neg f (fin s m e) (fin t n d) = sum-neg f s (m * up e * down d) t (n * up d * down e) (down e * down d) (mul-pos (down_pos e) (down_pos d))

pub sub-neg : (f : Format) (x y : Float) → Turned (sub f x y) (sub f (neg x) (neg y))
unfolding sub
sub-neg f x y = add-neg f x (neg y)

-- taken the other way round
pub sub-swap : (f : Format) (x y : Float) → Turned (sub f x y) (sub f y x)
unfolding sub
sub-swap f x y = subst (Turned (sub f x y)) (ap (add f (neg x)) (neg-neg y) ∙ add-swap f (neg x) y) (sub-neg f x y)

-- ---- what a turned value is
itself : (x : Float) → T (not (is_nan x)) → T (eq x x)
unfolding is_nan eq
itself nan n = n
itself (inf true) n = tt
itself (inf false) n = tt
itself (fin true m e) n = and_i (eqb (m * up e * down e) (m * up e * down e)) true (eqb_refl (m * up e * down e)) tt
itself (fin false m e) n = and_i (eqb (m * up e * down e) (m * up e * down e)) true (eqb_refl (m * up e * down e)) tt

-- the opposite number, the two zeros counted as one
pub turned-number : {z w : Float} → Turned z w → T (not (is_nan w)) → T (eq w (neg z))
turned-number {z} {w} (inl h) n = subst (λ (v : Float). T (eq w v)) h (itself w n)
turned-number (inr (h, k)) n = rw (h, k) (unfold eq neg in tt)

-- the same square, bit for bit
pub turned-square : (f : Format) {z w : Float} → Turned z w → mul f w w ≡ mul f z z
turned-square f {z} (inl h) = ap (λ (v : Float). mul f v v) h ∙ square-neg f z
turned-square f (inr (h, k)) = ap (λ (v : Float). mul f v v) (k ∙ sym h)
