-- Bounds that go through the operations: `Within B x` says that x is finite and that its size is B at most.
-- Where B is a value of the format, a result that is at most B before it is rounded is at most B after. Nothing is asked of the operands but their
-- bounds. Assumes nothing.
pub use Rattle.floats.proofs.Signs.{plain}
use mathlib.Core.Path.{◌≡◌, sym, ap, ◌∙◌, subst}
use Prim.Native.Nat.{ℕ, suc, ◌+◌, ◌-◌, ◌*◌, ◌^◌, ◌≤◌, ◌<◌, suc-le-suc}
use native.Mathlib.Nat.{le_trans, le_of_eq, lt_of_lt_of_le, lt_of_le_of_lt, zero-lt-suc, add-le-add, le-add_left, le-add_right, sub-le, one-mul, mul-one, mul_comm, mul_assoc, mul-mul-mul_comm, add-mul, mul-pos, mul-le-mul, mul-le-mul_right, mul-lt-mul_of_pos_right, le_of_mul-le-mul_right}
use native.Mathlib.Omega.{arith}
use mathlib.Core.Bool.{Bool, true, false, ◌&&◌, beq, cond, true≢false}
use lib.IntN.{pos}
use lib.Dec.{T, ltb}
use lib.Pow.{pow-add, pow_pos, pow-lt}
use lib.Ieee.{Float, nan, inf, fin, Format, prec, emax, low, unlike, up, down, round, neg, sum, add, sub, mul, lt, le, eq}
use lib.Ieee.Fits.{two, two-le_pos, down_pos}
use lib.Ieee.Exact.{round_exact, HasValue}
use lib.Ieee.Order.{round_mono}
use Rattle.floats.proofs.Powers.{pow-join}
use Rattle.floats.proofs.Signs.{plain, plain-round, neg-round}
use Rattle.floats.proofs.Signed.{of_test}

-- ---- x is finite, and its size is B at most
abbrev pub Within : ℕ → Float → Type 0
Within B nan = ⊥
Within B (inf s) = ⊥
Within B (fin s m e) = m * up e ≤ B * down e

pub within_more : (x : Float) (A B : ℕ) → A ≤ B → Within A x → Within B x
within_more nan A B h w = w
within_more (inf s) A B h w = w
within_more (fin s m e) A B h w = le_trans w (mul-le-mul_right (down e) h)

pub within-neg : (B : ℕ) (x : Float) → Within B x → Within B (neg x)
unfolding neg
within-neg B nan h = h
within-neg B (inf s) h = h
within-neg B (fin s m e) h = h

-- ---- from a program's two tests, x <= 2^k and x >= -2^k
pub tested : (k : ℕ) (x : Float) → T (le x (fin false 1 (pos k))) → T (le (fin true 1 (pos k)) x) → Within (2 ^ k) x
unfolding le lt eq
tested k nan a b = absurd a
tested k (inf true) a b = absurd b
tested k (inf false) a b = absurd a
tested k (fin false m e) a b =
    let h : m * up e * 1 + 0 ≤ 1 * 2 ^ k * down e + 0 = of_test false (m * up e * 1) false (1 * 2 ^ k * down e) a in
    omega arith
tested k (fin true m e) a b =
    let h : 0 + m * up e * 1 ≤ 0 + 1 * 2 ^ k * down e = of_test true (1 * 2 ^ k * down e) true (m * up e * 1) b in
    omega arith

-- ---- B is a value of the format: q * 2 ^ j, with q of no more digits than it keeps, and below 2 ^ (emax + 1)
pub record Exact (f : Format) (B : ℕ) : Type 0 where
  pub q : ℕ
  pub j : ℕ
  pub is : B ≡ q * 2 ^ j
  pub short : q < 2 ^ prec f
  pub fine : B < 2 ^ suc (emax f)

pub exact-pow : (f : Format) (b : ℕ) → b ≤ emax f → Exact f (2 ^ b)
exact-pow f b h =
    record {
      q = 1;
      j = b;
      is = sym (one-mul (2 ^ b));
      short = pow-lt {i = 0} {j = prec f} (two-le_pos (prec f) (two f));
      fine = pow-lt (suc-le-suc h);
    }

exact-value : (f : Format) (B : ℕ) → Exact f B → HasValue (round f false B 1) false B 1
exact-value f B x =
    round_exact f false B 1 x.q (x.j + low f) (zero-lt-suc 0) x.short
    (lt_of_le_of_lt (le_of_eq (sym move)) (lt_of_lt_of_le (mul-lt-mul_of_pos_right x.fine (pow_pos (low f)))
    (le_of_eq (mul_comm (2 ^ suc (emax f)) (2 ^ low f) ∙ sym (pow-add 2 (low f) (suc (emax f)))))))
    (move ∙ sym (mul-one (x.q * 2 ^ (x.j + low f))))
  where
    move : B * 2 ^ low f ≡ x.q * 2 ^ (x.j + low f)
    move = ap (λ (n : ℕ). n * 2 ^ low f) x.is ∙ pow-join x.q x.j (low f)

-- ---- a fraction that is at most B rounds to a value within B
below : (x y : Float) (B : ℕ) → T (plain x) → HasValue y false B 1 → T (le x y) → Within B x
unfolding le lt eq
below nan y B p v h = absurd p
below (inf true) y B p v h = absurd p
below (fin true m e) y B p v h = absurd p
below (inf false) nan B p v h = absurd v
below (inf false) (inf t) B p v h = absurd v
below (inf false) (fin t n d) B p v h = absurd h
below (fin false m e) nan B p v h = absurd v
below (fin false m e) (inf t) B p v h = absurd v
below (fin false m e) (fin true n d) B p v h = absurd (true≢false v.0)
below (fin false m e) (fin false n d) B p v h =
    let l : m * up e * down d + 0 ≤ n * up d * down e + 0 = of_test false (m * up e * down d) false (n * up d * down e) h in
    let w : n * up d * down e ≡ B * down d * down e = ap (λ (x : ℕ). x * down e) (sym (mul-one (n * up d)) ∙ v.1) in
    le_of_mul-le-mul_right {m = m * up e} {n = B * down e} {k = down d} (omega arith) (down_pos d)

plus-within : (f : Format) (a c B : ℕ) → 0 < c → Exact f B → a ≤ B * c → Within B (round f false a c)
plus-within f a c B C x h =
    below (round f false a c) (round f false B 1) B (plain-round f a c) (exact-value f B x)
    (round_mono f a c B 1 C (zero-lt-suc 0) (le_trans (le_of_eq (mul-one a)) h))

pub round-within : (f : Format) (s : Bool) (a c B : ℕ) → 0 < c → Exact f B → a ≤ B * c → Within B (round f s a c)
round-within f false a c B C x h = plus-within f a c B C x h
round-within f true a c B C x h = subst (λ (z : Float). Within B z) (neg-round f a c) (within-neg B (round f false a c) (plus-within f a c B C x h))

-- ---- the operations
pub mul-within : (f : Format) (x y : Float) (A B : ℕ) → Exact f (A * B) → Within A x → Within B y → Within (A * B) (mul f x y)
unfolding mul
mul-within f nan y A B X h k = absurd h
mul-within f (inf s) y A B X h k = absurd h
mul-within f (fin s m e) nan A B X h k = absurd k
mul-within f (fin s m e) (inf t) A B X h k = absurd k
mul-within f (fin s m e) (fin t n d) A B X h k =
    round-within f (unlike s t) (m * up e * (n * up d)) (down e * down d) (A * B) (mul-pos (down_pos e) (down_pos d)) X
    (le_trans (mul-le-mul h k) (le_of_eq (mul-mul-mul_comm A (down e) B (down d))))

sum-within : (f : Format) (s : Bool) (a : ℕ) (t : Bool) (b c B : ℕ) → 0 < c → Exact f B → a + b ≤ B * c → Within B (sum f s a t b c)
unfolding sum
sum-within f s a t b c B C X h = go (beq s t) (ltb a b)
  where
    go : (x y : Bool) → Within B (cond x (round f s (a + b) c) (cond y (round f t (b - a) c) (round f (s && ltb b a) (a - b) c)))
    go true y = round-within f s (a + b) c B C X h
    go false true = round-within f t (b - a) c B C X (le_trans (sub-le b a) (le_trans (le-add_left b a) h))
    go false false = round-within f (s && ltb b a) (a - b) c B C X (le_trans (sub-le a b) (le_trans (le-add_right a b) h))

pub add-within : (f : Format) (x y : Float) (A B : ℕ) → Exact f (A + B) → Within A x → Within B y → Within (A + B) (add f x y)
unfolding add
add-within f nan y A B X h k = absurd h
add-within f (inf s) y A B X h k = absurd h
add-within f (fin s m e) nan A B X h k = absurd k
add-within f (fin s m e) (inf t) A B X h k = absurd k
add-within f (fin s m e) (fin t n d) A B X h k =
    sum-within f s (m * up e * down d) t (n * up d * down e) (down e * down d) (A + B) (mul-pos (down_pos e) (down_pos d)) X
    (le_trans (add-le-add (le_trans (mul-le-mul_right (down d) h) (le_of_eq (mul_assoc A (down e) (down d))))
    (le_trans (mul-le-mul_right (down e) k) (le_of_eq (mul_assoc B (down d) (down e) ∙ ap (λ (z : ℕ). B * z) (mul_comm (down d) (down e))))))
    (le_of_eq (sym (add-mul A B (down e * down d)))))

pub sub_within : (f : Format) (x y : Float) (A B : ℕ) → Exact f (A + B) → Within A x → Within B y → Within (A + B) (sub f x y)
unfolding sub
sub_within f x y A B X h k = add-within f x (neg y) A B X h (within-neg B y k)
