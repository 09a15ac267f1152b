-- d - e * round(d / e) without the division, for a finite e and a d below it in size, in any format: d + 0, an e less or more where d + d reaches e
-- or -e. Below half of e the quotient rounds to less than a half, as two values of a format, 2 d < e, differ by one part in 2 ^ prec of e at least;
-- from half of e on it is from a half up to one. Assumes nothing.
use mathlib.Core.Path.{◌≡◌, refl, sym, ap, ap₂, ◌∙◌, subst}
use mathlib.Core.Bool.{Bool, true, false, cond, true≢false}
use Prim.Native.Nat.{ℕ, zero, suc, ◌+◌, ◌-◌, ◌*◌, ◌^◌, ◌≤◌, ◌<◌, zero-le}
use native.Mathlib.Nat.{le_of_eq, le_of_lt, lt_trans, lt_of_not-le, lt_of_lt_of_le, lt_of_le_of_lt, zero-lt-suc, mul-pos, mul_comm, mul_assoc, mul-le-mul_right, mul-lt-mul_of_pos_right, lt_of_mul-lt-mul_right, le_of_mul-le-mul_right, pow-succ'}
use native.Mathlib.Omega.{arith}
use native.Mathlib.Decide.{dec_le}
use lib.IntN.{ℤ, pos, negsuc}
use lib.Dec.{T, ltb→lt}
use lib.Pow.{pow_pos, pow-add}
use lib.Ieee.{Float, nan, inf, fin, Format, binary32, binary64, prec, low, unlike, up, down, round, neg, sum, add, sub, mul, div, lt, le, eq, fits}
use lib.Ieee.Bits.{is_true}
use lib.Ieee.Fits.{up_pos, down_pos, add-fits, neg-fits}
use lib.Ieee.Exact.{HasValue, round_exact}
use lib.Ieee.Order.{round_mono}
use lib.Ieee.Scale.{finite}
use lib.Ieee.Positive.{num, den, den_pos, first_pos}
use Rattle.floats.specs.Whole.{half_up, round_of}
use Rattle.floats.specs.Standard.{sign}
use Rattle.floats.proofs.Fractions.{half-none, half-unit}
use Rattle.floats.proofs.Held.{on-grid, fits-digits, fits-grid, fits_under}
use Rattle.floats.proofs.SameValue.{own-round, round-none}
use Rattle.floats.proofs.Signs.{plain, plain-round, neg-neg, neg-round, same_sign}
use Rattle.floats.proofs.Signed.{neg-le, of_test}
use Rattle.floats.proofs.Operations.{div_is}
use Rattle.floats.proofs.ExactResults.{times-one, times_none, plus-zero, minus-zero, less_none}
use Rattle.floats.proofs.Negation.{mul-neg-right, add-swap}

-- ---- whole numbers: K below N and below q leave N at least one part in q above K
gap : (q K N : ℕ) → K < N → K < q → K * q + N ≤ N * q
gap q K N h k =
    let u = N - suc K in
    let e : N ≡ suc K + u = omega arith in
    subst (λ (n : ℕ). K * q + n ≤ n * q) (sym e) (inner K u q k)
  where
    inner : (K u q : ℕ) → K < q → K * q + (suc K + u) ≤ (suc K + u) * q
    inner K u zero k = absurd (omega arith)
    inner K u (suc p) k = omega arith

-- the same of d * 2 ^ i and n * 2 ^ j, of p digits each, whatever the exponents
grid-gap : (p i j k n : ℕ) → k < 2 ^ p → n < 2 ^ p → k * 2 ^ i < n * 2 ^ j → k * 2 ^ i * 2 ^ p + n * 2 ^ j ≤ n * 2 ^ j * 2 ^ p
grid-gap p i j k n hk hn h = go (dec_le i j)
  where
    scale : (c K N q : ℕ) → K * q + N ≤ N * q → K * c * q + N * c ≤ N * c * q
    scale c K N q l = let m : (K * q + N) * c ≤ N * q * c = mul-le-mul_right c l in omega arith

    split : (i j : ℕ) → i ≤ j → j ≡ i + (j - i)
    split i j l = omega arith

    -- n * 2 ^ j in multiples of 2 ^ i
    moved : (n i j : ℕ) → i ≤ j → n * 2 ^ j ≡ n * 2 ^ (j - i) * 2 ^ i
    moved n i j l =
        ap (λ (x : ℕ). n * 2 ^ x) (split i j l) ∙ ap (λ (x : ℕ). n * x) (pow-add 2 i (j - i) ∙ mul_comm (2 ^ i) (2 ^ (j - i)))
        ∙ sym (mul_assoc n (2 ^ (j - i)) (2 ^ i))

    go : Dec (i ≤ j) → k * 2 ^ i * 2 ^ p + n * 2 ^ j ≤ n * 2 ^ j * 2 ^ p
    go (yes l) =
        let N = n * 2 ^ (j - i) in
        let m = moved n i j l in
        let b : k < N = lt_of_mul-lt-mul_right (2 ^ i) (lt_of_lt_of_le h (le_of_eq m)) in
        subst (λ (x : ℕ). k * 2 ^ i * 2 ^ p + x ≤ x * 2 ^ p) (sym m) (scale (2 ^ i) k N (2 ^ p) (gap (2 ^ p) k N b hk))
    go (no w) =
        let l : j ≤ i = le_of_lt (lt_of_not-le w) in
        let K = k * 2 ^ (i - j) in
        let m = moved k j i l in
        let b : K < n = lt_of_mul-lt-mul_right (2 ^ j) (lt_of_le_of_lt (le_of_eq (sym m)) h) in
        subst (λ (x : ℕ). x * 2 ^ p + n * 2 ^ j ≤ n * 2 ^ j * 2 ^ p) (sym m) (scale (2 ^ j) K n (2 ^ p) (gap (2 ^ p) K n b (lt_of_lt_of_le b (le_of_lt hn))))

-- two sizes in units: twice the one is below the other
down_to : (nx dx ny dy L GX GY : ℕ) → 0 < L → nx * L ≡ GX * dx → ny * L ≡ GY * dy → nx * 2 * dy < ny * dx → GX * 2 < GY
down_to nx dx ny dy L GX GY P a b h =
    let h' : nx * 2 * dy * L < ny * dx * L = mul-lt-mul_of_pos_right h P in
    let a' : nx * L * dy ≡ GX * dx * dy = ap (λ (z : ℕ). z * dy) a in
    let b' : ny * L * dx ≡ GY * dy * dx = ap (λ (z : ℕ). z * dx) b in
    lt_of_mul-lt-mul_right (dx * dy) (omega arith)

twice-pow : (a i : ℕ) → a * 2 ^ suc i ≡ a * 2 ^ i * 2
twice-pow a i = ap (λ (z : ℕ). a * z) (pow-succ' 2 i) ∙ turned a (2 ^ i)
  where
    turned : (a b : ℕ) → a * (2 * b) ≡ a * b * 2
    turned a b = omega arith

-- ---- two values of a format, 2 x < y: then 2 x is a part in 2 ^ prec of y below it
half-gap : (f : Format) (x y : Float) → T (fits f x) → T (fits f y) → T (finite x) → T (finite y) → num x * 2 * den y < num y * den x
    → num x * den y * 2 * 2 ^ prec f + num y * den x ≤ num y * den x * 2 ^ prec f
half-gap f x y Fx Fy fx fy h =
    let gx = on-grid f x Fx fx in
    let gy = on-grid f y Fy fy in
    let GX = gx.0 * 2 ^ gx.1 in
    let GY = gy.0 * 2 ^ gy.1 in
    let twice = twice-pow gx.0 gx.1 in
    let l : GX * 2 < GY = down_to (num x) (den x) (num y) (den y) (2 ^ low f) GX GY (pow_pos (low f)) gx.3 gy.3 h in
    let g : GX * 2 * 2 ^ prec f + GY ≤ GY * 2 ^ prec f =
    subst (λ (z : ℕ). z * 2 ^ prec f + GY ≤ GY * 2 ^ prec f) twice (grid-gap (prec f) (suc gx.1) gy.1 gx.0 gy.0 gx.2 gy.2 (lt_of_le_of_lt (le_of_eq twice) l)) in
    up_to (num x) (den x) (num y) (den y) (2 ^ low f) GX GY (2 ^ prec f) (pow_pos (low f)) gx.3 gy.3 g
  where
    up_to : (nx dx ny dy L GX GY q : ℕ) → 0 < L → nx * L ≡ GX * dx → ny * L ≡ GY * dy → GX * 2 * q + GY ≤ GY * q → nx * dy * 2 * q + ny * dx ≤ ny * dx * q
    up_to nx dx ny dy L GX GY q P a b g =
        let g' : (GX * 2 * q + GY) * (dx * dy) ≤ GY * q * (dx * dy) = mul-le-mul_right (dx * dy) g in
        let a' : nx * L * (dy * q) ≡ GX * dx * (dy * q) = ap (λ (z : ℕ). z * (dy * q)) a in
        let b' : ny * L * dx ≡ GY * dy * dx = ap (λ (z : ℕ). z * dx) b in
        let c' : ny * L * (dx * q) ≡ GY * dy * (dx * q) = ap (λ (z : ℕ). z * (dx * q)) b in
        le_of_mul-le-mul_right {m = nx * dy * 2 * q + ny * dx} {n = ny * dx * q} {k = L} (omega arith) P

-- ---- the quotient below a half: at most the largest value below a half, (2 ^ prec - 1) / 2 ^ (prec + 1)
abbrev almost : Format → Float
almost f = fin false (2 ^ prec f - 1) (negsuc (prec f))

almost-fits : (f : Format) → T (fits f (almost f))
unfolding fits
almost-fits binary32 = tt
almost-fits binary64 = tt

-- over whole numbers, P a power of two: a part in P below c / 2 is (P - 1) / (2 * P) of c, and that is below a half
almost-ge : (P a c : ℕ) → 0 < P → a * 2 * P + c ≤ c * P → a * (2 * P) ≤ (P - 1) * 1 * c
almost-ge zero a c Q h = absurd (omega arith)
almost-ge (suc p) a c Q h = let e : suc p - 1 ≡ p = omega arith in rw e (omega arith)

almost-lt : (P a c : ℕ) → 0 < P → 0 < c → a * (2 * P) + 0 ≤ (P - 1) * 1 * c + 0 → a * 2 < c
almost-lt zero a c Q C h = absurd (omega arith)
almost-lt (suc p) a c Q C h =
    let e : suc p - 1 ≡ p = omega arith in
    let l : a * (2 * suc p) + 0 ≤ p * 1 * c + 0 = rw e at h in
    lt_of_mul-lt-mul_right (suc p) (omega arith)

below_half : (f : Format) (z : Float) → T (plain z) → T (le z (almost f)) → T (finite z) × (num z * 2 < den z)
unfolding le lt
below_half f nan p h = absurd p
below_half f (inf true) p h = absurd p
below_half f (inf false) p h = absurd h
below_half f (fin true m e) p h = absurd p
below_half f (fin false m e) p h =
    let P = 2 ^ prec f in
    let l : m * up e * 2 ^ suc (prec f) + 0 ≤ (P - 1) * 1 * down e + 0 = of_test false (m * up e * 2 ^ suc (prec f)) false ((P - 1) * 1 * down e) h in
    (tt, almost-lt P (m * up e) (down e) (pow_pos (prec f)) (down_pos e) (subst (λ (Q : ℕ). m * up e * Q + 0 ≤ (P - 1) * 1 * down e + 0) (pow-succ' 2 (prec f)) l))

-- ---- from a half up to one
abbrev half : Float
half = fin false 1 (negsuc 0)

abbrev one : Float
one = fin false 1 (pos 0)

half_is : (f : Format) → round f false 1 2 ≡ half
unfolding round
half_is binary32 = refl
half_is binary64 = refl

one-is : (f : Format) (s : Bool) → round f s 1 1 ≡ fin s 1 (pos 0)
unfolding round
one-is binary32 true = refl
one-is binary32 false = refl
one-is binary64 true = refl
one-is binary64 false = refl

middle : (z : Float) → T (plain z) → T (le half z) → T (le z one) → T (finite z) × (den z ≤ num z * 2) × (num z * 2 < 3 * den z)
unfolding le lt
middle nan p g h = absurd p
middle (inf true) p g h = absurd p
middle (inf false) p g h = absurd h
middle (fin true m e) p g h = absurd p
middle (fin false m e) p g h =
    let a : 1 * 1 * down e + 0 ≤ m * up e * 2 + 0 = of_test false (1 * 1 * down e) false (m * up e * 2) g in
    let b : m * up e * 1 + 0 ≤ 1 * 1 * down e + 0 = of_test false (m * up e * 1) false (1 * 1 * down e) h in
    (tt, low_part (m * up e) (down e) a, high_part (m * up e) (down e) (down_pos e) b)
  where
    low_part : (a c : ℕ) → 1 * 1 * c + 0 ≤ a * 2 + 0 → c ≤ a * 2
    low_part a c l = omega arith

    high_part : (a c : ℕ) → 0 < c → a * 1 + 0 ≤ 1 * 1 * c + 0 → a * 2 < 3 * c
    high_part a c C l = omega arith

-- ---- the rounded quotient of d, ±m * 2 ^ k, and e, n * 2 ^ j
to_whole : (f : Format) (s : Bool) (z : Float) (w : ℕ) → T (plain z) → T (finite z) → half_up (num z) (den z) ≡ w → round_of f (cond s (neg z) z) ≡ round f s w 1
unfolding round_of neg
to_whole f s nan w p q h = absurd q
to_whole f s (inf t) w p q h = absurd q
to_whole f s (fin true m e) w p q h = absurd p
to_whole f true (fin false m e) w p q h = ap (λ (n : ℕ). round f true n 1) h
to_whole f false (fin false m e) w p q h = ap (λ (n : ℕ). round f false n 1) h

signed : (f : Format) (s : Bool) (a c : ℕ) → round f s a c ≡ cond s (neg (round f false a c)) (round f false a c)
signed f true a c = sym (neg-round f a c)
signed f false a c = refl

module _ (f : Format) (s : Bool) (m : ℕ) (k : ℤ) (n : ℕ) (j : ℤ) (N : 0 < n) where
  abbrev a : ℕ
  a = m * up k * down j

  abbrev c : ℕ
  c = n * up j * down k

  C : 0 < c
  C = mul-pos (mul-pos N (up_pos j)) (down_pos k)

  abbrev z : Float
  z = round f false a c

  quotient : (w : ℕ) → T (finite z) → half_up (num z) (den z) ≡ w → round_of f (div f (fin s m k) (fin false n j)) ≡ round f s w 1
  quotient w q h =
      ap (round_of f) (div_is f s m k false n j N ∙ ap (λ (t : Bool). round f t a c) (same_sign s) ∙ signed f s a c)
      ∙ to_whole f s z w (plain-round f a c) q h

  short-quotient : T (fits f (fin s m k)) → T (fits f (fin false n j)) → m * up k * 2 * down j < c
      → round_of f (div f (fin s m k) (fin false n j)) ≡ fin s 0 (pos 0)
  short-quotient Fd Fe h =
      let g = half-gap f (fin s m k) (fin false n j) Fd Fe tt tt h in
      let P = 2 ^ prec f in
      let b : a * 2 ^ suc (prec f) ≤ (P - 1) * 1 * c = subst (λ (Q : ℕ). a * Q ≤ (P - 1) * 1 * c) (sym (pow-succ' 2 (prec f))) (almost-ge P a c (pow_pos (prec f)) g) in
      let l : T (le z (almost f)) =
      subst (λ (w : Float). T (le z w)) (own-round f false (P - 1) (negsuc (prec f)) (almost-fits f)) (round_mono f a c ((P - 1) * 1) (2 ^ suc (prec f)) C (pow_pos (suc (prec f))) b) in
      let h = below_half f z (plain-round f a c) l in
      quotient 0 h.0 (half-none (num z) (den z) h.1) ∙ round-none f s 1 (zero-lt-suc 0)

  long-quotient : c ≤ m * up k * 2 * down j → a < c → round_of f (div f (fin s m k) (fin false n j)) ≡ fin s 1 (pos 0)
  long-quotient g h =
      let lo : T (le half z) = subst (λ (w : Float). T (le w z)) (half_is f) (round_mono f 1 2 a c (zero-lt-suc 1) C (twice (m * up k) (down j) c g)) in
      let hi : T (le z one) = subst (λ (w : Float). T (le z w)) (one-is f false) (round_mono f a c 1 1 C (zero-lt-suc 0) (once a c h)) in
      let b = middle z (plain-round f a c) lo hi in
      quotient 1 b.0 (half-unit (num z) (den z) (den_pos z) b.1 b.2) ∙ one-is f s
    where
      twice : (x y c : ℕ) → c ≤ x * 2 * y → 1 * c ≤ x * y * 2
      twice x y c l = omega arith

      once : (a c : ℕ) → a < c → a * 1 ≤ 1 * c
      once a c l = omega arith

-- ---- the two tests, e <= d + d and d + d <= -e, from the sizes
-- |d + d| as a fraction, and rounded
abbrev X : ℕ → ℤ → ℕ
X m k = m * up k * down k + m * up k * down k

abbrev W : Format → ℕ → ℤ → Float
W f m k = round f false (X m k) (down k * down k)

doubled : (f : Format) (s : Bool) (m : ℕ) (k : ℤ) → add f (fin s m k) (fin s m k) ≡ cond s (neg (W f m k)) (W f m k)
unfolding add sum
doubled f true m k = sym (neg-round f (X m k) (down k * down k))
doubled f false m k = refl

is-not : (b : Bool) → (T b → ⊥) → b ≡ false
is-not true k = absurd (k tt)
is-not false k = refl

-- e is above what has a minus sign or is a zero, and its opposite below what has none
under-plus : (n : ℕ) (j : ℤ) (w : Float) → 0 < n → T (plain w) → T (le (fin false n j) (neg w)) → ⊥
unfolding le lt eq neg
under-plus n j nan N p h = p
under-plus n j (inf true) N p h = p
under-plus n j (inf false) N p h = h
under-plus n j (fin true m k) N p h = p
under-plus n j (fin false m k) N p h =
    let l : n * up j * down k + m * up k * down j ≤ 0 + 0 = of_test false (n * up j * down k) true (m * up k * down j) h in
    tidy (n * up j * down k) (m * up k * down j) (mul-pos (mul-pos N (up_pos j)) (down_pos k)) l
  where
    tidy : (a b : ℕ) → 0 < a → a + b ≤ 0 + 0 → ⊥
    tidy a b A l = omega arith

over-minus : (n : ℕ) (j : ℤ) (w : Float) → 0 < n → T (plain w) → T (le w (neg (fin false n j))) → ⊥
over-minus n j w N p h = under-plus n j w N p (subst (λ (x : Float). T (le x (neg w))) (neg-neg (fin false n j)) (neg-le w (neg (fin false n j)) h))

-- e is above w, which is a / c
above-value : (n : ℕ) (j : ℤ) (w : Float) (a c : ℕ) → HasValue w false a c → a * down j < n * up j * c → T (le (fin false n j) w) → ⊥
unfolding le lt eq
above-value n j nan a c v h l = v
above-value n j (inf t) a c v h l = v
above-value n j (fin true p q) a c v h l = true≢false v.0
above-value n j (fin false p q) a c v h l =
    let t : n * up j * down q + 0 ≤ p * up q * down j + 0 = of_test false (n * up j * down q) false (p * up q * down j) l in
    tidy (n * up j) (down j) (p * up q) (down q) a c (down_pos q) v.1 h t
  where
    tidy : (x y z u a c : ℕ) → 0 < u → z * c ≡ a * u → a * y < x * c → x * u + 0 ≤ z * y + 0 → ⊥
    tidy x y z u a c U e h l =
        let h' : a * y * u < x * c * u = mul-lt-mul_of_pos_right h U in
        let l' : (x * u + 0) * c ≤ (z * y + 0) * c = mul-le-mul_right c l in
        let e' : z * c * y ≡ a * u * y = ap (λ (k : ℕ). k * y) e in
        omega arith

module _ (f : Format) (s : Bool) (m : ℕ) (k : ℤ) (n : ℕ) (j : ℤ) (Fd : T (fits f (fin s m k))) (Fe : T (fits f (fin false n j))) where
  -- twice a value is exact where it is below another: its digits are the same, and it does not overflow
  twice-value : m * up k * 2 * down j < n * up j * down k → HasValue (W f m k) false (X m k) (down k * down k)
  twice-value h =
      let gd = fits-grid f s m k Fd in
      let ge = fits-grid f false n j Fe in
      let GX = m * 2 ^ gd.0 in
      let GY = n * 2 ^ ge.0 in
      let t = twice-pow m gd.0 in
      let l : GX * 2 < GY = down_to (m * up k) (down k) (n * up j) (down j) (2 ^ low f) GX GY (pow_pos (low f)) gd.1 ge.1 h in
      round_exact f false (X m k) (down k * down k) m (suc gd.0) (mul-pos (down_pos k) (down_pos k)) (fits-digits f s m k Fd)
      (lt_of_le_of_lt (le_of_eq t) (lt_trans l (fits_under f false n j Fe)))
      (spread (m * up k) (down k) (2 ^ low f) GX gd.1 ∙ ap (λ (z : ℕ). z * (down k * down k)) (sym t))
    where
      spread : (a c L G : ℕ) → a * L ≡ G * c → (a * c + a * c) * L ≡ G * 2 * (c * c)
      spread a c L G e = let e' : a * L * c ≡ G * c * c = ap (λ (z : ℕ). z * c) e in omega arith

  not-reached : m * up k * 2 * down j < n * up j * down k → T (le (fin false n j) (W f m k)) → ⊥
  not-reached h = above-value n j (W f m k) (X m k) (down k * down k) (twice-value h) (double (m * up k) (down k) (n * up j) (down j) (down_pos k) h)
    where
      double : (a c b d : ℕ) → 0 < c → a * 2 * d < b * c → (a * c + a * c) * d < b * (c * c)
      double a c b d C h = let h' : a * 2 * d * c < b * c * c = mul-lt-mul_of_pos_right h C in omega arith

  -- at half of e and above, overflow or not
  reached : n * up j * down k ≤ m * up k * 2 * down j → T (le (fin false n j) (W f m k))
  reached h =
      subst (λ (x : Float). T (le x (W f m k))) (own-round f false n j Fe)
      (round_mono f (n * up j) (down j) (X m k) (down k * down k) (down_pos j) (mul-pos (down_pos k) (down_pos k)) (double (m * up k) (down k) (n * up j) (down j) h))
    where
      double : (a c b d : ℕ) → b * c ≤ a * 2 * d → b * (c * c) ≤ (a * c + a * c) * d
      double a c b d h = let h' : b * c * c ≤ a * 2 * d * c = mul-le-mul_right c h in omega arith

-- ---- the fold
abbrev zero_plus : Float
zero_plus = fin false 0 (pos 0)

-- by the answers of the two tests
abbrev fold_by : Format → Bool → Bool → Float → Float → Float
fold_by f t u d e = sub f (add f d zero_plus) (sub f (cond t e zero_plus) (cond u e zero_plus))

abbrev pub fold_of : Format → Float → Float → Float
fold_of f d e = fold_by f (le e (add f d d)) (le (add f d d) (neg e)) d e

abbrev image_of : Format → Float → Float → Float
image_of f d e = sub f d (mul f e (round_of f (div f d e)))

digits : Float → ℕ
digits nan = 1
digits (inf s) = 1
digits (fin s m k) = m

module _ (f : Format) (m : ℕ) (k : ℤ) (n : ℕ) (j : ℤ) (N : 0 < n) (Fe : T (fits f (fin false n j))) where
  abbrev e : Float
  e = fin false n j

  -- the tests' answers t and u, of ±m * 2 ^ k
  answered : (s t u : Bool) → le e (cond s (neg (W f m k)) (W f m k)) ≡ t → le (cond s (neg (W f m k)) (W f m k)) (neg e) ≡ u
      → fold_of f (fin s m k) e ≡ fold_by f t u (fin s m k) e
  answered s t u p q =
      ap₂ (λ (x y : Bool). fold_by f x y (fin s m k) e) (ap (le e) (doubled f s m k) ∙ p) (ap (λ (w : Float). le w (neg e)) (doubled f s m k) ∙ q)

  plain-W : T (plain (W f m k))
  plain-W = plain-round f (X m k) (down k * down k)

  -- below half of e neither test holds, and d + 0 is left
  short-tests : (s : Bool) → T (fits f (fin s m k)) → m * up k * 2 * down j < n * up j * down k → fold_of f (fin s m k) e ≡ fold_by f false false (fin s m k) e
  short-tests true Fd h =
      answered true false false (is-not _ (under-plus n j (W f m k) N plain-W))
      (is-not _ (λ l. not-reached f true m k n j Fd Fe h (subst T (ap₂ le (neg-neg e) (neg-neg (W f m k))) (neg-le (neg (W f m k)) (neg e) l))))
  short-tests false Fd h = answered false false false (is-not _ (not-reached f false m k n j Fd Fe h)) (is-not _ (over-minus n j (W f m k) N plain-W))

  short-fold : (s : Bool) → T (fits f (fin s m k)) → m * up k * 2 * down j < n * up j * down k → fold_of f (fin s m k) e ≡ image_of f (fin s m k) e
  short-fold s Fd h =
      short-tests s Fd h ∙ ap (sub f (add f (fin s m k) zero_plus)) (less_none f false) ∙ minus-zero f (add f (fin s m k) zero_plus) (add-fits f (fin s m k) zero_plus)
      ∙ sym (ap (λ (q : Float). sub f (fin s m k) (mul f e q)) (short-quotient f s m k n j N Fd Fe h) ∙ ap (sub f (fin s m k)) (times_none f false n j s) ∙ last s Fd)
    where
      last : (s : Bool) → T (fits f (fin s m k)) → sub f (fin s m k) (fin (unlike false s) 0 (pos 0)) ≡ add f (fin s m k) zero_plus
      last true F = unfold sub neg in refl
      last false F = minus-zero f (fin false m k) F ∙ sym (plus-zero f (fin false m k) F (λ h. true≢false (sym (ap sign h))))

  -- from half of e on d's sign says which holds, and one e goes
  some : n * up j * down k ≤ m * up k * 2 * down j → 0 < m
  some h = first_pos m (up k) (first_pos (m * up k) 2 (first_pos (m * up k * 2) (down j) (lt_of_lt_of_le (mul-pos (mul-pos N (up_pos j)) (down_pos k)) h)))

  off_zero : (s : Bool) → 0 < m → fin s m k ≡ fin true 0 (pos 0) → ⊥
  unfolding digits
  off_zero s M h = omega (arith, M, ap digits h)

  none-less : sub f zero_plus e ≡ neg e
  unfolding sub neg digits
  none-less = add-swap f zero_plus (neg e) ∙ plus-zero f (neg e) (neg-fits f e Fe) (λ h. omega (arith, N, ap digits h))

  long-tests : (s : Bool) → T (fits f (fin s m k)) → n * up j * down k ≤ m * up k * 2 * down j → fold_of f (fin s m k) e ≡ sub f (add f (fin s m k) zero_plus) (mul f e (fin s 1 (pos 0)))
  unfolding neg
  long-tests true Fd h =
      answered true false true (is-not _ (under-plus n j (W f m k) N plain-W)) (is_true _ (neg-le e (W f m k) (reached f true m k n j Fd Fe h)))
      ∙ ap (sub f (add f (fin true m k) zero_plus)) (none-less ∙ sym (mul-neg-right f e one ∙ ap neg (times-one f e Fe)))
  long-tests false Fd h =
      answered false true false (is_true _ (reached f false m k n j Fd Fe h)) (is-not _ (over-minus n j (W f m k) N plain-W))
      ∙ ap (sub f (add f (fin false m k) zero_plus)) (minus-zero f e Fe ∙ sym (times-one f e Fe))

  long-fold : (s : Bool) → T (fits f (fin s m k)) → n * up j * down k ≤ m * up k * 2 * down j → m * up k * down j < n * up j * down k
      → fold_of f (fin s m k) e ≡ image_of f (fin s m k) e
  long-fold s Fd h b =
      long-tests s Fd h ∙ ap (λ (x : Float). sub f x (mul f e (fin s 1 (pos 0)))) (plus-zero f (fin s m k) Fd (off_zero s (some h)))
      ∙ ap (λ (q : Float). sub f (fin s m k) (mul f e q)) (sym (long-quotient f s m k n j N h b))

  fold_at : (s : Bool) → T (fits f (fin s m k)) → m * up k * down j < n * up j * down k → fold_of f (fin s m k) e ≡ image_of f (fin s m k) e
  fold_at s Fd b = go (dec_le (n * up j * down k) (m * up k * 2 * down j))
    where
      go : Dec (n * up j * down k ≤ m * up k * 2 * down j) → fold_of f (fin s m k) e ≡ image_of f (fin s m k) e
      go (yes h) = long-fold s Fd h b
      go (no h) = short-fold s Fd (lt_of_not-le h)

digits-pos : (a n u d : ℕ) → a < n * u * d → 0 < n
digits-pos a n u d l = first_pos n u (first_pos (n * u) d (lt_of_le_of_lt zero-le l))

-- from the tests, of any d and any finite e
pub fold-image : (f : Format) (d e : Float) → T (fits f d) → T (fits f e) → T (finite e) → T (lt d e) → T (lt (neg e) d) → fold_of f d e ≡ image_of f d e
unfolding lt neg
fold-image f d nan Fd Fe q below above = absurd q
fold-image f d (inf t) Fd Fe q below above = absurd q
fold-image f nan (fin t n j) Fd Fe q below above = absurd below
fold-image f (inf true) (fin t n j) Fd Fe q below above = absurd above
fold-image f (inf false) (fin t n j) Fd Fe q below above = absurd below
fold-image f (fin false m k) (fin true n j) Fd Fe q below above = absurd below
fold-image f (fin true m k) (fin true n j) Fd Fe q below above = absurd above
fold-image f (fin false m k) (fin false n j) Fd Fe q below above =
    let l : m * up k * down j < n * up j * down k = ltb→lt (m * up k * down j) (n * up j * down k) below in
    fold_at f m k n j (digits-pos (m * up k * down j) n (up j) (down k) l) Fe false Fd l
fold-image f (fin true m k) (fin false n j) Fd Fe q below above =
    let l : m * up k * down j < n * up j * down k = ltb→lt (m * up k * down j) (n * up j * down k) above in
    fold_at f m k n j (digits-pos (m * up k * down j) n (up j) (down k) l) Fe true Fd l
