-- The square root on bit patterns, in any format: what each arm of `sqrt_bits` returns. Assumes nothing.
use mathlib.Core.Path.{◌≡◌, refl, sym, ap, ap₂, ◌∙◌, subst}
use Prim.Native.Nat.{ℕ, zero, suc, ◌+◌, ◌-◌, ◌*◌, ◌/◌, ◌%◌, ◌^◌, ◌≤◌, ◌<◌}
use native.Mathlib.Nat.{le_trans, le_of_eq, lt_of_lt_of_le, lt_of_le_of_lt, lt_irrefl, zero-add, le-add_left, le-add_right, sub-le, one-mul, mul-one, zero-mul, mul-pos, pow-succ', div-add-mod', le-div_iff_mul-le, div-lt_iff_lt-mul, mod-eq_of_lt}
use native.Mathlib.Omega.{arith}
use mathlib.Core.Bool.{Bool, true, false, not, cond, true≢false, false≢true}
use lib.Dec.{T, leb, eqb, le→leb, lit≤}
use lib.Pow.{pow_pos, pow_mono, shl_lt}
use lib.Bits.{bit_and}
use lib.Ieee.{Float, nan, inf, fin, Format, binary32, binary64, prec, emax, low, hid, ones, top, up, odd, is_nan, of_fields, of_bits, to_bits}
use lib.Ieee.Fits.{two, reach, down_pos}
use lib.Ieee.Bits.{to_bits-of_bits, of_bits-fits, to_bits-lt, is_true}
use lib.Ieee.Exact.{HasValue, odd_sign}
use Rattle.floats.specs.Root.{root_drop, root_digits, root_units, sqrt_of}
use Rattle.floats.specs.Inner.{rooted, Packed}
use Rattle.floats.proofs.Powers.{pow-join}
use Rattle.floats.proofs.Patterns.{unsigned_is, nan_pattern}
use Rattle.floats.proofs.Fields.{of_bits_is, top_pos, same-fraction, below_top, low_value, normal-value, with_lead, zero_is}
use Rattle.floats.proofs.Packing.{plus-bits}
use Rattle.floats.proofs.RootUnits.{squared-is, q-le, q-floor, y, y-value, sqrt-fits}

-- ---- the tests on b's bits: `size` is b & (top - 1)
module _ (f : Format) (b : ℕ) where
  some : (n : ℕ) → (n ≡ 0 → ⊥) → 0 < n
  some n h = omega arith

  -- a NaN
  pub code-nan : ones f * hid f < bit_and b (top f - 1) → to_bits f nan ≡ rooted f b
  unfolding sqrt_of
  code-nan h = ap (λ (x : Float). to_bits f (sqrt_of f x)) (sym (nan_pattern f b h))

  -- a zero
  pub code-zero : b < 2 * top f → bit_and b (top f - 1) ≡ 0 → b ≡ rooted f b
  unfolding sqrt_of is_nan
  code-zero w h =
      let z = zero_is f b (sym (unsigned_is f b) ∙ h) in
      sym (to_bits-of_bits f b w (subst (λ (x : Float). T (not (is_nan x))) (sym z) tt)) ∙ ap (to_bits f) (z ∙ ap (sqrt_of f) (sym z))

  -- infinity
  inf-root : (h : Format) → ones h * hid h ≡ rooted h (ones h * hid h)
  unfolding to_bits of_bits sqrt_of
  inf-root binary32 = refl
  inf-root binary64 = refl

  pub code-inf : bit_and b (top f - 1) ≡ ones f * hid f → b / top f ≡ 0 → b ≡ rooted f b
  code-inf h s =
      let z : b ≡ ones f * hid f = sym (mod-eq_of_lt (below_top f b s)) ∙ sym (unsigned_is f b) ∙ h in
      subst (λ (k : ℕ). k ≡ rooted f k) (sym z) (inf-root f)

-- ---- below zero: the fields are not both 0
minus-sqrt : (f : Format) (x : Float) (a c : ℕ) → HasValue x true a c → 0 < a → sqrt_of f x ≡ nan
unfolding sqrt_of
minus-sqrt f nan a c v p = refl
minus-sqrt f (inf s) a c v p = absurd v
minus-sqrt f (fin false m e) a c v p = absurd (false≢true v.0)
minus-sqrt f (fin true zero e) a c v p =
    absurd (lt_irrefl 0 (subst (λ (x : ℕ). 0 < x) (sym v.1 ∙ ap (λ (x : ℕ). x * c) (zero-mul (up e)) ∙ zero-mul c) (mul-pos p (down_pos e))))
minus-sqrt f (fin true (suc m) e) a c v p = refl

minus-fields : (f : Format) (x t : ℕ) → 0 < x + t → sqrt_of f (of_fields f true x t) ≡ nan
unfolding of_fields
minus-fields f zero t h =
    minus-sqrt f (odd (prec f) true t 0 (low f)) (t * 2 ^ 0) (2 ^ low f) (odd_sign (prec f) true t 0 (low f))
    (mul-pos (subst (λ (z : ℕ). 0 < z) (zero-add t) h) (pow_pos 0))
minus-fields f (suc x) t h = go (eqb (suc x) (ones f)) (eqb t 0)
  where
    go : (a b : Bool) → sqrt_of f (cond a (cond b (inf true) nan) (odd (prec f) true (hid f + t) x (low f))) ≡ nan
    go true true = unfold sqrt_of in refl
    go true false = unfold sqrt_of in refl
    go false b =
        minus-sqrt f (odd (prec f) true (hid f + t) x (low f)) ((hid f + t) * 2 ^ x) (2 ^ low f) (odd_sign (prec f) true (hid f + t) x (low f))
        (mul-pos (lt_of_lt_of_le (pow_pos (prec f - 1)) (le-add_right (hid f) t)) (pow_pos x))

fields-some : (f : Format) (b : ℕ) → 0 < b % top f → 0 < b % top f / hid f + b % hid f
fields-some f b h =
    subst (λ (z : ℕ). 0 < b % top f / hid f + z) (same-fraction f b)
    (some_of (b % top f / hid f) (b % top f % hid f) (hid f) (b % top f) (div-add-mod' (b % top f) (hid f)) h)
  where
    some_of : (q r c k : ℕ) → q * c + r ≡ k → 0 < k → 0 < q + r
    some_of zero r c k e g = omega arith
    some_of (suc q) r c k e g = omega arith

pub code-minus : (f : Format) (b : ℕ) → (b / top f ≡ 0 → ⊥) → (bit_and b (top f - 1) ≡ 0 → ⊥) → to_bits f nan ≡ rooted f b
code-minus f b s n =
    let t : top f ≤ b = le_trans (le_of_eq (sym (one-mul (top f)))) ((le-div_iff_mul-le (top_pos f)).0 (some f b (b / top f) s)) in
    ap (to_bits f) (sym (ap (sqrt_of f) (of_bits_is f b ∙ ap (λ (m : Bool). of_fields f m (b % top f / hid f) (b % hid f))
    (is_true (leb (top f) b) (le→leb (top f) b t)))
    ∙ minus-fields f (b % top f / hid f) (b % hid f) (fields-some f b (some f b (b % top f) (λ e. n (unsigned_is f b ∙ e))))))

-- ---- above zero: the root of q₀ * 2 ^ k units of 2 ^ -low
plus-sqrt : (f : Format) (x : Float) (a : ℕ) → HasValue x false a (2 ^ low f) → 0 < a → sqrt_of f x ≡ root_units f (a * 2 ^ low f)
unfolding sqrt_of
plus-sqrt f nan a v p = absurd v
plus-sqrt f (inf s) a v p = absurd v
plus-sqrt f (fin true m e) a v p = absurd (true≢false v.0)
plus-sqrt f (fin false zero e) a v p =
    absurd (lt_irrefl 0 (subst (λ (x : ℕ). 0 < x) (sym v.1 ∙ ap (λ (x : ℕ). x * 2 ^ low f) (zero-mul (up e)) ∙ zero-mul (2 ^ low f))
    (mul-pos p (down_pos e))))
plus-sqrt f (fin false (suc m) e) a v p = ap (root_units f) (squared-is f (suc m) e a v.1)

root-bits : (f : Format) (q₀ k : ℕ) → 0 < q₀ → q₀ < 2 ^ prec f → q₀ * 2 ^ k < 2 ^ (low f + suc (emax f)) → (x : Float)
    → HasValue x false (q₀ * 2 ^ k) (2 ^ low f)
    → suc (root_drop (prec f) (q₀ * 2 ^ (k + low f))) * hid f + root_digits (prec f) (q₀ * 2 ^ (k + low f)) ≡ to_bits f (sqrt_of f x)
unfolding root_units root_drop root_digits y
root-bits f q₀ k Z M O x v =
    let A = q₀ * 2 ^ (k + low f) in
    let Q = root_digits (prec f) A in
    sym (ap (to_bits f) (plus-sqrt f x (q₀ * 2 ^ k) v (mul-pos Z (pow_pos k)) ∙ ap (root_units f) (pow-join q₀ k (low f)))
    ∙ plus-bits f (root_units f A) Q (suc (root_drop (prec f) A))
    (subst (λ (n : ℕ). HasValue (root_units f A) false (Q * n) (2 ^ low f)) (sym (pow-succ' 2 (root_drop (prec f) A))) (y-value f q₀ k Z M O))
    (λ z. q-floor f q₀ k Z M O) (q-le f q₀ k Z M O))

-- ---- a subnormal number, and a normal one: the fields that `root_of` gives, put together in 64 bits
word : (f : Format) → 2 * top f ≤ 2 ^ 64
word binary32 = lit≤ tt
word binary64 = lit≤ tt

-- d is q₀ shifted up by s, and d * 2 ^ t is the number whose root `root_of` takes
module _ (f : Format) (b E D q₀ k d s t : ℕ) (up : d ≡ q₀ * 2 ^ s) (sums : s + t ≡ k + low f) (R : (E ≡ suc (root_drop (prec f) (d * 2 ^ t))) × (D ≡ root_digits (prec f) (d * 2 ^ t))) where
  moved : d * 2 ^ t ≡ q₀ * 2 ^ (k + low f)
  moved = ap (λ (x : ℕ). x * 2 ^ t) up ∙ pow-join q₀ s t ∙ ap (λ (x : ℕ). q₀ * 2 ^ x) sums

  packed : suc (root_drop (prec f) (q₀ * 2 ^ (k + low f))) * hid f + root_digits (prec f) (q₀ * 2 ^ (k + low f)) ≡ rooted f b → Packed f b E D
  packed r =
      let z : E * hid f + D ≡ rooted f b =
      ap₂ (λ (x y : ℕ). x * hid f + y) (R.0 ∙ ap (λ (a : ℕ). suc (root_drop (prec f) a)) moved) (R.1 ∙ ap (root_digits (prec f)) moved) ∙ r in
      let lt : E * hid f + D < 2 * top f = lt_of_le_of_lt (le_of_eq z) (to_bits-lt f (sqrt_of f (of_bits f b)) (sqrt-fits f (of_bits f b) (of_bits-fits f b))) in
      let same : E * hid f % 2 ^ 64 ≡ E * hid f = mod-eq_of_lt (lt_of_le_of_lt (le-add_right (E * hid f) D) (lt_of_lt_of_le lt (word f))) in
      (ap (λ (x : ℕ). x + D) same ∙ z, lt_of_le_of_lt (le_of_eq (ap (λ (x : ℕ). x + D) same)) lt)

pub low-packed : (f : Format) (b E D d s t : ℕ) → d ≡ b % hid f * 2 ^ s → s + t ≡ low f
    → (E ≡ suc (root_drop (prec f) (d * 2 ^ t))) × (D ≡ root_digits (prec f) (d * 2 ^ t)) → 0 < b → b / hid f ≡ 0 → Packed f b E D
low-packed f b E D d s t u e R p z =
    let l : b < hid f = lt_of_lt_of_le ((div-lt_iff_lt-mul (pow_pos (prec f - 1))).0 (le_of_eq (ap suc z))) (le_of_eq (one-mul (hid f))) in
    let M : b < 2 ^ prec f = lt_of_lt_of_le l (pow_mono (sub-le (prec f) 1)) in
    packed f b E D b 0 d s t (u ∙ ap (λ (x : ℕ). x * 2 ^ s) (mod-eq_of_lt l)) (e ∙ sym (zero-add (low f))) R
    (root-bits f b 0 p M (lt_of_lt_of_le (lt_of_le_of_lt (le_of_eq (mul-one b)) M)
    (pow_mono (le_trans (reach f) (le-add_left (suc (emax f)) (low f))))) (of_bits f b) (low_value f b l))

pub normal-packed : (f : Format) (b E D d s t : ℕ) → d ≡ (hid f + b % hid f) * 2 ^ s → s + t ≡ b / hid f - 1 + low f
    → (E ≡ suc (root_drop (prec f) (d * 2 ^ t))) × (D ≡ root_digits (prec f) (d * 2 ^ t)) → b < top f → (b / hid f ≡ 0 → ⊥) → b / hid f < ones f
    → Packed f b E D
normal-packed f b E D d s t u e R h z o =
    let j = b / hid f - 1 in
    let F : b / hid f ≡ suc j = field (b / hid f) z in
    let O : suc j < ones f = lt_of_le_of_lt (le_of_eq (sym F)) o in
    packed f b E D (hid f + b % hid f) j d s t u e R
    (root-bits f (hid f + b % hid f) j (lt_of_lt_of_le (pow_pos (prec f - 1)) (le-add_right (hid f) (b % hid f))) (with_lead f b)
    (lt_of_lt_of_le (shl_lt (prec f) j (with_lead f b)) (pow_mono (spread (prec f) (emax f) (low f) refl (two f) j O))) (of_bits f b)
    (normal-value f b j h F O))
  where
    field : (x : ℕ) → (x ≡ 0 → ⊥) → x ≡ suc (x - 1)
    field x n = omega arith

    spread : (p e l : ℕ) → l ≡ e + p - 2 → 2 ≤ p → (x : ℕ) → suc x < 2 * e + 1 → p + x ≤ l + suc e
    spread p e l i g x k = omega arith
