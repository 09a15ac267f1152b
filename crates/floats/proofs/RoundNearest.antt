-- lib.Ieee's `round` is IEEE 754's roundTiesToEven, overflow included, in any format and for any fraction a / c (`round-nearest`), and no other value
-- is (`nearest-round`). Every operation is `round` of its exact result. The proof is `NearestGrid`'s, in units of the format's smallest value.
-- Assumes nothing.
use mathlib.Core.Path.{◌≡◌, refl, sym, ap, ◌∙◌, subst}
use mathlib.Core.Logic.{◌⊎◌, inl, inr}
use Prim.Native.Nat.{ℕ, suc, ◌+◌, ◌-◌, ◌*◌, ◌/◌, ◌%◌, ◌^◌, ◌≤◌, ◌<◌, compare}
use native.Mathlib.Nat.{le_trans, le_antisymm, le_of_eq, le_of_lt, lt_of_lt_of_le, lt_of_not-le, lt_irrefl, zero-lt-suc, eq-zero-or-pos, le-add_right, zero-mul, mul-pos, mul-le-mul_left, mul-le-mul_right, mul-lt-mul_of_pos_left, mul-lt-mul_of_pos_right, le_of_mul-le-mul_right, pow-succ', div-div-eq-div-mul}
use native.Mathlib.Omega.{arith}
use native.Mathlib.Decide.{dec_le, ℕ_discrete}
use mathlib.Core.Bool.{Bool, true, false}
use lib.Dec.{T}
use lib.Pow.{pow-add, pow_pos}
use lib.Ieee.{Float, inf, Format, prec, emax, low, round, fits, of_bits, to_bits}
use lib.Ieee.Fits.{round-fits, kept-lt, nearest-le, round_is, two, two-le_pos}
use lib.Ieee.Bits.{of_bits-to_bits}
use lib.Ieee.Exact.{units_val, HasValue}
use lib.Ieee.Order.{drop, kept, transfer}
use lib.Ieee.Scale.{finite, grid, overflow}
use lib.Ieee.Positive.{num, den, den_pos}
use Rattle.floats.specs.Standard.{gain, loss, sign, gap}
use Rattle.floats.proofs.Differences.{apart, apart-units}
use Rattle.floats.proofs.NearestGrid.{grid-near, grid-even, grid-odd, grid-small, kept_full, grid-large}
use Rattle.floats.proofs.Signs.{value-finite, value-parts}
use Rattle.floats.proofs.Held.{prec-le, InUnits, on-grid}
use Rattle.floats.proofs.SameValue.{same_units}
use Rattle.floats.proofs.Packing.{last_bit, units-inf}

-- ---- the statement: y is the format's value nearest to a / c with the sign s. `IsNearest f x y` is this at x's own sign and fraction.
-- the distance from y is far s a c y / (c * den y)
abbrev pub far : Bool → ℕ → ℕ → Float → ℕ
far s a c y = gap (gain s a * den y + loss (sign y) (num y) * c) (gain (sign y) (num y) * c + loss s a * den y)

-- 2 ^ emax * (2 - 2 ^ -prec), from which on a number goes to infinity
abbrev pub limit : Format → ℕ
limit f = (2 ^ suc (prec f) - 1) * 2 ^ (emax f - prec f)

pub record Nearest (f : Format) (s : Bool) (a c : ℕ) (y : Float) : Type 0 where
  pub held : T (fits f y)
  pub signed : sign y ≡ s
  pub large : limit f * c ≤ a → y ≡ inf s
  pub number : a < limit f * c → T (finite y)
  pub nearest : T (finite y) → (z : Float) → T (fits f z) → T (finite z) → far s a c y * den z ≤ far s a c z * den y
  pub even : T (finite y) → (z : Float) → T (fits f z) → T (finite z) → (z ≡ y → ⊥) → far s a c y * den z ≡ far s a c z * den y
      → to_bits f y % 2 ≡ 0

-- ---- the result y is N = q * 2 ^ k units, and n units are asked for
module _ (f : Format) (s : Bool) (a c : ℕ) (C : 0 < c) where
  abbrev p : ℕ
  p = prec f

  abbrev L : ℕ
  L = 2 ^ low f

  abbrev n : ℕ
  n = a * L

  abbrev k : ℕ
  k = drop p n c

  abbrev q : ℕ
  q = kept p n c

  abbrev N : ℕ
  N = grid f a c

  abbrev y : Float
  y = round f s a c

  p-pos : 0 < p
  p-pos = two-le_pos p (two f)

  y-value : N < overflow f → HasValue y s N L
  y-value h = subst (λ (z : Float). HasValue z s N L) (sym (round_is f s a c)) (units_val f s q k h)

  y-inf : overflow f ≤ N → y ≡ inf s
  y-inf h = round_is f s a c ∙ units-inf f s q k h

  q-le : q ≤ 2 ^ p
  q-le =
      le_trans (nearest-le (n / (c * 2 ^ k)) (compare (n % (c * 2 ^ k) * 2) (c * 2 ^ k)))
      (subst (λ (x : ℕ). x < 2 ^ p) (div-div-eq-div-mul n c (2 ^ k)) (kept-lt p (n / c)))

  -- ---- with signs, in units: no number of p digits is nearer to n, and where another is as near, q is even
  -- zero is such a number, so a number with the other sign is further
  zero-far : gap n (0 * 2 ^ 0 * c) ≡ n
  zero-far = ap (λ (x : ℕ). gap n (x * c)) (zero-mul 1) ∙ ap (gap n) (zero-mul c) ∙ from n
    where
      from : (x : ℕ) → gap x 0 ≡ x
      from x = omega arith

  within : gap n (N * c) ≤ n
  within = le_trans (grid-near p n c p-pos C 0 0 (pow_pos p)) (le_of_eq zero-far)

  units-near : (t : Bool) (d j : ℕ) → d < 2 ^ p → apart s n s (N * c) ≤ apart s n t (d * 2 ^ j * c)
  units-near t d j h = go s t
    where
      go : (s t : Bool) → apart s n s (N * c) ≤ apart s n t (d * 2 ^ j * c)
      go false false = grid-near p n c p-pos C d j h
      go true true = grid-near p n c p-pos C d j h
      go false true = le_trans within (le-add_right n (d * 2 ^ j * c))
      go true false = le_trans within (le-add_right n (d * 2 ^ j * c))

  zero-even : gap n (N * c) ≡ n → q % 2 ≡ 0
  zero-even e = go (eq-zero-or-pos q)
    where
      go : (q ≡ 0) ⊎ (0 < q) → q % 2 ≡ 0
      go (inl z) = ap (λ (x : ℕ). x % 2) z
      go (inr l) =
          grid-even p n c p-pos C 0 0 (pow_pos p) (λ (z : 0 * 2 ^ 0 ≡ N). lt_irrefl 0
          (subst (λ (x : ℕ). 0 < x) (sym z ∙ zero-mul 1) (mul-pos l (pow_pos k)))) (e ∙ sym zero-far)

  units-even : (t : Bool) (d j : ℕ) → d < 2 ^ p → (s ≡ t → d * 2 ^ j ≡ N → ⊥) → apart s n s (N * c) ≡ apart s n t (d * 2 ^ j * c) → q % 2 ≡ 0
  units-even t d j h = go s t
    where
      all_of : (x g z : ℕ) → g ≤ x → g ≡ x + z → g ≡ x
      all_of x g z l e = omega arith

      go : (s t : Bool) → (s ≡ t → d * 2 ^ j ≡ N → ⊥) → apart s n s (N * c) ≡ apart s n t (d * 2 ^ j * c) → q % 2 ≡ 0
      go false false o e = grid-even p n c p-pos C d j h (o refl) e
      go true true o e = grid-even p n c p-pos C d j h (o refl) e
      go false true o e = zero-even (all_of n (gap n (N * c)) (d * 2 ^ j * c) within e)
      go true false o e = zero-even (all_of n (gap n (N * c)) (d * 2 ^ j * c) within e)

  -- ---- the limit in units
  abbrev t : ℕ
  t = emax f - p + suc (low f)

  limit-at : (2 ^ suc p - 1) * 2 ^ t * c ≡ 2 * (limit f * c * L)
  limit-at =
      let M = 2 ^ suc p - 1 in
      let E = 2 ^ (emax f - p) in
      ap (λ (x : ℕ). M * x * c) (pow-add 2 (emax f - p) (suc (low f)) ∙ ap (λ (x : ℕ). E * x) (pow-succ' 2 (low f))) ∙ turned M E L
    where
      turned : (M E K : ℕ) → M * (E * (2 * K)) * c ≡ 2 * (M * E * c * K)
      turned M E K = omega arith

  overflow-at : 2 ^ (p + t) ≡ overflow f
  overflow-at = ap (λ (x : ℕ). 2 ^ x) (sums p (emax f) (low f) (prec-le f))
    where
      sums : (x e l : ℕ) → x ≤ e → x + (e - x + suc l) ≡ l + suc e
      sums x e l h = omega arith

  small : a < limit f * c → N < overflow f
  small h =
      lt_of_lt_of_le
      (grid-small p n c p-pos C t (lt_of_lt_of_le (mul-lt-mul_of_pos_left (mul-lt-mul_of_pos_right h (pow_pos (low f))) (zero-lt-suc 1))
      (le_of_eq (sym limit-at))))
      (le_of_eq overflow-at)

  over : limit f * c ≤ a → overflow f ≤ N
  over h =
      le_trans (le_of_eq (sym overflow-at)) (grid-large p n c p-pos C t (le_trans (le_of_eq limit-at) (mul-le-mul_left 2 (mul-le-mul_right L h))))

  -- a finite result is below the overflow
  under : T (finite y) → N < overflow f
  under h = go (dec_le (overflow f) N)
    where
      go : Dec (overflow f ≤ N) → N < overflow f
      go (yes l) = absurd (subst (λ (z : Float). T (finite z)) (y-inf l) h)
      go (no l) = lt_of_not-le l

  y-finite : N < overflow f → T (finite y)
  y-finite h = value-finite y s N L (y-value h)

  y-sign : sign y ≡ s
  y-sign = go (dec_le (overflow f) N)
    where
      go : Dec (overflow f ≤ N) → sign y ≡ s
      go (yes l) = ap sign (y-inf l)
      go (no l) = (value-parts y s N L (y-value (lt_of_not-le l))).0

  y-units : T (finite y) → InUnits f y N
  y-units h = (value-parts y s N L (y-value (under h))).1

  y-far : T (finite y) → far s a c y * L ≡ apart s n s (N * c) * den y
  y-far h = apart-units s (sign y) a c L (num y) (den y) N (y-units h) ∙ ap (λ (r : Bool). apart s n r (N * c) * den y) y-sign

  -- ---- in fractions
  round-near : T (finite y) → (z : Float) → T (fits f z) → T (finite z) → far s a c y * den z ≤ far s a c z * den y
  round-near h z u v =
      let g = on-grid f z u v in
      let G = g.0 * 2 ^ g.1 in
      transfer (far s a c y) (far s a c z) (den y) (den z) (apart s n s (N * c)) (apart s n (sign z) (G * c)) L L (pow_pos (low f)) (pow_pos (low f))
      (y-far h)
      (apart-units s (sign z) a c L (num z) (den z) G g.3) (mul-le-mul_right L (units-near (sign z) g.0 g.1 g.2))

  units-as-far : T (finite y) → (z : Float) (G : ℕ) → InUnits f z G → far s a c y * den z ≡ far s a c z * den y
      → apart s n s (N * c) ≡ apart s n (sign z) (G * c)
  units-as-far h z G g e =
      let Y = apart s n s (N * c) in
      let Z = apart s n (sign z) (G * c) in
      let w : far s a c z * L ≡ Z * den z = apart-units s (sign z) a c L (num z) (den z) G g in
      le_antisymm
      (le_of_mul-le-mul_right (transfer Y Z L L (far s a c y) (far s a c z) (den y) (den z) (den_pos y) (den_pos z) (sym (y-far h)) (sym w)
      (le_of_eq e)) (pow_pos (low f)))
      (le_of_mul-le-mul_right (transfer Z Y L L (far s a c z) (far s a c y) (den z) (den y) (den_pos z) (den_pos y) (sym w) (sym (y-far h))
      (le_of_eq (sym e))) (pow_pos (low f)))

  -- the units say which value it is
  is_y : T (finite y) → (z : Float) (G : ℕ) → T (fits f z) → T (finite z) → s ≡ sign z → InUnits f z G → G ≡ N → z ≡ y
  is_y h z G u v r g i = same_units f z y N u (round-fits f s a c) v h (sym r ∙ sym y-sign) (subst (λ (x : ℕ). InUnits f z x) i g) (y-units h)

  round-even : T (finite y) → (z : Float) → T (fits f z) → T (finite z) → (z ≡ y → ⊥) → far s a c y * den z ≡ far s a c z * den y
      → to_bits f y % 2 ≡ 0
  round-even h z u v other e =
      let g = on-grid f z u v in
      let G = g.0 * 2 ^ g.1 in
      last_bit f y q k h (y-units h) (kept_full p n c p-pos C) q-le
      ∙ units-even (sign z) g.0 g.1 g.2 (λ r i. other (is_y h z G u v r g.3 i)) (units-as-far h z G g.3 e)

  pub round-nearest : Nearest f s a c (round f s a c)
  round-nearest = record {
    held = round-fits f s a c;
    signed = y-sign;
    large = λ h. y-inf (over h);
    number = λ h. y-finite (small h);
    nearest = round-near;
    even = round-even;
  }

  -- ---- no other value is nearest: the other one of a tie has an odd pattern
  tie-odd : T (finite y) → (z : Float) → T (fits f z) → T (finite z) → sign z ≡ s → (z ≡ y → ⊥) → far s a c y * den z ≡ far s a c z * den y
      → to_bits f z % 2 ≡ 1
  tie-odd h z u v r other e =
      let g = on-grid f z u v in
      let G = g.0 * 2 ^ g.1 in
      let as-far : apart s n s (N * c) ≡ apart s n s (G * c) = units-as-far h z G g.3 e ∙ ap (λ (w : Bool). apart s n w (G * c)) r in
      let o = grid-odd p n c p-pos C g.0 g.1 g.2 (λ i. other (is_y h z G u v (sym r) g.3 i)) (beside s (N * c) (G * c) as-far) in
      last_bit f z o.b k v (subst (λ (x : ℕ). InUnits f z x) o.is g.3) o.long (le_of_lt o.short) ∙ o.odd
    where
      beside : (w : Bool) (x x' : ℕ) → apart w n w x ≡ apart w n w x' → gap n x ≡ gap n x'
      beside false x x' i = i
      beside true x x' i = i

  pub nearest-round : (z : Float) → Nearest f s a c z → z ≡ round f s a c
  nearest-round z h = go (dec_le (limit f * c) a)
    where
      not-other : T (finite y) → T (finite z) → (z ≡ y → ⊥) → ⊥
      not-other l m other =
          let e : far s a c y * den z ≡ far s a c z * den y = le_antisymm (round-near l z h.held m) (h.nearest m y (round-fits f s a c) l) in
          omega (arith, h.even m y (round-fits f s a c) l (λ i. other (sym i)) (sym e), tie-odd l z h.held m h.signed other e)

      at : T (finite y) → T (finite z) → Dec (to_bits f z ≡ to_bits f y) → z ≡ y
      at l m (yes e) = sym (of_bits-to_bits f z h.held) ∙ ap (of_bits f) e ∙ of_bits-to_bits f y (round-fits f s a c)
      at l m (no o) = absurd (not-other l m (λ i. o (ap (to_bits f) i)))

      go : Dec (limit f * c ≤ a) → z ≡ y
      go (yes l) = h.large l ∙ sym (y-inf (over l))
      go (no l) = at (y-finite (small (lt_of_not-le l))) (h.number (lt_of_not-le l)) (ℕ_discrete (to_bits f z) (to_bits f y))
