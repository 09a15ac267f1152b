-- Within the limits the score is a number from 0 to 1. A NaN would pass through the clamp, so what counts is that none arises: squares, their sums, the mean, its root and
-- its rounding to f32 are `plain` (no NaN, no minus sign), and the expected distance is finite and above zero. Assumes nothing.
use mathlib.Core.Path.{◌≡◌, refl, sym, ◌∙◌}
use mathlib.Core.Bool.{Bool, true, false, cond, true≢false}
use mathlib.Core.List.{List}
use Prim.Native.Nat.{ℕ, zero, suc, ◌+◌, ◌-◌, ◌*◌, ◌/◌, ◌^◌, ◌≤◌, ◌<◌}
use native.Mathlib.Nat.{zero-lt-suc, mul-le-mul}
use native.Mathlib.Omega.{arith}
use lib.IntN.{ℤ, pos}
use lib.Dec.{T, ltb, lt→ltb, lit≤}
use lib.Ieee.{Float, nan, inf, fin, binary32, binary64, up, down, add, mul, div, lt, le, eq, of_int, of_bits}
use lib.Ieee.Bits.{is_true}
use lib.Ieee.Fits.{div-fits}
use lib.Ieee.Positive.{positive, positive_of_value}
use lib.Ieee.Scale.{finite}
use borrow.Author.Tests.{ltb-false, le-ltb}
use Rattle.base.specs.Limits.{max_copies}
use Rattle.floats.specs.Root.{sqrt_of}
use Rattle.floats.proofs.Bounds.{exact-pow}
use Rattle.floats.proofs.Signs.{plain}
use Rattle.floats.proofs.Monotone.{square-plain}
use Rattle.floats.proofs.Quotients.{within-finite, div-within}
use Rattle.floats.proofs.Signed.{to-test}
use Rattle.cell.specs.declared.Vec3.{Vec3}
use Rattle.cell.specs.Cell.{epsilon, extent_of, squared, min_image, minus, distance2, point_at}
use Rattle.base.specs.Refusals.{first_refusal}
use Rattle.cell.proofs.Finite.{Sides, Around, squared-within, image-around, minus-around}
use Rattle.frame_limits.proofs.FiniteFrame.{limited}
use Rattle.pick_lists.specs.Sound.{copies, pick_list}
use Rattle.pick_lists.specs.Input.{Input, input_refusals}
use Rattle.pick_lists.proofs.SoundLists.{sound-lists}
use Rattle.pick_lists.proofs.InputRefusals.{input-accepted}
use Rattle.centers.specs.Centers.{center_of, centers_of}
use Rattle.dispersion.specs.Dispersion.{clamped, expected_of, row_sum, pair_sum, observed_of, score_of, dispersion_of}
use Rattle.centers.proofs.CenterList.{center-at}
use Rattle.centers.proofs.FiniteCenters.{count-value, center-around}
use Rattle.dispersion.proofs.PlainValues.{add-plain, div-plain, sqrt-plain, sqrt-finite, narrow-plain}
use Rattle.dispersion.proofs.ScoreList.{few-pairs}

pub record Scored (s : Float) : Type 0 where
  pub number : finite s ≡ true
  pub low : le (of_bits binary32 0) s ≡ true
  pub high : le s (of_bits binary32 0x3f80_0000) ≡ true

-- ---- the clamp of what is plain
scored-zero : Scored (of_bits binary32 0)
unfolding of_bits le lt eq
scored-zero = record { number = refl; low = refl; high = refl }

scored-one : Scored (of_bits binary32 0x3f80_0000)
unfolding of_bits le lt eq
scored-one = record { number = refl; low = refl; high = refl }

-- what is finite, with no minus sign, and not above 1
scored-rest : (m : ℕ) (e : ℤ) (b : Bool) → lt (of_bits binary32 0x3f80_0000) (fin false m e) ≡ b → Scored (cond b (of_bits binary32 0x3f80_0000) (fin false m e))
unfolding of_bits lt le eq
scored-rest m e true h = scored-one
scored-rest m e false h =
    record {
      number = refl;
      low = is_true (le (fin false 0 (pos 0)) (fin false m e)) (to-test false (0 * down e) false (m * up e * 1) (none (down e) (m * up e * 1)));
      high = is_true (le (fin false m e) (fin false 1 (pos 0))) (to-test false (m * up e * 1) false (1 * down e) (some (1 * down e) (m * up e * 1) (ltb-false (1 * down e) (m * up e * 1) h)));
    }
  where
    none : (a b : ℕ) → 0 * a + 0 ≤ b + 0
    none a b = omega arith

    some : (a b : ℕ) → b ≤ a → b + 0 ≤ a + 0
    some a b g = omega arith

pub scored-clamp : (x : Float) → T (plain x) → Scored (clamped x)
unfolding clamped of_bits lt
scored-clamp nan p = absurd p
scored-clamp (inf true) p = absurd p
scored-clamp (inf false) p = scored-one
scored-clamp (fin true m e) p = absurd p
scored-clamp (fin false m e) p =
    let least : lt (fin false m e) (fin false 0 (pos 0)) ≡ false = le-ltb (m * up e * 1) (0 * down e) (none (down e) (m * up e * 1)) in
    rw least (scored-rest m e (lt (fin false 1 (pos 0)) (fin false m e)) refl)
  where
    none : (a b : ℕ) → 0 * a ≤ b
    none a b = omega arith

-- the pairs of two centers or more
pairs-positive : (n : ℕ) → 2 ≤ n → n ≤ max_copies → T (positive (of_int binary64 (pos (n * (n - 1) / 2))))
pairs-positive n some few =
    let one : 1 ≤ n - 1 = omega arith in
    let m = n * (n - 1) / 2 in
    let least : 2 ≤ n * (n - 1) = mul-le-mul some one in
    positive_of_value (of_int binary64 (pos m)) m 1 (count-value binary64 m (omega (arith, few-pairs n few))) (omega arith)

-- ---- the distances and their sums
squares : (x y z : Float) → T (finite x) → T (finite y) → T (finite z) → T (plain (add binary32 (add binary32 (mul binary32 x x) (mul binary32 y y)) (mul binary32 z z)))
squares x y z p q r =
    add-plain binary32 (add binary32 (mul binary32 x x) (mul binary32 y y)) (mul binary32 z z)
    (add-plain binary32 (mul binary32 x x) (mul binary32 y y) (square-plain binary32 x p) (square-plain binary32 y q))
    (square-plain binary32 z r)

distance-plain : (e p q : Vec3) → Sides e → Around 49 p → Around 49 q → T (plain (distance2 e p q))
unfolding distance2 squared
distance-plain e p q s a b =
    let d = min_image e (minus q p) in
    let im = image-around 50 e (minus q p) (lit≤ tt) (lit≤ tt) s (minus-around 49 p q (lit≤ tt) a b) in
    squares d.x d.y d.z (within-finite (2 ^ 53) d.x im.on-x) (within-finite (2 ^ 53) d.y im.on-y) (within-finite (2 ^ 53) d.z im.on-z)

module _ (e : Vec3) (cs : List Float) (n : ℕ) (f : (i j : ℕ) → i < n → j < n → T (plain (distance2 e (point_at cs i) (point_at cs j)))) where
  row_plain : (i k j : ℕ) (s : Float) → i < n → j + k ≤ n → T (plain s) → T (plain (row_sum e cs i k j s))
  unfolding row_sum
  row_plain i zero j s h g p = p
  row_plain i (suc k) j s h g p = row_plain i k (j + 1) (add binary64 s (distance2 e (point_at cs i) (point_at cs j))) h (omega arith) (add-plain binary64 s (distance2 e (point_at cs i) (point_at cs j)) p (f i j h (omega arith)))

  pair-plain : (k i : ℕ) (s : Float) → i + k ≤ n → T (plain s) → T (plain (pair_sum e cs n k i s))
  unfolding pair_sum
  pair-plain zero i s h p = p
  pair-plain (suc k) i s h p = pair-plain k (i + 1) (row_sum e cs i (n - (i + 1)) (i + 1) s) (omega arith) (row_plain i (n - (i + 1)) (i + 1) s (omega arith) (omega arith) p)

  observed-plain : 2 ≤ n → n ≤ max_copies → T (plain (observed_of e cs n))
  unfolding observed_of of_bits
  observed-plain some few =
      let sum = pair_sum e cs n n 0 (of_bits binary64 0) in
      let count = of_int binary64 (pos (n * (n - 1) / 2)) in
      narrow-plain binary32 (sqrt_of binary64 (div binary64 sum count)) (sqrt-plain binary64 (div binary64 sum count) (div-plain binary64 sum count (pair-plain n 0 (of_bits binary64 0) (omega arith) tt) (pairs-positive n some few)))

-- ---- the expected distance
expected-finite : (e : Vec3) → Sides e → T (finite (expected_of e)) × T (plain (expected_of e))
unfolding expected_of squared of_bits
expected-finite e s =
    let a : Around 17 e = record { on-x = s.on-x.within; on-y = s.on-y.within; on-z = s.on-z.within } in
    let twelve = of_bits binary32 0x4140_0000 in
    let mean = div binary32 (squared e) twelve in
    let number = within-finite (2 ^ 36) mean (div-within binary32 (squared e) twelve (2 ^ 36) 0 (exact-pow binary32 36 (lit≤ tt)) (squared-within 17 e (lit≤ tt) a) (lit≤ tt)) in
    let sum = squares e.x e.y e.z (within-finite (2 ^ 17) e.x a.on-x) (within-finite (2 ^ 17) e.y a.on-y) (within-finite (2 ^ 17) e.z a.on-z) in
    let unsigned = div-plain binary32 (squared e) twelve sum tt in
    (sqrt-finite binary32 mean (div-fits binary32 (squared e) twelve) number unsigned, sqrt-plain binary32 mean unsigned)

above-positive : (y : Float) → T (finite y) → T (plain y) → le y epsilon ≡ false → T (positive y)
unfolding of_bits le lt eq
above-positive nan p q h = absurd p
above-positive (inf s) p q h = absurd p
above-positive (fin true m e) p q h = absurd q
above-positive (fin false (suc m) e) p q h = lt→ltb 0 (suc m) (zero-lt-suc m)
above-positive (fin false zero e) p q h = absurd (true≢false (sym (is_true (le (fin false 0 e) epsilon) (to-test false (0 * up e * 2 ^ 23) false (1 * down e) (none (up e) (1 * down e)))) ∙ h))
  where
    none : (a b : ℕ) → 0 * a * 2 ^ 23 + 0 ≤ b + 0
    none a b = omega arith

-- ---- the score
pub score-scored : (e : Vec3) (cs : List Float) (n : ℕ) → n ≤ max_copies → Sides e → ((i j : ℕ) → i < n → j < n → T (plain (distance2 e (point_at cs i) (point_at cs j)))) → Scored (score_of e cs n)
unfolding score_of
score-scored e cs n few s f = by_count (ltb n 2) refl
  where
    ratio : Float
    ratio = div binary32 (observed_of e cs n) (expected_of e)

    by-expected : 2 ≤ n → (b : Bool) → le (expected_of e) epsilon ≡ b → Scored (cond b (of_bits binary32 0) (clamped ratio))
    by-expected some true h = scored-zero
    by-expected some false h =
        let x = expected-finite e s in
        scored-clamp ratio (div-plain binary32 (observed_of e cs n) (expected_of e) (observed-plain e cs n f some few) (above-positive (expected_of e) x.0 x.1 h))

    by_count : (b : Bool) → ltb n 2 ≡ b → Scored (cond b (of_bits binary32 0x3f80_0000) (cond (le (expected_of e) epsilon) (of_bits binary32 0) (clamped ratio)))
    by_count true h = scored-one
    by_count false h = by-expected (ltb-false n 2 h) (le (expected_of e) epsilon) refl

pub dispersion-scored : (f : Input) → first_refusal (input_refusals f) ≡ 0 → Scored (dispersion_of f)
unfolding dispersion_of
dispersion-scored f h =
    let ok = input-accepted f h in
    let s = (limited f.cell f.solutes f.waters ok.0).sides in
    score-scored (extent_of f.cell) (centers_of f) (copies f.starts) (sound-lists f.solutes f.starts f.picks ok.1).few s
    (λ i j a b.
    rw (center-at f i a, center-at f j b)
    (distance-plain (extent_of f.cell) (center_of f.cell f.solutes (pick_list f.starts f.picks i)) (center_of f.cell f.solutes (pick_list f.starts f.picks j)) s (center-around f h i a) (center-around f h j b)))
