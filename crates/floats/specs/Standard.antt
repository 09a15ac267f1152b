-- IEEE 754's own words for floor, round, conversion and the square root, as relations between an argument x and a result y of a
-- format f: what each gives for the numbers in its domain (`IsFloor` ..), its special values, and both together, for every float
-- (`FloorsTo` ..). `MeetsStandard`, at the end, is the one claim that ties the definitions of this folder to them.
-- A float's size is the fraction `num` / `den`; there are no real numbers here, so distances and means are compared
-- after multiplying out. Definitions only. Assumes nothing.
use Rattle.std.specs.Prelude.{ℕ, zero, suc, ◌+◌, ◌-◌, ◌*◌, ◌%◌, ◌^◌, ◌≤◌, ◌<◌, ◌≡◌, ◌↔◌, ◌⊎◌, Bool, true, false, not, pos, T, leb, Float}
use Rattle.std.specs.Float.{nan, inf, fin, Format, binary32, binary64}
use Rattle.std.specs.Float.Ieee.{prec, emax, fits, to_bits, lt, le, eq}
use Rattle.std.specs.Float.Ieee.Scale.{finite}
use Rattle.std.specs.Float.Ieee.Positive.{num, den, positive}
use Rattle.floats.specs.Whole.{floor_of, round_of}
use Rattle.floats.specs.Convert.{narrow_of}
use Rattle.floats.specs.Root.{sqrt_of}

abbrev pub sign : Float → Bool
sign nan = false
sign (inf s) = s
sign (fin s m e) = s

-- a number with a sign is a difference, gain less loss, one of which is 0
abbrev pub gain : Bool → ℕ → ℕ
gain false a = a
gain true a = 0

abbrev pub loss : Bool → ℕ → ℕ
loss false a = 0
loss true a = a

-- |a - b|
abbrev pub gap : ℕ → ℕ → ℕ
gap a b = a - b + (b - a)

-- |x - y| is distance x y / (den x * den y)
abbrev pub distance : Float → Float → ℕ
distance x y = gap (gain (sign x) (num x) * den y + loss (sign y) (num y) * den x) (gain (sign y) (num y) * den x + loss (sign x) (num x) * den y)

-- y is no further from x than z is, and y and z are equally far
abbrev pub NoFurther : Float → Float → Float → Type 0
NoFurther x y z = distance x y * den z ≤ distance x z * den y

abbrev pub AsFar : Float → Float → Float → Type 0
AsFar x y z = distance x y * den z ≡ distance x z * den y

-- the whole numbers, of every size: k with a sign
abbrev pub whole : Bool → ℕ → Float
whole s k = fin s k (pos 0)

pub record IsWhole (y : Float) : Type 0 where
  pub minus : Bool
  pub size : ℕ
  pub is : T (eq y (whole minus size))

-- ---- numbers
-- roundToIntegralTowardNegative, of a finite x: the largest whole number that is not above x; a zero has the sign of x
pub record IsFloor (f : Format) (x y : Float) : Type 0 where
  pub domain : T (finite x)
  pub held : T (fits f y)
  pub signed : sign y ≡ sign x
  pub is_whole : IsWhole y
  pub not-above : T (le y x)
  pub largest : (s : Bool) (k : ℕ) → T (le (whole s k) x) → T (le (whole s k) y)

-- roundToIntegralTiesToAway, of a finite x: the nearest whole number, and of two the one further from zero; a zero has the sign of x
pub record IsRound (f : Format) (x y : Float) : Type 0 where
  pub domain : T (finite x)
  pub held : T (fits f y)
  pub signed : sign y ≡ sign x
  pub is_whole : IsWhole y
  pub nearest : (s : Bool) (k : ℕ) → NoFurther x y (whole s k)
  pub away : (s : Bool) (k : ℕ) → AsFar x y (whole s k) → k * den y ≤ num y

-- from 2 ^ emax * (2 - 2 ^ -prec) on, a number goes to infinity
abbrev pub overflows : Format → Float → Bool
overflows f x = leb ((2 ^ suc (prec f) - 1) * 2 ^ (emax f - prec f) * den x) (num x)

-- roundTiesToEven, of a finite x: the nearest value of the format, and of two the one whose last digit, the last bit of its pattern, is 0;
-- a zero has the sign of x
pub record IsNearest (f : Format) (x y : Float) : Type 0 where
  pub domain : T (finite x)
  pub held : T (fits f y)
  pub signed : sign y ≡ sign x
  pub large : T (overflows f x) → y ≡ inf (sign x)
  pub number : T (not (overflows f x)) → T (finite y)
  pub nearest : T (finite y) → (z : Float) → T (fits f z) → T (finite z) → NoFurther x y z
  pub even : T (finite y) → (z : Float) → T (fits f z) → T (finite z) → (z ≡ y → ⊥) → AsFar x y z → to_bits f y % 2 ≡ 0

-- finite, with no minus sign: a number from 0 up
abbrev pub unsigned : Float → Bool
unsigned nan = false
unsigned (inf s) = false
unsigned (fin true m e) = false
unsigned (fin false m e) = true

-- y + z is cross_sum y z / (den y * den z)
abbrev pub cross_sum : Float → Float → ℕ
cross_sum y z = num y * den z + num z * den y

-- squareRoot, of a finite x above zero: the value of the format nearest to the exact root of x. The root is nearer to y than to a z above y
-- exactly where it is below their mean, which is 4 * x < (y + z) ^ 2; and for a z below y, where (y + z) ^ 2 < 4 * x.
-- Both are strict, so no other value is as near.
pub record IsRoot (f : Format) (x y : Float) : Type 0 where
  pub domain : T (positive x)
  pub held : T (fits f y)
  pub above_zero : T (positive y)
  pub above : (z : Float) → T (fits f z) → T (unsigned z) → T (lt y z) → 4 * num x * (den y * den z * (den y * den z)) < cross_sum y z * cross_sum y z * den x
  pub below : (z : Float) → T (fits f z) → T (unsigned z) → T (lt z y) → cross_sum y z * cross_sum y z * den x < 4 * num x * (den y * den z * (den y * den z))

-- ---- special values
-- of floor, round and conversion: a NaN gives NaN, and an infinity stays
abbrev pub Stays : Float → Float → Type 0
Stays nan y = y ≡ nan
Stays (inf s) y = y ≡ inf s
Stays (fin s m e) y = ⊥

-- of squareRoot: a NaN gives NaN, +infinity stays, each of the two zeros stays, and all that is below zero gives NaN
abbrev pub SpecialRoot : Float → Float → Type 0
SpecialRoot nan y = y ≡ nan
SpecialRoot (inf false) y = y ≡ inf false
SpecialRoot (inf true) y = y ≡ nan
SpecialRoot (fin s zero e) y = y ≡ fin s zero e
SpecialRoot (fin true (suc m) e) y = y ≡ nan
SpecialRoot (fin false (suc m) e) y = ⊥

-- ---- every float: exactly one of the two cases applies to an x
abbrev pub FloorsTo : Format → Float → Float → Type 0
FloorsTo f x y = IsFloor f x y ⊎ Stays x y

abbrev pub RoundsTo : Format → Float → Float → Type 0
RoundsTo f x y = IsRound f x y ⊎ Stays x y

abbrev pub ConvertsTo : Format → Float → Float → Type 0
ConvertsTo f x y = IsNearest f x y ⊎ Stays x y

abbrev pub HasRoot : Format → Float → Float → Type 0
HasRoot f x y = IsRoot f x y ⊎ SpecialRoot x y

-- The claim, for any format: whatever the argument, each relation holds of one value, the one that the definition gives. The argument of
-- floor, round and root is a value of the format; a conversion's is any float. From f32 to f64 the value is the same.
pub record MeetsStandard : Type 0 where
  pub floors : (f : Format) (x : Float) → T (fits f x) → (y : Float) → FloorsTo f x y ↔ (y ≡ floor_of f x)
  pub rounds : (f : Format) (x : Float) → T (fits f x) → (y : Float) → RoundsTo f x y ↔ (y ≡ round_of f x)
  pub converts : (f : Format) (x y : Float) → ConvertsTo f x y ↔ (y ≡ narrow_of f x)
  pub widens : (x : Float) → T (fits binary32 x) → (y : Float) → ConvertsTo binary64 x y ↔ (y ≡ x)
  pub roots : (f : Format) (x : Float) → T (fits f x) → (y : Float) → HasRoot f x y ↔ (y ≡ sqrt_of f x)
