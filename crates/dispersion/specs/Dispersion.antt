-- docs/RULES.md, 'Centers and dispersion' and Dispersion. Definitions only. Assumes nothing.
use Rattle.std.specs.Prelude.{ℕ, zero, suc, ◌+◌, ◌-◌, ◌*◌, ◌/◌, cond, List, [], ◌∷◌, ltb, pos, Float, Result, Ok, Err}
use Rattle.std.specs.Float.{binary32, binary64}
use Rattle.std.specs.Float.Ieee.{add, div, lt, le, of_int, of_bits}
use Rattle.floats.specs.Convert.{narrow_of}
use Rattle.floats.specs.Root.{sqrt_of}
use Rattle.floats.specs.Constants.{zero32, one32}
use Rattle.cell.specs.declared.Vec3.{Vec3}
use Rattle.cell.specs.Cell.{epsilon, extent_of, squared, distance2, point_at}
use Rattle.base.specs.declared.Refused.{Refused}
use Rattle.base.specs.Refusals.{first_refusal, refused}
use Rattle.base.specs.Tables.{unless_refused}
use Rattle.pick_lists.specs.Sound.{copies}
use Rattle.pick_lists.specs.Input.{Input, input_refusals}
use Rattle.centers.specs.Centers.{centers_of}

-- x to 0 .. 1
unfoldable pub clamped : Float → Float
clamped x = cond (lt x zero32) zero32 (cond (lt one32 x) one32 x)

-- sqrt((ex * ex + ey * ey + ez * ez) / 12)
unfoldable pub expected_of : Vec3 → Float
expected_of e = sqrt_of binary32 (div binary32 (squared e) (of_bits binary32 0x4140_0000))

-- s and the squared distances of center i to k centers from j on, in f64, in order
unfoldable pub row_sum : Vec3 → List Float → ℕ → ℕ → ℕ → Float → Float
row_sum e cs i zero j s = s
row_sum e cs i (suc k) j s = row_sum e cs i k (j + 1) (add binary64 s (distance2 e (point_at cs i) (point_at cs j)))

-- the same for the pairs i < j of the last k of n centers
unfoldable pub pair_sum : Vec3 → List Float → ℕ → ℕ → ℕ → Float → Float
unfolding row_sum
pair_sum e cs n zero i s = s
pair_sum e cs n (suc k) i s = pair_sum e cs n k (i + 1) (row_sum e cs i (n - (i + 1)) (i + 1) s)

-- the sum over the pair count, f64 root, to f32
unfoldable pub observed_of : Vec3 → List Float → ℕ → Float
unfolding pair_sum
observed_of e cs n = narrow_of binary32 (sqrt_of binary64 (div binary64 (pair_sum e cs n n 0 (of_bits binary64 0)) (of_int binary64 (pos (n * (n - 1) / 2)))))

-- the score of n centers: below two 1; with an expected at or below EPSILON 0; otherwise observed over expected, clamped
unfoldable pub score_of : Vec3 → List Float → ℕ → Float
unfolding expected_of observed_of clamped
score_of e cs n =
    cond (ltb n 2) one32
    (cond (le (expected_of e) epsilon) zero32 (clamped (div binary32 (observed_of e cs n) (expected_of e))))

unfoldable pub dispersion_of : Input → Float
unfolding score_of centers_of
dispersion_of f = score_of (extent_of f.cell) (centers_of f) (copies f.starts)

-- ---- Dispersion: 1, 2, 3, 4, 15, 8
unfoldable pub dispersion_refusal : Input → ℕ
unfolding input_refusals first_refusal
dispersion_refusal f = first_refusal (input_refusals f)

-- what Dispersion answers: the score, or the refusal
unfoldable pub dispersion_answer : Input → Result Float Refused
unfolding dispersion_refusal dispersion_of
dispersion_answer f = let r = dispersion_refusal f in unless_refused r (Ok (dispersion_of f)) (refused r)

-- the values of an answer: the score, none with a refusal
abbrev pub dispersion_values : {E : Type 0} → Result Float E → List Float
dispersion_values (Ok s) = s ∷ []
dispersion_values (Err e) = []
