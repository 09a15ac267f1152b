-- docs/RULES.md, 'Limits' and 'Answers by operation': the limits, and the refusals 1, 2, 3, 4 and 15, which ask only for a call's lists and cell.
-- A call that takes no waters or no indices has the empty list in their place. Definitions only. Assumes nothing.
use Rattle.std.specs.Prelude.{ℕ, ◌*◌, ◌%◌, Bool, false, not, ◌&&◌, ◌||◌, List, [], ◌∷◌, ◌++◌, ltb, eqb, length, Float}
use Rattle.std.specs.Float.{binary32}
use Rattle.std.specs.Float.Ieee.{lt, neg, of_bits}
use Rattle.std.specs.Float.Ieee.Scale.{finite}
use Rattle.base.specs.Limits.{max_atoms, max_indices}
use Rattle.cell.specs.declared.Cell.{Cell}
use Rattle.cell.specs.Cell.{valid}
use Rattle.base.specs.Refusals.{Refusal, refuse}

-- 65,536 and 1,048,576, in magnitude
abbrev pub max_bound : Float
max_bound = of_bits binary32 0x4780_0000

abbrev pub max_coordinate : Float
max_coordinate = of_bits binary32 0x4980_0000

-- x is beyond a limit in magnitude, an infinity too
abbrev pub beyond : Float → Float → Bool
beyond limit x = lt limit x || lt x (neg limit)

-- x is finite and over a limit in magnitude
unfoldable pub exceeds : Float → Float → Bool
exceeds limit x = finite x && beyond limit x

-- one of the numbers passes the test
abbrev pub any : (Float → Bool) → List Float → Bool
any test [] = false
any test (x ∷ xs) = test x || any test xs

-- one of the numbers is over the limit
unfoldable pub any_over : Float → List Float → Bool
unfolding exceeds
any_over limit = any (exceeds limit)

-- a length that is no multiple of three
unfoldable pub ragged : List Float → Bool
ragged xs = not (eqb (length xs % 3) 0)

-- more points than the limit
unfoldable pub long : List Float → Bool
long xs = ltb (max_atoms * 3) (length xs)

unfoldable pub long_indices : List ℕ → Bool
long_indices is = ltb max_indices (length is)

-- the six bounds, one at a time
unfoldable pub bound_over : Cell → Bool
unfolding any_over
bound_over c = any_over max_bound (c.low.x ∷ c.low.y ∷ c.low.z ∷ c.high.x ∷ c.high.y ∷ c.high.z ∷ [])

-- ---- the refusals, over solutes, waters, indices and cell
unfoldable pub lengths : List Float → List Float → Refusal
unfolding ragged
lengths solutes waters = refuse 1 (ragged solutes || ragged waters)

unfoldable pub counts : List Float → List Float → List ℕ → Refusal
unfolding long long_indices
counts solutes waters indices = refuse 2 (long solutes || (long waters || long_indices indices))

unfoldable pub bounds : Cell → Refusal
unfolding bound_over
bounds c = refuse 3 (bound_over c)

unfoldable pub coordinates : List Float → List Float → Refusal
unfolding any_over
coordinates solutes waters = refuse 4 (any_over max_coordinate solutes || any_over max_coordinate waters)

unfoldable pub validity : Cell → Refusal
unfolding valid
validity c = refuse 15 (not (valid c))

-- 1, 2, 3, 4: the limits, in this order
unfoldable pub limit_refusals : Cell → List Float → List Float → List ℕ → List Refusal
unfolding lengths counts bounds coordinates
limit_refusals c solutes waters indices = lengths solutes waters ∷ counts solutes waters indices ∷ bounds c ∷ coordinates solutes waters ∷ []

-- what Row, Centers, Dispersion (with no waters), Tree and Report test before all else: 1, 2, 3, 4, 15
unfoldable pub frame_refusals : Cell → List Float → List Float → List Refusal
unfolding limit_refusals validity
frame_refusals c solutes waters = limit_refusals c solutes waters [] ++ (validity c ∷ [])
