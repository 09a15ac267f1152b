-- docs/RULES.md, 'Numbers': floor, and round with halves away from zero, a zero result taking the argument's sign.
-- A value is `fin s m e`: m * 2 ^ e, negative where s is true; 2 ^ e is the fraction `up e` / `down e`.
-- Definitions only. Assumes nothing.
use Rattle.std.specs.Prelude.{ℕ, suc, ◌+◌, ◌*◌, ◌/◌, ◌%◌, true, false, cond, eqb, Float}
use Rattle.std.specs.Float.{nan, inf, fin, Format}
use Rattle.std.specs.Float.Ieee.{up, down, round}

-- a / c, for a c above 0, to a whole number: up, and to the nearest with a half going up
abbrev pub ceiling : ℕ → ℕ → ℕ
ceiling a c = cond (eqb (a % c) 0) (a / c) (suc (a / c))

abbrev pub half_up : ℕ → ℕ → ℕ
half_up a c = (2 * a + c) / (2 * c)

-- The largest whole number that is not above x. The size of a negative number is rounded up. A zero keeps its sign.
unfoldable pub floor_of : Format → Float → Float
unfolding round
floor_of f nan = nan
floor_of f (inf s) = inf s
floor_of f (fin false m e) = round f false (m * up e / down e) 1
floor_of f (fin true m e) = round f true (ceiling (m * up e) (down e)) 1

-- The whole number nearest to x, a half away from zero, with x's sign, at zero too.
unfoldable pub round_of : Format → Float → Float
unfolding round
round_of f nan = nan
round_of f (inf s) = inf s
round_of f (fin s m e) = round f s (half_up (m * up e) (down e)) 1
