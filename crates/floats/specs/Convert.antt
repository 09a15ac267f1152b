-- docs/RULES.md, 'Numbers': f64 to f32, ties to even. f32 to f64 is exact, so it needs no definition: the value is the same.
-- Definitions only. Assumes nothing.
use Rattle.std.specs.Prelude.{◌*◌, Float}
use Rattle.std.specs.Float.{nan, inf, fin, Format}
use Rattle.std.specs.Float.Ieee.{up, down, round}

-- x to a format: the nearest value, a tie to the even one; from the largest value and a half on, an infinity
unfoldable pub narrow_of : Format → Float → Float
unfolding round
narrow_of f nan = nan
narrow_of f (inf s) = inf s
narrow_of f (fin s m e) = round f s (m * up e) (down e)
