-- The larger and the smaller of two floats; the first where neither is, as of two zeros. Definitions only. Assumes nothing.
use Rattle.std.specs.Prelude.{cond, Float}
use Rattle.std.specs.Float.Ieee.{lt}

unfoldable pub larger : Float → Float → Float
larger a b = cond (lt a b) b a

unfoldable pub smaller : Float → Float → Float
smaller a b = cond (lt b a) b a
