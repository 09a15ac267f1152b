-- A sound reach is 16 at most in magnitude. Assumes nothing.
use mathlib.Core.Path.{◌≡◌}
use mathlib.Core.Bool.{true, ◌&&◌}
use Prim.Native.Nat.{◌^◌}
use lib.IntN.{pos}
use lib.Ieee.{Float, fin, of_bits, lt, le}
use lib.Ieee.Scale.{finite}
use Rattle.floats.specs.Constants.{zero32}
use Rattle.floats.proofs.Bounds.{Within, tested}
use Rattle.floats.proofs.Order.{less-le}
use Rattle.floats.proofs.Signed.{le-trans-finite}
use Rattle.floats.proofs.Tests.{holds, both}
use Rattle.cell.specs.Reach.{max_reach, sound_reach}

pub reach-within : (k : Float) → sound_reach k ≡ true → Within (2 ^ 4) k
unfolding sound_reach of_bits le
reach-within k h =
    let finite-reach = both (finite k) (lt zero32 k && le k max_reach) h in
    let ends = both (lt zero32 k) (le k max_reach) finite-reach.1 in
    tested 4 k (holds ends.1) (le-trans-finite (fin true 1 (pos 4)) zero32 k tt tt (holds finite-reach.0) tt (less-le k zero32 ends.0))
