-- docs/RULES.md, 'Limits': the bounds of a reach, a length that a caller gives, as the cutoff of contacts, and refusal 16. In angstrom.
-- Definitions only. Assumes nothing.
use Rattle.std.specs.Prelude.{Bool, not, ◌&&◌, Float}
use Rattle.std.specs.Float.{binary32}
use Rattle.std.specs.Float.Ieee.{lt, le, of_bits}
use Rattle.std.specs.Float.Ieee.Scale.{finite}
use Rattle.base.specs.Refusals.{Refusal, refuse}
use Rattle.floats.specs.Constants.{zero32}

-- 16
abbrev pub max_reach : Float
max_reach = of_bits binary32 0x4180_0000

-- finite, above 0 and at most 16
unfoldable pub sound_reach : Float → Bool
sound_reach k = finite k && (lt zero32 k && le k max_reach)

unfoldable pub reach : Float → Refusal
unfolding sound_reach
reach k = refuse 16 (not (sound_reach k))
