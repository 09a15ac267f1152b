-- Gates: separations on one axis that alone keep two points from being near (docs/RULES.md, 'Touch'). Lengths are in angstrom.
-- Definitions only. Assumes nothing.
use Rattle.std.specs.Prelude.{◌≡◌, Bool, true, not, cond, ◌&&◌, ◌||◌, List, ℕ, ◌+◌, ◌<◌, pos, ltb, Float}
use Rattle.std.specs.Int.Bits.{bit_and}
use Rattle.std.specs.Float.{binary32}
use Rattle.std.specs.Float.Ieee.{of_bits, to_bits, of_int, neg, add, sub, mul, div, le, lt, eq}
use Rattle.floats.specs.Whole.{round_of}
use Rattle.floats.specs.Order.{larger}
use Rattle.floats.specs.Constants.{zero32, one32}
use Rattle.cell.specs.Cell.{image_axis, valid}
use Rattle.cell.specs.Reach.{sound_reach}
use Rattle.frame_limits.specs.Limits.{bound_over, any_over, max_coordinate}
use Rattle.cell.specs.declared.Cell.{Cell}
use Rattle.cell.specs.declared.Vec3.{Vec3}
use Rattle.touch.specs.Touch.{cutoff2}
use Rattle.gates.specs.declared.Gate.{Gate}
use Rattle.gates.specs.declared.PerAxis.{PerAxis}
use Rattle.gates.specs.declared.AxisImages.{AxisImages}
use Rattle.gates.specs.declared.AxisTurns.{AxisTurns}

-- ---- the gate of an axis of extent e, at the cutoff k
-- where it starts: k + 0.05, a little above the cutoff
unfoldable pub gate_start : Float → Float
gate_start k = add binary32 k (of_bits binary32 0x3d4c_cccd)

-- round(d / extent)
unfoldable pub turns_of : Float → Float → Float
turns_of d e = round_of binary32 (div binary32 d e)

-- the image of d is above zero, or below it, and its square is above the cutoff's
unfoldable pub clear_right : Float → Float → Float → Bool
clear_right k d e = lt zero32 (image_axis d e) && lt (cutoff2 k) (mul binary32 (image_axis d e) (image_axis d e))

unfoldable pub clear_left : Float → Float → Float → Bool
clear_left k d e = lt (image_axis d e) zero32 && lt (cutoff2 k) (mul binary32 (image_axis d e) (image_axis d e))

-- the test of a gate at its ends l and m
unfoldable pub holds_at : Float → Float → Float → Float → Float → Float → Bool
unfolding turns_of clear_right clear_left
holds_at k least most l m e = le least (turns_of l e) && (le (turns_of m e) most && (clear_right k l e && clear_left k m e))

-- t extents off
abbrev pub turn : ℕ → Float
turn t = of_int binary32 (pos t)

-- 2 ^ 21 at most in size, as every separation of two atoms is
unfoldable pub short : Float → Bool
short d = le (neg (of_bits binary32 0x4a00_0000)) d && le d (of_bits binary32 0x4a00_0000)

-- from s past t extents to s before the next
unfoldable pub ends_at : Float → ℕ → Float → Gate
ends_at s t e = record { r = add binary32 (mul binary32 e (turn t)) s; u = add binary32 (mul binary32 e (turn t)) (sub binary32 e s) }

-- whether the test holds there
unfoldable pub certified : Float → ℕ → Float → Bool
unfolding ends_at short holds_at
certified k t e =
    let g = ends_at (gate_start k) t e in
    short g.r && (short g.u && holds_at k (turn t) (turn (t + 1)) g.r g.u e)

-- the gate of turn t, where the test holds; otherwise a gate that rejects nothing
unfoldable pub gate_at : Float → ℕ → Float → Gate
unfolding gate_start certified ends_at
gate_at k t e = cond (certified k t e) (ends_at (gate_start k) t e) (record { r = one32; u = zero32 })

-- the gates of separations below an extent
unfoldable pub gates_of : Float → Vec3 → PerAxis Gate
unfolding gate_at
gates_of k e = record { x = gate_at k 0 e.x; y = gate_at k 0 e.y; z = gate_at k 0 e.z }

-- ---- what a gate rejects
-- the separations from lo to hi all lie from r to u, or all from -u to -r
unfoldable pub far_of : Gate → Float → Float → Bool
unfolding larger
far_of g lo hi = le g.r (larger lo (neg hi)) && le (larger hi (neg lo)) g.u

-- ---- what the images of both ends reject, at any turn
-- where both take off the same, one of the images is clear; where hi takes off one extent more, both are
unfoldable pub far_ends : Float → Float → Float → Float → Bool
unfolding turns_of clear_right clear_left holds_at
far_ends k e lo hi =
    cond (le (turns_of hi e) (turns_of lo e)) (clear_right k lo e || clear_left k hi e) (holds_at k (turns_of lo e) (add binary32 (turns_of lo e) one32) lo hi e)

-- and of lo alone where hi is the same number
unfoldable pub far_images : Float → Float → Float → Float → Bool
unfolding clear_right clear_left far_ends
far_images k e lo hi = cond (eq lo hi) (clear_right k lo e || clear_left k lo e) (far_ends k e lo hi)

abbrev pub by_images : AxisImages → Float → Float → Bool
by_images s = far_images s.cutoff s.e

abbrev pub images_of : Float → Vec3 → PerAxis AxisImages
images_of k e = record { x = record { cutoff = k; e = e.x }; y = record { cutoff = k; e = e.y }; z = record { cutoff = k; e = e.z } }

-- ---- what the gates of many turns reject
-- a guess of how many extents a separation a takes off, below 2 ^ 15: any number would do
unfoldable pub guess_of : Float → Float → ℕ
guess_of inverse a = bit_and (to_bits binary32 (add binary32 (sub binary32 (mul binary32 a inverse) (of_bits binary32 0x3f00_0000)) (of_bits binary32 0x4b40_0000))) 32767

-- the gate of the guessed turn rejects the separations from lo to hi, and is one of the first `top`
unfoldable pub far_turns : AxisTurns → Float → Float → Bool
unfolding guess_of ends_at far_of larger
far_turns s lo hi =
    let t = guess_of s.inverse (larger lo (neg hi)) in
    ltb t s.top && far_of (ends_at s.start t s.e) lo hi

-- the gates of the first `top` turns hold
abbrev pub SureAxis : Float → Float → AxisTurns → Type 0
SureAxis k e s = (s.e ≡ e) × (s.start ≡ gate_start k) × ((t : ℕ) → t < s.top → certified k t e ≡ true)

abbrev pub SureTurns : Float → Vec3 → PerAxis AxisTurns → Type 0
SureTurns k e s = SureAxis k e.x s.x × SureAxis k e.y s.y × SureAxis k e.z s.z

-- ---- what the tests 3, 4, 15 and 16 leave of a cell, a cutoff and coordinates
unfoldable pub tested : Cell → Float → List Float → Bool
unfolding sound_reach
tested c k xs = not (bound_over c) && (valid c && (not (any_over max_coordinate xs) && sound_reach k))
