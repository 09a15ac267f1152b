-- The tests of one axis, by a gate, by images and by the gates of many turns, reject alike: what passes one of them between lo and hi is apart.
-- Assumes nothing.
use mathlib.Core.Path.{◌≡◌}
use mathlib.Core.Bool.{Bool, true}
use Prim.Native.Nat.{◌^◌, ◌≤◌}
use native.Mathlib.Omega.{arith}
use lib.Bits.{and_le_r}
use lib.Dec.{T, ltb, ltb→lt}
use lib.Ieee.{Float, binary32, of_bits, to_bits, neg, add, sub, mul, le}
use Rattle.floats.specs.Order.{larger}
use Rattle.floats.proofs.Tests.{holds, both}
use Rattle.floats.proofs.Bounds.{Within}
use Rattle.floats.proofs.Quotients.{within-finite}
use Rattle.cell.specs.Reach.{sound_reach}
use Rattle.gates.specs.declared.AxisTurns.{AxisTurns}
use Rattle.gates.specs.Inner.{gate_at, ends_at, gate_start, far_of, far_images, guess_of, far_turns, SureAxis}
use Rattle.gates.proofs.Axes.{Axis}
use Rattle.gates.proofs.Squares.{cutoff-finite}
use Rattle.gates.proofs.Sure.{Apart, certified-sure, gate-sure}
use Rattle.gates.proofs.Ends.{far-sound}
use Rattle.gates.proofs.Images.{images-sound}

pub guess-below : (inverse a : Float) → guess_of inverse a ≤ 32767
unfolding guess_of
guess-below inverse a = and_le_r (to_bits binary32 (add binary32 (sub binary32 (mul binary32 a inverse) (of_bits binary32 0x3f00_0000)) (of_bits binary32 0x4b40_0000))) 32767

-- a test of the ends of some separations that none of those near passes
abbrev pub Rejects : Float → Float → (Float → Float → Bool) → Type 0
Rejects k e f = (lo d hi : Float) → Within (2 ^ 21) lo → Within (2 ^ 21) d → Within (2 ^ 21) hi → T (le lo d) → T (le d hi) → f lo hi ≡ true → Apart k d e

module _ (k e : Float) (K : sound_reach k ≡ true) (E : Axis e) where
  pub gate-rejects : Rejects k e (far_of (gate_at k 0 e))
  gate-rejects lo d hi wl w wh = far-sound k (gate_at k 0 e) e lo d hi (gate-sure k 0 e K (omega arith) E) (within-finite (2 ^ 21) lo wl) (within-finite (2 ^ 21) hi wh) w

  pub images-rejects : Rejects k e (far_images k e)
  images-rejects lo d hi wl w wh hl hh = images-sound k lo hi e d (cutoff-finite k K) E wl wh w hl hh

  pub turns-rejects : (s : AxisTurns) → SureAxis k e s → Rejects k e (far_turns s)
  unfolding far_turns
  turns-rejects s (is-e, is-start, sure) lo d hi wl w wh hl hh h =
      let t = guess_of s.inverse (larger lo (neg hi)) in
      let p = both (ltb t s.top) (far_of (ends_at s.start t s.e) lo hi) h in
      far-sound k (ends_at (gate_start k) t e) e lo d hi (certified-sure k t e K (omega (arith, guess-below s.inverse (larger lo (neg hi)))) E (sure t (ltb→lt t s.top (holds p.0))))
      (within-finite (2 ^ 21) lo wl) (within-finite (2 ^ 21) hi wh) w hl hh (rw (is-e, is-start) at p.1)
