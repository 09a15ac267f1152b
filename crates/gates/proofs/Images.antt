-- The images of the ends lo and hi of some separations. Where both take off the same, so does all between, and an image of lo above zero and clear of the
-- cutoff, or one of hi below zero and clear, stands for all. Where hi takes off one more, the ends are a gate of their own. Assumes nothing.
use mathlib.Core.Path.{◌≡◌, refl}
use mathlib.Core.Logic.{◌⊎◌, inl, inr}
use mathlib.Core.Bool.{Bool, true, false, ◌||◌, cond}
use Prim.Native.Nat.{ℕ, zero, suc, ◌*◌, ◌^◌, ◌<◌}
use native.Mathlib.Nat.{zero-lt-suc}
use native.Mathlib.Omega.{arith}
use lib.Dec.{T, lt→ltb, lit≤}
use lib.Ieee.{Float, nan, inf, fin, binary32, up, down, of_bits, add, mul, div, lt, le, eq}
use lib.Ieee.Fits.{div-fits}
use lib.Ieee.Scale.{finite}
use lib.Ieee.Exact.{HasValue}
use lib.Ieee.Positive.{positive}
use Rattle.floats.specs.Constants.{zero32, one32}
use Rattle.floats.proofs.Tests.{holds, both}
use Rattle.floats.proofs.Bounds.{Within, exact-pow, add-within}
use Rattle.floats.proofs.Quotients.{within-finite}
use Rattle.floats.proofs.Signed.{le-trans-finite}
use Rattle.floats.proofs.Order.{le-refl-finite, eq-le}
use Rattle.floats.proofs.Monotone.{div-mono-left, round-mono-whole}
use Rattle.floats.proofs.NextWhole.{next_of}
use Rattle.cell.specs.Cell.{image_axis}
use Rattle.touch.specs.Touch.{cutoff2}
use Rattle.gates.specs.Inner.{turns_of, clear_right, clear_left, holds_at, far_ends, far_images}
use Rattle.gates.proofs.Axes.{Axis, quotient-finite, turns-within, turns-finite, image-sized, image-order}
use Rattle.gates.proofs.Sure.{Apart, between}
use Rattle.gates.proofs.Squares.{right_of, left-of}

axis-positive : (e : Float) → Axis e → T (positive e)
axis-positive nan E = absurd E.side.within
axis-positive (inf s) E = absurd E.side.within
axis-positive (fin true n d) E = absurd E.plus
axis-positive (fin false n d) E = lt→ltb 0 n (some n E.side.above)
  where
    some : (k : ℕ) → down d < 2 ^ 23 * (k * up d) → 0 < k
    some zero h = absurd (none (down d) (up d) h)
      where
        none : (a b : ℕ) → a < 2 ^ 23 * (0 * b) → ⊥
        none a b g = omega arith
    some (suc k) h = zero-lt-suc k

-- turns keep the order
pub turns-order : (d d' e : Float) → Axis e → Within (2 ^ 21) d → Within (2 ^ 21) d' → T (le d d') → T (le (turns_of d e) (turns_of d' e))
unfolding turns_of
turns-order d d' e E w w' h =
    round-mono-whole binary32 (div binary32 d e) (div binary32 d' e) (quotient-finite d e E w) (quotient-finite d' e E w')
    (div-mono-left binary32 d d' e (axis-positive e E) (within-finite (2 ^ 21) d w) (within-finite (2 ^ 21) d' w') h)

either : (a b : Bool) → (a || b) ≡ true → (a ≡ true) ⊎ (b ≡ true)
either true b h = inl refl
either false b h = inr h

module _ (k lo hi e d : Float) (fk : T (finite (cutoff2 k))) (E : Axis e) (wl : Within (2 ^ 21) lo) (wh : Within (2 ^ 21) hi) (w : Within (2 ^ 21) d) (hl : T (le lo d)) (hh : T (le d hi)) where
  -- both take off the same
  level : T (le (turns_of hi e) (turns_of lo e)) → (clear_right k lo e || clear_left k hi e) ≡ true → Apart k d e
  unfolding clear_right clear_left
  level same c =
      elim (either (clear_right k lo e) (clear_left k hi e) c) [
        | inl r ↦
            let p = both (lt zero32 (image_axis lo e)) (lt (cutoff2 k) (mul binary32 (image_axis lo e) (image_axis lo e))) r in
            right_of (cutoff2 k) fk (image_axis lo e) (image_axis d e) (image-sized lo e E wl) (image-sized d e E w) (holds p.0) (holds p.1)
            (image-order lo d e E wl w hl
            (le-trans-finite (turns_of d e) (turns_of hi e) (turns_of lo e) (turns-finite d e E w) (turns-finite hi e E wh) (turns-finite lo e E wl) (turns-order d hi e E w wh hh) same))
        | inr l ↦
            let p = both (lt (image_axis hi e) zero32) (lt (cutoff2 k) (mul binary32 (image_axis hi e) (image_axis hi e))) l in
            left-of (cutoff2 k) fk (image_axis hi e) (image_axis d e) (image-sized hi e E wh) (image-sized d e E w) (holds p.0) (holds p.1)
            (image-order d hi e E w wh hh
            (le-trans-finite (turns_of hi e) (turns_of lo e) (turns_of d e) (turns-finite hi e E wh) (turns-finite lo e E wl) (turns-finite d e E w) same (turns-order lo d e E wl w hl)))
      ]

  one_value : HasValue one32 false 1 1
  unfolding of_bits
  one_value = (refl, refl)

  one-within : Within (2 ^ 44) one32
  unfolding of_bits
  one-within = lit≤ tt

  turns_next : T (le (turns_of d e) (turns_of lo e)) ⊎ T (le (add binary32 (turns_of lo e) one32) (turns_of d e))
  unfolding turns_of
  turns_next = next_of binary32 (div binary32 lo e) (div binary32 d e) one32 (quotient-finite lo e E wl) (div-fits binary32 lo e) one_value (quotient-finite d e E w)

  -- hi takes off one more at most
  ends : holds_at k (turns_of lo e) (add binary32 (turns_of lo e) one32) lo hi e ≡ true → Apart k d e
  ends h =
      between k (turns_of lo e) (add binary32 (turns_of lo e) one32) lo hi e d fk (turns-finite lo e E wl)
      (within-finite (2 ^ 45) (add binary32 (turns_of lo e) one32) (add-within binary32 (turns_of lo e) one32 (2 ^ 44) (2 ^ 44) (exact-pow binary32 45 (lit≤ tt)) (turns-within lo e E wl) one-within))
      E wl wh w h turns_next hl hh

-- THE THEOREM: what the images of lo and hi reject is apart
pub images-sound : (k lo hi e d : Float) → T (finite (cutoff2 k)) → Axis e → Within (2 ^ 21) lo → Within (2 ^ 21) hi → Within (2 ^ 21) d → T (le lo d) → T (le d hi) → far_images k e lo hi ≡ true → Apart k d e
unfolding far_images far_ends
images-sound k lo hi e d fk E wl wh w hl hh t = go (eq lo hi) refl t
  where
    fl : T (finite lo)
    fl = within-finite (2 ^ 21) lo wl

    next : (b : Bool) → le (turns_of hi e) (turns_of lo e) ≡ b → cond b (clear_right k lo e || clear_left k hi e) (holds_at k (turns_of lo e) (add binary32 (turns_of lo e) one32) lo hi e) ≡ true → Apart k d e
    next true h c = level k lo hi e d fk E wl wh w hl hh (holds h) c
    next false h c = ends k lo hi e d fk E wl wh w hl hh c

    go : (b : Bool) → eq lo hi ≡ b → cond b (clear_right k lo e || clear_left k lo e) (far_ends k e lo hi) ≡ true → Apart k d e
    go true h c =
        level k lo lo e d fk E wl wl w hl (le-trans-finite d hi lo (within-finite (2 ^ 21) d w) (within-finite (2 ^ 21) hi wh) fl hh (eq-le lo hi fl (within-finite (2 ^ 21) hi wh) (holds h)))
        (le-refl-finite (turns_of lo e) (turns-finite lo e E wl)) c
    go false h c = next (le (turns_of hi e) (turns_of lo e)) refl c
