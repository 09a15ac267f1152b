-- The gate theorem, at any turn. The image of a separation d is d less k extents, k whole. Of the d from l to m, where l takes off t extents at least and m
-- takes off t + 1 at most, either k is t at most, and then d's image is not below l's, or k is t + 1 at least, and then it is not above m's. So the images
-- of l and m, worked out by the code itself, stand for all of them. Assumes nothing.
use mathlib.Core.Path.{◌≡◌, refl, sym, subst}
use mathlib.Core.Logic.{◌⊎◌, inl, inr}
use mathlib.Core.Bool.{Bool, true, false, ◌&&◌, cond}
use Prim.Native.Nat.{ℕ, ◌+◌, ◌^◌, ◌≤◌}
use native.Mathlib.Nat.{zero-lt-suc}
use native.Mathlib.Omega.{arith}
use lib.Dec.{T, lit≤}
use lib.Ieee.{Float, binary32, of_bits, of_int, neg, mul, div, lt, le}
use lib.Ieee.Scale.{finite}
use Rattle.floats.proofs.Tests.{holds, both}
use Rattle.floats.proofs.Bounds.{Within, exact-pow, within-neg, round-within, tested as size-tested}
use Rattle.floats.proofs.Quotients.{within-finite}
use Rattle.floats.proofs.Signs.{neg-finite, neg-neg}
use Rattle.floats.proofs.Signed.{le-trans-finite, neg-le}
use Rattle.cell.specs.Cell.{image_axis}
use Rattle.cell.specs.Reach.{sound_reach}
use Rattle.cell.proofs.Mirror.{image-square-neg}
use Rattle.touch.specs.Touch.{cutoff2}
use Rattle.gates.specs.declared.Gate.{Gate}
use Rattle.floats.specs.Constants.{zero32, one32}
use Rattle.gates.specs.Inner.{gate_start, turns_of, clear_right, clear_left, holds_at, turn, short, ends_at, certified, gate_at}
use Rattle.floats.proofs.Order.{whole_split}
use Rattle.gates.proofs.Axes.{Axis, quotient-finite, turns-finite, image-sized, image-order}
use Rattle.gates.proofs.Squares.{cutoff-finite, right_of, left-of}

-- a separation that alone keeps two points from being near, at the cutoff k
abbrev pub Apart : Float → Float → Float → Type 0
Apart k d e = T (le (mul binary32 (image_axis d e) (image_axis d e)) (cutoff2 k)) → ⊥

-- ---- between two ends
pub between : (k least most l m e d : Float) → T (finite (cutoff2 k)) → T (finite least) → T (finite most) → Axis e → Within (2 ^ 21) l → Within (2 ^ 21) m → Within (2 ^ 21) d → holds_at k least most l m e ≡ true
    → T (le (turns_of d e) least) ⊎ T (le most (turns_of d e)) → T (le l d) → T (le d m) → Apart k d e
unfolding holds_at clear_right clear_left
between k least most l m e d fk fl fm E wl wm w h split hl hm =
    let a = both (le least (turns_of l e)) (le (turns_of m e) most && (clear_right k l e && clear_left k m e)) h in
    let b = both (le (turns_of m e) most) (clear_right k l e && clear_left k m e) a.1 in
    let c = both (clear_right k l e) (clear_left k m e) b.1 in
    let right = both (lt zero32 (image_axis l e)) (lt (cutoff2 k) (mul binary32 (image_axis l e) (image_axis l e))) c.0 in
    let left = both (lt (image_axis m e) zero32) (lt (cutoff2 k) (mul binary32 (image_axis m e) (image_axis m e))) c.1 in
    elim split [
      | inl few ↦
          right_of (cutoff2 k) fk (image_axis l e) (image_axis d e) (image-sized l e E wl) (image-sized d e E w) (holds right.0) (holds right.1)
          (image-order l d e E wl w hl (le-trans-finite (turns_of d e) least (turns_of l e) (turns-finite d e E w) fl (turns-finite l e E wl) few (holds a.0)))
      | inr many ↦
          left-of (cutoff2 k) fk (image_axis m e) (image_axis d e) (image-sized m e E wm) (image-sized d e E w) (holds left.0) (holds left.1)
          (image-order d m e E w wm hm (le-trans-finite (turns_of m e) most (turns_of d e) (turns-finite m e E wm) fm (turns-finite d e E w) (holds b.0) many))
    ]

-- turns are whole: at most t, or at least t + 1
turns-split : (t : ℕ) (d e : Float) → Axis e → Within (2 ^ 21) d → T (le (turns_of d e) (turn t)) ⊎ T (le (turn (t + 1)) (turns_of d e))
unfolding turns_of of_int
turns-split t d e E w = whole_split binary32 false t false (t + 1) (omega arith) (div binary32 d e) (quotient-finite d e E w)

turn-finite : (t : ℕ) → t ≤ 2 ^ 20 → T (finite (turn t))
unfolding of_int
turn-finite t h = within-finite (2 ^ 20) (turn t) (round-within binary32 false t 1 (2 ^ 20) (zero-lt-suc 0) (exact-pow binary32 20 (lit≤ tt)) (omega arith))

-- THE THEOREM: every separation from l to m is apart
pub turn-apart : (k : Float) (t : ℕ) (l m e d : Float) → T (finite (cutoff2 k)) → t + 1 ≤ 2 ^ 20 → Axis e → Within (2 ^ 21) l → Within (2 ^ 21) m → Within (2 ^ 21) d
    → holds_at k (turn t) (turn (t + 1)) l m e ≡ true → T (le l d) → T (le d m) → Apart k d e
turn-apart k t l m e d fk small E wl wm w h =
    between k (turn t) (turn (t + 1)) l m e d fk (turn-finite t (omega arith)) (turn-finite (t + 1) small) E wl wm w h (turns-split t d e E w)

-- apart on one side, apart on the other
opposite-apart : (k d e : Float) → Apart k (neg d) e → Apart k d e
opposite-apart k d e h l = h (subst (λ (z : Float). T (le z (cutoff2 k))) (sym (image-square-neg e d)) l)

-- ---- a gate that keeps its promise on an axis of extent e, at the cutoff k
pub record Sure (k : Float) (g : Gate) (e : Float) : Type 0 where
  pub r-finite : T (finite g.r)
  pub u-finite : T (finite g.u)
  pub up : (d : Float) → Within (2 ^ 21) d → T (le g.r d) → T (le d g.u) → Apart k d e
  pub down : (d : Float) → Within (2 ^ 21) d → T (le (neg g.u) d) → T (le d (neg g.r)) → Apart k d e

short-within : (x : Float) → short x ≡ true → Within (2 ^ 21) x
unfolding short of_bits neg
short-within x h = let p = both (le (neg (of_bits binary32 0x4a00_0000)) x) (le x (of_bits binary32 0x4a00_0000)) h in size-tested 21 x (holds p.1) (holds p.0)

-- THE THEOREM for the code's gate of turn t: where its test holds on one side, it rejects on both
pub certified-sure : (k : Float) (t : ℕ) (e : Float) → sound_reach k ≡ true → t + 1 ≤ 2 ^ 20 → Axis e → certified k t e ≡ true → Sure k (ends_at (gate_start k) t e) e
unfolding certified
certified-sure k t e K small E h =
    let g = ends_at (gate_start k) t e in
    let p = both _ _ h in
    let q = both _ _ p.1 in
    let wr = short-within g.r p.0 in
    let wu = short-within g.u q.0 in
    let up : (d : Float) → Within (2 ^ 21) d → T (le g.r d) → T (le d g.u) → Apart k d e = λ d w. turn-apart k t g.r g.u e d (cutoff-finite k K) small E wr wu w q.1 in
    record {
      r-finite = within-finite (2 ^ 21) g.r wr;
      u-finite = within-finite (2 ^ 21) g.u wu;
      up = up;
      down = λ d w a b.
          opposite-apart k d e
          (up (neg d) (within-neg (2 ^ 21) d w) (subst (λ (z : Float). T (le z (neg d))) (neg-neg g.r) (neg-le d (neg g.r) b))
          (subst (λ (z : Float). T (le (neg d) z)) (neg-neg g.u) (neg-le (neg g.u) d a)));
    }

-- nothing passes
zero-finite : T (finite zero32)
unfolding of_bits
zero-finite = tt

one-finite : T (finite one32)
unfolding of_bits
one-finite = tt

one-zero : T (le one32 zero32) → ⊥
unfolding le of_bits
one-zero h = h

minus-zero : T (le (neg zero32) (neg one32)) → ⊥
unfolding le of_bits neg
minus-zero h = h

never : (k e : Float) → Sure k (record { r = one32; u = zero32 }) e
never k e =
    record {
      r-finite = one-finite;
      u-finite = zero-finite;
      up = λ d w a b. absurd (one-zero (le-trans-finite one32 d zero32 one-finite (within-finite (2 ^ 21) d w) zero-finite a b));
      down = λ d w a b. absurd (minus-zero (le-trans-finite (neg zero32) d (neg one32) (neg-finite zero32 zero-finite) (within-finite (2 ^ 21) d w) (neg-finite one32 one-finite) a b));
    }

-- and so for the gate itself, whatever the extent, at every cutoff that is accepted
pub gate-sure : (k : Float) (t : ℕ) (e : Float) → sound_reach k ≡ true → t + 1 ≤ 2 ^ 20 → Axis e → Sure k (gate_at k t e) e
unfolding gate_at
gate-sure k t e K small E = go (certified k t e) refl
  where
    go : (c : Bool) → certified k t e ≡ c → Sure k (cond c (ends_at (gate_start k) t e) (record { r = one32; u = zero32 })) e
    go true h = certified-sure k t e K small E h
    go false h = never k e
