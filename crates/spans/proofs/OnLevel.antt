-- Boxes on a level. Each separation from one to the other takes off as many extents as the least of them, so that its image is the separation less those
-- extents, and a point whose gap from the box is clear of the cutoff is near none of its picks. Assumes nothing.
use mathlib.Core.Path.{◌≡◌, refl, sym}
use mathlib.Core.Bool.{Bool, true, false, not, ◌&&◌, cond}
use mathlib.Core.List.{List}
use Prim.Native.Nat.{ℕ, ◌^◌, ◌≤◌, ◌<◌}
use native.Mathlib.Omega.{arith}
use lib.Dec.{T}
use lib.ListN.{length, get_or, drop}
use lib.Ieee.{Float, binary32, sub, mul, le}
use lib.Ieee.Scale.{finite}
use Rattle.floats.proofs.Tests.{holds, both}
use Rattle.floats.proofs.Bounds.{Within}
use Rattle.floats.proofs.Signed.{lt_not_le}
use Rattle.floats.proofs.Magnitudes.{le-trans-all}
use Rattle.cell.specs.declared.Cell.{Cell}
use Rattle.cell.specs.declared.Vec3.{Vec3}
use Rattle.cell.specs.Cell.{image_axis, extent_of, minus, min_image, distance2, squared, point_at, finite_point}
use Rattle.touch.specs.Touch.{cutoff2, near, any_in}
use Rattle.gates.specs.Inner.{turns_of, tested}
use Rattle.gates.proofs.Axes.{Axis, Axes, image-sized, tested-is, tested-axes}
use Rattle.gates.proofs.Squares.{cutoff-finite}
use Rattle.gates.proofs.Sure.{Apart}
use Rattle.gates.proofs.Levels.{Same, level-image, level-clear, sized_on, same-squared}
use Rattle.gates.proofs.Atoms.{apart-around, image-around, apart-x, apart-y, apart-z}
use Rattle.spans.specs.declared.Span.{Span}
use Rattle.spans.specs.declared.Level.{Level}
use Rattle.spans.specs.Inner.{span_of, point_span, level_axis, level_of, clear_by, passed_over, over_axis, near_by, near_on}
use Rattle.spans.proofs.Between.{Between, separated, itself, Inside, some-axis, pick-inside, none_in, Finite, begins}

-- ---- one axis: p from p₀ to p₁, q from q₀ to q₁
module _ (e p₀ p p₁ q₀ q q₁ : Float) (E : Axis e) (P : Between p₀ p p₁) (Q : Between q₀ q q₁) where
  level-is : level_axis e (sub binary32 q₀ p₁) (sub binary32 q₁ p₀) ≡ true → T (le (turns_of (sub binary32 q₁ p₀) e) (turns_of (sub binary32 q₀ p₁) e))
  unfolding level_axis
  level-is level = holds level

  axis-same : level_axis e (sub binary32 q₀ p₁) (sub binary32 q₁ p₀) ≡ true
      → Same (sub binary32 (sub binary32 q p) (mul binary32 e (turns_of (sub binary32 q₀ p₁) e))) (image_axis (sub binary32 q p) e)
  axis-same level =
      let s = separated p₀ p p₁ q₀ q q₁ P Q in
      level-image (sub binary32 q₀ p₁) (sub binary32 q₁ p₀) e E s.lo-in s.hi-in (level-is level) (sub binary32 q p) s.d-in s.from s.to

  axis-clear : (k : Float) → T (finite (cutoff2 k))
      → clear_by (level_axis e (sub binary32 q₀ p₁) (sub binary32 q₁ p₀)) k (mul binary32 e (turns_of (sub binary32 q₀ p₁) e)) (sub binary32 q₀ p) (sub binary32 q₁ p) ≡ true → Apart k (sub binary32 q p) e
  unfolding clear_by
  axis-clear k fk t =
      let s = separated p₀ p p₁ q₀ q q₁ P Q in
      let own = itself p P.at_in in
      let low = separated p₀ p p₁ q₀ q₀ q₁ P (first Q) in
      let high = separated p₀ p p₁ q₀ q₁ q₁ P (last Q) in
      let pt = separated p p p q₀ q q₁ own Q in
      let on = both _ _ t in
      let g = both _ _ on.1 in
      level-clear (sub binary32 q₀ p₁) (sub binary32 q₁ p₀) e E s.lo-in s.hi-in (level-is on.0) k (sub binary32 q₀ p) (sub binary32 q p) (sub binary32 q₁ p) fk pt.lo-in s.d-in pt.hi-in
      low.from pt.from pt.to high.to (holds g.0) (holds g.1)
    where
      first : Between q₀ q q₁ → Between q₀ q₀ q₁
      first B = record { low-in = B.low-in; at_in = B.low-in; high-in = B.high-in; from = (itself q₀ B.low-in).from; to = le-trans-all q₀ q q₁ B.from B.to }

      last : Between q₀ q q₁ → Between q₀ q₁ q₁
      last B = record { low-in = B.low-in; at_in = B.high-in; high-in = B.high-in; from = le-trans-all q₀ q q₁ B.from B.to; to = (itself q₁ B.high-in).to }

-- ---- two atoms, in the boxes b and s
module _ (c : Cell) (k : Float) (xs : List Float) (h : tested c k xs ≡ true) (b s : Span) (p q : ℕ) (fp : finite_point (point_at xs p) ≡ true) (fq : finite_point (point_at xs q) ≡ true)
    (P : Inside b (point_at xs p)) (Q : Inside s (point_at xs q)) where
  abbrev e : Vec3
  e = extent_of c

  abbrev sx : Bool
  sx = level_axis e.x (sub binary32 s.low.x b.high.x) (sub binary32 s.high.x b.low.x)

  abbrev sy : Bool
  sy = level_axis e.y (sub binary32 s.low.y b.high.y) (sub binary32 s.high.y b.low.y)

  abbrev sz : Bool
  sz = level_axis e.z (sub binary32 s.low.z b.high.z) (sub binary32 s.high.z b.low.z)

  abbrev E : Axes e
  E = tested-axes c k xs h

  -- an axis whose image is over the cutoff keeps the atoms apart
  over-apart : (d f : Float) → Axis f → Within (2 ^ 21) d → over_axis k d f ≡ true → Apart k d f
  unfolding over_axis
  over-apart d f F w t =
      lt_not_le (mul binary32 (image_axis d f) (image_axis d f)) (cutoff2 k) (image-sized d f F w).square (cutoff-finite k (tested-is c k xs h).reach) (holds t)

  -- near an axis at a time is near
  axes-near : near_by k e (point_at xs p) (point_at xs q) ≡ near k e xs p q
  unfolding near_by near
  axes-near =
      let d = minus (point_at xs q) (point_at xs p) in
      let w = apart-around c k xs h p q fp fq in
      by-axis (over_axis k d.x e.x) (λ t. apart-x c k xs h p q fp fq (over-apart d.x e.x E.on-x w.on-x t))
      (by-axis (over_axis k d.y e.y) (λ t. apart-y c k xs h p q fp fq (over-apart d.y e.y E.on-y w.on-y t))
      (by-axis (over_axis k d.z e.z) (λ t. apart-z c k xs h p q fp fq (over-apart d.z e.z E.on-z w.on-z t)) refl))
    where
      by-axis : (o : Bool) {r n : Bool} → (o ≡ true → n ≡ false) → r ≡ n → (not o && r) ≡ n
      by-axis true f is = sym (f refl)
      by-axis false f is = is

  -- near by the level is near
  pub level-near : near_on k e (level_of e b s) (point_at xs p) (point_at xs q) ≡ near k e xs p q
  unfolding near_on level_of near distance2 min_image minus
  level-near = go (sx && (sy && sz)) refl
    where
      by : Vec3
      by = (level_of e b s).by

      go : (t : Bool) → sx && (sy && sz) ≡ t
          → cond t (le (squared (minus (minus (point_at xs q) (point_at xs p)) by)) (cutoff2 k)) (near_by k e (point_at xs p) (point_at xs q)) ≡ near k e xs p q
      go false t = axes-near
      go true t =
          let a = both sx (sy && sz) t in
          let d = both sy sz a.1 in
          same-squared (minus (minus (point_at xs q) (point_at xs p)) by) (min_image e (minus (point_at xs q) (point_at xs p))) (cutoff2 k)
          (record {
            on-x = axis-same e.x b.low.x (point_at xs p).x b.high.x s.low.x (point_at xs q).x s.high.x E.on-x P.on-x Q.on-x a.0;
            on-y = axis-same e.y b.low.y (point_at xs p).y b.high.y s.low.y (point_at xs q).y s.high.y E.on-y P.on-y Q.on-y d.0;
            on-z = axis-same e.z b.low.z (point_at xs p).z b.high.z s.low.z (point_at xs q).z s.high.z E.on-z P.on-z Q.on-z d.1;
          })
          (sized_on (min_image e (minus (point_at xs q) (point_at xs p))) (image-around c k xs h p q fp fq))

  -- a point that is passed over is not near
  pub passed-near : passed_over k (level_of e b s) (point_at xs p) s ≡ true → near k e xs p q ≡ false
  unfolding passed_over level_of
  passed-near =
      let by = (level_of e b s).by in
      let fk = cutoff-finite k (tested-is c k xs h).reach in
      some-axis c k xs h (clear_by sx k by.x) (clear_by sy k by.y) (clear_by sz k by.z) (point_span (point_at xs p)) s p q fp fq
      (axis-clear e.x b.low.x (point_at xs p).x b.high.x s.low.x (point_at xs q).x s.high.x E.on-x P.on-x Q.on-x k fk)
      (axis-clear e.y b.low.y (point_at xs p).y b.high.y s.low.y (point_at xs q).y s.high.y E.on-y P.on-y Q.on-y k fk)
      (axis-clear e.z b.low.z (point_at xs p).z b.high.z s.low.z (point_at xs q).z s.high.z E.on-z P.on-z Q.on-z k fk)

-- ---- a pick of ps against the list qs and its box
module _ (c : Cell) (k : Float) (xs : List Float) (h : tested c k xs ≡ true) (ps qs : List ℕ) (some : 0 < length qs) (f : Finite xs ps) (g : Finite xs qs) (i : ℕ) (l : i < length ps) where
  any-ps : 0 < length ps
  any-ps = omega (arith, l)

  pick-near : (j : ℕ) → j < length qs
      → near_on k (extent_of c) (level_of (extent_of c) (span_of xs ps) (span_of xs qs)) (point_at xs (get_or ps i 0)) (point_at xs (get_or qs j 0)) ≡ near k (extent_of c) xs (get_or ps i 0) (get_or qs j 0)
  pick-near j m =
      level-near c k xs h (span_of xs ps) (span_of xs qs) (get_or ps i 0) (get_or qs j 0) (f i l) (g j m) (pick-inside c k xs h ps any-ps f i l) (pick-inside c k xs h qs some g j m)

  pick-passed : passed_over k (level_of (extent_of c) (span_of xs ps) (span_of xs qs)) (point_at xs (get_or ps i 0)) (span_of xs qs) ≡ true → any_in (near k (extent_of c) xs (get_or ps i 0)) qs ≡ false
  pick-passed t =
      none_in (near k (extent_of c) xs (get_or ps i 0)) qs
      (λ j m. passed-near c k xs h (span_of xs ps) (span_of xs qs) (get_or ps i 0) (get_or qs j 0) (f i l) (g j m) (pick-inside c k xs h ps any-ps f i l) (pick-inside c k xs h qs some g j m) t)

  -- as the code has it: the extent e, the level, the box s of the list, the pick's point and another's
  module _ (e : Vec3) (level : Level) (s : Span) (at : Vec3) (ee : e ≡ extent_of c) (el : level ≡ level_of (extent_of c) (span_of xs ps) s) (es : s ≡ span_of xs qs) (ea : at ≡ point_at xs (get_or ps i 0)) where
    pub begins-pick : (j : ℕ) → j ≡ cond (passed_over k level at s) (length qs) 0 → (j ≤ length qs) × (any_in (near k e xs (get_or ps i 0)) (drop j qs) ≡ any_in (near k e xs (get_or ps i 0)) qs)
    begins-pick j ej = begins (near k e xs (get_or ps i 0)) qs (passed_over k level at s) j ej (λ on. rw ee (pick-passed (rw (el, ea, es) at on)))

    pub nears-pick : (j : ℕ) (to : Vec3) → j < length qs → to ≡ point_at xs (get_or qs j 0) → near_on k e level at to ≡ near k e xs (get_or ps i 0) (get_or qs j 0)
    nears-pick j to m et = rw (el, ee, ea, et, es) (pick-near j m)
