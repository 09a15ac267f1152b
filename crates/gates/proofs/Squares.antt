-- A square above the cutoff's, c, decides against the whole distance: a sum of squares is not below any of them. Only that each operation
-- keeps the order is used, so that nothing is lost to rounding. Assumes nothing.
use mathlib.Core.Path.{◌≡◌, refl}
use mathlib.Core.Bool.{Bool, true, false}
use Prim.Native.Nat.{◌^◌}
use lib.Dec.{T, lit≤}
use lib.Ieee.{Float, binary32, add, mul, lt, le}
use lib.Ieee.Fits.{mul-fits, add-fits}
use lib.Ieee.Scale.{finite}
use Rattle.floats.proofs.Bounds.{Within, exact-pow, mul-within, add-within, plain}
use Rattle.floats.proofs.Quotients.{within-finite}
use Rattle.floats.proofs.Signed.{lt_not_le, le-trans-finite}
use Rattle.floats.proofs.Monotone.{add-ge-first, add-ge-second, add-plain, square-plain, square-right, square-left}
use Rattle.cell.specs.declared.Vec3.{Vec3}
use Rattle.cell.specs.Cell.{squared}
use Rattle.cell.specs.Reach.{sound_reach}
use Rattle.cell.proofs.Finite.{Around, squared-within}
use Rattle.cell.proofs.Reach.{reach-within}
use Rattle.touch.specs.Touch.{cutoff2}
use Rattle.floats.specs.Constants.{zero32}
use Rattle.floats.proofs.Order.{plus-of, minus-of}

abbrev sq : Float → Float
sq x = mul binary32 x x

-- the square of a cutoff that is 16 at most
pub cutoff-finite : (k : Float) → sound_reach k ≡ true → T (finite (cutoff2 k))
unfolding cutoff2
cutoff-finite k h = within-finite (2 ^ 8) (cutoff2 k) (mul-within binary32 k k (2 ^ 4) (2 ^ 4) (exact-pow binary32 8 (lit≤ tt)) (reach-within k h) (reach-within k h))

sq-within : (x : Float) → Within (2 ^ 24) x → Within (2 ^ 48) (sq x)
sq-within x w = mul-within binary32 x x (2 ^ 24) (2 ^ 24) (exact-pow binary32 48 (lit≤ tt)) w w

sq-finite : (x : Float) → Within (2 ^ 24) x → T (finite (sq x))
sq-finite x w = within-finite (2 ^ 48) (sq x) (sq-within x w)

-- a number whose square is finite too
pub record Sized (x : Float) : Type 0 where
  pub own : T (finite x)
  pub square : T (finite (sq x))

pub sized : (x : Float) → Within (2 ^ 24) x → Sized x
sized x w = record { own = within-finite (2 ^ 24) x w; square = sq-finite x w }

-- ---- x is right of an a above zero, or left of a b below it, whose square is above the cutoff's
module _ (c : Float) (fc : T (finite c)) where
  over : (a x : Float) → T (finite a) → T (finite x) → T (lt c a) → T (le a x) → T (le x c) → ⊥
  over a x p q h k l = lt_not_le a c p fc h (le-trans-finite a x c p q fc k l)

  pub right_of : (a x : Float) → Sized a → Sized x → T (lt zero32 a) → T (lt c (sq a)) → T (le a x) → T (le (sq x) c) → ⊥
  right_of a x wa wx p s h = over (sq a) (sq x) wa.square wx.square s (square-right binary32 a x (plus-of a wa.own p) wx.own h)

  pub left-of : (b x : Float) → Sized b → Sized x → T (lt b zero32) → T (lt c (sq b)) → T (le x b) → T (le (sq x) c) → ⊥
  left-of b x wb wx p s h = over (sq b) (sq x) wb.square wx.square s (square-left binary32 b x (minus-of b wb.own p) wx.own h)

-- ---- one square of three
refused : (b : Bool) → (T b → ⊥) → b ≡ false
refused true h = absurd (h tt)
refused false h = refl

module _ (c : Float) (fc : T (finite c)) (d : Vec3) (w : Around 24 d) where
  abbrev X : Float
  X = sq d.x

  abbrev Y : Float
  Y = sq d.y

  abbrev Z : Float
  Z = sq d.z

  abbrev XY : Float
  XY = add binary32 X Y

  fx : T (finite X)
  fx = sq-finite d.x w.on-x

  fy : T (finite Y)
  fy = sq-finite d.y w.on-y

  fz : T (finite Z)
  fz = sq-finite d.z w.on-z

  fxy : T (finite XY)
  fxy = within-finite (2 ^ 49) XY (add-within binary32 X Y (2 ^ 48) (2 ^ 48) (exact-pow binary32 49 (lit≤ tt)) (sq-within d.x w.on-x) (sq-within d.y w.on-y))

  fxyz : T (finite (squared d))
  fxyz = within-finite (2 ^ 50) (squared d) (squared-within 24 d (lit≤ tt) w)

  not-minus : (x : Float) → Within (2 ^ 24) x → T (plain (sq x))
  not-minus x v = square-plain binary32 x (within-finite (2 ^ 24) x v)

  xy-le : T (le XY (squared d))
  unfolding squared
  xy-le = add-ge-first binary32 XY Z (add-fits binary32 X Y) fxy fz (not-minus d.z w.on-z) fxyz

  x-le : T (le X XY)
  x-le = add-ge-first binary32 X Y (mul-fits binary32 d.x d.x) fx fy (not-minus d.y w.on-y) fxy

  y-le : T (le Y XY)
  y-le = add-ge-second binary32 X Y (mul-fits binary32 d.y d.y) fx fy (not-minus d.x w.on-x) fxy

  z-le : T (le Z (squared d))
  unfolding squared
  z-le = add-ge-second binary32 XY Z (mul-fits binary32 d.z d.z) fxy fz (add-plain binary32 X Y fx fy (not-minus d.x w.on-x) (not-minus d.y w.on-y)) fxyz

  -- a summand over the cutoff's square
  far-by : (s : Float) → T (finite s) → T (le s (squared d)) → (T (le s c) → ⊥) → le (squared d) c ≡ false
  far-by s f l h = refused (le (squared d) c) (λ k. h (le-trans-finite s (squared d) c f fxyz fc l k))

  pub far-x : (T (le X c) → ⊥) → le (squared d) c ≡ false
  far-x = far-by X fx (le-trans-finite X XY (squared d) fx fxy fxyz x-le xy-le)

  pub far-y : (T (le Y c) → ⊥) → le (squared d) c ≡ false
  far-y = far-by Y fy (le-trans-finite Y XY (squared d) fy fxy fxyz y-le xy-le)

  pub far-z : (T (le Z c) → ⊥) → le (squared d) c ≡ false
  far-z = far-by Z fz z-le
