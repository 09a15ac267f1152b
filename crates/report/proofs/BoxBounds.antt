-- The boxes of a tree stay within the cell's bounds: corners and centers are 2 ^ 16 at most in magnitude, sides 2 ^ 17.
-- Assumes nothing.
use mathlib.Core.Bool.{false}
use Prim.Native.Nat.{ℕ, ◌*◌, ◌^◌, ◌≤◌}
use native.Mathlib.Omega.{arith}
use native.Mathlib.Nat.{mul-pos}
use lib.Bits.{bit_and}
use lib.Dec.{eqb, lit<, lit≤}
use lib.Ieee.{Float, nan, inf, fin, binary32, unlike, up, down, add, mul, of_bits}
use lib.Ieee.Fits.{down_pos}
use Rattle.floats.proofs.Bounds.{Within, exact-pow, round-within}
use Rattle.cell.specs.declared.Vec3.{Vec3}
use Rattle.cell.proofs.Finite.{Around, add-pow, sub-pow}
use Rattle.bounds.specs.declared.OctreeBounds.{OctreeBounds}
use Rattle.bounds.specs.Bounds.{middle, box_between, corner, child_of}
use Rattle.leaf.proofs.ExpectedBounds.{cond-within}

-- ---- one axis: half of a sum of two bounds is a bound again
half-within : (s : Float) → Within (2 ^ 17) s → Within (2 ^ 16) (mul binary32 s (of_bits binary32 0x3f00_0000))
unfolding mul of_bits
half-within nan w = absurd w
half-within (inf s) w = absurd w
half-within (fin s m e) w =
    round-within binary32 (unlike s false) (m * up e * 1) (down e * 2) (2 ^ 16) (mul-pos (down_pos e) (lit< tt)) (exact-pow binary32 16 (lit≤ tt)) (halved (m * up e) (down e) w)
  where
    halved : (a d : ℕ) → a ≤ 2 ^ 17 * d → a * 1 ≤ 2 ^ 16 * (d * 2)
    halved a d h = omega arith

middle-within : (l h : Float) → Within (2 ^ 16) l → Within (2 ^ 16) h → Within (2 ^ 16) (middle l h)
middle-within l h wl wh = half-within (add binary32 l h) (add-pow 16 16 17 l h (lit< tt) (lit< tt) (lit≤ tt) wl wh)

-- ---- a box
pub record Bounded (b : OctreeBounds) : Type 0 where
  pub low : Around 16 b.low
  pub high : Around 16 b.high
  pub center : Around 16 b.center
  pub extent : Around 17 b.extent

pub between-bounded : (l h : Vec3) → Around 16 l → Around 16 h → Bounded (box_between l h)
between-bounded l h al ah =
    record {
      low = al;
      high = ah;
      center =
          record {
            on-x = middle-within l.x h.x al.on-x ah.on-x;
            on-y = middle-within l.y h.y al.on-y ah.on-y;
            on-z = middle-within l.z h.z al.on-z ah.on-z;
          };
      extent =
          record {
            on-x = sub-pow 16 16 17 h.x l.x (lit< tt) (lit< tt) (lit≤ tt) ah.on-x al.on-x;
            on-y = sub-pow 16 16 17 h.y l.y (lit< tt) (lit< tt) (lit≤ tt) ah.on-y al.on-y;
            on-z = sub-pow 16 16 17 h.z l.z (lit< tt) (lit< tt) (lit≤ tt) ah.on-z al.on-z;
          };
    }

corner-around : (o : ℕ) (p q : Vec3) → Around 16 p → Around 16 q → Around 16 (corner o p q)
corner-around o p q a b =
    record {
      on-x = cond-within (2 ^ 16) (eqb (bit_and o 1) 0) p.x q.x a.on-x b.on-x;
      on-y = cond-within (2 ^ 16) (eqb (bit_and o 2) 0) p.y q.y a.on-y b.on-y;
      on-z = cond-within (2 ^ 16) (eqb (bit_and o 4) 0) p.z q.z a.on-z b.on-z;
    }

pub child-bounded : (b : OctreeBounds) (o : ℕ) → Bounded b → Bounded (child_of b o)
unfolding child_of
child-bounded b o h =
    between-bounded (corner o b.low b.center) (corner o b.center b.high) (corner-around o b.low b.center h.low h.center) (corner-around o b.center b.high h.center h.high)
