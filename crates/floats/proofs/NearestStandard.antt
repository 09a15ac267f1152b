-- `narrow_of` is IEEE 754's conversion of specs/Standard.antt, roundTiesToEven, for any format and any finite float (`narrow-is-nearest`), and no other
-- value is (`nearest-only`). Assumes nothing.
use mathlib.Core.Path.{◌≡◌, sym, ◌∙◌}
use Prim.Native.Nat.{◌*◌}
use lib.Dec.{T, leb→le, nleb→lt, le→leb}
use lib.Arith.{lt→nleb}
use lib.Ieee.{Float, nan, inf, fin, Format, up, down, round}
use lib.Ieee.Fits.{down_pos}
use lib.Ieee.Scale.{finite}
use lib.Ieee.Positive.{num, den, den_pos}
use Rattle.floats.specs.Convert.{narrow_of}
use Rattle.floats.specs.Standard.{sign, IsNearest}
use Rattle.floats.proofs.RoundNearest.{limit, Nearest, round-nearest, nearest-round}

-- ---- a finite x narrowed
of-nearest : (f : Format) (x y : Float) → T (finite x) → Nearest f (sign x) (num x) (den x) y → IsNearest f x y
of-nearest f x y d h = record {
  domain = d;
  held = h.held;
  signed = h.signed;
  large = λ o. h.large (leb→le (limit f * den x) (num x) o);
  number = λ o. h.number (nleb→lt (limit f * den x) (num x) o);
  nearest = h.nearest;
  even = h.even;
}

-- For any format, and any finite x, whether the format holds it or not: `narrow_of f x` is the value of the format nearest to x.
pub narrow-is-nearest : (f : Format) (x : Float) → T (finite x) → IsNearest f x (narrow_of f x)
unfolding narrow_of
narrow-is-nearest f nan h = absurd h
narrow-is-nearest f (inf s) h = absurd h
narrow-is-nearest f (fin s m e) h = of-nearest f (fin s m e) (round f s (m * up e) (down e)) h (round-nearest f s (m * up e) (down e) (down_pos e))

to-nearest : (f : Format) (x y : Float) → IsNearest f x y → Nearest f (sign x) (num x) (den x) y
to-nearest f x y h = record {
  held = h.held;
  signed = h.signed;
  large = λ l. h.large (le→leb (limit f * den x) (num x) l);
  number = λ l. h.number (lt→nleb (limit f * den x) (num x) l);
  nearest = h.nearest;
  even = h.even;
}

-- `IsNearest f x` holds of one value only.
pub nearest-only : (f : Format) (x y z : Float) → IsNearest f x y → IsNearest f x z → y ≡ z
nearest-only f x y z h k =
    nearest-round f (sign x) (num x) (den x) (den_pos x) y (to-nearest f x y h)
    ∙ sym (nearest-round f (sign x) (num x) (den x) (den_pos x) z (to-nearest f x z k))
