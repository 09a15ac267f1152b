-- From patterns to floats and back: a function on floats that goes by the bit patterns (`by_bits`). Assumes nothing.
use mathlib.Core.Path.{◌≡◌, ap, ◌∙◌}
use Prim.Native.Nat.{ℕ, ◌*◌}
use lib.Dec.{T}
use lib.Ieee.{Float, nan, inf, fin, Format, up, down, fits, of_bits, to_bits}
use lib.Ieee.Fits.{round-fits, inf-fits, nan-fits}
use lib.Ieee.Bits.{of_bits-to_bits}
use Rattle.floats.specs.Convert.{narrow_of}

-- ---- F on floats, by its pattern form: n is what that gives for the pattern of x
pub by_bits : (f h : Format) (F : Float → Float) (x : Float) (n : ℕ) → T (fits f x) → T (fits h (F x)) → n ≡ to_bits h (F (of_bits f (to_bits f x)))
    → of_bits h n ≡ F x
by_bits f h F x n X Y e = ap (of_bits h) (e ∙ ap (λ (y : Float). to_bits h (F y)) (of_bits-to_bits f x X)) ∙ of_bits-to_bits h (F x) Y

pub narrow-fits : (f : Format) (x : Float) → T (fits f (narrow_of f x))
unfolding narrow_of
narrow-fits f nan = nan-fits f
narrow-fits f (inf s) = inf-fits f s
narrow-fits f (fin s m e) = round-fits f s (m * up e) (down e)
