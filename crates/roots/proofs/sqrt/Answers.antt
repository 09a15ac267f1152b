-- `roots::sqrt` meets its contract: it goes by the bit patterns, and a value comes back from its pattern. Assumes nothing.
use Rattle.std.proofs.Common.{◌≡◌, ℕ, Float, T, sym, subst, refl, ap, ◌∙◌}
use lib.Ieee.{nan, Format, of_bits, to_bits}
use lib.Ieee.Bits.{of_bits-fits, of_bits-to_bits}
use Rattle.floats.specs.Root.{sqrt_of}
use Rattle.floats.proofs.Patterns.{nan-of}
use Rattle.floats.proofs.RootUnits.{sqrt-fits}
use Rattle.roots.proofs.sqrt.Goals as goal

nan-root : (f : Format) (x : Float) → x ≡ nan → x ≡ sqrt_of f x
unfolding sqrt_of
nan-root f x h = subst (λ (y : Float). y ≡ sqrt_of f y) (sym h) refl

through : (f : Format) (x : Float) (n : ℕ) → of_bits f n ≡ x → of_bits f (to_bits f (sqrt_of f (of_bits f n))) ≡ sqrt_of f x
through f x n e = of_bits-to_bits f (sqrt_of f (of_bits f n)) (sqrt-fits f (of_bits f n) (of_bits-fits f n)) ∙ ap (sqrt_of f) e

pub returns-then-is_nan : goal.returns-then-is_nan
returns-then-is_nan g c =
    let x = g.W.Width.value c.args.x in
    nan-root g.W.Width.format x (nan-of x (subst T (sym c.if-is_nan.true ∙ c.is_nan.ensures) tt))

pub returns : goal.returns
returns g c =
    let f = g.W.Width.format in
    rw (c.from_bits.ensures, c.sqrt_bits.ensures) (through f (g.W.Width.value c.args.x) (g.W.Width.number c.bits.result) c.bits.ensures.back)
