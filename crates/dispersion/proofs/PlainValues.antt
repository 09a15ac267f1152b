-- Results that are `plain`, no NaN and with no minus sign: sums, quotients by what is above zero, roots and narrowings of what is plain. Infinities may come, so nothing is
-- asked of the size. Assumes nothing.
use mathlib.Core.Path.{sym, subst}
use mathlib.Core.Bool.{true, false}
use Prim.Native.Nat.{zero, suc, ◌+◌, ◌*◌}
use native.Mathlib.Nat.{zero-lt-suc}
use lib.Dec.{T, lt→ltb, ltb→lt}
use lib.Ieee.{Float, nan, inf, fin, Format, up, down, fits, add, div}
use lib.Ieee.Positive.{positive, positive-finite}
use lib.Ieee.Scale.{finite}
use Rattle.floats.specs.Convert.{narrow_of}
use Rattle.floats.specs.Root.{root_units, sqrt_of}
use Rattle.floats.proofs.Signs.{plain, plain-round, plain-units}
use Rattle.floats.proofs.Operations.{div_is}
use Rattle.floats.proofs.RootStandard.{root-is-nearest}

pub add-plain : (f : Format) (x y : Float) → T (plain x) → T (plain y) → T (plain (add f x y))
unfolding add
add-plain f nan y p q = absurd p
add-plain f (inf true) y p q = absurd p
add-plain f (inf false) nan p q = absurd q
add-plain f (inf false) (inf true) p q = absurd q
add-plain f (inf false) (inf false) p q = tt
add-plain f (inf false) (fin t n d) p q = tt
add-plain f (fin true m e) y p q = absurd p
add-plain f (fin false m e) nan p q = absurd q
add-plain f (fin false m e) (inf true) p q = absurd q
add-plain f (fin false m e) (inf false) p q = tt
add-plain f (fin false m e) (fin true n d) p q = absurd q
add-plain f (fin false m e) (fin false n d) p q = plain-round f (m * up e * down d + n * up d * down e) (down e * down d)

pub div-plain : (f : Format) (x y : Float) → T (plain x) → T (positive y) → T (plain (div f x y))
unfolding div
div-plain f nan y p q = absurd p
div-plain f (inf true) y p q = absurd p
div-plain f (inf false) nan p q = absurd q
div-plain f (inf false) (inf t) p q = absurd q
div-plain f (inf false) (fin true n d) p q = absurd q
div-plain f (inf false) (fin false n d) p q = tt
div-plain f (fin true m e) y p q = absurd p
div-plain f (fin false m e) nan p q = absurd q
div-plain f (fin false m e) (inf t) p q = absurd q
div-plain f (fin false m e) (fin true n d) p q = absurd q
div-plain f (fin false m e) (fin false n d) p q = subst (λ (z : Float). T (plain z)) (sym (div_is f false m e false n d (ltb→lt 0 n q))) (plain-round f (m * up e * down d) (n * up d * down e))

pub sqrt-plain : (f : Format) (x : Float) → T (plain x) → T (plain (sqrt_of f x))
unfolding sqrt_of root_units
sqrt-plain f nan p = absurd p
sqrt-plain f (inf true) p = absurd p
sqrt-plain f (inf false) p = tt
sqrt-plain f (fin true m e) p = absurd p
sqrt-plain f (fin false zero e) p = tt
sqrt-plain f (fin false (suc m) e) p = plain-units f _ _

pub narrow-plain : (f : Format) (x : Float) → T (plain x) → T (plain (narrow_of f x))
unfolding narrow_of
narrow-plain f nan p = absurd p
narrow-plain f (inf true) p = absurd p
narrow-plain f (inf false) p = tt
narrow-plain f (fin true m e) p = absurd p
narrow-plain f (fin false m e) p = plain-round f (m * up e) (down e)

-- the root of a finite one is finite
pub sqrt-finite : (f : Format) (x : Float) → T (fits f x) → T (finite x) → T (plain x) → T (finite (sqrt_of f x))
unfolding sqrt_of
sqrt-finite f nan h p q = absurd p
sqrt-finite f (inf s) h p q = absurd p
sqrt-finite f (fin true m e) h p q = absurd q
sqrt-finite f (fin false zero e) h p q = tt
sqrt-finite f (fin false (suc m) e) h p q = positive-finite (sqrt_of f (fin false (suc m) e)) (root-is-nearest f (fin false (suc m) e) h (lt→ltb 0 (suc m) (zero-lt-suc m))).above_zero
