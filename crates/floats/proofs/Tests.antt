-- The answer of a test as a fact. Assumes nothing.
use mathlib.Core.Path.{◌≡◌, sym, subst}
use mathlib.Core.Bool.{Bool, true, false, not, ◌&&◌, and-eq-true_iff}
use lib.Dec.{T}

pub holds : {b : Bool} → b ≡ true → T b
holds h = subst T (sym h) tt

pub fails : {b : Bool} → b ≡ false → T (not b)
fails h = subst (λ (a : Bool). T (not a)) (sym h) tt

pub both : (a b : Bool) → a && b ≡ true → (a ≡ true) × (b ≡ true)
both a b = (and-eq-true_iff a b).0
