-- A value is between -h and h where the larger of it and its opposite is at most h: one test for two. For all floats. Assumes nothing.
use mathlib.Core.Path.{◌≡◌, refl, subst}
use mathlib.Core.Bool.{Bool, true, false, not, cond, ◌&&◌, ◌||◌}
use Prim.Native.Nat.{◌+◌, ◌*◌, zero-le}
use native.Mathlib.Omega.{arith}
use lib.Dec.{T, nltb→le}
use lib.Ieee.{Float, nan, inf, fin, up, down, neg, lt, eq, le}
use Rattle.floats.proofs.Signs.{neg-neg}
use Rattle.floats.proofs.Signed.{to-test, le-trans-finite, neg-le}

-- ---- the order of all values but NaN
least : (z y : Float) → T (le y z) → T (le (inf true) z)
unfolding le lt eq
least nan nan k = absurd k
least nan (inf t) k = absurd k
least nan (fin t n d) k = absurd k
least (inf true) y k = tt
least (inf false) y k = tt
least (fin u o c) y k = tt

pub le-trans-all : (x y z : Float) → T (le x y) → T (le y z) → T (le x z)
unfolding le lt eq
le-trans-all nan y z h k = absurd h
le-trans-all (inf true) nan z h k = absurd h
le-trans-all (inf true) (inf t) z h k = least z (inf t) k
le-trans-all (inf true) (fin t n d) z h k = least z (fin t n d) k
le-trans-all (inf false) nan z h k = absurd h
le-trans-all (inf false) (inf true) z h k = absurd h
le-trans-all (inf false) (inf false) z h k = k
le-trans-all (inf false) (fin t n d) z h k = absurd h
le-trans-all (fin s m e) nan z h k = absurd h
le-trans-all (fin s m e) (inf true) z h k = absurd h
le-trans-all (fin s m e) (inf false) nan h k = absurd k
le-trans-all (fin s m e) (inf false) (inf true) h k = absurd k
le-trans-all (fin s m e) (inf false) (inf false) h k = tt
le-trans-all (fin s m e) (inf false) (fin u o c) h k = absurd k
le-trans-all (fin s m e) (fin t n d) nan h k = absurd k
le-trans-all (fin s m e) (fin t n d) (inf true) h k = absurd k
le-trans-all (fin s m e) (fin t n d) (inf false) h k = tt
le-trans-all (fin s m e) (fin t n d) (fin u o c) h k = le-trans-finite (fin s m e) (fin t n d) (fin u o c) tt tt tt h k

lt-le : (x y : Float) → T (lt x y) → T (le x y)
unfolding le
lt-le x y h = go (lt x y) h
  where
    go : (t : Bool) → T t → T (t || eq x y)
    go true h = tt
    go false h = absurd h

-- what is not below its opposite is at least that
neg-below : (x h : Float) → T (not (lt x (neg x))) → T (le x h) → T (le (neg x) x)
unfolding le lt eq neg
neg-below nan h n p = absurd p
neg-below (inf true) h n p = absurd n
neg-below (inf false) h n p = tt
neg-below (fin true m e) h n p =
    let a = m * up e * down e in
    to-test false a true a (omega (arith, nltb→le 0 (a + a) n))
neg-below (fin false m e) h n p = to-test true (m * up e * down e) false (m * up e * down e) zero-le

-- ---- one test for two
same : (a b : Bool) → (T a → T b) → (T b → T a) → a ≡ b
same true true f g = refl
same true false f g = absurd (f tt)
same false true f g = absurd (g tt)
same false false f g = refl

and-true : (a b : Bool) → T a → T b → T (a && b)
and-true true b p q = q
and-true false b p q = elim p [ ]

and_first : (a b : Bool) → T (a && b) → T a
and_first true b p = tt
and_first false b p = elim p [ ]

and_second : (a b : Bool) → T (a && b) → T b
and_second true b p = p
and_second false b p = elim p [ ]

module _ (x h : Float) where
  at_most : (t : Bool) → (T t → T (lt x (neg x))) → (T (not t) → T (not (lt x (neg x)))) → T (le (cond t (neg x) x) h) → T (le x h && le (neg h) x)
  at_most true y n p =
      and-true (le x h) (le (neg h) x) (le-trans-all x (neg x) h (lt-le x (neg x) (y tt)) p)
      (subst (λ (z : Float). T (le (neg h) z)) (neg-neg x) (neg-le (neg x) h p))
  at_most false y n p = and-true (le x h) (le (neg h) x) p (le-trans-all (neg h) (neg x) x (neg-le x h p) (neg-below x h (n tt) p))

  at_least : (t : Bool) → T (le x h && le (neg h) x) → T (le (cond t (neg x) x) h)
  at_least true p = subst (λ (z : Float). T (le (neg x) z)) (neg-neg h) (neg-le (neg h) x (and_second (le x h) (le (neg h) x) p))
  at_least false p = and_first (le x h) (le (neg h) x) p

  pub between : le (cond (lt x (neg x)) (neg x) x) h ≡ (le x h && le (neg h) x)
  between = same _ _ (at_most (lt x (neg x)) (λ p. p) (λ p. p)) (at_least (lt x (neg x)))
