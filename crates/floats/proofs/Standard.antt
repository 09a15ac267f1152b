-- The claim of specs/Standard.antt: whatever the argument, each definition gives the one value that IEEE 754's relation holds of.
-- A number by the laws of `WholeStandard`, `NearestStandard` and `RootStandard`; at a special value the domain rules the number's case out.
-- Assumes nothing.
use mathlib.Core.Path.{◌≡◌, refl, sym, ◌∙◌, subst}
use mathlib.Core.Logic.{◌↔◌, ◌⊎◌, ⊎_elim, inl, inr}
use mathlib.Core.Bool.{true, false}
use Prim.Native.Nat.{zero, suc}
use native.Mathlib.Nat.{zero-lt-suc}
use lib.Dec.{T, lt→ltb}
use lib.Ieee.{Float, nan, inf, fin, Format, binary32, binary64, fits}
use lib.Ieee.Fits.{fits_widens}
use Rattle.floats.specs.Whole.{floor_of, round_of}
use Rattle.floats.specs.Convert.{narrow_of}
use Rattle.floats.specs.Root.{sqrt_of}
use Rattle.floats.specs.Standard.{FloorsTo, RoundsTo, ConvertsTo, HasRoot, MeetsStandard}
use Rattle.floats.proofs.SameValue.{own-round}
use Rattle.floats.proofs.WholeStandard.{floor-is, floor-only, round-is-nearest, round-only}
use Rattle.floats.proofs.NearestStandard.{narrow-is-nearest, nearest-only}
use Rattle.floats.proofs.RootStandard.{root-is-nearest, root-unique}

-- ---- the two cases of a relation
-- a number, where R holds of v and of no two values
in-domain : {R : Float → Type 0} (v : Float) → R v → ((y z : Float) → R y → R z → y ≡ z) → (y : Float) → (R y ⊎ ⊥) ↔ (y ≡ v)
in-domain {R} v h only y = (⊎_elim (λ r. only y v r h) (λ b. absurd b), λ e. inl (subst R (sym e) h))

-- a special value, which is outside the domain
outside : {N : Type 0} {y v : Float} → (N → ⊥) → (N ⊎ (y ≡ v)) ↔ (y ≡ v)
outside n = (⊎_elim (λ d. absurd (n d)) (λ e. e), inr)

-- ---- the operations
floors : (f : Format) (x : Float) → T (fits f x) → (y : Float) → FloorsTo f x y ↔ (y ≡ floor_of f x)
unfolding floor_of
floors f nan F y = outside (λ r. r.domain)
floors f (inf s) F y = outside (λ r. r.domain)
floors f (fin s m e) F y = let x = fin s m e in in-domain (floor_of f x) (floor-is f x F tt) (floor-only f x) y

rounds : (f : Format) (x : Float) → T (fits f x) → (y : Float) → RoundsTo f x y ↔ (y ≡ round_of f x)
unfolding round_of
rounds f nan F y = outside (λ r. r.domain)
rounds f (inf s) F y = outside (λ r. r.domain)
rounds f (fin s m e) F y = let x = fin s m e in in-domain (round_of f x) (round-is-nearest f x F tt) (round-only f x) y

converts : (f : Format) (x y : Float) → ConvertsTo f x y ↔ (y ≡ narrow_of f x)
unfolding narrow_of
converts f nan y = outside (λ r. r.domain)
converts f (inf s) y = outside (λ r. r.domain)
converts f (fin s m e) y = let x = fin s m e in in-domain (narrow_of f x) (narrow-is-nearest f x tt) (nearest-only f x) y

-- what the format holds is its own conversion
own-conversion : (f : Format) (x : Float) → T (fits f x) → narrow_of f x ≡ x
unfolding narrow_of
own-conversion f nan F = refl
own-conversion f (inf s) F = refl
own-conversion f (fin s m e) F = own-round f s m e F

widens : (x : Float) → T (fits binary32 x) → (y : Float) → ConvertsTo binary64 x y ↔ (y ≡ x)
widens x F y =
    let own = own-conversion binary64 x (fits_widens x F) in
    let c = converts binary64 x y in
    (λ h. c.0 h ∙ own, λ e. c.1 (e ∙ sym own))

roots : (f : Format) (x : Float) → T (fits f x) → (y : Float) → HasRoot f x y ↔ (y ≡ sqrt_of f x)
unfolding sqrt_of
roots f nan F y = outside (λ r. r.domain)
roots f (inf true) F y = outside (λ r. r.domain)
roots f (inf false) F y = outside (λ r. r.domain)
roots f (fin true zero e) F y = outside (λ r. r.domain)
roots f (fin false zero e) F y = outside (λ r. r.domain)
roots f (fin true (suc m) e) F y = outside (λ r. r.domain)
roots f (fin false (suc m) e) F y =
    let x = fin false (suc m) e in
    in-domain (sqrt_of f x) (root-is-nearest f x F (lt→ltb 0 (suc m) (zero-lt-suc m))) (root-unique f x) y

pub standard : MeetsStandard
standard = record { floors = floors; rounds = rounds; converts = converts; widens = widens; roots = roots }
