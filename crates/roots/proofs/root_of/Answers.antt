-- `roots::root_of` meets its contract: m shifted up has 53 digits (`RootCut`), and the shift keeps m * 2 ^ t. Assumes nothing.
use mathlib.Core.Path.{◌≡◌, ap, ◌∙◌, subst}
use Prim.Native.Nat.{ℕ, suc, ◌-◌, ◌*◌, ◌%◌, ◌^◌, ◌≤◌}
use native.Mathlib.Nat.{lt_of_lt_of_le, mod-eq_of_lt}
use native.Mathlib.Omega.{arith}
use lib.Dec.{lit≤}
use lib.Count.{count_leading_zeros}
use Rattle.floats.specs.Root.{root_drop, root_digits}
use Rattle.floats.proofs.RootCut.{Shifted, shifted, shift_same, one_up}
use Rattle.roots.proofs.root_of.Goals as goal

-- the root of the shifted number is the root of m * 2 ^ t
same : (p a b x y : ℕ) → a ≡ b → (x ≡ suc (root_drop p a)) × (y ≡ root_digits p a) → (x ≡ suc (root_drop p b)) × (y ≡ root_digits p b)
same p a b x y e h = subst (λ (n : ℕ). (x ≡ suc (root_drop p n)) × (y ≡ root_digits p n)) e h

-- nothing is lost above
whole : (m : ℕ) → Shifted m (count_leading_zeros 64 m)
    → m * 2 ^ (count_leading_zeros 64 m - 11) % 2 ^ 64 ≡ m * 2 ^ (count_leading_zeros 64 m - 11)
whole m u = mod-eq_of_lt (lt_of_lt_of_le u.short (lit≤ tt))

number : (m t : ℕ) → Shifted m (count_leading_zeros 64 m) → 120 ≤ t
    → m * 2 ^ (count_leading_zeros 64 m - 11) % 2 ^ 64 * 2 ^ (t - (count_leading_zeros 64 m - 11)) ≡ m * 2 ^ t
number m t u h =
    ap (λ (d : ℕ). d * 2 ^ (t - (count_leading_zeros 64 m - 11))) (whole m u) ∙ shift_same m (count_leading_zeros 64 m - 11) t (omega arith)

pub overflow_cast-s : goal.overflow_cast-s
overflow_cast-s c = let u = shifted c.args.m c.requires.0 c.requires.1 in omega arith

pub overflow_sub-s : goal.overflow_sub-s
overflow_sub-s c = (shifted c.args.m c.requires.0 c.requires.1).room

pub overflow_shl-d : goal.overflow_shl-d
overflow_shl-d c = let u = shifted c.args.m c.requires.0 c.requires.1 in omega arith

pub overflow_sub-e : goal.overflow_sub-e
overflow_sub-e c = let u = shifted c.args.m c.requires.0 c.requires.1 in omega arith

pub even_root-requires : goal.even_root-requires
even_root-requires c =
    let u = shifted c.args.m c.requires.0 c.requires.1 in
    omega (arith, whole c.args.m u)

pub returns-then-e-eq0 : goal.returns-then-e-eq0
returns-then-e-eq0 c =
    let k = c.args in
    let r = c.even_root in
    same k.p _ (k.m * 2 ^ k.t) r.result.exponent r.result.digits (number k.m k.t (shifted k.m c.requires.0 c.requires.1) c.requires.2) r.ensures

pub overflow_mul-d : goal.overflow_mul-d
overflow_mul-d c =
    let u = shifted c.args.m c.requires.0 c.requires.1 in
    omega (arith, whole c.args.m u)

pub even_root-requires-2 : goal.even_root-requires-2
even_root-requires-2 c =
    let u = shifted c.args.m c.requires.0 c.requires.1 in
    omega (arith, whole c.args.m u)

pub returns : goal.returns
returns c =
    let k = c.args in
    let r = c.even_root-2 in
    let u = shifted k.m c.requires.0 c.requires.1 in
    same k.p _ (k.m * 2 ^ k.t) r.result.exponent r.result.digits
    (one_up (k.m * 2 ^ (count_leading_zeros 64 k.m - 11) % 2 ^ 64) (k.t - (count_leading_zeros 64 k.m - 11)) (omega arith) ∙ number k.m k.t u c.requires.2)
    r.ensures
