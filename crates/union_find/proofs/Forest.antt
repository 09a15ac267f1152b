-- Parents as a forest: how far a copy is from its root, and soundness as a record. Assumes nothing.
use mathlib.Core.Path.{◌≡◌, refl, sym, ap, ◌∙◌}
use mathlib.Core.Bool.{Bool, true, false}
use mathlib.Core.Logic.{◌↔◌}
use mathlib.Core.List.{List}
use Prim.Native.Nat.{ℕ, zero, suc, ◌≤◌, ◌<◌, zero-le, suc-le-suc}
use native.Mathlib.Nat.{le_refl, le_of_suc-le-suc, not-suc-le-zero}
use native.Mathlib.Omega.{arith}
use native.Mathlib.Decide.{ℕ_discrete}
use lib.ListN.{length, get_or}
use lib.Dec.{eqb, ltb}
use borrow.Author.Tests.{eq-eqb, ne_eqb, eqb-true, lt-ltb, ltb-true}
use Rattle.base.specs.Range.{all_below}
use Rattle.union_find.specs.Parents.{walk, root_of, reaches_root, sound_parents}
use Rattle.base.proofs.Ranges.{all_true, all-at}
use Rattle.base.proofs.Tests.{and_left, and_right}

-- from i the root r is d steps away
pub data Root (p : List ℕ) : ℕ → ℕ → ℕ → Type 0 where
  here : {r : ℕ} → get_or p r 0 ≡ r → Root p 0 r r
  up : {d i r : ℕ} → (get_or p i 0 ≡ i → ⊥) → Root p d (get_or p i 0) r → Root p (suc d) i r

-- two numbers are equal or not
pub decide : {P : Type 0} (a b : ℕ) → (a ≡ b → P) → ((a ≡ b → ⊥) → P) → P
decide {P} a b f g = go (ℕ_discrete a b)
  where
    go : Dec (a ≡ b) → P
    go (yes e) = f e
    go (no n) = g n

-- ---- walks
pub walk-root : (p : List ℕ) (k r : ℕ) → get_or p r 0 ≡ r → walk p k r ≡ r
unfolding walk
walk-root p zero r e = refl
walk-root p (suc k) r e = rw e (walk-root p k r e)

-- a walk that ends at a root
pub walk_ends : (p : List ℕ) (k i : ℕ) → get_or p (walk p k i) 0 ≡ walk p k i → (d : ℕ) × (d ≤ k) × Root p d i (walk p k i)
unfolding walk
walk_ends p zero i e = (0, le_refl 0, here e)
walk_ends p (suc k) i e =
    let w = walk_ends p k (get_or p i 0) e in
    decide (get_or p i 0) i
    (λ h. (0, zero-le, rw (h, walk-root p k i h) (here h)))
    (λ n. (suc w.0, suc-le-suc w.1, up n w.2))

-- the other way
pub walk-reaches : {p : List ℕ} {d i r : ℕ} (k : ℕ) → Root p d i r → d ≤ k → walk p k i ≡ r
unfolding walk
walk-reaches {p} k (here {r} e) h = walk-root p k r e
walk-reaches zero (up n w) h = absurd (not-suc-le-zero h)
walk-reaches (suc k) (up n w) h = walk-reaches k w (le_of_suc-le-suc h)

pub root_is : {p : List ℕ} {d i r : ℕ} → Root p d i r → d ≤ length p → root_of p i ≡ r
unfolding root_of
root_is {p} w h = walk-reaches (length p) w h

pub is-root : {p : List ℕ} {d i r : ℕ} → Root p d i r → get_or p r 0 ≡ r
is-root (here e) = e
is-root (up n w) = is-root w

-- a copy has one distance and one root
pub one-distance : {p : List ℕ} {d e i r s : ℕ} → Root p d i r → Root p e i s → d ≡ e
one-distance (here h) (here g) = refl
one-distance (here h) (up n w) = absurd (n h)
one-distance (up n v) (here g) = absurd (n g)
one-distance (up n v) (up m w) = ap suc (one-distance v w)

pub one-root : {p : List ℕ} {d e i r s : ℕ} → Root p d i r → Root p e i s → r ≡ s
one-root (here h) (here g) = refl
one-root (here h) (up n w) = absurd (n h)
one-root (up n v) (here g) = absurd (n g)
one-root (up n v) (up m w) = one-root v w

-- ---- soundness
-- each parent is below n
pub record Closed (p : List ℕ) : Type 0 where
  pub at : (i : ℕ) → i < length p → get_or p i 0 < length p

-- each parent is below n, and each copy reaches its root in n steps
pub record Sound (p : List ℕ) : Type 0 where
  pub closed : Closed p
  pub ends : (i : ℕ) → i < length p → get_or p (root_of p i) 0 ≡ root_of p i

pub closed_of : (p : List ℕ) → all_below (length p) (λ i. ltb (get_or p i 0) (length p)) ≡ true → Closed p
closed_of p e = record { at = λ i l. ltb-true _ _ (all-at (length p) (λ i. ltb (get_or p i 0) (length p)) i e l) }

-- the test of `specs/` says that
pub sound-parents : (p : List ℕ) → (sound_parents p ≡ true) ↔ Sound p
unfolding sound_parents reaches_root
sound-parents p = (there, back)
  where
    low : ℕ → Bool
    low i = ltb (get_or p i 0) (length p)

    there : sound_parents p ≡ true → Sound p
    there e =
        record {
          closed = closed_of p (and_left (all_below (length p) low) _ e);
          ends = λ i l. eqb-true _ _ (all-at (length p) (reaches_root p) i (and_right (all_below (length p) low) _ e) l);
        }

    back : Sound p → sound_parents p ≡ true
    back s =
        rw
        (all_true (length p) low (λ i l. lt-ltb _ _ (s.closed.at i l)), all_true (length p) (reaches_root p) (λ i l. eq-eqb _ _ (s.ends i l)))

-- the test in its two halves
pub sound-not : (p : List ℕ) → all_below (length p) (λ i. ltb (get_or p i 0) (length p)) ≡ false → false ≡ sound_parents p
unfolding sound_parents
sound-not p e = rw e

pub sound-rest : (p : List ℕ) → all_below (length p) (λ i. ltb (get_or p i 0) (length p)) ≡ true → all_below (length p) (reaches_root p) ≡ sound_parents p
unfolding sound_parents
sound-rest p e = rw e

-- what soundness gives at a copy
pub sound-root : (p : List ℕ) (i : ℕ) → Sound p → i < length p → (d : ℕ) × (d ≤ length p) × Root p d i (root_of p i)
unfolding root_of
sound-root p i s l = walk_ends p (length p) i (s.ends i l)

-- ---- the distance, as a function
count-step : Bool → ℕ → ℕ
count-step true d = 0
count-step false d = suc d

-- the steps from i until a root, at most k
pub far : ℕ → List ℕ → ℕ → ℕ
far zero p i = 0
far (suc k) p i = count-step (eqb (get_or p i 0) i) (far k p (get_or p i 0))

pub depth : List ℕ → ℕ → ℕ
depth p i = far (length p) p i

pub far-is : {p : List ℕ} {d i r : ℕ} (k : ℕ) → Root p d i r → d ≤ k → far k p i ≡ d
unfolding far count-step
far-is zero (here e) h = refl
far-is (suc k) (here {r} e) h = rw (eq-eqb _ _ e)
far-is zero (up n w) h = absurd (not-suc-le-zero h)
far-is (suc k) (up n w) h = rw (ne_eqb _ _ n) (ap suc (far-is k w (le_of_suc-le-suc h)))

pub depth_is : {p : List ℕ} {d i r : ℕ} → Root p d i r → d ≤ length p → depth p i ≡ d
unfolding depth
depth_is {p} w h = far-is (length p) w h

-- ---- a step up
up_root : {p : List ℕ} {d i r : ℕ} → d ≤ length p → Root p d i r → root_of p (get_or p i 0) ≡ r
up_root {p} h (here e) = ap (root_of p) e ∙ root_is (here e) zero-le
up_root h (up n w) = root_is w (omega arith)

-- the root stays
pub root-up : (p : List ℕ) (i : ℕ) → Sound p → i < length p → root_of p (get_or p i 0) ≡ root_of p i
root-up p i s l = let w = sound-root p i s l in up_root w.1 w.2

-- the distance falls by one
pub depth-up : (p : List ℕ) (i : ℕ) → Sound p → i < length p → (get_or p i 0 ≡ i → ⊥) → suc (depth p (get_or p i 0)) ≡ depth p i
depth-up p i s l m =
    let w = sound-root p i s l in
    go (root_of p i) w.1 w.2
  where
    go : (r : ℕ) {d : ℕ} → d ≤ length p → Root p d i r → suc (depth p (get_or p i 0)) ≡ depth p i
    go r h (here e) = absurd (m e)
    go r h (up n w) = ap suc (depth_is w (omega arith)) ∙ sym (depth_is (up n w) h)
