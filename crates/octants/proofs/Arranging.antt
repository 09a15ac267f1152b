-- Lists that stand one after the other by octant: where each begins, the whole from its stretches, and that the octants have every point.
-- Assumes nothing.
use mathlib.Core.Path.{◌≡◌, refl, sym, ap, subst, ◌∙◌}
use mathlib.Core.Logic.{◌⊎◌, inl, inr, ⊎_elim}
use mathlib.Core.Bool.{Bool, true, false, cond}
use mathlib.Core.List.{List, [], ◌∷◌, ◌++◌}
use Prim.Native.Nat.{ℕ, zero, suc, ◌+◌, ◌-◌, ◌*◌, ◌≤◌, ◌<◌}
use native.Mathlib.Numerals.{add-one}
use native.Mathlib.Omega.{arith}
use lib.Dec.{eqb, ltb}
use lib.ListN.{length, take, drop, get_or, length-append, take-append-drop, drop_of_length-le}
use lib.Seq.{drop-drop}
use lib.Ieee.{Float, nan, lt}
use borrow.Author.Tests.{lt-ltb, le-ltb, eq-eqb, ne_eqb}
use Rattle.base.proofs.Tests.{bit_le}
use Rattle.cell.specs.Cell.{point_at}
use Rattle.cell.specs.declared.Vec3.{Vec3}
use Rattle.bounds.specs.Bounds.{octant_at}
use Rattle.octants.specs.Octants.{passing, octant_points}
use Rattle.octants.specs.Inner.{sum_before, lists_from, by_octant}

-- ---- octants
cond_small : (t : Bool) (a : ℕ) → a < 8 → cond t a 0 < 8
cond_small true a h = h
cond_small false a h = omega arith

pub octant-small : (points : List Float) (c : Vec3) (i : ℕ) → octant_at points c i < 8
unfolding octant_at point_at
octant-small points c i =
    cond_small (ltb (i * 3 + 2) (length points)) _
    (omega (arith, bit_le (lt c.x (get_or points (i * 3) nan)), bit_le (lt c.y (get_or points (i * 3 + 1) nan)), bit_le (lt c.z (get_or points (i * 3 + 2) nan))))

-- ---- sums
pub three_ways : (o k : ℕ) → (o < k) ⊎ ((o ≡ k) ⊎ (k < o))
three_ways zero zero = inr (inl refl)
three_ways zero (suc k) = inl (omega arith)
three_ways (suc o) zero = inr (inr (omega arith))
three_ways (suc o) (suc k) = ⊎_elim (λ h. inl (omega arith)) (⊎_elim (λ e. inr (inl (ap suc e))) (λ h. inr (inr (omega arith)))) (three_ways o k)

-- what holds of k and of every other number holds of o
pub same-or-other : (P : ℕ → Type 0) (k o : ℕ) → P k → ((o ≡ k → ⊥) → P o) → P o
same-or-other P k o p q = ⊎_elim (λ h. q (λ e. omega arith)) (⊎_elim (λ e. subst P (sym e) p) (λ h. q (λ e. omega arith))) (three_ways o k)

pub sum-start : (n : ℕ → ℕ) → sum_before n 0 ≡ 0
unfolding sum_before
sum-start n = refl

pub sum_more : (n : ℕ → ℕ) (o : ℕ) → sum_before n (o + 1) ≡ sum_before n o + n o
unfolding sum_before
sum_more n o = rw (add-one o) refl

-- what comes before o, and o itself, is part of what comes before a later m
pub sum-within : (n : ℕ → ℕ) (o m : ℕ) → o < m → sum_before n o + n o ≤ sum_before n m
unfolding sum_before
sum-within n o zero h = absurd (omega arith)
sum-within n o (suc m) h =
    ⊎_elim (λ k. omega (arith, sum-within n o m k)) (⊎_elim (λ e. rw e (omega arith)) (λ k. absurd (omega arith))) (three_ways o m)

pub sum_same : (n m : ℕ → ℕ) (k : ℕ) → ((o : ℕ) → o < k → n o ≡ m o) → sum_before n k ≡ sum_before m k
unfolding sum_before
sum_same n m zero e = refl
sum_same n m (suc k) e = omega (arith, sum_same n m k (λ o h. e o (omega arith)), e k (omega arith))

-- one more at k is one more in what comes before any later m
sum-bit : (k m : ℕ) → cond (ltb k m) 1 0 + cond (eqb k m) 1 0 ≡ cond (ltb k (suc m)) 1 0
sum-bit k m =
    ⊎_elim
    (λ h. rw (lt-ltb k m h, ne_eqb k m (λ e. omega arith), lt-ltb k (suc m) (omega arith)) refl)
    (⊎_elim
    (λ e. rw (le-ltb k m (omega arith), eq-eqb k m e, lt-ltb k (suc m) (omega arith)) refl)
    (λ h. rw (le-ltb k m (omega arith), ne_eqb k m (λ e. omega arith), le-ltb k (suc m) (omega arith)) refl))
    (three_ways k m)

pub sum_one : (n m : ℕ → ℕ) (k : ℕ) → ((o : ℕ) → m o ≡ n o + cond (eqb k o) 1 0) → (j : ℕ) → sum_before m j ≡ sum_before n j + cond (ltb k j) 1 0
unfolding sum_before
sum_one n m k e zero = rw (le-ltb k 0 (omega arith)) refl
sum_one n m k e (suc j) = omega (arith, sum_one n m k e j, e j, sum-bit k j)

-- ---- lists one after the other
-- the lists before, and those from there on, are as long as all eight
lists-sum : (f : ℕ → List ℕ) (left : ℕ) → left ≤ 8 → sum_before (λ o. length (f o)) (8 - left) + length (lists_from f left) ≡ sum_before (λ o. length (f o)) 8
unfolding lists_from
lists-sum f zero h = omega arith
lists-sum f (suc left) h =
    let e : 8 - suc left ≡ 7 - left = omega arith in
    let k : 8 - left ≡ 7 - left + 1 = omega arith in
    let q : sum_before (λ o. length (f o)) (8 - left) ≡ sum_before (λ o. length (f o)) (7 - left) + length (f (7 - left)) =
    ap (sum_before (λ o. length (f o))) k ∙ sum_more (λ o. length (f o)) (7 - left) in
    rw e (omega (arith, lists-sum f left (omega arith), q, length-append (f (7 - left)) (lists_from f left)))

pub lists-same : (f g : ℕ → List ℕ) → ((o : ℕ) → f o ≡ g o) → (left : ℕ) → lists_from f left ≡ lists_from g left
unfolding lists_from
lists-same f g e zero = refl
lists-same f g e (suc left) = rw (e (7 - left), lists-same f g e left) refl

-- a list that has each f o in its place is all of them
module _ (f : ℕ → List ℕ) (x : List ℕ) (all : length x ≡ sum_before (λ o. length (f o)) 8)
    (has : (o : ℕ) → o < 8 → take (length (f o)) (drop (sum_before (λ o. length (f o)) o) x) ≡ f o) where
  lists-rest : (left : ℕ) → left ≤ 8 → drop (sum_before (λ o. length (f o)) (8 - left)) x ≡ lists_from f left
  unfolding lists_from
  lists-rest zero h = drop_of_length-le x {i = sum_before (λ o. length (f o)) 8} (omega (arith, all))
  lists-rest (suc left) h =
      let n : ℕ → ℕ = λ o. length (f o) in
      let e : 8 - suc left ≡ 7 - left = omega arith in
      let k : 7 - left + 1 ≡ 8 - left = omega arith in
      let q : sum_before n (7 - left) + n (7 - left) ≡ sum_before n (8 - left) = sym (sum_more n (7 - left)) ∙ ap (sum_before n) k in
      ap (λ (i : ℕ). drop (sum_before n i) x) e
      ∙ sym (take-append-drop (n (7 - left)) (drop (sum_before n (7 - left)) x))
      ∙ ap (λ (u : List ℕ). u ++ drop (n (7 - left)) (drop (sum_before n (7 - left)) x)) (has (7 - left) (omega arith))
      ∙ ap (λ (u : List ℕ). f (7 - left) ++ u) (drop-drop (n (7 - left)) (sum_before n (7 - left)) x ∙ ap (λ (i : ℕ). drop i x) q ∙ lists-rest left (omega arith))

  pub lists-whole : x ≡ lists_from f 8
  lists-whole = ap (λ (i : ℕ). drop i x) (sym (sum-start (λ o. length (f o)))) ∙ lists-rest 8 (omega arith)

-- ---- a list of points by octant has them all
cons-length : (t : Bool) (v : ℕ) (x : List ℕ) → length (cond t (v ∷ x) x) ≡ length x + cond t 1 0
cons-length true v x = omega arith
cons-length false v x = omega arith

pub octants-sum : (points : List Float) (c : Vec3) (l : List ℕ) → sum_before (λ o. length (octant_points points c o l)) 8 ≡ length l
unfolding passing sum_before
octants-sum points c [] = refl
octants-sum points c (v ∷ l) =
    let k = octant_at points c v in
    sum_one (λ o. length (octant_points points c o l)) (λ o. length (octant_points points c o (v ∷ l))) k
    (λ o. cons-length (eqb k o) v (octant_points points c o l)) 8
    ∙ omega (arith, octants-sum points c l, ap {B = ℕ} (λ (t : Bool). cond t 1 0) (lt-ltb k 8 (octant-small points c v)))

pub octants-length : (points : List Float) (c : Vec3) (l : List ℕ) → length (lists_from (by_octant points c l) 8) ≡ length l
octants-length points c l =
    omega (arith, lists-sum (by_octant points c l) 8 (omega arith), sum-start (λ o. length (by_octant points c l o)), octants-sum points c l)

pub octant-few : (points : List Float) (c : Vec3) (l : List ℕ) (o : ℕ) → o < 8 → length (octant_points points c o l) ≤ length l
octant-few points c l o h = omega (arith, octants-sum points c l, sum-within (λ k. length (octant_points points c k l)) o 8 h)
