-- The largest set with one root is the largest cluster of the graph whose chains the sets are. Assumes nothing.
use mathlib.Core.Path.{◌≡◌, refl, sym, ap, ◌∙◌, subst}
use mathlib.Core.Bool.{Bool, true, false, true≢false}
use mathlib.Core.Logic.{◌↔◌}
use mathlib.Core.List.{List}
use Prim.Native.Nat.{ℕ, ◌≤◌, ◌<◌}
use native.Mathlib.Nat.{le_antisymm}
use native.Mathlib.Omega.{arith}
use lib.ListN.{length}
use lib.Dec.{eqb}
use borrow.Author.Tests.{eq-eqb, ne_eqb, eqb-true}
use Rattle.union_find.specs.Parents.{root_of, set_size, largest_set}
use Rattle.union_find.proofs.Forest.{Sound, sound-root}
use Rattle.union_find.proofs.Trails.{root_below}
use Rattle.base.proofs.Ranges.{count_same, greatest-at, greatest-is, count-some, count-pos}
use Rattle.clusters.specs.Graph.{Chain, Cluster, Largest}

module _ {g : ℕ → ℕ → Bool} (p : List ℕ) (s : Sound p) (sets : (i j : ℕ) → i < length p → j < length p → (root_of p i ≡ root_of p j) ↔ Chain g i j) where
  root-low : (i : ℕ) → i < length p → root_of p i < length p
  root-low i l = let w = sound-root p i s l in root_below s.closed l w.2

  -- the copies under i's root are i's cluster
  cluster-size : (i m : ℕ) → i < length p → Cluster (length p) g i m → set_size p (root_of p i) ≡ m
  unfolding set_size
  cluster-size i m l c =
      count_same (length p) (λ j. eqb (root_of p j) (root_of p i)) c.member (λ j h. same j h (c.member j) refl) ∙ c.size
    where
      same : (j : ℕ) → j < length p → (b : Bool) → c.member j ≡ b → eqb (root_of p j) (root_of p i) ≡ b
      same j h true e = eq-eqb _ _ (sym ((sets i j l h).1 ((c.right j h).0 e)))
      same j h false e = ne_eqb _ _ (λ d. true≢false (sym ((c.right j h).1 ((sets i j l h).0 (sym d))) ∙ e))

  cluster-of : (i : ℕ) → i < length p → Cluster (length p) g i (set_size p (root_of p i))
  unfolding set_size
  cluster-of i l =
      record {
        member = λ j. eqb (root_of p j) (root_of p i);
        right = λ j h. (λ e. (sets i j l h).0 (sym (eqb-true _ _ e)), λ c. eq-eqb _ _ (sym ((sets i j l h).1 c)));
        size = refl;
      }

  -- a root that has copies under it is the root of one of them
  some-under : (r : ℕ) → 0 < set_size p r → (j : ℕ) × (j < length p) × (root_of p j ≡ r)
  unfolding set_size
  some-under r l = let w = count-some (length p) (λ i. eqb (root_of p i) r) l in (w.0, w.1, eqb-true _ _ w.2)

  self-under : (i : ℕ) → i < length p → 0 < set_size p (root_of p i)
  unfolding set_size
  self-under i l = count-pos (length p) (λ j. eqb (root_of p j) (root_of p i)) i l (eq-eqb (root_of p i) (root_of p i) refl)

  -- each copy's set is at most the largest
  set-le : (i : ℕ) → i < length p → set_size p (root_of p i) ≤ largest_set p
  unfolding largest_set
  set-le i l = greatest-at (length p) (set_size p) (root_of p i) (root-low i l)

  -- and the largest is some copy's
  set_is : 0 < length p → (j : ℕ) × (j < length p) × (set_size p (root_of p j) ≡ largest_set p)
  unfolding largest_set
  set_is h =
      let w = greatest-is (length p) (set_size p) h in
      let j = some-under w.0 (omega (arith, w.2, set-le 0 h, self-under 0 h)) in
      (j.0, j.1, ap (set_size p) j.2 ∙ w.2)

  pub largest-of : 0 < length p → Largest (length p) g (largest_set p)
  largest-of h =
      let w = set_is h in
      record {
        some = w.0;
        below = w.1;
        reached = subst (Cluster (length p) g w.0) w.2 (cluster-of w.0 w.1);
        most = λ i k l c. subst (λ (m : ℕ). m ≤ largest_set p) (cluster-size i k l c) (set-le i l);
      }

-- a graph has one largest size
pub one-largest : {n : ℕ} {g : ℕ → ℕ → Bool} {m k : ℕ} → Largest n g m → Largest n g k → m ≡ k
one-largest {m = m} {k = k} a b = le_antisymm (b.most a.some m a.below a.reached) (a.most b.some k b.below b.reached)
