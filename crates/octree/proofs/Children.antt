-- Subtrees side by side, and what stands below a node by how many octants it visits: all 8 where it splits, else none, and then its lists
-- stay. Assumes nothing.
use mathlib.Core.Path.{◌≡◌, refl, sym, ap, ◌∙◌}
use mathlib.Core.Bool.{Bool, true, false, cond}
use mathlib.Core.List.{List, [], append-nil, append_assoc}
use Prim.Native.Nat.{ℕ, zero, suc, ◌+◌, ◌-◌, ◌≤◌, ◌<◌}
use native.Mathlib.Nat.{add_assoc, add-zero, zero-add}
use native.Mathlib.Omega.{arith}
use lib.ListN.{length}
use lib.Ieee.{Float}
use borrow.Author.Tests.{eq-eqb, ne_eqb}
use Rattle.bounds.specs.declared.OctreeBounds.{OctreeBounds}
use Rattle.octree.specs.Tree.{Subtrees, Builder, none, join, where_some, children_from, subtree, rooted}
use Rattle.division.specs.Split.{splits, max_depth}
use Rattle.division.specs.Inner.{octants_of, unsplit}

-- ---- subtrees side by side
pub join-none : (g : Subtrees) → join (none [] []) g ≡ g
join-none g = simp zero-add

pub join-assoc : (a b c : Subtrees) → join (join a b) c ≡ join a (join b c)
join-assoc a b c = simp (add_assoc, append_assoc)

pub no-points : (go : Builder) (at fc fw : ℕ) (b : OctreeBounds) (cs ws : List ℕ) → length cs + length ws ≡ 0 → where_some go at fc fw b cs ws ≡ none [] []
unfolding where_some
no-points go at fc fw b cs ws e = simp (eq-eqb _ _ e)

pub some-points : (go : Builder) (at fc fw : ℕ) (b : OctreeBounds) (cs ws : List ℕ) → (length cs + length ws ≡ 0 → ⊥) → where_some go at fc fw b cs ws ≡ go at fc fw b cs ws
unfolding where_some
some-points go at fc fw b cs ws e = simp (ne_eqb _ _ e)

pub subtree-roots : (C W : List Float) (f at fc fw : ℕ) (b : OctreeBounds) (cs ws : List ℕ) → (subtree C W f at fc fw b cs ws).roots ≡ 1
unfolding subtree
subtree-roots C W zero at fc fw b cs ws = refl
subtree-roots C W (suc f) at fc fw b cs ws = refl

pub subtree-some : (C W : List Float) (f at fc fw : ℕ) (b : OctreeBounds) (cs ws : List ℕ) → 0 < length (subtree C W f at fc fw b cs ws).nodes
unfolding subtree
subtree-some C W zero at fc fw b cs ws = omega arith
subtree-some C W (suc f) at fc fw b cs ws = omega arith

-- ---- below a node
-- what stands below a node that visits r octants
abbrev pub below : List Float → List Float → Builder → ℕ → Builder
below C W go r at fc fw b cs ws = join (children_from C W go r at fc fw b cs ws) (none (unsplit r cs) (unsplit r ws))

module _ (C W : List Float) (at fc fw : ℕ) (b : OctreeBounds) (cs ws : List ℕ) where
  below-choice : (go : Builder) (t : Bool) → below C W go (cond t 8 0) at fc fw b cs ws ≡ cond t (children_from C W go 8 at fc fw b cs ws) (none cs ws)
  unfolding children_from unsplit
  below-choice go true = simp (append-nil, add-zero)
  below-choice go false = refl

module _ (C W : List Float) (at fc fw : ℕ) (b : OctreeBounds) (cs ws : List ℕ) where
  subtree-from : (f g d : ℕ) → f ≡ max_depth - d → g ≡ max_depth - (d + 1) → d ≤ max_depth
      → subtree C W f at fc fw b cs ws ≡ rooted d at fc fw b cs ws (below C W (subtree C W g) (octants_of f cs b) (at + 1) fc fw b cs ws)
  unfolding subtree children_from unsplit octants_of
  subtree-from zero g d p q h = let e : d ≡ max_depth = omega arith in rw e refl
  subtree-from (suc f) g d p q h =
      let e : d ≡ max_depth - suc f = omega arith in
      let k : g ≡ f = omega arith in
      rw (e, k) (ap (rooted (max_depth - suc f) at fc fw b cs ws) (sym (below-choice C W (at + 1) fc fw b cs ws (subtree C W f) (splits b cs))))

  -- a subtree of depth d by the octants that the code visits
  pub subtree-by : (d r : ℕ) → d ≤ max_depth → r ≡ octants_of (max_depth - d) cs b
      → subtree C W (max_depth - d) at fc fw b cs ws ≡ rooted d at fc fw b cs ws (below C W (subtree C W (max_depth - (d + 1))) r (at + 1) fc fw b cs ws)
  subtree-by d r h e =
      subtree-from (max_depth - d) (max_depth - (d + 1)) d refl refl h
      ∙ ap (λ (n : ℕ). rooted d at fc fw b cs ws (below C W (subtree C W (max_depth - (d + 1))) n (at + 1) fc fw b cs ws)) (sym e)
