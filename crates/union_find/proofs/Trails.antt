-- A chain has fewer steps than there are copies, so a copy that reaches a root reaches it in n steps. Assumes nothing.
use mathlib.Core.Path.{◌≡◌, refl, sym, ap, ◌∙◌, subst}
use mathlib.Core.Bool.{Bool, true, false, ◌||◌}
use mathlib.Core.List.{List}
use Prim.Native.Nat.{ℕ, suc, ◌≤◌, ◌<◌, suc-le-suc}
use native.Mathlib.Nat.{le_refl, le_of_lt}
use native.Mathlib.Omega.{arith}
use lib.ListN.{length, get_or}
use lib.Dec.{eqb}
use borrow.Author.Tests.{eq-eqb, ne_eqb, eqb-true}
use Rattle.base.proofs.Tests.{same-eqb}
use Rattle.base.specs.Range.{count}
use Rattle.union_find.specs.Parents.{walk, root_of, reaches_root}
use Rattle.union_find.specs.Inner.{root_within}
use Rattle.base.proofs.Ranges.{count_add, count-le, count-zero}
use Rattle.union_find.proofs.Forest.{Root, here, up, one-distance, is-root, root_is, walk-root, walk_ends, Closed, Sound}

-- the root is below n
pub root_below : {p : List ℕ} {d i r : ℕ} → Closed p → i < length p → Root p d i r → r < length p
root_below c l (here e) = l
root_below {i = i} c l (up n w) = root_below c (c.at i l) w

-- ---- distances are below n
-- the chain from i has suc d copies, each at most d steps from a root
pub record Trail (p : List ℕ) (n d : ℕ) : Type 0 where
  pub on : ℕ → Bool
  pub long : count n on ≡ suc d
  pub near : (y : ℕ) → on y ≡ true → (e : ℕ) × (s : ℕ) × (e ≤ d) × Root p e y s

pub trail : {p : List ℕ} {d i r : ℕ} → Closed p → i < length p → Root p d i r → Trail p (length p) d
trail {p} c l (here {r} e) =
    record {
      on = λ y. eqb y r;
      long =
          count_add (length p) (λ y. false) (λ y. eqb y r) r l (λ k m n. sym (ne_eqb k r n)) refl (same-eqb r)
          ∙ ap suc (count-zero (length p) (λ y. false) (λ y m. refl));
      near = λ y h. (0, r, le_refl 0, rw (eqb-true y r h) (here e));
    }
trail {p} {i = i} c l (up {d = d} {r = r} n w) =
    let t = trail c (c.at i l) w in
    record {
      on = λ y. eqb y i || t.on y;
      long =
          count_add (length p) t.on (λ y. eqb y i || t.on y) i l (λ k m h. other (t.on k) (ne_eqb k i h)) (off t (t.on i) refl)
          (rw (same-eqb i))
          ∙ ap suc t.long;
      near = λ y h. at t y (eqb y i) refl h;
    }
  where
    other : {a : Bool} (b : Bool) → a ≡ false → b ≡ (a || b)
    other b e = rw e

    off : (t : Trail p (length p) d) (b : Bool) → t.on i ≡ b → b ≡ false
    off t false e = refl
    off t true e =
        let q = t.near i e in
        let z : suc d ≡ q.0 = one-distance (up n w) q.3 in
        let f : q.0 ≤ d = q.2 in
        absurd (omega arith)

    at : (t : Trail p (length p) d) (y : ℕ) (b : Bool) → eqb y i ≡ b → (b || t.on y) ≡ true → (e : ℕ) × (s : ℕ) × (e ≤ suc d) × Root p e y s
    at t y true g h = (suc d, r, le_refl (suc d), rw (eqb-true y i g) (up n w))
    at t y false g h = let q = t.near y h in (q.0, q.1, le_of_lt (suc-le-suc q.2), q.3)

pub distance-below : {p : List ℕ} {d i r : ℕ} → Closed p → i < length p → Root p d i r → d < length p
distance-below {p} c l w = let t = trail c l w in subst (λ (m : ℕ). m ≤ length p) t.long (count-le (length p) t.on)

-- parents that reach a root are sound
pub sound-of : (q : List ℕ) → Closed q → ((x : ℕ) → x < length q → (d : ℕ) × (s : ℕ) × Root q d x s) → Sound q
sound-of q c w =
    record {
      closed = c;
      ends = λ x l. let v = w x l in rw (root_is v.2 (le_of_lt (distance-below c l v.2))) (is-root v.2);
    }

-- a root that is reached is the root
pub root-of : {q : List ℕ} {d x s : ℕ} → Closed q → x < length q → Root q d x s → root_of q x ≡ s
root-of c l w = root_is w (le_of_lt (distance-below c l w))

-- the test of one copy
pub reaches_of : {p : List ℕ} {d x s : ℕ} → Closed p → x < length p → Root p d x s → reaches_root p x ≡ true
unfolding reaches_root
reaches_of {p} c l w = rw (root-of c l w) (eq-eqb _ _ (is-root w))

-- a root that is at most k steps above x
pub reaches-within : {p : List ℕ} (k : ℕ) {x : ℕ} → Closed p → x < length p → root_within p k x ≡ true → reaches_root p x ≡ true
unfolding root_within
reaches-within {p} k {x} c l h = reaches_of c l (walk_ends p k x (eqb-true _ _ h)).2

-- steps above steps
pub walk-four : (p : List ℕ) (x b r : ℕ) → b ≡ walk p 2 x → r ≡ walk p 2 b → r ≡ walk p 4 x
unfolding walk
walk-four p x b r e f = f ∙ ap (walk p 2) e

-- the copy b four steps above x is a root, or the copy r four steps above b decides
pub within-four : (p : List ℕ) (x b : ℕ) → b ≡ walk p 4 x → get_or p b 0 ≡ b → true ≡ root_within p 8 x
unfolding root_within walk
within-four p x b e h =
    let w : walk p 8 x ≡ b = ap (walk p 4) (sym e) ∙ walk-root p 4 b h in
    sym (eq-eqb _ _ (ap (λ (k : ℕ). get_or p k 0) w ∙ h ∙ sym w))

pub within-eight : (p : List ℕ) (x b r : ℕ) → b ≡ walk p 4 x → r ≡ walk p 4 b → eqb (get_or p r 0) r ≡ root_within p 8 x
unfolding root_within walk
within-eight p x b r e f = ap (λ (k : ℕ). eqb (get_or p k 0) k) (f ∙ ap (walk p 4) e)

pub reaches-root : (p : List ℕ) (x : ℕ) → reaches_root p x ≡ true → (d : ℕ) × (s : ℕ) × Root p d x s
unfolding reaches_root root_of
reaches-root p x e = let w = walk_ends p (length p) x (eqb-true _ _ e) in (w.0, root_of p x, w.2)
