-- A walk up from i that stamps each copy with i + 1 ends at a root, at an earlier stamp, or at its own stamp: then i is in a cycle or leads into
-- one. Assumes nothing.
use mathlib.Core.Path.{◌≡◌, refl, sym, ap, ◌∙◌}
use mathlib.Core.Bool.{Bool, true, false, not, false≢true}
use mathlib.Core.List.{List}
use Prim.Native.Nat.{ℕ, suc, ◌+◌, ◌≤◌, ◌<◌}
use native.Mathlib.Omega.{arith}
use native.Mathlib.Nat.{le_refl, zero-add, suc-add}
use lib.ListN.{length, get_or, set, replicate, get_or-replicate}
use lib.Seq.{get_or-set_same, get_or-set_other}
use lib.Dec.{eqb}
use borrow.Author.Tests.{eq-eqb, ne_eqb}
use Rattle.base.specs.Range.{count}
use Rattle.union_find.specs.Parents.{reaches_root}
use Rattle.sound_parents.specs.Inner.{Stamped}
use Rattle.base.proofs.Ranges.{count_add}
use Rattle.union_find.proofs.Forest.{Root, here, up, decide, one-distance, Closed}
use Rattle.union_find.proofs.Trails.{reaches_of, reaches-root}

-- d steps up from i lead to k, and none of them starts at a root
pub data Way (p : List ℕ) : ℕ → ℕ → ℕ → Type 0 where
  stop : {k : ℕ} → Way p 0 k k
  on : {d i k : ℕ} → (get_or p i 0 ≡ i → ⊥) → Way p d (get_or p i 0) k → Way p (suc d) i k

-- one step more, at the end
pub way-more : {p : List ℕ} {d i k : ℕ} → Way p d i k → (get_or p k 0 ≡ k → ⊥) → Way p (suc d) i (get_or p k 0)
way-more stop m = on m stop
way-more (on n w) m = on n (way-more w m)

-- the root of k is the root of i, and the other way
pub way-root : {p : List ℕ} {d e i k r : ℕ} → Way p d i k → Root p e k r → Root p (d + e) i r
way-root stop v = rw zero-add v
way-root (on n w) v = rw suc-add (up n (way-root w v))

way_back : {p : List ℕ} {d e i k r : ℕ} → Way p d i k → Root p e i r → (f : ℕ) × Root p f k r
way_back {e = e} stop v = (e, v)
way_back (on n w) (here h) = absurd (n h)
way_back (on n w) (up m v) = way_back w v

-- a copy that leads to itself reaches no root
no-root : {p : List ℕ} {d e k r : ℕ} → Way p (suc d) k k → Root p e k r → ⊥
no-root {d = d} {e = e} w v = let z : suc d + e ≡ e = one-distance (way-root w v) v in omega arith

-- before the first walk nothing is stamped
pub stamped-none : (p : List ℕ) (n : ℕ) → length p ≤ n → Stamped p (replicate n 0) 0
stamped-none p n l =
    record { low = λ k m. omega (arith, blank k m); good = λ k m h. absurd (omega (arith, blank k m)) }
  where
    blank : (k : ℕ) → k < length p → ◌≡◌ {A = ℕ} (get_or (replicate n 0) k 0) 0
    blank k m = get_or-replicate n k 0 0 (omega arith)

-- ---- the walk from i, at k: what is stamped i + 1 leads to k, what is stamped lower reaches a root
pub record Climb (p : List ℕ) (i : ℕ) (seen : List ℕ) (k : ℕ) : Type 0 where
  pub below : k < length p
  pub start : (d : ℕ) × Way p d i k
  pub low : (c : ℕ) → c < length p → get_or seen c 0 ≤ i + 1
  pub own : (c : ℕ) → c < length p → get_or seen c 0 ≡ i + 1 → (d : ℕ) × Way p (suc d) c k
  pub good : (c : ℕ) → c < length p → 0 < get_or seen c 0 → (get_or seen c 0 ≡ i + 1 → ⊥) → reaches_root p c ≡ true

pub climb-first : {p seen : List ℕ} {i : ℕ} → i < length p → Stamped p seen i → Climb p i seen i
climb-first l s =
    record {
      below = l;
      start = (0, stop);
      low = λ c m. omega (arith, s.low c m);
      own = λ c m e. absurd (omega (arith, s.low c m));
      good = λ c m h n. s.good c m h;
    }

-- ---- one stamp more, at k
module _ {p seen : List ℕ} {i k : ℕ} (wide : length p ≤ length seen) (t : Climb p i seen k) where
  at-k : get_or (set seen k (i + 1)) k 0 ≡ i + 1
  at-k = get_or-set_same seen k (i + 1) 0 (omega (arith, t.below))

  other : (c : ℕ) → (c ≡ k → ⊥) → get_or (set seen k (i + 1)) c 0 ≡ get_or seen c 0
  other c n = get_or-set_other seen k c (i + 1) 0 n

  low-set : (c : ℕ) → c < length p → get_or (set seen k (i + 1)) c 0 ≤ i + 1
  low-set c m = decide c k (λ e. rw (e, at-k) (le_refl (i + 1))) (λ n. rw (other c n) (t.low c m))

  -- k is no root, and the walk goes on at its parent
  pub climb-next : Closed p → (get_or p k 0 ≡ k → ⊥) → Climb p i (set seen k (i + 1)) (get_or p k 0)
  climb-next closed n =
      record {
        below = closed.at k t.below;
        start = let w = t.start in (suc w.0, way-more w.1 n);
        low = low-set;
        own = λ c m e. decide c k
            (λ h. (0, rw h (on n stop)))
            (λ h. let w = t.own c m (sym (other c h) ∙ e) in (suc w.0, way-more w.1 n));
        good = λ c m l h. decide c k
            (λ e. absurd (h (rw (e, at-k))))
            (λ e. t.good c m (rw (other c e) at l) (rw (other c e) at h));
      }

  -- the copies without a stamp are fewer
  pub climb-less : get_or seen k 0 ≡ 0 → count (length p) (λ c. eqb (get_or (set seen k (i + 1)) c 0) 0) < count (length p) (λ c. eqb (get_or seen c 0) 0)
  climb-less e =
      omega (
        arith,
        count_add (length p) (λ c. eqb (get_or (set seen k (i + 1)) c 0) 0) (λ c. eqb (get_or seen c 0) 0) k t.below
            (λ c m n. ap (λ (x : ℕ). eqb x 0) (other c n)) (rw at-k (ne_eqb (i + 1) 0 (λ z. omega arith))) (eq-eqb (get_or seen k 0) 0 e),
      )

-- ---- k reaches a root
module _ {p seen : List ℕ} {i k d r : ℕ} (closed : Closed p) (t : Climb p i seen k) (w : Root p d k r) where
  i-reaches : i < length p → true ≡ reaches_root p i
  i-reaches l = sym (reaches_of closed l (way-root t.start.1 w))

  -- and so does each copy that this walk stamped
  reached : (c : ℕ) → c < length p → 0 < get_or seen c 0 → reaches_root p c ≡ true
  reached c m l =
      decide (get_or seen c 0) (i + 1)
      (λ e. reaches_of closed m (way-root (t.own c m e).1 w))
      (λ n. t.good c m l n)

  stamped : Stamped p seen (i + 1)
  stamped = record { low = t.low; good = reached }

  stamped-set : length p ≤ length seen → Stamped p (set seen k (i + 1)) (i + 1)
  stamped-set wide =
      record {
        low = low-set wide t;
        good = λ c m l. decide c k
            (λ e. rw e (reaches_of closed t.below w))
            (λ n. reached c m (rw (other wide t c n) at l));
      }

-- k comes back to itself
own-cycle : {p seen : List ℕ} {i k : ℕ} → Climb p i seen k → get_or seen k 0 ≡ i + 1 → reaches_root p i ≡ false
own-cycle {p} {seen} {i} {k} t e = go (reaches_root p i) refl
  where
    go : (b : Bool) → reaches_root p i ≡ b → b ≡ false
    go false h = refl
    go true h =
        let w = reaches-root p i h in
        let v = way_back t.start.1 w.2 in
        absurd (no-root (t.own k t.below e).1 v.1)

-- ---- the two ends of the walk
-- at a root, which is stamped last
pub climb-root : {p seen : List ℕ} {i k : ℕ} → Closed p → i < length p → length p ≤ length seen → Climb p i seen k → get_or p k 0 ≡ k
    → (true ≡ reaches_root p i) × (true ≡ true → Stamped p (set seen k (i + 1)) (i + 1))
climb-root closed l wide t e = (i-reaches closed t (here e) l, λ h. stamped-set closed t (here e) wide)

-- at a stamp: its own, or an earlier walk's
pub climb-end : {p seen : List ℕ} {i k : ℕ} → Closed p → i < length p → Climb p i seen k → (get_or seen k 0 ≡ 0 → ⊥)
    → (not (eqb (get_or seen k 0) (i + 1)) ≡ reaches_root p i) × (not (eqb (get_or seen k 0) (i + 1)) ≡ true → Stamped p seen (i + 1))
climb-end {p} {seen} {i} {k} closed l t m =
    decide (get_or seen k 0) (i + 1)
    (λ e. rw (eq-eqb (get_or seen k 0) (i + 1) e) (sym (own-cycle t e), λ h. absurd (false≢true h)))
    (λ n.
    let w = reaches-root p k (t.good k t.below (omega arith) n) in
    rw (ne_eqb (get_or seen k 0) (i + 1) n) (i-reaches closed t w.2 l, λ h. stamped closed t w.2))
