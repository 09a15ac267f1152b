-- The loop of `find_root` that shortens a chain, and why it writes what the Rust's recursion writes. Assumes nothing.
use mathlib.Core.Path.{◌≡◌, refl, sym, ap, ◌∙◌}
use mathlib.Core.List.{List}
use Prim.Native.Nat.{ℕ, zero, suc, ◌≤◌, ◌<◌}
use native.Mathlib.Nat.{le_refl, le_of_suc-le-suc, not-suc-le-zero}
use native.Mathlib.Omega.{arith}
use lib.ListN.{length, get_or, set, length-set}
use lib.Seq.{get_or-set_other, set_comm}
use borrow.Author.Tests.{eq-eqb, ne_eqb}
use Rattle.union_find.specs.Parents.{root_of, shortened, compressed}
use Rattle.union_find.proofs.Forest.{Root, here, up, decide, one-distance, root_is, Sound, sound-root, depth, depth_is}

-- the shortening loop: d turns from k, each of which puts k under r and goes to k's old parent
pub fwd : ℕ → List ℕ → ℕ → ℕ → List ℕ
fwd zero p k r = p
fwd (suc d) p k r = fwd d (set p k r) (get_or p k 0) r

set-same-comm : (p : List ℕ) (i j r : ℕ) → set (set p i r) j r ≡ set (set p j r) i r
set-same-comm p i j r = decide i j (λ e. rw e) (λ n. set_comm p i j r r n)

-- q has p's parents at every copy that is at most d steps from its root
pub record Agree (p q : List ℕ) (d : ℕ) : Type 0 where
  pub at : (x e s : ℕ) → Root p e x s → e ≤ d → get_or q x 0 ≡ get_or p x 0

agree-all : (p : List ℕ) (d : ℕ) → Agree p p d
agree-all p d = record { at = λ x e s w l. refl }

agree_less : {p q : List ℕ} {d : ℕ} → Agree p q (suc d) → Agree p q d
agree_less a = record { at = λ x e s w l. a.at x e s w (omega arith) }

-- writing a copy that is further away keeps that
agree-set : {p q : List ℕ} {d e k s : ℕ} (v : ℕ) → Agree p q d → Root p e k s → d < e → Agree p (set q k v) d
agree-set {p} {q} {d} {e} {k} {s} v a wk l =
    record { at = λ x f t wx m. get_or-set_other q k x v 0 (apart x f t wx m) ∙ a.at x f t wx m }
  where
    apart : (x f t : ℕ) → Root p f x t → f ≤ d → x ≡ k → ⊥
    apart x f t wx m h = let z : f ≡ e = one-distance (rw h at wx) wk in omega arith

-- a chain may be shortened before or after a copy that is further away is written
fwd-set : {p : List ℕ} {d k r : ℕ} (q : List ℕ) {e j s : ℕ} → Root p d k r → Agree p q d → Root p e j s → d < e
    → fwd d (set q j r) k r ≡ set (fwd d q k r) j r
unfolding fwd
fwd-set q (here h) a wj l = refl
fwd-set {p} {k} {r} q {e} {j} (up {d = d} n w) a wj l =
    let go_on : get_or (set q j r) k 0 ≡ get_or q k 0 = get_or-set_other q j k r 0 (λ h. apart h) in
    let same : get_or q k 0 ≡ get_or p k 0 = a.at k (suc d) r (up n w) (le_refl (suc d)) in
    rw (go_on, same, set-same-comm q j k r)
    (fwd-set (set q k r) w (agree-set r (agree_less a) (up n w) (le_refl (suc d))) wj (omega arith))
  where
    apart : k ≡ j → ⊥
    apart h = let z : suc d ≡ e = one-distance (rw h at (up n w)) wj in omega arith

-- the shortening loop writes what the Rust's recursion writes
fwd-shortened : {p : List ℕ} {d i r : ℕ} (f : ℕ) → Root p d i r → d ≤ f → d ≤ length p → fwd d p i r ≡ shortened f p i
unfolding fwd shortened
fwd-shortened zero (here h) l m = refl
fwd-shortened (suc f) (here h) l m = rw (eq-eqb _ _ h)
fwd-shortened zero (up n w) l m = absurd (not-suc-le-zero l)
fwd-shortened {p} {i} {r} (suc f) (up {d = d} n w) l m =
    rw (ne_eqb _ _ n, root_is (up n w) m)
    (fwd-set p w (agree-all p d) (up n w) (le_refl (suc d)) ∙ ap (λ (q : List ℕ). set q i r) (fwd-shortened f w (le_of_suc-le-suc l) (omega arith)))

-- what the shortening loop keeps: d steps are left from k, the copies there are as they were, and d turns more give the end
pub record Turn (p : List ℕ) (i r : ℕ) (q : List ℕ) (k : ℕ) : Type 0 where
  pub steps : ℕ
  pub few : steps ≤ length p
  pub below : k < length p
  pub same : length q ≡ length p
  pub way : Root p steps k r
  pub agree : Agree p q steps
  pub rest : fwd steps q k r ≡ compressed p i

pub turn-first : (p : List ℕ) (i : ℕ) → Sound p → i < length p → Turn p i (root_of p i) p i
unfolding compressed
turn-first p i s l =
    let w = sound-root p i s l in
    record {
      steps = w.0;
      few = w.1;
      below = l;
      same = refl;
      way = w.2;
      agree = agree-all p w.0;
      rest = fwd-shortened (length p) w.2 w.1 w.1;
    }

-- the last turn
last-at : (i : ℕ) {p q : List ℕ} {d k r : ℕ} → Root p d k r → Agree p q d → fwd d q k r ≡ compressed p i → get_or q k 0 ≡ k → q ≡ compressed p i
unfolding fwd
last-at i (here h) a c e = c
last-at i {k = k} {r = r} (up {d = d} n w) a c e = absurd (n (sym (a.at k (suc d) r (up n w) (le_refl (suc d))) ∙ e))

pub turn_last : {p : List ℕ} {i r : ℕ} {q : List ℕ} {k : ℕ} → Turn p i r q k → get_or q k 0 ≡ k → q ≡ compressed p i
turn_last {p} {i} {r} {q} {k} t e = last-at i t.way t.agree t.rest e

-- one turn more
next-at : (i : ℕ) {p q : List ℕ} {d k r : ℕ} → Sound p → d ≤ length p → k < length p → length q ≡ length p → Root p d k r → Agree p q d
    → fwd d q k r ≡ compressed p i → (get_or q k 0 ≡ k → ⊥) → Turn p i r (set q k r) (get_or q k 0)
unfolding fwd
next-at i {k = k} s f b l (here h) a c m = absurd (m (a.at k 0 k (here h) (le_refl 0) ∙ h))
next-at i {p} {q} {k = k} {r = r} s f b l (up {d = d} n w) a c m =
    let e : get_or q k 0 ≡ get_or p k 0 = a.at k (suc d) r (up n w) (le_refl (suc d)) in
    record {
      steps = d;
      few = omega arith;
      below = rw e (s.closed.at k b);
      same = length-set q k r ∙ l;
      way = rw e w;
      agree = agree-set r (agree_less a) (up n w) (le_refl (suc d));
      rest = c;
    }

pub turn-next : {p : List ℕ} {i r : ℕ} {q : List ℕ} {k : ℕ} → Sound p → Turn p i r q k → (get_or q k 0 ≡ k → ⊥) → Turn p i r (set q k r) (get_or q k 0)
turn-next {p} {i} {r} {q} {k} s t m = next-at i s t.few t.below t.same t.way t.agree t.rest m

-- the distance falls
less-at : {p q : List ℕ} {d k r : ℕ} → d ≤ length p → Root p d k r → Agree p q d → (get_or q k 0 ≡ k → ⊥) → depth p (get_or q k 0) < depth p k
less-at {k = k} f (here h) a m = absurd (m (a.at k 0 k (here h) (le_refl 0) ∙ h))
less-at {p} {q} {k = k} {r = r} f (up {d = d} n w) a m =
    let e : get_or q k 0 ≡ get_or p k 0 = a.at k (suc d) r (up n w) (le_refl (suc d)) in
    rw e (omega (arith, depth_is w (omega arith), depth_is (up n w) f))

pub turn-less : {p : List ℕ} {i r : ℕ} {q : List ℕ} {k : ℕ} → Turn p i r q k → (get_or q k 0 ≡ k → ⊥) → depth p (get_or q k 0) < depth p k
turn-less t m = less-at t.few t.way t.agree m
