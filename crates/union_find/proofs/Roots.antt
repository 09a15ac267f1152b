-- Putting a copy under its own root keeps every root, so a shortened chain does. Assumes nothing.
use mathlib.Core.Path.{◌≡◌, refl, sym, ap, ◌∙◌, subst}
use mathlib.Core.Bool.{true}
use mathlib.Core.List.{List}
use Prim.Native.Nat.{ℕ, zero, suc, ◌≤◌, ◌<◌}
use native.Mathlib.Omega.{arith}
use lib.ListN.{length, get_or, set, length-set}
use lib.Seq.{get_or-set_same, get_or-set_other}
use borrow.Author.Tests.{eq-eqb, ne_eqb}
use Rattle.union_find.specs.Parents.{root_of, shortened, compressed, sound_parents}
use Rattle.union_find.proofs.Forest.{Root, here, up, decide, one-root, is-root, root_is, Closed, Sound, sound-parents, sound-root}
use Rattle.union_find.proofs.Trails.{root_below, root-of, sound-of}

pub closed-set : (p : List ℕ) (k v : ℕ) → Closed p → v < length p → Closed (set p k v)
closed-set p k v c l = record { at = low }
  where
    low : (i : ℕ) → i < length (set p k v) → get_or (set p k v) i 0 < length (set p k v)
    low i h =
        rw length-set
        (decide i k
        (λ e. rw (e, get_or-set_same p k v 0 (subst (λ (x : ℕ). x < length p) e (rw length-set at h))) l)
        (λ m. rw (get_or-set_other p k i v 0 m) (c.at i (rw length-set at h))))

-- ---- one copy is put under its own root

-- a root of a list with one more write
pub stays-root : (p : List ℕ) (k v x : ℕ) → (x ≡ k → ⊥) → get_or p x 0 ≡ x → get_or (set p k v) x 0 ≡ x
stays-root p k v x n h = get_or-set_other p k x v 0 n ∙ h

-- a copy that is one step below a root
pub one-step : {q : List ℕ} {x r : ℕ} → get_or q x 0 ≡ r → get_or q r 0 ≡ r → (r ≡ x → ⊥) → Root q 1 x r
one-step {q} {x} {r} e h n = up {d = 0} {r = r} (λ f. n (sym e ∙ f)) (rw e (here h))

-- a copy k is put under its root r: each copy x keeps its root s
pub keep : {p : List ℕ} {k r d : ℕ} → Root p d k r → k < length p → {e x s : ℕ} → Root p e x s → (f : ℕ) × Root (set p k r) f x s
keep {p} {k} {r} wk l (here {r = x} h) =
    decide x k
    (λ e. (0, here (ap (λ (y : ℕ). get_or (set p k r) y 0) e ∙ get_or-set_same p k r 0 l ∙ one-root (rw (sym e) at wk) (here h))))
    (λ n. (0, here (stays-root p k r x n h)))
keep {p} {k} {r} wk l {x = x} {s = s} (up m w) =
    let ih = keep wk l w in
    decide x k
    (λ e. (1, let f : s ≡ r = one-root (up m w) (rw (sym e) at wk) in rw f (at-k e)))
    (λ n. let g : get_or (set p k r) x 0 ≡ get_or p x 0 = get_or-set_other p k x r 0 n in (suc ih.0, up (rw g m) (rw g ih.1)))
  where
    not-k : x ≡ k → r ≡ k → ⊥
    not-k e f = m (ap (λ (y : ℕ). get_or p y 0) (e ∙ sym f) ∙ is-root wk ∙ (f ∙ sym e))

    at-k : x ≡ k → Root (set p k r) 1 x r
    at-k e =
        one-step (ap (λ (y : ℕ). get_or (set p k r) y 0) e ∙ get_or-set_same p k r 0 l) (stays-root p k r r (not-k e) (is-root wk)) (λ f. not-k e (f ∙ e))

-- q has p's roots
pub record Keeps (p q : List ℕ) : Type 0 where
  pub same : length q ≡ length p
  pub closed : Closed q
  pub roots : (d x s : ℕ) → Root p d x s → (e : ℕ) × Root q e x s

pub keeps-refl : (p : List ℕ) → Closed p → Keeps p p
keeps-refl p c = record { same = refl; closed = c; roots = λ d x s w. (d, w) }

pub keeps-trans : {p q r : List ℕ} → Keeps p q → Keeps q r → Keeps p r
keeps-trans a b =
    record {
      same = b.same ∙ a.same;
      closed = b.closed;
      roots = λ d x s w. let v = a.roots d x s w in b.roots v.0 x s v.1;
    }

pub keeps-set : (p : List ℕ) (k : ℕ) {d r : ℕ} → Closed p → k < length p → Root p d k r → Keeps p (set p k r)
keeps-set p k {r = r} c l w =
    record {
      same = length-set p k r;
      closed = closed-set p k r c (root_below c l w);
      roots = λ d x s v. keep w l v;
    }

-- ---- a whole chain
pub keeps-shortened : (f : ℕ) {p : List ℕ} {d i r : ℕ} → Closed p → i < length p → Root p d i r → d ≤ length p → Keeps p (shortened f p i)
unfolding shortened
keeps-shortened zero {p} c l w m = keeps-refl p c
keeps-shortened (suc f) {p} c l (here h) m = rw (eq-eqb _ _ h) (keeps-refl p c)
keeps-shortened (suc f) {p} {i = i} {r = r} c l (up {d = d} n w) m =
    let k = keeps-shortened f c (c.at i l) w (omega arith) in
    let v = k.roots (suc d) i r (up n w) in
    rw (ne_eqb _ _ n, root_is (up n w) m)
    (keeps-trans k (keeps-set _ i k.closed (rw k.same l) v.1))

pub keeps-compressed : (p : List ℕ) (i : ℕ) → Sound p → i < length p → Keeps p (compressed p i)
unfolding compressed
keeps-compressed p i s l = let w = sound-root p i s l in keeps-shortened (length p) s.closed l w.2 w.1

pub keeps-sound : {p q : List ℕ} → Sound p → Keeps p q → Sound q
keeps-sound {p} {q} s k =
    sound-of q k.closed
    (λ x l. let w = sound-root p x s (rw k.same at l) in let v = k.roots w.0 x (root_of p x) w.2 in (v.0, root_of p x, v.1))

pub keeps-root : {p q : List ℕ} (x : ℕ) → Sound p → Keeps p q → x < length p → root_of q x ≡ root_of p x
keeps-root {p} {q} x s k l =
    let w = sound-root p x s l in
    let v = k.roots w.0 x (root_of p x) w.2 in
    root-of k.closed (rw k.same l) v.1

-- ---- the same of the test of `specs/`
module _ (p : List ℕ) (i : ℕ) (sound : sound_parents p ≡ true) (l : i < length p) where
  s : Sound p
  s = (sound-parents p).0 sound

  pub root-low : root_of p i < length p
  root-low = let w = sound-root p i s l in root_below s.closed l w.2

  pub compressed-length : length (compressed p i) ≡ length p
  compressed-length = (keeps-compressed p i s l).same

  pub compressed-sound : sound_parents (compressed p i) ≡ true
  compressed-sound = (sound-parents (compressed p i)).1 (keeps-sound s (keeps-compressed p i s l))

  pub compressed-root : (x : ℕ) → x < length p → root_of (compressed p i) x ≡ root_of p x
  compressed-root x h = keeps-root x s (keeps-compressed p i s l) h
