-- Joining two roots merges their sets and keeps the parents sound. Assumes nothing.
use mathlib.Core.Path.{◌≡◌, sym, ap, ◌∙◌}
use mathlib.Core.Bool.{cond, true}
use mathlib.Core.List.{List}
use Prim.Native.Nat.{ℕ, suc, ◌<◌}
use lib.ListN.{length, get_or, set, length-set}
use lib.Seq.{get_or-set_same, get_or-set_other}
use lib.Dec.{eqb}
use borrow.Author.Tests.{eq-eqb, ne_eqb}
use Rattle.union_find.specs.Parents.{root_of, compressed, joined, sound_parents}
use Rattle.union_find.proofs.Forest.{Root, here, up, decide, is-root, Closed, Sound, sound-parents, sound-root}
use Rattle.union_find.proofs.Trails.{root_below, root-of, sound-of}
use Rattle.union_find.proofs.Roots.{stays-root, one-step, closed-set, root-low, compressed-length, compressed-sound, compressed-root, Keeps, keeps-trans, keeps-compressed, keeps-sound, keeps-root}

-- ---- a root rb is put under another root ra
-- where the root s goes when rb is put under ra
abbrev pub moved : ℕ → ℕ → ℕ → ℕ
moved ra rb s = cond (eqb s rb) ra s

-- a chain to s now ends there
pub move : {q : List ℕ} {ra rb : ℕ} → get_or q ra 0 ≡ ra → get_or q rb 0 ≡ rb → (ra ≡ rb → ⊥) → rb < length q → {d x s : ℕ} → Root q d x s
    → (e : ℕ) × Root (set q rb ra) e x (moved ra rb s)
move {q} {ra} {rb} ha hb n l (here {r = x} h) =
    decide x rb
    (λ e. (
      1,
      rw (eq-eqb x rb e)
          (one-step (ap (λ (y : ℕ). get_or (set q rb ra) y 0) e ∙ get_or-set_same q rb ra 0 l) (stays-root q rb ra ra n ha) (λ f. n (f ∙ e))),
    ))
    (λ m. (0, rw (ne_eqb x rb m) (here (stays-root q rb ra x m h))))
move {q} {ra} {rb} ha hb n l {x = x} {s = s} (up m w) =
    let ih = move ha hb n l w in
    let g : get_or (set q rb ra) x 0 ≡ get_or q x 0 = get_or-set_other q rb x ra 0 (λ e. m (ap (λ (y : ℕ). get_or q y 0) e ∙ hb ∙ sym e)) in
    let m' : get_or (set q rb ra) x 0 ≡ x → ⊥ = rw g m in
    let w' : Root (set q rb ra) ih.0 (get_or (set q rb ra) x 0) (moved ra rb s) = rw g ih.1 in
    (suc ih.0, up m' w')

-- sound parents stay sound, and each root goes where it is moved
module _ (q : List ℕ) {ra rb : ℕ} (s : Sound q) (la : ra < length q) (lb : rb < length q) (ha : get_or q ra 0 ≡ ra) (hb : get_or q rb 0 ≡ rb) (n : ra ≡ rb → ⊥) where
  closed-put : Closed (set q rb ra)
  closed-put = closed-set q rb ra s.closed la

  put-sound : Sound (set q rb ra)
  put-sound =
      sound-of (set q rb ra) closed-put (λ x l.
      let w = sound-root q x s (rw length-set at l) in
      let v = move ha hb n lb w.2 in
      (v.0, moved ra rb (root_of q x), v.1))

  put-root : (x : ℕ) → x < length q → root_of (set q rb ra) x ≡ moved ra rb (root_of q x)
  put-root x l =
      let w = sound-root q x s l in
      let v = move ha hb n lb w.2 in
      root-of closed-put (rw length-set l) v.1

-- ---- what `joined` leaves: the length, soundness, and each copy's root
pub record Joins (p : List ℕ) (a b : ℕ) (q : List ℕ) : Type 0 where
  pub same : length q ≡ length p
  pub sound : Sound q
  pub roots : (x : ℕ) → x < length p → root_of q x ≡ moved (root_of p a) (root_of p b) (root_of p x)

moved_same : (r s : ℕ) → moved r r s ≡ s
moved_same r s = decide s r (λ e. rw (eq-eqb s r e) (sym e)) (λ n. rw (ne_eqb s r n))

module _ (p : List ℕ) (a b : ℕ) (s : Sound p) (la : a < length p) (lb : b < length p) where
  -- q is p with both chains shortened
  module _ {q : List ℕ} (k : Keeps p q) where
    -- a copy's root stays a root, and a place of the list
    still-root : (x : ℕ) → x < length p → (root_of p x < length q) × (get_or q (root_of p x) 0 ≡ root_of p x)
    still-root x l =
        let w = sound-root p x s l in
        let v = k.roots w.0 x (root_of p x) w.2 in
        (root_below k.closed (rw k.same l) v.1, is-root v.1)

    joins-same : root_of p a ≡ root_of p b → Joins p a b q
    joins-same e =
        record {
          same = k.same;
          sound = keeps-sound s k;
          roots = λ x l. keeps-root x s k l ∙ rw e (sym (moved_same (root_of p b) (root_of p x)));
        }

    joins-apart : (root_of p a ≡ root_of p b → ⊥) → Joins p a b (set q (root_of p b) (root_of p a))
    joins-apart n =
        let ra = still-root a la in
        let rb = still-root b lb in
        let sq = keeps-sound s k in
        record {
          same = length-set q (root_of p b) (root_of p a) ∙ k.same;
          sound = put-sound q sq ra.0 rb.0 ra.1 rb.1 n;
          roots = λ x l.
              put-root q sq ra.0 rb.0 ra.1 rb.1 n x (rw k.same l) ∙ ap (moved (root_of p a) (root_of p b)) (keeps-root x s k l);
        }

  pub joins : Joins p a b (joined p a b)
  unfolding joined
  joins =
      let k₁ = keeps-compressed p a s la in
      let k₂ = keeps-compressed (compressed p a) b (keeps-sound s k₁) (rw k₁.same lb) in
      let k = keeps-trans k₁ k₂ in
      decide (root_of p a) (root_of p b)
      (λ e. rw (eq-eqb (root_of p a) (root_of p b) e) (joins-same k e))
      (λ n. rw (ne_eqb (root_of p a) (root_of p b) n) (joins-apart k n))

-- ---- the same of the test of `specs/`
module _ (p : List ℕ) (a b : ℕ) (sound : sound_parents p ≡ true) (la : a < length p) (lb : b < length p) where
  s : Sound p
  s = (sound-parents p).0 sound

  pub joined_length : length (joined p a b) ≡ length p
  joined_length = (joins p a b s la lb).same

  -- ---- the steps of `union_roots`
  pub sound-first : sound_parents (compressed p a) ≡ true
  sound-first = compressed-sound p a sound la

  pub length-first : length (compressed p a) ≡ length p
  length-first = compressed-length p a sound la

  -- ra and q₁ come from the first search, rb and q₂ from the second
  module _ {ra rb : ℕ} {q₁ q₂ : List ℕ} (ea : ra ≡ root_of p a) (e₁ : q₁ ≡ compressed p a) (eb : rb ≡ root_of q₁ b) (e₂ : q₂ ≡ compressed q₁ b) where
    b-root : rb ≡ root_of p b
    b-root = eb ∙ rw e₁ (compressed-root p a sound la b lb)

    length-second : length q₂ ≡ length p
    length-second = rw (e₂, e₁) (compressed-length (compressed p a) b sound-first (rw length-first lb) ∙ length-first)

    pub roots-below : (ra < length q₂) × (rb < length q₂)
    roots-below = rw (ea, b-root, length-second) (root-low p a sound la, root-low p b sound lb)

    pub join_apart : (ra ≡ rb → ⊥) → set q₂ rb ra ≡ joined p a b
    unfolding joined
    join_apart n = rw (← ea, ← b-root, ne_eqb ra rb n, e₂, e₁)

    pub join-same : ra ≡ rb → q₂ ≡ joined p a b
    unfolding joined
    join-same e = rw (← ea, ← b-root, eq-eqb ra rb e, e₂, e₁)
