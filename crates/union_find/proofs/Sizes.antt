-- The sizes of the sets, counted copy by copy while chains are shortened. Assumes nothing.
use mathlib.Core.Path.{◌≡◌, refl, sym, ap, ◌∙◌}
use mathlib.Core.Bool.{true}
use mathlib.Core.List.{List}
use Prim.Native.Nat.{ℕ, ◌+◌, ◌≤◌, ◌<◌, max, zero-le}
use native.Mathlib.Omega.{arith}
use lib.ListN.{length, get_or, set}
use lib.Seq.{get_or-set_same, get_or-set_other}
use lib.Dec.{eqb}
use borrow.Author.Tests.{eq-eqb, ne_eqb}
use Rattle.std.proofs.Math.Nat.{max_comm}
use Rattle.base.specs.Range.{count, greatest}
use Rattle.union_find.specs.Parents.{root_of, compressed, sound_parents, set_size, largest_set}
use Rattle.base.proofs.Ranges.{count_none, count-hit, count-miss, count-le, count-pos, greatest-le, greatest-at, greatest-raise}
use Rattle.union_find.proofs.Forest.{decide, Sound, sound-root}
use Rattle.union_find.proofs.Trails.{root_below}
use Rattle.union_find.proofs.Roots.{Keeps, keeps-refl, keeps-trans, keeps-sound, keeps-root, keeps-compressed, root-low}

-- how many copies below i have the root r
pub size_below : List ℕ → ℕ → ℕ → ℕ
size_below p i r = count i (λ j. eqb (root_of p j) r)

-- after i copies: q has p's roots, `sizes` has each size so far, and `most` is the greatest of them
pub record Tally (p : List ℕ) (i : ℕ) (q sizes : List ℕ) (most : ℕ) : Type 0 where
  pub upto : i ≤ length p
  pub keeps : Keeps p q
  pub counted : (r : ℕ) → r < length p → get_or sizes r 0 ≡ size_below p i r
  pub top : most ≡ greatest (length p) (size_below p i)

pub tally-first : {p sizes : List ℕ} → Sound p → ((k : ℕ) → k < length p → get_or sizes k 0 ≡ 0) → Tally p 0 p sizes 0
unfolding size_below
tally-first {p} {sizes} s z =
    record {
      upto = zero-le;
      keeps = keeps-refl p s.closed;
      counted = λ r l. z r l ∙ count_none (λ j. eqb (root_of p j) r);
      top = omega (arith, greatest-le (length p) (size_below p 0) 0 (λ r. omega (arith, count_none (λ j. eqb (root_of p j) r))));
    }

pub tally-sound : {p : List ℕ} {i : ℕ} {q sizes : List ℕ} {most : ℕ} → Sound p → Tally p i q sizes most → Sound q
tally-sound s t = keeps-sound s t.keeps

module _ {p : List ℕ} {i : ℕ} {q sizes : List ℕ} {most : ℕ} (s : Sound p) (l : i < length p) (t : Tally p i q sizes most) where
  -- the set of copy i gets one more, and the others none
  raised : (r : ℕ) → r ≡ root_of p i → size_below p (i + 1) r ≡ size_below p i r + 1
  unfolding size_below
  raised r e = sym (count-hit i (λ j. eqb (root_of p j) r) (size_below p i r) (size_below p i r + 1) refl (eq-eqb _ _ (sym e)) refl)

  kept : (r : ℕ) → (r ≡ root_of p i → ⊥) → size_below p (i + 1) r ≡ size_below p i r
  unfolding size_below
  kept r n = sym (count-miss i (λ j. eqb (root_of p j) r) (size_below p i r) (size_below p i r) refl (ne_eqb _ _ (λ e. n (sym e))) refl)

  -- one copy more, whose root the search in q finds
  module _ (r : ℕ) (found : r ≡ root_of q i) where
    e : r ≡ root_of p i
    e = found ∙ keeps-root i s t.keeps l

    pub tally-below : r < length p
    tally-below = let w = sound-root p i s l in rw e (root_below s.closed l w.2)

    -- its size is at most the number of copies counted
    pub tally-few : get_or sizes r 0 ≤ i
    unfolding size_below
    tally-few = omega (arith, t.counted r tally-below, count-le i (λ j. eqb (root_of p j) r))

    module _ (size : ℕ) (more : size ≡ get_or sizes r 0 + 1) (wide : length p ≤ length sizes) where
      is-size : size ≡ size_below p (i + 1) r
      is-size = more ∙ ap (λ (x : ℕ). x + 1) (t.counted r tally-below) ∙ sym (raised r e)

      top-next : max most size ≡ greatest (length p) (size_below p (i + 1))
      top-next =
          let others : (x : ℕ) → x < length p → (x ≡ r → ⊥) → size_below p i x ≡ size_below p (i + 1) x = λ x h n. sym (kept x (λ d. n (d ∙ sym e))) in
          max_comm most size
          ∙ rw (is-size, t.top)
          (sym (greatest-raise (length p) (size_below p i) (size_below p (i + 1)) r tally-below others (omega (arith, raised r e))))

      pub tally-next : (m : ℕ) → m ≡ max most size → Tally p (i + 1) (compressed q i) (set sizes r size) m
      tally-next m em =
          record {
            upto = omega arith;
            keeps = keeps-trans t.keeps (keeps-compressed q i (tally-sound s t) (rw t.keeps.same l));
            counted = λ x h. decide x r
                (λ d. rw (d, get_or-set_same sizes r size 0 (omega (arith, tally-below))) is-size)
                (λ n. get_or-set_other sizes r x size 0 n ∙ t.counted x h ∙ sym (kept x (λ d. n (d ∙ sym e))));
            top = em ∙ top-next;
          }

pub tally-last : {p : List ℕ} {i : ℕ} {q sizes : List ℕ} {most : ℕ} → length p ≤ i → Tally p i q sizes most → most ≡ largest_set p
unfolding largest_set set_size size_below
tally-last {p} {i} {most = most} l t =
    let d : i ≡ length p = omega (arith, t.upto) in
    t.top ∙ ap (λ (k : ℕ). greatest (length p) (size_below p k)) d

-- ---- no set is larger than the list, and where there is a copy its set has one
pub largest-le : (p : List ℕ) → largest_set p ≤ length p
unfolding largest_set set_size
largest-le p = greatest-le (length p) (set_size p) (length p) (λ r. count-le (length p) (λ i. eqb (root_of p i) r))

pub largest-pos : (p : List ℕ) → sound_parents p ≡ true → 0 < length p → 0 < largest_set p
unfolding largest_set set_size
largest-pos p sound l =
    let r = root_of p 0 in
    omega (
      arith,
      count-pos (length p) (λ i. eqb (root_of p i) r) 0 l (eq-eqb (root_of p 0) r refl),
      greatest-at (length p) (set_size p) r (root-low p 0 sound l),
    )
