-- What one contact writes to the table, part by part. Assumes nothing.
use mathlib.Core.Path.{◌≡◌, sym, ap, ◌∙◌}
use mathlib.Core.List.{List}
use Prim.Native.Nat.{ℕ, suc, ◌+◌, ◌≤◌, ◌<◌}
use native.Mathlib.Nat.{add_assoc}
use native.Mathlib.Omega.{arith}
use lib.ListN.{length, get_or, set, length-set}
use lib.Seq.{get_or-set_same, get_or-set_other}
use Rattle.union_find.specs.Parents.{joined}
use Rattle.cluster_table.specs.Table.{table_copies, contacts, table_cutoff, parents, degree, mark, words, with_parents, counted, contact, header, degree_at, mark_at}
use Rattle.cluster_table.proofs.Parts.{parents-set, parents-set-contacts, with-length, with-parents, with-head, with_tail}

-- x is t with a contact of i and j more and the parents p
pub record Wrote (n : ℕ) (t p : List ℕ) (i j : ℕ) (x : List ℕ) : Type 0 where
  pub tree : parents n x ≡ p
  pub up : contacts x ≡ suc (contacts t)
  pub low : degree n x i ≡ suc (degree n t i)
  pub high : degree n x j ≡ suc (degree n t j)
  pub rest : (k : ℕ) → k < n → (k ≡ i → ⊥) → (k ≡ j → ⊥) → degree n x k ≡ degree n t k
  pub mark : (k : ℕ) → mark n x k ≡ mark n t k
  pub own : table_copies x ≡ table_copies t
  pub cutoff : table_cutoff x ≡ table_cutoff t
  pub same : length x ≡ length t

-- ---- the three words raised
module _ (n : ℕ) (t : List ℕ) (i j : ℕ) (long : words n ≤ length t) (lo : i < j) (hi : j < n) where
  -- the table after the first degree and after the second
  abbrev v : List ℕ
  v = set t (degree_at n i) (degree n t i + 1)

  abbrev w : List ℕ
  w = set v (degree_at n j) (degree n v j + 1)

  v-length : length v ≡ length t
  v-length = length-set t (degree_at n i) (degree n t i + 1)

  w-length : length w ≡ length t
  w-length = length-set v (degree_at n j) (degree n v j + 1) ∙ v-length

  -- a word that is neither degree, and one that is not the contacts either
  past-degrees : (k : ℕ) → (k ≡ degree_at n i → ⊥) → (k ≡ degree_at n j → ⊥) → get_or w k 0 ≡ get_or t k 0
  past-degrees k a b = get_or-set_other v (degree_at n j) k (degree n v j + 1) 0 b ∙ get_or-set_other t (degree_at n i) k (degree n t i + 1) 0 a

  away : (k : ℕ) → (k ≡ 1 → ⊥) → (k ≡ degree_at n i → ⊥) → (k ≡ degree_at n j → ⊥) → get_or (counted n t i j) k 0 ≡ get_or t k 0
  unfolding counted
  away k o a b = get_or-set_other w 1 k (contacts w + 1) 0 o ∙ past-degrees k a b

  contacts-up : contacts (counted n t i j) ≡ suc (contacts t)
  unfolding counted
  contacts-up =
      get_or-set_same w 1 (contacts w + 1) 0 (omega (arith, w-length)) ∙ omega (arith, past-degrees 1 (λ z. omega arith) (λ z. omega arith))

  low_up : degree n (counted n t i j) i ≡ suc (degree n t i)
  unfolding counted
  low_up =
      get_or-set_other w 1 (degree_at n i) (contacts w + 1) 0 (λ z. omega arith)
      ∙ get_or-set_other v (degree_at n j) (degree_at n i) (degree n v j + 1) 0 (λ z. omega arith)
      ∙ get_or-set_same t (degree_at n i) (degree n t i + 1) 0 (omega arith)
      ∙ omega arith

  high-up : degree n (counted n t i j) j ≡ suc (degree n t j)
  unfolding counted
  high-up =
      get_or-set_other w 1 (degree_at n j) (contacts w + 1) 0 (λ z. omega arith)
      ∙ get_or-set_same v (degree_at n j) (degree n v j + 1) 0 (omega (arith, v-length))
      ∙ omega (arith, get_or-set_other t (degree_at n i) (degree_at n j) (degree n t i + 1) 0 (λ z. omega arith))

  counts : Wrote n t (parents n t) i j (counted n t i j)
  unfolding counted
  counts =
      record {
        tree = parents-set-contacts n w (contacts w + 1) ∙ parents-set n v j (degree n v j + 1) ∙ parents-set n t i (degree n t i + 1);
        up = contacts-up;
        low = low_up;
        high = high-up;
        rest = λ k h a b. away (degree_at n k) (λ z. omega arith) (λ z. a (omega arith)) (λ z. b (omega arith));
        mark = λ k. away (mark_at n k) (λ z. omega arith) (λ z. omega arith) (λ z. omega arith);
        own = away 0 (λ z. omega arith) (λ z. omega arith) (λ z. omega arith);
        cutoff = away 2 (λ z. omega arith) (λ z. omega arith) (λ z. omega arith);
        same = length-set w 1 (contacts w + 1) ∙ w-length;
      }

-- ---- other parents as well
module _ (n : ℕ) (t q : List ℕ) (i j : ℕ) (long : words n ≤ length t) (lo : i < j) (hi : j < n) (size : length q ≡ n) where
  abbrev u : List ℕ
  u = with_parents n t q

  room : header + n ≤ length t
  room = omega arith

  tail_at : (k : ℕ) → get_or u (degree_at n k) 0 ≡ get_or t (degree_at n k) 0
  tail_at k = with_tail n t q room size k

  head_at : (k : ℕ) → k < header → get_or u k 0 ≡ get_or t k 0
  head_at k h = with-head n t q room size k h

  mark-at : (k : ℕ) → mark n u k ≡ mark n t k
  mark-at k =
      ap (λ (m : ℕ). get_or u m 0) (add_assoc (header + n) n k) ∙ tail_at (n + k) ∙ ap (λ (m : ℕ). get_or t m 0) (sym (add_assoc (header + n) n k))

  u-length : length u ≡ length t
  u-length = with-length n t q room size

  writes : Wrote n t q i j (counted n u i j)
  writes =
      let c = counts n u i j (omega (arith, u-length)) lo hi in
      record {
        tree = c.tree ∙ with-parents n t q room size;
        up = c.up ∙ ap suc (head_at 1 (omega arith));
        low = c.low ∙ ap suc (tail_at i);
        high = c.high ∙ ap suc (tail_at j);
        rest = λ k h a b. c.rest k h a b ∙ tail_at k;
        mark = λ k. c.mark k ∙ mark-at k;
        own = c.own ∙ head_at 0 (omega arith);
        cutoff = c.cutoff ∙ head_at 2 (omega arith);
        same = c.same ∙ u-length;
      }

-- a contact writes the joined parents and the three words
pub wrote : (n : ℕ) (t : List ℕ) (i j : ℕ) → words n ≤ length t → i < j → j < n → length (joined (parents n t) i j) ≡ n
    → Wrote n t (joined (parents n t) i j) i j (contact n t i j)
unfolding contact
wrote n t i j long lo hi size = writes n t (joined (parents n t) i j) i j long lo hi size
