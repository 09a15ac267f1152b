-- A freshly opened table holds the graph with no contact, and its cutoff's bits. Assumes nothing.
use mathlib.Core.Path.{◌≡◌, refl, sym, ap, ◌∙◌, subst}
use mathlib.Core.Bool.{Bool, false, false≢true}
use mathlib.Core.List.{List, ◌∷◌, ◌++◌, append_assoc}
use Prim.Native.Nat.{ℕ, zero, suc, ◌+◌, ◌≤◌, ◌<◌, zero-le}
use native.Mathlib.Nat.{add_assoc}
use native.Mathlib.Omega.{arith}
use lib.ListN.{length, get_or, drop, replicate, length-append, length-drop, length-replicate, get_or-append}
use lib.Seq.{take_at}
use Rattle.base.specs.Range.{count, total}
use Rattle.base.specs.Tables.{over, first_numbers}
use Rattle.base.proofs.Filling.{numbers-length, numbers-at}
use Rattle.union_find.specs.Parents.{root_of}
use Rattle.cluster_table.specs.Table.{header, parents, degree_at, words, opened}
use Rattle.clusters.specs.Graph.{Chain, stop, on, either, degree_of, contacts_of}
use Rattle.base.proofs.Ranges.{count-zero}
use Rattle.union_find.proofs.Forest.{here, root_is, Sound}
use Rattle.union_find.proofs.Trails.{sound-of}
use Rattle.cluster_table.proofs.Fills.{whole, whole_length, zero-at}
use Rattle.clusters.proofs.Chains.{or_cases}
use Rattle.clusters.proofs.Holds.{Holds}

none-total : (n : ℕ) (f : ℕ → ℕ) → ((k : ℕ) → f k ≡ 0) → total n f ≡ 0
unfolding total
none-total zero f h = refl
none-total (suc n) f h = omega (arith, h n, none-total n f h)

module _ (n : ℕ) (g : ℕ → ℕ → Bool) (empty : (i j : ℕ) → g i j ≡ false) where
  no-chain : {i j : ℕ} → Chain g i j → i ≡ j
  no-chain stop = refl
  no-chain {i} (on {j = z} e c) =
      or_cases (g i z) (g z i) e
      (λ d. absurd (false≢true (sym (empty i z) ∙ d)))
      (λ d. absurd (false≢true (sym (empty z i) ∙ d)))

  p : List ℕ
  p = first_numbers n

  at : (i : ℕ) → i < n → get_or p i 0 ≡ i
  unfolding p
  at i l = numbers-at n i l

  size : length p ≡ n
  unfolding p
  size = numbers-length n

  root : (i : ℕ) → i < n → root_of p i ≡ i
  root i l = root_is (here (at i l)) zero-le

  sound : Sound p
  sound = sound-of p (record { at = λ i l. rw (at i (rw size at l)) l }) (λ x l. (0, x, here (at x (rw size at l))))

  module _ (bits : ℕ) (lent : List ℕ) (long : words n ≤ length lent) where
    -- what follows the parents
    zeros : List ℕ
    zeros = replicate (n + n) 0 ++ drop (words n) lent

    is-opened : opened n bits lent ≡ n ∷ 0 ∷ bits ∷ (p ++ zeros)
    unfolding opened over p zeros
    is-opened =
        ap (λ (k : ℕ). whole n bits ++ drop k lent) (whole_length n bits)
        ∙ ap (λ (l : List ℕ). n ∷ 0 ∷ bits ∷ l) (append_assoc (first_numbers n) (replicate (n + n) 0) (drop (words n) lent))

    word : (m : ℕ) → m < n + n → get_or (opened n bits lent) (degree_at n m) 0 ≡ 0
    unfolding opened over
    word m l = get_or-append (whole n bits) _ 0 (degree_at n m) (omega (arith, whole_length n bits)) ∙ zero-at n bits m l

    pub opened-holds : Holds n bits g (λ i. false) (opened n bits lent)
    unfolding p zeros degree_of contacts_of
    opened-holds =
        let tree : parents n (opened n bits lent) ≡ p = ap (parents n) is-opened ∙ take_at p zeros n size in
        record {
          long = rw is-opened (simp (length-append, length-replicate, length-drop, size) (omega arith));
          own = rw is-opened refl;
          cutoff = rw is-opened refl;
          sound = rw tree sound;
          sets = rw tree (λ i j li lj. (λ e. subst (λ (k : ℕ). Chain g i k) (sym (root i li) ∙ e ∙ root j lj) stop, λ c. ap (root_of p) (no-chain c)));
          degrees = λ i l. word i (omega arith) ∙ sym (count-zero n (either g i) (λ k l. rw (empty i k, empty k i)));
          contacts-are = rw is-opened (sym (none-total n (λ i. count n (g i)) (λ i. count-zero n (g i) (λ k l. empty i k))));
          marks = λ i l. ap (λ (k : ℕ). get_or (opened n bits lent) k 0) (add_assoc (header + n) n i) ∙ word (n + i) (omega arith);
          inside = λ i j e. absurd (false≢true (sym (empty i j) ∙ e));
        }
