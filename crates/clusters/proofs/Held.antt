-- What Row and Close answer on a table that holds a graph: neither 7 nor 9 comes, 17 goes by the bits that the table holds, and Close's numbers are
-- the graph's.
-- Assumes nothing.
use mathlib.Core.Path.{◌≡◌, refl, sym, ap, ◌∙◌, subst}
use mathlib.Core.Bool.{Bool, true, false, cond}
use mathlib.Core.Logic.{◌⊎◌, ⊎_elim}
use mathlib.Core.List.{List, [], ◌∷◌}
use Prim.Native.Nat.{ℕ, ◌≤◌, ◌<◌}
use native.Mathlib.Omega.{arith}
use native.Mathlib.Decide.{dec_le}
use lib.ListN.{length}
use lib.Dec.{eqb, ltb, leb}
use lib.Ieee.{Float}
use Rattle.std.proofs.Common.{Ok}
use borrow.Author.Tests.{lt-ltb, le-ltb, le-leb, lt-leb}
use Rattle.base.specs.Limits.{max_copies}
use Rattle.base.specs.Refusals.{refuse, first_refusal, refused}
use Rattle.base.specs.Range.{bit, all_below, count}
use Rattle.union_find.specs.Parents.{largest_set}
use Rattle.union_find.proofs.Forest.{sound-parents}
use Rattle.base.proofs.Ranges.{all_true, all-false, all_same, count_same}
use Rattle.base.proofs.Tests.{bit_le}
use Rattle.cell.specs.Reach.{reach}
use Rattle.cluster_table.specs.Table.{parents, degree, mark, words, sound_words, sound_table}
use Rattle.cluster_table.specs.Refusals.{other_cutoff, row_table_refusals}
use Rattle.cluster_table.specs.Fractions.{three_fractions, table_fractions}
use Rattle.cluster_table.proofs.Parts.{parents-length}
use Rattle.cluster_table.proofs.Checks.{words_right, table-words}
use Rattle.cluster_table.proofs.RowChecks.{table-chain}
use Rattle.clusters.specs.Answers.{close_answer}
use Rattle.clusters.specs.Graph.{degree_of, contacts_of, Largest}
use Rattle.clusters.specs.Order.{graph_fractions}
use Rattle.clusters.proofs.Holds.{Holds}
use Rattle.clusters.proofs.Sums.{contacts-few, degree-below}
use Rattle.clusters.proofs.Closes.{waits, gives}
use Rattle.clusters.proofs.Largest.{largest-of, one-largest}

-- below two copies the largest cluster does not count
under-two : (n m k c e : ℕ) → n < 2 → three_fractions n m c e ≡ three_fractions n k c e
unfolding three_fractions
under-two n m k c e l = rw (lt-ltb n 2 l)

mark-bit : (b : Bool) → eqb (bit b) 1 ≡ b
mark-bit true = refl
mark-bit false = refl

module _ {n bits : ℕ} {g : ℕ → ℕ → Bool} {acc : ℕ → Bool} {t : List ℕ} (s : Holds n bits g acc t) where
  -- ---- the table is sound
  size : length (parents n t) ≡ n
  size = parents-length n t (omega (arith, s.long))

  words-at : (i : ℕ) → i < n → sound_words n t i ≡ true
  words-at i l =
      words_right n t i (rw (s.degrees i l) (degree-below n g i s.inside l)) (rw (s.marks i l) (bit_le (acc i)))

  pub sound-table : sound_table n t ≡ true
  sound-table =
      sym (table-words n t s.own (rw s.contacts-are (contacts-few n g s.inside)) ((sound-parents (parents n t)).1 s.sound))
      ∙ all_true n (sound_words n t) words-at

  -- ---- a row: 16, 17, 10, 11 or none
  pub mark-test : (i : ℕ) → i < n → eqb (mark n t i) 1 ≡ acc i
  mark-test i l = rw (s.marks i l) (mark-bit (acc i))

  numbered : (i : ℕ) → ◌≡◌ {A = ℕ} (cond (leb n i) 10 (cond (eqb (mark n t i) 1) 11 0)) (cond (leb n i) 10 (cond (acc i) 11 0))
  numbered i = go (dec_le n i)
    where
      go : Dec (n ≤ i) → ◌≡◌ {A = ℕ} (cond (leb n i) 10 (cond (eqb (mark n t i) 1) 11 0)) (cond (leb n i) 10 (cond (acc i) 11 0))
      go (yes h) = rw (le-leb n i h)
      go (no h) = rw (lt-leb n i (omega arith), mark-test i (omega arith))

  pub row-answer : (k : Float) (i : ℕ) → first_refusal (row_table_refusals n k t i) ≡ first_refusal (reach k ∷ other_cutoff k bits ∷ refuse 10 (leb n i) ∷ refuse 11 (acc i) ∷ [])
  unfolding reach other_cutoff first_refusal
  row-answer k i = table-chain n k t i ∙ rw (le-ltb (length t) (words n) s.long, sound-table, s.cutoff, numbered i)

  -- ---- a close: 12 or none
  all-marks : all_below n (λ i. eqb (mark n t i) 1) ≡ all_below n acc
  all-marks = all_same n (λ i. eqb (mark n t i) 1) acc mark-test

  -- some row is not accepted
  pub close-waits : n ≤ max_copies → (i : ℕ) → i < n → acc i ≡ false → close_answer t ≡ refused 12
  close-waits l i h e =
      sym (waits t n (sym s.own) (omega (arith, s.long)) s.long l true (sym sound-table) refl false (sym (all-marks ∙ all-false n acc i h e)) refl)

  -- every row is accepted
  pub close-full : n ≤ max_copies → ((i : ℕ) → i < n → acc i ≡ true) → close_answer t ≡ Ok (table_fractions t)
  close-full l a =
      sym (gives t n (sym s.own) (omega (arith, s.long)) s.long l true (sym sound-table) refl true (sym (all-marks ∙ all_true n acc a)) refl (table_fractions t) refl)

  fractions-are : table_fractions t ≡ graph_fractions n g (largest_set (parents n t))
  unfolding table_fractions
  fractions-are =
      rw (
        s.own,
        s.contacts-are,
        count_same n (λ i. ltb 0 (degree n t i)) (λ i. ltb 0 (degree_of n g i)) (λ i l. ap (ltb 0) (s.degrees i l)),
      )

  -- ---- the largest cluster
  pub largest-held : 0 < n → Largest n g (largest_set (parents n t))
  largest-held l =
      subst (λ (k : ℕ). Largest k g (largest_set (parents n t))) size
      (largest-of (parents n t) s.sound (rw size s.sets) (rw size l))

  one_size : (m : ℕ) → (n < 2) ⊎ Largest n g m → graph_fractions n g (largest_set (parents n t)) ≡ graph_fractions n g m
  one_size m c =
      ⊎_elim (λ h. under-two n (largest_set (parents n t)) m (count n (λ i. ltb 0 (degree_of n g i))) (contacts_of n g) h)
      (λ z. ap (graph_fractions n g) (one-largest (largest-held (omega (arith, z.below))) z)) c

  -- the fractions of the graph, for the size m of its largest cluster
  pub close-gives : n ≤ max_copies → ((i : ℕ) → i < n → acc i ≡ true) → (m : ℕ) → (n < 2) ⊎ Largest n g m → close_answer t ≡ Ok (graph_fractions n g m)
  close-gives l a m c = close-full l a ∙ ap Ok (fractions-are ∙ one_size m c)
