-- One row and one graph: a row keeps the table equal to the graph of the accepted rows, for any number `frame` that the input's
-- refusals give and any touch. Assumes nothing.
use mathlib.Core.Path.{◌≡◌, refl, sym, ap, ◌∙◌, subst, fun_ext}
use mathlib.Core.Bool.{Bool, true, false, cond, ◌&&◌, ◌||◌, and-true, or-false, or_comm}
use mathlib.Core.List.{List}
use Prim.Native.Nat.{ℕ, zero, suc, ◌≤◌, ◌<◌, zero-le}
use native.Mathlib.Nat.{le_refl}
use native.Mathlib.Omega.{arith}
use native.Mathlib.Decide.{dec_lt}
use lib.ListN.{length, replicate, length-replicate}
use lib.Dec.{eqb, ltb}
use lib.Ieee.{Float, binary32, to_bits}
use borrow.Author.Tests.{eq-eqb, ne_eqb, lt-ltb, le-ltb}
use Rattle.base.specs.Refusals.{first_refusal, answer_of}
use Rattle.base.specs.Tables.{unless_refused}
use Rattle.union_find.specs.Parents.{largest_set}
use Rattle.union_find.proofs.Forest.{decide}
use Rattle.base.proofs.Tests.{and-false}
use Rattle.cluster_table.specs.Table.{parents, words, opened}
use Rattle.cluster_table.specs.Refusals.{row_table_refusals}
use Rattle.cluster_table.proofs.RowChecks.{row-asked}
use Rattle.clusters.specs.Answers.{row_table}
use Rattle.clusters.specs.Graph.{Largest, graph, contact_graph}
use Rattle.clusters.specs.Order.{is_accepted}
use Rattle.clusters.proofs.Holds.{Holds}
use Rattle.clusters.proofs.Rows.{ltb-skip, with_row, holds_same, row-table-holds}
use Rattle.clusters.proofs.Opening.{opened-holds}
use Rattle.clusters.proofs.Lengths.{row-length}
use Rattle.clusters.proofs.Held.{mark-test, largest-held}

-- the rows accepted, with i where Row, whose first refusal is r, answers acceptance
abbrev pub with-answer : ℕ → ℕ → (ℕ → Bool) → ℕ → Bool
with-answer i r acc k = acc k || (eqb i k && is_accepted (answer_of r))

-- the table holds the graph of the rows `acc`, their marks, and the bits of its cutoff
abbrev pub State : (ℕ → ℕ → Bool) → ℕ → ℕ → (ℕ → Bool) → List ℕ → Type 0
State touch n bits acc t = Holds n bits (graph touch n acc) acc t

module _ (touch : ℕ → ℕ → Bool) (n : ℕ) where
  -- a row keeps the table's length
  pub answer-length : (t : List ℕ) (i r : ℕ) → length (unless_refused r (row_table touch n i t) t) ≡ length t
  answer-length t i zero = row-length touch n i t
  answer-length t i (suc r) = refl

  -- where all rows are accepted, the graph is the contact graph
  pub full : (acc : ℕ → Bool) → ((i : ℕ) → i < n → acc i ≡ true) → (a b : ℕ) → graph touch n acc a b ≡ contact_graph touch n a b
  unfolding graph
  full acc h a b = go (dec_lt a b) (dec_lt b n)
    where
      go : Dec (a < b) → Dec (b < n) → (ltb a b && (ltb b n && (acc a && touch a b))) ≡ (ltb a b && (ltb b n && (true && touch a b)))
      go (yes l) (yes m) = rw (h a (omega arith))
      go (yes l) (no m) = rw (le-ltb b n (omega arith))
      go (no l) d = rw (le-ltb a b (omega arith))

module _ (touch : ℕ → ℕ → Bool) (n bits : ℕ) where
  pub same_rows : (acc bcc : ℕ → Bool) (t : List ℕ) → ((k : ℕ) → acc k ≡ bcc k) → State touch n bits acc t → State touch n bits bcc t
  same_rows acc bcc t e s = subst (λ (f : ℕ → Bool). State touch n bits f t) (fun_ext e) s

  -- ---- a freshly opened table
  bare : (a b : ℕ) → graph touch n (λ i. false) a b ≡ false
  unfolding graph
  bare a b = and-false (ltb a b) _ (and-false (ltb b n) _ refl)

  pub state-first : (lent : List ℕ) → words n ≤ length lent → State touch n bits (λ i. false) (opened n bits lent)
  state-first lent h = opened-holds n (graph touch n (λ i. false)) bare bits lent h

  -- ---- a row: r is its first refusal, `frame` what the refusals of the input give
  module _ (acc : ℕ → Bool) (t : List ℕ) (i : ℕ) (s : State touch n bits acc t) where
    -- an accepted row had an input that nothing refuses
    from-table : (frame r : ℕ) → 0 ≡ cond (eqb frame 0) r frame → 0 ≡ r
    from-table frame r e =
        decide frame 0 (λ z. e ∙ rw (eq-eqb frame 0 z)) (λ m. absurd (m (sym (e ∙ rw (ne_eqb frame 0 m)))))

    -- k is the row's cutoff, and `own` its touch, which is the table's where the bits are: an accepted row is below n, was not accepted before, and has
    -- the table's bits
    module _ (k : Float) (own : ℕ → ℕ → Bool) (alike : to_bits binary32 k ≡ bits → own ≡ touch) where
      pub state-answer : (frame r : ℕ) → r ≡ cond (eqb frame 0) (first_refusal (row_table_refusals n k t i)) frame
          → State touch n bits (with-answer i r acc) (unless_refused r (row_table own n i t) t)
      state-answer frame zero e =
          let a = row-asked n k t i (sym (from-table frame (first_refusal (row_table_refusals n k t i)) e)) in
          same_rows (with_row i acc) (with-answer i 0 acc) (row_table own n i t)
          (λ j. or_comm (eqb i j) (acc j) ∙ ap (λ (b : Bool). acc j || b) (sym (and-true (eqb i j))))
          (rw (alike (a.same ∙ s.cutoff)) (row-table-holds touch n acc i a.below (sym (mark-test s i a.below) ∙ a.fresh) s))
      state-answer frame (suc r) e =
          same_rows acc (with-answer i (suc r) acc) t
          (λ j. sym (or-false (acc j)) ∙ ap (λ (b : Bool). acc j || b) (sym (and-false (eqb i j) false refl))) s

  -- ---- every row
  -- row k adds itself to the rows below it
  pub next_row : (k : ℕ) {t : List ℕ} → k < n → State touch n bits (λ i. ltb i k) t → State touch n bits (λ i. ltb i (suc k)) (row_table touch n k t)
  next_row k {t} l s =
      same_rows (with_row k (λ i. ltb i k)) (λ i. ltb i (suc k)) (row_table touch n k t) up (row-table-holds touch n (λ i. ltb i k) k l (le-ltb k k (le_refl k)) s)
    where
      up : (i : ℕ) → (eqb k i || ltb i k) ≡ ltb i (suc k)
      up i =
          decide k i
          (λ e. rw (eq-eqb k i e) (sym (lt-ltb i (suc k) (omega arith))))
          (λ m. rw (ne_eqb k i m) (ltb-skip i k (λ e. m (sym e))))

  -- a table that holds no row yet, as the rows below 0
  pub no_row : {t : List ℕ} → State touch n bits (λ i. false) t → State touch n bits (λ i. ltb i 0) t
  no_row {t} s = same_rows (λ i. false) (λ i. ltb i 0) t (λ i. sym (le-ltb i 0 zero-le)) s

module _ (touch : ℕ → ℕ → Bool) (n : ℕ) where
  -- some table holds the graph of the rows below k, whatever its cutoff: here 0
  rows-below : (k : ℕ) → k ≤ n → (t : List ℕ) × State touch n 0 (λ i. ltb i k) t
  rows-below zero l =
      let lent = replicate {A = ℕ} (words n) 0 in
      (opened n 0 lent, no_row touch n 0 (state-first touch n 0 lent (omega (arith, length-replicate {A = ℕ} (words n) 0))))
  rows-below (suc k) l = let w = rows-below k (omega arith) in (row_table touch n k w.0, next_row touch n 0 k l w.1)

  -- the contact graph has a largest cluster
  pub largest-contact : 0 < n → (m : ℕ) × Largest n (contact_graph touch n) m
  largest-contact h =
      let w = rows-below n (le_refl n) in
      (largest_set (parents n w.0), largest-held (holds_same w.1 (full touch n (λ i. ltb i n) (λ i l. lt-ltb i n l))) h)
