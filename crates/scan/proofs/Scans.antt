-- Every row in rising order, for input and a cutoff that nothing refuses: each row is accepted, so that the table holds the graph of the rows
-- so far, and Close answers at the end. Assumes nothing.
use mathlib.Core.Path.{◌≡◌, refl, sym, ap, ◌∙◌, subst}
use mathlib.Core.Bool.{true}
use mathlib.Core.List.{List, [], ◌∷◌}
use Prim.Native.Nat.{ℕ, zero, suc, ◌+◌, ◌-◌, ◌≤◌, ◌<◌}
use native.Mathlib.Nat.{le_refl, zero-add, sub-zero}
use native.Mathlib.Omega.{arith}
use lib.ListN.{length}
use lib.Dec.{ltb, leb}
use lib.Ieee.{Float, binary32, to_bits}
use Rattle.std.proofs.Common.{Ok}
use borrow.Author.Tests.{lt-ltb, le-ltb, lt-leb}
use Rattle.base.specs.Limits.{max_copies}
use Rattle.base.specs.Refusals.{refuse, first_refusal}
use Rattle.base.proofs.FirstRefusal.{append-skip, at_none}
use Rattle.base.proofs.Tests.{same-eqb}
use Rattle.cell.specs.Reach.{reach, sound_reach}
use Rattle.pick_lists.specs.Sound.{copies, sound_lists}
use Rattle.pick_lists.specs.Input.{Input, input_refusals}
use Rattle.touch.specs.Touch.{copies_touch}
use Rattle.pick_lists.proofs.InputRefusals.{input-numbered, input-accepted}
use Rattle.pick_lists.proofs.SoundLists.{sound-lists}
use Rattle.cluster_table.specs.Table.{words, opened, sound_table}
use Rattle.cluster_table.specs.Refusals.{other_cutoff}
use Rattle.cluster_table.specs.Fractions.{table_fractions}
use Rattle.clusters.specs.Answers.{row_table, open_refusal, open_after, row_refusal, close_answer}
use Rattle.clusters.specs.Order.{row, call_after, after}
use Rattle.scan.specs.Scan.{rising, scanned}
use Rattle.clusters.proofs.Refusals.{open_none}
use Rattle.clusters.proofs.Lengths.{row-length}
use Rattle.clusters.proofs.Held.{sound-table, close-full}
use Rattle.clusters.proofs.Calls.{State, state-first, next_row, no_row}
use Rattle.clusters.proofs.OrderRule.{inputs, row-leaves, rows-rule}

-- the table after every row
abbrev all-rows : Input → Float → List ℕ → List ℕ
all-rows f k t₀ = after f t₀ (rising k (copies f.starts) 0)

-- the table holds the graph at the cutoff k of the rows below i, and k's bits
abbrev Below : Input → Float → ℕ → List ℕ → Type 0
Below f k i t = State (copies_touch f k) (copies f.starts) (to_bits binary32 k) (λ j. ltb j i) t

-- before row i: the rows from i on give, over the table t, what every row gives over the opened table t₀
pub record Scan (f : Input) (k : Float) (t₀ t : List ℕ) (i : ℕ) : Type 0 where
  pub rest : after f t (rising k (copies f.starts - i) i) ≡ all-rows f k t₀
  pub state : Below f k i t
  pub same : length t ≡ length t₀

module _ (f : Input) (fine : first_refusal (input_refusals f) ≡ 0) where
  abbrev n : ℕ
  n = copies f.starts

  pub lists : sound_lists f.solutes f.starts f.picks ≡ true
  lists = (input-accepted f fine).1

  pub few : n ≤ max_copies
  few = (sound-lists f.solutes f.starts f.picks lists).few

  -- ---- at a cutoff
  module _ (k : Float) (within : sound_reach k ≡ true) where
    -- ---- one row
    module _ {t : List ℕ} {i : ℕ} (l : i < n) (s : Below f k i t) where
      row-accepted : row_refusal f k t i ≡ 0
      unfolding inputs reach other_cutoff first_refusal
      row-accepted =
          rows-rule f k (λ j. ltb j i) t s k i
          ∙ append-skip (inputs f) (reach k ∷ other_cutoff k (to_bits binary32 k) ∷ refuse 10 (leb n i) ∷ refuse 11 (ltb i i) ∷ []) (input-numbered f) fine
          ∙ rw (within, same-eqb (to_bits binary32 k), lt-leb n i l, le-ltb i i (le_refl i))

      row-writes : call_after f t (row k i) ≡ row_table (copies_touch f k) n i t
      row-writes = row-leaves f k t i ∙ at_none _ (row_table (copies_touch f k) n i t) t row-accepted

    pub scan-next : {t₀ t : List ℕ} {i : ℕ} → i < n → Scan f k t₀ t i → Scan f k t₀ (row_table (copies_touch f k) n i t) (suc i)
    unfolding rising after
    scan-next {t₀} {t} {i} l z =
        record {
          rest = ap (λ (u : List ℕ). after f u (rising k (n - suc i) (suc i))) (sym (row-writes l z.state)) ∙ sym (step (n - i) (n - suc i) (omega arith)) ∙ z.rest;
          state = next_row (copies_touch f k) n (to_bits binary32 k) i l z.state;
          same = row-length (copies_touch f k) n i t ∙ z.same;
        }
      where
        step : (p m : ℕ) → p ≡ suc m → after f t (rising k p i) ≡ after f (call_after f t (row k i)) (rising k m (suc i))
        step p m e = rw e

    scan-last : {t₀ t : List ℕ} {i : ℕ} → n ≤ i → Scan f k t₀ t i → t ≡ all-rows f k t₀
    unfolding rising after
    scan-last {t₀} {t} {i} l z = sym (none (n - i) (omega arith)) ∙ z.rest
      where
        none : (p : ℕ) → p ≡ 0 → after f t (rising k p i) ≡ t
        none p e = rw e

    -- ---- from the lent table on
    module _ (lent : List ℕ) (room : words n ≤ length lent) where
      abbrev t₁ : List ℕ
      t₁ = opened n (to_bits binary32 k) lent

      opens : open_after n k lent ≡ t₁
      unfolding open_after
      opens = at_none (open_refusal n k lent) t₁ lent (open_none n k lent few within room)

      pub scan-first : Scan f k t₁ t₁ 0
      scan-first =
          record {
            rest = rw sub-zero;
            state = no_row (copies_touch f k) n (to_bits binary32 k) (state-first (copies_touch f k) n (to_bits binary32 k) lent room);
            same = refl;
          }

      pub scan-done : {t₀ t : List ℕ} {i b : ℕ} → b ≡ to_bits binary32 k → t₀ ≡ opened n b lent → n ≤ i → Scan f k t₀ t i → t ≡ all-rows f k (open_after n k lent)
      scan-done eb e l z = scan-last l z ∙ ap (all-rows f k) (e ∙ ap (λ (b : ℕ). opened n b lent) eb ∙ sym opens)

      -- m rows more
      rows-scanned : (m i : ℕ) (t : List ℕ) → m + i ≡ n → Scan f k t₁ t i → Below f k n (all-rows f k t₁)
      rows-scanned zero i t e z = rw (← scan-last (omega arith) z) (subst (λ (j : ℕ). Below f k j t) (sym (zero-add i) ∙ e) z.state)
      rows-scanned (suc m) i t e z = rows-scanned m (suc i) (row_table (copies_touch f k) n i t) (omega arith) (scan-next (omega arith) z)

      pub scanned-state : Below f k n (all-rows f k (open_after n k lent))
      scanned-state = rw opens (rows-scanned n 0 t₁ (omega arith) scan-first)

-- ---- what the scanned table has
module _ (f : Input) (k : Float) (lent : List ℕ) (fine : first_refusal (input_refusals f) ≡ 0) (within : sound_reach k ≡ true) (room : words (copies f.starts) ≤ length lent) where
  state-of : Below f k (copies f.starts) (scanned f k lent)
  unfolding scanned
  state-of = scanned-state f fine k within lent room

  pub scanned-long : words (copies f.starts) ≤ length (scanned f k lent)
  scanned-long = state-of.long

  pub scanned-sound : sound_table (copies f.starts) (scanned f k lent) ≡ true
  scanned-sound = sound-table state-of

  -- Close answers the fractions
  pub scanned-closes : close_answer (scanned f k lent) ≡ Ok (table_fractions (scanned f k lent))
  scanned-closes = close-full state-of (few f fine) (λ j l. lt-ltb j (copies f.starts) l)
