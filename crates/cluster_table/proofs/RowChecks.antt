-- What Row asks of its cutoff and of a table (16, 7, 9, 17, 10, 11), test by test, and what holds where it asks for nothing more. Assumes nothing.
use mathlib.Core.Path.{◌≡◌, refl, ◌∙◌}
use mathlib.Core.Bool.{true, false, cond, not}
use mathlib.Core.List.{List}
use Prim.Native.Nat.{ℕ, ◌+◌, ◌≤◌, ◌<◌}
use lib.ListN.{length, get_or}
use lib.Dec.{eqb, ltb, leb}
use lib.Ieee.{Float, binary32, to_bits}
use native.Mathlib.Omega.{arith}
use borrow.Author.Tests.{eqb-true, eq-eqb, ne_eqb, le-leb, lt-leb, lt-ltb, le-ltb, ltb-false, leb-false, not-false}
use Rattle.base.specs.Refusals.{first_refusal}
use Rattle.base.proofs.FirstRefusal.{first-none}
use Rattle.cell.specs.Reach.{reach, sound_reach}
use Rattle.cluster_table.specs.Table.{header, table_cutoff, marks, mark, words, sound_table}
use Rattle.cluster_table.proofs.Lists.{part-at}
use Rattle.cluster_table.specs.Refusals.{other_cutoff, row_table_refusals}

module _ (n : ℕ) (k : Float) (t : List ℕ) (i : ℕ) where
  -- the tests in their order
  pub table-chain : first_refusal (row_table_refusals n k t i)
      ≡ cond (not (sound_reach k)) 16
      (cond (ltb (length t) (words n)) 7
      (cond (not (sound_table n t)) 9
      (cond (not (eqb (to_bits binary32 k) (table_cutoff t))) 17 (cond (leb n i) 10 (cond (eqb (mark n t i) 1) 11 0)))))
  unfolding row_table_refusals reach other_cutoff first_refusal
  table-chain = refl

  -- as the code makes them: the first that holds, where those before it do not
  pub unreached : sound_reach k ≡ false → first_refusal (row_table_refusals n k t i) ≡ 16
  unreached h = table-chain ∙ rw h

  module _ (reached : sound_reach k ≡ true) where
    pub short : length t < words n → first_refusal (row_table_refusals n k t i) ≡ 7
    short l = table-chain ∙ rw (reached, lt-ltb (length t) (words n) l)

    module _ (long : words n ≤ length t) where
      pub unsound : sound_table n t ≡ false → first_refusal (row_table_refusals n k t i) ≡ 9
      unsound h = table-chain ∙ rw (reached, le-ltb (length t) (words n) long, h)

      module _ (sound : sound_table n t ≡ true) where
        pub other : (to_bits binary32 k ≡ table_cutoff t → ⊥) → first_refusal (row_table_refusals n k t i) ≡ 17
        other h = table-chain ∙ rw (reached, le-ltb (length t) (words n) long, sound, ne_eqb (to_bits binary32 k) (table_cutoff t) h)

        module _ (same : to_bits binary32 k ≡ table_cutoff t) where
          alike : first_refusal (row_table_refusals n k t i) ≡ cond (leb n i) 10 (cond (eqb (mark n t i) 1) 11 0)
          alike = table-chain ∙ rw (reached, le-ltb (length t) (words n) long, sound, eq-eqb (to_bits binary32 k) (table_cutoff t) same)

          pub past : n ≤ i → first_refusal (row_table_refusals n k t i) ≡ 10
          past l = alike ∙ rw (le-leb n i l)

          -- m is the row's mark, as it is read
          module _ (below : i < n) (m : ℕ) (read : m ≡ get_or (marks n t) i 0) where
            is-mark : m ≡ mark n t i
            is-mark = read ∙ part-at t (header + n + n) n i below

            pub again : m ≡ 1 → first_refusal (row_table_refusals n k t i) ≡ 11
            again e = alike ∙ rw (lt-leb n i below, ← is-mark, eq-eqb m 1 e)

            pub none : (m ≡ 1 → ⊥) → first_refusal (row_table_refusals n k t i) ≡ 0
            none e = alike ∙ rw (lt-leb n i below, ← is-mark, ne_eqb m 1 e)

-- none of them holds
pub record Asked (n : ℕ) (k : Float) (t : List ℕ) (i : ℕ) : Type 0 where
  pub reaches : sound_reach k ≡ true
  pub long : words n ≤ length t
  pub sound : sound_table n t ≡ true
  pub same : to_bits binary32 k ≡ table_cutoff t
  pub below : i < n
  pub fresh : eqb (mark n t i) 1 ≡ false

pub row-asked : (n : ℕ) (k : Float) (t : List ℕ) (i : ℕ) → first_refusal (row_table_refusals n k t i) ≡ 0 → Asked n k t i
unfolding row_table_refusals reach other_cutoff
row-asked n k t i none =
    let a = first-none _ _ (λ z. omega arith) none in
    let b = first-none _ _ (λ z. omega arith) a.1 in
    let c = first-none _ _ (λ z. omega arith) b.1 in
    let d = first-none _ _ (λ z. omega arith) c.1 in
    let e = first-none _ _ (λ z. omega arith) d.1 in
    let f = first-none _ _ (λ z. omega arith) e.1 in
    record {
      reaches = not-false (sound_reach k) a.0;
      long = ltb-false (length t) (words n) b.0;
      sound = not-false (sound_table n t) c.0;
      same = eqb-true (to_bits binary32 k) (table_cutoff t) (not-false (eqb (to_bits binary32 k) (table_cutoff t)) d.0);
      below = leb-false n i e.0;
      fresh = f.0;
    }
