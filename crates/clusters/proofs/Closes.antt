-- What Close answers, test by test. Assumes nothing.
use mathlib.Core.Path.{◌≡◌, refl, sym, ap, ◌∙◌}
use mathlib.Core.Bool.{Bool, true, false, cond, not}
use mathlib.Core.List.{List}
use Prim.Native.Nat.{ℕ, ◌≤◌, ◌<◌}
use native.Mathlib.Omega.{arith}
use lib.ListN.{length}
use lib.Dec.{eqb, ltb}
use Rattle.std.proofs.Common.{Ok}
use borrow.Author.Tests.{lt-ltb, le-ltb}
use Rattle.base.specs.Limits.{max_copies}
use Rattle.base.specs.Refusals.{first_refusal, refused}
use Rattle.base.specs.Tables.{unless_refused}
use Rattle.base.proofs.FirstRefusal.{at-refusal, at_none}
use Rattle.base.specs.Range.{all_below}
use Rattle.cluster_table.specs.Table.{table_copies, mark, words, sound_table, header}
use Rattle.cluster_table.specs.declared.ClusterFractions.{ClusterFractions}
use Rattle.cluster_table.specs.Fractions.{table_fractions}
use Rattle.clusters.specs.Answers.{close_refusals, close_refusal, close_answer}

module _ (t : List ℕ) where
  -- the tests in their order
  chain : close_refusal t
      ≡ cond (ltb (length t) header) 7
      (cond (ltb (length t) (words (table_copies t))) 7
      (cond (ltb max_copies (table_copies t)) 9
      (cond (not (sound_table (table_copies t) t)) 9 (cond (not (all_below (table_copies t) (λ i. eqb (mark (table_copies t) t i) 1))) 12 0))))
  unfolding close_refusal close_refusals first_refusal
  chain = refl

  refuses : (r : ℕ) → (r ≡ 0 → ⊥) → close_refusal t ≡ r → refused r ≡ close_answer t
  unfolding close_answer
  refuses r m e = sym (ap (λ (k : ℕ). unless_refused k (Ok (table_fractions t)) (refused k)) e ∙ at-refusal r (Ok (table_fractions t)) (refused r) m)

  pub no_words : length t < header → refused 7 ≡ close_answer t
  no_words l = refuses 7 (λ z. omega arith) (chain ∙ rw (lt-ltb (length t) header l))

  module _ (n : ℕ) (e : n ≡ table_copies t) (h : header ≤ length t) where
    pub short : length t < words n → refused 7 ≡ close_answer t
    short l = refuses 7 (λ z. omega arith) (chain ∙ rw (le-ltb (length t) header h, ← e, lt-ltb (length t) (words n) l))

    module _ (l : words n ≤ length t) where
      pub many-copies : max_copies < n → refused 9 ≡ close_answer t
      many-copies m = refuses 9 (λ z. omega arith) (chain ∙ rw (le-ltb (length t) header h, ← e, le-ltb (length t) (words n) l, lt-ltb max_copies n m))

      module _ (m : n ≤ max_copies) (b : Bool) (tested : b ≡ sound_table n t) where
        pub unsound : b ≡ false → refused 9 ≡ close_answer t
        unsound u = refuses 9 (λ z. omega arith) (chain ∙ rw (le-ltb (length t) header h, ← e, le-ltb (length t) (words n) l, le-ltb max_copies n m, ← tested, u))

        module _ (sound : b ≡ true) where
          -- only the marks are left to test
          close-last : close_refusal t ≡ cond (not (all_below n (λ i. eqb (mark n t i) 1))) 12 0
          close-last = chain ∙ rw (le-ltb (length t) header h, ← e, le-ltb (length t) (words n) l, le-ltb max_copies n m, ← tested, sound)

          module _ (d : Bool) (marked : d ≡ all_below n (λ i. eqb (mark n t i) 1)) where
            pub waits : d ≡ false → refused 12 ≡ close_answer t
            waits a = refuses 12 (λ z. omega arith) (close-last ∙ rw (← marked, a))

            close-none : d ≡ true → close_refusal t ≡ 0
            close-none a = close-last ∙ rw (← marked, a)

            pub gives : d ≡ true → (f : ClusterFractions) → f ≡ table_fractions t → Ok f ≡ close_answer t
            unfolding close_answer
            gives a f e = ap Ok e ∙ sym (at_none (close_refusal t) (Ok (table_fractions t)) (refused (close_refusal t)) (close-none a))
