-- The steps of `add_contact`: the parents are lent, joined and come back in their place, and then three words are raised. Assumes nothing.
use mathlib.Core.Path.{◌≡◌, ap, ◌∙◌}
use mathlib.Core.Bool.{true}
use mathlib.Core.List.{List, ◌++◌}
use Prim.Native.Nat.{ℕ, ◌+◌, ◌-◌, ◌≤◌, ◌<◌}
use native.Mathlib.Omega.{arith}
use lib.ListN.{length, set, take, drop}
use lib.Seq.{get_or-set_other}
use Rattle.base.specs.Limits.{max_copies}
use Rattle.union_find.specs.Parents.{joined, sound_parents}
use Rattle.cluster_table.specs.Table.{parents, degree, words, with_parents, counted, contact, header, degree_at}
use Rattle.union_find.proofs.Forest.{sound-parents}
use Rattle.union_find.proofs.Joins.{joins}
use Rattle.cluster_table.proofs.Parts.{parents-length, with_tail, part-back}

-- the parents, as the code lends them
pub lent : (n : ℕ) (t : List ℕ) → take (header + n - header) (drop header t) ≡ parents n t
lent n t = ap (λ (k : ℕ). take k (drop header t)) (same n)
  where
    same : (n : ℕ) → header + n - header ≡ n
    same n = omega arith

-- the table after its parents were lent, and q came back
abbrev pub back : ℕ → List ℕ → List ℕ → List ℕ
back n t q = take header t ++ (q ++ drop (header + n - header) (drop header t))

module _ (n : ℕ) (t : List ℕ) (i j : ℕ) (asked : (n ≤ max_copies) × (words n ≤ length t) × (i < j) × (j < n)) (s : sound_parents (parents n t) ≡ true) where
  size : length (joined (parents n t) i j) ≡ n
  size =
      let many = parents-length n t (omega arith) in
      (joins (parents n t) i j ((sound-parents (parents n t)).0 s) (rw many (omega arith)) (rw many asked.3)).same ∙ many

  -- q is what came back
  module _ (q : List ℕ) (e : q ≡ joined (take (header + n - header) (drop header t)) i j) where
    joined-back : back n t q ≡ with_parents n t (joined (parents n t) i j)
    joined-back = part-back n t q ∙ ap (with_parents n t) (e ∙ ap (λ (p : List ℕ). joined p i j) (lent n t))

    -- i's degree is raised, j's is as it was
    pub other-degree : degree n (set (back n t q) (degree_at n i) (degree n (back n t q) i + 1)) j ≡ degree n t j
    other-degree =
        get_or-set_other (back n t q) (degree_at n i) (degree_at n j) (degree n (back n t q) i + 1) 0 (λ z. omega arith)
        ∙ ap (λ (u : List ℕ). degree n u j) joined-back
        ∙ with_tail n t (joined (parents n t) i j) (omega arith) size j

    pub raised : counted n (back n t q) i j ≡ contact n t i j
    unfolding contact
    raised = ap (λ (u : List ℕ). counted n u i j) joined-back
