-- An opened table: its entries, and what `open_table` writes, in order. Assumes nothing.
use mathlib.Core.Path.{◌≡◌, sym, ap, ◌∙◌}
use mathlib.Core.List.{List, ◌∷◌, ◌++◌}
use Prim.Native.Nat.{ℕ, suc, ◌+◌, ◌-◌, ◌*◌, ◌≤◌, ◌<◌}
use native.Mathlib.Nat.{add_assoc}
use native.Mathlib.Omega.{arith}
use lib.ListN.{length, get_or, set, take, drop, replicate, length-set, length-append, length-take, length-drop, length-replicate, get_or-replicate}
use lib.Seq.{get_or-append-add}
use Rattle.base.specs.Tables.{first_numbers, placed, over}
use Rattle.base.proofs.Filling.{numbers-length}
use Rattle.base.proofs.Placing.{placed-step, placed-zero, placed-next, placed-part}
use Rattle.cluster_table.specs.Table.{header, words, opened}

-- the table t, whose entries from i to e were lent and came back as ys
abbrev put : ℕ → ℕ → List ℕ → List ℕ → List ℕ
put i e ys t = take i t ++ (ys ++ drop (e - i) (drop i t))

module _ (n b : ℕ) where
  -- parents, degrees and marks
  abbrev pub parts : List ℕ
  parts = first_numbers n ++ replicate (n + n) 0

  abbrev pub whole : List ℕ
  whole = n ∷ 0 ∷ b ∷ parts

  pub whole_length : length whole ≡ words n
  whole_length = simp (length-append, length-replicate, numbers-length) (omega arith)

  past : (k : ℕ) → get_or whole (header + k) 0 ≡ get_or parts k 0
  past k = ap (λ (m : ℕ). get_or whole m 0) (three k)
    where
      three : (k : ℕ) → header + k ≡ suc (suc (suc k))
      three k = omega arith

  pub zero-at : (k : ℕ) → k < n + n → get_or whole (header + n + k) 0 ≡ 0
  zero-at k l =
      ap (λ (m : ℕ). get_or whole m 0) (add_assoc header n k)
      ∙ past (n + k)
      ∙ ap (λ (m : ℕ). get_or parts (m + k) 0) (sym (numbers-length n))
      ∙ get_or-append-add (first_numbers n) (replicate (n + n) 0) k 0
      ∙ get_or-replicate (n + n) k 0 0 l

-- what `open_table` writes, in order: three words, the parents ps and the zeros zs; both are lent as a part of the table
module _ (n b : ℕ) (t : List ℕ) (room : words n ≤ length t) where
  abbrev headed : List ℕ
  headed = set (set (set t 0 n) 1 0) 2 b

  pub parents-room : length (take (header + n - header) (drop header headed)) ≡ n
  parents-room = simp (length-take, length-drop, length-set) (omega arith)

  placed-headed : (ys : List ℕ) → placed header ys headed ≡ over (n ∷ 0 ∷ b ∷ ys) t
  placed-headed ys =
      placed-step 2 b ys (set (set t 0 n) 1 0) (simp length-set (omega arith))
      ∙ placed-step 1 0 (b ∷ ys) (set t 0 n) (simp length-set (omega arith))
      ∙ placed-step 0 n (0 ∷ b ∷ ys) t (omega arith)
      ∙ placed-zero (n ∷ 0 ∷ b ∷ ys) t

  module _ (ps : List ℕ) (first : ps ≡ first_numbers n) where
    ps-length : length ps ≡ n
    ps-length = ap length first ∙ numbers-length n

    abbrev filled : List ℕ
    filled = put header (header + n) ps headed

    zeros-room : length (take (header + n + 2 * n - (header + n)) (drop (header + n) filled)) ≡ n + n
    zeros-room = simp (length-take, length-drop, length-append, length-set) (omega (arith, ps-length))

    pub opens : (zs : List ℕ) → zs ≡ replicate (length (take (header + n + 2 * n - (header + n)) (drop (header + n) filled))) 0
        → put (header + n) (header + n + 2 * n) zs filled ≡ opened n b t
    unfolding opened
    opens zs e =
        let none : zs ≡ replicate (n + n) 0 = e ∙ ap (λ (k : ℕ). replicate k 0) zeros-room in
        let many : length zs ≡ n + n = ap length none ∙ length-replicate (n + n) 0 in
        placed-part zs filled (header + n) (header + n + 2 * n) (omega (arith, many))
        ∙ ap (placed (header + n) zs) (placed-part ps headed header (header + n) (omega (arith, ps-length)))
        ∙ placed-next headed ps zs header (header + n) (omega (arith, ps-length)) (simp length-set (omega (arith, many)))
        ∙ placed-headed (ps ++ zs)
        ∙ rw (first, none)
