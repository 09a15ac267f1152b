-- The three fractions of a sound table of n copies. Assumes nothing.
use mathlib.Core.Path.{◌≡◌}
use mathlib.Core.Bool.{true}
use mathlib.Core.List.{List}
use Prim.Native.Nat.{ℕ, ◌-◌, ◌≤◌, ◌<◌}
use native.Mathlib.Omega.{arith}
use lib.ListN.{length}
use lib.Dec.{ltb}
use lib.Ieee.{Float, of_bits, binary32}
use borrow.Author.Tests.{lt-ltb, le-ltb}
use Rattle.base.specs.Limits.{max_copies}
use Rattle.base.specs.Range.{count}
use Rattle.union_find.specs.Parents.{sound_parents, largest_set}
use Rattle.union_find.proofs.Sizes.{largest-le, largest-pos}
use Rattle.cluster_table.specs.Table.{table_copies, contacts, parents, degree, words, pairs}
use Rattle.cluster_table.specs.Fractions.{ratio, three_fractions, table_fractions}
use Rattle.cluster_table.proofs.Parts.{parents-length}

module _ (n : ℕ) (t : List ℕ) where
  module _ (own : table_copies t ≡ n) where
    pub few : n < 2 → record { largest = of_bits binary32 0; contacted = of_bits binary32 0; pair = of_bits binary32 0 } ≡ table_fractions t
    unfolding table_fractions three_fractions
    few l = rw (own, lt-ltb n 2 l)

    pub three : (m c e : ℕ) (x y z : Float) → 2 ≤ n → m ≡ largest_set (parents n t) → c ≡ count n (λ i. ltb 0 (degree n t i)) → e ≡ pairs n
        → x ≡ ratio (m - 1) (n - 1) → y ≡ ratio c n → z ≡ ratio (contacts t) e → record { largest = x; contacted = y; pair = z } ≡ table_fractions t
    unfolding table_fractions three_fractions
    three m c e x y z l em ec ee ex ey ez = rw (own, le-ltb n 2 l, ex, ey, ez, em, ec, ee)

  -- the largest set
  module _ (asked : (n ≤ max_copies) × (words n ≤ length t)) (sound : sound_parents (parents n t) ≡ true) where
    size : length (parents n t) ≡ n
    size = parents-length n t (omega arith)

    pub parents-few : length (parents n t) ≤ max_copies
    parents-few = rw size asked.0

    module _ (m : ℕ) (e : m ≡ largest_set (parents n t)) where
      pub largest_low : m ≤ n
      largest_low = omega (arith, e, largest-le (parents n t), size)

      pub largest_some : 0 < n → 0 < m
      largest_some l = omega (arith, e, largest-pos (parents n t) sound (rw size l))
