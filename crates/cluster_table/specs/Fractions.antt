-- docs/RULES.md, Close: the Rust's three fractions of a cluster table. Definitions only. Assumes nothing.
use Rattle.std.specs.Prelude.{cond, List, ℕ, ◌-◌, ltb, pos, Float}
use Rattle.std.specs.Float.{binary32}
use Rattle.std.specs.Float.Ieee.{div, of_int}
use Rattle.floats.specs.Constants.{zero32}
use Rattle.base.specs.Range.{count}
use Rattle.union_find.specs.Parents.{largest_set}
use Rattle.cluster_table.specs.declared.ClusterFractions.{ClusterFractions}
use Rattle.cluster_table.specs.Table.{table_copies, contacts, parents, degree, pairs}

-- one f32 division of two whole numbers
unfoldable pub ratio : ℕ → ℕ → Float
ratio a b = div binary32 (of_int binary32 (pos a)) (of_int binary32 (pos b))

-- of n copies, m in the largest cluster, c with a contact, and e contacts; zeros below two copies
unfoldable pub three_fractions : ℕ → ℕ → ℕ → ℕ → ClusterFractions
unfolding ratio
three_fractions n m c e =
    cond (ltb n 2) (record { largest = zero32; contacted = zero32; pair = zero32 })
    (record { largest = ratio (m - 1) (n - 1); contacted = ratio c n; pair = ratio e (pairs n) })

-- from the largest set with one root, the degrees above 0 and the contacts
unfoldable pub table_fractions : List ℕ → ClusterFractions
unfolding three_fractions largest_set
table_fractions t =
    three_fractions (table_copies t) (largest_set (parents (table_copies t) t)) (count (table_copies t) (λ i. ltb 0 (degree (table_copies t) t i))) (contacts t)
