-- How many pairs of copies there are. Assumes nothing.
use Prim.Native.Nat.{ℕ, ◌-◌, ◌*◌, ◌^◌, ◌≤◌}
use native.Mathlib.Nat.{le_trans, sub-le, mul-le-mul}
use native.Mathlib.Omega.{arith}
use Rattle.base.specs.Limits.{max_copies}
use Rattle.cluster_table.specs.Table.{pairs}

-- 4,096 copies have at most 2 ^ 24 pairs, which f32 holds exactly
pub pairs-few : (n : ℕ) → n ≤ max_copies → n * (n - 1) ≤ 2 ^ 24
pairs-few n l = mul-le-mul l (le_trans (sub-le n 1) l)

pub half-few : (n : ℕ) → n ≤ max_copies → pairs n ≤ 2 ^ 24
half-few n l = omega (arith, pairs-few n l)
