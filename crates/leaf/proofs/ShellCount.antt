-- The waters in a leaf's shell, counted one after the other. Assumes nothing.
use Rattle.std.proofs.Common.{◌≡◌, Bool, true, false, cond, refl, List, ℕ, suc, ◌+◌, ◌-◌, ◌≤◌, ◌<◌, arith}
use Rattle.std.specs.Int.{from_bool}
use lib.Ieee.{Float}
use Rattle.cell.specs.declared.Cell.{Cell}
use Rattle.cell.specs.Cell.{point_at}
use Rattle.bounds.specs.declared.OctreeBounds.{OctreeBounds}
use Rattle.leaf.specs.Leaf.{in_shell, shell_from}

-- the next of the waters that are left, m - i from i on, and none left
module _ (c : Cell) (b : OctreeBounds) (ws : List Float) where
  pub shell_more : (m i : ℕ) → i < m → shell_from c b ws (m - i) i ≡ from_bool (in_shell c b (point_at ws i)) + shell_from c b ws (m - (i + 1)) (i + 1)
  unfolding shell_from
  shell_more m i h =
      let more : m - i ≡ suc (m - (i + 1)) = omega arith in
      rw more (by-test (in_shell c b (point_at ws i)))
    where
      by-test : (t : Bool) → cond t 1 0 + shell_from c b ws (m - (i + 1)) (i + 1) ≡ from_bool t + shell_from c b ws (m - (i + 1)) (i + 1)
      by-test true = refl
      by-test false = refl

  pub shell_none : (m i : ℕ) → m ≤ i → shell_from c b ws (m - i) i ≡ 0
  unfolding shell_from
  shell_none m i h =
      let none : m - i ≡ 0 = omega arith in
      rw none

pub bool_few : (t : Bool) → from_bool t ≤ 1
bool_few true = omega arith
bool_few false = omega arith
