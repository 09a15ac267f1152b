-- The sum over the picks of a copy, a term at a time: what is left from an index on decides. Assumes nothing.
use mathlib.Core.Path.{◌≡◌}
use mathlib.Core.List.{List}
use Prim.Native.Nat.{ℕ, ◌+◌, ◌≤◌, ◌<◌}
use native.Mathlib.Numerals.{add-one}
use lib.ListN.{length, get_or, drop, drop_of_length-le}
use lib.Seq.{drop-cons}
use lib.Ieee.{Float}
use Rattle.cell.specs.declared.Vec3.{Vec3}
use Rattle.cell.specs.declared.Cell.{Cell}
use Rattle.centers.specs.Centers.{plus, unwrapped, sum_from}

module _ (c : Cell) (xs : List Float) (anchor s : Vec3) (ps : List ℕ) (j : ℕ) where
  pub sum_more : j < length ps → sum_from c xs anchor s (drop j ps) ≡ sum_from c xs anchor (plus s (unwrapped c xs anchor (get_or ps j 0))) (drop (j + 1) ps)
  unfolding sum_from
  sum_more h = rw (add-one, drop-cons ps j 0)

  pub sum-none : length ps ≤ j → sum_from c xs anchor s (drop j ps) ≡ s
  unfolding sum_from
  sum-none h = rw drop_of_length-le
