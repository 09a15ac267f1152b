-- `count_up` meets its contract. After i turns the first i entries are 0, 1, .., i - 1. Assumes nothing.
use Rattle.std.proofs.Common.{◌≡◌, take}
use Rattle.base.specs.Tables.{first_numbers}
use Rattle.nodes.proofs.count_up.Given as goal

abbrev pub invariant-loop-i : goal.invariant-loop-i
invariant-loop-i l = take l.i l.s ≡ first_numbers l.i
