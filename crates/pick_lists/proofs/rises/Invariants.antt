-- `pick_lists::rises` meets its contract. The loop's invariant: what was found so far, and what is left of the list, decide. Assumes nothing.
use Rattle.std.proofs.Common.{◌≡◌, ◌&&◌}
use Rattle.std.specs.Slice.Iter.{windows_rest}
use Rattle.std.specs.Slice.ArrayWindows.{array_windows_parts}
use Rattle.pick_lists.specs.Sound.{rises}
use Rattle.pick_lists.proofs.rises.Given as goal

abbrev pub invariant-loop-a : goal.invariant-loop-a
invariant-loop-a l = (l.all && rises (windows_rest (array_windows_parts l.a-iterator))) ≡ rises l.starts
