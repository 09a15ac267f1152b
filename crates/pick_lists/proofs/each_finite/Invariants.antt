-- `pick_lists::each_finite` meets its contract. The loop's invariant: the picks so far are finite atoms. Assumes nothing.
use Rattle.std.proofs.Common.{◌≡◌, true, take}
use Rattle.std.specs.List.{list_all}
use Rattle.pick_lists.proofs.SoundLists.{names_finite}
use Rattle.pick_lists.proofs.each_finite.Given as goal

abbrev pub invariant-loop-p : goal.invariant-loop-p
invariant-loop-p l = list_all (names_finite l.xs) (take l.p-index l.picks) ≡ true
