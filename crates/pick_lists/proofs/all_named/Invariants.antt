-- `pick_lists::all_named` meets its contract. The loop's invariant: what was found of the picks so far. Assumes nothing.
use Rattle.std.proofs.Common.{◌≡◌, ltb, take}
use Rattle.std.specs.List.{list_all}
use Rattle.pick_lists.proofs.all_named.Given as goal

abbrev pub invariant-loop-p : goal.invariant-loop-p
invariant-loop-p l = l.all ≡ list_all (λ p. ltb p l.atoms) (take l.p-index l.picks)
