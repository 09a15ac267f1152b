-- What is left to prove of `all_named`. Assumes nothing.
use Rattle.std.proofs.Common.{arith}
use Rattle.std.proofs.lemmas.Grind.{common_steps}
use Rattle.pick_lists.proofs.SoundLists.{all-named}
use Rattle.pick_lists.proofs.all_named.Goals as goal

pub returns : goal.returns
returns c =
    let e = all-named c.args.xs.now c.args.picks.now c.requires.xs_value in
    rw (← e, ← c.requires.atoms_value) (grind (arith, common_steps))
