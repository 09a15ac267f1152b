-- What is left to prove of `put_centers`. Assumes nothing.
use native.Mathlib.Omega.{arith}
use Rattle.pick_lists.proofs.SoundLists.{sound-lists}
use Rattle.centers.proofs.CenterList.{writing-first, writing-next, writing-last}
use Rattle.centers.proofs.put_centers.Goals as goal

pub overflow_sub-i-end : goal.overflow_sub-i-end
overflow_sub-i-end c = omega (arith, (sound-lists c.args.xs.now c.args.starts.now c.args.picks.now c.requires.picks_value).number)

pub loop-i-init : goal.loop-i-init
loop-i-init c = writing-first _ _ c.requires.starts_in_bounds

pub loop-i-preserved : goal.loop-i-preserved
loop-i-preserved c = rw c.copy_center-m.ensures (writing-next _ c.loop-i-test.true c.loop-i.invariant)

pub returns : goal.returns
returns c = writing-last _ c.loop-i-test.false c.loop-i.invariant
