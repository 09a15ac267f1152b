-- `points::put_centers` meets its contract: the centers, then all of them wrapped again in place. Assumes nothing.
use mathlib.Core.Path.{◌≡◌, ap, ◌∙◌}
use mathlib.Core.List.{List, []}
use Prim.Native.Nat.{◌*◌}
use native.Mathlib.Omega.{arith}
use lib.ListN.{length}
use lib.Ieee.{Float}
use Rattle.base.specs.Tables.{over}
use Rattle.pick_lists.specs.Sound.{copies}
use Rattle.pick_lists.specs.Input.{given}
use Rattle.pick_lists.proofs.SoundLists.{sound-lists}
use Rattle.centers.specs.Centers.{centers_of}
use Rattle.centers.proofs.CenterList.{centers-length}
use Rattle.points.specs.Points.{wrap_from, tree_centers}
use Rattle.points.proofs.Wrapping.{wrapped-over}
use Rattle.points.proofs.put_centers.Goals as goal

pub overflow_sub-starts : goal.overflow_sub-starts
overflow_sub-starts c = omega (arith, (sound-lists c.args.solutes.now c.args.starts.now c.args.picks.now c.requires.picks_value).number)

pub returns : goal.returns
unfolding tree_centers
returns c =
    let n = copies c.args.starts.now in
    let f = given c.args.cell c.args.solutes.now [] c.args.starts.now c.args.picks.now in
    let centers = centers_of f in
    let size : length centers ≡ n * 3 = centers-length f in
    c.wrap_all.ensures
    ∙ ap (λ (l : List Float). over (wrap_from c.args.cell l n 0) l) c.put_centers.ensures
    ∙ wrapped-over c.args.cell centers c.args.out.now n size
