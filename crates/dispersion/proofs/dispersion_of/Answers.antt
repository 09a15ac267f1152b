-- `dispersion::dispersion_of` meets its contract. `put_centers` leaves the centers before what the array held, and `score` reads no further. Assumes nothing.
use mathlib.Core.List.{[]}
use native.Mathlib.Omega.{arith}
use Rattle.pick_lists.specs.Input.{given}
use Rattle.pick_lists.proofs.SoundLists.{sound-lists}
use Rattle.dispersion.proofs.ScoreList.{listed-room, listed-score}
use Rattle.dispersion.proofs.dispersion_of.Goals as goal

pub put_centers-requires : goal.put_centers-requires
put_centers-requires c =
    let l = sound-lists c.args.xs.now c.args.starts.now c.args.picks.now c.requires in
    record { picks_value = c.requires; starts_in_bounds = omega (arith, l.few) }

pub overflow_sub-starts : goal.overflow_sub-starts
overflow_sub-starts c =
    let l = sound-lists c.args.xs.now c.args.starts.now c.args.picks.now c.requires in
    omega (arith, l.number)

pub score-requires : goal.score-requires
score-requires c = (listed-room (given c.args.cell c.args.xs.now [] c.args.starts.now c.args.picks.now) _ _ c.put_centers.ensures, (sound-lists c.args.xs.now c.args.starts.now c.args.picks.now c.requires).few)

pub returns : goal.returns
returns c = rw (c.score.ensures, c.extent.ensures) (listed-score (given c.args.cell c.args.xs.now [] c.args.starts.now c.args.picks.now) _ _ c.put_centers.ensures)
