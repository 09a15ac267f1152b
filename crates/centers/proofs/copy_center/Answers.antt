-- `centers::copy_center` meets its contract: the picks that are lent are the copy's, and sound pick lists have what `copy_picks` and `center`
-- ask of them. Assumes nothing.
use Rattle.pick_lists.proofs.SoundLists.{sound-lists}
use Rattle.pick_lists.proofs.CopyPicks.{copy-part, copy_some, copy-few, copy-atoms}
use Rattle.centers.proofs.copy_center.Goals as goal

pub copy_picks-requires : goal.copy_picks-requires
copy_picks-requires c = copy-part _ _ _ (sound-lists _ _ _ c.requires.picks_value) _ c.requires.i_bound

pub center-requires : goal.center-requires
center-requires c =
    let l = sound-lists _ _ _ c.requires.picks_value in
    rw c.copy_picks.ensures (record { picks_nonzero = (copy_some _ _ _ l _ c.requires.i_bound, copy-few _ _ _ l _ c.requires.i_bound); by_index = copy-atoms _ _ _ l _ c.requires.i_bound })

pub returns : goal.returns
returns c = rw (c.center.ensures, c.copy_picks.ensures)
