-- `spans::copy_span` meets its contract: the picks of copy j. Assumes nothing.
use Rattle.pick_lists.proofs.SoundLists.{sound-lists}
use Rattle.pick_lists.proofs.CopyPicks.{copy-part, copy_some, copy-atoms}
use Rattle.spans.proofs.copy_span.Goals as goal

pub copy_picks-requires : goal.copy_picks-requires
copy_picks-requires c = copy-part _ _ _ (sound-lists _ _ _ c.requires.picks_value) _ c.requires.j_bound

pub span_of-requires : goal.span_of-requires
span_of-requires c =
    let l = sound-lists _ _ _ c.requires.picks_value in
    let b = c.copy_picks.ensures in
    record { a_nonzero = rw b (copy_some _ _ _ l _ c.requires.j_bound); by_index = rw b (copy-atoms _ _ _ l _ c.requires.j_bound) }
