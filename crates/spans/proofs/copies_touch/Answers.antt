-- `spans::copies_touch` meets its contract: the picks of both copies. Assumes nothing.
use mathlib.Core.Path.{sym, ap, ◌∙◌}
use Rattle.pick_lists.specs.Sound.{finite_atom}
use Rattle.pick_lists.proofs.SoundLists.{sound-lists}
use Rattle.pick_lists.proofs.CopyPicks.{copy-part, copy_some, copy-atoms, copy-finite}
use Rattle.touch.specs.Touch.{copies_touch}
use Rattle.spans.specs.Inner.{span_of}
use Rattle.spans.proofs.copies_touch.Goals as goal

pub copy_picks-a-requires : goal.copy_picks-a-requires
copy_picks-a-requires c = copy-part _ _ _ (sound-lists _ _ _ c.requires.picks_value) _ c.requires.i_bound.0

pub copy_picks-b-requires : goal.copy_picks-b-requires
copy_picks-b-requires c = copy-part _ _ _ (sound-lists _ _ _ c.requires.picks_value) _ c.requires.i_bound.1

pub boxed_touch-requires : goal.boxed_touch-requires
unfolding finite_atom
boxed_touch-requires c =
    let i = c.requires.i_bound.0 in
    let j = c.requires.i_bound.1 in
    let l = sound-lists _ _ _ c.requires.picks_value in
    let a = c.copy_picks-a.ensures in
    let b = c.copy_picks-b.ensures in record { xs_value = (c.requires.xs_value, c.requires.s_value.0 ∙ ap (span_of c.args.xs.now) (sym a), c.requires.s_value.1 ∙ rw b); b_nonzero = rw b (copy_some _ _ _ l _ j); finite_picks = (rw a (λ k h. (copy-atoms _ _ _ l _ i k h, copy-finite _ _ _ l _ i k h)), rw b (λ k h. (copy-atoms _ _ _ l _ j k h, copy-finite _ _ _ l _ j k h))) }

pub returns : goal.returns
unfolding copies_touch
returns c = rw (c.boxed_touch.ensures, c.copy_picks-b.ensures, c.copy_picks-a.ensures)
