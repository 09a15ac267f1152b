-- `pick_lists::is_sound` meets its contract: both tests, one after the other, are the definition. Assumes nothing.
use Rattle.pick_lists.specs.Sound.{sound_lists}
use Rattle.pick_lists.proofs.is_sound.Goals as goal

pub returns-then-not-starts_sound : goal.returns-then-not-starts_sound
unfolding sound_lists
returns-then-not-starts_sound c = rw (← c.starts_sound.ensures, c.if-not-starts_sound.true)

pub returns : goal.returns
unfolding sound_lists
returns c = rw (← c.starts_sound.ensures, c.if-not-starts_sound.false) c.all_finite.ensures
