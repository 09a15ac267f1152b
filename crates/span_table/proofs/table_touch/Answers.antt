-- `span_table::table_touch` meets its contract: the boxes of both copies are those of the table. Assumes nothing.
use Rattle.pick_lists.proofs.SoundLists.{sound-lists}
use Rattle.span_table.proofs.table_touch.Goals as goal

pub span_at-s-requires : goal.span_at-s-requires
span_at-s-requires c = ((sound-lists _ _ _ c.requires.picks_value).few, c.requires.i_bound.0, c.requires.i_bound.2)

pub span_at-c-requires : goal.span_at-c-requires
span_at-c-requires c = ((sound-lists _ _ _ c.requires.picks_value).few, c.requires.i_bound.1, c.requires.i_bound.2)
