-- `sound_parents::is_sound` meets its contract: its two tests are the two halves of the definition, a shallow list passes the second, and no copy is
-- stamped at first. Assumes nothing.
use mathlib.Core.Path.{sym, ◌∙◌}
use Rattle.base.specs.Limits.{max_copies}
use Rattle.base.proofs.Ranges.{all_true, all-at}
use Rattle.union_find.proofs.Forest.{closed_of, sound-not, sound-rest}
use Rattle.union_find.proofs.Trails.{reaches-within}
use Rattle.sound_parents.proofs.Climbs.{stamped-none}
use Rattle.sound_parents.proofs.is_sound.Goals as goal

pub all_end-requires-clause-stamped : goal.all_end-requires-clause-stamped
all_end-requires-clause-stamped c = stamped-none _ max_copies c.requires

pub returns-then-shallow : goal.returns-then-shallow
returns-then-shallow c =
    let low = sym c.all_below.ensures ∙ c.if-all_below.true in
    let near = sym c.shallow.ensures ∙ c.if-shallow.true in
    c.if-shallow.true ∙ sym (all_true _ _ (λ k l. reaches-within 8 (closed_of _ low) l (all-at _ _ k near l))) ∙ sound-rest _ low

pub returns-else-shallow : goal.returns-else-shallow
returns-else-shallow c = c.all_end.ensures ∙ sound-rest _ (sym c.all_below.ensures ∙ c.if-all_below.true)

pub returns-else-all_below : goal.returns-else-all_below
returns-else-all_below c = c.if-all_below.false ∙ sound-not _ (sym c.all_below.ensures ∙ c.if-all_below.false)
