-- `clusters::close` meets its contract: each return knows the tests before it (Closes). Assumes nothing.
use mathlib.Core.Path.{refl, sym, ◌∙◌}
use Rattle.clusters.proofs.Closes.{no_words, short, many-copies, unsound, waits, gives}
use Rattle.clusters.proofs.close.Goals as goal

pub returns-then-table-lt-HEADER : goal.returns-then-table-lt-HEADER
returns-then-table-lt-HEADER c = record { answer = no_words _ c.if-table-lt-HEADER.true }

pub returns-then-table-n : goal.returns-then-table-n
returns-then-table-n c = record { answer = short _ _ refl c.if-table-lt-HEADER.false c.if-table-n.true }

pub returns-then-n-gt-MAX_COPIES : goal.returns-then-n-gt-MAX_COPIES
returns-then-n-gt-MAX_COPIES c = record { answer = many-copies _ _ refl c.if-table-lt-HEADER.false c.if-table-n.false c.if-n-gt-MAX_COPIES.true }

pub returns-then-not-is_sound : goal.returns-then-not-is_sound
returns-then-not-is_sound c = record { answer = unsound _ _ refl c.if-table-lt-HEADER.false c.if-table-n.false c.if-n-gt-MAX_COPIES.false _ c.is_sound.ensures c.if-not-is_sound.true }

pub returns-then-not-all_marked : goal.returns-then-not-all_marked
returns-then-not-all_marked c = record { answer = waits _ _ refl c.if-table-lt-HEADER.false c.if-table-n.false c.if-n-gt-MAX_COPIES.false _ c.is_sound.ensures c.if-not-is_sound.false _ c.all_marked.ensures c.if-not-all_marked.true }

pub fractions-requires : goal.fractions-requires
fractions-requires c = record { n_le_max_copies = (c.if-n-gt-MAX_COPIES.false, c.if-table-n.false); table_value = sym c.is_sound.ensures ∙ c.if-not-is_sound.false }

pub returns : goal.returns
returns c = record { answer = gives _ _ refl c.if-table-lt-HEADER.false c.if-table-n.false c.if-n-gt-MAX_COPIES.false _ c.is_sound.ensures c.if-not-is_sound.false _ c.all_marked.ensures c.if-not-all_marked.false _ c.fractions.ensures }
