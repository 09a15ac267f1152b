-- `cluster_table::row_refusal` meets its contract: each return knows the tests before it (RowChecks). Assumes nothing.
use mathlib.Core.Path.{sym, ap, ◌∙◌}
use mathlib.Core.List.{List}
use Prim.Native.Nat.{ℕ}
use lib.ListN.{get_or}
use Rattle.cluster_table.proofs.RowChecks.{unreached, short, unsound, other, past, again, none}
use Rattle.cluster_table.proofs.row_refusal.Goals as goal

pub returns-then-not-sound_reach : goal.returns-then-not-sound_reach
returns-then-not-sound_reach c = rw (unreached _ _ _ _ (sym c.sound_reach.ensures ∙ c.if-not-sound_reach.true))

pub returns-then-table-n : goal.returns-then-table-n
returns-then-table-n c = rw (short _ _ _ _ (sym c.sound_reach.ensures ∙ c.if-not-sound_reach.false) c.if-table-n.true)

pub returns-then-not-is_sound : goal.returns-then-not-is_sound
returns-then-not-is_sound c =
    rw (unsound _ _ _ _ (sym c.sound_reach.ensures ∙ c.if-not-sound_reach.false) c.if-table-n.false (sym c.is_sound.ensures ∙ c.if-not-is_sound.true))

pub returns-then-to_bits-table : goal.returns-then-to_bits-table
returns-then-to_bits-table c =
    rw (other _ _ _ _ (sym c.sound_reach.ensures ∙ c.if-not-sound_reach.false) c.if-table-n.false (sym c.is_sound.ensures ∙ c.if-not-is_sound.false)
    (λ e. c.if-to_bits-table.true (c.to_bits.ensures ∙ e)))

pub returns-then-i-n : goal.returns-then-i-n
returns-then-i-n c =
    rw (past _ _ _ _ (sym c.sound_reach.ensures ∙ c.if-not-sound_reach.false) c.if-table-n.false (sym c.is_sound.ensures ∙ c.if-not-is_sound.false)
    (sym c.to_bits.ensures ∙ c.if-to_bits-table.false) c.if-i-n.true)

pub returns-then-marks-i-eq1 : goal.returns-then-marks-i-eq1
returns-then-marks-i-eq1 c =
    rw (again _ _ _ _ (sym c.sound_reach.ensures ∙ c.if-not-sound_reach.false) c.if-table-n.false (sym c.is_sound.ensures ∙ c.if-not-is_sound.false)
    (sym c.to_bits.ensures ∙ c.if-to_bits-table.false) c.if-i-n.false _ (ap (λ (m : List ℕ). get_or m c.args.i 0) c.marks.ensures) c.if-marks-i-eq1.true)

pub returns : goal.returns
returns c =
    rw (none _ _ _ _ (sym c.sound_reach.ensures ∙ c.if-not-sound_reach.false) c.if-table-n.false (sym c.is_sound.ensures ∙ c.if-not-is_sound.false)
    (sym c.to_bits.ensures ∙ c.if-to_bits-table.false) c.if-i-n.false _ (ap (λ (m : List ℕ). get_or m c.args.i 0) c.marks.ensures) c.if-marks-i-eq1.false)
