-- `octants` meets its contract: the three tests are those of `splits` and of depth 14. Assumes nothing.
use Rattle.std.proofs.Common.{sym, ◌∙◌}
use Rattle.division.proofs.Dividing.{octants-all, octants-narrow, octants-few, octants-bottom}
use Rattle.division.proofs.octants.Goals as goal
use Rattle.division.proofs.octants.Goals.{else-depth-lt-MAX_DEPTH-via-then-depth-lt-MAX_DEPTH+then-order-gt1+else-is_wide, else-depth-lt-MAX_DEPTH-via-then-depth-lt-MAX_DEPTH+else-order-gt1, else-depth-lt-MAX_DEPTH-via-else-depth-lt-MAX_DEPTH}

pub returns-then-is_wide-clause-is : goal.returns-then-is_wide-clause-is
returns-then-is_wide-clause-is c = octants-all _ _ _ c.if-depth-lt-MAX_DEPTH.true c.if-order-gt1.true (sym c.is_wide.ensures ∙ c.if-is_wide.true)

pub returns-else-depth-lt-MAX_DEPTH-clause-is : goal.returns-else-depth-lt-MAX_DEPTH-clause-is
returns-else-depth-lt-MAX_DEPTH-clause-is c =
    elim c.else-depth-lt-MAX_DEPTH.branch [
      | else-depth-lt-MAX_DEPTH-via-then-depth-lt-MAX_DEPTH+then-order-gt1+else-is_wide w ↦ octants-narrow _ _ _ w.if-depth-lt-MAX_DEPTH.true (sym w.is_wide.ensures ∙ w.if-is_wide.false)
      | else-depth-lt-MAX_DEPTH-via-then-depth-lt-MAX_DEPTH+else-order-gt1 w ↦ octants-few _ _ _ w.if-depth-lt-MAX_DEPTH.true w.if-order-gt1.false
      | else-depth-lt-MAX_DEPTH-via-else-depth-lt-MAX_DEPTH w ↦ octants-bottom _ _ _ w.if-depth-lt-MAX_DEPTH.false
    ]
