-- The i digits of m are still to be written, and with them the buffer is what it should be.
use Rattle.std.proofs.Common.{◌≡◌}
use Rattle.base.specs.Tables.{placed}
use Rattle.text.specs.Text.{digits}
use Rattle.text.proofs.put_digits.Given as goal

abbrev pub invariant-loop-i : goal.invariant-loop-i
invariant-loop-i l = placed l.at (digits l.base l.i l.m) l.out ≡ placed l.at (digits l.base l.k l.n) l.initial.out
