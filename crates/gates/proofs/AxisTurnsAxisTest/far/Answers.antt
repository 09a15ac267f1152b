-- `far` of the gates of many turns meets its contract: the guess is below 2 ^ 15, and the tests are the definition. Assumes nothing.
use native.Mathlib.Omega.{arith}
use Rattle.gates.specs.Inner.{far_turns}
use Rattle.gates.proofs.Rejection.{guess-below}
use Rattle.gates.proofs.AxisTurnsAxisTest.far.Goals as goal

pub ends_at-requires : goal.ends_at-requires
ends_at-requires c = rw c.guess-t.ensures (omega (arith, guess-below c.args.self.inverse c.larger.result))

pub returns : goal.returns
unfolding far_turns
returns c = rw (c.far.ensures, c.ends_at.ensures, c.guess-t.ensures, c.larger.ensures)
