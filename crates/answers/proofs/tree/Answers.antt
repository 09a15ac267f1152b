-- What is left to prove of `tree`: each count fits a word. Assumes nothing.
use Rattle.std.proofs.Common.{arith}
use Rattle.answers.proofs.tree.Goals as goal

pub overflow_cast-t : goal.overflow_cast-t
overflow_cast-t g c = omega (arith, rw c.in-Ok.is at (c.requires 0))

pub overflow_cast-t-in-Ok : goal.overflow_cast-t-in-Ok
overflow_cast-t-in-Ok g c = omega (arith, rw c.in-Ok.is at (c.requires 1))
