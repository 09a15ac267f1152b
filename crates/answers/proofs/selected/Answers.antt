-- What is left to prove of `selected`: each count fits a word. Assumes nothing.
use Rattle.std.proofs.Common.{arith}
use Rattle.answers.proofs.selected.Goals as goal

pub overflow_cast-n : goal.overflow_cast-n
overflow_cast-n g c = omega (arith, rw c.in-Ok.is at (c.requires 0))

pub overflow_cast-n-in-Ok : goal.overflow_cast-n-in-Ok
overflow_cast-n-in-Ok g c = omega (arith, rw c.in-Ok.is at (c.requires 1))
