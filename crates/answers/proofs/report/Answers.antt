-- What is left to prove of `report`: each count fits a word. Assumes nothing.
use Rattle.std.proofs.Common.{arith}
use Rattle.answers.proofs.report.Goals as goal

pub overflow_cast-r : goal.overflow_cast-r
overflow_cast-r g c = omega (arith, rw c.in-Ok.is at (c.requires 0))

pub overflow_cast-r-in-Ok : goal.overflow_cast-r-in-Ok
overflow_cast-r-in-Ok g c = omega (arith, rw c.in-Ok.is at (c.requires 1))

pub overflow_cast-r-in-Ok-2 : goal.overflow_cast-r-in-Ok-2
overflow_cast-r-in-Ok-2 g c = omega (arith, rw c.in-Ok.is at (c.requires 2))

pub overflow_cast-r-in-Ok-3 : goal.overflow_cast-r-in-Ok-3
overflow_cast-r-in-Ok-3 g c = omega (arith, rw c.in-Ok.is at (c.requires 3))
