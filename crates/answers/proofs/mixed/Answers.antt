-- What is left to prove of `mixed`: each count fits a word. Assumes nothing.
use Rattle.std.proofs.Common.{arith}
use Rattle.answers.proofs.mixed.Goals as goal

pub overflow_cast-m : goal.overflow_cast-m
overflow_cast-m c = omega (arith, rw c.in-Some.is at (c.requires 0))

pub overflow_cast-m-in-Some : goal.overflow_cast-m-in-Some
overflow_cast-m-in-Some c = omega (arith, rw c.in-Some.is at (c.requires 1))

pub overflow_cast-m-in-Some-2 : goal.overflow_cast-m-in-Some-2
overflow_cast-m-in-Some-2 c = omega (arith, rw c.in-Some.is at (c.requires 2))

pub overflow_cast-m-in-Some-3 : goal.overflow_cast-m-in-Some-3
overflow_cast-m-in-Some-3 c = omega (arith, rw c.in-Some.is at (c.requires 3))

pub overflow_cast-m-in-Some-4 : goal.overflow_cast-m-in-Some-4
overflow_cast-m-in-Some-4 c = omega (arith, rw c.in-Some.is at (c.requires 4))

pub overflow_cast-m-in-Some-5 : goal.overflow_cast-m-in-Some-5
overflow_cast-m-in-Some-5 c = omega (arith, rw c.in-Some.is at (c.requires 5))
