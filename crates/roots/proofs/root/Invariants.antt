-- `roots::root` meets its contract. The invariant `Taken`: the digits of m taken so far are the square of r and rem. Each turn takes two more
-- and gives one of the root (`RootLoop`). Assumes nothing.
use Rattle.floats.proofs.RootLoop.{Taken}
use Rattle.roots.proofs.root.Given as goal

abbrev pub invariant-loop : goal.invariant-loop
invariant-loop l = Taken l.m l.n l.r l.rem l.w l.counter
