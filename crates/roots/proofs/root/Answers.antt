-- What is left to prove of `root`. Assumes nothing.
use Prim.Native.Nat.{ℕ, ◌+◌, ◌*◌, ◌/◌, ◌≤◌}
use native.Mathlib.Omega.{arith}
use mir.Val.{Fits}
use mir.Syntax.{w64}
use Rattle.floats.proofs.RootLoop.{start, flag, turn, done}
use Rattle.roots.proofs.root.Goals as goal

pub loop-init : goal.loop-init
loop-init c = start c.args.m c.args.n c.requires.0

pub overflow_mul-rem-in-loop : goal.overflow_mul-rem-in-loop
overflow_mul-rem-in-loop c =
    let r : ℕ = c.loop.r in
    let t : ℕ = c.loop.rem * 4 + c.loop.w / 4503599627370496 in
    flag (λ (d : ℕ). Fits w64 ((r * 4 + 1) * d)) (r * 4) t (λ h. omega arith) (λ h. omega arith)

pub overflow_sub-rem : goal.overflow_sub-rem
overflow_sub-rem c =
    let r : ℕ = c.loop.r in
    let t : ℕ = c.loop.rem * 4 + c.loop.w / 4503599627370496 in
    flag (λ (d : ℕ). (r * 4 + 1) * d ≤ t) (r * 4) t (λ h. omega arith) (λ h. omega arith)

pub overflow_add-r : goal.overflow_add-r
overflow_add-r c =
    let r : ℕ = c.loop.r in
    let t : ℕ = c.loop.rem * 4 + c.loop.w / 4503599627370496 in
    flag (λ (d : ℕ). Fits w64 (r * 2 + d)) (r * 4) t (λ h. omega arith) (λ h. omega arith)

pub loop-preserved : goal.loop-preserved
loop-preserved c =
    let l = c.loop in
    turn c.args.m c.args.n l.r l.rem l.w l.counter l.invariant c.loop-test.true c.requires.1

pub returns : goal.returns
returns c =
    let l = c.loop in
    done c.args.m c.args.n l.r l.rem l.w l.counter l.invariant c.loop-test.false
