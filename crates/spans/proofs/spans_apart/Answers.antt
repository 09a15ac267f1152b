-- `spans::spans_apart` meets its contract, an axis at a time. Assumes nothing.
use mathlib.Core.Path.{◌≡◌}
use mathlib.Core.Bool.{Bool}
use lib.Ieee.{Float, binary32, sub}
use Rattle.spans.proofs.Between.{by-x, by-y, by-z}
use Rattle.spans.proofs.spans_apart.Goals as goal

-- what an axis says of a copy's ends, it says of what they are
of-ends : (g : Float → Float → Bool) (low high : Float) {lo hi lo' hi' : Float} {x : Bool} → x ≡ g (sub binary32 lo high) (sub binary32 hi low) → lo ≡ lo' → hi ≡ hi' → x ≡ g (sub binary32 lo' high) (sub binary32 hi' low)
of-ends g low high e p q = rw (p, q) at e

pub returns-then-far : goal.returns-then-far
returns-then-far g c =
    let on-x = c.ends_of-x.ensures in
    let test = g.T.AxisTest.rejects in
    let a = c.args.g in
    by-x (test a.x) (test a.y) (test a.z) _ _ _ _ (of-ends (test a.x) _ _ c.far.ensures on-x.0 on-x.1) c.if-far.true

pub returns-then-far-2 : goal.returns-then-far-2
returns-then-far-2 g c =
    let on-y = c.ends_of-y.ensures in
    let on-x = c.ends_of-x.ensures in
    let test = g.T.AxisTest.rejects in
    let a = c.args.g in
    by-y (test a.x) (test a.y) (test a.z) _ _ _ _ (of-ends (test a.x) _ _ c.far.ensures on-x.0 on-x.1) c.if-far.false _ (of-ends (test a.y) _ _ c.far-2.ensures on-y.0 on-y.1) c.if-far-2.true

pub returns : goal.returns
returns g c =
    let on-z = c.ends_of-z.ensures in
    let on-y = c.ends_of-y.ensures in
    let on-x = c.ends_of-x.ensures in
    let test = g.T.AxisTest.rejects in
    let a = c.args.g in
    by-z (test a.x) (test a.y) (test a.z) _ _ _ _ (of-ends (test a.x) _ _ c.far.ensures on-x.0 on-x.1) c.if-far.false _ (of-ends (test a.y) _ _ c.far-2.ensures on-y.0 on-y.1) c.if-far-2.false _
    (of-ends (test a.z) _ _ c.far-3.ensures on-z.0 on-z.1)
