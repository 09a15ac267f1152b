-- What is left to prove of `lists_touch`. Assumes nothing.
use mathlib.Core.Path.{◌≡◌, sym, ap, ◌∙◌}
use mathlib.Core.Bool.{◌||◌}
use Prim.Native.Nat.{ℕ, ◌+◌, ◌-◌}
use mathlib.Core.List.{List}
use lib.Ieee.{Float}
use lib.ListN.{length, get_or, take, drop}
use Rattle.std.proofs.lemmas.List.{take_rest}
use Rattle.cell.specs.declared.Vec3.{Vec3}
use Rattle.cell.specs.Cell.{point_at}
use Rattle.touch.specs.Touch.{near, any_in, any_pair}
use Rattle.touch.proofs.Any.{any_none, any-skip, any-hit, pair-more, pair-none, or-false}
use Rattle.spans.proofs.OnLevel.{begins-pick, nears-pick}
use Rattle.spans.proofs.Parts.{rest-at}
use Rattle.spans.proofs.lists_touch.Goals.{After-begin-first, After-near_on}
use Rattle.spans.proofs.lists_touch.Goals as goal

-- by the cell's extent
by-extent : {e d : Vec3} (k : Float) (xs : List Float) (a b : List ℕ) → e ≡ d → any_pair (near k e xs) a b ≡ any_pair (near k d xs) a b
by-extent k xs a b is = rw is

pub loop-j-init : goal.loop-j-init
loop-j-init c =
    let a = c.args in
    let pre = c.requires in
    let l = c.pairs-test.true in
    let v = c.pairs in
    let test = near a.cutoff c.extent-e.result a.xs.now in
    let rest = any_pair test (drop (v.i-index + 1) a.a.now) a.b.now in
    let r = begins-pick _ _ _ pre.xs_value.0 _ _ pre.xs_value.3 (λ k h. (pre.finite_picks.0 k h).1) (λ k h. (pre.finite_picks.1 k h).1) _ l _ _ _ _ c.extent-e.ensures pre.xs_value.1 pre.xs_value.2 c.point-p.ensures _ c.begin-first.ensures in
    (v.invariant.0, ap (λ (qs : List ℕ). any_in (test (get_or a.a.now v.i-index 0)) qs || rest) (take_rest a.b.now _) ∙ ap (◌|| rest) r.1 ∙ sym (pair-more _ _ _ _ l) ∙ v.invariant.1)

pub point-requires : goal.point-requires
point-requires c =
    let at = rest-at c.args.b.now c.begin-first.result c.loop-j.j-index c.loop-j-test.true in
    rw at.1 (c.requires.finite_picks.1 _ at.0).0

-- what the code finds of a pair is what the definition says
found-is : (c : After-near_on) → c.near_on.result ≡ near c.args.cutoff c.extent-e.result c.args.xs.now (get_or c.args.a.now c.pairs.i-index 0) (get_or (take (length c.args.b.now - c.begin-first.result) (drop c.begin-first.result c.args.b.now)) c.loop-j.j-index 0)
found-is c =
    let pre = c.requires in
    let at = rest-at _ _ _ c.loop-j-test.true in
    c.near_on.ensures
    ∙ nears-pick _ _ _ pre.xs_value.0 _ _ pre.xs_value.3 (λ k h. (pre.finite_picks.0 k h).1) (λ k h. (pre.finite_picks.1 k h).1) _ c.pairs-test.true _ _ _ _ c.extent-e.ensures pre.xs_value.1
    pre.xs_value.2 c.point-p.ensures _ _ at.0 (c.point.ensures ∙ ap (point_at c.args.xs.now) at.1)
    ∙ rw at.1

pub loop-j-preserved : goal.loop-j-preserved
loop-j-preserved c = (
  c.loop-j.invariant.0,
  any-skip (near _ _ _ _) _ _ _ c.loop-j-test.true (sym (found-is (goal.at.loop-j-preserved c).After-near_on) ∙ c.if-near_on.false) ∙ c.loop-j.invariant.1,
)

pub pairs-preserved : goal.pairs-preserved
pairs-preserved c = (c.loop-j.invariant.0, sym (or-false _ _ (any_none _ _ _ c.loop-j-test.false)) ∙ c.loop-j.invariant.1)

pub returns-after-pairs : goal.returns-after-pairs
returns-after-pairs c = c.pairs.invariant.0 ∙ sym (pair-none _ _ _ _ c.pairs-test.false) ∙ c.pairs.invariant.1 ∙ by-extent _ _ _ _ c.extent-e.ensures

pub returns-then-near_on : goal.returns-then-near_on
returns-then-near_on c =
    any-hit (near _ _ _ _) _ _ _ c.loop-j-test.true (sym (found-is (goal.at.returns-then-near_on c).After-near_on) ∙ c.if-near_on.true)
    ∙ c.loop-j.invariant.1
    ∙ by-extent _ _ _ _ c.extent-e.ensures
