-- `numbers::whole::floor_any32` meets its contract: the tests say what x is (`SizeTests`), and each arm is a law of `FloorArms`. Assumes nothing.
use Rattle.std.proofs.Common.{◌≡◌, ℕ, ◌<◌, T, sym, subst, arith, lit≤}
use lib.Ieee.{Float, binary32, neg, fits, of_bits}
use Rattle.floats.proofs.Tests.{holds, fails}
use Rattle.floats.proofs.SizeTests.{Small, small, small-neg, part, in-range, cut-is, cut-lt, in-float, large, large-neg, neither}
use Rattle.floats.proofs.FloorArms.{floor-up, floor-same, floor-plus, floor-large, floor-nothing}
use Rattle.numbers.proofs.whole.floor_any32.Goals as goal

pub truncating_f32_to_u64-requires : goal.truncating_f32_to_u64-requires
unfolding of_bits
truncating_f32_to_u64-requires c =
    let x : Float = c.args.x in
    let small-plus : Small 23 c.args.x = small 23 c.args.x (holds c.if-x.true) (holds c.if-x-2.true) in
    let r = in-range 23 c.args.x (lit≤ tt) small-plus in
    record { lower_bound = r.0; upper_bound = r.1 }

pub int_to_float-result : goal.int_to_float-result
unfolding of_bits
int_to_float-result c =
    let x : Float = c.args.x in
    let small-plus : Small 23 c.args.x = small 23 c.args.x (holds c.if-x.true) (holds c.if-x-2.true) in
    let r = c.truncating_f32_to_u64 in
    in-float r.result (omega (arith, cut-lt 23 c.args.x (lit≤ tt) small-plus r.result r.ensures))

pub returns-then-x-2 : goal.returns-then-x-2
unfolding of_bits
returns-then-x-2 c =
    let x : Float = c.args.x in
    let small-plus : Small 23 c.args.x = small 23 c.args.x (holds c.if-x.true) (holds c.if-x-2.true) in
    let r = c.truncating_f32_to_u64 in
    let x = c.args.x in
    let s = small-plus in
    floor-plus x r.result s.0 (cut-is 23 x (lit≤ tt) s r.result r.ensures)

pub returns-then-x : goal.returns-then-x
unfolding of_bits
returns-then-x c =
    let x : Float = c.args.x in
    let held : T (fits binary32 c.args.x) = subst T (sym c.well_formed.0.1) tt in
    floor-large c.args.x held
    (large 23 c.args.x (holds c.if-x.true) (fails c.if-x-2.false))

pub truncating_f32_to_u64-w-requires : goal.truncating_f32_to_u64-w-requires
unfolding of_bits neg
truncating_f32_to_u64-w-requires c =
    let x : Float = c.args.x in
    let small-minus : Small 23 (neg c.args.x) = small-neg 23 c.args.x (holds c.if-x-3.true) (holds c.if-x-4.true) in
    let r = in-range 23 (neg c.args.x) (lit≤ tt) small-minus in
    record { lower_bound = r.0; upper_bound = r.1 }

pub int_to_float-w : goal.int_to_float-w
unfolding of_bits neg
int_to_float-w c =
    let w : ℕ = c.truncating_f32_to_u64-w.result in
    let x : Float = c.args.x in
    let small-minus : Small 23 (neg c.args.x) = small-neg 23 c.args.x (holds c.if-x-3.true) (holds c.if-x-4.true) in
    let w-lt : w < 8388608 = cut-lt 23 (neg x) (lit≤ tt) (small-minus) w c.truncating_f32_to_u64-w.ensures in
    in-float w (omega (arith, w-lt))

pub overflow_add-result : goal.overflow_add-result
unfolding of_bits neg
overflow_add-result c =
    let x : Float = c.args.x in
    let small-minus : Small 23 (neg c.args.x) = small-neg 23 c.args.x (holds c.if-x-3.true) (holds c.if-x-4.true) in
    let w : ℕ = c.truncating_f32_to_u64-w.result in
    let w-lt : w < 8388608 = cut-lt 23 (neg x) (lit≤ tt) (small-minus) w c.truncating_f32_to_u64-w.ensures in
    omega (arith, w-lt)

pub int_to_float-result-then-w-a : goal.int_to_float-result-then-w-a
unfolding of_bits neg
int_to_float-result-then-w-a c =
    let x : Float = c.args.x in
    let small-minus : Small 23 (neg c.args.x) = small-neg 23 c.args.x (holds c.if-x-3.true) (holds c.if-x-4.true) in
    let w : ℕ = c.truncating_f32_to_u64-w.result in
    let w-lt : w < 8388608 = cut-lt 23 (neg x) (lit≤ tt) (small-minus) w c.truncating_f32_to_u64-w.ensures in
    in-float _ (omega (arith, w-lt))

pub returns-then-w-a : goal.returns-then-w-a
unfolding of_bits neg
returns-then-w-a c =
    let x : Float = c.args.x in
    let small-minus : Small 23 (neg c.args.x) = small-neg 23 c.args.x (holds c.if-x-3.true) (holds c.if-x-4.true) in
    let w : ℕ = c.truncating_f32_to_u64-w.result in
    let w-is : w ≡ part (neg x) = cut-is 23 (neg x) (lit≤ tt) (small-minus) w c.truncating_f32_to_u64-w.ensures in
    let w-lt : w < 8388608 = cut-lt 23 (neg x) (lit≤ tt) (small-minus) w c.truncating_f32_to_u64-w.ensures in
    floor-up x small-minus.0 w w-is (omega (arith, w-lt)) (holds c.if-w-a.true)

pub int_to_float-result-then-x-4 : goal.int_to_float-result-then-x-4
unfolding of_bits neg
int_to_float-result-then-x-4 c =
    let x : Float = c.args.x in
    let small-minus : Small 23 (neg c.args.x) = small-neg 23 c.args.x (holds c.if-x-3.true) (holds c.if-x-4.true) in
    let w : ℕ = c.truncating_f32_to_u64-w.result in
    let w-lt : w < 8388608 = cut-lt 23 (neg x) (lit≤ tt) (small-minus) w c.truncating_f32_to_u64-w.ensures in
    in-float _ (omega (arith, w-lt))

pub returns-then-x-4 : goal.returns-then-x-4
unfolding of_bits neg
returns-then-x-4 c =
    let x : Float = c.args.x in
    let small-minus : Small 23 (neg c.args.x) = small-neg 23 c.args.x (holds c.if-x-3.true) (holds c.if-x-4.true) in
    let w : ℕ = c.truncating_f32_to_u64-w.result in
    let w-is : w ≡ part (neg x) = cut-is 23 (neg x) (lit≤ tt) (small-minus) w c.truncating_f32_to_u64-w.ensures in
    let w-lt : w < 8388608 = cut-lt 23 (neg x) (lit≤ tt) (small-minus) w c.truncating_f32_to_u64-w.ensures in
    floor-same x small-minus.0 w w-is (omega (arith, w-lt)) (fails c.if-w-a.false)

pub returns-then-x-3 : goal.returns-then-x-3
unfolding of_bits neg
returns-then-x-3 c =
    let x : Float = c.args.x in
    let held : T (fits binary32 c.args.x) = subst T (sym c.well_formed.0.1) tt in
    floor-large c.args.x held
    (large-neg 23 c.args.x (holds c.if-x-3.true) (fails c.if-x-4.false))

-- ---- a zero, or a NaN
pub returns : goal.returns
unfolding of_bits
returns c =
    let x : Float = c.args.x in
    let held : T (fits binary32 c.args.x) = subst T (sym c.well_formed.0.1) tt in
    floor-nothing c.args.x held (neither binary32 c.args.x held (fails c.if-x.false) (fails c.if-x-3.false))
