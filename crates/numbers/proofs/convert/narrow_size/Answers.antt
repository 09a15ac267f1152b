-- `numbers::convert::narrow_size` meets its contract: each arm is a law of `NarrowArms`. Assumes nothing.
use Rattle.std.proofs.Common.{◌≡◌, ℕ, ◌+◌, ◌-◌, ◌*◌, ◌/◌, ◌%◌, ◌<◌, ◌≤◌, ap, ◌∙◌, le_refl, arith, lit≤}
use lib.Ieee.{binary64}
use Rattle.floats.proofs.Fields.{lead_is}
use Rattle.floats.proofs.NarrowArms.{narrow-normal-le, narrow-normal, narrow-low-le, narrow-low, narrow-zero, narrow-over}
use Rattle.numbers.proofs.convert.narrow_size.Goals as goal

pub returns-then-exponent-ge1151 : goal.returns-then-exponent-ge1151
returns-then-exponent-ge1151 c = (narrow-over c.args.n c.requires c.if-exponent-ge1151.true, le_refl 2139095040)

pub shift_nearest-requires : goal.shift_nearest-requires
shift_nearest-requires c = omega (arith, lead_is binary64 c.args.n)

pub overflow_add-result : goal.overflow_add-result
overflow_add-result c =
    let kept-le : c.shift_nearest.result ≤ 16777216 = narrow-normal-le c.args.n c.requires c.shift_nearest.result c.shift_nearest.ensures in
    omega (arith, kept-le)

pub overflow_cast-result : goal.overflow_cast-result
overflow_cast-result c =
    let kept-le : c.shift_nearest.result ≤ 16777216 = narrow-normal-le c.args.n c.requires c.shift_nearest.result c.shift_nearest.ensures in
    omega (arith, kept-le)

pub returns-then-exponent-ge897 : goal.returns-then-exponent-ge897
returns-then-exponent-ge897 c =
    let kept-le : c.shift_nearest.result ≤ 16777216 = narrow-normal-le c.args.n c.requires c.shift_nearest.result c.shift_nearest.ensures in
    let n = c.args.n in
    let r = c.shift_nearest in
    let lo : 897 ≤ n / 4503599627370496 = c.if-exponent-ge897.true in
    let hi : n / 4503599627370496 < 1151 = c.if-exponent-ge1151.false in
    let e : (n / 4503599627370496 - 897) * 8388608 % 18446744073709551616 ≡ (n / 4503599627370496 - 897) * 8388608 = omega arith in
    (ap (λ (x : ℕ). x + r.result) e ∙ narrow-normal n c.requires r.result r.ensures lo hi, omega (arith, kept-le))

pub shift_nearest-requires-then-exponent-ge872 : goal.shift_nearest-requires-then-exponent-ge872
shift_nearest-requires-then-exponent-ge872 c = omega (arith, lead_is binary64 c.args.n)

pub overflow_cast-result-then-exponent-ge872 : goal.overflow_cast-result-then-exponent-ge872
overflow_cast-result-then-exponent-ge872 c =
    let low-kept-le : c.shift_nearest-then-exponent-ge872.result ≤ 16777216 =
    narrow-low-le c.args.n c.requires c.shift_nearest-then-exponent-ge872.result c.shift_nearest-then-exponent-ge872.ensures c.if-exponent-ge872.true c.if-exponent-ge897.false in
    omega (arith, low-kept-le)

pub returns-then-exponent-ge872 : goal.returns-then-exponent-ge872
returns-then-exponent-ge872 c =
    let low-kept-le : c.shift_nearest-then-exponent-ge872.result ≤ 16777216 =
    narrow-low-le c.args.n c.requires c.shift_nearest-then-exponent-ge872.result c.shift_nearest-then-exponent-ge872.ensures c.if-exponent-ge872.true c.if-exponent-ge897.false in
    let r = c.shift_nearest-then-exponent-ge872 in
    (narrow-low c.args.n c.requires r.result r.ensures c.if-exponent-ge872.true c.if-exponent-ge897.false, omega (arith, low-kept-le))

pub returns : goal.returns
returns c = (narrow-zero c.args.n c.requires c.if-exponent-ge872.false, lit≤ tt)
