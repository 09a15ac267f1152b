-- `numbers::convert::narrow_bits` meets its contract: the size is narrowed and the sign put back (`NarrowArms`). Assumes nothing.
use Rattle.std.proofs.Common.{◌≡◌, ℕ, ◌+◌, ◌/◌, ◌%◌, ◌≤◌, ap, ◌∙◌, arith}
use lib.Bits.{bit_and, and_mask}
use lib.Ieee.{binary32, binary64, of_bits, to_bits}
use Rattle.floats.specs.Convert.{narrow_of}
use Rattle.floats.proofs.NarrowArms.{narrow-minus, narrow-nan}
use Rattle.numbers.proofs.convert.narrow_bits.Goals as goal

size_is : (b : ℕ) → bit_and b 9223372036854775807 ≡ b % 9223372036854775808
size_is b = and_mask b 63

pub returns-then-size-gt9218868437227405312 : goal.returns-then-size-gt9218868437227405312
returns-then-size-gt9218868437227405312 c = c.from_u64.ensures ∙ narrow-nan c.args.b c.if-size-gt9218868437227405312.true

pub returns-then-b-eq0 : goal.returns-then-b-eq0
returns-then-b-eq0 c =
    let b = c.args.b in
    let e : bit_and b 9223372036854775807 ≡ b % 9223372036854775808 = size_is b in
    let s : b / 9223372036854775808 ≡ 0 = c.if-b-eq0.true in
    let same : bit_and b 9223372036854775807 ≡ b = omega arith in
    c.narrow_size-low.ensures.0 ∙ ap (λ (k : ℕ). to_bits binary32 (narrow_of binary32 (of_bits binary64 k))) same

pub returns : goal.returns
returns c =
    let b = c.args.b in
    let n : (b / 9223372036854775808 ≡ 0 → ⊥) = c.if-b-eq0.false in
    let g : 9223372036854775808 ≤ b = omega arith in
    ap (λ (k : ℕ). k + 2147483648) c.narrow_size-low.ensures.0
    ∙ narrow-minus b (bit_and b 9223372036854775807) g (size_is b) c.if-size-gt9218868437227405312.false
