-- `numbers::convert::shift_nearest` meets its contract: each arm is an answer of `ClosestShift`. Assumes nothing.
use Rattle.std.proofs.Common.{ℕ, ◌-◌, ◌*◌, ◌/◌, ◌%◌, ◌^◌, ◌<◌, ◌≤◌, sym, subst, lt_of_le_of_lt, div-le_self, arith, pow_pos}
use lib.Bits.{and_le_l}
use Rattle.floats.proofs.ClosestShift.{unit-is, shift-down, shift-up, shift-tie}
use Rattle.numbers.proofs.convert.shift_nearest.Goals as goal

pub overflow_sub-twice : goal.overflow_sub-twice
overflow_sub-twice c = subst (λ (x : ℕ). 1 ≤ x) (sym (unit-is c.args.k c.requires.1)) (pow_pos c.args.k)

pub overflow_mul-twice : goal.overflow_mul-twice
overflow_mul-twice c = omega (arith, and_le_l c.args.q (1 * 2 ^ c.args.k % 2 ^ 64 - 1))

pub returns-then-twice-unit : goal.returns-then-twice-unit
returns-then-twice-unit c = shift-down c.args.q c.args.k c.requires.1 c.if-twice-unit.true

pub overflow_add-result : goal.overflow_add-result
overflow_add-result c =
    let kept-lt : c.args.q / 2 ^ c.args.k < 2 ^ 53 = lt_of_le_of_lt (div-le_self c.args.q (2 ^ c.args.k)) c.requires.0 in
    omega (arith, kept-lt)

pub returns-then-twice-unit-2 : goal.returns-then-twice-unit-2
returns-then-twice-unit-2 c = shift-up c.args.q c.args.k c.requires.1 c.if-twice-unit-2.true

pub overflow_add-result-2 : goal.overflow_add-result-2
overflow_add-result-2 c =
    let kept-lt : c.args.q / 2 ^ c.args.k < 2 ^ 53 = lt_of_le_of_lt (div-le_self c.args.q (2 ^ c.args.k)) c.requires.0 in
    omega (arith, kept-lt)

pub returns : goal.returns
returns c = shift-tie c.args.q c.args.k c.requires.1 c.if-twice-unit.false c.if-twice-unit-2.false
