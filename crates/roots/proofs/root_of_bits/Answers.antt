-- `roots::root_of_bits` meets its contract: the masks and shifts take the fields (`Fields`), and each kind of number is packed by a law of `RootBits`.
-- Assumes nothing.
use Rattle.std.proofs.Common.{◌≡◌, ℕ, ◌+◌, ◌-◌, ◌*◌, ◌/◌, ◌%◌, ◌^◌, ◌<◌, ◌≤◌, refl, arith}
use lib.Bits.{bit_and, bit_or}
use lib.Ieee.{Format, binary32, binary64, prec, low, hid, ones, top}
use Rattle.floats.proofs.Fields.{fraction-is, lead_is}
use Rattle.floats.proofs.RootBits.{low-packed, normal-packed}
use Rattle.roots.proofs.root_of_bits.Goals as goal

leading : (f : Format) → 1 * 2 ^ (prec f - 1) % 2 ^ 64 ≡ hid f
leading binary32 = refl
leading binary64 = refl

-- the digits shifted up, with nothing lost
low_up : (f : Format) (n : ℕ) → bit_and n (1 * 2 ^ (prec f - 1) % 2 ^ 64 - 1) * 2 ^ (53 - prec f) % 2 ^ 64 ≡ n % hid f * 2 ^ (53 - prec f)
low_up f n = rw (leading f, fraction-is f n) (small f n)
  where
    small : (f : Format) (n : ℕ) → n % hid f * 2 ^ (53 - prec f) % 2 ^ 64 ≡ n % hid f * 2 ^ (53 - prec f)
    small binary32 n = omega arith
    small binary64 n = omega arith

normal-up : (f : Format) (n : ℕ)
    → bit_or (bit_and n (1 * 2 ^ (prec f - 1) % 2 ^ 64 - 1)) (1 * 2 ^ (prec f - 1) % 2 ^ 64) * 2 ^ (53 - prec f) % 2 ^ 64 ≡ (hid f + n % hid f) * 2 ^ (53 - prec f)
normal-up f n = rw (leading f, lead_is f n) (small f n)
  where
    small : (f : Format) (n : ℕ) → (hid f + n % hid f) * 2 ^ (53 - prec f) % 2 ^ 64 ≡ (hid f + n % hid f) * 2 ^ (53 - prec f)
    small binary32 n = omega arith
    small binary64 n = omega arith

-- what `root_of` asks
low-asked : (f : Format) (n : ℕ) → 0 < n → n / hid f ≡ 0
    → (0 < n % hid f * 2 ^ (53 - prec f)) × (n % hid f * 2 ^ (53 - prec f) < 2 ^ 53) × (120 ≤ low f - (53 - prec f)) × (low f - (53 - prec f) < 4096) × (prec f ≤ 53)
low-asked binary32 n p z = omega arith
low-asked binary64 n p z = omega arith

normal-asked : (f : Format) (n : ℕ) → n < ones f * hid f → (n / hid f ≡ 0 → ⊥)
    → (0 < (hid f + n % hid f) * 2 ^ (53 - prec f)) × ((hid f + n % hid f) * 2 ^ (53 - prec f) < 2 ^ 53) × (120 ≤ n / hid f - 1 + low f - (53 - prec f))
    × (n / hid f - 1 + low f - (53 - prec f) < 4096) × (prec f ≤ 53)
normal-asked binary32 n h z = omega arith
normal-asked binary64 n h z = omega arith

low-sum : (f : Format) → 53 - prec f + (low f - (53 - prec f)) ≡ low f
low-sum binary32 = refl
low-sum binary64 = refl

normal-sum : (f : Format) (x : ℕ) → (x ≡ 0 → ⊥) → 53 - prec f + (x - 1 + low f - (53 - prec f)) ≡ x - 1 + low f
normal-sum binary32 x z = omega arith
normal-sum binary64 x z = omega arith

below : (f : Format) (n : ℕ) → n < ones f * hid f → (n < top f) × (n / hid f < ones f)
below binary32 n h = omega arith
below binary64 n h = omega arith

pub root_of-requires : goal.root_of-requires
root_of-requires g c =
    let f = g.W.Width.format in
    let laws = g.met.W.Width in
    let z = rw (c.DIGITS-digits.ensures, laws.digits_is) at c.if-exponent-eq0.true in
    rw (c.DIGITS-digits.ensures, laws.digits_is, c.LOWEST-lowest.ensures, laws.lowest_is, low_up f c.args.n) (low-asked f c.args.n c.requires.0 z)

pub returns-then-exponent-eq0 : goal.returns-then-exponent-eq0
returns-then-exponent-eq0 g c =
    let f = g.W.Width.format in
    let laws = g.met.W.Width in
    let n = c.args.n in
    let r = c.root_of in
    let z = rw (c.DIGITS-digits.ensures, laws.digits_is) at c.if-exponent-eq0.true in
    let root = rw (c.DIGITS-digits.ensures, laws.digits_is, c.LOWEST-lowest.ensures, laws.lowest_is, low_up f n) at r.ensures in
    low-packed f n r.result.exponent r.result.digits (n % hid f * 2 ^ (53 - prec f)) (53 - prec f) (low f - (53 - prec f)) refl (low-sum f) root c.requires.0 z

pub root_of-requires-2 : goal.root_of-requires-2
root_of-requires-2 g c =
    let f = g.W.Width.format in
    let laws = g.met.W.Width in
    let z = rw (c.DIGITS-digits.ensures, laws.digits_is) at c.if-exponent-eq0.false in
    rw (c.DIGITS-digits.ensures, laws.digits_is, c.LOWEST-lowest.ensures, laws.lowest_is, normal-up f c.args.n) (normal-asked f c.args.n c.requires.1 z)

pub returns : goal.returns
returns g c =
    let f = g.W.Width.format in
    let laws = g.met.W.Width in
    let n = c.args.n in
    let r = c.root_of-2 in
    let z = rw (c.DIGITS-digits.ensures, laws.digits_is) at c.if-exponent-eq0.false in
    let root = rw (c.DIGITS-digits.ensures, laws.digits_is, c.LOWEST-lowest.ensures, laws.lowest_is, normal-up f n) at r.ensures in
    let small = below f n c.requires.1 in
    normal-packed f n r.result.exponent r.result.digits ((hid f + n % hid f) * 2 ^ (53 - prec f)) (53 - prec f) (n / hid f - 1 + low f - (53 - prec f)) refl
    (normal-sum f (n / hid f) z) root small.0 z small.1
