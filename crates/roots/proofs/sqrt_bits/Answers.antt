-- `roots::sqrt_bits` meets its contract: each arm is a law of `RootBits`. Assumes nothing.
use Rattle.std.proofs.Common.{◌≡◌, ℕ, ◌-◌, ◌/◌, ◌<◌, sym, ◌∙◌, subst}
use native.Mathlib.Nat.{div-eq_of_lt, mod-lt, mod-eq_of_lt}
use lib.Bits.{bit_and}
use lib.Ieee.{nan, Format, top}
use lib.Ieee.Bits.{to_bits-lt}
use lib.Ieee.Fits.{nan-fits}
use Rattle.floats.proofs.Patterns.{unsigned_is}
use Rattle.floats.proofs.Fields.{below_top, top_pos}
use Rattle.floats.proofs.RootBits.{code-nan, code-zero, code-inf, code-minus}
use Rattle.roots.proofs.sqrt_bits.Goals as goal
use Rattle.roots.proofs.sqrt_bits.Goals.{then-size-INFINITY_BITS-via-then-size-INFINITY_BITS, then-size-INFINITY_BITS-via-else-size-INFINITY_BITS+then-n-size}

-- the sign is set where the pattern differs from its size
signed : (f : Format) (n : ℕ) → (n ≡ bit_and n (top f - 1) → ⊥) → n / top f ≡ 0 → ⊥
signed f n h z = h (sym (unsigned_is f n ∙ mod-eq_of_lt (below_top f n z)))

plain : (f : Format) (n : ℕ) → n ≡ bit_and n (top f - 1) → n / top f ≡ 0
plain f n h = div-eq_of_lt (subst (λ (k : ℕ). k < top f) (sym (h ∙ unsigned_is f n)) (mod-lt n (top_pos f)))

pub returns-then-size-eq0 : goal.returns-then-size-eq0
returns-then-size-eq0 g c =
    let n = c.to_u64-n.ensures in
    let size = rw (n.same, c.SIGN_BIT.ensures, g.met.W.Width.sign_is) at c.if-size-eq0.true in
    let bound = rw n.same at n.bound in
    code-zero g.W.Width.format (g.W.Width.number c.args.b) bound size

pub from_u64-requires : goal.from_u64-requires
from_u64-requires g c = let f = g.W.Width.format in rw (c.NAN_BITS.ensures, g.met.W.Width.nan_is) (to_bits-lt f nan (nan-fits f))

pub returns-then-size-INFINITY_BITS : goal.returns-then-size-INFINITY_BITS
returns-then-size-INFINITY_BITS g c =
    let f = g.W.Width.format in
    let laws = g.met.W.Width in
    let b = g.W.Width.number c.args.b in
    let n = c.to_u64-n.ensures.same in
    rw (c.from_u64.ensures, c.NAN_BITS.ensures, laws.nan_is)
    (elim c.then-size-INFINITY_BITS.branch [
      | then-size-INFINITY_BITS-via-then-size-INFINITY_BITS w ↦
          code-nan f b (rw (c.INFINITY_BITS.ensures, laws.infinity_is, n, c.SIGN_BIT.ensures, laws.sign_is) at w.if-size-INFINITY_BITS.true)
      | then-size-INFINITY_BITS-via-else-size-INFINITY_BITS+then-n-size w ↦
          let minus = rw (n, c.SIGN_BIT.ensures, laws.sign_is) at w.if-n-size.true in
          code-minus f b (signed f b minus) (rw (n, c.SIGN_BIT.ensures, laws.sign_is) at c.if-size-eq0.false)
    ])

pub returns-then-size-INFINITY_BITS-2 : goal.returns-then-size-INFINITY_BITS-2
returns-then-size-INFINITY_BITS-2 g c =
    let f = g.W.Width.format in
    let laws = g.met.W.Width in
    let b = g.W.Width.number c.args.b in
    let n = c.to_u64-n.ensures.same in
    let size = rw (n, c.SIGN_BIT.ensures, laws.sign_is, c.INFINITY_BITS-2.ensures, laws.infinity_is) at c.if-size-INFINITY_BITS-2.true in
    let same = rw (n, c.SIGN_BIT.ensures, laws.sign_is) at c.if-n-size.false in
    code-inf f b size (plain f b same)
