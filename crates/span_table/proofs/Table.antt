-- The whole span table, from its three axes. Assumes nothing.
use mathlib.Core.Path.{◌≡◌}
use mathlib.Core.List.{List}
use Prim.Native.Nat.{ℕ, ◌+◌, ◌*◌}
use native.Mathlib.Omega.{arith}
use lib.ListN.{get_or}
use lib.Ieee.{Float, nan}
use Rattle.spans.specs.Inner.{least_of, greatest_of, span_of}
use Rattle.span_table.specs.Inner.{span_at}

-- the box of a copy, from its six entries
pub six : (xs : List Float) (ps : List ℕ) (t : List Float) (n i : ℕ) → get_or t (0 + i) nan ≡ least_of xs 0 ps → get_or t (0 + n + i) nan ≡ greatest_of xs 0 ps → get_or t (2 * n + i) nan ≡ least_of xs 1 ps
    → get_or t (2 * n + n + i) nan ≡ greatest_of xs 1 ps → get_or t (4 * n + i) nan ≡ least_of xs 2 ps → get_or t (4 * n + n + i) nan ≡ greatest_of xs 2 ps → span_at t n i ≡ span_of xs ps
unfolding span_at span_of
six xs ps t n i a b c d e f =
    let o : 0 + i ≡ i = omega arith in
    let m : 0 + n + i ≡ n + i = omega arith in
    let a' : get_or t i nan ≡ least_of xs 0 ps = rw o at a in
    let b' : get_or t (n + i) nan ≡ greatest_of xs 0 ps = rw m at b in
    let p : 3 * n + i ≡ 2 * n + n + i = omega arith in
    let q : 5 * n + i ≡ 4 * n + n + i = omega arith in
    rw (p, q, a', b', c, d, e, f)
