-- A bound goes through a division: what is A at most, divided by what is 2 ^ -k at least, is A * 2 ^ k at most. Assumes nothing.
use mathlib.Core.Path.{◌≡◌, sym, subst}
use Prim.Native.Nat.{ℕ, ◌*◌, ◌^◌, ◌≤◌, ◌<◌}
use native.Mathlib.Nat.{le_trans, le_of_eq, lt_of_lt_of_le, mul_comm, mul_assoc, mul_left_comm, mul-pos, mul-le-mul}
use mathlib.Core.Bool.{Bool}
use lib.IntN.{ℤ}
use lib.Dec.{T}
use lib.Ieee.{Float, nan, inf, fin, Format, unlike, up, down, div}
use lib.Ieee.Fits.{up_pos, down_pos}
use lib.Ieee.Scale.{finite}
use lib.Ieee.Positive.{first_pos}
use Rattle.floats.proofs.Operations.{div_is}
use Rattle.floats.proofs.Bounds.{Within, Exact, round-within}

pub within-finite : (B : ℕ) (x : Float) → Within B x → T (finite x)
within-finite B nan w = absurd w
within-finite B (inf s) w = absurd w
within-finite B (fin s m e) w = tt

-- y is finite, and its size is 2 ^ -k at least
abbrev pub AtLeast : ℕ → Float → Type 0
AtLeast k nan = ⊥
AtLeast k (inf s) = ⊥
AtLeast k (fin s m e) = down e ≤ m * up e * 2 ^ k

at-least-pos : (k : ℕ) (s : Bool) (m : ℕ) (e : ℤ) → AtLeast k (fin s m e) → 0 < m
at-least-pos k s m e h = first_pos m (up e) (first_pos (m * up e) (2 ^ k) (lt_of_lt_of_le (down_pos e) h))

pub div-within : (f : Format) (x y : Float) (A k : ℕ) → Exact f (A * 2 ^ k) → Within A x → AtLeast k y → Within (A * 2 ^ k) (div f x y)
div-within f nan y A k X h l = absurd h
div-within f (inf s) y A k X h l = absurd h
div-within f (fin s m e) nan A k X h l = absurd l
div-within f (fin s m e) (inf t) A k X h l = absurd l
div-within f (fin s m e) (fin t n d) A k X h l =
    let N : 0 < n = at-least-pos k t n d l in
    subst (λ (z : Float). Within (A * 2 ^ k) z) (sym (div_is f s m e t n d N))
    (round-within f (unlike s t) (m * up e * down d) (n * up d * down e) (A * 2 ^ k) (mul-pos (mul-pos N (up_pos d)) (down_pos e)) X
    (le_trans (mul-le-mul h l) (le_of_eq (turned A (down e) (n * up d) (2 ^ k)))))
  where
    turned : (a c u p : ℕ) → a * c * (u * p) ≡ a * p * (u * c)
    turned a c u p = simp (mul_assoc, mul_comm, mul_left_comm)
