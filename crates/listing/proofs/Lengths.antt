-- How many bytes the lines have, and how many at most.
-- Assumes nothing.
use mathlib.Core.Path.{◌≡◌}
use mathlib.Core.Bool.{Bool, true, false, cond}
use mathlib.Core.List.{List}
use Prim.Native.Nat.{ℕ, zero, suc, ◌+◌, ◌*◌, ◌≤◌}
use native.Mathlib.Omega.{arith}
use lib.Dec.{eqb}
use lib.ListN.{length, get_or, length-append}
use lib.Ieee.{Float, binary32, to_bits}
use Rattle.text.specs.Text.{ascii, places, decimal, hex, hex_bits, occupancy}
use Rattle.mixing.specs.declared.Mixture.{Mixture}
use Rattle.listing.specs.Listing.{refused_text, clusters_line, dispersion_line, nodes_line, leaf_line, leaf_lines, dry_line, listing_text}
use Rattle.text.proofs.Numerals.{length_digits, places-few}

pub length-decimal : (n : ℕ) → length (decimal n) ≡ places n
unfolding decimal
length-decimal n = length_digits 10 (places n) n

pub length-hex : (w : ℕ) → length (hex w) ≡ 8
unfolding hex
length-hex w = length_digits 16 8 w

pub length-bits : (x : Float) → length (hex_bits x) ≡ 8
unfolding hex_bits
length-bits x = length-hex (to_bits binary32 x)

pub length-refused : (n : ℕ) → length (refused_text n) ≡ 9 + places n
unfolding refused_text
length-refused n = simp (length-append, length-decimal) (omega arith)

pub length-clusters : (n : ℕ) (x y z : Float) → length (clusters_line n x y z) ≡ 37 + places n
unfolding clusters_line
length-clusters n x y z = simp (length-append, length-decimal, length-bits) (omega arith)

pub length-dispersion : (x : Float) → length (dispersion_line x) ≡ 20
unfolding dispersion_line
length-dispersion x = simp (length-append, length-bits)

pub length-nodes : (n d : ℕ) → length (nodes_line n d) ≡ 14 + places n + places d
unfolding nodes_line
length-nodes n d = simp (length-append, length-decimal) (omega arith)

pub length-dry : (n : ℕ) → length (dry_line n) ≡ 11 + places n
unfolding dry_line
length-dry n = simp (length-append, length-decimal) (omega arith)

pub length-leaf : (t : List ℕ) (p : ℕ) → length (leaf_line t p) ≡ 20 + places (get_or t p 0) + places (get_or t (p + 1) 0) + places (get_or t (p + 2) 0) + length (occupancy (get_or t (p + 3) 0)) + places (get_or t (p + 4) 0) + length (occupancy (get_or t (p + 5) 0))
unfolding leaf_line
length-leaf t p = simp (length-append, length-decimal, length-hex) (omega arith)

-- all lines: those besides the leaves', and theirs
pub length-listing : (m : Mixture) (t : List ℕ) → length (listing_text m t) ≡ 82 + places m.counted.copies + places m.report.nodes + places m.report.depth + places m.report.dry + length (leaf_lines t m.report.leaves 0)
unfolding listing_text
length-listing m t = simp (length-append, length-clusters, length-dispersion, length-nodes, length-dry) (omega arith)

-- ---- at most so many bytes: a number has twenty digits at most, an occupancy eight
pub refused-few : (n : ℕ) → length (refused_text n) ≤ 29
refused-few n = omega (arith, length-refused n, places-few n)

occupancy-few : (w : ℕ) → length (occupancy w) ≤ 8
unfolding occupancy
occupancy-few w = by_word (eqb w 0)
  where
    by_word : (b : Bool) → length (cond b (ascii "dry") (hex w)) ≤ 8
    by_word true = omega arith
    by_word false = omega (arith, length-hex w)

leaf-few : (t : List ℕ) (p : ℕ) → length (leaf_line t p) ≤ 116
leaf-few t p =
    omega (
      arith,
      length-leaf t p,
      places-few (get_or t p 0),
      places-few (get_or t (p + 1) 0),
      places-few (get_or t (p + 2) 0),
      occupancy-few (get_or t (p + 3) 0),
      places-few (get_or t (p + 4) 0),
      occupancy-few (get_or t (p + 5) 0),
    )

leaves-few : (t : List ℕ) (n p : ℕ) → length (leaf_lines t n p) ≤ n * 116
unfolding leaf_lines
leaves-few t zero p = omega arith
leaves-few t (suc n) p = omega (arith, length-append (leaf_line t p) (leaf_lines t n (p + 8)), leaf-few t p, leaves-few t n (p + 8))

pub listing-few : (m : Mixture) (t : List ℕ) → length (listing_text m t) ≤ 162 + m.report.leaves * 116
listing-few m t =
    omega (
      arith,
      length-listing m t,
      places-few m.counted.copies,
      places-few m.report.nodes,
      places-few m.report.depth,
      places-few m.report.dry,
      leaves-few t m.report.leaves 0,
    )
