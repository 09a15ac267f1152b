-- The leaves' lines, a leaf at a time: the leaf table is read in runs of eight words; and whether the lines have room, a line at a time.
-- Assumes nothing.
use mathlib.Core.Path.{◌≡◌, refl, sym, ap, ◌∙◌}
use mathlib.Core.List.{List, [], ◌++◌}
use Prim.Native.Nat.{ℕ, zero, suc, ◌+◌, ◌-◌, ◌*◌, ◌/◌, ◌≤◌, ◌<◌}
use native.Mathlib.Nat.{add-zero}
use native.Mathlib.Decide.{dec_le}
use native.Mathlib.Omega.{arith}
use lib.Dec.{leb}
use lib.ListN.{length, get_or, take, drop, length-append}
use lib.Seq.{length-take-le, get_or-take, get_or-drop}
use borrow.Author.Tests.{le-leb, lt-leb}
use Rattle.std.specs.Simd.{first_chunks}
use Rattle.listing.specs.Listing.{leaf_line, leaf_lines}

-- word k of run i
entry : (m i k : ℕ) (t : List ℕ) → i < m → k < 8 → get_or (get_or (first_chunks 8 m t) i []) k 0 ≡ get_or t (i * 8 + k) 0
entry zero i k t h l = absurd (omega arith)
entry (suc m) zero k t h l = let e : 0 * 8 + k ≡ k = omega arith in rw e (get_or-take 8 t k 0 l)
entry (suc m) (suc i) k t h l =
    let e : 8 + (i * 8 + k) ≡ suc i * 8 + k = omega arith in
    entry m i k (drop 8 t) (omega arith) l ∙ get_or-drop 8 t (i * 8 + k) 0 ∙ ap (λ (j : ℕ). get_or t j 0) e

none : (t : List ℕ) (n p : ℕ) → n ≤ 0 → leaf_lines t n p ≡ []
unfolding leaf_lines
none t zero p h = refl
none t (suc n) p h = absurd (omega arith)

some : (t : List ℕ) (k m p : ℕ) → k ≡ suc m → leaf_lines t k p ≡ leaf_line t p ++ leaf_lines t m (p + 8)
unfolding leaf_lines
some t k m p e = rw e

-- the first n runs of the leaf table t are read
module _ (t : List ℕ) (n : ℕ) (runs : List (List ℕ)) (are : runs ≡ first_chunks 8 (length t / 8) t) (many : length runs ≡ length t / 8) (l : n * 8 ≤ length t) where
  all : length (take n runs) ≡ n
  all = length-take-le n runs (omega arith)

  word : (i k : ℕ) → i < n → k < 8 → get_or (get_or (take n runs) i []) k 0 ≡ get_or t (i * 8 + k) 0
  word i k h small =
      ap (λ (r : List ℕ). get_or r k 0) (get_or-take n runs i [] h ∙ ap (λ (r : List (List ℕ)). get_or r i []) are)
      ∙ entry (length t / 8) i k t (omega arith) small

  line : (i : ℕ) → i < n → leaf_line (get_or (take n runs) i []) 0 ≡ leaf_line t (i * 8)
  unfolding leaf_line
  line i h =
      let w = λ (k : ℕ) (s : k < 8). word i k h s in
      let first : get_or (get_or (take n runs) i []) 0 0 ≡ get_or t (i * 8) 0 = w 0 (omega arith) ∙ ap (λ (j : ℕ). get_or t j 0) (add-zero (i * 8)) in
      rw (first, w 1 (omega arith), w 2 (omega arith), w 3 (omega arith), w 4 (omega arith), w 5 (omega arith), w 6 (omega arith))

  pub leaves-next : (i : ℕ) → i < length (take n runs) →
      leaf_lines t (n - i) (i * 8) ≡ leaf_line (get_or (take n runs) i []) 0 ++ leaf_lines t (n - (i + 1)) ((i + 1) * 8)
  leaves-next i h =
      let below : i < n = omega (arith, all) in
      let e : i * 8 + 8 ≡ (i + 1) * 8 = omega arith in
      rw (line i below, ← e) (some t (n - i) (n - (i + 1)) (i * 8) (omega arith))

  pub leaves-longer : (i : ℕ) → i < length (take n runs) →
      length (leaf_lines t (n - i) (i * 8)) ≡ length (leaf_line (get_or (take n runs) i []) 0) + length (leaf_lines t (n - (i + 1)) ((i + 1) * 8))
  leaves-longer i h = rw (leaves-next i h) (length-append _ _)

  pub leaves-none : (i : ℕ) → length (take n runs) ≤ i → leaf_lines t (n - i) (i * 8) ≡ []
  leaves-none i h = none t (n - i) (i * 8) (omega (arith, all))

-- a line that fits takes its bytes of the room; with one that does not, nothing fits
pub fits-less : (n m left : ℕ) → n ≤ left → leb (n + m) left ≡ leb m (left - n)
fits-less n m left h = by-rest (dec_le m (left - n))
  where
    by-rest : Dec (m ≤ left - n) → leb (n + m) left ≡ leb m (left - n)
    by-rest (yes l) = le-leb (n + m) left (omega arith) ∙ sym (le-leb m (left - n) l)
    by-rest (no l) = lt-leb (n + m) left (omega arith) ∙ sym (lt-leb m (left - n) (omega arith))
