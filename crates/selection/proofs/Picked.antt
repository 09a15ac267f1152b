-- What is picked of a copy, an index or an atom at a time: what is left of the indices, or of the atoms, decides. And how much it is.
-- Assumes nothing.
use mathlib.Core.Path.{◌≡◌, refl}
use mathlib.Core.Bool.{Bool, true, false, cond, ◌&&◌}
use mathlib.Core.List.{List, [], ◌∷◌}
use Prim.Native.Nat.{ℕ, zero, suc, ◌+◌, ◌-◌, ◌*◌, ◌≤◌, ◌<◌}
use native.Mathlib.Numerals.{add-one}
use native.Mathlib.Omega.{arith}
use lib.Dec.{ltb}
use lib.ListN.{length, get_or, drop, drop_of_length-le}
use lib.Seq.{drop-cons}
use lib.Ieee.{Float}
use Rattle.base.specs.Limits.{max_indices}
use Rattle.base.proofs.Placing.{length_none}
use Rattle.pick_lists.specs.Sound.{finite_atom}
use Rattle.selection.specs.Selection.{finite_atoms, indexed, or_else, picked}

-- ---- by the indices
module _ (xs : List Float) (per base : ℕ) where
  -- index i names a finite atom of the copy
  abbrev pub names : ℕ → Bool
  names i = ltb i per && finite_atom xs (base + i)

  module _ (is : List ℕ) (j : ℕ) (l : j < length is) where
    indexed-more : indexed xs per base (drop j is) ≡ cond (names (get_or is j 0)) ((base + get_or is j 0) ∷ indexed xs per base (drop (j + 1) is)) (indexed xs per base (drop (j + 1) is))
    unfolding indexed
    indexed-more = rw (add-one, drop-cons is j 0)

    pub indexed-hit : names (get_or is j 0) ≡ true → indexed xs per base (drop j is) ≡ (base + get_or is j 0) ∷ indexed xs per base (drop (j + 1) is)
    indexed-hit e = rw (indexed-more, e)

    pub indexed-skip : names (get_or is j 0) ≡ false → indexed xs per base (drop j is) ≡ indexed xs per base (drop (j + 1) is)
    indexed-skip e = rw (indexed-more, e)

  pub indexed-none : (is : List ℕ) (j : ℕ) → length is ≤ j → indexed xs per base (drop j is) ≡ []
  unfolding indexed
  indexed-none is j l = rw drop_of_length-le

-- ---- all finite atoms
module _ (xs : List Float) (per base k : ℕ) where
  finite-more : k < per → finite_atoms xs (per - k) (base + k) ≡ cond (finite_atom xs (base + k)) ((base + k) ∷ finite_atoms xs (per - (k + 1)) (base + (k + 1))) (finite_atoms xs (per - (k + 1)) (base + (k + 1)))
  unfolding finite_atoms
  finite-more l =
      let n : per - k ≡ suc (per - (k + 1)) = omega arith in
      let m : base + k + 1 ≡ base + (k + 1) = omega arith in
      rw (n, m)

  pub finite-hit : k < per → finite_atom xs (base + k) ≡ true → finite_atoms xs (per - k) (base + k) ≡ (base + k) ∷ finite_atoms xs (per - (k + 1)) (base + (k + 1))
  finite-hit l e = rw (finite-more l, e)

  pub finite-skip : k < per → finite_atom xs (base + k) ≡ false → finite_atoms xs (per - k) (base + k) ≡ finite_atoms xs (per - (k + 1)) (base + (k + 1))
  finite-skip l e = rw (finite-more l, e)

  pub finite-none : per ≤ k → finite_atoms xs (per - k) (base + k) ≡ []
  unfolding finite_atoms
  finite-none l =
      let n : per - k ≡ 0 = omega arith in
      rw n

-- ---- which of the two
else-first : (ys zs : List ℕ) → 0 < length ys → or_else ys zs ≡ ys
else-first [] zs h = absurd (omega arith)
else-first (y ∷ ys) zs h = refl

module _ (xs : List Float) (per base : ℕ) (is : List ℕ) where
  pub picked-indexed : 0 < length (indexed xs per base is) → picked xs per is base ≡ indexed xs per base is
  unfolding picked
  picked-indexed h = else-first (indexed xs per base is) (finite_atoms xs per base) h

  pub picked-finite : length (indexed xs per base is) ≤ 0 → picked xs per is base ≡ finite_atoms xs per base
  unfolding picked
  picked-finite h = rw (length_none (indexed xs per base is) h)

-- ---- how many
cond-few : (b : Bool) (a : ℕ) (ys : List ℕ) (n : ℕ) → length ys ≤ n → length (cond b (a ∷ ys) ys) ≤ suc n
cond-few true a ys n h = omega arith
cond-few false a ys n h = omega arith

pub indexed-few : (xs : List Float) (per base : ℕ) (is : List ℕ) → length (indexed xs per base is) ≤ length is
unfolding indexed
indexed-few xs per base [] = omega arith
indexed-few xs per base (i ∷ is) = cond-few (ltb i per && finite_atom xs (base + i)) (base + i) (indexed xs per base is) (length is) (indexed-few xs per base is)

pub finite-few : (xs : List Float) (n k : ℕ) → length (finite_atoms xs n k) ≤ n
unfolding finite_atoms
finite-few xs zero k = omega arith
finite-few xs (suc n) k = cond-few (finite_atom xs k) k (finite_atoms xs n (k + 1)) n (finite-few xs n (k + 1))

else-more : (ys zs : List ℕ) → length ys ≤ length (or_else ys zs)
else-more [] zs = omega arith
else-more (y ∷ ys) zs = omega arith

pub indexed-within : (xs : List Float) (per base : ℕ) (is : List ℕ) → length (indexed xs per base is) ≤ length (picked xs per is base)
unfolding picked
indexed-within xs per base is = else-more (indexed xs per base is) (finite_atoms xs per base)

else-few : (ys zs : List ℕ) (n : ℕ) → length ys ≤ n → length zs ≤ n → length (or_else ys zs) ≤ n
else-few [] zs n h k = k
else-few (y ∷ ys) zs n h k = h

pub picked-few : (xs : List Float) (per base : ℕ) (is : List ℕ) → 0 < per → length is ≤ max_indices → length (picked xs per is base) ≤ per * max_indices
unfolding picked
picked-few xs per base is p h = else-few (indexed xs per base is) (finite_atoms xs per base) (per * max_indices) (omega (arith, indexed-few xs per base is)) (omega (arith, finite-few xs per base))
