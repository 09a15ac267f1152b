-- The test of a block's header, one condition at a time, and where a block's parts end.
-- Assumes nothing.
use mathlib.Core.Path.{◌≡◌, refl}
use mathlib.Core.Bool.{Bool, true, false, ◌&&◌, and-false, and-eq-true_iff}
use mathlib.Core.List.{List}
use Prim.Native.Nat.{ℕ, ◌+◌, ◌*◌, ◌≤◌, ◌<◌}
use native.Mathlib.Omega.{arith}
use lib.Dec.{leb, eqb}
use lib.ListN.{length}
use Rattle.std.proofs.Common.{length-take}
use borrow.Author.Tests.{eq-eqb, ne_eqb, eqb-true, le-leb, lt-leb}
use Rattle.block.specs.Block.{length_word, kind, solute_atoms, index_count, water_count, max_block, is_block}

-- the length that the header's counts give
abbrev pub counted : List ℕ → ℕ
counted b = 42 + 4 * index_count b + 12 * (solute_atoms b + water_count b)

module _ (b : List ℕ) where
  -- a length that the counts give and that ends the input is no shorter than the header
  pub short-no-block : length b < 46 → is_block b ≡ false
  unfolding is_block
  short-no-block h = rw (ends (length_word b) (index_count b) (solute_atoms b + water_count b) (length b) h, and-false, and-false)
    where
      ends : (a k x n : ℕ) → n < 46 → (eqb a (42 + 4 * k + 12 * x) && eqb (4 + a) n) ≡ false
      ends a k x n l = by-test (eqb a (42 + 4 * k + 12 * x)) (λ e. ne_eqb (4 + a) n (λ m. omega (arith, eqb-true a (42 + 4 * k + 12 * x) e)))
        where
          by-test : (t : Bool) → (t ≡ true → eqb (4 + a) n ≡ false) → (t && eqb (4 + a) n) ≡ false
          by-test true f = f refl
          by-test false f = refl

  pub long-no-block : max_block < length b → is_block b ≡ false
  unfolding is_block
  long-no-block h = rw (lt-leb (length b) max_block h)

  pub other-kind-no-block : (kind b ≡ 1 → ⊥) → is_block b ≡ false
  unfolding is_block
  other-kind-no-block h = rw (ne_eqb (kind b) 1 h, and-false)

  pub other-length-no-block : (length_word b ≡ counted b → ⊥) → is_block b ≡ false
  unfolding is_block
  other-length-no-block h = rw (ne_eqb (length_word b) (counted b) h, and-false, and-false)

  -- with all other conditions met, the end decides
  pub end-decides : length b ≤ max_block → kind b ≡ 1 → length_word b ≡ counted b → is_block b ≡ eqb (4 + length_word b) (length b)
  unfolding is_block
  end-decides h k l = rw (le-leb (length b) max_block h, eq-eqb (kind b) 1 k, eq-eqb (length_word b) (counted b) l)

  -- the parts of a block fill it
  pub block-length : is_block b ≡ true → length b ≡ 4 + counted b
  unfolding is_block
  block-length h =
      let rest = ((and-eq-true_iff (leb (length b) max_block) _).0 h).1 in
      let ends = ((and-eq-true_iff (eqb (kind b) 1) _).0 rest).1 in
      let both = (and-eq-true_iff (eqb (length_word b) (counted b)) _).0 ends in
      omega (arith, eqb-true (length_word b) (counted b) both.0, eqb-true (4 + length_word b) (length b) both.1)

-- how long a block's parts are, and tables that are filled with them
pub ruleset lengths = (block-length, length-take)
