-- The picks of one copy of sound pick lists: there is one at least, and each names a finite atom. Assumes nothing.
use mathlib.Core.Path.{◌≡◌, ◌∙◌}
use mathlib.Core.Bool.{true}
use mathlib.Core.List.{List}
use Prim.Native.Nat.{ℕ, ◌+◌, ◌-◌, ◌*◌, ◌≤◌, ◌<◌}
use native.Mathlib.Omega.{arith}
use lib.Ieee.{Float}
use lib.ListN.{length, get_or, drop, length-take, length-drop}
use lib.Seq.{get_or-take, get_or-drop}
use Rattle.base.specs.Limits.{max_picks}
use Rattle.pick_lists.specs.Sound.{finite_atom, copies, pick_list}
use Rattle.pick_lists.proofs.SoundLists.{Lists}

module _ (xs : List Float) (starts picks : List ℕ) (l : Lists xs starts picks) (i : ℕ) (h : i < copies starts) where
  -- what `copy_picks` asks
  pub copy-part : (i + 1 < length starts) × (get_or starts i 0 ≤ get_or starts (i + 1) 0) × (get_or starts (i + 1) 0 ≤ length picks)
  copy-part = (omega (arith, l.number), omega (arith, l.rises i h), l.ends (i + 1) (omega arith))

  pub copy-length : length (pick_list starts picks i) ≡ get_or starts (i + 1) 0 - get_or starts i 0
  unfolding pick_list
  copy-length =
      let p = copy-part in
      omega (arith, length-take (get_or starts (i + 1) 0 - get_or starts i 0) (drop (get_or starts i 0) picks), length-drop (get_or starts i 0) picks, p.1, p.2)

  pub copy_some : 0 < length (pick_list starts picks i)
  copy_some = omega (arith, copy-length, l.rises i h)

  pub copy-few : length (pick_list starts picks i) ≤ max_picks
  copy-few = omega (arith, copy-length, copy-part.2, l.short)

  -- pick k of the copy is a pick of the whole list
  pub copy_at : (k : ℕ) → k < length (pick_list starts picks i) → get_or (pick_list starts picks i) k 0 ≡ get_or picks (get_or starts i 0 + k) 0
  unfolding pick_list
  copy_at k g =
      let n : k < get_or starts (i + 1) 0 - get_or starts i 0 = omega (arith, copy-length) in
      get_or-take (get_or starts (i + 1) 0 - get_or starts i 0) (drop (get_or starts i 0) picks) k 0 n ∙ get_or-drop (get_or starts i 0) picks k 0

  below : (k : ℕ) → k < length (pick_list starts picks i) → get_or starts i 0 + k < length picks
  below k g = omega (arith, copy-length, copy-part.2)

  pub copy-atoms : (k : ℕ) → k < length (pick_list starts picks i) → get_or (pick_list starts picks i) k 0 * 3 + 2 < length xs
  copy-atoms k g = rw (copy_at k g) (l.atoms (get_or starts i 0 + k) (below k g))

  pub copy-finite : (k : ℕ) → k < length (pick_list starts picks i) → finite_atom xs (get_or (pick_list starts picks i) k 0) ≡ true
  copy-finite k g = rw (copy_at k g) (l.finite (get_or starts i 0 + k) (below k g))
