-- The kept copies, a chunk at a time: the copies from chunk k on are that chunk's, if any of it was picked, and those from the next.
-- Assumes nothing.
use mathlib.Core.Path.{◌≡◌, refl, ◌∙◌}
use mathlib.Core.List.{List, [], ◌∷◌, ◌++◌}
use Prim.Native.Nat.{ℕ, zero, suc, ◌+◌, ◌-◌, ◌*◌, ◌/◌, ◌≤◌, ◌<◌}
use native.Mathlib.Nat.{sub-zero, zero-mul, div-mul-le_self, mul-le-mul_right}
use native.Mathlib.Omega.{arith}
use lib.ListN.{length, length-append}
use lib.Ieee.{Float}
use Rattle.selection.specs.Selection.{picked, keep, chunks, copies_from, kept_copies, picks_of}

-- ---- whole chunks
-- chunk k is there
pub chunk-within : (per atoms k : ℕ) → k < chunks per atoms → (0 < per) × (k * per + per ≤ atoms)
unfolding chunks
chunk-within zero atoms k h = absurd (omega arith)
chunk-within (suc p) atoms k h = (omega arith, omega (arith, div-mul-le_self atoms (suc p), mul-le-mul_right (suc p) h))

-- ---- a chunk is kept where something of it was picked
keep_some : (p : List ℕ) (cs : List (List ℕ)) → 0 < length p → keep p cs ≡ p ∷ cs
keep_some [] cs h = absurd (omega arith)
keep_some (a ∷ p) cs h = refl

keep-none : (p : List ℕ) (cs : List (List ℕ)) → length p ≤ 0 → keep p cs ≡ cs
keep-none [] cs h = refl
keep-none (a ∷ p) cs h = absurd (omega arith)

joined-keep : (p : List ℕ) (cs : List (List ℕ)) → picks_of (keep p cs) ≡ p ++ picks_of cs
unfolding picks_of
joined-keep [] cs = refl
joined-keep (a ∷ p) cs = refl

-- ---- the copies still to come, from chunk k on
module _ (xs : List Float) (per : ℕ) (is : List ℕ) where
  abbrev pub copies_left : ℕ → List (List ℕ)
  copies_left k = copies_from xs per is (chunks per (length xs / 3) - k) (k * per)

  pub left-all : copies_left 0 ≡ kept_copies xs per is
  unfolding kept_copies
  left-all = rw (sub-zero, zero-mul)

  pub left-none : (k : ℕ) → chunks per (length xs / 3) ≤ k → copies_left k ≡ []
  unfolding copies_from
  left-none k h =
      let n : chunks per (length xs / 3) - k ≡ 0 = omega arith in
      rw n

  -- chunk k is there
  module _ (k : ℕ) (there : k < chunks per (length xs / 3)) where
    left-more : copies_left k ≡ keep (picked xs per is (k * per)) (copies_left (k + 1))
    unfolding copies_from
    left-more =
        let n : chunks per (length xs / 3) - k ≡ suc (chunks per (length xs / 3) - (k + 1)) = omega arith in
        let m : k * per + per ≡ (k + 1) * per = omega arith in
        rw (n, m)

    pub left-joined : length (picks_of (copies_left k)) ≡ length (picked xs per is (k * per)) + length (picks_of (copies_left (k + 1)))
    left-joined = rw (left-more, joined-keep) (length-append (picked xs per is (k * per)) (picks_of (copies_left (k + 1))))

    pub left-kept : 0 < length (picked xs per is (k * per)) → copies_left k ≡ picked xs per is (k * per) ∷ copies_left (k + 1)
    left-kept h = left-more ∙ keep_some (picked xs per is (k * per)) (copies_left (k + 1)) h

    pub left-vanished : length (picked xs per is (k * per)) ≤ 0 → copies_left k ≡ copies_left (k + 1)
    left-vanished h = left-more ∙ keep-none (picked xs per is (k * per)) (copies_left (k + 1)) h
