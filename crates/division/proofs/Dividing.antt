-- How many octants a node visits: 8 where it splits, above depth 14; and what becomes of its lists. Assumes nothing.
use mathlib.Core.Path.{◌≡◌, refl, sym, ◌∙◌}
use mathlib.Core.Bool.{Bool, true, false, cond, and-false}
use mathlib.Core.List.{List, append-nil}
use Prim.Native.Nat.{ℕ, zero, suc, ◌-◌, ◌≤◌, ◌<◌}
use native.Mathlib.Omega.{arith}
use lib.Dec.{ltb}
use lib.ListN.{length, replicate}
use lib.Ieee.{Float}
use borrow.Author.Tests.{lt-ltb, le-ltb}
use Rattle.cell.specs.declared.Vec3.{Vec3}
use Rattle.bounds.specs.declared.OctreeBounds.{OctreeBounds}
use Rattle.bounds.specs.Bounds.{wide_box}
use Rattle.octants.specs.Inner.{lists_from, by_octant, Arranged}
use Rattle.division.specs.Split.{splits}
use Rattle.division.specs.Inner.{octants_of, unsplit, Divided}

-- ---- the octants
octants-suc : (f g : ℕ) (cs : List ℕ) (b : OctreeBounds) → f ≡ suc g → octants_of f cs b ≡ cond (splits b cs) 8 0
unfolding octants_of
octants-suc f g cs b e = rw e refl

cond-eight : (t : Bool) → (◌≡◌ {A = ℕ} (cond t 8 0) 0 → ⊥) → ◌≡◌ {A = ℕ} (cond t 8 0) 8
cond-eight true h = refl
cond-eight false h = absurd (h refl)

-- some are all
pub octants-eight : (f : ℕ) (cs : List ℕ) (b : OctreeBounds) → (octants_of f cs b ≡ 0 → ⊥) → octants_of f cs b ≡ 8
unfolding octants_of
octants-eight zero cs b h = absurd (h refl)
octants-eight (suc f) cs b h = cond-eight (splits b cs) h

pub octants-bottom : (d : ℕ) (cs : List ℕ) (b : OctreeBounds) → 14 ≤ d → 0 ≡ octants_of (14 - d) cs b
unfolding octants_of
octants-bottom d cs b h = let e : 14 - d ≡ 0 = omega arith in rw e refl

module _ (d : ℕ) (cs : List ℕ) (b : OctreeBounds) (h : d < 14) where
  octants-above : octants_of (14 - d) cs b ≡ cond (splits b cs) 8 0
  octants-above = octants-suc (14 - d) (13 - d) cs b (omega arith)

  pub octants-all : 1 < length cs → wide_box b ≡ true → 8 ≡ octants_of (14 - d) cs b
  octants-all k w = sym (octants-above ∙ simp (lt-ltb 1 (length cs) k, w))

  pub octants-narrow : wide_box b ≡ false → 0 ≡ octants_of (14 - d) cs b
  octants-narrow w = sym (octants-above ∙ rw (w, and-false (ltb 1 (length cs))))

  pub octants-few : length cs ≤ 1 → 0 ≡ octants_of (14 - d) cs b
  octants-few k = sym (octants-above ∙ simp (le-ltb 1 (length cs) k))

-- ---- the lists of a node
pub undivided : (points : List Float) (c : Vec3) (l counts : List ℕ) → counts ≡ replicate 8 0 → Divided points c 0 l l counts
unfolding lists_from unsplit
undivided points c l counts e = record { order = refl; count = λ h. absurd (omega arith); still = λ h. e }

pub divided : (points : List Float) (c : Vec3) (r : ℕ) (l₀ l counts : List ℕ) → r ≡ 8 → Arranged points c l₀ l counts → Divided points c r l₀ l counts
unfolding unsplit
divided points c r l₀ l counts e a = rw e (record { order = a.order ∙ sym (append-nil (lists_from (by_octant points c l₀) 8)); count = λ h. a.count; still = λ h. absurd (omega (arith, h)) })
