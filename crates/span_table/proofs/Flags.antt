-- The flags of a copy against the later ones: written one after the other, and read off the list afterwards. Assumes nothing.
use mathlib.Core.Path.{◌≡◌, refl, ap, ◌∙◌}
use mathlib.Core.Bool.{Bool, true, false, cond}
use mathlib.Core.List.{List, ◌∷◌, ◌++◌}
use Prim.Native.Nat.{ℕ, zero, suc, ◌+◌, ◌-◌, ◌≤◌, ◌<◌}
use native.Mathlib.Nat.{add-zero, add-suc, suc-add, le_of_suc-le-suc}
use native.Mathlib.Numerals.{add-one}
use native.Mathlib.Omega.{arith}
use lib.ListN.{length, get_or, set, take, drop, get_or-append}
use lib.Seq.{length-take-le, get_or-append-add}
use lib.Ieee.{Float}
use Rattle.std.specs.Int.{from_bool}
use Rattle.base.specs.Tables.{placed}
use Rattle.base.proofs.Filling.{Filling, filling-first, filling-next, filling-last}
use Rattle.spans.specs.declared.Span.{Span}
use Rattle.span_table.specs.Inner.{apart_flag, flags_from, flags_after}

-- a flag as a number
pub flag-word : (t : Bool) → from_bool t ≡ cond t 1 0
flag-word true = refl
flag-word false = refl

-- a flag that is not 0
pub flagged : (t : Bool) (m : ℕ) → m ≡ cond t 1 0 → (m ≡ 0 → ⊥) → t ≡ true
flagged true m e h = refl
flagged false m e h = absurd (h e)

module _ (g : Span → Span → Bool) (t : List Float) (n i : ℕ) where
  flags-length : (k j : ℕ) → length (flags_from g t n i k j) ≡ k
  unfolding flags_from
  flags-length zero j = refl
  flags-length (suc k) j = ap suc (flags-length k (suc j))

  flags-at : (k j m : ℕ) → m < k → get_or (flags_from g t n i k j) m 0 ≡ apart_flag g t n i (j + m)
  unfolding flags_from
  flags-at zero j m l = absurd (omega arith)
  flags-at (suc k) j zero l = rw add-zero
  flags-at (suc k) j (suc m) l = flags-at k (suc j) m (le_of_suc-le-suc l) ∙ rw (suc-add, add-suc)

  flags-next : (j : ℕ) → j < n → flags_from g t n i (n - j) j ≡ apart_flag g t n i j ∷ flags_from g t n i (n - (j + 1)) (j + 1)
  unfolding flags_from
  flags-next j l = let e : n - j ≡ suc (n - (j + 1)) = omega arith in rw (e, add-one)

  -- ---- the flags of the copies after i and before j are set, and the list is f
  abbrev pub Marked : List ℕ → ℕ → List ℕ → Type 0
  Marked f₀ j f = Filling (i + 1) (flags_from g t n i (n - (i + 1)) (i + 1)) f₀ j (flags_from g t n i (n - j) j) f

  pub marked-first : (f : List ℕ) → i < n → n ≤ length f → Marked f (i + 1) f
  marked-first f l h = filling-first (omega (arith, flags-length (n - (i + 1)) (i + 1)))

  pub marked_next : (f₀ f : List ℕ) (j v : ℕ) → j < n → v ≡ apart_flag g t n i j → Marked f₀ j f → Marked f₀ (j + 1) (set f j v)
  marked_next f₀ f j v l e z = rw e (filling-next (rw (flags-next j l) at z))

  pub marked-last : (f₀ f : List ℕ) (j : ℕ) → n ≤ j → Marked f₀ j f → f ≡ flags_after g t n i f₀
  unfolding flags_after flags_from
  marked-last f₀ f j l z = let e : n - j ≡ 0 = omega arith in filling-last (rw e at z)

  -- ---- the flag of a later copy
  pub flag-after : (f : List ℕ) (j : ℕ) → n ≤ length f → i < j → j < n → get_or (flags_after g t n i f) j 0 ≡ apart_flag g t n i j
  unfolding flags_after placed
  flag-after f j h a b =
      let fs = flags_from g t n i (n - (i + 1)) (i + 1) in
      let m = j - (i + 1) in
      let at : j ≡ length (take (i + 1) f) + m = omega (arith, length-take-le (i + 1) f (omega arith)) in
      let own : i + 1 + m ≡ j = omega arith in
      ap (λ (x : ℕ). get_or (flags_after g t n i f) x 0) at
      ∙ get_or-append-add (take (i + 1) f) (fs ++ drop (i + 1 + length fs) f) m 0
      ∙ get_or-append fs (drop (i + 1 + length fs) f) 0 m (omega (arith, flags-length (n - (i + 1)) (i + 1)))
      ∙ flags-at (n - (i + 1)) (i + 1) m (omega arith)
      ∙ ap (apart_flag g t n i) own
