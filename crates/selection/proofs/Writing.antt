-- Both pick lists written a copy at a time: what is still to be written of the starts and of the picks follows from the copies to come.
-- Assumes nothing.
use mathlib.Core.Path.{◌≡◌, refl, ap, ◌∙◌}
use mathlib.Core.List.{List, [], ◌∷◌}
use Prim.Native.Nat.{ℕ, suc, ◌+◌, ◌*◌, ◌/◌, ◌≤◌, ◌<◌}
use native.Mathlib.Omega.{arith}
use lib.ListN.{length, set, length-set}
use lib.Seq.{set-set, drop-set-lt}
use lib.Ieee.{Float}
use Rattle.base.specs.Tables.{placed, over}
use Rattle.base.proofs.Filling.{Filling, filling-first, filling-next, filling-append, filling-last}
use Rattle.base.proofs.Placing.{placed-zero}
use Rattle.selection.specs.Selection.{picked, chunks, picks_of, starts_from, starts_of}
use Rattle.selection.proofs.Copies.{copies_left, left-kept}

-- where the picks of each copy end: the starts but the first
unfoldable pub ends_from : ℕ → List (List ℕ) → List ℕ
ends_from at [] = []
ends_from at (c ∷ cs) = (at + length c) ∷ ends_from (at + length c) cs

starts-ends : (at : ℕ) (cs : List (List ℕ)) → starts_from at cs ≡ at ∷ ends_from at cs
unfolding starts_from ends_from
starts-ends at [] = refl
starts-ends at (c ∷ cs) = ap (λ (l : List ℕ). at ∷ l) (starts-ends (at + length c) cs)

length-ends : (at : ℕ) (cs : List (List ℕ)) → length (ends_from at cs) ≡ length cs
unfolding ends_from
length-ends at [] = refl
length-ends at (c ∷ cs) = ap suc (length-ends (at + length c) cs)

-- the pick lists of the copies `kept` go into the tables starts₀ and picks₀; the copies `rest` are to come: their ends go to the
-- entries of starts after `copies`, their picks to those of picks from `at` on
pub record Writing (kept : List (List ℕ)) (starts₀ picks₀ : List ℕ) (rest : List (List ℕ)) (copies at : ℕ) (starts picks : List ℕ) : Type 0 where
  pub ends : Filling 0 (starts_of kept) starts₀ (copies + 1) (ends_from at rest) starts
  pub room : copies + length rest < length starts
  pub put : Filling 0 (picks_of kept) picks₀ at (picks_of rest) picks

-- the first start is 0 already
pub writing-first : (kept : List (List ℕ)) (starts picks : List ℕ) → length kept < length starts → length (picks_of kept) ≤ length picks → Writing kept (set starts 0 0) picks kept 0 0 (set starts 0 0) picks
unfolding starts_of
writing-first kept starts picks h k =
    let t = set starts 0 0 in
    let long : length t ≡ length starts = length-set starts 0 0 in
    let e : starts_of kept ≡ 0 ∷ ends_from 0 kept = starts-ends 0 kept in
    let all : Filling 0 (0 ∷ ends_from 0 kept) t 0 (0 ∷ ends_from 0 kept) t = filling-first (omega (arith, length-ends 0 kept)) in
    let ends : Filling 0 (0 ∷ ends_from 0 kept) t 1 (ends_from 0 kept) t = rw set-set at (filling-next all) in
    record { ends = rw e ends; room = omega arith; put = filling-first (omega arith) }

-- what was at entry 0 does not matter
first-over : (cs : List (List ℕ)) (starts : List ℕ) → over (starts_of cs) (set starts 0 0) ≡ over (starts_of cs) starts
unfolding starts_of over
first-over cs starts = rw (drop-set-lt (length (starts_from 0 cs)) starts 0 0 (omega (arith, ap length (starts-ends 0 cs))))

-- the next copy has the picks p
pub writing-next : {kept : List (List ℕ)} {starts₀ picks₀ : List ℕ} {p : List ℕ} {rest : List (List ℕ)} {copies at : ℕ} {starts picks : List ℕ} → Writing kept starts₀ picks₀ (p ∷ rest) copies at starts picks → Writing kept starts₀ picks₀ rest (copies + 1) (at + length p) (set starts (copies + 1) (at + length p)) (placed at p picks)
unfolding ends_from picks_of
writing-next {p = p} z = record { ends = filling-next z.ends; room = simp length-set (omega (arith, z.room)); put = filling-append p z.put }

-- a chunk of which something was picked has room for its end
pub writing-room : {kept : List (List ℕ)} {starts₀ picks₀ : List ℕ} (xs : List Float) (per : ℕ) (is : List ℕ) (k : ℕ) {copies at end : ℕ} {starts picks : List ℕ} → Writing kept starts₀ picks₀ (copies_left xs per is k) copies at starts picks
    → k < chunks per (length xs / 3) → end ≡ at + length (picked xs per is (k * per)) → at < end → copies + 1 < length starts
writing-room xs per is k z there e h = omega (arith, z.room, ap length (left-kept xs per is k there (omega arith)))

pub writing-last : {kept : List (List ℕ)} (starts₀ : List ℕ) {picks₀ : List ℕ} {copies at : ℕ} {starts picks : List ℕ} → Writing kept (set starts₀ 0 0) picks₀ [] copies at starts picks → (starts ≡ over (starts_of kept) starts₀) × (picks ≡ over (picks_of kept) picks₀)
unfolding ends_from picks_of
writing-last {kept} starts₀ {picks₀} z = (filling-last z.ends ∙ placed-zero (starts_of kept) (set starts₀ 0 0) ∙ first-over kept starts₀, filling-last z.put ∙ placed-zero (picks_of kept) picks₀)
