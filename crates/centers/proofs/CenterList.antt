-- The list of centers: its length, and the center of each copy at its place. Assumes nothing.
use mathlib.Core.Path.{◌≡◌, refl, ap, ◌∙◌}
use mathlib.Core.List.{List, ◌∷◌}
use Prim.Native.Nat.{ℕ, zero, suc, ◌+◌, ◌-◌, ◌*◌, ◌≤◌, ◌<◌}
use native.Mathlib.Nat.{zero-add, add-zero, sub-zero, le_of_suc-le-suc}
use native.Mathlib.Omega.{arith}
use lib.ListN.{length, set}
use lib.Ieee.{Float}
use Rattle.pick_lists.specs.Input.{Input}
use Rattle.cell.specs.Cell.{point_at}
use Rattle.base.specs.Tables.{over}
use Rattle.pick_lists.specs.Sound.{copies, pick_list}
use Rattle.centers.specs.Centers.{center_of, centers_from, centers_of}
use Rattle.base.proofs.Filling.{Filling, filling-first, filling-three, filling-last}
use Rattle.base.proofs.Placing.{placed-zero}

-- the points after the first
point-next : (x y z : Float) (l : List Float) (j : ℕ) → point_at (x ∷ y ∷ z ∷ l) (suc j) ≡ point_at l j
unfolding point_at
point-next x y z l j =
    let at : suc j * 3 ≡ suc (suc (suc (j * 3))) = omega arith in
    let at1 : suc j * 3 + 1 ≡ suc (suc (suc (j * 3 + 1))) = omega arith in
    let at2 : suc j * 3 + 2 ≡ suc (suc (suc (j * 3 + 2))) = omega arith in
    rw (at1, at2, at)

module _ (f : Input) where
  from-length : (k i : ℕ) → length (centers_from f.cell f.solutes f.starts f.picks k i) ≡ k * 3
  unfolding centers_from
  from-length zero i = refl
  from-length (suc k) i = omega (arith, from-length k (i + 1))

  pub centers-length : length (centers_of f) ≡ copies f.starts * 3
  unfolding centers_of
  centers-length = from-length (copies f.starts) 0

  from_at : (k i j : ℕ) → j < k → point_at (centers_from f.cell f.solutes f.starts f.picks k i) j ≡ center_of f.cell f.solutes (pick_list f.starts f.picks (i + j))
  unfolding centers_from point_at
  from_at zero i j h = absurd (omega arith)
  from_at (suc k) i zero h = rw add-zero
  from_at (suc k) i (suc j) h =
      let m = center_of f.cell f.solutes (pick_list f.starts f.picks i) in
      let e : i + 1 + j ≡ i + suc j = omega arith in
      point-next m.x m.y m.z (centers_from f.cell f.solutes f.starts f.picks k (i + 1)) j
      ∙ from_at k (i + 1) j (le_of_suc-le-suc h)
      ∙ ap (λ (n : ℕ). center_of f.cell f.solutes (pick_list f.starts f.picks n)) e

  pub center-at : (i : ℕ) → i < copies f.starts → point_at (centers_of f) i ≡ center_of f.cell f.solutes (pick_list f.starts f.picks i)
  unfolding centers_of
  center-at i h = from_at (copies f.starts) 0 i h ∙ ap (λ (n : ℕ). center_of f.cell f.solutes (pick_list f.starts f.picks n)) (zero-add i)

  -- ---- the loop that writes them into the table t₀: those from copy i on are still to be written
  abbrev pub Writing : List Float → ℕ → List Float → Type 0
  Writing t₀ i t = Filling 0 (centers_of f) t₀ (i * 3) (centers_from f.cell f.solutes f.starts f.picks (copies f.starts - i) i) t

  pub writing-first : (t : List Float) → copies f.starts * 3 ≤ length t → Writing t 0 t
  unfolding centers_of
  writing-first t h = rw sub-zero (filling-first (omega (arith, from-length (copies f.starts) 0)))

  pub writing-next :
      {i : ℕ} {t₀ t : List Float} → i < copies f.starts → Writing t₀ i t →
      let m = center_of f.cell f.solutes (pick_list f.starts f.picks i) in
      Writing t₀ (i + 1) (set (set (set t (i * 3) m.x) (i * 3 + 1) m.y) (i * 3 + 2) m.z)
  unfolding centers_from
  writing-next {i} h w =
      let more : copies f.starts - i ≡ suc (copies f.starts - (i + 1)) = omega arith in
      let at : (i + 1) * 3 ≡ i * 3 + 3 = omega arith in
      rw at (filling-three (rw more at w))

  pub writing-last : {i : ℕ} {t₀ t : List Float} → copies f.starts ≤ i → Writing t₀ i t → t ≡ over (centers_of f) t₀
  unfolding centers_from
  writing-last {i} {t₀} h w =
      let none : copies f.starts - i ≡ 0 = omega arith in
      filling-last (rw none at w) ∙ placed-zero (centers_of f) t₀
