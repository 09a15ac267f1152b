-- Centers wrapped in place: the loop has wrapped the points before i, and those from i on are as they were. Assumes nothing.
use mathlib.Core.Path.{◌≡◌, refl, sym, ap, ◌∙◌}
use mathlib.Core.List.{List, []}
use Prim.Native.Nat.{ℕ, zero, suc, ◌+◌, ◌-◌, ◌*◌, ◌≤◌, ◌<◌}
use native.Mathlib.Nat.{sub-zero, add-zero, zero-add}
use native.Mathlib.Omega.{arith}
use lib.ListN.{length, get_or, set, drop, get_or-append}
use lib.Seq.{drop-set-lt, drop-drop, get_or-drop, drop-append_seam}
use lib.Ieee.{Float, nan}
use Rattle.pick_lists.specs.Input.{Input}
use Rattle.cell.specs.declared.Cell.{Cell}
use Rattle.cell.specs.Cell.{wrap, point_at}
use Rattle.base.specs.Tables.{over}
use Rattle.base.proofs.Filling.{Filling, filling-first, filling-three, filling-last}
use Rattle.base.proofs.Placing.{placed-zero}
use Rattle.pick_lists.specs.Sound.{copies}
use Rattle.centers.specs.Centers.{centers_of}
use Rattle.points.specs.Points.{point_before, wrap_from, tree_centers}

pub wrap-length : (c : Cell) (xs : List Float) (n i : ℕ) → length (wrap_from c xs n i) ≡ n * 3
unfolding wrap_from
wrap-length c xs zero i = refl
wrap-length c xs (suc n) i = omega (arith, wrap-length c xs n (i + 1))

-- three floats for each copy
pub centers-size : (f : Input) → length (tree_centers f) ≡ copies f.starts * 3
unfolding tree_centers
centers-size f = wrap-length f.cell (centers_of f) (copies f.starts) 0

-- n points of the list xs₀ are to be wrapped; those before i are, in the list xs
pub record Wrapping (c : Cell) (n : ℕ) (xs₀ : List Float) (i : ℕ) (xs : List Float) : Type 0 where
  pub filling : Filling 0 (wrap_from c xs₀ n 0) xs₀ (i * 3) (wrap_from c xs₀ (n - i) i) xs
  pub ahead : drop (i * 3) xs ≡ drop (i * 3) xs₀

-- two lists that agree from a point on have the same point there
point-ahead : (xs ys : List Float) (i : ℕ) → drop (i * 3) xs ≡ drop (i * 3) ys → point_at xs i ≡ point_at ys i
unfolding point_at
point-ahead xs ys i h = cc (at 0, at 1, at 2, add-zero (i * 3))
  where
    at : (j : ℕ) → get_or xs (i * 3 + j) nan ≡ get_or ys (i * 3 + j) nan
    at j = sym (get_or-drop (i * 3) xs j nan) ∙ ap (λ (l : List Float). get_or l j nan) h ∙ get_or-drop (i * 3) ys j nan

module _ {c : Cell} {n : ℕ} {xs₀ : List Float} where
  pub wrapping-first : n * 3 ≤ length xs₀ → Wrapping c n xs₀ 0 xs₀
  wrapping-first h =
      record {
        filling = rw sub-zero (filling-first (rw (wrap-length c xs₀ n 0, zero-add) h));
        ahead = refl;
      }

  pub wrapping-next :
      {i : ℕ} {xs : List Float} → i < n → Wrapping c n xs₀ i xs →
      let p = wrap c (point_at xs i) in
      Wrapping c n xs₀ (i + 1) (set (set (set xs (i * 3) p.x) (i * 3 + 1) p.y) (i * 3 + 2) p.z)
  unfolding wrap_from
  wrapping-next {i} {xs} h w =
      let p = wrap c (point_at xs i) in
      let same : wrap c (point_at xs₀ i) ≡ p = ap (wrap c) (sym (point-ahead xs xs₀ i w.ahead)) in
      let more : n - i ≡ suc (n - (i + 1)) = omega arith in
      let at : (i + 1) * 3 ≡ i * 3 + 3 = omega arith in
      let next : Filling 0 (wrap_from c xs₀ n 0) xs₀ (i * 3) (point_before p (wrap_from c xs₀ (n - (i + 1)) (i + 1))) xs = rw (more, same) at w.filling in
      record {
        filling = rw at (filling-three next);
        ahead =
            rw at
            (drop-set-lt (i * 3 + 3) (set (set xs (i * 3) p.x) (i * 3 + 1) p.y) (i * 3 + 2) p.z (omega arith)
            ∙ drop-set-lt (i * 3 + 3) (set xs (i * 3) p.x) (i * 3 + 1) p.y (omega arith)
            ∙ drop-set-lt (i * 3 + 3) xs (i * 3) p.x (omega arith)
            ∙ sym (drop-drop 3 (i * 3) xs) ∙ ap (drop 3) w.ahead ∙ drop-drop 3 (i * 3) xs₀);
      }

  pub wrapping-last : {i : ℕ} {xs : List Float} → n ≤ i → Wrapping c n xs₀ i xs → xs ≡ over (wrap_from c xs₀ n 0) xs₀
  unfolding wrap_from
  wrapping-last {i} {xs} h w =
      let none : n - i ≡ 0 = omega arith in
      let done : Filling 0 (wrap_from c xs₀ n 0) xs₀ (i * 3) [] xs = rw none at w.filling in
      filling-last done ∙ placed-zero (wrap_from c xs₀ n 0) xs₀

-- ---- wrapping the points L that stand at the start of a list
pub point-over : (L t : List Float) (i : ℕ) → i * 3 + 2 < length L → point_at (over L t) i ≡ point_at L i
unfolding point_at over
point-over L t i h =
    let r = drop (length L) t in
    cc (get_or-append L r nan (i * 3) (omega arith), get_or-append L r nan (i * 3 + 1) (omega arith), get_or-append L r nan (i * 3 + 2) h)

wrap-over : (c : Cell) (L t : List Float) (n i : ℕ) → (i + n) * 3 ≤ length L → wrap_from c (over L t) n i ≡ wrap_from c L n i
unfolding wrap_from
wrap-over c L t zero i h = refl
wrap-over c L t (suc n) i h =
    let rest : (i + 1 + n) * 3 ≤ length L = omega arith in
    rw (point-over L t i (omega arith), wrap-over c L t n (i + 1) rest)

-- a list over one of the same length
over-over : {A : Type 0} (xs ys t : List A) → length xs ≡ length ys → over xs (over ys t) ≡ over xs t
unfolding over
over-over xs ys t h = rw (h, drop-append_seam)

pub wrapped-over : (c : Cell) (L t : List Float) (n : ℕ) → length L ≡ n * 3 → over (wrap_from c (over L t) n 0) (over L t) ≡ over (wrap_from c L n 0) t
wrapped-over c L t n h = rw (wrap-over c L t n 0 (omega arith)) (over-over (wrap_from c L n 0) L t (wrap-length c L n 0 ∙ sym h))
