-- The score of n centers: it reads no more than n centers of its list, the pairs of 4,096 centers are few, and each case by its tests. Assumes nothing.
use mathlib.Core.Path.{◌≡◌, refl}
use mathlib.Core.List.{List, ◌++◌}
use Prim.Native.Nat.{ℕ, zero, suc, ◌+◌, ◌-◌, ◌*◌, ◌≤◌, ◌<◌}
use native.Mathlib.Nat.{mul-le-mul}
use native.Mathlib.Omega.{arith}
use lib.ListN.{length, drop, length-append, get_or-append}
use lib.Ieee.{Float, nan, binary64, add}
use Rattle.pick_lists.specs.Input.{Input}
use Rattle.base.specs.Limits.{max_copies}
use Rattle.cell.specs.declared.Vec3.{Vec3}
use Rattle.cell.specs.Cell.{extent_of, distance2, point_at}
use Rattle.base.specs.Tables.{over}
use Rattle.pick_lists.specs.Sound.{copies}
use Rattle.centers.specs.Centers.{centers_of}
use Rattle.dispersion.specs.Dispersion.{row_sum, pair_sum, observed_of, score_of, dispersion_of}
use Rattle.centers.proofs.CenterList.{centers-length}

pub few-pairs : (n : ℕ) → n ≤ max_copies → n * (n - 1) ≤ max_copies * 4095
few-pairs n h =
    let g : n - 1 ≤ 4095 = omega arith in
    mul-le-mul h g

point-append : (cs t : List Float) (i : ℕ) → i * 3 + 2 < length cs → point_at (cs ++ t) i ≡ point_at cs i
unfolding point_at
point-append cs t i h =
    let a = get_or-append cs t nan (i * 3) (omega arith) in
    let b = get_or-append cs t nan (i * 3 + 1) (omega arith) in
    let c = get_or-append cs t nan (i * 3 + 2) h in
    rw (a, b, c)

module _ (e : Vec3) (cs t : List Float) (n : ℕ) (long : n * 3 ≤ length cs) where
  row-append : (i k j : ℕ) (s : Float) → i < n → j + k ≤ n → row_sum e (cs ++ t) i k j s ≡ row_sum e cs i k j s
  unfolding row_sum
  row-append i zero j s h g = refl
  row-append i (suc k) j s h g =
      rw (point-append cs t i (omega arith), point-append cs t j (omega arith))
      (row-append i k (j + 1) (add binary64 s (distance2 e (point_at cs i) (point_at cs j))) h (omega arith))

  pair-append : (k i : ℕ) (s : Float) → i + k ≤ n → pair_sum e (cs ++ t) n k i s ≡ pair_sum e cs n k i s
  unfolding pair_sum
  pair-append zero i s h = refl
  pair-append (suc k) i s h =
      rw (row-append i (n - (i + 1)) (i + 1) s (omega arith) (omega arith))
      (pair-append k (i + 1) (row_sum e cs i (n - (i + 1)) (i + 1) s) (omega arith))

  score-append : score_of e (cs ++ t) n ≡ score_of e cs n
  unfolding score_of observed_of
  score-append = rw (pair-append n 0 _ (omega arith))

-- ---- the list u that `put_centers` leaves: the centers before what stood there
module _ (f : Input) (t u : List Float) (left : u ≡ over (centers_of f) t) where
  pub listed-room : copies f.starts * 3 ≤ length u
  unfolding over
  listed-room = rw left (simp length-append (omega (arith, centers-length f)))

  pub listed-score : score_of (extent_of f.cell) u (copies f.starts) ≡ dispersion_of f
  unfolding over dispersion_of
  listed-score = rw left (score-append (extent_of f.cell) (centers_of f) (drop (length (centers_of f)) t) (copies f.starts) (omega (arith, centers-length f)))
