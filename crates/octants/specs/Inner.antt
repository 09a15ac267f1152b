-- What the contracts of the counting sort by octant cite. Definitions only. Assumes nothing.
use Rattle.std.specs.Prelude.{cond, List, [], ◌∷◌, ◌++◌, ◌≡◌, ℕ, zero, suc, ◌+◌, ◌-◌, ◌≤◌, ◌<◌, eqb, length, get_or, replicate, Float}
use Rattle.cell.specs.declared.Vec3.{Vec3}
use Rattle.base.specs.Limits.{max_atoms}
use Rattle.bounds.specs.Bounds.{octant_at}
use Rattle.octants.specs.Octants.{octant_points}

-- the sum of n 0, .., n (o - 1)
unfoldable pub sum_before : (ℕ → ℕ) → ℕ → ℕ
sum_before n zero = 0
sum_before n (suc o) = sum_before n o + n o

-- the lists f (8 - left), .., f 7, one after the other
unfoldable pub lists_from : (ℕ → List ℕ) → ℕ → List ℕ
lists_from f zero = []
lists_from f (suc left) = f (7 - left) ++ lists_from f left

-- of the first n numbers of vs those beside which ks has o, in their order
unfoldable pub beside : List ℕ → List ℕ → ℕ → ℕ → List ℕ
beside ks vs zero o = []
beside ks vs (suc n) o = cond (eqb (get_or ks n 0) o) (beside ks vs n o ++ (get_or vs n 0 ∷ [])) (beside ks vs n o)

-- a list of points by octant
abbrev pub by_octant : List Float → Vec3 → List ℕ → ℕ → List ℕ
by_octant points c l o = octant_points points c o l

-- what `tally` leaves: in ks the octant of each point of l, in counts how many points each octant has
pub record Tallied (points : List Float) (c : Vec3) (l ks counts : List ℕ) : Type 0 where
  pub codes : (i : ℕ) → i < length l → get_or ks i 0 ≡ octant_at points c (get_or l i 0)
  pub count : (o : ℕ) → o < 8 → get_or counts o 0 ≡ length (octant_points points c o l)

-- what `deal` asks: the octants ks of the first n of vs, and where each octant's points begin
pub record Dealable (ks vs : List ℕ) (n : ℕ) (places : List ℕ) : Type 0 where
  pub eight : length places ≡ 8
  pub enough-k : n ≤ length ks
  pub enough-v : n ≤ length vs
  pub small : (i : ℕ) → i < n → get_or ks i 0 < 8
  pub starts : (o : ℕ) → o < 8 → get_or places o 0 ≡ sum_before (λ k. length (beside ks vs n k)) o

-- what `arrange` asks: a list within the limit, fresh counts, and room in the two scratch lists
pub record Sortable (l counts : List ℕ) (scratch codes : ℕ) : Type 0 where
  pub few : length l ≤ max_atoms
  pub fresh : counts ≡ replicate 8 0
  pub room-s : length l ≤ scratch
  pub room-k : length l ≤ codes

-- what `arrange` leaves: l₀ by rising octant, and how many points each octant has
pub record Arranged (points : List Float) (c : Vec3) (l₀ l counts : List ℕ) : Type 0 where
  pub order : l ≡ lists_from (by_octant points c l₀) 8
  pub count : (o : ℕ) → o < 8 → get_or counts o 0 ≡ length (octant_points points c o l₀)
