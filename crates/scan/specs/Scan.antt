-- docs/RULES.md, 'Whole frame': Open, then the rows in rising order, by the calls that the order rule is about.
-- Definitions only. Assumes nothing.
use Rattle.std.specs.Prelude.{List, [], ◌∷◌, ℕ, zero, suc, Float}
use Rattle.pick_lists.specs.Sound.{copies}
use Rattle.pick_lists.specs.Input.{Input}
use Rattle.clusters.specs.Answers.{open_after}
use Rattle.clusters.specs.Order.{Call, row, after}

-- m rows with the cutoff k, from row i on
unfoldable pub rising : Float → ℕ → ℕ → List Call
rising k zero i = []
rising k (suc m) i = row k i ∷ rising k m (suc i)

-- the table t after Open and every row, with the cutoff k
unfoldable pub scanned : Input → Float → List ℕ → List ℕ
unfolding open_after rising after
scanned f k t = after f (open_after (copies f.starts) k t) (rising k (copies f.starts) 0)
