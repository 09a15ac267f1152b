-- docs/RULES.md, 'The order rule': graphs on the copies 0 .. n - 1, chains, clusters, degrees and contacts, with no table in sight.
-- A graph is a test: `g i j` says that there is a contact of i and j, i < j. Definitions only. Assumes nothing.
use Rattle.std.specs.Prelude.{◌≡◌, Bool, true, ◌||◌, ◌&&◌, ◌↔◌, ℕ, ◌≤◌, ◌<◌, ltb}
use Rattle.base.specs.Range.{count, total}

-- a contact, either way round
abbrev pub either : (ℕ → ℕ → Bool) → ℕ → ℕ → Bool
either g i j = g i j || g j i

-- i and k are joined by a chain of contacts
pub data Chain (g : ℕ → ℕ → Bool) : ℕ → ℕ → Type 0 where
  stop : {i : ℕ} → Chain g i i
  on : {i j k : ℕ} → either g i j ≡ true → Chain g j k → Chain g i k

-- i's contacts
unfoldable pub degree_of : ℕ → (ℕ → ℕ → Bool) → ℕ → ℕ
unfolding count
degree_of n g i = count n (either g i)

-- all contacts
unfoldable pub contacts_of : ℕ → (ℕ → ℕ → Bool) → ℕ
unfolding total count
contacts_of n g = total n (λ i. count n (g i))

-- the cluster of i has m copies: m numbers below n are those that a chain joins to i
pub record Cluster (n : ℕ) (g : ℕ → ℕ → Bool) (i m : ℕ) : Type 0 where
  pub member : ℕ → Bool
  pub right : (j : ℕ) → j < n → (member j ≡ true) ↔ Chain g i j
  pub size : count n member ≡ m

-- m is the size of the largest cluster: some copy's cluster has m copies, and no copy's has more
pub record Largest (n : ℕ) (g : ℕ → ℕ → Bool) (m : ℕ) : Type 0 where
  pub some : ℕ
  pub below : some < n
  pub reached : Cluster n g some m
  pub most : (i k : ℕ) → i < n → Cluster n g i k → k ≤ m

-- the contacts that the accepted rows add: those of i and j, i < j < n, where row i is accepted and the copies touch
unfoldable pub graph : (ℕ → ℕ → Bool) → ℕ → (ℕ → Bool) → ℕ → ℕ → Bool
graph touch n accepted i j = ltb i j && (ltb j n && (accepted i && touch i j))

-- the contact graph: all touches
abbrev pub contact_graph : (ℕ → ℕ → Bool) → ℕ → ℕ → ℕ → Bool
contact_graph touch n = graph touch n (λ i. true)
