-- `firsts` meets its contract. The places of the octants below o are the sums before them, and `at` is the sum of the counts passed.
-- Assumes nothing.
use Rattle.std.proofs.Common.{◌≡◌, List, ℕ, ◌<◌, get_or, length}
use Rattle.octants.specs.Inner.{sum_before}
use Rattle.octants.proofs.firsts.Given as goal

abbrev sums : List ℕ → ℕ → ℕ
sums counts o = sum_before (λ k. get_or counts k 0) o

abbrev pub invariant-loop-o : goal.invariant-loop-o
invariant-loop-o l = (length l.places ≡ 8) × (l.at ≡ sums l.counts l.o) × ((k : ℕ) → k < l.o → get_or l.places k 0 ≡ sums l.counts k)
