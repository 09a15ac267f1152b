-- docs/RULES.md, 'The order rule': one claim about any list of calls on one opened cluster table.
-- Definitions only. Assumes nothing.
use Rattle.std.specs.Prelude.{◌≡◌, Bool, true, false, not, ◌&&◌, ◌||◌, ◌↔◌, ◌⊎◌, List, [], ◌∷◌, ◌++◌, ℕ, ◌<◌, eqb, ltb, leb, Float, Result, Ok, Err, ⊤}
use Rattle.std.specs.Float.{binary32}
use Rattle.std.specs.Float.Ieee.{fits, to_bits}
use Rattle.base.specs.declared.Refused.{Refused}
use Rattle.base.specs.Refusals.{refuse, first_refusal, refused, answer_of}
use Rattle.cell.specs.Reach.{reach}
use Rattle.pick_lists.specs.Sound.{copies}
use Rattle.pick_lists.specs.Input.{Input, input_refusals}
use Rattle.touch.specs.Touch.{copies_touch}
use Rattle.base.specs.Range.{count}
use Rattle.union_find.specs.Parents.{root_of}
use Rattle.cluster_table.specs.Table.{contacts, table_cutoff, parents, degree}
use Rattle.cluster_table.specs.Refusals.{other_cutoff}
use Rattle.cluster_table.specs.declared.ClusterFractions.{ClusterFractions}
use Rattle.cluster_table.specs.Fractions.{three_fractions}
use Rattle.clusters.specs.Answers.{open_refusal, open_answer, open_after, row_refusal, row_answer, row_after, close_answer}
use Rattle.clusters.specs.Graph.{Chain, degree_of, contacts_of, Largest, graph, contact_graph}

pub data Call : Type 0 where
  -- row i, with a cutoff of its own
  row : Float → ℕ → Call
  close : Call
  -- Open for n copies, with a cutoff
  reopen : ℕ → Float → Call

-- the table that a call leaves
unfoldable pub call_after : Input → List ℕ → Call → List ℕ
unfolding row_after open_after
call_after f t (row k i) = row_after f k t i
call_after f t close = t
call_after f t (reopen n k) = open_after n k t

-- the table after a list of calls, each of which gets the table that the last one left
unfoldable pub after : Input → List ℕ → List Call → List ℕ
unfolding call_after
after f t [] = t
after f t (c ∷ cs) = after f (call_after f t c) cs

-- the answer is acceptance
abbrev pub is_accepted : Result ⊤ Refused → Bool
is_accepted (Ok x) = true
is_accepted (Err e) = false

-- the call is row i, and it is accepted
unfoldable pub accepts : Input → List ℕ → Call → ℕ → Bool
unfolding row_refusal
accepts f t (row k j) i = eqb j i && is_accepted (row_answer f k t j)
accepts f t close i = false
accepts f t (reopen n k) i = false

-- row i is accepted in the run of a list from table t
unfoldable pub accepted : Input → List ℕ → List Call → ℕ → Bool
unfolding accepts call_after
accepted f t [] i = false
accepted f t (c ∷ cs) i = accepts f t c i || accepted f (call_after f t c) cs i

-- no Open in the list is accepted: the table is not opened again
unfoldable pub never_reopened : Input → List ℕ → List Call → Bool
unfolding open_refusal call_after
never_reopened f t [] = true
never_reopened f t (row k i ∷ cs) = never_reopened f (call_after f t (row k i)) cs
never_reopened f t (close ∷ cs) = never_reopened f t cs
never_reopened f t (reopen n k ∷ cs) = not (is_accepted (open_answer n k t)) && never_reopened f (call_after f t (reopen n k)) cs

-- every cutoff that a row of the list brings is an f32: the logic's `Float` has further numbers, which no program can hand over
unfoldable pub cutoffs_fit : List Call → Bool
cutoffs_fit [] = true
cutoffs_fit (row k i ∷ cs) = fits binary32 k && cutoffs_fit cs
cutoffs_fit (close ∷ cs) = cutoffs_fit cs
cutoffs_fit (reopen n k ∷ cs) = cutoffs_fit cs

-- the fractions of a graph g on n copies whose largest cluster has m copies
abbrev pub graph_fractions : ℕ → (ℕ → ℕ → Bool) → ℕ → ClusterFractions
graph_fractions n g m = three_fractions n m (count n (λ i. ltb 0 (degree_of n g i))) (contacts_of n g)

-- the rule at one point of the list: n copies, k₀ the cutoff of the opening, t₀ the opened table, t the table at that point, and the rows `acc`
-- accepted by then
pub record Ruled (f : Input) (n : ℕ) (k₀ : Float) (t₀ t : List ℕ) (acc : ℕ → Bool) : Type 0 where
  -- the joined sets, degrees and contacts are those of the graph with only the touches, at k₀, whose row is accepted
  pub sets : (i j : ℕ) → i < n → j < n
      → (root_of (parents n t) i ≡ root_of (parents n t) j) ↔ Chain (graph (copies_touch f k₀) n acc) i j
  pub degrees : (i : ℕ) → i < n → degree n t i ≡ degree_of n (graph (copies_touch f k₀) n acc) i
  pub contacts-are : contacts t ≡ contacts_of n (graph (copies_touch f k₀) n acc)
  -- the table keeps the bits of k₀
  pub cutoff-is : table_cutoff t ≡ to_bits binary32 k₀
  -- Row, with any cutoff, is refused exactly by the first of 1, 2, 3, 4, 15 and 8 that holds, else 16, else 17 if its bits are not k₀'s, else 10,
  -- else 11 if the list accepted that row before
  pub rows : (k : Float) (i : ℕ) → row_answer f k t i
      ≡ answer_of (first_refusal (input_refusals f ++ (reach k ∷ other_cutoff k (to_bits binary32 k₀) ∷ refuse 10 (leb n i) ∷ refuse 11 (acc i) ∷ [])))
  -- Open answers as on the opened table
  pub opens : (m : ℕ) (k : Float) → open_answer m k t ≡ open_answer m k t₀
  -- Close is refused 12 while some row is not accepted
  pub waits : (i : ℕ) → i < n → acc i ≡ false → close_answer t ≡ refused 12
  -- once every row is accepted, Close gives the fractions of the contact graph, whatever the order; below two copies they are zeros
  pub gives : ((i : ℕ) → i < n → acc i ≡ true)
      → (m : ℕ) → (n < 2) ⊎ Largest n (contact_graph (copies_touch f k₀) n) m
      → close_answer t ≡ Ok (graph_fractions n (contact_graph (copies_touch f k₀) n) m)
  -- a largest cluster there is
  pub largest : 0 < n → (m : ℕ) × Largest n (contact_graph (copies_touch f k₀) n) m

-- the order rule: a table freshly opened for the number of copies in the pick lists with a cutoff k₀, and any list of calls that does not open it
-- again; the rule holds at each point of the list, `before` being the calls made by then
abbrev pub OrderRule : Type 0
OrderRule =
    (f : Input) (k₀ : Float) (lent : List ℕ) (cs : List Call) →
    let n = copies f.starts in
    let t₀ = open_after n k₀ lent in
    fits binary32 k₀ ≡ true
    → cutoffs_fit cs ≡ true
    → open_answer n k₀ lent ≡ Ok tt
    → never_reopened f t₀ cs ≡ true
    → (before rest : List Call) → cs ≡ before ++ rest
    → Ruled f n k₀ t₀ (after f t₀ before) (accepted f t₀ before)
