-- docs/RULES.md, 'Answers by operation': a refusal is given on its condition and only then, the first in the call's order, as its
-- number alone. A call's refusals are one list, in that order. Definitions only. Assumes nothing.
use Rattle.std.specs.Prelude.{ℕ, Bool, cond, List, [], ◌∷◌, Result, Ok, Err, ⊤, eqb}
use Rattle.base.specs.declared.Refused.{Refused}
use Rattle.base.specs.declared.Refused.TheVariants.{Ragged, Long, Bound, Coordinate, Copies, Picks, Short, Lists, Table, NoRow, RowAgain, RowLeft, Nodes, Block, Cell, Reach, OtherCutoff}
use Rattle.base.specs.Tables.{unless_refused}

-- a refusal's number, and whether its condition holds
pub record Refusal : Type 0 where
  pub number : ℕ
  pub holds : Bool

abbrev pub refuse : ℕ → Bool → Refusal
refuse n b = record { number = n; holds = b }

-- the first number that holds; 0 where none does
unfoldable pub first_refusal : List Refusal → ℕ
first_refusal [] = 0
first_refusal (r ∷ rs) = cond r.holds r.number (first_refusal rs)

-- the number of each refusal
abbrev pub refusal_number : Refused → ℕ
refusal_number Ragged = 1
refusal_number Long = 2
refusal_number Bound = 3
refusal_number Coordinate = 4
refusal_number Copies = 5
refusal_number Picks = 6
refusal_number Short = 7
refusal_number Lists = 8
refusal_number Table = 9
refusal_number NoRow = 10
refusal_number RowAgain = 11
refusal_number RowLeft = 12
refusal_number Nodes = 13
refusal_number Block = 14
refusal_number Cell = 15
refusal_number Reach = 16
refusal_number OtherCutoff = 17

-- the refusal of each number from 1 to 17; no call refuses with another
abbrev pub refusal_of : ℕ → Refused
refusal_of r =
    cond (eqb r 1) Ragged (
    cond (eqb r 2) Long (
    cond (eqb r 3) Bound (
    cond (eqb r 4) Coordinate (
    cond (eqb r 5) Copies (
    cond (eqb r 6) Picks (
    cond (eqb r 7) Short (
    cond (eqb r 8) Lists (
    cond (eqb r 9) Table (
    cond (eqb r 10) NoRow (
    cond (eqb r 11) RowAgain (
    cond (eqb r 12) RowLeft (
    cond (eqb r 13) Nodes (
    cond (eqb r 14) Block (
    cond (eqb r 15) Cell (
    cond (eqb r 16) Reach (OtherCutoff))))))))))))))))

-- the answer that refuses with a number
abbrev pub refused : {A : Type 0} → ℕ → Result A Refused
refused r = Err (refusal_of r)

-- what a call that answers acceptance alone answers, by the first number that holds
abbrev pub answer_of : ℕ → Result ⊤ Refused
answer_of r = unless_refused r (Ok tt) (refused r)

-- the number of each case of an answer: 0 for acceptance, and at a refusal what f says of it
abbrev pub number_by : {A E : Type 0} → (E → ℕ) → Result A E → ℕ
number_by f (Ok x) = 0
number_by f (Err e) = f e

-- a refusal's own
abbrev pub answer_number : {A : Type 0} → Result A Refused → ℕ
answer_number = number_by refusal_number
