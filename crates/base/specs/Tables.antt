-- docs/RULES.md, 'Answers by operation': what a lent table holds after a call wrote to it. Entries past what an answer needs keep their
-- values, and a refusal changes no table. Definitions only. Assumes nothing.
use Rattle.std.specs.Prelude.{ℕ, zero, suc, ◌+◌, List, [], ◌∷◌, ◌++◌, length, take, drop}

-- the table t with ys written from entry k on
unfoldable pub placed : {A : Type 0} → ℕ → List A → List A → List A
placed k ys t = take k t ++ (ys ++ drop (k + length ys) t)

-- the table t with ys written from its start
unfoldable pub over : {A : Type 0} → List A → List A → List A
over ys t = ys ++ drop (length ys) t

-- x where nothing is refused, y at a refusal
abbrev pub unless_refused : {A : Type 0} → ℕ → A → A → A
unless_refused zero x y = x
unless_refused (suc n) x y = y

-- 0, 1, 2, .. , n - 1
unfoldable pub first_numbers : ℕ → List ℕ
first_numbers zero = []
first_numbers (suc n) = first_numbers n ++ (n ∷ [])
