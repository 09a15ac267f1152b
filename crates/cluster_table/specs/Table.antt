-- docs/RULES.md, 'Clusters': the cluster table, one list of words: copies n, contacts, the cutoff's bits, then n parents, n degrees, n marks.
-- Definitions only. Assumes nothing.
use Rattle.std.specs.Prelude.{Bool, ◌&&◌, List, ◌∷◌, ◌++◌, ℕ, ◌+◌, ◌-◌, ◌*◌, ◌/◌, get_or, set, take, drop, replicate, eqb, leb, ltb}
use Rattle.base.specs.Tables.{over, first_numbers}
use Rattle.base.specs.Range.{all_below}
use Rattle.union_find.specs.Parents.{joined, sound_parents}

-- the words before the parents
abbrev pub header : ℕ
header = 3

abbrev pub table_copies : List ℕ → ℕ
table_copies t = get_or t 0 0

abbrev pub contacts : List ℕ → ℕ
contacts t = get_or t 1 0

-- the bits of the cutoff that the table was opened with
abbrev pub table_cutoff : List ℕ → ℕ
table_cutoff t = get_or t 2 0

abbrev pub parents : ℕ → List ℕ → List ℕ
parents n t = take n (drop header t)

abbrev pub degrees : ℕ → List ℕ → List ℕ
degrees n t = take n (drop (header + n) t)

abbrev pub marks : ℕ → List ℕ → List ℕ
marks n t = take n (drop (header + n + n) t)

-- where the degree of copy i stands, and its mark
abbrev pub degree_at : ℕ → ℕ → ℕ
degree_at n i = header + n + i

abbrev pub mark_at : ℕ → ℕ → ℕ
mark_at n i = header + n + n + i

abbrev pub degree : ℕ → List ℕ → ℕ → ℕ
degree n t i = get_or t (degree_at n i) 0

abbrev pub mark : ℕ → List ℕ → ℕ → ℕ
mark n t i = get_or t (mark_at n i) 0

-- the words that a table of n copies needs
abbrev pub words : ℕ → ℕ
words n = header + 3 * n

-- ---- opening
-- n, no contacts, the cutoff's bits b, each its own parent, and zeros
unfoldable pub opened : ℕ → ℕ → List ℕ → List ℕ
opened n b t = over (n ∷ 0 ∷ b ∷ (first_numbers n ++ replicate (n + n) 0)) t

-- ---- a contact
-- the parents p in their place
abbrev pub with_parents : ℕ → List ℕ → List ℕ → List ℕ
with_parents n t p = take header t ++ (p ++ drop (header + n) t)

-- the degrees of i and j and the contacts, each raised by one
unfoldable pub counted : ℕ → List ℕ → ℕ → ℕ → List ℕ
counted n t i j =
    let v = set t (degree_at n i) (degree n t i + 1) in
    let w = set v (degree_at n j) (degree n v j + 1) in
    set w 1 (contacts w + 1)

-- a touch of i and j: the root of j is joined under the root of i, and both degrees and the contacts are raised
unfoldable pub contact : ℕ → List ℕ → ℕ → ℕ → List ℕ
unfolding joined counted
contact n t i j = counted n (with_parents n t (joined (parents n t) i j)) i j

-- ---- soundness (9)
-- the possible pairs of n copies
abbrev pub pairs : ℕ → ℕ
pairs n = n * (n - 1) / 2

-- i's degree is below n, and its mark 0 or 1
unfoldable pub sound_words : ℕ → List ℕ → ℕ → Bool
sound_words n t i = ltb (degree n t i) n && leb (mark n t i) 1

-- n is the table's own, contacts do not exceed the possible pairs, and parents, degrees and marks are sound; the cutoff's bits may be any
unfoldable pub sound_table : ℕ → List ℕ → Bool
unfolding sound_parents sound_words
sound_table n t = eqb (table_copies t) n && (leb (contacts t) (pairs n) && (sound_parents (parents n t) && all_below n (sound_words n t)))
