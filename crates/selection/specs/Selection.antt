-- docs/RULES.md, 'Selection' and Select. Atoms are numbered among all solute atoms. Definitions only. Assumes nothing.
use Rattle.std.specs.Prelude.{ℕ, zero, suc, ◌+◌, ◌/◌, cond, ◌&&◌, ◌||◌, List, [], ◌∷◌, ◌++◌, ltb, length, Float, Result, Ok, Err}
use Rattle.base.specs.Limits.{max_copies, max_picks}
use Rattle.frame_limits.specs.Limits.{lengths, counts, coordinates}
use Rattle.base.specs.declared.Refused.{Refused}
use Rattle.base.specs.Refusals.{Refusal, refuse, first_refusal, refused}
use Rattle.base.specs.Tables.{over, unless_refused}
use Rattle.pick_lists.specs.Sound.{finite_atom}
use Rattle.selection.specs.declared.Counted.{Counted}

-- the finite atoms among the n from number k on
unfoldable pub finite_atoms : List Float → ℕ → ℕ → List ℕ
unfolding finite_atom
finite_atoms xs zero k = []
finite_atoms xs (suc n) k = let rest = finite_atoms xs n (k + 1) in cond (finite_atom xs k) (k ∷ rest) rest

-- indices in list order, repeats again, those past the copy or not finite skipped; the copy has `per` atoms from number `base` on
unfoldable pub indexed : List Float → ℕ → ℕ → List ℕ → List ℕ
unfolding finite_atom
indexed xs per base [] = []
indexed xs per base (i ∷ is) = let rest = indexed xs per base is in cond (ltb i per && finite_atom xs (base + i)) ((base + i) ∷ rest) rest

-- the first list, or the second where the first is empty
abbrev pub or_else : List ℕ → List ℕ → List ℕ
or_else [] ys = ys
or_else (x ∷ xs) ys = x ∷ xs

-- what is picked of the copy at base: by the indices, and if nothing was (an empty index list picks nothing), all its finite atoms
unfoldable pub picked : List Float → ℕ → List ℕ → ℕ → List ℕ
unfolding finite_atoms indexed
picked xs per is base = or_else (indexed xs per base is) (finite_atoms xs per base)

-- a copy with no pick vanishes
abbrev pub keep : List ℕ → List (List ℕ) → List (List ℕ)
keep [] cs = cs
keep (p ∷ ps) cs = (p ∷ ps) ∷ cs

-- the kept copies among n chunks from number base on
unfoldable pub copies_from : List Float → ℕ → List ℕ → ℕ → ℕ → List (List ℕ)
unfolding picked
copies_from xs per is zero base = []
copies_from xs per is (suc n) base = let rest = copies_from xs per is n (base + per) in keep (picked xs per is base) rest

-- whole chunks of atoms per copy: zero gives none, a trailing short chunk is dropped
unfoldable pub chunks : ℕ → ℕ → ℕ
chunks zero atoms = 0
chunks (suc p) atoms = atoms / suc p

-- the kept copies, each by its picks
unfoldable pub kept_copies : List Float → ℕ → List ℕ → List (List ℕ)
unfolding copies_from chunks
kept_copies xs per is = copies_from xs per is (chunks per (length xs / 3)) 0

-- ---- the pick lists
unfoldable pub picks_of : List (List ℕ) → List ℕ
picks_of [] = []
picks_of (c ∷ cs) = c ++ picks_of cs

-- where each copy's picks start, and after the last where they end
unfoldable pub starts_from : ℕ → List (List ℕ) → List ℕ
starts_from at [] = at ∷ []
starts_from at (c ∷ cs) = at ∷ starts_from (at + length c) cs

unfoldable pub starts_of : List (List ℕ) → List ℕ
unfolding starts_from
starts_of cs = starts_from 0 cs

-- ---- Select
-- 1, 2 and 4, of the solutes and the indices; there are no waters
unfoldable pub list_refusals : List Float → List ℕ → List Refusal
unfolding lengths counts coordinates
list_refusals solutes indices = lengths solutes [] ∷ counts solutes [] indices ∷ coordinates solutes [] ∷ []

-- 5, 6 and 7, for so many kept copies and picks in tables of these lengths
unfoldable pub room_refusals : ℕ → ℕ → ℕ → ℕ → List Refusal
room_refusals copies picks start_room pick_room =
    refuse 5 (ltb max_copies copies)
    ∷ refuse 6 (ltb max_picks picks)
    ∷ refuse 7 (ltb start_room (copies + 1) || ltb pick_room picks)
    ∷ []

unfoldable pub select_refusals : List Float → ℕ → List ℕ → List ℕ → List ℕ → List Refusal
unfolding list_refusals room_refusals kept_copies picks_of
select_refusals solutes per indices starts picks =
    let cs = kept_copies solutes per indices in
    list_refusals solutes indices ++ room_refusals (length cs) (length (picks_of cs)) (length starts) (length picks)

unfoldable pub select_refusal : List Float → ℕ → List ℕ → List ℕ → List ℕ → ℕ
unfolding select_refusals first_refusal
select_refusal solutes per indices starts picks = first_refusal (select_refusals solutes per indices starts picks)

-- what Select answers: the kept copies and the picks, or the refusal
unfoldable pub select_answer : List Float → ℕ → List ℕ → List ℕ → List ℕ → Result Counted Refused
unfolding select_refusal kept_copies picks_of
select_answer solutes per indices starts picks =
    let r = select_refusal solutes per indices starts picks in
    let cs = kept_copies solutes per indices in
    unless_refused r (Ok (record { copies = length cs; picks = length (picks_of cs) })) (refused r)

-- the values of each case: the kept copies and the picks with success, none with a refusal
abbrev pub select_values : {E : Type 0} → Result Counted E → List ℕ
select_values (Ok n) = n.copies ∷ n.picks ∷ []
select_values (Err e) = []

-- both tables afterwards
unfoldable pub starts_after : List Float → ℕ → List ℕ → List ℕ → List ℕ → List ℕ
unfolding select_refusal kept_copies starts_of over
starts_after solutes per indices starts picks = unless_refused (select_refusal solutes per indices starts picks) (over (starts_of (kept_copies solutes per indices)) starts) starts

unfoldable pub picks_after : List Float → ℕ → List ℕ → List ℕ → List ℕ → List ℕ
unfolding select_refusal kept_copies picks_of over
picks_after solutes per indices starts picks = unless_refused (select_refusal solutes per indices starts picks) (over (picks_of (kept_copies solutes per indices)) picks) picks
