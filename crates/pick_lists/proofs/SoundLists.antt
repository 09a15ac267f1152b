-- Sound pick lists: their tests, an element at a time, and what lists that pass them have. Assumes nothing.
use mathlib.Core.Path.{◌≡◌, refl, ap₂, ◌∙◌}
use mathlib.Core.Bool.{Bool, true, false, false≢true, ◌&&◌, ◌||◌, and_assoc, and-eq-true_iff}
use mathlib.Core.List.{List, [], ◌∷◌}
use Prim.Native.Nat.{ℕ, zero, suc, ◌+◌, ◌-◌, ◌*◌, ◌/◌, ◌≤◌, ◌<◌, zero-le, suc-le-suc}
use native.Mathlib.Nat.{le_of_suc-le-suc, zero-add}
use native.Mathlib.Decide.{dec_lt}
use native.Mathlib.Numerals.{add-one}
use native.Mathlib.Omega.{arith}
use lib.Dec.{ltb, leb, eqb}
use lib.ListN.{length, get_or, take, drop}
use lib.Ieee.{Float, nan}
use lib.Ieee.Scale.{finite}
use borrow.Author.Tests.{lt-ltb, le-ltb, ltb-true, ltb-false, lt-leb, le-leb, leb-true, eq-eqb, eqb-true, eqb-false}
use Rattle.floats.proofs.Tests.{both}
use Rattle.cell.specs.Cell.{point_at, finite_point}
use Rattle.base.specs.Limits.{max_copies, max_picks}
use Rattle.base.proofs.Tests.{neither}
use Rattle.std.specs.List.{list_all}
use Rattle.std.proofs.lemmas.List.Recursion.{and_at}
use Rattle.pick_lists.specs.Sound.{finite_atom, rises, all_finite, copies, sound_starts, sound_lists}
use Rattle.pick_lists.specs.Inner.{finite_coordinates}

-- ---- the starts rise: what is left from a start on decides
-- the next test goes to what was found before it
pub rises-step : (l : List ℕ) (all : Bool) → 2 ≤ length l → ((all && ltb (get_or (take 2 l) 0 0) (get_or (take 2 l) 1 0)) && rises (drop 1 l)) ≡ (all && rises l)
unfolding rises
rises-step [] all h = absurd (omega arith)
rises-step (a ∷ []) all h = absurd (omega arith)
rises-step (a ∷ b ∷ l) all h = and_assoc all (ltb a b) (rises (b ∷ l))

-- at most one number rises
pub rises-short : (l : List ℕ) → length l < 2 → rises l ≡ true
unfolding rises
rises-short [] h = refl
rises-short (a ∷ []) h = refl
rises-short (a ∷ b ∷ l) h = absurd (omega arith)

-- ---- each pick names a finite atom
coordinate-at : (xs : List Float) → finite_coordinates xs ≡ true → (k : ℕ) → k < length xs → finite (get_or xs k nan) ≡ true
coordinate-at xs f k h = and_at (list_all finite) finite refl (λ _ _. refl) xs k nan h f

-- an atom is there where its last coordinate is
atom-within : (n p : ℕ) → ltb (p * 3 + 2) n ≡ ltb p (n / 3)
atom-within n p = go (dec_lt (p * 3 + 2) n)
  where
    go : Dec (p * 3 + 2 < n) → ltb (p * 3 + 2) n ≡ ltb p (n / 3)
    go (yes l) = rw (lt-ltb (p * 3 + 2) n l, lt-ltb p (n / 3) (omega arith))
    go (no m) = rw (le-ltb (p * 3 + 2) n (omega arith), le-ltb p (n / 3) (omega arith))

-- pick p names a finite atom, as an index does of one copy that has all atoms
abbrev pub names_finite : List Float → ℕ → Bool
names_finite xs p = ltb p (length xs / 3) && finite_atom xs (0 + p)

pub all-names : (xs : List Float) (ps : List ℕ) → list_all (names_finite xs) ps ≡ all_finite xs ps
unfolding all_finite
all-names xs [] = refl
all-names xs (p ∷ ps) = rw (atom-within (length xs) p, zero-add, all-names xs ps)

-- where every coordinate is finite, a pick that names an atom names a finite one
named : (xs : List Float) (p : ℕ) → finite_coordinates xs ≡ true → ltb p (length xs / 3) ≡ names_finite xs p
unfolding finite_atom finite_point point_at
named xs p f = go (dec_lt p (length xs / 3))
  where
    go : Dec (p < length xs / 3) → ltb p (length xs / 3) ≡ names_finite xs p
    go (yes l) = rw (lt-ltb p (length xs / 3) l, zero-add, coordinate-at xs f (p * 3) (omega arith), coordinate-at xs f (p * 3 + 1) (omega arith), coordinate-at xs f (p * 3 + 2) (omega arith))
    go (no m) = rw (le-ltb p (length xs / 3) (omega arith))

pub all-named : (xs : List Float) (ps : List ℕ) → finite_coordinates xs ≡ true → list_all (λ p. ltb p (length xs / 3)) ps ≡ all_finite xs ps
unfolding all_finite
all-named xs [] f = refl
all-named xs (p ∷ ps) f = ap₂ ◌&&◌ (named xs p f ∙ rw (atom-within (length xs) p, zero-add)) (all-named xs ps f)

-- ---- the starts' number: outside 1 .. 4,097 they are not sound, and inside the other tests decide
pub starts-outside : (starts : List ℕ) (n : ℕ) → (eqb (length starts) 0 || ltb (max_copies + 1) (length starts)) ≡ true → sound_starts starts n ≡ false
unfolding sound_starts
starts-outside starts n e = by-test (eqb (length starts) 0) (ltb (max_copies + 1) (length starts)) refl refl e
  where
    by-test : (a b : Bool) → eqb (length starts) 0 ≡ a → ltb (max_copies + 1) (length starts) ≡ b → (a || b) ≡ true → sound_starts starts n ≡ false
    by-test true b h k t = rw (le-ltb 0 (length starts) (omega (arith, eqb-true (length starts) 0 h)))
    by-test false true h k t =
        let many : max_copies + 1 < length starts = ltb-true (max_copies + 1) (length starts) k in
        rw (lt-ltb 0 (length starts) (omega arith), lt-leb (length starts) (max_copies + 1) many)
    by-test false false h k t = absurd (false≢true t)

pub starts-number : (m : ℕ) → (eqb m 0 || ltb (max_copies + 1) m) ≡ false → (0 < m) × (m ≤ max_copies + 1)
starts-number m e =
    let tests = neither (eqb m 0) (ltb (max_copies + 1) m) e in
    (omega (arith, eqb-false m 0 tests.0), ltb-false (max_copies + 1) m tests.1)

starts-inside : (starts : List ℕ) (n : ℕ) → 0 < length starts → length starts ≤ max_copies + 1 → sound_starts starts n ≡ (eqb (get_or starts 0 0) 0 && (rises starts && (eqb (get_or starts (copies starts) 0) n && leb n max_picks)))
unfolding sound_starts
starts-inside starts n some few = rw (lt-ltb 0 (length starts) some, le-leb (length starts) (max_copies + 1) few)

pub starts-rest : (starts : List ℕ) (n : ℕ) → (eqb (length starts) 0 || ltb (max_copies + 1) (length starts)) ≡ false → sound_starts starts n ≡ (eqb (get_or starts 0 0) 0 && (rises starts && (eqb (get_or starts (copies starts) 0) n && leb n max_picks)))
starts-rest starts n e = starts-inside starts n (starts-number (length starts) e).0 (starts-number (length starts) e).1

pub starts-sound : (starts : List ℕ) (n : ℕ) → 0 < length starts → length starts ≤ max_copies + 1 → get_or starts 0 0 ≡ 0 → rises starts ≡ true → get_or starts (copies starts) 0 ≡ n → n ≤ max_picks → sound_starts starts n ≡ true
starts-sound starts n some few first up last short =
    rw (starts-inside starts n some few, eq-eqb (get_or starts 0 0) 0 first, up, eq-eqb (get_or starts (copies starts) 0) n last, le-leb n max_picks short)

-- ---- the tests, number by number
rises-at : (l : List ℕ) → rises l ≡ true → (i : ℕ) → suc i < length l → get_or l i 0 < get_or l (suc i) 0
unfolding rises
rises-at [] r i h = absurd (omega arith)
rises-at (a ∷ []) r i h = absurd (omega arith)
rises-at (a ∷ b ∷ l) r zero h = ltb-true a b (both (ltb a b) (rises (b ∷ l)) r).0
rises-at (a ∷ b ∷ l) r (suc i) h = rises-at (b ∷ l) (both (ltb a b) (rises (b ∷ l)) r).1 i (le_of_suc-le-suc h)

rises-from : (l : List ℕ) → ((i : ℕ) → suc i < length l → get_or l i 0 < get_or l (suc i) 0) → rises l ≡ true
unfolding rises
rises-from [] f = refl
rises-from (a ∷ []) f = refl
rises-from (a ∷ b ∷ l) f = (and-eq-true_iff (ltb a b) (rises (b ∷ l))).1 (lt-ltb a b (f 0 (omega arith)), rises-from (b ∷ l) (λ i h. f (suc i) (suc-le-suc h)))

-- no number is above the last
rises-last : (a : ℕ) (l : List ℕ) → rises (a ∷ l) ≡ true → (i : ℕ) → i ≤ length l → get_or (a ∷ l) i 0 ≤ get_or (a ∷ l) (length l) 0
unfolding rises
rises-last a [] r zero h = omega arith
rises-last a [] r (suc i) h = absurd (omega arith)
rises-last a (b ∷ l) r zero h =
    let parts = both (ltb a b) (rises (b ∷ l)) r in
    omega (arith, ltb-true a b parts.0, rises-last b l parts.1 0 zero-le)
rises-last a (b ∷ l) r (suc i) h = rises-last b l (both (ltb a b) (rises (b ∷ l)) r).1 i (le_of_suc-le-suc h)

rises-end : (l : List ℕ) → rises l ≡ true → (i : ℕ) → i < length l → get_or l i 0 ≤ get_or l (length l - 1) 0
rises-end [] r i h = absurd (omega arith)
rises-end (a ∷ l) r i h =
    let e : suc (length l) - 1 ≡ length l = omega arith in
    rw e (rises-last a l r i (le_of_suc-le-suc h))

finite-at : (xs : List Float) (ps : List ℕ) → all_finite xs ps ≡ true → (j : ℕ) → j < length ps → (get_or ps j 0 * 3 + 2 < length xs) × (finite_atom xs (get_or ps j 0) ≡ true)
unfolding all_finite
finite-at xs [] e j h = absurd (omega arith)
finite-at xs (p ∷ ps) e zero h =
    let here = both (ltb (p * 3 + 2) (length xs)) (finite_atom xs p) (both (ltb (p * 3 + 2) (length xs) && finite_atom xs p) (all_finite xs ps) e).0 in
    (ltb-true (p * 3 + 2) (length xs) here.0, here.1)
finite-at xs (p ∷ ps) e (suc j) h = finite-at xs ps (both (ltb (p * 3 + 2) (length xs) && finite_atom xs p) (all_finite xs ps) e).1 j (le_of_suc-le-suc h)

finite-from : (xs : List Float) (ps : List ℕ) → ((j : ℕ) → j < length ps → (get_or ps j 0 * 3 + 2 < length xs) × (finite_atom xs (get_or ps j 0) ≡ true)) → all_finite xs ps ≡ true
unfolding all_finite
finite-from xs [] f = refl
finite-from xs (p ∷ ps) f =
    let here = f 0 (omega arith) in
    rw (lt-ltb (p * 3 + 2) (length xs) here.0, here.1) (finite-from xs ps (λ j h. f (suc j) (suc-le-suc h)))

-- ---- what sound pick lists have; the layers above read `picks[starts[i]..starts[i + 1]]` and the atoms there
pub record Lists (xs : List Float) (starts picks : List ℕ) : Type 0 where
  pub number : length starts ≡ copies starts + 1
  pub few : copies starts ≤ max_copies
  pub first : get_or starts 0 0 ≡ 0
  pub rises : (i : ℕ) → i < copies starts → get_or starts i 0 < get_or starts (i + 1) 0
  pub ends : (i : ℕ) → i ≤ copies starts → get_or starts i 0 ≤ length picks
  pub last : get_or starts (copies starts) 0 ≡ length picks
  pub short : length picks ≤ max_picks
  pub atoms : (j : ℕ) → j < length picks → get_or picks j 0 * 3 + 2 < length xs
  pub finite : (j : ℕ) → j < length picks → finite_atom xs (get_or picks j 0) ≡ true

pub sound-lists : (xs : List Float) (starts picks : List ℕ) → sound_lists xs starts picks ≡ true → Lists xs starts picks
unfolding sound_lists sound_starts
sound-lists xs starts picks e =
    let all = both (sound_starts starts (length picks)) (all_finite xs picks) e in
    let end = eqb (get_or starts (copies starts) 0) (length picks) && leb (length picks) max_picks in
    let tests = eqb (get_or starts 0 0) 0 && (rises starts && end) in
    let p1 = both (ltb 0 (length starts)) (leb (length starts) (max_copies + 1) && tests) all.0 in
    let p2 = both (leb (length starts) (max_copies + 1)) tests p1.1 in
    let p3 = both (eqb (get_or starts 0 0) 0) (rises starts && end) p2.1 in
    let p4 = both (rises starts) end p3.1 in
    let p5 = both (eqb (get_or starts (copies starts) 0) (length picks)) (leb (length picks) max_picks) p4.1 in
    let some : 0 < length starts = ltb-true 0 (length starts) p1.0 in
    let few : length starts ≤ max_copies + 1 = leb-true (length starts) (max_copies + 1) p2.0 in
    let last : get_or starts (length starts - 1) 0 ≡ length picks = eqb-true (get_or starts (length starts - 1) 0) (length picks) p5.0 in
    record {
      number = omega arith;
      few = omega arith;
      first = eqb-true (get_or starts 0 0) 0 p3.0;
      rises = λ i h. rw add-one (rises-at starts p4.0 i (omega arith));
      ends = λ i h. omega (arith, rises-end starts p4.0 i (omega arith));
      last = last;
      short = leb-true (length picks) max_picks p5.1;
      atoms = λ j h. (finite-at xs picks all.1 j h).0;
      finite = λ j h. (finite-at xs picks all.1 j h).1;
    }

pub lists-sound : (xs : List Float) (starts picks : List ℕ) → Lists xs starts picks → sound_lists xs starts picks ≡ true
unfolding sound_lists
lists-sound xs starts picks l =
    let up : rises starts ≡ true = rises-from starts (λ i h. rw add-one at (l.rises i (omega arith))) in
    rw (starts-sound starts (length picks) (omega (arith, l.number)) (omega (arith, l.few)) l.first up l.last l.short) (finite-from xs picks (λ j h. (l.atoms j h, l.finite j h)))
