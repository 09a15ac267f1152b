-- `listing::put_refused` meets its contract: a word and a number, if there is room for the line. Assumes nothing.
use mathlib.Core.Path.{refl}
use mathlib.Core.Bool.{false}
use mathlib.Core.List.{List, [], ◌∷◌}
use Prim.Native.Nat.{ℕ, ◌≤◌}
use native.Mathlib.Omega.{arith}
use lib.ListN.{length, length-append}
use Rattle.text.specs.Text.{ascii, decimal}
use Rattle.listing.specs.Listing.{refused_text}
use Rattle.listing.proofs.Lengths.{length-decimal, length-refused}
use Rattle.listing.proofs.Words.{words-first, words-next, words_last}
use Rattle.listing.proofs.Answers.{cramped-room, written-room}
use Rattle.listing.proofs.put_refused.Goals as goal

abbrev words : ℕ → List (List ℕ)
words n = ascii "refused" ∷ decimal n ∷ []

pub returns-then-out-decimal_places : goal.returns-then-out-decimal_places
returns-then-out-decimal_places c = cramped-room false _ _ (omega (arith, length-refused c.args.n))

pub put_number-requires : goal.put_number-requires
put_number-requires c = omega (arith, length-append {A = ℕ}, length-decimal c.args.n)

pub returns : goal.returns
unfolding refused_text
returns c =
    let a = c.args in
    let roomy : length (refused_text a.n) ≤ length a.out.now = omega (arith, length-refused a.n) in
    let one = words-next (omega arith) (words-first {at = 0} (words a.n) a.out.now (omega (arith, roomy))) c.put_text-word.ensures in
    written-room false (refused_text a.n) a.out.now refl roomy (words_last refl one c.put_number.ensures)
