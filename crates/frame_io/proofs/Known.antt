-- What a reader had left is the input that the buffer holds after it was read into it. Assumes nothing.
use Rattle.std.proofs.Common.{◌≡◌, ℕ, ◌<◌, ◌≤◌, List, [], ◌++◌, None, Some, IfSome, length, take, sym, ap, ◌∙◌, arith, append-nil, length-take-le, take_all, take_at}
use native.Mathlib.Decide.{dec_le}
use Rattle.std.specs.declared.option.Option.{Option}
use Rattle.std.specs.Io.KnownBytes.{Consumes, IsAtEnd}
use Rattle.frame_io.specs.Input.{Holds}

holds : (buffer : List ℕ) (n : ℕ) (s rest : List ℕ) → n ≤ length buffer → s ≡ take n buffer ++ rest → (n < length buffer → rest ≡ []) → Holds buffer n s
holds buffer n s rest within split end = by_room (dec_le (length buffer) n)
  where
    by_room : Dec (length buffer ≤ n) → take n buffer ≡ take (length buffer) s
    by_room (yes full) =
        let long : length (take n buffer) ≡ length buffer = omega (arith, length-take-le n buffer within) in
        sym (ap (take (length buffer)) split ∙ take_at (take n buffer) rest (length buffer) long)
    by_room (no more) =
        let whole = split ∙ ap (λ l. take n buffer ++ l) (end (omega arith)) ∙ append-nil (take n buffer) in
        let long : length (take n buffer) ≤ length buffer = omega (arith, length-take-le n buffer within) in
        sym (ap (take (length buffer)) whole ∙ take_all (length buffer) (take n buffer) long)

pub of_input : (a b : Option (List ℕ)) (buffer : List ℕ) (n : ℕ) (P : List ℕ → Type 0) → n ≤ length buffer → Consumes a b (take n buffer)
    → (n < length buffer → IsAtEnd b) → ((s : List ℕ) → Holds buffer n s → P s) → IfSome a P
of_input None b buffer n P within read end h = tt
of_input (Some x) None buffer n P within read end h = absurd read
of_input (Some x) (Some y) buffer n P within read end h = h x (holds buffer n x y within read end)
