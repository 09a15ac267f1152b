-- A read fills on where the last one stopped.
use Rattle.std.proofs.Common.{◌≡◌, ℕ, ◌+◌, ◌-◌, ◌≤◌, List, ◌++◌, rules, length, take, drop, sym, ap, ◌∙◌, subst, le_refl, drop_at, length-take-le}
use Rattle.std.proofs.lemmas.Slice.{take-put_mid_below}
use Rattle.std.specs.Io.KnownBytes.{Consumes}
use Rattle.std.proofs.KnownBytes.{Consumes-trans}
use borrow.Rule.Slice.PartMut.{put_mid, post_of}
use lib.Seq.{take-add, take-append-le}
use Rattle.input.proofs.read_full.Goals as goal

-- the first `from` bytes and the n that were put after them
put_after : (from k n : ℕ) (xs ys : List ℕ) → from ≤ length xs → n ≤ length ys → take from xs ++ take n ys ≡ take (from + n) (put_mid from k xs ys)
put_after from k n xs ys within fits =
    let rest = ys ++ post_of from k xs in
    let after = ap (take n) (drop_at (take from xs) rest from (length-take-le from xs within)) ∙ take-append-le n ys (post_of from k xs) fits in
    let front = take-put_mid_below _ _ _ _ _ (le_refl from) within in
    let all = put_mid from k xs ys in
    ap (λ l. take from xs ++ l) (sym after) ∙ ap (λ l. l ++ take n (drop from all)) (sym front) ∙ sym (take-add from n (put_mid from k xs ys))

pub loop-done-preserved : goal.loop-done-preserved
loop-done-preserved g c =
    let read = c.in_ok-n.ensures in
    let (same, within, before) = c.loop-done.invariant in
    let joined = put_after c.loop-done.done (length c.loop-done.buf - c.loop-done.done) c.in_ok-n.n c.loop-done.buf c.read.new.buf within read.bound.0 in
    (search rules, search rules, subst (Consumes _ _) joined (Consumes-trans _ _ _ _ _ before read.bytes.0))
