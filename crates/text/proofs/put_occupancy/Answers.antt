-- `text::put_occupancy` meets its contract, by the definition's two cases. Assumes nothing.
use mathlib.Core.Path.{◌≡◌}
use Prim.Native.Nat.{ℕ}
use borrow.Author.Tests.{eq-eqb, ne_eqb}
use Rattle.text.specs.Text.{ascii, hex, occupancy}
use Rattle.text.proofs.put_occupancy.Goals as goal

dry : (w : ℕ) → w ≡ 0 → occupancy w ≡ ascii "dry"
unfolding occupancy
dry w e = rw (eq-eqb w 0 e)

wet : (w : ℕ) → (w ≡ 0 → ⊥) → occupancy w ≡ hex w
unfolding occupancy
wet w e = rw (ne_eqb w 0 e)

pub put_text-requires : goal.put_text-requires
put_text-requires c = rw (dry _ c.if-w-eq0.true) at c.requires

pub returns-then-w-eq0 : goal.returns-then-w-eq0
returns-then-w-eq0 c = rw (dry _ c.if-w-eq0.true) c.put_text.ensures

pub put_word-requires : goal.put_word-requires
put_word-requires c = rw (wet _ c.if-w-eq0.false) at c.requires

pub returns : goal.returns
returns c = rw (wet _ c.if-w-eq0.false) c.put_word.ensures
