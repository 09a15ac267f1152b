-- Copies whose boxes in the span table are kept apart do not touch, by gates or by the gates of many turns. Assumes nothing.
use mathlib.Core.Path.{◌≡◌}
use mathlib.Core.Bool.{true, false}
use mathlib.Core.List.{List}
use Prim.Native.Nat.{ℕ, ◌<◌}
use lib.Ieee.{Float}
use Rattle.cell.specs.Cell.{extent_of}
use Rattle.pick_lists.specs.Sound.{sound_lists, copies}
use Rattle.pick_lists.specs.Input.{Input}
use Rattle.touch.specs.Touch.{copies_touch}
use Rattle.gates.specs.Inner.{tested}
use Rattle.spans.proofs.Between.{apart-copies, gates-tests, turns-tests}
use Rattle.span_table.specs.declared.Marks.{Marks}
use Rattle.span_table.specs.declared.Marks.TheVariants.{Gates, Turns}
use Rattle.span_table.specs.Inner.{span_at, Spans, SureMarks, apart_marks}

pub marked-apart : (f : Input) (k : Float) (g : Marks) (t : List Float) (i j : ℕ) → sound_lists f.solutes f.starts f.picks ≡ true → tested f.cell k f.solutes ≡ true
    → SureMarks k (extent_of f.cell) g → Spans f.solutes f.starts f.picks t → i < copies f.starts → j < copies f.starts
    → apart_marks g (span_at t (copies f.starts) i) (span_at t (copies f.starts) j) ≡ true → copies_touch f k i j ≡ false
unfolding apart_marks
marked-apart f k (Gates g) t i j sound h is S li lj = apart-copies f k _ _ _ i j _ _ sound h (gates-tests f.cell k f.solutes h g is) li lj (S i li) (S j lj)
marked-apart f k (Turns g) t i j sound h sure S li lj = apart-copies f k _ _ _ i j _ _ sound h (turns-tests f.cell k f.solutes h g sure) li lj (S i li) (S j lj)
