-- `divide` meets its contract: a node that visits no octant keeps its lists, another has both arranged. Assumes nothing.
use native.Mathlib.Omega.{arith}
use mathlib.Core.Path.{◌≡◌, sym, ◌∙◌}
use Rattle.division.proofs.Dividing.{octants-eight, undivided, divided}
use Rattle.division.proofs.divide.Goals as goal

pub returns-then-left-eq0 : goal.returns-then-left-eq0
returns-then-left-eq0 c = record { is = sym c.if-left-eq0.true ∙ c.octants-left.ensures.is; small = omega arith; deep = λ h. absurd (omega arith); centers = undivided _ _ _ _ c.requires.sortable.fresh; waters = undivided _ _ _ _ c.requires.sortable_2.fresh }

pub returns : goal.returns
returns c =
    let e : c.octants-left.result ≡ 8 = c.octants-left.ensures.is ∙ octants-eight _ _ _ (λ z. c.if-left-eq0.false (c.octants-left.ensures.is ∙ z)) in
    record { is = c.octants-left.ensures.is; small = c.octants-left.ensures.small; deep = c.octants-left.ensures.deep; centers = divided _ _ _ _ _ _ e c.arrange.ensures; waters = divided _ _ _ _ _ _ e c.arrange-2.ensures }
