-- `roots::even_root` meets its contract: the root of m cut to p + 1 digits gives both fields (`RootCut`). Assumes nothing.
use native.Mathlib.Omega.{arith}
use Rattle.floats.proofs.RootCut.{even-exponent, even-digits, even-lt}
use Rattle.roots.proofs.even_root.Goals as goal

pub overflow_add-result-2 : goal.overflow_add-result-2
overflow_add-result-2 c =
    let h = c.requires in
    omega (arith, even-lt c.args.p c.args.m c.args.t c.root-r.result h.0 h.1 h.2 h.3 h.5 c.root-r.ensures)

pub returns : goal.returns
returns c =
    let h = c.requires in (
      even-exponent c.args.p c.args.m c.args.t c.root-r.result h.0 h.1 h.2 h.3 h.5 c.root-r.ensures,
      even-digits c.args.p c.args.m c.args.t c.root-r.result h.0 h.1 h.2 h.3 h.5 c.root-r.ensures,
    )
