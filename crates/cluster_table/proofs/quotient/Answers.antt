-- `cluster_table::quotient` meets its contract: one division rounds once. Assumes nothing.
use mathlib.Core.Path.{refl}
use Rattle.cluster_table.specs.Fractions.{ratio}
use Rattle.cluster_table.proofs.quotient.Goals as goal

pub returns : goal.returns
unfolding ratio
returns c = refl
