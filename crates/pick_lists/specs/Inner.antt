-- What only contracts of inner functions cite. Definitions only. Assumes nothing.
use Rattle.std.specs.Prelude.{Bool, List, Float}
use Rattle.std.specs.List.{list_all}
use Rattle.std.specs.Float.Ieee.Scale.{finite}

-- every coordinate is finite
abbrev pub finite_coordinates : List Float → Bool
finite_coordinates = list_all finite
