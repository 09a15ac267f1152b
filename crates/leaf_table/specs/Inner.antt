-- What only inner contracts cite: nodes read back from the node tables. Definitions only. Assumes nothing.
use Rattle.std.specs.Prelude.{List, [], ◌∷◌, ℕ, zero, suc, ◌+◌, ◌*◌, get_or, Float}
use Rattle.cell.specs.Cell.{point_at}
use Rattle.bounds.specs.Bounds.{box_between}
use Rattle.nodes.specs.Nodes.{Node}

-- node i: its words, and the box between its two corners, with center and extent worked out again
unfoldable pub node_at : List ℕ → List Float → ℕ → Node
unfolding point_at
node_at records boxes i =
    record {
      depth = get_or records (i * 8) 0;
      first_center = get_or records (i * 8 + 1) 0;
      centers = get_or records (i * 8 + 2) 0;
      first_water = get_or records (i * 8 + 3) 0;
      waters = get_or records (i * 8 + 4) 0;
      children = get_or records (i * 8 + 5) 0;
      after = get_or records (i * 8 + 6) 0;
      box = box_between (point_at boxes (i * 2)) (point_at boxes (i * 2 + 1));
    }

-- n nodes from node i on
unfoldable pub nodes_from : List ℕ → List Float → ℕ → ℕ → List Node
unfolding node_at
nodes_from records boxes zero i = []
nodes_from records boxes (suc n) i = node_at records boxes i ∷ nodes_from records boxes n (i + 1)
