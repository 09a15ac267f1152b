-- `listing::lines::put_lines` meets its contract: the lines one after the other, each written where the one before ends. Assumes nothing.
use mathlib.Core.List.{List}
use Prim.Native.Nat.{ℕ, ◌≤◌}
use native.Mathlib.Omega.{arith}
use lib.ListN.{length}
use Rattle.listing.specs.Listing.{listing_text}
use Rattle.base.proofs.Filling.{Filling, filling-first}
use Rattle.listing.proofs.Pieces.{piece, last-piece}
use Rattle.listing.proofs.lines.put_lines.Goals as goal

begun : (text : List ℕ) {out : List ℕ} → length text ≤ length out → Filling 0 text out 0 text out
begun text h = filling-first (omega arith)

pub returns : goal.returns
unfolding listing_text
returns c =
    let one = piece _ _ (begun _ c.requires.1) c.put_clusters-first.ensures in
    let two = piece _ _ one c.put_dispersion-second.ensures in
    let three = piece _ _ two c.put_nodes-third.ensures in
    let four = piece _ _ three c.put_leaves-fourth.ensures in
    last-piece four c.put_dry.ensures
