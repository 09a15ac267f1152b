-- Nodes read back from the node tables of a tree are its nodes. Assumes nothing.
use mathlib.Core.Path.{◌≡◌, refl, sym, ap, ◌∙◌}
use mathlib.Core.List.{List, [], ◌∷◌, ◌++◌}
use Prim.Native.Nat.{ℕ, ◌+◌, ◌*◌}
use native.Mathlib.Nat.{add-zero}
use native.Mathlib.Omega.{arith}
use lib.ListN.{length, get_or, drop}
use lib.Seq.{get_or-drop, drop-drop}
use lib.Ieee.{Float, nan}
use Rattle.cell.specs.Cell.{point_at}
use Rattle.base.specs.Tables.{over}
use Rattle.bounds.specs.Bounds.{box_between}
use Rattle.nodes.specs.Nodes.{Node, record_of, corners_of, records_of, boxes_of}
use Rattle.leaf_table.specs.Inner.{node_at, nodes_from}
use Rattle.report.proofs.NodeBoxes.{Boxed, no-box, one-box, Between}

-- entry j of a list from entry i on
ahead : {A : Type 0} (l r : List A) (i j : ℕ) (d : A) → drop i l ≡ r → get_or l (i + j) d ≡ get_or r j d
ahead l r i j d e = sym (get_or-drop i l j d) ∙ ap (λ (x : List _). get_or x j d) e

-- a node by its words and its box
node-same :
    (v : Node) (d fc nc fw nw k a : ℕ) (lx ly lz hx hy hz : Float) → Between v.box → d ≡ v.depth → fc ≡ v.first_center → nc ≡ v.centers → fw ≡ v.first_water → nw ≡ v.waters →
    k ≡ v.children → a ≡ v.after → lx ≡ v.box.low.x → ly ≡ v.box.low.y → lz ≡ v.box.low.z → hx ≡ v.box.high.x → hy ≡ v.box.high.y → hz ≡ v.box.high.z →
    ◌≡◌ {A = Node}
    (record {
      depth = d;
      first_center = fc;
      centers = nc;
      first_water = fw;
      waters = nw;
      children = k;
      after = a;
      box = box_between (record { x = lx; y = ly; z = lz }) (record { x = hx; y = hy; z = hz });
    })
    v
node-same v d fc nc fw nw k a lx ly lz hx hy hz b e0 e1 e2 e3 e4 e5 e6 x0 x1 x2 x3 x4 x5 =
    rw (e0, e1, e2, e3, e4, e5, e6, x0, x1, x2, x3, x4, x5)
    (ap (λ (q : _). record { depth = v.depth; first_center = v.first_center; centers = v.centers; first_water = v.first_water; waters = v.waters; children = v.children; after = v.after; box = q }) (sym b))

node-back :
    (R : List ℕ) (X : List Float) (i : ℕ) (v : Node) (r : List ℕ) (x : List Float) → Between v.box →
    drop (i * 8) R ≡ record_of v ++ r → drop (i * 6) X ≡ corners_of v.box ++ x → node_at R X i ≡ v
unfolding node_at point_at
node-back R X i v r x b e f =
    let w : (j : ℕ) → get_or R (i * 8 + j) 0 ≡ get_or (record_of v ++ r) j 0 = λ j. ahead R (record_of v ++ r) (i * 8) j 0 e in
    let q : (j : ℕ) → get_or X (i * 6 + j) nan ≡ get_or (corners_of v.box ++ x) j nan = λ j. ahead X (corners_of v.box ++ x) (i * 6) j nan f in
    let at0 : i * 2 * 3 ≡ i * 6 + 0 = omega arith in
    let at1 : i * 2 * 3 + 1 ≡ i * 6 + 1 = omega arith in
    let at2 : i * 2 * 3 + 2 ≡ i * 6 + 2 = omega arith in
    let at3 : (i * 2 + 1) * 3 ≡ i * 6 + 3 = omega arith in
    let at4 : (i * 2 + 1) * 3 + 1 ≡ i * 6 + 4 = omega arith in
    let at5 : (i * 2 + 1) * 3 + 2 ≡ i * 6 + 5 = omega arith in
    let to : (n j : ℕ) → n ≡ i * 6 + j → get_or X n nan ≡ get_or (corners_of v.box ++ x) j nan = λ n j h. ap (λ (k : ℕ). get_or X k nan) h ∙ q j in
    node-same v _ _ _ _ _ _ _ _ _ _ _ _ _ b
    (ap (λ (k : ℕ). get_or R k 0) (sym (add-zero (i * 8))) ∙ w 0) (w 1) (w 2) (w 3) (w 4) (w 5) (w 6)
    (to (i * 2 * 3) 0 at0) (to (i * 2 * 3 + 1) 1 at1) (to (i * 2 * 3 + 2) 2 at2)
    (to ((i * 2 + 1) * 3) 3 at3) (to ((i * 2 + 1) * 3 + 1) 4 at4) (to ((i * 2 + 1) * 3 + 2) 5 at5)

nodes-back :
    (R : List ℕ) (X : List Float) (i : ℕ) (vs : List Node) (r : List ℕ) (x : List Float) → Boxed Between vs →
    drop (i * 8) R ≡ records_of vs ++ r → drop (i * 6) X ≡ boxes_of vs ++ x → nodes_from R X (length vs) i ≡ vs
unfolding nodes_from records_of boxes_of
nodes-back R X i [] r x no-box e f = refl
nodes-back R X i (v ∷ vs) r x (one-box b bs) e f =
    let at8 : (i + 1) * 8 ≡ i * 8 + 8 = omega arith in
    let at6 : (i + 1) * 6 ≡ i * 6 + 6 = omega arith in
    let e' : drop ((i + 1) * 8) R ≡ records_of vs ++ r = ap (λ (k : ℕ). drop k R) at8 ∙ sym (drop-drop 8 (i * 8) R) ∙ ap (drop 8) e in
    let f' : drop ((i + 1) * 6) X ≡ boxes_of vs ++ x = ap (λ (k : ℕ). drop k X) at6 ∙ sym (drop-drop 6 (i * 6) X) ∙ ap (drop 6) f in
    rw (node-back R X i v (records_of vs ++ r) (boxes_of vs ++ x) b e f, nodes-back R X (i + 1) vs r x bs e' f')

-- the node tables of nodes vs, written over the tables R and X
pub read_back : (vs : List Node) (R : List ℕ) (X : List Float) → Boxed Between vs → nodes_from (over (records_of vs) R) (over (boxes_of vs) X) (length vs) 0 ≡ vs
unfolding over
read_back vs R X b = nodes-back (records_of vs ++ drop (length (records_of vs)) R) (boxes_of vs ++ drop (length (boxes_of vs)) X) 0 vs _ _ b refl refl
