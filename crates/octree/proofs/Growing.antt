-- The octant loop of `build`, on lists alone: what holds at each turn (`Growing`), and its steps. Assumes nothing.
use mathlib.Core.Path.{◌≡◌, refl, sym, ap, ◌∙◌}
use mathlib.Core.List.{List, [], ◌∷◌, ◌++◌, append_assoc}
use Prim.Native.Nat.{ℕ, suc, ◌+◌, ◌-◌, ◌*◌, ◌≤◌, ◌<◌, max}
use native.Mathlib.Nat.{add-zero}
use native.Mathlib.Omega.{arith}
use lib.ListN.{length, get_or, length-append}
use lib.Ieee.{Float}
use Rattle.std.specs.Prelude.{Option}
use Rattle.base.specs.Tables.{placed}
use Rattle.bounds.specs.declared.OctreeBounds.{OctreeBounds}
use Rattle.octree.specs.declared.TreeSize.{TreeSize}
use Rattle.bounds.specs.Bounds.{child_of}
use Rattle.octants.specs.Octants.{octant_points}
use Rattle.octree.specs.Tree.{Subtrees, Builder, none, join, where_some, children_from}
use Rattle.nodes.specs.Nodes.{deepest, records_of, boxes_of}
use Rattle.octants.specs.Inner.{lists_from, by_octant}
use Rattle.division.specs.Inner.{unsplit, Divided}
use Rattle.octree.specs.Inner.{Filled}
use Rattle.octree.proofs.Stretches.{Next, stretch, stretch_put, child-within, child-order, child-length}
use Rattle.base.proofs.Placing.{placed-none, placed-next}
use Rattle.nodes.proofs.NodeTables.{records-append, boxes-append, records-length, boxes-length, deepest-append}
use Rattle.octree.proofs.Children.{below, join-none, join-assoc, no-points, some-points}

-- what stays through the loop: the node's number, depth and box, its first center and water, the room, the lists and tables as they were
pub record Site : Type 0 where
  pub C : List Float
  pub W : List Float
  pub go : Builder
  pub b : OctreeBounds
  pub at : ℕ
  pub depth : ℕ
  pub fc : ℕ
  pub fw : ℕ
  pub room : ℕ
  pub turns : ℕ
  pub cs₀ : List ℕ
  pub ws₀ : List ℕ
  pub rec₀ : List ℕ
  pub box₀ : List Float

-- what each turn changes: octants left, next node, greatest depth, children, centers and waters that children have, the lists and tables
pub record Turn : Type 0 where
  pub left : ℕ
  pub next : ℕ
  pub deep : ℕ
  pub kids : ℕ
  pub ca : ℕ
  pub wa : ℕ
  pub cs : List ℕ
  pub ws : List ℕ
  pub rec : List ℕ
  pub box : List Float

-- what stands below the node
abbrev pub whole_of : Site → Subtrees
whole_of S = below S.C S.W S.go S.turns (S.at + 1) S.fc S.fw S.b S.cs₀ S.ws₀

-- the points of octant o
abbrev pub here_c : Site → ℕ → List ℕ
here_c S o = octant_points S.C S.b.center o S.cs₀

abbrev pub here_w : Site → ℕ → List ℕ
here_w S o = octant_points S.W S.b.center o S.ws₀

-- what the last `left` octants still add, and the rest of the lists, behind what is arranged
abbrev pub later : Site → ℕ → ℕ → ℕ → ℕ → Subtrees
later S left at fc fw =
    join (children_from S.C S.W S.go left at fc fw S.b S.cs₀ S.ws₀) (none (unsplit S.turns S.cs₀) (unsplit S.turns S.ws₀))

abbrev pub later_c : Site → ℕ → List ℕ
later_c S left = lists_from (by_octant S.C S.b.center S.cs₀) left ++ unsplit S.turns S.cs₀

abbrev pub later_w : Site → ℕ → List ℕ
later_w S left = lists_from (by_octant S.W S.b.center S.ws₀) left ++ unsplit S.turns S.ws₀

-- the children so far (`done`) and those of the octants to come, joined, are all that stands below the node
pub record Growing (S : Site) (T : Turn) : Type 0 where
  pub done : Subtrees
  pub total : join done (later S T.left T.next (S.fc + T.ca) (S.fw + T.wa)) ≡ whole_of S
  pub order-c : T.cs ≡ done.center_order ++ later_c S T.left
  pub order-w : T.ws ≡ done.water_order ++ later_w S T.left
  pub at_c : T.ca ≡ length done.center_order
  pub at-w : T.wa ≡ length done.water_order
  pub roots-is : T.kids ≡ done.roots
  pub count : T.next ≡ S.at + 1 + length done.nodes
  pub deep_is : T.deep ≡ max S.depth (deepest done.nodes)
  pub table : T.rec ≡ placed ((S.at + 1) * 8) (records_of done.nodes) S.rec₀
  pub corners : T.box ≡ placed ((S.at + 1) * 6) (boxes_of done.nodes) S.box₀
  pub within : T.next ≤ S.room

-- ---- the first turn
pub begin : (S : Site) (left : ℕ) (cs ws : List ℕ) → left ≡ S.turns → S.at + 1 ≤ S.room → cs ≡ later_c S S.turns → ws ≡ later_w S S.turns
    → Growing S (record { left = left; next = S.at + 1; deep = S.depth; kids = 0; ca = 0; wa = 0; cs = cs; ws = ws; rec = S.rec₀; box = S.box₀ })
unfolding records_of boxes_of deepest
begin S left cs ws e h p q =
    rw e
    (record {
      done = none [] [];
      total = join-none _ ∙ simp add-zero;
      order-c = p;
      order-w = q;
      at_c = refl;
      at-w = refl;
      roots-is = refl;
      count = omega arith;
      deep_is = omega arith;
      table = sym (placed-none ((S.at + 1) * 8) S.rec₀);
      corners = sym (placed-none ((S.at + 1) * 6) S.box₀);
      within = h;
    })

-- ---- one octant
-- at its turn octant o has nc centers and nw waters; l octants are left
pub record Visited (S : Site) (T : Turn) (l o nc nw : ℕ) : Type 0 where
  pub one_less : T.left ≡ suc l
  pub octant-is : o ≡ 7 - l
  pub count-c : nc ≡ length (here_c S o)
  pub count-w : nw ≡ length (here_w S o)

-- from what `divide` left of the lists and of the counts
pub visited : {S : Site} {T : Turn} {cs ws nc nw : List ℕ} → Divided S.C S.b.center S.turns S.cs₀ cs nc → Divided S.W S.b.center S.turns S.ws₀ ws nw
    → (o : ℕ) → o < 8 → 0 < S.turns → T.left ≡ 8 - o → Visited S T (8 - (o + 1)) o (get_or nc o 0) (get_or nw o 0)
visited c w o h t e =
    record {
      one_less = omega arith;
      octant-is = omega arith;
      count-c = c.count t o h;
      count-w = w.count t o h;
    }

lists-next : (f : ℕ → List ℕ) (left l o : ℕ) (t : List ℕ) → left ≡ suc l → o ≡ 7 - l → lists_from f left ++ t ≡ f o ++ (lists_from f l ++ t)
unfolding lists_from
lists-next f left l o t e k = rw (e, k) (append_assoc (f (7 - l)) (lists_from f l) t)

module _ (S : Site) (left l o at fc fw : ℕ) (e : left ≡ suc l) (k : o ≡ 7 - l) where
  children-next : children_from S.C S.W S.go left at fc fw S.b S.cs₀ S.ws₀
      ≡ join (where_some S.go at fc fw (child_of S.b o) (here_c S o) (here_w S o))
      (children_from S.C S.W S.go l (at + length (where_some S.go at fc fw (child_of S.b o) (here_c S o) (here_w S o)).nodes)
      (fc + length (here_c S o)) (fw + length (here_w S o)) S.b S.cs₀ S.ws₀)
  unfolding children_from
  children-next = rw (e, k) refl

  -- an octant without points
  children-skip : length (here_c S o) ≡ 0 → length (here_w S o) ≡ 0
      → children_from S.C S.W S.go left at fc fw S.b S.cs₀ S.ws₀ ≡ children_from S.C S.W S.go l at fc fw S.b S.cs₀ S.ws₀
  children-skip p q = children-next ∙ rw (no-points S.go at fc fw (child_of S.b o) (here_c S o) (here_w S o) (omega arith), p, q) (join-none _ ∙ simp add-zero)

  later-skip : length (here_c S o) ≡ 0 → length (here_w S o) ≡ 0 → later S left at fc fw ≡ later S l at fc fw
  later-skip p q = ap (λ (g : Subtrees). join g (none (unsplit S.turns S.cs₀) (unsplit S.turns S.ws₀))) (children-skip p q)

  -- an octant with points
  module _ (n fc' fw' : ℕ) (h : length (here_c S o) + length (here_w S o) ≡ 0 → ⊥)
      (p : n ≡ at + length (S.go at fc fw (child_of S.b o) (here_c S o) (here_w S o)).nodes)
      (q : fc' ≡ fc + length (here_c S o)) (r : fw' ≡ fw + length (here_w S o)) where
    children-some : children_from S.C S.W S.go left at fc fw S.b S.cs₀ S.ws₀
        ≡ join (S.go at fc fw (child_of S.b o) (here_c S o) (here_w S o)) (children_from S.C S.W S.go l n fc' fw' S.b S.cs₀ S.ws₀)
    children-some = children-next ∙ rw (some-points S.go at fc fw (child_of S.b o) (here_c S o) (here_w S o) h, p, q, r) refl

    later-some : later S left at fc fw ≡ join (S.go at fc fw (child_of S.b o) (here_c S o) (here_w S o)) (later S l n fc' fw')
    later-some =
        ap (λ (g : Subtrees). join g (none (unsplit S.turns S.cs₀) (unsplit S.turns S.ws₀))) children-some
        ∙ join-assoc (S.go at fc fw (child_of S.b o) (here_c S o) (here_w S o)) (children_from S.C S.W S.go l n fc' fw' S.b S.cs₀ S.ws₀) _

length-zero : {A : Type 0} (l : List A) → length l ≡ 0 → l ≡ []
length-zero [] e = refl
length-zero (x ∷ l) e = absurd (let z : ◌≡◌ {A = ℕ} (suc (length l)) 0 = e in omega arith)

-- the subtree of the octant
abbrev pub child_tree : (S : Site) (T : Turn) → ℕ → Subtrees
child_tree S T o = S.go T.next (S.fc + T.ca) (S.fw + T.wa) (child_of S.b o) (here_c S o) (here_w S o)

module _ {S : Site} {T : Turn} (z : Growing S T) {l o nc nw : ℕ} (v : Visited S T l o nc nw) where
  -- the octant's stretches of the order lists
  pub next-c : Next z.done.center_order (here_c S o) (later_c S l) T.cs T.ca nc
  next-c =
      record {
        split = z.order-c ∙ ap (λ (x : List ℕ). z.done.center_order ++ x) (lists-next (by_octant S.C S.b.center S.cs₀) T.left l o _ v.one_less v.octant-is);
        start = z.at_c;
        count = v.count-c;
      }

  pub next-w : Next z.done.water_order (here_w S o) (later_w S l) T.ws T.wa nw
  next-w =
      record {
        split = z.order-w ∙ ap (λ (x : List ℕ). z.done.water_order ++ x) (lists-next (by_octant S.W S.b.center S.ws₀) T.left l o _ v.one_less v.octant-is);
        start = z.at-w;
        count = v.count-w;
      }

  pub both-within : (T.ca + nc ≤ length T.cs) × (T.wa + nw ≤ length T.ws)
  both-within = (child-within next-c, child-within next-w)

  pub step-empty : nc + nw ≡ 0
      → Growing S (record { left = l; next = T.next; deep = T.deep; kids = T.kids; ca = T.ca; wa = T.wa; cs = T.cs; ws = T.ws; rec = T.rec; box = T.box })
  step-empty h =
      let lc : length (here_c S o) ≡ 0 = omega (arith, v.count-c) in
      let lw : length (here_w S o) ≡ 0 = omega (arith, v.count-w) in
      record {
        done = z.done;
        total = ap (join z.done) (sym (later-skip S T.left l o T.next (S.fc + T.ca) (S.fw + T.wa) v.one_less v.octant-is lc lw)) ∙ z.total;
        order-c = next-c.split ∙ ap (λ (x : List ℕ). z.done.center_order ++ (x ++ later_c S l)) (length-zero (here_c S o) lc);
        order-w = next-w.split ∙ ap (λ (x : List ℕ). z.done.water_order ++ (x ++ later_w S l)) (length-zero (here_w S o) lw);
        at_c = z.at_c;
        at-w = z.at-w;
        roots-is = z.roots-is;
        count = z.count;
        deep_is = z.deep_is;
        table = z.table;
        corners = z.corners;
        within = z.within;
      }

  module _ (some : nc + nw ≡ 0 → ⊥) where
    follow : (n : ℕ) → n ≡ T.next + length (child_tree S T o).nodes
        → join z.done (join (child_tree S T o) (later S l n (S.fc + (T.ca + nc)) (S.fw + (T.wa + nw)))) ≡ whole_of S
    follow n a =
        ap (join z.done)
        (sym (later-some S T.left l o T.next (S.fc + T.ca) (S.fw + T.wa) v.one_less v.octant-is n (S.fc + (T.ca + nc)) (S.fw + (T.wa + nw))
        (λ y. some (omega (arith, v.count-c, v.count-w))) a (omega (arith, v.count-c)) (omega (arith, v.count-w))))
        ∙ z.total

    -- where the child has no room, the node has none
    pub child-full : S.room < T.next + length (child_tree S T o).nodes → S.room < S.at + suc (length (whole_of S).nodes)
    child-full h =
        let N = (child_tree S T o).nodes in
        let R = later S l (T.next + length N) (S.fc + (T.ca + nc)) (S.fw + (T.wa + nw)) in
        let t : length (z.done.nodes ++ (N ++ R.nodes)) ≡ length (whole_of S).nodes = ap (λ (g : Subtrees). length g.nodes) (follow (T.next + length N) refl) in
        omega (arith, t, length-append z.done.nodes (N ++ R.nodes), length-append N R.nodes, z.count)

    -- the child answered r, and left zc, zw, rec' and box'
    pub step-child : {r : Option TreeSize} {zc zw rec' : List ℕ} {box' : List Float} (n d : ℕ)
        → Filled (child_tree S T o) T.next r zc zw T.rec rec' T.box box' → n ≡ T.next + length (child_tree S T o).nodes
        → d ≡ max T.deep (deepest (child_tree S T o).nodes) → n ≤ S.room → (child_tree S T o).roots ≡ 1
        → S.room * 8 ≤ length S.rec₀ → S.room * 6 ≤ length S.box₀
        → length zc ≡ length (stretch T.ca nc T.cs) → length zw ≡ length (stretch T.wa nw T.ws)
        → Growing S (record {
          left = l;
          next = n;
          deep = d;
          kids = T.kids + 1;
          ca = T.ca + nc;
          wa = T.wa + nw;
          cs = stretch_put T.ca nc T.cs zc;
          ws = stretch_put T.wa nw T.ws zw;
          rec = rec';
          box = box';
        })
    step-child {r} {zc} {zw} {rec'} {box'} n d f a q h one rr rb lc lw =
        let D = z.done in
        let N = child_tree S T o in
        record {
          done = join D N;
          total = join-assoc D N _ ∙ follow n a;
          order-c = child-order next-c zc N.center_order f.order-c ∙ sym (append_assoc D.center_order N.center_order (later_c S l));
          order-w = child-order next-w zw N.water_order f.order-w ∙ sym (append_assoc D.water_order N.water_order (later_w S l));
          at_c = omega (arith, length-append D.center_order N.center_order, z.at_c, child-length next-c zc N.center_order f.order-c lc);
          at-w = omega (arith, length-append D.water_order N.water_order, z.at-w, child-length next-w zw N.water_order f.order-w lw);
          roots-is = omega (arith, z.roots-is);
          count = omega (arith, length-append D.nodes N.nodes, z.count);
          deep_is = omega (arith, deepest-append D.nodes N.nodes, z.deep_is);
          table =
              f.table ∙ ap (placed (T.next * 8) (records_of N.nodes)) z.table
              ∙ placed-next S.rec₀ (records_of D.nodes) (records_of N.nodes) ((S.at + 1) * 8) (T.next * 8) (omega (arith, records-length D.nodes, z.count)) (omega (arith, records-length N.nodes))
              ∙ ap (λ (x : List ℕ). placed ((S.at + 1) * 8) x S.rec₀) (sym (records-append D.nodes N.nodes));
          corners =
              f.corners ∙ ap (placed (T.next * 6) (boxes_of N.nodes)) z.corners
              ∙ placed-next S.box₀ (boxes_of D.nodes) (boxes_of N.nodes) ((S.at + 1) * 6) (T.next * 6) (omega (arith, boxes-length D.nodes, z.count)) (omega (arith, boxes-length N.nodes))
              ∙ ap (λ (x : List Float). placed ((S.at + 1) * 6) x S.box₀) (sym (boxes-append D.nodes N.nodes));
          within = h;
        }
