-- The node tables of a list of nodes: lengths, two lists side by side, each word by its index; and the greatest depth.
-- Assumes nothing.
use mathlib.Core.Path.{◌≡◌, refl, ap, ◌∙◌}
use mathlib.Core.List.{List, [], ◌∷◌, ◌++◌}
use Prim.Native.Nat.{ℕ, zero, suc, ◌+◌, ◌*◌, ◌<◌, max}
use native.Mathlib.Nat.{zero-add}
use native.Mathlib.Omega.{arith}
use lib.ListN.{length, get_or, get_or-append}
use lib.Seq.{get_or-append-add}
use lib.Ieee.{Float}
use Rattle.nodes.specs.Nodes.{Node, record_of, corners_of, records_of, boxes_of, deepest}

pub records-append : (a b : List Node) → records_of (a ++ b) ≡ records_of a ++ records_of b
unfolding records_of
records-append [] b = refl
records-append (n ∷ ns) b = rw (records-append ns b) refl

pub boxes-append : (a b : List Node) → boxes_of (a ++ b) ≡ boxes_of a ++ boxes_of b
unfolding boxes_of
boxes-append [] b = refl
boxes-append (n ∷ ns) b = rw (boxes-append ns b) refl

pub records-length : (a : List Node) → length (records_of a) ≡ length a * 8
unfolding records_of
records-length [] = refl
records-length (n ∷ ns) = omega (arith, records-length ns)

pub boxes-length : (a : List Node) → length (boxes_of a) ≡ length a * 6
unfolding boxes_of
boxes-length [] = refl
boxes-length (n ∷ ns) = omega (arith, boxes-length ns)

pub deepest-append : (a b : List Node) → deepest (a ++ b) ≡ max (deepest a) (deepest b)
unfolding deepest
deepest-append [] b = omega arith
deepest-append (n ∷ ns) b = omega (arith, deepest-append ns b)

-- word j of node i, and coordinate j of its box; where the list has no node i, n₀ stands for it
pub record-word : (ns : List Node) (n₀ : Node) (i j : ℕ) → i < length ns → j < 8 → get_or (records_of ns) (i * 8 + j) 0 ≡ get_or (record_of (get_or ns i n₀)) j 0
unfolding records_of
record-word [] n₀ i j h k = absurd (omega arith)
record-word (n ∷ ns) n₀ zero j h k = ap (λ (m : ℕ). get_or (record_of n ++ records_of ns) m 0) (zero-add j) ∙ get_or-append (record_of n) (records_of ns) 0 j k
record-word (n ∷ ns) n₀ (suc i) j h k =
    let e : suc i * 8 + j ≡ 8 + (i * 8 + j) = omega arith in
    ap (λ (m : ℕ). get_or (record_of n ++ records_of ns) m 0) e ∙ get_or-append-add (record_of n) (records_of ns) (i * 8 + j) 0 ∙ record-word ns n₀ i j (omega arith) k

pub box-coordinate : (ns : List Node) (n₀ : Node) (x : Float) (i j : ℕ) → i < length ns → j < 6
    → get_or (boxes_of ns) (i * 6 + j) x ≡ get_or (corners_of (get_or ns i n₀).box) j x
unfolding boxes_of
box-coordinate [] n₀ x i j h k = absurd (omega arith)
box-coordinate (n ∷ ns) n₀ x zero j h k = ap (λ (m : ℕ). get_or (corners_of n.box ++ boxes_of ns) m x) (zero-add j) ∙ get_or-append (corners_of n.box) (boxes_of ns) x j k
box-coordinate (n ∷ ns) n₀ x (suc i) j h k =
    let e : suc i * 6 + j ≡ 6 + (i * 6 + j) = omega arith in
    ap (λ (m : ℕ). get_or (corners_of n.box ++ boxes_of ns) m x) e ∙ get_or-append-add (corners_of n.box) (boxes_of ns) (i * 6 + j) x ∙ box-coordinate ns n₀ x i j (omega arith) k

-- seven words and a 0, each as it was given
pub eight : {a b c d e f g a' b' c' d' e' f' g' : ℕ} → a ≡ a' → b ≡ b' → c ≡ c' → d ≡ d' → e ≡ e' → f ≡ f' → g ≡ g'
    → ◌≡◌ {A = List ℕ} (a ∷ b ∷ c ∷ d ∷ e ∷ f ∷ g ∷ 0 ∷ []) (a' ∷ b' ∷ c' ∷ d' ∷ e' ∷ f' ∷ g' ∷ 0 ∷ [])
eight p q r s t u v = cc
