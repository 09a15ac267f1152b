-- docs/RULES.md, program `frame`: what it prints, `refused` and the number, or `blank`, or the listing, and what a call that writes it
-- into a lent buffer answers. Floats are bits in hexadecimal, other numbers decimal. Definitions only. Assumes nothing.
use Rattle.std.specs.Prelude.{ℕ, zero, suc, ◌+◌, ◌*◌, Bool, ◌||◌, List, [], ◌∷◌, ◌++◌, ltb, length, get_or, Float, Result, Ok}
use Rattle.base.specs.declared.Refused.{Refused}
use Rattle.base.specs.Refusals.{refuse, first_refusal, refused}
use Rattle.base.specs.Tables.{over, unless_refused}
use Rattle.text.specs.Text.{ascii, decimal, hex, hex_bits, occupancy, line}
use Rattle.mixing.specs.declared.Mixture.{Mixture}

-- ---- the lines
unfoldable pub refused_text : ℕ → List ℕ
refused_text n = line (ascii "refused" ∷ decimal n ∷ [])

abbrev pub blank_text : List ℕ
blank_text = line (ascii "blank" ∷ [])

-- copies, then the largest, contacted and pair fractions
abbrev pub clusters_words : ℕ → Float → Float → Float → List (List ℕ)
clusters_words copies largest contacted pair = ascii "clusters" ∷ decimal copies ∷ hex_bits largest ∷ hex_bits contacted ∷ hex_bits pair ∷ []

unfoldable pub clusters_line : ℕ → Float → Float → Float → List ℕ
clusters_line copies largest contacted pair = line (clusters_words copies largest contacted pair)

unfoldable pub dispersion_line : Float → List ℕ
dispersion_line d = line (ascii "dispersion" ∷ hex_bits d ∷ [])

-- the number of nodes and the greatest depth
unfoldable pub nodes_line : ℕ → ℕ → List ℕ
nodes_line nodes depth = line (ascii "nodes" ∷ decimal nodes ∷ ascii "depth" ∷ decimal depth ∷ [])

-- the leaf at entry p of the leaf table t: node, centers, waters, box occupancy, shell waters, shell occupancy, partition score
abbrev pub leaf_records : List ℕ → ℕ → List (List ℕ)
leaf_records t p =
    ascii "leaf"
    ∷ decimal (get_or t p 0)
    ∷ decimal (get_or t (p + 1) 0)
    ∷ decimal (get_or t (p + 2) 0)
    ∷ occupancy (get_or t (p + 3) 0)
    ∷ decimal (get_or t (p + 4) 0)
    ∷ occupancy (get_or t (p + 5) 0)
    ∷ hex (get_or t (p + 6) 0)
    ∷ []

unfoldable pub leaf_line : List ℕ → ℕ → List ℕ
leaf_line t p = line (leaf_records t p)

-- n leaves of eight words each, from entry p of the leaf table on
unfoldable pub leaf_lines : List ℕ → ℕ → ℕ → List ℕ
leaf_lines t zero p = []
leaf_lines t (suc n) p = leaf_line t p ++ leaf_lines t n (p + 8)

unfoldable pub dry_line : ℕ → List ℕ
dry_line dry = line (ascii "dryleaves" ∷ decimal dry ∷ [])

-- the listing of what the whole frame answers, with the leaf table t
unfoldable pub listing_text : Mixture → List ℕ → List ℕ
listing_text m t =
    clusters_line m.counted.copies m.fractions.largest m.fractions.contacted m.fractions.pair
    ++ (dispersion_line m.dispersion ++ (nodes_line m.report.nodes m.report.depth ++ (leaf_lines t m.report.leaves 0 ++ dry_line m.report.dry)))

-- whether the leaf table t has fewer than `count` leaves
abbrev pub leaves_missing : List ℕ → ℕ → Bool
leaves_missing t count = ltb (length t) (count * 8)

-- ---- what a call that writes a text answers, and the buffer afterwards
-- 7, a lent table is too short: what is to be listed is missing, or the buffer has no room for the text
unfoldable pub text_refusal : Bool → List ℕ → List ℕ → ℕ
text_refusal missing text out = first_refusal (refuse 7 (missing || ltb (length out) (length text)) ∷ [])

-- the bytes written, or the refusal
unfoldable pub text_answer : Bool → List ℕ → List ℕ → Result ℕ Refused
text_answer missing text out = unless_refused (text_refusal missing text out) (Ok (length text)) (refused (text_refusal missing text out))

unfoldable pub text_after : Bool → List ℕ → List ℕ → List ℕ
text_after missing text out = unless_refused (text_refusal missing text out) (over text out) out
