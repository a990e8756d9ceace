-- A forest with gaps. A gap stands for so many intervals, which are kept elsewhere.
use Rattle.std.specs.Prelude.{◌≡◌, ℕ, ◌+◌, List, [], ◌∷◌, Option, None, Some, refl, ◌⊎◌}
use Rattle.std.specs.Coded.{Coded, code_by, coded×, coded_ℕ, coded_list, coded_option, coded⊎}
use Rattle.std.proofs.Common.{inl, inr, ap, ◌∙◌}
use Rattle.nx_piece.specs.PieceNode.{PieceNode, piece_node_code, node_weight, item_slots}

-- the forest below a node, where some of the trees may be kept elsewhere
pub data Gapped : Type 0 where
  End : Gapped
  Grow : (node : PieceNode) (below beside : Gapped) → Gapped
  Gap : (count : ℕ) (beside : Gapped) → Gapped

pub record GappedTree : Type 0 where
  pub node : PieceNode
  pub below : Gapped

-- how many nodes and gaps
abbrev pub item_count : Gapped → ℕ
item_count End = 0
item_count (Grow node below beside) = 1 + item_count below + item_count beside
item_count (Gap count beside) = 1 + item_count beside

-- how many trees and gaps stand beside each other
abbrev pub gapped_width : Gapped → ℕ
gapped_width End = 0
gapped_width (Grow node below beside) = 1 + gapped_width beside
gapped_width (Gap count beside) = 1 + gapped_width beside

-- how many nodes
abbrev pub gapped_nodes : Gapped → ℕ
gapped_nodes End = 0
gapped_nodes (Grow node below beside) = 1 + gapped_nodes below + gapped_nodes beside
gapped_nodes (Gap count beside) = gapped_nodes beside

-- the sum of the sizes of the nodes' items
abbrev pub gapped_size : Gapped → ℕ
gapped_size End = 0
gapped_size (Grow node below beside) = item_slots node + gapped_size below + gapped_size beside
gapped_size (Gap count beside) = gapped_size beside

-- the sum of the weights of the nodes
abbrev pub gapped_weight : Gapped → ℕ
gapped_weight End = 0
gapped_weight (Grow node below beside) = node_weight node + gapped_weight below + gapped_weight beside
gapped_weight (Gap count beside) = gapped_weight beside

-- how many proxies the gaps stand for
abbrev pub proxies_in : Gapped → ℕ
proxies_in End = 0
proxies_in (Grow node below beside) = proxies_in below + proxies_in beside
proxies_in (Gap count beside) = count + proxies_in beside

-- how many slots all items take, the gaps' among them
abbrev pub slots_in : Gapped → ℕ
slots_in End = 0
slots_in (Grow node below beside) = item_slots node + slots_in below + slots_in beside
slots_in (Gap count beside) = 1 + slots_in beside

-- so many proxies more in front; gaps that become neighbours are one
abbrev pub with_gap : ℕ → Gapped → Gapped
with_gap count End = Gap count End
with_gap count (Grow node below beside) = Gap count (Grow node below beside)
with_gap count (Gap more beside) = Gap (count + more) beside

-- the trees alone, without gaps between them
abbrev pub grown_of : List GappedTree → Gapped
grown_of [] = End
grown_of (t ∷ ts) = Grow t.node t.below (grown_of ts)

-- as a list: a node or a gap before what follows it, and a mark at each end
abbrev pub spelled_gapped : Gapped → List (Option (PieceNode ⊎ ℕ)) → List (Option (PieceNode ⊎ ℕ))
spelled_gapped End rest = None ∷ rest
spelled_gapped (Grow node below beside) rest = Some (inl node) ∷ spelled_gapped below (spelled_gapped beside rest)
spelled_gapped (Gap count beside) rest = Some (inr count) ∷ spelled_gapped beside rest

abbrev pub grow_first : PieceNode → List Gapped → List Gapped
grow_first node (below ∷ beside ∷ rest) = Grow node below beside ∷ rest
grow_first node _ = []

abbrev pub gap_first : ℕ → List Gapped → List Gapped
gap_first count (beside ∷ rest) = Gap count beside ∷ rest
gap_first count [] = []

abbrev pub unspelled_gapped : List (Option (PieceNode ⊎ ℕ)) → List Gapped
unspelled_gapped [] = []
unspelled_gapped (None ∷ rest) = End ∷ unspelled_gapped rest
unspelled_gapped (Some (inl node) ∷ rest) = grow_first node (unspelled_gapped rest)
unspelled_gapped (Some (inr count) ∷ rest) = gap_first count (unspelled_gapped rest)

pub unspelled_gapped-spelled : (f : Gapped) (rest : List (Option (PieceNode ⊎ ℕ))) → unspelled_gapped (spelled_gapped f rest) ≡ f ∷ unspelled_gapped rest
unspelled_gapped-spelled End rest = refl
unspelled_gapped-spelled (Grow node below beside) rest =
    ap (grow_first node) (unspelled_gapped-spelled below (spelled_gapped beside rest) ∙ ap (λ r. below ∷ r) (unspelled_gapped-spelled beside rest))
unspelled_gapped-spelled (Gap count beside) rest = ap (gap_first count) (unspelled_gapped-spelled beside rest)

abbrev pub first_gapped : List Gapped → Gapped
first_gapped [] = End
first_gapped (f ∷ fs) = f

abbrev pub gapped_code : Coded Gapped
gapped_code = code_by (List (Option (PieceNode ⊎ ℕ))) (coded_list (coded_option (coded⊎ piece_node_code coded_ℕ))) (λ f. spelled_gapped f [])
    (λ s. first_gapped (unspelled_gapped s)) (λ f. ap first_gapped (unspelled_gapped-spelled f []))

abbrev pub gapped_tree_code : Coded GappedTree
gapped_tree_code = code_by (PieceNode × Gapped) (coded× piece_node_code gapped_code) (λ t. (t.node, t.below))
    (λ p. record { node = p.0; below = p.1 }) (λ _. refl)
