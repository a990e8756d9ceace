-- What nodes weigh, beside the slots that their items take.
use Rattle.std.proofs.Common.{◌≡◌, ℕ, ◌+◌, ◌*◌, ◌<◌, ◌≤◌, List, length, refl, arith}
use Rattle.std.specs.Prelude.{Option, None, Some}
use Rattle.std.specs.Int.{div_ceil}
use Rattle.nx_weights.specs.Weight.{longest_near, weight_of}
use Rattle.nx_weights.proofs.SumLemmas.{counted_most, counted_near, counted_far}
use Rattle.nx_piece.specs.declared.piece.Far.{Far}
use Rattle.nx_piece.specs.PieceNode.{PieceNode, content_with, length_with, node_weight, item_slots, IsFarWith, IsNearWith, MayBeFar}
use Rattle.nx_piece.specs.Gapped.{Gapped, End, Grow, Gap, gapped_nodes, gapped_size, gapped_weight}
use Rattle.nx_piece.specs.Valid.{AreFar, AreNear}

-- the place of a content takes what the content counts for, where no longer one stands there than may be near
slots_near : (name : ℕ) (own : List ℕ) (far : Option Far) → IsFarWith own far → IsNearWith own far → 1 + div_ceil (name + length (content_with own far)) 8 ≡ weight_of name (length_with (length own) far)
slots_near name own None h near = omega (arith, counted_near (length own) near)
slots_near name own (Some far) h near = let long : longest_near < far.length = h.1 in omega (arith, counted_far far.length long)

-- and else no less
slots_bound : (name : ℕ) (own : List ℕ) (far : Option Far) → IsFarWith own far → weight_of name (length_with (length own) far) ≤ 1 + div_ceil (name + length (content_with own far)) 8
slots_bound name own None h = omega (arith, counted_most (length own))
slots_bound name own (Some far) h = let long : longest_near < far.length = h.1 in omega (arith, counted_far far.length long)

-- a node's item takes the slots that the node weighs, where its content isn't too long to stand there
pub item_is_weight : (n : PieceNode) → MayBeFar n → IsNearWith n.node.content n.far → item_slots n ≡ node_weight n
item_is_weight n h near = slots_near (length n.node.name) n.node.content n.far h near

pub size_is_weight : (f : Gapped) → AreNear f → AreFar f → gapped_size f ≡ gapped_weight f
size_is_weight End near h = refl
size_is_weight (Grow n b s) near h = omega (arith, item_is_weight n h.0 near.0, size_is_weight b near.1 h.1, size_is_weight s near.2 h.2)
size_is_weight (Gap c s) near h = size_is_weight s near h

-- no node weighs more than its item takes
pub item_bound : (n : PieceNode) → MayBeFar n → node_weight n ≤ item_slots n
item_bound n h = slots_bound (length n.node.name) n.node.content n.far h

pub weight_within : (f : Gapped) → AreFar f → gapped_weight f ≤ gapped_size f
weight_within End h = omega arith
weight_within (Grow n b s) h = omega (arith, item_bound n h.0, weight_within b h.1, weight_within s h.2)
weight_within (Gap c s) h = weight_within s h

-- the sum of a measure of nodes: of what they weigh, or of the slots that they take
abbrev pub gapped_sum : (PieceNode → ℕ) → Gapped → ℕ
gapped_sum measure End = 0
gapped_sum measure (Grow node below beside) = measure node + gapped_sum measure below + gapped_sum measure beside
gapped_sum measure (Gap count beside) = gapped_sum measure beside

pub sum_is_weight : (f : Gapped) → gapped_sum node_weight f ≡ gapped_weight f
sum_is_weight End = refl
sum_is_weight (Grow n b s) = let p = sum_is_weight b in let q = sum_is_weight s in omega (arith, p, q)
sum_is_weight (Gap c s) = sum_is_weight s

pub sum_is_size : (f : Gapped) → gapped_sum item_slots f ≡ gapped_size f
sum_is_size End = refl
sum_is_size (Grow n b s) = let p = sum_is_size b in let q = sum_is_size s in omega (arith, p, q)
sum_is_size (Gap c s) = sum_is_size s

-- what counts nodes
abbrev pub one_each : PieceNode → ℕ
one_each node = 1

pub sum_is_nodes : (f : Gapped) → gapped_sum one_each f ≡ gapped_nodes f
sum_is_nodes End = refl
sum_is_nodes (Grow n b s) = let p = sum_is_nodes b in let q = sum_is_nodes s in omega (arith, p, q)
sum_is_nodes (Gap c s) = sum_is_nodes s
