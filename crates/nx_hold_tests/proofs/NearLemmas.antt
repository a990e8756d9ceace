-- Where nodes weigh what their items take, no content of more than 1,024 bytes stands in the record.
use Rattle.std.proofs.Common.{◌≡◌, ℕ, ◌+◌, ◌≤◌, List, length, inl, inr, arith}
use Rattle.std.specs.Prelude.{Option, None, Some}
use Rattle.std.specs.Int.{div_ceil}
use Rattle.std.proofs.lemmas.Bool.{cases_lt}
use Rattle.nx_weights.specs.Weight.{longest_near, weight_of}
use Rattle.nx_weights.proofs.SumLemmas.{counted_far}
use Rattle.nx_piece.specs.declared.piece.Far.{Far}
use Rattle.nx_piece.specs.PieceNode.{content_with, length_with, IsNearWith}
use Rattle.nx_piece.specs.Gapped.{Gapped, End, Grow, Gap, gapped_size, gapped_weight}
use Rattle.nx_piece.specs.Valid.{AreFar, AreNear}
use Rattle.nx_piece.proofs.SizeLemmas.{item_bound, weight_within}

near_item : (name : ℕ) (own : List ℕ) (far : Option Far) → 1 + div_ceil (name + length (content_with own far)) 8 ≤ weight_of name (length_with (length own) far) → IsNearWith own far
near_item name own None h = elim (cases_lt longest_near (length own)) [ inl long ↦ absurd (omega (arith, counted_far (length own) long)) | inr near ↦ near ]
near_item name own (Some far) h = tt

pub near_by_size : (f : Gapped) → AreFar f → gapped_size f ≡ gapped_weight f → AreNear f
near_by_size End far same = tt
near_by_size (Grow n b s) far same =
    let own = item_bound n far.0 in
    let below = weight_within b far.1 in
    let beside = weight_within s far.2 in
    (near_item (length n.node.name) n.node.content n.far (omega arith), near_by_size b far.1 (omega arith), near_by_size s far.2 (omega arith))
near_by_size (Gap c s) far same = near_by_size s far same
