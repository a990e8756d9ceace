-- The forest with gaps that a flat list says: each node before the items below it, with their number at every depth.
use Rattle.std.specs.Prelude.{◌≡◌, ◌++◌, ℕ, zero, suc, List, [], ◌∷◌, length, take, drop}
use Rattle.nx_piece.specs.PieceNode.{PieceNode}
use Rattle.nx_piece.specs.declared.viewing.NodeView.{NodeView}
use Rattle.nx_piece.specs.declared.viewing.Flat.{Flat}
use Rattle.nx_piece.specs.declared.viewing.Flat.TheVariants.{Tree, Run}
use Rattle.nx_piece.specs.Gapped.{Gapped, End, Grow, Gap}

-- the node, with its name and its content, or with where that stands
abbrev pub seen_node : NodeView → PieceNode
seen_node node = record { node = record { kind = node.kind; name = node.name.now; content = node.content.now }; far = node.far }

-- of no more than so many items
abbrev pub forest_within : ℕ → List Flat → Gapped
forest_within zero items = End
forest_within (suc most) [] = End
forest_within (suc most) (Tree node below ∷ rest) =
    Grow (seen_node node) (forest_within most (take below rest)) (forest_within most (drop below rest))
forest_within (suc most) (Run count ∷ rest) = Gap count (forest_within most rest)

abbrev pub unflattened : List Flat → Gapped
unflattened items = forest_within (length items) items

-- the items are those of a forest, and each node knows how many stand below it
abbrev pub Spells : List Flat → Gapped → Type 0
Spells items End = items ≡ []
Spells items (Grow node below beside) = (view : NodeView) × (inner outer : List Flat)
    × (items ≡ Tree view (length inner) ∷ inner ++ outer) × (seen_node view ≡ node) × Spells inner below × Spells outer beside
Spells items (Gap count beside) = (outer : List Flat) × (items ≡ Run count ∷ outer) × Spells outer beside
