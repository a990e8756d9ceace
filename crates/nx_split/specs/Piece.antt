-- A piece as a split sees it: its nodes with their positions, weights and entries.
use Rattle.std.specs.Prelude.{ℕ, ◌+◌, ◌≤◌, List, take, drop, Option, None, Some}
use Rattle.std.specs.List.{sum_by}
use Rattle.nx_tree.specs.declared.node.Node.{Node}
use Rattle.nx_matrix.specs.declared.rule.Entry.{Entry}
use Rattle.nx_matrix.specs.declared.rule.Entry.TheVariants.{Standalone, Cluster, Free}
use Rattle.nx_matrix.specs.declared.rule.Rule.{Rule}
use Rattle.nx_matrix.specs.Label.{label}
use Rattle.nx_matrix.specs.Rules.{entry_of}
use Rattle.nx_piece.specs.PieceNode.{node_weight}
use Rattle.nx_piece.specs.declared.piece.Piece.{Piece}
use Rattle.nx_piece.specs.declared.piece.Proxy.{Proxy}
use Rattle.nx_piece.specs.Gapped.{Gapped, GappedTree, End, Grow, Gap, proxies_in}
use Rattle.nx_sketch.specs.Sketch.{Sketch, Empty, Plant, Placed, placed}

-- what is asked of a child below its parent, by the labels of both
abbrev pub asked : List Rule → Node → Node → Entry
asked rules parent child = entry_of rules (label parent) (label child)

-- a root has no parent in the piece that it could stay with
abbrev pub freed : Entry → Entry
freed Standalone = Standalone
freed Cluster = Free
freed Free = Free

-- what is asked of a root below the node above the piece; nothing where there is no such node
abbrev pub asked_of_root : List Rule → Option Node → Node → Entry
asked_of_root rules None root = Free
asked_of_root rules (Some above) root = freed (asked rules above root)

-- how many trees the proxies stand for that a gap counts, where so many proxies stand before it
abbrev pub positions : List Proxy → ℕ → ℕ → ℕ
positions proxies first count = sum_by (λ proxy. proxy.roots) (take count (drop first proxies))

-- Trees and gaps below a node, of which it asks this: so many proxies stand before them, and the first child has this position. A gap takes the positions of the trees that its proxies stand for.
abbrev pub sketch_in : List Rule → List Proxy → (Node → Entry) → (first position : ℕ) → Gapped → Sketch
sketch_in rules proxies asks first position End = Empty
sketch_in rules proxies asks first position (Grow node below beside) =
    Plant position (node_weight node) (asks node.node) (sketch_in rules proxies (asked rules node.node) first 0 below)
    (sketch_in rules proxies asks (first + proxies_in below) (position + 1) beside)
sketch_in rules proxies asks first position (Gap count beside) =
    sketch_in rules proxies asks (first + count) (position + positions proxies first count) beside

-- a tree with this position and entry, with nothing beside it
abbrev pub tree_sketch : List Rule → List Proxy → Entry → (first position : ℕ) → GappedTree → Sketch
tree_sketch rules proxies entry first position tree = Plant position (node_weight tree.node) entry (sketch_in rules proxies (asked rules tree.node.node) first 0 tree.below) Empty

-- a piece below the node above it
abbrev pub sketch_of : List Rule → Option Node → Piece → Sketch
sketch_of rules above piece = sketch_in rules piece.proxies (asked_of_root rules above) 0 0 piece.body.roots

-- the nodes of a piece in document order, each with its path from the helper, its weight and its entry
abbrev pub placed_of : List Rule → Option Node → Piece → List Placed
placed_of rules above piece = placed (sketch_of rules above piece)

-- none of the nodes weighs more than k
abbrev pub AreGappedAtMost : ℕ → Gapped → Type 0
AreGappedAtMost k End = Unit {0}
AreGappedAtMost k (Grow node below beside) = (node_weight node ≤ k) × AreGappedAtMost k below × AreGappedAtMost k beside
AreGappedAtMost k (Gap count beside) = AreGappedAtMost k beside
