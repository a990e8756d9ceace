-- Another content of a node in what one record has.
use Rattle.std.specs.Prelude.{◌≡◌, ℕ, zero, suc, ◌+◌, ◌-◌, List, [], ◌∷◌, ◌++◌, length, Option, None, Some}
use Rattle.nx_tree.specs.Forest.{Forest}
use Rattle.nx_weights.specs.Weight.{weight}
use Rattle.nx_piece.specs.declared.piece.Proxy.{Proxy}
use Rattle.nx_piece.specs.declared.piece.Far.{Far}
use Rattle.nx_piece.specs.Gapped.{GappedTree}
use Rattle.nx_piece.specs.Locate.{Inside, reached_in}
use Rattle.nx_piece_edits.specs.Setting.{with_tree, with_content}
use Rattle.nx_cuts.specs.Cut.{Bare, Grown, Kept, width, AreFree}
use Rattle.nx_layouts.specs.Layout.{LaidNode, Layout, Stock, in_record, without_places, laid_forest, laid_weight, AreLaidParts, piece_body, piece_of, proxies_of, places_of, nodes_in, IsReadIn, AreHeld}
use Rattle.nx_layouts.specs.Nodes.{NodesChange}
use Rattle.nx_layouts.specs.Cutting.{StaysIn, member_tree}

-- a row with another node and other children of the tree at a path, all of whose positions lead to trees of the record
abbrev pub layout_changed : (other : LaidNode → LaidNode) (change : Layout → Layout) → ℕ → List ℕ → Layout → Layout
layout_changed other change position path Bare = Bare
layout_changed other change zero [] (Grown node below beside) = Grown (other node) (change below) beside
layout_changed other change zero (next ∷ path) (Grown node below beside) = Grown node (layout_changed other change next path below) beside
layout_changed other change (suc position) path (Grown node below beside) = Grown node below (layout_changed other change position path beside)
layout_changed other change position path (Kept place members beside) = Kept place members (layout_changed other change (position - width members) path beside)

-- a node with another content, near or in a list
abbrev pub with_other : (content : List ℕ) (list : Option ℕ) → LaidNode → LaidNode
with_other content list n = record { node = record n.node { content = content }; list = list }

-- the bytes of a content that stand in the node's item, and the list that it names
abbrev pub near_part : List ℕ → Option ℕ → List ℕ
near_part content None = content
near_part content (Some first) = []

abbrev pub far_part : List ℕ → Option ℕ → Option Far
far_part content None = None
far_part content (Some first) = Some (record { first = first; length = length content })

-- a row with another content of the node there
abbrev pub layout_with : ℕ → List ℕ → (content : List ℕ) (list : Option ℕ) → Layout → Layout
layout_with position path content list row = layout_changed (λ n. with_other content list n) (λ below. below) position path row

-- A row in which the node of a tree of the record has another content: what the record has of it, what of it stays, and how much heavier its part is. Where the content is the same, it is
-- stored otherwise alone.
pub record IsSetInRow (k position : ℕ) (path content : List ℕ) (list : Option ℕ) (tree : GappedTree) (row : Layout) : Type 0 where
  pub stays : StaysIn position path row
  pub node : LaidNode
  pub shown : tree.node ≡ in_record node
  pub below : Forest
  pub there : member_tree (laid_forest row) position path ≡ Some (record { node = node.node; below = below })
  pub body : (more : List Proxy) → piece_body (layout_with position path content list row)
      ≡ with_tree position path (with_content (near_part content list) (far_part content list) tree) (piece_body row) (proxies_of row ++ more)
  pub proxies : proxies_of (layout_with position path content list row) ≡ proxies_of row
  pub places : places_of (layout_with position path content list row) ≡ places_of row
  pub changes : NodesChange (nodes_in row) (nodes_in (layout_with position path content list row)) (node ∷ []) (with_other content list node ∷ [])
  pub held : (stock : Stock) → IsReadIn stock.list_at (with_other content list node) → AreHeld stock row → AreHeld stock (layout_with position path content list row)
  pub wide : width (layout_with position path content list row) ≡ width row
  pub free : AreFree row → AreFree (layout_with position path content list row)
  pub light : AreLaidParts k row → AreLaidParts k (layout_with position path content list row)
  pub weighs : laid_weight (layout_with position path content list row) + weight node.node ≡ laid_weight row + weight (record node.node { content = content })
  pub same : content ≡ node.node.content → without_places (layout_with position path content list row) ≡ without_places row

-- Where a path leads to a tree of a piece, its node may get another content in each row of members whose piece that is.
abbrev pub ContentIsSet : Type 0
ContentIsSet = (k : ℕ) (members : Layout) (member : ℕ) (path content : List ℕ) (list : Option ℕ) (tree : GappedTree) (first : ℕ) → reached_in (piece_of members) member path ≡ Inside tree first
    → IsSetInRow k member path content list tree members
