-- A tree taken out of what one record has, and an interval below it that is replaced.
use Rattle.std.specs.Prelude.{◌≡◌, ℕ, zero, suc, ◌+◌, ◌-◌, ◌<◌, ◌≤◌, Option, None, Some, List, [], ◌∷◌, ◌++◌, length, take, drop, option_and_then}
use Rattle.nx_tree.specs.declared.node.Node.{Node}
use Rattle.nx_tree.specs.Forest.{Forest, OrderedTree, nodes}
use Rattle.nx_tree.specs.Edit.{child, at}
use Rattle.nx_piece.specs.declared.piece.Piece.{Piece}
use Rattle.nx_piece.specs.declared.piece.Proxy.{Proxy}
use Rattle.std.specs.List.{sum_by}
use Rattle.nx_piece.specs.Gapped.{GappedTree, End, Grow, gapped_nodes, proxies_in}
use Rattle.nx_piece.specs.Locate.{Inside, Outside, Missing, reached_in}
use Rattle.nx_piece_edits.specs.Cutting.{without_tree, without_proxy, with_items_at}
use Rattle.nx_piece.specs.Contents.{fars_in}
use Rattle.nx_cuts.specs.Cut.{Bare, Grown, Kept, width, AreFree}
use Rattle.nx_layouts.specs.Layout.{RecordPlace, LaidNode, Layout, Stock, in_record, laid_forest, laid_weight, AreLaidParts, piece_body, piece_of, proxies_of, proxy_of, places_of, nodes_in, AreHeld}
use Rattle.nx_layouts.specs.Nodes.{NodesChange}
use Rattle.nx_layouts.specs.Replace.{replaced_at, kept_at, above_at}

-- a row without the tree at a path, all of whose positions lead to trees of the record
abbrev pub layout_without : ℕ → List ℕ → Layout → Layout
layout_without position path Bare = Bare
layout_without zero [] (Grown node below beside) = beside
layout_without zero (next ∷ path) (Grown node below beside) = Grown node (layout_without next path below) beside
layout_without (suc position) path (Grown node below beside) = Grown node below (layout_without position path beside)
layout_without position path (Kept place members beside) = Kept place members (layout_without (position - width members) path beside)

-- that tree, as a row of its own
abbrev pub layout_at : ℕ → List ℕ → Layout → Layout
layout_at position path Bare = Bare
layout_at zero [] (Grown node below beside) = Grown node below Bare
layout_at zero (next ∷ path) (Grown node below beside) = layout_at next path below
layout_at (suc position) path (Grown node below beside) = layout_at position path beside
layout_at position path (Kept place members beside) = layout_at (position - width members) path beside

-- each position of the path leads to a tree of the record
abbrev pub StaysIn : ℕ → List ℕ → Layout → Type 0
StaysIn position path Bare = ⊥
StaysIn zero [] (Grown node below beside) = Unit {0}
StaysIn zero (next ∷ path) (Grown node below beside) = StaysIn next path below
StaysIn (suc position) path (Grown node below beside) = StaysIn position path beside
StaysIn position path (Kept place members beside) = (width members ≤ position) × StaysIn (position - width members) path beside

-- the path leads to a member of the interval of the proxy at an index, which has these members, and goes on from there
abbrev pub LeadsInto : (index member : ℕ) (rest : List ℕ) (members : Layout) → ℕ → List ℕ → Layout → Type 0
LeadsInto index member rest members position path Bare = ⊥
LeadsInto index member rest members zero [] (Grown node below beside) = ⊥
LeadsInto index member rest members zero (next ∷ path) (Grown node below beside) = (index < length (proxies_of below)) × LeadsInto index member rest members next path below
LeadsInto index member rest members (suc position) path (Grown node below beside) =
    (length (proxies_of below) ≤ index) × LeadsInto (index - length (proxies_of below)) member rest members position path beside
LeadsInto zero member rest members position path (Kept place inside beside) = (position < width inside) × (member ≡ position) × (rest ≡ path) × (members ≡ inside)
LeadsInto (suc index) member rest members position path (Kept place inside beside) = (width inside ≤ position) × LeadsInto index member rest members (position - width inside) path beside

-- an interval of these members, where there are any
abbrev pub kept_layout : RecordPlace → Layout → Layout
kept_layout place Bare = Bare
kept_layout place (Grown node below beside) = Kept place (Grown node below beside) Bare
kept_layout place (Kept other members beside) = Kept place (Kept other members beside) Bare

-- The proxies, the places and the nodes of a row are those of the tree that went and of what is left around it.
pub record IsOutOf (row left tree : Layout) : Type 0 where
  pub front : List Proxy
  pub back : List Proxy
  pub proxies_were : proxies_of row ≡ front ++ (proxies_of tree ++ back)
  pub proxies_are : proxies_of left ≡ front ++ back
  pub before : List RecordPlace
  pub behind : List RecordPlace
  pub places_were : places_of row ≡ before ++ (places_of tree ++ behind)
  pub places_are : places_of left ≡ before ++ behind
  pub changes : NodesChange (nodes_in row) (nodes_in left) (nodes_in tree) []

-- What goes with a tree, and what is left: what a record has of it, what is held, and what it weighs.
pub record GoesWithTree (k position : ℕ) (path : List ℕ) (row : Layout) : Type 0 where
  pub body : (more : List Proxy) → piece_body (layout_without position path row) ≡ without_tree position path (piece_body row) (proxies_of row ++ more)
  pub parts : IsOutOf row (layout_without position path row) (layout_at position path row)
  pub held : (stock : Stock) → AreHeld stock row → AreHeld stock (layout_without position path row) × AreHeld stock (layout_at position path row)
  pub free : AreFree row → AreFree (layout_without position path row)
  pub less : laid_weight (layout_without position path row) ≤ laid_weight row
  pub light : AreLaidParts k row → AreLaidParts k (layout_without position path row)
  pub counted : nodes (laid_forest (layout_at position path row)) + nodes (laid_forest (layout_without position path row)) ≡ nodes (laid_forest row)

abbrev pub TreeGoesOut : Type 0
TreeGoesOut = (k position : ℕ) (path : List ℕ) (row : Layout) → StaysIn position path row → GoesWithTree k position path row

-- Where one interval stands in the place of another, the record has the same nodes and gaps; where none does, it has one proxy less. Where a row comes in its place, it has what a record has of that row in the place of the proxy.
pub record RunsStay (index : ℕ) (row : Layout) : Type 0 where
  pub one : (place : RecordPlace) (members : Layout) → piece_body (replaced_at index (Kept place members Bare) row) ≡ piece_body row
  pub none : piece_body (replaced_at index Bare row) ≡ without_proxy index (piece_body row)
  pub many : (new : Layout) → piece_body (replaced_at index new row) ≡ with_items_at index (piece_body new) (piece_body row)

abbrev pub RunsAfter : Type 0
RunsAfter = (index : ℕ) (row : Layout) → index < length (proxies_of row) → RunsStay index row

-- Where an interval stands that the path leads into: its place, the proxies, the places and the nodes before it and behind it, and what comes of them where something is left of it.
pub record StandsIn (k index : ℕ) (inside row : Layout) : Type 0 where
  pub at : RecordPlace
  pub front : List Proxy
  pub back : List Proxy
  pub proxies_are : proxies_of row ≡ front ++ (proxy_of at (width inside) ∷ back)
  pub index_is : length front ≡ index
  pub kept : kept_at index row ≡ Some inside
  pub before : List RecordPlace
  pub behind : List RecordPlace
  pub places_were : places_of row ≡ before ++ ((at ∷ places_of inside) ++ behind)
  pub places_are : (left : Layout) → places_of (replaced_at index left row) ≡ before ++ (places_of left ++ behind)
  pub nodes_before : List LaidNode
  pub nodes_behind : List LaidNode
  pub nodes_were : nodes_in row ≡ nodes_before ++ (nodes_in inside ++ nodes_behind)
  pub nodes_are : (left : Layout) → nodes_in (replaced_at index left row) ≡ nodes_before ++ (nodes_in left ++ nodes_behind)
  pub held : (stock : Stock) → AreHeld stock row → AreHeld stock (Kept at inside Bare)
  pub light : AreLaidParts k row → AreLaidParts k (Kept at inside Bare)
  pub counted : (left : Layout) → nodes (laid_forest (replaced_at index left row)) + nodes (laid_forest inside) ≡ nodes (laid_forest row) + nodes (laid_forest left)

abbrev pub IntervalStandsIn : Type 0
IntervalStandsIn = (k index member : ℕ) (rest : List ℕ) (inside : Layout) (position : ℕ) (path : List ℕ) (row : Layout) → LeadsInto index member rest inside position path row → StandsIn k index inside row

-- A row in which an interval is replaced: what is held and light without it and of what comes is so together, and what was held and light is so without it. A free row stays free
-- and as wide, and weighs as much more as what comes. The far contents of the record stay where the interval goes.
pub record IsFilled (k index : ℕ) (left row : Layout) : Type 0 where
  pub held : (stock : Stock) → AreHeld stock (replaced_at index Bare row) → AreHeld stock left → AreHeld stock (replaced_at index left row)
  pub hole : (stock : Stock) → AreHeld stock row → AreHeld stock (replaced_at index Bare row)
  pub light : AreLaidParts k (replaced_at index Bare row) → AreLaidParts k left → AreLaidParts k (replaced_at index left row)
  pub hole_light : AreLaidParts k row → AreLaidParts k (replaced_at index Bare row)
  pub free : AreFree row → AreFree (replaced_at index left row)
  pub wide : AreFree row → width (replaced_at index left row) ≡ width row
  pub heavy : index < length (proxies_of row) → laid_weight (replaced_at index left row) ≡ laid_weight row + laid_weight left
  pub own : fars_in (piece_body (replaced_at index Bare row)) ≡ fars_in (piece_body row)

abbrev pub RowIsFilled : Type 0
RowIsFilled = (k index : ℕ) (left row : Layout) → IsFilled k index left row

-- An interval with something replaced in its row is light where it was and where what comes is, for which it has room.
abbrev pub IntervalIsLight : Type 0
IntervalIsLight = (k index : ℕ) (place new : RecordPlace) (left members : Layout) → AreLaidParts k (Kept place members Bare) → AreLaidParts k left → laid_weight left + laid_weight members ≤ k
    → AreLaidParts k (Kept new (replaced_at index left members) Bare)

-- the tree where a path leads that begins at one of these trees
abbrev pub member_tree : Forest → ℕ → List ℕ → Option OrderedTree
member_tree trees member path = option_and_then (λ t. at t path) (child trees member)

-- A tree of the piece of an interval, with its number of proxies in front, is one of the interval's row, and what goes with it is what the piece loses.
pub record IsTreeInRow (members : Layout) (member : ℕ) (path : List ℕ) (tree : GappedTree) (first : ℕ) : Type 0 where
  pub stays : StaysIn member path members
  pub parts : IsOutOf members (layout_without member path members) (layout_at member path members)
  pub first_is : length parts.front ≡ first
  pub tree_is : piece_body (layout_at member path members) ≡ Grow tree.node tree.below End
  pub body : without_tree member path (piece_body members) (proxies_of members) ≡ piece_body (layout_without member path members)
  pub taken : take (proxies_in tree.below) (drop first (proxies_of members)) ≡ proxies_of (layout_at member path members)
  pub left : take first (proxies_of members) ++ drop (first + proxies_in tree.below) (proxies_of members) ≡ proxies_of (layout_without member path members)

abbrev pub PathStays : Type 0
PathStays = (members : Layout) (member : ℕ) (path : List ℕ) (tree : GappedTree) (first : ℕ) → reached_in (piece_of members) member path ≡ Inside tree first → IsTreeInRow members member path tree first

-- The path leads on into an interval below after so many positions, and to the same tree from there.
pub record LeadsOn (members : Layout) (member : ℕ) (path : List ℕ) (index inner used : ℕ) : Type 0 where
  pub inside : Layout
  pub into : LeadsInto index inner (drop used path) inside member path members
  pub within : used ≤ length path
  pub same : member_tree (laid_forest members) member path ≡ member_tree (laid_forest inside) inner (drop used path)

abbrev pub PathLeadsOn : Type 0
PathLeadsOn = (members : Layout) (member : ℕ) (path : List ℕ) (index inner used : ℕ) → reached_in (piece_of members) member path ≡ Outside index inner used → LeadsOn members member path index inner used

-- The path leads on from a tree of the piece: one position fewer leads to it, and it has the node above the interval of the proxy at the index.
pub record LeadsFromTree (members : Layout) (member : ℕ) (path : List ℕ) (index used : ℕ) : Type 0 where
  pub some : 1 ≤ used
  pub within : used ≤ length path
  pub tree : GappedTree
  pub first : ℕ
  pub there : reached_in (piece_of members) member (take (used - 1) path) ≡ Inside tree first
  pub node : LaidNode
  pub shown : tree.node ≡ in_record node
  pub above : (top : Option Node) → above_at index top members ≡ Some node.node

-- The members of an interval are trees, so a path that leads into an interval below them leads on from a tree.
abbrev pub AboveStands : Type 0
AboveStands =
    (members : Layout) (member : ℕ) (path : List ℕ) (index inner used : ℕ) → AreFree members → reached_in (piece_of members) member path ≡ Outside index inner used → LeadsFromTree members member path index used

-- where the path leads to nothing in the piece, it does so in the document
abbrev pub PathIsMissing : Type 0
PathIsMissing = (members : Layout) (member : ℕ) (path : List ℕ) → reached_in (piece_of members) member path ≡ Missing → member_tree (laid_forest members) member path ≡ None

-- how many nodes a piece has, if there is one
abbrev pub piece_nodes : Option Piece → ℕ
piece_nodes None = 0
piece_nodes (Some piece) = gapped_nodes piece.body.roots

-- The nodes of a row are those that its record has and those that the records below it have.
abbrev pub NodesOfRecords : Type 0
NodesOfRecords = (stock : Stock) (row : Layout) → AreHeld stock row → nodes (laid_forest row) ≡ gapped_nodes (piece_body row) + sum_by (λ place. piece_nodes (stock.piece_at place)) (places_of row)
