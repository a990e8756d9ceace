-- A node or an interval put into a row of what one record has, the children of a tree changed there, and its roots in two.
use Rattle.std.specs.Prelude.{◌≡◌, ℕ, zero, suc, ◌+◌, ◌-◌, ◌<◌, ◌≤◌, List, [], ◌∷◌, ◌++◌, map, length, take, drop, Some}
use Rattle.std.specs.List.{slice_get}
use Rattle.nx_tree.specs.Forest.{nodes}
use Rattle.nx_weights.specs.Weight.{weight}
use Rattle.nx_piece.specs.declared.piece.Proxy.{Proxy}
use Rattle.nx_piece.specs.Gapped.{GappedTree, End, Grow, proxies_in, with_gap, grown_of}
use Rattle.nx_piece.specs.Locate.{PieceChild, Own, Kept as Away, Inside, children_of, reached_in}
use Rattle.nx_piece_edits.specs.Planting.{put_at}
use Rattle.nx_piece_edits.specs.Dividing.{first_roots, roots_behind}
use Rattle.nx_piece_edits.specs.Setting.{with_tree}
use Rattle.nx_cuts.specs.Cut.{Bare, Grown, Kept, width, AreFree}
use Rattle.nx_cuts.specs.Rows.{joined_row, first, behind}
use Rattle.nx_layouts.specs.Layout.{RecordPlace, LaidNode, Layout, Stock, in_record, laid_forest, laid_weight, AreLaidParts, piece_body, piece_of, proxies_of, proxy_of, places_of, nodes_in, IsReadIn, AreHeld}
use Rattle.nx_layouts.specs.Nodes.{NodesChange}
use Rattle.nx_layouts.specs.Replace.{kept_at}
use Rattle.nx_layouts.specs.Cutting.{layout_at, StaysIn, LeadsInto, member_tree}
use Rattle.nx_layouts.specs.Setting.{layout_changed}

-- the position stands at an end of the row or between two of its trees, and in no interval
abbrev pub FallsBetween : ℕ → Layout → Type 0
FallsBetween zero row = Unit {0}
FallsBetween (suc position) Bare = ⊥
FallsBetween (suc position) (Grown node below beside) = FallsBetween position beside
FallsBetween (suc position) (Kept place members beside) = (width members ≤ suc position) × FallsBetween (suc position - width members) beside

-- the position stands in the interval of the proxy at an index, which has these members, behind so many of them
abbrev pub FallsInto : (index member : ℕ) (inside : Layout) → ℕ → Layout → Type 0
FallsInto index member inside zero row = ⊥
FallsInto index member inside (suc position) Bare = ⊥
FallsInto index member inside (suc position) (Grown node below beside) =
    (length (proxies_of below) ≤ index) × FallsInto (index - length (proxies_of below)) member inside position beside
FallsInto zero member inside (suc position) (Kept place members beside) = (suc position < width members) × (member ≡ suc position) × (inside ≡ members)
FallsInto (suc index) member inside (suc position) (Kept place members beside) =
    (width members ≤ suc position) × FallsInto index member inside (suc position - width members) beside

-- a row with something put before the tree at a position
abbrev pub put_between : (put : Layout → Layout) → ℕ → Layout → Layout
put_between put zero row = put row
put_between put (suc position) Bare = Bare
put_between put (suc position) (Grown node below beside) = Grown node below (put_between put position beside)
put_between put (suc position) (Kept place members beside) = Kept place members (put_between put (suc position - width members) beside)

-- how many intervals below the trees of a row, and among them, stand before a position
abbrev pub proxies_before : ℕ → Layout → ℕ
proxies_before zero row = 0
proxies_before (suc position) Bare = 0
proxies_before (suc position) (Grown node below beside) = length (proxies_of below) + proxies_before position beside
proxies_before (suc position) (Kept place members beside) = 1 + proxies_before (suc position - width members) beside

-- a row with a node put in, below which nothing stands yet
abbrev pub with_node : LaidNode → ℕ → Layout → Layout
with_node node position row = put_between (λ behind. Grown node Bare behind) position row

-- a row with an interval put in
abbrev pub with_interval : RecordPlace → Layout → ℕ → Layout → Layout
with_interval place members position row = put_between (λ behind. Kept place members behind) position row

-- What a record has with one node more: the same proxies, and one tree more in the row.
pub record NodeGoesIn (k : ℕ) (node : LaidNode) (position : ℕ) (row : Layout) : Type 0 where
  pub body : AreLaidParts k row → (more : List Proxy) → piece_body (with_node node position row) ≡ put_at (λ f. Grow (in_record node) End f) position (piece_body row) (proxies_of row ++ more)
  pub proxies : proxies_of (with_node node position row) ≡ proxies_of row
  pub places : places_of (with_node node position row) ≡ places_of row
  pub changes : NodesChange (nodes_in row) (nodes_in (with_node node position row)) [] (node ∷ [])
  pub held : (stock : Stock) → IsReadIn stock.list_at node → AreHeld stock row → AreHeld stock (with_node node position row)
  pub wide : width (with_node node position row) ≡ width row + 1
  pub weighs : laid_weight (with_node node position row) ≡ laid_weight row + weight node.node
  pub free : AreFree row → AreFree (with_node node position row)
  pub light : AreLaidParts k row → AreLaidParts k (with_node node position row)
  pub counted : nodes (laid_forest (with_node node position row)) ≡ nodes (laid_forest row) + 1

-- Where a position falls between trees of a row, a node may be put in there.
abbrev pub NodeIsPlanted : Type 0
NodeIsPlanted = (k : ℕ) (node : LaidNode) (position : ℕ) (row : Layout) → FallsBetween position row → NodeGoesIn k node position row

-- What a record has with one interval more: one proxy more, and the places of the interval between those that there were.
pub record IntervalGoesIn (k : ℕ) (place : RecordPlace) (members : Layout) (position : ℕ) (row : Layout) : Type 0 where
  pub body : AreLaidParts k row → (more : List Proxy) → piece_body (with_interval place members position row) ≡ put_at (λ f. with_gap 1 f) position (piece_body row) (proxies_of row ++ more)
  pub proxies : proxies_of (with_interval place members position row) ≡ take (proxies_before position row) (proxies_of row) ++ (proxy_of place (width members) ∷ drop (proxies_before position row) (proxies_of row))
  pub before : List RecordPlace
  pub behind : List RecordPlace
  pub places_were : places_of row ≡ before ++ behind
  pub places_are : places_of (with_interval place members position row) ≡ before ++ ((place ∷ places_of members) ++ behind)
  pub changes : NodesChange (nodes_in row) (nodes_in (with_interval place members position row)) [] (nodes_in members)
  pub within : proxies_before position row ≤ length (proxies_of row)
  pub held : (stock : Stock) → AreHeld stock row → AreHeld stock (Kept place members Bare) → AreHeld stock (with_interval place members position row)
  pub wide : width (with_interval place members position row) ≡ width row + width members
  pub weighs : laid_weight (with_interval place members position row) ≡ laid_weight row
  pub light : AreLaidParts k row → AreLaidParts k (Kept place members Bare) → AreLaidParts k (with_interval place members position row)
  pub counted : nodes (laid_forest (with_interval place members position row)) ≡ nodes (laid_forest row) + nodes (laid_forest members)

-- Where a position falls between trees of a row, an interval may be put in there.
abbrev pub IntervalIsPlanted : Type 0
IntervalIsPlanted = (k : ℕ) (place : RecordPlace) (members : Layout) (position : ℕ) (row : Layout) → FallsBetween position row → IntervalGoesIn k place members position row

-- The position stands in an interval of the row, whose proxy has this index in the piece.
pub record IsInInterval (first position : ℕ) (row : Layout) (at member : ℕ) : Type 0 where
  pub index : ℕ
  pub at_is : at ≡ first + index
  pub inside : Layout
  pub falls : FallsInto index member inside position row
  pub leads : (path : List ℕ) → LeadsInto index member path inside position path row
  pub kept : kept_at index row ≡ Some inside

-- How positions among the children of a piece that are those of a row fall in the row; so many proxies of the piece stand before those of the row.
pub record IsFallOf (first position : ℕ) (row : Layout) (children : List PieceChild) : Type 0 where
  pub long : length children ≡ width row
  pub between : position ≤ length children → ((index member : ℕ) → slice_get children position ≡ Some (Away index member) → member ≡ 0) → FallsBetween position row
  pub into : (index member : ℕ) → slice_get children position ≡ Some (Away index member) → 1 ≤ member → IsInInterval first position row index member

-- The children of a row in a piece tell how a position falls in the row.
abbrev pub FallIsThere : Type 0
FallIsThere = (position : ℕ) (row : Layout) (front more : List Proxy) → IsFallOf (length front) position row (children_of (front ++ (proxies_of row ++ more)) (length front) (piece_body row))

-- a row with other children of the tree at a path, all of whose positions lead to trees of the record
abbrev pub changed_below : (change : Layout → Layout) → ℕ → List ℕ → Layout → Layout
changed_below change position path row = layout_changed (λ node. node) change position path row

-- a child with so many more of the proxies in front
abbrev pub moved_child : ℕ → PieceChild → PieceChild
moved_child more (Own tree first) = Own tree (more + first)
moved_child more (Away index member) = Away (more + index) member

-- What comes of a row where the children of a tree of the record are changed, between whose proxies and places these stand.
pub record IsChangedBelow (k position : ℕ) (path : List ℕ) (tree : GappedTree) (change : Layout → Layout) (row below : Layout) (front back : List Proxy) (before behind : List RecordPlace) : Type 0 where
  pub body : (more : List Proxy) → piece_body (changed_below change position path row) ≡ with_tree position path (record { node = tree.node; below = piece_body (change below) }) (piece_body row) (proxies_of row ++ more)
  pub proxies : proxies_of (changed_below change position path row) ≡ front ++ (proxies_of (change below) ++ back)
  pub places : places_of (changed_below change position path row) ≡ before ++ (places_of (change below) ++ behind)
  pub changes : NodesChange (nodes_in row) (nodes_in (changed_below change position path row)) (nodes_in below) (nodes_in (change below))
  pub held : (stock : Stock) → AreHeld stock row → AreHeld stock (change below) → AreHeld stock (changed_below change position path row)
  pub light : AreLaidParts k row → AreLaidParts k (change below) → AreLaidParts k (changed_below change position path row)
  pub free : AreFree row → AreFree (changed_below change position path row)
  pub wide : width (changed_below change position path row) ≡ width row
  pub weighs : laid_weight (changed_below change position path row) + laid_weight below ≡ laid_weight row + laid_weight (change below)
  pub counted : nodes (laid_forest (changed_below change position path row)) + nodes (laid_forest below) ≡ nodes (laid_forest row) + nodes (laid_forest (change below))

-- The children of a tree of the record as a row of their own, and what comes of it all where that row is changed.
pub record HasChildren (k position : ℕ) (path : List ℕ) (tree : GappedTree) (first : ℕ) (row : Layout) : Type 0 where
  pub stays : StaysIn position path row
  pub below : Layout
  pub node : LaidNode
  pub shown : tree.node ≡ in_record node
  pub at : layout_at position path row ≡ Grown node below Bare
  pub there : member_tree (laid_forest row) position path ≡ Some (record { node = node.node; below = laid_forest below })
  pub below_is : piece_body below ≡ tree.below
  pub front : List Proxy
  pub back : List Proxy
  pub first_is : length front ≡ first
  pub proxies_were : proxies_of row ≡ front ++ (proxies_of below ++ back)
  pub taken : take (proxies_in tree.below) (drop first (proxies_of row)) ≡ proxies_of below
  pub rest : drop first (proxies_of row) ≡ proxies_of below ++ back
  pub children : (more : List Proxy) → children_of (proxies_of row) first tree.below ≡ map (λ child. moved_child first child) (children_of (proxies_of below ++ more) 0 (piece_body below))
  pub falls : (position : ℕ) → IsFallOf first position below (children_of (proxies_of row) first tree.below)
  pub before : List RecordPlace
  pub behind : List RecordPlace
  pub places_were : places_of row ≡ before ++ (places_of below ++ behind)
  pub held_below : (stock : Stock) → AreHeld stock row → AreHeld stock below
  pub light_below : AreLaidParts k row → AreLaidParts k below
  pub changed : (change : Layout → Layout) → IsChangedBelow k position path tree change row below front back before behind

-- Where a path leads to a tree of a piece, its children are a row in each row of members whose piece that is, and may be changed there.
abbrev pub ChildrenAreChanged : Type 0
ChildrenAreChanged = (k : ℕ) (members : Layout) (member : ℕ) (path : List ℕ) (tree : GappedTree) (first : ℕ) → reached_in (piece_of members) member path ≡ Inside tree first → HasChildren k member path tree first members

-- What a record has with a new root at a position, as a node among the others of a row of free trees.
pub record RootGoesIn (k : ℕ) (node : LaidNode) (position : ℕ) (row : Layout) : Type 0 where
  pub falls : FallsBetween position row
  pub same : joined_row (first position row) (Grown node Bare (behind position row)) ≡ with_node node position row
  pub body : (proxies : List Proxy) → piece_body (joined_row (first position row) (Grown node Bare (behind position row))) ≡ put_at (λ f. Grow (in_record node) End f) position (piece_body row) proxies
  pub goes : NodeGoesIn k node position row

abbrev pub RootIsPlanted : Type 0
RootIsPlanted = (k : ℕ) (node : LaidNode) (position : ℕ) (row : Layout) → AreFree row → position ≤ width row → RootGoesIn k node position row

-- A row of free trees in two, each as a piece, and what they have and weigh.
pub record RootsInTwo (k position : ℕ) (row : Layout) : Type 0 where
  pub same : joined_row (first position row) (behind position row) ≡ row
  pub first_body : piece_body (first position row) ≡ first_roots position (piece_body row)
  pub behind_body : piece_body (behind position row) ≡ roots_behind position (piece_body row)
  pub first_trees : (trees : List GappedTree) → piece_body row ≡ grown_of trees → piece_body (first position row) ≡ grown_of (take position trees)
  pub behind_trees : (trees : List GappedTree) → piece_body row ≡ grown_of trees → piece_body (behind position row) ≡ grown_of (drop position trees)
  pub proxies : proxies_of row ≡ proxies_of (first position row) ++ proxies_of (behind position row)
  pub taken : take (proxies_in (piece_body (first position row))) (proxies_of row) ≡ proxies_of (first position row)
  pub left : drop (proxies_in (piece_body (first position row))) (proxies_of row) ≡ proxies_of (behind position row)
  pub places : places_of row ≡ places_of (first position row) ++ places_of (behind position row)
  pub nodes_are : nodes_in row ≡ nodes_in (first position row) ++ nodes_in (behind position row)
  pub first_wide : width (first position row) ≡ position
  pub behind_wide : width (behind position row) ≡ width row - position
  pub weighs : laid_weight (first position row) + laid_weight (behind position row) ≡ laid_weight row
  pub counted : nodes (laid_forest (first position row)) + nodes (laid_forest (behind position row)) ≡ nodes (laid_forest row)
  pub held : (stock : Stock) → AreHeld stock row → AreHeld stock (first position row) × AreHeld stock (behind position row)
  pub light : AreLaidParts k row → AreLaidParts k (first position row) × AreLaidParts k (behind position row)
  pub free : AreFree (first position row) × AreFree (behind position row)

abbrev pub RootsAreDivided : Type 0
RootsAreDivided = (k position : ℕ) (row : Layout) → AreFree row → position ≤ width row → RootsInTwo k position row
