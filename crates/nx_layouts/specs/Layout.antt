-- A document as records hold it: each interval is marked with the place of its record, and each far content with the first page of its list.
use Rattle.std.specs.Prelude.{◌≡◌, ℕ, ◌+◌, ◌≤◌, List, [], ◌∷◌, ◌++◌, length, Option, None, Some, Contains}
use Rattle.std.specs.Option.{option_to_list}
use Rattle.nx_tree.specs.declared.node.Node.{Node}
use Rattle.nx_tree.specs.Document.{IsDocument}
use Rattle.nx_piece.specs.declared.piece.Proxy.{Proxy}
use Rattle.nx_piece.specs.declared.piece.Piece.{Piece}
use Rattle.nx_piece.specs.PieceNode.{PieceNode}
use Rattle.nx_piece.specs.Gapped.{Gapped, End, Grow, Gap, gapped_size}
use Rattle.nx_tree.specs.Forest.{Forest}
use Rattle.nx_cuts.specs.Cut.{Cut, Bare, Grown, Kept, CutForest, CutTree, forest, width, part_weight, AreParts, tree_of}

-- where a record stands
pub record RecordPlace : Type 0 where
  pub page : ℕ
  pub slot : ℕ

-- A node of a document as it is stored: with all of its content, and the first page of the list that holds it, where that is far.
pub record LaidNode : Type 0 where
  pub node : Node
  pub list : Option ℕ

-- a node whose content stands in its item
abbrev pub laid_near : Node → LaidNode
laid_near node = record { node = node; list = None }

-- trees beside each other, with the places of the records of their intervals
abbrev pub Layout : Type 0
Layout = Cut LaidNode RecordPlace

-- the same without the places, and without the lists
abbrev pub without_places : Layout → CutForest
without_places Bare = Bare
without_places (Grown node below beside) = Grown node.node (without_places below) (without_places beside)
without_places (Kept place members beside) = Kept tt (without_places members) (without_places beside)

-- what is drawn of it: its trees, what weighs with the node above, and that no part weighs more than k
abbrev pub laid_forest : Layout → Forest
laid_forest row = forest (without_places row)

abbrev pub laid_weight : Layout → ℕ
laid_weight row = part_weight (without_places row)

abbrev pub AreLaidParts : ℕ → Layout → Type 0
AreLaidParts k row = AreParts k (without_places row)

-- a node with its content in such a list, or in none, as an item has it
abbrev pub shown_with : Node → Option ℕ → PieceNode
shown_with node None = record { node = node; far = None }
shown_with node (Some first) = record { node = record node { content = [] }; far = Some (record { first = first; length = length node.content }) }

-- the node as its record has it
abbrev pub in_record : LaidNode → PieceNode
in_record n = shown_with n.node n.list

-- with one proxy more in front of it
abbrev pub gap_more : Gapped → Gapped
gap_more End = Gap 1 End
gap_more (Grow node below beside) = Gap 1 (Grow node below beside)
gap_more (Gap count beside) = Gap (count + 1) beside

-- what one record has of it: intervals beside each other are one gap
abbrev pub piece_body : Layout → Gapped
piece_body Bare = End
piece_body (Grown node below beside) = Grow (in_record node) (piece_body below) (piece_body beside)
piece_body (Kept place members beside) = gap_more (piece_body beside)

abbrev pub proxy_of : RecordPlace → ℕ → Proxy
proxy_of place roots = record { page = place.page; slot = place.slot; roots = roots }

-- the proxies that these gaps stand for, in order
abbrev pub proxies_of : Layout → List Proxy
proxies_of Bare = []
proxies_of (Grown node below beside) = proxies_of below ++ proxies_of beside
proxies_of (Kept place members beside) = proxy_of place (width members) ∷ proxies_of beside

-- the piece of the record of an interval with these members
abbrev pub piece_of : Layout → Piece
piece_of members = record { body = record { roots = piece_body members }; proxies = proxies_of members }

-- the nodes in document order, those of the intervals among them
abbrev pub nodes_in : Layout → List LaidNode
nodes_in Bare = []
nodes_in (Grown node below beside) = node ∷ nodes_in below ++ nodes_in beside
nodes_in (Kept place members beside) = nodes_in members ++ nodes_in beside

-- the first pages of the lists that hold contents of these nodes, in order
abbrev pub lists_of : List LaidNode → List ℕ
lists_of [] = []
lists_of (n ∷ ns) = option_to_list n.list ++ lists_of ns

abbrev pub contents_of : Layout → List ℕ
contents_of layout = lists_of (nodes_in layout)

-- What records hold: a piece at each place and a byte list at each first page; and how many slots the items of a document's piece may take.
pub record Stock : Type 0 where
  pub piece_at : RecordPlace → Option Piece
  pub list_at : ℕ → Option (List ℕ)
  pub most : ℕ

-- where the node's content is far, its list holds it
abbrev pub IsReadIn : (ℕ → Option (List ℕ)) → LaidNode → Type 0
IsReadIn lists n = (first : ℕ) → n.list ≡ Some first → lists first ≡ Some n.node.content

-- At the place stands the piece of these members, whose items take no more slots than they may.
pub record IsHeldAt (stock : Stock) (place : RecordPlace) (members : Layout) : Type 0 where
  pub there : stock.piece_at place ≡ Some (piece_of members)
  pub fits : gapped_size (piece_body members) ≤ stock.most

-- at the place of each interval stands the piece of its members, and each far content is read in its list
abbrev pub AreHeld : Stock → Layout → Type 0
AreHeld stock Bare = Unit {0}
AreHeld stock (Grown node below beside) = IsReadIn stock.list_at node × AreHeld stock below × AreHeld stock beside
AreHeld stock (Kept place members beside) = IsHeldAt stock place members × AreHeld stock members × AreHeld stock beside

-- the places, in document order of the intervals' first members
abbrev pub places_of : Layout → List RecordPlace
places_of Bare = []
places_of (Grown node below beside) = places_of below ++ places_of beside
places_of (Kept place members beside) = place ∷ places_of members ++ places_of beside

-- none of these comes twice
abbrev pub AreOnce : {T : Type 0} → List T → Type 0
AreOnce [] = Unit {0}
AreOnce (x ∷ rest) = (Contains rest x → ⊥) × AreOnce rest

abbrev pub ArePlacedOnce : List RecordPlace → Type 0
ArePlacedOnce places = AreOnce places

-- a whole document, whose root is the one member of its own interval
abbrev pub whole : RecordPlace → Node → Layout → Layout
whole root node below = Kept root (Grown (laid_near node) below Bare) Bare

-- The records hold the document in this layout of what is below its root, whose record is at this place: there is one record for each interval, with the piece of its members, and no
-- part weighs more than a record's nodes may.
pub record IsLaidOutAs (stock : Stock) (root : RecordPlace) (document : CutTree) (layout : Layout) : Type 0 where
  pub same : without_places layout ≡ document.below
  pub held : AreHeld stock (whole root document.node layout)
  pub once : ArePlacedOnce (places_of (whole root document.node layout))
  pub light : AreLaidParts stock.most (whole root document.node layout)
  pub is_document : IsDocument (tree_of document)

-- From the record at a place on the records hold the document with its intervals, in some layout.
pub record IsLaidOut (stock : Stock) (root : RecordPlace) (document : CutTree) : Type 0 where
  pub layout : Layout
  pub laid : IsLaidOutAs stock root document layout

-- From one place on they hold one document at most, cut in one way.
abbrev pub OneDocument : Type 0
OneDocument = (stock : Stock) (root : RecordPlace) (document other : CutTree) → IsLaidOut stock root document → IsLaidOut stock root other → document ≡ other
