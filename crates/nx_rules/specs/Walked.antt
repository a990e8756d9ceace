-- A document of the catalog, as far as a walk over its records has come, where what it came to keeps the rules.
use Rattle.std.specs.Prelude.{◌≡◌, ℕ, ◌*◌, ◌<◌, ◌≤◌, List, [], ◌∷◌, ◌++◌, map, Option, None, Some}
use Rattle.nx_tree.specs.declared.node.Kind.TheVariants.{Doc}
use Rattle.nx_tree.specs.Forest.{Forest, Empty, Plant}
use Rattle.nx_tree.specs.Document.{IsTop, IsForest, element_count, depth, deepest}
use Rattle.nx_replay.specs.Log.{Pages}
use Rattle.nx_holdings.specs.Holdings.{record_in, Link, content_of}
use Rattle.nx_piece.specs.declared.piece.Far.{Far}
use Rattle.nx_piece.specs.declared.piece.Proxy.{Proxy}
use Rattle.nx_piece.specs.declared.piece.Stored.{Stored}
use Rattle.nx_piece.specs.declared.piece.Stored.TheVariants.{Inline, Chained}
use Rattle.nx_piece.specs.Contents.{fars_in}
use Rattle.nx_piece.specs.Gapped.{Gapped, gapped_size}
use Rattle.nx_piece.specs.Encoding.{encoding, proxies_bytes}
use Rattle.nx_piece.specs.Valid.{IsValid, HasNumbers, HaveNumbers}
use Rattle.nx_cuts.specs.Cut.{Cut, Bare, Grown, Kept, width}
use Rattle.nx_layouts.specs.Layout.{RecordPlace, LaidNode, Layout, piece_body, proxy_of, laid_forest}
use Rattle.nx_hold.specs.Changes.{place_named}
use Rattle.nx_hold.specs.Pieces.{roots_stored}
use Rattle.nx_rules.specs.Listed.{IsSlottedPage, IsListOf}

-- An interval as a walk knows it: its record was reached, and with it the chain pages of each list that it names; or a proxy stands for it, and its record waits.
pub data Mark : Type 0 where
  Reached : (place : RecordPlace) (chains : List (List Link)) → Mark
  Waits : (proxy : Proxy) → Mark

-- Trees as far as a walk has come: an interval whose record waits has no members yet.
abbrev pub Walked : Type 0
Walked = Cut LaidNode Mark

abbrev pub place_marked : Mark → RecordPlace
place_marked (Reached place chains) = place
place_marked (Waits proxy) = place_named proxy

-- the trees with the places of their records alone
abbrev pub layout_of : Walked → Layout
layout_of Bare = Bare
layout_of (Grown node below beside) = Grown node (layout_of below) (layout_of beside)
layout_of (Kept mark members beside) = Kept (place_marked mark) (layout_of members) (layout_of beside)

-- the nodes that were reached, without the intervals
abbrev pub walked_forest : Walked → Forest
walked_forest w = laid_forest (layout_of w)

-- the marks of the intervals, in document order of their first members
abbrev pub marks_of : Walked → List Mark
marks_of Bare = []
marks_of (Grown node below beside) = marks_of below ++ marks_of beside
marks_of (Kept mark members beside) = mark ∷ marks_of members ++ marks_of beside

-- the records that were reached, in that order
abbrev pub records_reached : Walked → List RecordPlace
records_reached Bare = []
records_reached (Grown node below beside) = records_reached below ++ records_reached beside
records_reached (Kept (Reached place chains) members beside) = place ∷ records_reached members ++ records_reached beside
records_reached (Kept (Waits proxy) members beside) = records_reached members ++ records_reached beside

-- the chain pages of some lists, behind each other
abbrev pub links_behind : List (List Link) → List Link
links_behind [] = []
links_behind (links ∷ chains) = links ++ links_behind chains

-- the chain pages of their lists
abbrev pub links_in : Walked → List Link
links_in Bare = []
links_in (Grown node below beside) = links_in below ++ links_in beside
links_in (Kept (Reached place chains) members beside) = links_behind chains ++ links_in members ++ links_in beside
links_in (Kept (Waits proxy) members beside) = links_in members ++ links_in beside

-- who names a record: the catalog, or a record of a page
pub data Namer : Type 0 where
  ByCatalog : Namer
  ByRecord : (page : ℕ) → Namer

abbrev pub naming_page : Namer → ℕ
naming_page ByCatalog = 0
naming_page (ByRecord page) = page

-- a proxy, and who has it
pub record Named : Type 0 where
  pub by : Namer
  pub proxy : Proxy

abbrev pub named_place : Named → RecordPlace
named_place named = place_named named.proxy

-- the records that wait, in document order
abbrev pub waiting_in : Namer → Walked → List Named
waiting_in by Bare = []
waiting_in by (Grown node below beside) = waiting_in by below ++ waiting_in by beside
waiting_in by (Kept (Reached place chains) members beside) = waiting_in (ByRecord place.page) members ++ waiting_in by beside
waiting_in by (Kept (Waits proxy) members beside) = record { by = by; proxy = proxy } ∷ waiting_in by beside

abbrev pub WaitAll : List Mark → Type 0
WaitAll [] = Unit {0}
WaitAll (Reached place chains ∷ marks) = ⊥
WaitAll (Waits proxy ∷ marks) = WaitAll marks

-- no record that was reached stands behind one that waits
abbrev pub AreWalkedInOrder : List Mark → Type 0
AreWalkedInOrder [] = Unit {0}
AreWalkedInOrder (Reached place chains ∷ marks) = AreWalkedInOrder marks
AreWalkedInOrder (Waits proxy ∷ marks) = WaitAll marks

-- What one record has.

-- its nodes
abbrev pub walked_body : Walked → Gapped
walked_body w = piece_body (layout_of w)

-- its proxies: one that was followed has the number of the roots that were found
abbrev pub walked_proxies : Walked → List Proxy
walked_proxies Bare = []
walked_proxies (Grown node below beside) = walked_proxies below ++ walked_proxies beside
walked_proxies (Kept (Reached place chains) members beside) = proxy_of place (width members) ∷ walked_proxies beside
walked_proxies (Kept (Waits proxy) members beside) = proxy ∷ walked_proxies beside

-- a content, where it stands in a list
abbrev pub content_in : List ℕ → Option ℕ → List (List ℕ)
content_in content None = []
content_in content (Some first) = content ∷ []

-- the contents of its nodes that stand in lists, in document order
abbrev pub contents_apart : Walked → List (List ℕ)
contents_apart Bare = []
contents_apart (Grown node below beside) = content_in node.node.content node.list ++ (contents_apart below ++ contents_apart beside)
contents_apart (Kept mark members beside) = contents_apart beside

-- a slotted page has this record
pub record IsRecordAt (pages : Pages) (place : RecordPlace) (bytes : List ℕ) : Type 0 where
  pub page : List ℕ
  pub slotted : IsSlottedPage pages place.page page
  pub there : record_in (Some page) place.slot ≡ Some bytes

-- the record at the place has the bytes of this valid piece
pub record IsStoredAt (pages : Pages) (place : RecordPlace) (stored : Stored) : Type 0 where
  pub found : IsRecordAt pages place (encoding stored)
  pub valid : IsValid stored
  pub numbers : HasNumbers stored

-- the lists that a record names, by their first pages and their lengths: that of its proxies, and those of far contents in document order
abbrev pub lists_named : Stored → List Far
lists_named (Inline piece) = fars_in piece.body.roots
lists_named (Chained body count chain) = record { first = chain; length = 8 * count } ∷ fars_in body.roots

-- each of these lists stands on the chain pages beside it
abbrev pub StandOn : Pages → List Far → List (List Link) → Type 0
StandOn pages [] [] = Unit {0}
StandOn pages (far ∷ fars) (links ∷ chains) = IsListOf pages [] far.first far.length links × StandOn pages fars chains
StandOn pages _ _ = ⊥

-- the numbers of roots fit their fields
abbrev pub HaveRootNumbers : List Proxy → Type 0
HaveRootNumbers [] = Unit {0}
HaveRootNumbers (proxy ∷ proxies) = (proxy.roots < 65536) × HaveRootNumbers proxies

-- the record has these proxies, whatever numbers of roots they have where they stand in a list, and its lists hold these contents
abbrev pub SaysPiece : Stored → List Proxy → (contents held : List (List ℕ)) → Type 0
SaysPiece (Inline piece) proxies contents held = (piece.proxies ≡ proxies) × (held ≡ contents)
SaysPiece (Chained body count chain) proxies contents held = (held ≡ proxies_bytes proxies ∷ contents) × HaveNumbers proxies × HaveRootNumbers proxies

-- The record at the place is a piece with what these trees have of it, and its lists stand on these chain pages.
pub record HoldsRecord (pages : Pages) (place : RecordPlace) (members : Walked) (chains : List (List Link)) : Type 0 where
  pub stored : Stored
  pub there : IsStoredAt pages place stored
  pub roots : roots_stored stored ≡ walked_body members
  pub stand : StandOn pages (lists_named stored) chains
  pub says : SaysPiece stored (walked_proxies members) (contents_apart members) (map content_of chains)

-- each record that was reached holds what the trees have of it, and nothing is known of those that wait
abbrev pub AreRead : Pages → Walked → Type 0
AreRead pages Bare = Unit {0}
AreRead pages (Grown node below beside) = AreRead pages below × AreRead pages beside
AreRead pages (Kept (Reached place chains) members beside) = HoldsRecord pages place members chains × AreRead pages members × AreRead pages beside
AreRead pages (Kept (Waits proxy) members beside) = (members ≡ Bare) × AreRead pages beside

-- no record's node items take more than k slots
abbrev pub AreAllLight : ℕ → Walked → Type 0
AreAllLight k Bare = Unit {0}
AreAllLight k (Grown node below beside) = AreAllLight k below × AreAllLight k beside
AreAllLight k (Kept (Reached place chains) members beside) = (gapped_size (walked_body members) ≤ k) × AreAllLight k members × AreAllLight k beside
AreAllLight k (Kept (Waits proxy) members beside) = AreAllLight k beside

-- The nodes so far are of a document: a root over instructions and at most one element. Nothing is asked of their number.
abbrev pub IsSoFar : Forest → Type 0
IsSoFar Empty = Unit {0}
IsSoFar (Plant node below beside) =
    (node.kind ≡ Doc) × (node.name ≡ []) × (node.content ≡ []) × (beside ≡ Empty) × IsTop below × (element_count below ≤ 1) × IsForest below × (depth below ≤ deepest)
