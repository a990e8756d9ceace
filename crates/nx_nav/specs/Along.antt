-- The records that a path leads through, and the pages that are read on it.
use Rattle.std.specs.Prelude.{◌≡◌, ◌⊎◌, ℕ, ◌+◌, ◌≤◌, List, [], ◌∷◌, length, drop, Option, Some, Contains}
use Rattle.std.specs.List.{slice_get}
use Rattle.nx_host.specs.declared.disk.Disk.{Ghosts}
use Rattle.nx_records.specs.Words.{Held, chain_count}
use Rattle.nx_records.specs.Records.{StandsFor}
use Rattle.nx_records.specs.declared.records.Records.{Records}
use Rattle.nx_tree.specs.Document.{deepest}
use Rattle.nx_tree.specs.Forest.{OrderedTree}
use Rattle.nx_piece.specs.declared.piece.Far.{Far}
use Rattle.nx_piece.specs.declared.piece.Piece.{Piece}
use Rattle.nx_piece.specs.declared.piece.Proxy.{Proxy}
use Rattle.nx_piece.specs.Locate.{Outside, reached_in}
use Rattle.nx_layouts.specs.Layout.{RecordPlace}
use Rattle.nx_hold.specs.Pieces.{HoldsPiece, NamesContent}
use Rattle.nx_hold.specs.Changes.{TakesPages, place_named}

-- The path leads through these records, from a member of the piece in the record at this place on: each one but the first stands where the path leaves the piece of the one before.
abbrev pub LeadsThrough : Held → RecordPlace → ℕ → List ℕ → List RecordPlace → Type 0
LeadsThrough now place member rest [] = Unit {0}
LeadsThrough now place member rest (first ∷ []) = first ≡ place
LeadsThrough now place member rest (first ∷ second ∷ more) =
    (first ≡ place) × ((piece : Piece) × (index inner used : ℕ) × (proxy : Proxy) × HoldsPiece now place piece × (reached_in piece member rest ≡ Outside index inner used)
    × (slice_get piece.proxies index ≡ Some proxy) × LeadsThrough now (place_named proxy) inner (drop used rest) (second ∷ more))

-- the pieces of the records at these places stand on so many pages
abbrev pub TakePages : Held → List RecordPlace → ℕ → Type 0
TakePages now [] pages = pages ≡ 0
TakePages now (place ∷ more) pages = (own rest : ℕ) × TakesPages now place own × TakePages now more rest × (pages ≡ own + rest)

-- no more pages were read than the piece of the record at a place stands on
abbrev pub ReadsPiece : {D : Type 0} → Ghosts D → Records → D → D → RecordPlace → Type 0
ReadsPiece d records old new place = (pages : ℕ) × (d.reads new ≤ d.reads old + pages) × ((saved now : Held) → StandsFor d records old saved now → TakesPages now place pages)

-- From a count of reads to another no more pages were read than the pieces stand on that the path leads through, of at most 256 levels below the root's.
pub record ReadsAlong (now : Held) (root : RecordPlace) (path : List ℕ) (old new : ℕ) : Type 0 where
  pub places : List RecordPlace
  pub lead : LeadsThrough now root 0 path places
  pub levels : length places ≤ deepest + 1
  pub pages : ℕ
  pub are : TakePages now places pages
  pub few : new ≤ old + pages

-- where a content is far, one of the records at these places names its list
abbrev pub IsNamedAlong : Held → List RecordPlace → Option Far → Type 0
IsNamedAlong now places named = (far : Far) → named ≡ Some far → (place : RecordPlace) × Contains places place × NamesContent now place far

-- So many pages are read for the content of the node that was found: none, or the chain pages of the list that the record at one of these places names for it.
abbrev pub TakesContent : Held → List RecordPlace → Option OrderedTree → ℕ → Type 0
TakesContent now places found pages =
    (pages ≡ 0) ⊎ ((t : OrderedTree) × (place : RecordPlace) × (far : Far) × (found ≡ Some t) × Contains places place × NamesContent now place far
    × (now.lists far.first ≡ Some t.node.content) × (pages ≡ chain_count (length t.node.content)))

-- From a count of reads to another no more pages were read than those of the pieces along the path, and behind them those of the content of the node that was found.
pub record ReadsShown (now : Held) (root : RecordPlace) (path : List ℕ) (found : Option OrderedTree) (old new : ℕ) : Type 0 where
  pub between : ℕ
  pub along : ReadsAlong now root path old between
  pub content : ℕ
  pub shown : TakesContent now along.places found content
  pub few : new ≤ between + content
