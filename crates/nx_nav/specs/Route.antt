-- The records that a path passes on its way to a node.
use Rattle.std.specs.Prelude.{◌≡◌, ℕ, ◌-◌, ◌≤◌, List, [], ◌∷◌, length, take, drop, Some}
use Rattle.std.specs.List.{slice_get}
use Rattle.nx_host.specs.declared.disk.Disk.{Ghosts}
use Rattle.nx_records.specs.Words.{Held}
use Rattle.nx_records.specs.declared.records.Records.{Records}
use Rattle.nx_piece.specs.declared.piece.Piece.{Piece}
use Rattle.nx_piece.specs.Gapped.{GappedTree, gapped_weight, gapped_width}
use Rattle.nx_piece.specs.Locate.{Inside, Outside, reached_in}
use Rattle.nx_piece.specs.Valid.{IsValidPiece}
use Rattle.nx_cuts.specs.Cut.{CutTree}
use Rattle.nx_layouts.specs.Layout.{RecordPlace}
use Rattle.nx_hold.specs.Pieces.{HoldsPiece}
use Rattle.nx_hold.specs.Changes.{place_named}
use Rattle.nx_hold.specs.Documents.{HasDocument}
use Rattle.nx_nav.specs.declared.routing.PassedRecord.{PassedRecord}
use Rattle.nx_nav.specs.declared.routing.Route.{Route}

-- The path, from a member of the piece on, leaves the piece as is kept of its record: into the record of this proxy, below this node, as its item has it.
pub record IsPassedRecord (piece : Piece) (member : ℕ) (path : List ℕ) (passed : PassedRecord) : Type 0 where
  pub leads : reached_in piece member path ≡ Outside passed.index passed.member passed.used
  pub proxy_is : slice_get piece.proxies passed.index ≡ Some passed.proxy
  pub roots_are : passed.roots ≡ gapped_width piece.body.roots
  pub weighs : passed.weight ≡ gapped_weight piece.body.roots
  pub above : (tree : GappedTree) × (first : ℕ) × (reached_in piece member (take (passed.used - 1) path) ≡ Inside tree first) × (passed.above ≡ tree.node.node)

-- From a member of the piece in the record at this place on, the path passes these records of what is held, and ends in the record with the last piece.
abbrev pub HasRoute : Held → RecordPlace → (member : ℕ) (path : List ℕ) → List PassedRecord → (last : Piece) → Type 0
HasRoute now place member path [] last = HoldsPiece now place last
HasRoute now place member path (passed ∷ more) last = ((piece : Piece) × HoldsPiece now place piece × IsPassedRecord piece member path passed) × HasRoute now (place_named passed.proxy) passed.member (drop passed.used path) more last

-- Whatever is held, their pieces may have so many roots, the path is long enough for them, and it leads to a tree of the last piece.
abbrev pub EndsInside : (member : ℕ) (path : List ℕ) → List PassedRecord → (last : Piece) → Type 0
EndsInside member path [] last = IsValidPiece last × ((tree : GappedTree) × (first : ℕ) × (reached_in last member path ≡ Inside tree first))
EndsInside member path (passed ∷ more) last = (1 ≤ passed.roots) × (passed.roots ≤ 256) × (passed.used ≤ length path) × EndsInside passed.member (drop passed.used path) more last

-- The route is that of the path in each document that the records hold from this place on.
pub record IsRoute {D : Type 0} (d : Ghosts D) (records : Records) (disk : D) (root : RecordPlace) (path : List ℕ) (route : Route) : Type 0 where
  pub ends : EndsInside 0 path route.passed.items route.last
  pub held : (document : CutTree) (has : HasDocument d records disk root document) → HasRoute has.now root 0 path route.passed.items route.last
