-- What is read while nothing is given yet.
use Rattle.std.specs.Prelude.{◌≡◌, ◌⊎◌, ℕ, ◌+◌, ◌≤◌, List, [], ◌∷◌, Some, IsSome}
use Rattle.nx_host.specs.declared.disk.Disk.{Ghosts}
use Rattle.nx_records.specs.Words.{Held}
use Rattle.nx_records.specs.Records.{StandsFor}
use Rattle.nx_records.specs.declared.records.Records.{Records}
use Rattle.nx_piece.specs.declared.piece.Piece.{Piece}
use Rattle.nx_piece.specs.declared.piece.Proxy.{Proxy}
use Rattle.nx_piece.specs.Gapped.{Gapped, GappedTree, End, Grow, Gap}
use Rattle.nx_piece.specs.Valid.{IsValidPiece}
use Rattle.nx_layouts.specs.Layout.{RecordPlace}
use Rattle.nx_hold.specs.Changes.{TakesPages, place_named}
use Rattle.nx_nav.specs.Along.{ReadsPiece}
use Rattle.nx_nav.specs.Given.{GivesText}
use Rattle.nx_nav.specs.Parts.{IsPieceAt}
use Rattle.nx_nav.specs.declared.exporting.Stage.{Stage}
use Rattle.nx_nav.specs.declared.exporting.Stage.TheVariants.{Unread, Held as Waits, Given}

-- The disk's contents are told at the end, and the output is told and as it was.
pub record LeavesOutput {D : Type 0} (d : Ghosts D) (old new : D) : Type 0 where
  pub told : IsSome (d.contents new)
  pub output : List ℕ
  pub was : (d.beside old).output ≡ Some output
  pub is : (d.beside new).output ≡ Some output

-- How near an export is to giving something that has this in its block.
abbrev pub near_giving : Stage → List ℕ → ℕ
near_giving Unread block = 1
near_giving Waits [] = 2
near_giving Waits (byte ∷ bytes) = 3
near_giving Given block = 0

-- From one export and a host to others this text came, and while nothing was given it came no further from that.
abbrev pub TellsText : {D : Type 0} → Ghosts D → Stage → (block : List ℕ) → D → (text : List ℕ) → Stage → (left : List ℕ) → D → Type 0
TellsText d stage block old text later left new = GivesText d block old text left new × (LeavesOutput d old new → near_giving stage block ≤ near_giving later left)

-- No more was read; or, where nothing was waiting to be given, no more than this.
abbrev pub ReadsAtMost : (near before after : ℕ) → Type 0 → Type 0
ReadsAtMost near before after More = (after ≤ before) ⊎ ((near ≤ 2) × More)

-- a gap is the first
abbrev pub BeginsGap : Gapped → Type 0
BeginsGap End = ⊥
BeginsGap (Grow node below beside) = ⊥
BeginsGap (Gap count beside) = Unit {0}

-- In the piece the first child of the first root is kept elsewhere, in the record of this proxy.
pub record KeepsAway (piece : Piece) (proxy : Proxy) : Type 0 where
  pub valid : IsValidPiece piece
  pub root : GappedTree
  pub beside : Gapped
  pub roots : piece.body.roots ≡ Grow root.node root.below beside
  pub gap : BeginsGap root.below
  pub more : List Proxy
  pub proxies : piece.proxies ≡ proxy ∷ more

module _ {D : Type 0} (d : Ghosts D) (records : Records) (old new : D) where
  -- no more was read than the piece in the record of the first of these proxies
  abbrev pub ReadsFirstOf : List Proxy → Type 0
  ReadsFirstOf proxies = (proxy : Proxy) × (more : List Proxy) × (proxies ≡ proxy ∷ more) × ReadsPiece d records old new (place_named proxy)

  -- ... of the first gap, which is the first item
  abbrev pub ReadsGap : Gapped → List Proxy → Type 0
  ReadsGap items proxies = BeginsGap items × ReadsFirstOf proxies

  -- No more was read than the piece in the record at this place, and that in which the first child of its first root is kept.
  pub record ReadsTwo (place : RecordPlace) (roots : ℕ) : Type 0 where
    pub piece : Piece
    pub proxy : Proxy
    pub is : IsPieceAt d records old place roots piece
    pub away : KeepsAway piece proxy
    pub own : ℕ
    pub extra : ℕ
    pub few : d.reads new ≤ d.reads old + own + extra
    pub are : (saved now : Held) → StandsFor d records old saved now → TakesPages now place own × TakesPages now (place_named proxy) extra

  -- No more was read than that of an interval, of a document's root where so many levels may come.
  abbrev pub ReadsInterval : RecordPlace → (roots depth : ℕ) → Type 0
  ReadsInterval place roots depth = ReadsPiece d records old new place ⊎ ((depth ≡ 257) × ReadsTwo place roots)
