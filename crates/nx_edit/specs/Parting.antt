-- An interval that a node put into it divides: its record in two, and what the piece above it has in its place.
use Rattle.std.specs.Prelude.{◌≡◌, ℕ, ◌+◌, ◌<◌, ◌≤◌, false, List, [], ◌∷◌, length}
use Rattle.nx_host.specs.Disk.{Rose}
use Rattle.nx_host.specs.declared.disk.Disk.{Ghosts}
use Rattle.nx_records.specs.Words.{Held}
use Rattle.nx_records.specs.Records.{StandsFor, KeepsSaved, has_free}
use Rattle.nx_records.specs.Refusals.{EndNow, RunsOn}
use Rattle.nx_records.specs.declared.records.Records.{Records}
use Rattle.nx_records.specs.declared.error.StoreError.{StoreError}
use Rattle.nx_records.specs.declared.error.StoreError.TheVariants as store
use Rattle.nx_piece.specs.declared.piece.Piece.{Piece}
use Rattle.nx_piece.specs.declared.piece.Proxy.{Proxy}
use Rattle.nx_piece.specs.PieceNode.{PieceNode}
use Rattle.nx_piece.specs.Gapped.{End, Grow, gapped_width}
use Rattle.nx_piece_edits.specs.Cutting.{IsWithRow}
use Rattle.nx_piece_edits.specs.Dividing.{AreDivided}
use Rattle.nx_piece_edits.specs.Planting.{IsWithNode}
use Rattle.nx_matrix.specs.declared.rule.Entry.{Entry}
use Rattle.nx_matrix.specs.declared.rule.Entry.TheVariants as ask
use Rattle.nx_layouts.specs.Layout.{RecordPlace}
use Rattle.nx_hold.specs.Contents.{near_in}
use Rattle.nx_hold.specs.Pieces.{HoldsPiece, IsTidy}
use Rattle.nx_hold.specs.Changes.{place_named, AddsPiece, UpdatesPiece}
use Rattle.nx_edit.specs.Making.{IsMadeFar, MakesFar}

-- The record at a place held a piece with more roots than these, whose long contents came into lists. They came in its place, under the first proxy, and a record with those behind them came, under the second.
pub record IsRecordParted (place : RecordPlace) (before : ℕ) (front back : Proxy) (was now : Held) : Type 0 where
  pub inner : Piece
  pub there : HoldsPiece was place inner
  pub within : before < gapped_width inner.body.roots
  pub made : Piece
  pub far : IsMadeFar inner made
  pub start : Held
  pub start_tidy : IsTidy start
  pub makes : MakesFar inner made was start
  pub parts : Piece × Piece
  pub divided : AreDivided made before parts
  pub mid : Held
  pub tidy : IsTidy mid
  pub updates : UpdatesPiece place (place_named front) parts.0 start mid
  pub adds : AddsPiece (place_named back) parts.1 mid now
  pub front_roots : front.roots ≡ gapped_width parts.0.body.roots
  pub back_roots : back.roots ≡ gapped_width parts.1.body.roots

-- the two proxies have so many roots, and as few as a record may
abbrev pub HavePartRoots : (before : ℕ) (front back : Proxy) → Type 0
HavePartRoots before front back = (front.roots ≡ before) × (before ≤ 256) × (1 ≤ back.roots) × (back.roots ≤ 256)

-- of each piece with more roots than these that the record at the place may hold
abbrev pub OfParted : {D : Type 0} → Ghosts D → Records → D → RecordPlace → (before : ℕ) → (Held → Piece → Type 0) → Type 0
OfParted d records disk place before P =
    (saved now : Held) (inner : Piece) → StandsFor d records disk saved now → IsTidy now → HoldsPiece now place inner → before < gapped_width inner.body.roots → P now inner

-- No page is free now, and fewer were free than the two records may need.
pub record FindsFewToPart {D : Type 0} (d : Ghosts D) (place : RecordPlace) (before : ℕ) (old new : Records) (was now : D) : Type 0 where
  pub runs : RunsOn old new
  pub keeps : KeepsSaved d old new was now
  pub none_free : has_free new ≡ false
  pub few : OfParted d old was place before (λ now inner. now.free < 2 + length inner.proxies + near_in inner.body.roots)

-- Why the record wasn't parted, and what that leaves.
abbrev pub NotParted : {D : Type 0} → Ghosts D → RecordPlace → (before : ℕ) → StoreError → Records → Records → D → D → Type 0
NotParted d place before store.Disk old new was now = Rose (d.faults was) (d.faults now) × EndNow old new
NotParted d place before store.Full old new was now = FindsFewToPart d place before old new was now
NotParted d place before (store.Damaged page) old new was now = EndNow old new × OfParted d old was place before (λ now inner. ⊥)
NotParted d place before store.Memory old new was now = RunsOn old new × KeepsSaved d old new was now
NotParted d place before store.Ended old new was now = ⊥
NotParted d place before store.Exists old new was now = ⊥
NotParted d place before store.NotAStore old new was now = ⊥

-- a piece of one node
abbrev pub alone_piece : PieceNode → Piece
alone_piece node = record { body = record { roots = Grow node End End }; proxies = [] }

-- Two proxies stand in the place of one, and the node between them.
abbrev pub IsPlacedBetween : (piece : Piece) (member : ℕ) (path : List ℕ) (position index : ℕ) (front back : Proxy) → PieceNode → (placed : Piece) → Type 0
IsPlacedBetween piece member path position index front back node placed = (two : Piece) × IsWithRow piece index (front ∷ back ∷ []) two × IsWithNode two member path position node placed

-- Three proxies do, the second of a record that came with the node.
abbrev pub IsPlacedAlone : (piece : Piece) (index : ℕ) (front back : Proxy) → PieceNode → (placed : Piece) (was now : Held) → Type 0
IsPlacedAlone piece index front back node placed was now =
    (own : Proxy) × (own.roots ≡ 1) × AddsPiece (place_named own) (alone_piece node) was now × IsWithRow piece index (front ∷ own ∷ back ∷ []) placed

-- the one or the other, as the node is to stand
abbrev pub IsNodePlaced : Entry → (piece : Piece) (member : ℕ) (path : List ℕ) (position index : ℕ) (front back : Proxy) → PieceNode → (placed : Piece) (was now : Held) → Type 0
IsNodePlaced ask.Standalone piece member path position index front back node placed was now = IsPlacedAlone piece index front back node placed was now
IsNodePlaced ask.Cluster piece member path position index front back node placed was now = (now ≡ was) × IsPlacedBetween piece member path position index front back node placed
IsNodePlaced ask.Free piece member path position index front back node placed was now = (now ≡ was) × IsPlacedBetween piece member path position index front back node placed
