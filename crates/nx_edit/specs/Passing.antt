-- A record that a path passed, in whose piece something comes in the place of the proxy.
use Rattle.std.specs.Prelude.{◌≡◌, ◌⊎◌, ℕ, ◌+◌, ◌<◌, false, Some, length, ◌*◌}
use Rattle.std.specs.List.{slice_get}
use Rattle.nx_host.specs.Disk.{Rose}
use Rattle.nx_host.specs.declared.disk.Disk.{Ghosts}
use Rattle.nx_records.specs.Words.{Held, chain_count}
use Rattle.nx_records.specs.Records.{StandsFor, KeepsSaved, has_free}
use Rattle.nx_records.specs.Refusals.{EndNow, RunsOn}
use Rattle.nx_records.specs.declared.records.Records.{Records}
use Rattle.nx_records.specs.declared.error.StoreError.{StoreError}
use Rattle.nx_records.specs.declared.error.StoreError.TheVariants as store
use Rattle.nx_piece.specs.declared.piece.Piece.{Piece}
use Rattle.nx_piece.specs.Gapped.{gapped_width}
use Rattle.nx_layouts.specs.Layout.{RecordPlace}
use Rattle.nx_hold.specs.Pieces.{HoldsPiece}
use Rattle.nx_hold.specs.Contents.{near_in}
use Rattle.nx_nav.specs.declared.routing.PassedRecord.{PassedRecord}
use Rattle.nx_edit.specs.Making.{PutsFar}

-- the piece has the proxy there, and as many roots
abbrev pub IsPassedAs : PassedRecord → Piece → Type 0
IsPassedAs passed piece = (slice_get piece.proxies passed.index ≡ Some passed.proxy) × (passed.roots ≡ gapped_width piece.body.roots)

-- how many pages may be needed to put a piece: one for its record, those of a list of its proxies, and those of its contents that are too long for their items
abbrev pub put_needs : Piece → ℕ
put_needs piece = 1 + chain_count (8 * length piece.proxies) + near_in piece.body.roots

-- the piece came in the place of a record; or the record had it, and stays
abbrev pub PutsOrStays : (old new : RecordPlace) → Piece → (was now : Held) → Type 0
PutsOrStays old new piece was now = PutsFar old new piece was now ⊎ ((now ≡ was) × (new ≡ old) × HoldsPiece was old piece)

-- of each such piece that the record at the place holds
abbrev pub OfPassed : {D : Type 0} → Ghosts D → Records → D → RecordPlace → PassedRecord → (Held → Piece → Type 0) → Type 0
OfPassed d records disk place passed P = (saved now : Held) (piece : Piece) → StandsFor d records disk saved now → HoldsPiece now place piece → IsPassedAs passed piece → P now piece

-- No page is free now, and fewer were free than the new piece may need.
pub record FindsFewToPass {D : Type 0} (d : Ghosts D) (place : RecordPlace) (passed : PassedRecord) (put : Piece → Piece) (old new : Records) (before after : D) : Type 0 where
  pub runs : RunsOn old new
  pub keeps : KeepsSaved d old new before after
  pub none_free : has_free new ≡ false
  pub few : OfPassed d old before place passed (λ now piece. now.free < put_needs (put piece))

-- Why the new piece didn't come in the place of one that may be followed by it, and what that leaves.
abbrev pub NotPassed : {D : Type 0} → Ghosts D → RecordPlace → PassedRecord → (put : Piece → Piece) → (May : Piece → Type 0) → StoreError → Records → Records → D → D → Type 0
NotPassed d place passed put May store.Disk old new before after = Rose (d.faults before) (d.faults after) × EndNow old new
NotPassed d place passed put May store.Full old new before after = FindsFewToPass d place passed put old new before after
NotPassed d place passed put May (store.Damaged page) old new before after = EndNow old new × OfPassed d old before place passed (λ now piece. May piece → ⊥)
NotPassed d place passed put May store.Memory old new before after = RunsOn old new × KeepsSaved d old new before after
NotPassed d place passed put May store.Ended old new before after = ⊥
NotPassed d place passed put May store.Exists old new before after = ⊥
NotPassed d place passed put May store.NotAStore old new before after = ⊥
