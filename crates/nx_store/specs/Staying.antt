-- Which records of a store stay where a command is carried out.
use Rattle.std.specs.Prelude.{◌≡◌, ◌≢◌, ◌⊎◌, ℕ, Bool, true, false, List, Contains}
use Rattle.nx_host.specs.declared.disk.Disk.{Ghosts}
use Rattle.nx_records.specs.Words.{Held}
use Rattle.nx_layouts.specs.Layout.{RecordPlace}
use Rattle.nx_hold.specs.Pieces.{record_at, NamesList}
use Rattle.nx_edit.specs.Editing.{places_off}
use Rattle.nx_script.specs.declared.command.Command.{Command}
use Rattle.nx_script.specs.declared.command.Command.TheVariants.{Load, Discard, Rename, Delete, Retext, Insert}
use Rattle.nx_state.specs.State.{State}
use Rattle.nx_state.specs.Stands.{StoredDocument, record_places}
use Rattle.nx_store.specs.Store.{IsAt, IsNow}
use Rattle.nx_script.specs.declared.request.Request.{Request}
use Rattle.nx_script.specs.declared.request.Request.TheVariants.{Single, Transaction}
use Rattle.nx_store.specs.declared.store.Store.{Store}

-- The record at the place stays, with the list that it names.
pub record RecordStays (was now : Held) (place : RecordPlace) : Type 0 where
  pub itself : record_at now place ≡ record_at was place
  pub list : (count chain : ℕ) → NamesList was place count chain → now.lists chain ≡ was.lists chain

-- the place of a record of the document that holds no node on the way along the path, where it has the name; or of any of its records, where it has another
abbrev pub IsOffPath : (name : List ℕ) (stays : Bool) (path : List ℕ) → StoredDocument → RecordPlace → Type 0
IsOffPath name stays path s place = ((s.name ≡ name) × Contains (places_off stays path s.layout) place) ⊎ ((s.name ≢ name) × Contains (record_places s) place)

-- A command leaves the record of a document that stands at the place: an edit those off its path, where what stands below the path's end stays but where it is
-- deleted; a `drop` those of the other documents; any other command all.
abbrev pub IsLeftBy : Command → StoredDocument → RecordPlace → Type 0
IsLeftBy (Delete name path) s place = IsOffPath name false path s place
IsLeftBy (Retext name path text) s place = IsOffPath name true path s place
IsLeftBy (Insert name path line) s place = IsOffPath name true path s place
IsLeftBy (Discard name) s place = (s.name ≢ name) × Contains (record_places s) place
IsLeftBy _ s place = Contains (record_places s) place

-- of each of these documents the records stay that are left
abbrev pub RecordsStay : (Left : StoredDocument → RecordPlace → Type 0) → List StoredDocument → (was now : Held) → Type 0
RecordsStay Left stored was now = (s : StoredDocument) (place : RecordPlace) → Contains stored s → Left s place → RecordStays was now place

-- The documents with other names stay, each with its records' places.
abbrev pub OthersStay : (name : List ℕ) → (was now : List StoredDocument) → Type 0
OthersStay name was now = (s : StoredDocument) → Contains was s → s.name ≢ name → Contains now s

abbrev pub BothStay : (old new : List ℕ) → (was now : List StoredDocument) → Type 0
BothStay old new was now = (s : StoredDocument) → Contains was s → (s.name ≢ old) × (s.name ≢ new) → Contains now s

abbrev pub AllStay : (was now : List StoredDocument) → Type 0
AllStay was now = (s : StoredDocument) → Contains was s → Contains now s

-- the command names no document so
abbrev pub IsBeside : Command → List ℕ → Type 0
IsBeside (Load name body) other = other ≢ name
IsBeside (Discard name) other = other ≢ name
IsBeside (Rename old new) other = (other ≢ old) × (other ≢ new)
IsBeside (Insert name path line) other = other ≢ name
IsBeside (Delete name path) other = other ≢ name
IsBeside (Retext name path text) other = other ≢ name
IsBeside _ other = Unit {0}

-- none of the commands names a document so
abbrev pub IsBesideAll : List Command → List ℕ → Type 0
IsBesideAll commands other = (command : Command) → Contains commands command → IsBeside command other

-- Of what was held and what is held, each document with such a name is the same, and its records stay.
abbrev pub BesideStay : {D : Type 0} {d : Ghosts D} {old new : Store} {before after : D} {saved : Held} {state next : State} → (Beside : List ℕ → Type 0)
    → IsNow d old before saved state → IsNow d new after saved next → Type 0
BesideStay Beside was now = (s : StoredDocument) → Contains (was.state_is).stored s → Beside s.name
    → Contains (now.state_is).stored s × ((place : RecordPlace) → Contains (record_places s) place → RecordStays was.held now.held place)

-- A request leaves the records that its command leaves, and a transaction those of the documents that none of its commands names.
abbrev pub IsLeftByRequest : Request → StoredDocument → RecordPlace → Type 0
IsLeftByRequest (Single command) s place = IsLeftBy command s place
IsLeftByRequest (Transaction commands) s place = IsBesideAll commands s.name × Contains (record_places s) place

-- From whichever state the store was at to whichever it is at, all records stay that the request leaves.
abbrev pub LeavesOthers : {D : Type 0} → Ghosts D → Request → Store → Store → D → D → Type 0
LeavesOthers d request old new before after =
    (state next : State) (at : IsAt d old before state) (then : IsAt d new after next)
    → RecordsStay (IsLeftByRequest request) (at.state_is).stored at.held then.held
