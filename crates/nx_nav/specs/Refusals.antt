-- The documents that a call speaks of, and why it gives up.
use Rattle.std.specs.Prelude.{◌≡◌, ℕ, ◌+◌, ◌≤◌, false}
use Rattle.nx_host.specs.Disk.{Rose}
use Rattle.nx_host.specs.declared.disk.Disk.{Ghosts}
use Rattle.nx_records.specs.Records.{has_ended, LeavesRecords}
use Rattle.nx_records.specs.Refusals.{EndNow, HadEnded}
use Rattle.nx_records.specs.declared.records.Records.{Records}
use Rattle.nx_records.specs.declared.error.StoreError.{StoreError}
use Rattle.nx_records.specs.declared.error.StoreError.TheVariants as store
use Rattle.nx_tree.specs.Forest.{nodes}
use Rattle.nx_cuts.specs.Cut.{CutTree, tree_of}
use Rattle.nx_layouts.specs.Layout.{RecordPlace}
use Rattle.nx_hold.specs.Documents.{HasDocument}
use Rattle.nx_nav.specs.declared.error.NavError.{NavError}
use Rattle.nx_nav.specs.declared.error.NavError.TheVariants as error

-- of each document that the records hold from this place on
abbrev pub OfEach : {D : Type 0} → Ghosts D → Records → D → RecordPlace → (CutTree → Type 0) → Type 0
OfEach d records disk root P = (document : CutTree) → HasDocument d records disk root document → P document

-- how many nodes a document has, its root counted
abbrev pub node_count : CutTree → ℕ
node_count document = 1 + nodes (tree_of document).below

-- of each that has so many nodes
abbrev pub OfEachWith : {D : Type 0} → Ghosts D → Records → D → RecordPlace → ℕ → (CutTree → Type 0) → Type 0
OfEachWith d records disk root count P = OfEach d records disk root (λ document. node_count document ≡ count → P document)

-- there is none
abbrev pub HoldsNoDocument : {D : Type 0} → Ghosts D → Records → D → RecordPlace → Type 0
HoldsNoDocument d records disk root = OfEach d records disk root (λ document. ⊥)

-- there is none with so many nodes
abbrev pub HoldsNoneWith : {D : Type 0} → Ghosts D → Records → D → RecordPlace → ℕ → Type 0
HoldsNoneWith d records disk root count = OfEachWith d records disk root count (λ document. ⊥)

-- there is none with at most so many
abbrev pub HoldsNoneWithin : {D : Type 0} → Ghosts D → Records → D → RecordPlace → ℕ → Type 0
HoldsNoneWithin d records disk root most = OfEach d records disk root (λ document. node_count document ≤ most → ⊥)

-- Why a call gave up, and what it leaves: `NoNode` comes only where `Nowhere` holds, `Write` only where `Unwritten` does, and `Damaged` only where `Lacks` does.
abbrev pub IsRefused : {D : Type 0} → Ghosts D → (Nowhere Unwritten Lacks : Type 0) → NavError → Records → Records → D → D → Type 0
IsRefused d Nowhere Unwritten Lacks error.NoNode old new before after = Nowhere × (has_ended old ≡ false) × LeavesRecords old new
IsRefused d Nowhere Unwritten Lacks error.Disk old new before after = Rose (d.faults before) (d.faults after) × EndNow old new
IsRefused d Nowhere Unwritten Lacks error.Write old new before after = Unwritten × (has_ended old ≡ false) × LeavesRecords old new
IsRefused d Nowhere Unwritten Lacks (error.Damaged page) old new before after = Lacks × EndNow old new
IsRefused d Nowhere Unwritten Lacks error.Ended old new before after = HadEnded old new before after
IsRefused d Nowhere Unwritten Lacks error.Memory old new before after = (has_ended old ≡ false) × LeavesRecords old new

-- a call that reads a record gives up so
abbrev pub StopsReading : StoreError → Type 0
StopsReading store.Disk = Unit {0}
StopsReading (store.Damaged page) = Unit {0}
StopsReading store.Ended = Unit {0}
StopsReading store.Memory = Unit {0}
StopsReading _ = ⊥

-- the same refusal of a call that looks at a document
abbrev pub IsPassedOn : StoreError → NavError → Type 0
IsPassedOn store.Disk e = e ≡ error.Disk
IsPassedOn (store.Damaged page) e = e ≡ error.Damaged page
IsPassedOn store.Ended e = e ≡ error.Ended
IsPassedOn store.Memory e = e ≡ error.Memory
IsPassedOn _ e = ⊥
