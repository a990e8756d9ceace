-- The layouts that a call speaks of, how many pages it reads of each, and why it gives up.
use Rattle.std.specs.Prelude.{◌≡◌, ℕ, ◌+◌, ◌≤◌, Bool, false, List, [], ◌∷◌, filter}
use Rattle.nx_host.specs.Disk.{Rose}
use Rattle.nx_host.specs.declared.disk.Disk.{Ghosts}
use Rattle.nx_records.specs.Words.{Held}
use Rattle.nx_records.specs.Records.{StandsFor, has_ended, LeavesRecords}
use Rattle.nx_records.specs.Refusals.{EndNow, HadEnded}
use Rattle.nx_records.specs.declared.records.Records.{Records}
use Rattle.nx_cuts.specs.Cut.{CutTree}
use Rattle.nx_layouts.specs.Layout.{RecordPlace, Layout, IsLaidOutAs, whole, places_of}
use Rattle.nx_hold.specs.Pieces.{PieceMap, held_by}
use Rattle.nx_nav.specs.Along.{TakePages}
use Rattle.nx_nav.specs.Refusals.{node_count}
use Rattle.nx_nav.specs.declared.error.NavError.{NavError}
use Rattle.nx_nav.specs.declared.error.NavError.TheVariants as nav
use Rattle.nx_names.specs.Labels.{HoldsLabels}
use Rattle.nx_names.specs.Gathered.{holds_label}
use Rattle.nx_reach.specs.declared.step.Step.{Step}
use Rattle.nx_reach.specs.Reach.{label_of}
use Rattle.nx_find.specs.declared.names.Names.{Names}
use Rattle.nx_find.specs.declared.error.FindError.{FindError}
use Rattle.nx_find.specs.declared.error.FindError.TheVariants as error

-- of each layout below the root of each document that the records hold from this place on
abbrev pub OfEachLaid : {D : Type 0} → Ghosts D → Records → D → RecordPlace → (Held → CutTree → Layout → Type 0) → Type 0
OfEachLaid d records disk root P =
    (saved now : Held) → StandsFor d records disk saved now → (pieces : PieceMap now) (document : CutTree) (layout : Layout) → IsLaidOutAs (held_by pieces) root document layout → P now document layout

-- whether a node at or below the record at a place has the label, by these names
abbrev pub holds_of : Names → RecordPlace → List ℕ → Bool
holds_of names place label = holds_label names.map place label

-- they are the map of the labels of the document
abbrev pub IsMapOf : (RecordPlace → List ℕ → Bool) → RecordPlace → CutTree → Layout → Type 0
IsMapOf holds root document layout = HoldsLabels holds (whole root document.node layout)

-- ... of each such layout of a document of so many nodes that they are the map of
abbrev pub OfEachMapped : {D : Type 0} → Ghosts D → Records → D → RecordPlace → ℕ → (RecordPlace → List ℕ → Bool) → (Held → CutTree → Layout → Type 0) → Type 0
OfEachMapped d records disk root count holds P = OfEachLaid d records disk root (λ now document layout. node_count document ≡ count → IsMapOf holds root document layout → P now document layout)

-- no more pages were read than those on which the pieces of these records stand
abbrev pub ReadsOf : Held → List RecordPlace → ℕ → ℕ → Type 0
ReadsOf now places before after = (pages : ℕ) × (after ≤ before + pages) × TakePages now places pages

-- the label that the last step asks for
abbrev pub last_label : List Step → List ℕ
last_label [] = []
last_label (step ∷ []) = label_of step
last_label (step ∷ next ∷ more) = last_label (next ∷ more)

-- the root's record, and of those below it the ones that hold the label
abbrev pub records_for : (RecordPlace → List ℕ → Bool) → List ℕ → RecordPlace → Layout → List RecordPlace
records_for holds label root layout = root ∷ filter (λ place. holds place label) (places_of layout)

-- why a call gave up, and what it leaves: `Damaged` comes only where `Lacks` holds
abbrev pub IsGivenUp : {D : Type 0} → Ghosts D → (Lacks : Type 0) → FindError → Records → Records → D → D → Type 0
IsGivenUp d Lacks error.Disk old new before after = Rose (d.faults before) (d.faults after) × EndNow old new
IsGivenUp d Lacks (error.Damaged page) old new before after = Lacks × EndNow old new
IsGivenUp d Lacks error.Ended old new before after = HadEnded old new before after
IsGivenUp d Lacks error.Memory old new before after = (has_ended old ≡ false) × LeavesRecords old new

-- a walk gives up so
abbrev pub StopsWalking : NavError → Type 0
StopsWalking nav.NoNode = ⊥
StopsWalking nav.Write = ⊥
StopsWalking _ = Unit {0}

-- the same refusal of a call that looks for nodes
abbrev pub IsHandedOn : NavError → FindError → Type 0
IsHandedOn nav.Disk e = e ≡ error.Disk
IsHandedOn (nav.Damaged page) e = e ≡ error.Damaged page
IsHandedOn nav.Ended e = e ≡ error.Ended
IsHandedOn nav.Memory e = e ≡ error.Memory
IsHandedOn _ e = ⊥
