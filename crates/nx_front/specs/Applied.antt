-- What `apply` does: it takes a stream of groups and applies each to the store on the disk, and says so; or it says why one isn't applied.
use Rattle.std.specs.Prelude.{◌≡◌, ◌⊎◌, ℕ, ◌<◌, ◌≤◌, List, [], ◌∷◌, ◌++◌, length, take, Option, Some, IsSome, codes, decimal}
use Rattle.nx_host.specs.declared.disk.Disk.{Ghosts}
use Rattle.nx_host.specs.Disk.{Image, Rose}
use Rattle.nx_host.specs.Host.{Takes, IsAtEnd, Appends}
use Rattle.nx_host.specs.Input.{most_input}
use Rattle.nx_host.specs.Time.{Stood, Elapses}
use Rattle.nx_host.specs.Still.{IsStill, IsSettled}
use Rattle.nx_records.specs.Words.{replay}
use Rattle.nx_records.specs.Records.{HasHeader}
use Rattle.nx_ship.specs.Words.{Pages, Group, over, entry_pages, over_all}
use Rattle.nx_ship.specs.Stream.{IsPartOfGroup, Begins}
use Rattle.nx_ship.specs.Next.{IsOpenFor, ComeInTurn, StayDense}
use Rattle.nx_ship.specs.Lost.{LacksNone, ShowsNoState}
use Rattle.nx_ship.specs.Applying.{applied_text, ShowsApplied, groups_in, HasLogged, AreIn, IsOutOfTurn, IsNoBase, IsNoGroup}
use Rattle.nx_state.specs.State.{State}
use Rattle.nx_state.specs.Stands.{Stands, Recovers}
use Rattle.nx_filters.specs.declared.status.Status.{Status}
use Rattle.nx_filters.specs.declared.status.Status.TheVariants.{Done, Usage, Refused, DiskFault, ReadFault, WriteFault, NoMemory, NotAStore, Damaged, TooMuch}
use Rattle.nx_filters.specs.Outcome.{TakesFew, CountsGrow}
use Rattle.nx_filters.specs.Refusal.{line_of_fields}
use Rattle.nx_front.specs.Init.{HasPage, IsUntroubled}
use Rattle.nx_front.specs.Serving.{IsCalm, EndsWell}

-- the lines for a group that comes again and for one that comes too early, beside the number of the last one
abbrev pub repeat_line : ℕ → ℕ → List ℕ
repeat_line number last = line_of_fields (codes "refused" ∷ codes "repeat" ∷ decimal number ∷ decimal last ∷ [])

abbrev pub gap_line : ℕ → ℕ → List ℕ
gap_line number last = line_of_fields (codes "refused" ∷ codes "gap" ∷ decimal number ∷ decimal last ∷ [])

-- the lines for a first group that isn't a whole store, and for an offset at which no group stands
abbrev pub base_line : ℕ → List ℕ
base_line number = line_of_fields (codes "refused" ∷ codes "base" ∷ decimal number ∷ [])

abbrev pub stream_line : ℕ → List ℕ
stream_line offset = line_of_fields (codes "refused" ∷ codes "stream" ∷ decimal offset ∷ [])

-- What stands behind these groups isn't applied, and this line says why: a good group isn't the next one, and its number is at most the last one's, or above it; or there is no page, and
-- a good group isn't a whole store; or no good group stands there.
pub data IsTurnedAway (start : Pages) (groups : List Group) (rest : List ℕ) (left : Option (List ℕ)) : List ℕ → Type 0 where
  Repeated : (number last : ℕ) → IsOutOfTurn (over_all start groups) rest number last → number ≤ last → IsTurnedAway start groups rest left (repeat_line number last)
  Early : (number last : ℕ) → IsOutOfTurn (over_all start groups) rest number last → last < number → IsTurnedAway start groups rest left (gap_line number last)
  NoBase : (number : ℕ) → IsNoBase (over_all start groups) rest number → IsTurnedAway start groups rest left (base_line number)
  NoGroup : (offset : ℕ) → IsNoGroup groups rest offset left → IsTurnedAway start groups rest left (stream_line offset)

-- a moment at which all groups are in and their lines out, and behind them a first part of this line
abbrev pub ShowsRefusal : Option (List ℕ) → Pages → List Group → List ℕ → Stood → Type 0
ShowsRefusal output start groups line s = ((n : ℕ) × Appends (applied_text groups ++ take n line) output s.output) × (replay s.image ≡ over_all start groups)

-- a moment of a run: some groups are in and their lines out; or all are, and what stands behind them is turned away
abbrev pub ShowsTaken : Option (List ℕ) → Pages → List Group → List ℕ → Option (List ℕ) → Stood → Type 0
ShowsTaken output start groups rest left s =
    ShowsApplied output start groups s ⊎ ((line : List ℕ) × IsTurnedAway start groups rest left line × ShowsRefusal output start groups line s)

-- All groups are in, and their lines are out; what stands behind them is turned away, and the line that says so is out.
pub record TurnsAway {D : Type 0} (d : Ghosts D) (start : Pages) (groups : List Group) (rest : List ℕ) (old new : D) : Type 0 where
  pub line : List ℕ
  pub why : IsTurnedAway start groups rest (d.beside new).input line
  pub out : Appends (applied_text groups ++ line) (d.beside old).output (d.beside new).output
  pub image : Image
  pub settled : IsSettled d new image
  pub is : replay image ≡ over_all start groups
  pub logged : (was : Image) → IsSettled d old was → HasLogged (groups_in was) groups image

-- how a run ends that took these bytes, which begin with these groups, and with this rest behind them, and that left this input: nothing is behind them, and the input has ended; or what is
-- there is turned away; or it is a part of a group; or the run was cut short
abbrev pub EndsTaking : Pages → List ℕ → List Group → List ℕ → Option (List ℕ) → Status → Type 0
EndsTaking start taken groups rest left Done = (rest ≡ []) × IsAtEnd left × (length taken < most_input)
EndsTaking start taken groups rest left Refused = (line : List ℕ) × IsTurnedAway start groups rest left line
EndsTaking start taken groups rest left ReadFault = IsPartOfGroup rest × (length taken < most_input)
EndsTaking start taken groups rest left TooMuch = IsPartOfGroup rest × (length taken ≡ most_input)
EndsTaking start taken groups rest left DiskFault = Unit {0}
EndsTaking start taken groups rest left WriteFault = Unit {0}
EndsTaking start taken groups rest left NoMemory = Unit {0}
EndsTaking start taken groups rest left _ = ⊥

-- what is in then, and out: all groups and their lines; and also the line of what is turned away
abbrev pub EndsApplied : {D : Type 0} → Ghosts D → Pages → List Group → List ℕ → Status → D → D → Type 0
EndsApplied d start groups rest Done old new = AreIn d start groups old new
EndsApplied d start groups rest Refused old new = TurnsAway d start groups rest old new
EndsApplied d start groups rest ReadFault old new = AreIn d start groups old new
EndsApplied d start groups rest TooMuch old new = AreIn d start groups old new
EndsApplied d start groups rest DiskFault old new = Unit {0}
EndsApplied d start groups rest WriteFault old new = Unit {0}
EndsApplied d start groups rest NoMemory old new = Unit {0}
EndsApplied d start groups rest _ old new = ⊥

-- What stood at each moment while groups were applied to these pages, and what is in at the end.
pub record ShowsGroups {D : Type 0} (d : Ghosts D) (start : Pages) (groups : List Group) (rest : List ℕ) (status : Status) (old new : D) : Type 0 where
  pub time : Elapses d.moment d.stood_since old new (ShowsTaken (d.beside old).output start groups rest (d.beside new).input)
  pub all_in : EndsApplied d start groups rest status old new

-- The store has a header and lost no page, or there is no page; and the groups were applied to it, each the next one, with which the bytes begin that were taken; and why no others were. What is said of images and of what is out holds where
-- the groups, laid over the pages in order, never leave a page missing below the greatest.
pub record TakesGroups {D : Type 0} (d : Ghosts D) (was : Image) (status : Status) (old new : D) : Type 0 where
  pub opened : IsOpenFor (replay was)
  pub whole : LacksNone was
  pub taken : List ℕ
  pub takes : Takes taken (d.beside old).input (d.beside new).input
  pub few : length taken ≤ most_input
  pub groups : List Group
  pub rest : List ℕ
  pub begins : Begins groups taken rest
  pub in_turn : ComeInTurn (replay was) groups
  pub why : EndsTaking (replay was) taken groups rest (d.beside new).input status
  pub shows : StayDense (replay was) groups → ShowsGroups d (replay was) groups rest status old new

-- why nothing was taken: there are pages, and no header; or page 0, which begins as one, is none, or pages are lost; or a call of the disk failed, or there was no memory
abbrev pub IsUntaken : Image → Status → Type 0
IsUntaken was NotAStore = (HasHeader was → ⊥) × HasPage was
IsUntaken was (Damaged page) = HasHeader was × ShowsNoState page was
IsUntaken was DiskFault = Unit {0}
IsUntaken was NoMemory = Unit {0}
IsUntaken was _ = ⊥

-- why it ends so, whatever the disk holds
abbrev pub IsApplyingCaused : {D : Type 0} → Ghosts D → Status → D → D → Type 0
IsApplyingCaused d DiskFault old new = Rose (d.faults old) (d.faults new)
IsApplyingCaused d ReadFault old new =
    Rose (d.beside old).in_faults (d.beside new).in_faults × (taken : List ℕ) × (length taken < most_input) × Takes taken (d.beside old).input (d.beside new).input
IsApplyingCaused d WriteFault old new = Rose (d.beside old).out_faults (d.beside new).out_faults
IsApplyingCaused d TooMuch old new = (taken : List ℕ) × (length taken ≡ most_input) × Takes taken (d.beside old).input (d.beside new).input
IsApplyingCaused d Done old new = (taken : List ℕ) × (length taken < most_input) × Takes taken (d.beside old).input (d.beside new).input × IsAtEnd (d.beside new).input
IsApplyingCaused d NotAStore old new = (was : Image) → IsSettled d old was → (HasHeader was → ⊥) × HasPage was
IsApplyingCaused d (Damaged page) old new = (was : Image) → IsSettled d old was → HasHeader was × ShowsNoState page was
IsApplyingCaused d Refused old new = Unit {0}
IsApplyingCaused d NoMemory old new = Unit {0}
IsApplyingCaused d Usage old new = ⊥

-- How `apply` is carried out: over a disk with one image, that is told; why it ends so, and what it leaves in any case.
pub record ReceivesGroups {D : Type 0} (d : Ghosts D) (status : Status) (old new : D) : Type 0 where
  pub from : (was : Image) → IsSettled d old was → IsSome (d.contents new) → TakesGroups d was status old new ⊎ (IsUntaken was status × IsStill d old new)
  pub cause : IsApplyingCaused d status old new
  pub told : IsSome (d.contents new) → IsSome (d.contents old)
  pub bounded : TakesFew (d.beside old).input (d.beside new).input
  pub counts : CountsGrow (d.beside old) (d.beside new)
  pub faults_later : d.faults old ≤ d.faults new

-- behind each of the groups, laid over the pages in order, they stand for a state
abbrev pub StandBehindEach : Pages → List Group → Type 0
StandBehindEach pages [] = Unit {0}
StandBehindEach pages (g ∷ gs) = ((state : State) × Stands (over (entry_pages g.entries) pages) state) × StandBehindEach (over (entry_pages g.entries) pages) gs

-- Where all is well, over a store in some state or a disk without pages a stream of groups is applied, each of which is the next one and leads to a state; and a disk with pages and without
-- a store is refused; unless memory runs out.
pub record CompletesApplying {D : Type 0} (d : Ghosts D) (status : Status) (old new : D) : Type 0 where
  pub store : (was : Image) (held : Option State) (input : List ℕ) (groups : List Group) → IsCalm d was input old new → Recovers was held
      → Begins groups input [] → ComeInTurn (replay was) groups → StandBehindEach (replay was) groups → EndsWell status
  pub no_store : (was : Image) → IsUntroubled d was old new → (HasHeader was → ⊥) → HasPage was → (status ≡ NotAStore) ⊎ (status ≡ NoMemory)

-- what isn't applied is turned away for one reason
abbrev pub ApplyHoldsTogether : Type 0
ApplyHoldsTogether = (start : Pages) (groups : List Group) (rest left one other : List ℕ) → IsTurnedAway start groups rest (Some left) one → IsTurnedAway start groups rest (Some left) other → one ≡ other
