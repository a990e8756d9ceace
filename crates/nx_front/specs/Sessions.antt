-- Sessions over a disk, one after the other. Each may be stopped at any moment, and the next one is opened on an image that it left.
use Rattle.std.specs.Prelude.{◌≡◌, ◌⊎◌, ◌+◌, ◌≤◌, ℕ, List, [], ◌∷◌, ◌++◌, length, take, Option, None, Some, IfSome, IsSome, MatchOption}
use Rattle.std.proofs.Common.{inl, inr}
use Rattle.nx_host.specs.declared.disk.Disk.{Ghosts}
use Rattle.nx_host.specs.Disk.{Image, Keeps}
use Rattle.nx_host.specs.Host.{Takes, Appends}
use Rattle.nx_host.specs.Still.{IsSettled, IsStill}
use Rattle.nx_host.specs.Time.{Stood}
use Rattle.nx_records.specs.Words.{replay, Settings}
use Rattle.nx_script.specs.declared.request.Request.{Request}
use Rattle.nx_script.specs.Requests.{AreRequests}
use Rattle.nx_state.specs.State.{State, new_state}
use Rattle.nx_ship.specs.Words.{Pages, Group, over_all}
use Rattle.nx_ship.specs.Stream.{Begins}
use Rattle.nx_ship.specs.Applying.{applied_text}
use Rattle.nx_state.specs.Stands.{Stands, Recovers}
use Rattle.nx_filters.specs.declared.status.Status.{Status}
use Rattle.nx_front.specs.declared.words.CommandLine.{CommandLine}
use Rattle.nx_front.specs.declared.words.CommandLine.TheVariants.{Run, Init, Gen, Apply}
use Rattle.nx_front.specs.Turns.{Turn, IsRun, state_after, requests_of}
use Rattle.nx_front.specs.Serving.{AreWholeReplies, BeginsWith}
use Rattle.nx_front.specs.Generating.{generated, generated_requests}
use Rattle.nx_front.specs.Applied.{TakesGroups, IsUntaken, StandBehindEach}
use Rattle.nx_front.specs.Run.{IsCarriedOut}

-- behind each of the groups that were applied, the pages stand for a state
abbrev pub AppliedStand : {D : Type 0} {d : Ghosts D} {was : Image} {status : Status} {old new : D} → TakesGroups d was status old new ⊎ (IsUntaken was status × IsStill d old new) → Type 0
AppliedStand {was = was} (inl takes) = StandBehindEach (replay was) takes.groups
AppliedStand (inr none) = Unit {0}

-- ... where the command line is `apply`
abbrev pub LeadsToStates : {D : Type 0} (d : Ghosts D) (line : CommandLine) (status : Status) (old new : D) → IsCarriedOut d line status old new → (was : Image) → IsSettled d old was
    → IsSome (d.contents new) → Type 0
LeadsToStates d Apply status old new carried was settled told = AppliedStand (carried.from was settled told)
LeadsToStates d _ status old new carried was settled told = Unit {0}

-- A session: a command line that was carried out over a disk which had this image, and nothing unsynced, and told its bytes to the end. Where groups were applied, each led to a
-- state, as those of a store's log do that are the next ones. What stood at a moment of it, the end too: the output so far, and an image that a stop then leaves.
pub record Session {D : Type 0} (d : Ghosts D) : Type 0 where
  pub line : CommandLine
  pub status : Status
  pub before : D
  pub after : D
  pub carried : IsCarriedOut d line status before after
  pub opened : Image
  pub settled : IsSettled d before opened
  pub told : IsSome (d.contents after)
  pub applied : LeadsToStates d line status before after carried opened settled told
  pub stop : Stood
  pub stood : d.stood_since after (d.moment before) stop

-- Each session was opened on the image that the one before left, the first one on this image.
abbrev pub AreSuccessive : {D : Type 0} {d : Ghosts D} → Image → List (Session d) → Type 0
AreSuccessive image [] = Unit {0}
AreSuccessive image (session ∷ sessions) = (session.opened ≡ image) × AreSuccessive (session.stop).image sessions

-- the image that the last one left
abbrev pub last_image : {D : Type 0} {d : Ghosts D} → Image → List (Session d) → Image
last_image image [] = image
last_image image (session ∷ sessions) = last_image (session.stop).image sessions

-- These requests begin the input, where it is told to the end.
abbrev pub BeginInput : List Request → Option (List ℕ) → Option (List ℕ) → Type 0
BeginInput requests before after = IfSome after (λ _. IfSome before (λ input. (rest : List Request) × AreRequests input (requests ++ rest)))

-- A `run` did the first turns of one run over its input: all whose replies are whole in what is out, and at most one more.
pub record HasAnswered {D : Type 0} {d : Ghosts D} (session : Session d) (state : State) (next : Option State) : Type 0 where
  pub done : List Turn
  pub rest : List Turn
  pub run : IsRun state (done ++ rest)
  pub first : BeginInput (requests_of (done ++ rest)) (d.beside session.before).input (d.beside session.after).input
  pub out : List ℕ
  pub gave : Appends out (d.beside session.before).output (session.stop).output
  pub count : ℕ
  pub acknowledged : AreWholeReplies (done ++ rest) out count
  pub all_acknowledged : count ≤ length done
  pub one_more : length done ≤ count + 1
  pub leads : next ≡ Some (state_after state done)

-- A `gen` did the first of its commands, each a request of its own, and all of them where anything is out.
pub record HasGenerated {D : Type 0} {d : Ghosts D} (all : List Request) (session : Session d) (state : State) (next : Option State) : Type 0 where
  pub done : List Turn
  pub rest : List Request
  pub run : IsRun state done
  pub first : requests_of done ++ rest ≡ all
  pub all_once_out : Keeps (d.beside session.before).output (session.stop).output ⊎ (rest ≡ [])
  pub leads : next ≡ Some (state_after state done)

-- An `init` made the new store, or there is none still, and nothing is out.
abbrev pub HasMade : {D : Type 0} {d : Ghosts D} → Settings → Session d → Option State → Type 0
HasMade {d = d} settings session next = (next ≡ Some (new_state settings)) ⊎ ((next ≡ None) × Keeps (d.beside session.before).output (session.stop).output)

-- the pages are those of a store in this state, or, without a state, of none
abbrev pub AreOfState : Pages → Option State → Type 0
AreOfState pages None = (p : ℕ) → pages p ≡ None
AreOfState pages (Some state) = Stands pages state

-- An `apply` laid the first groups of its stream over the pages: all whose lines are whole in what is out, and at most one more.
pub record HasReceived {D : Type 0} {d : Ghosts D} (session : Session d) (next : Option State) : Type 0 where
  pub done : List Group
  pub rest : List Group
  pub taken : List ℕ
  pub behind : List ℕ
  pub takes : Takes taken (d.beside session.before).input (d.beside session.after).input
  pub begins : Begins (done ++ rest) taken behind
  pub out : List ℕ
  pub gave : Appends out (d.beside session.before).output (session.stop).output
  pub count : ℕ
  pub acknowledged : BeginsWith (applied_text (take count done)) out
  pub all_acknowledged : (more : ℕ) → more ≤ length (done ++ rest) → BeginsWith (applied_text (take more (done ++ rest))) out → more ≤ length done
  pub one_more : length done ≤ count + 1
  pub leads : AreOfState (over_all (replay session.opened) done) next

-- what a session of this command line led to over a store in this state: where it didn't change it, the same
abbrev pub LeadsFrom : {D : Type 0} {d : Ghosts D} → CommandLine → Session d → State → Option State → Type 0
LeadsFrom Run session state next = HasAnswered session state next
LeadsFrom (Gen seed n) session state next = MatchOption (generated state) (HasGenerated (generated_requests seed n) session state next) (λ document. next ≡ Some state)
LeadsFrom Apply session state next = HasReceived session next
LeadsFrom _ session state next = next ≡ Some state

-- ... and over a disk without pages
abbrev pub LeadsFromNone : {D : Type 0} {d : Ghosts D} → CommandLine → Session d → Option State → Type 0
LeadsFromNone (Init settings) session next = HasMade settings session next
LeadsFromNone Apply session next = HasReceived session next
LeadsFromNone _ session next = next ≡ None

-- From what the disk held the session led to what its image holds.
abbrev pub Leads : {D : Type 0} {d : Ghosts D} → Session d → Option State → Option State → Type 0
Leads session held next = MatchOption held (LeadsFromNone session.line session next) (λ state. LeadsFrom session.line session state next)

-- ... each session in order
abbrev pub LeadInOrder : {D : Type 0} {d : Ghosts D} → List (Session d) → Option State → Option State → Type 0
LeadInOrder [] held last = last ≡ held
LeadInOrder (session ∷ sessions) held last = (next : Option State) × Leads session held next × LeadInOrder sessions next last

-- Over any sessions in order, the last image holds what the first one held after some requests of each session, one session after the other, all that it had
-- acknowledged among them.
abbrev pub SessionsLead : {D : Type 0} → Ghosts D → Type 0
SessionsLead d = (image : Image) (held : Option State) (sessions : List (Session d)) → AreSuccessive image sessions → Recovers image held →
    (last : Option State) × LeadInOrder sessions held last × Recovers (last_image image sessions) last
