-- What turns leave of the log, one after the other.
use Rattle.std.proofs.Common.{◌≡◌, ◌⊎◌, inl, inr, ◌≤◌, ℕ, List, [], ◌∷◌, ◌++◌, length, Option, Some, refl, sym, ◌∙◌, subst, arith, append-nil}
use Rattle.std.specs.Prelude.{IsSome}
use Rattle.nx_host.specs.Disk.{Image}
use Rattle.nx_host.specs.Phase.{LeavesAreas}
use Rattle.nx_host.specs.Still.{IsStill}
use Rattle.nx_host.specs.declared.disk.Disk.{Ghosts}
use Rattle.nx_host.proofs.DiskLemmas.{settled_still, settled_kept}
use Rattle.nx_script.specs.declared.request.Answer.{Answer}
use Rattle.nx_script.specs.declared.request.Request.{Request}
use Rattle.nx_state.specs.State.{State}
use Rattle.nx_store.specs.declared.store.Store.{Store}
use Rattle.nx_store.specs.Store.{IsAt, KeepsImage, LeavesLog}
use Rattle.nx_filters.specs.declared.status.Status.{Status}
use Rattle.nx_filters.specs.declared.status.Status.TheVariants.{Done, Usage, Refused, DiskFault, ReadFault, WriteFault, NoMemory, NotAStore, Damaged, TooMuch}
use Rattle.nx_front.specs.Turns.{Turn, state_after}
use Rattle.nx_front.specs.Logs.{Rests, LeavesTurn, LogsFollow, LogsFollowBut, EndsAnswered, LeavesLogs}
use Rattle.nx_front.specs.Conversation.{StopsShort}

-- where a request isn't answered, a run doesn't end behind an answer
pub short_unanswered : (status : Status) → StopsShort status → EndsAnswered status → ⊥
short_unanswered Done short ends = short
short_unanswered Usage short ends = ends
short_unanswered Refused short ends = ends
short_unanswered DiskFault short ends = ends
short_unanswered ReadFault short ends = short
short_unanswered WriteFault short ends = ends
short_unanswered NoMemory short ends = ends
short_unanswered NotAStore short ends = ends
short_unanswered (Damaged page) short ends = ends
short_unanswered TooMuch short ends = short

module _ {D : Type 0} {d : Ghosts D} where
  -- The disk rests:

  pub rests : {a : D} → Rests d a a
  rests = (λ was there. there, omega arith)

  pub still_rests : {a b : D} → IsStill d a b → Rests d a b
  still_rests still = (λ was there. settled_still still there, (still.time).later)

  pub beside_rests : {a b : D} {P : Option (List ℕ) → Type 0} → LeavesAreas d a b P → IsSome (d.contents b) → Rests d a b
  beside_rests leaves told = (λ was there. settled_kept leaves.contents_stay told (λ i. (leaves.images_stay i).0) there, (leaves.time).later)

  rests_on : {a b c : D} → Rests d a b → Rests d b c → Rests d a c
  rests_on {a = a} {b = b} {c = c} (keeps, first) (keeps_too, then) = (
    λ was there. keeps_too was (keeps was there),
    let x : d.moment a ≤ d.moment b = first in let y : d.moment b ≤ d.moment c = then in omega arith,
  )

  -- A turn left its disk:

  -- what a request leaves of the log behind a disk that rests
  log_behind : (request : Request) (answer : Answer) (state next : State) {a b c : D} → KeepsImage d a b
      → LeavesLog d request answer state next b c → LeavesLog d request answer state next a c
  log_behind request answer state next keeps log = record {
    emptied = log.emptied;
    grown = λ changed was image there. log.grown changed was image (keeps was there);
    once = λ goes was image there. log.once goes was image (keeps was there);
    none = λ nothing was image there. log.none nothing was image (keeps was there);
    stays = λ looks was there. log.stays looks was (keeps was there);
  }

  pub turn_behind : {state : State} {turn : Turn} {a b c : D} → Rests d a b → LeavesTurn d state turn b c → LeavesTurn d state turn a c
  turn_behind {state = state} {turn = turn} {a = a} {b = b} {c = c} (keeps, first) left = record {
    image = left.image;
    settled = left.settled;
    stands = left.stands;
    log = log_behind turn.request turn.reply state turn.next keeps left.log;
    later = let x : d.moment a ≤ d.moment b = first in let y : d.moment b ≤ d.moment c = left.later in omega arith;
  }

  -- ... of a store that is at a state then
  pub leaves_turn : {state : State} {store : Store} {a b : D} (turn : Turn) → IsAt d store b turn.next → d.moment a ≤ d.moment b
      → LeavesLog d turn.request turn.reply state turn.next a b → LeavesTurn d state turn a b
  leaves_turn {store = store} turn at later log =
      let keeps = (at.stands).keeps in
      record {
        image = keeps.image;
        settled = (keeps.step).settled;
        stands = (at.held, ((store.records).saved, keeps.holds), at.state_is);
        log = log;
        later = later;
      }

  -- Turns one after the other:

  pub logs_rest : (state : State) (turns : List Turn) (a : D) {b c : D} → LogsFollow d state turns a b → Rests d b c → LogsFollow d state turns a c
  logs_rest state [] a logs rest = rests_on logs rest
  logs_rest state (turn ∷ turns) a (between, left, logs) rest = (between, left, logs_rest turn.next turns between logs rest)

  pub logs_more : (state : State) (turns : List Turn) (turn : Turn) (a : D) {b c : D} → LogsFollow d state turns a b
      → LeavesTurn d (state_after state turns) turn b c → LogsFollow d state (turns ++ turn ∷ []) a c
  logs_more state [] turn a {c = c} logs left = (c, turn_behind logs left, rests)
  logs_more state (first ∷ turns) turn a (between, before, logs) left = (between, before, logs_more first.next turns turn between logs left)

  pub logs_behind : (state : State) (turns : List Turn) {a b : D} (c : D) → Rests d a b → LogsFollow d state turns b c → LogsFollow d state turns a c
  logs_behind state [] c rest logs = rests_on rest logs
  logs_behind state (turn ∷ turns) c rest (between, left, logs) = (between, turn_behind rest left, logs)

  -- What a run leaves of the log:

  -- all turns were answered, or a first part of them and one more was begun
  pub follow_but : (state : State) (answered turns : List Turn) {a b : D} → LogsFollow d state answered a b
      → (turns ≡ answered) ⊎ ((turn : Turn) × (turns ≡ answered ++ turn ∷ [])) → LogsFollowBut d state turns a b
  follow_but state answered turns logs (inl same) =
      record { answered = answered; begun = []; parts = append-nil answered ∙ sym same; few = omega arith; follow = logs }
  follow_but state answered turns logs (inr (turn, same)) =
      record { answered = answered; begun = turn ∷ []; parts = sym same; few = omega arith; follow = logs }

  pub but_behind : {state : State} {turns : List Turn} {a b c : D} → Rests d a b → LogsFollowBut d state turns b c → LogsFollowBut d state turns a c
  but_behind {state = state} rest but = record {
    answered = but.answered;
    begun = but.begun;
    parts = but.parts;
    few = but.few;
    follow = logs_behind state but.answered _ rest but.follow;
  }

  -- a request wasn't answered
  pub logs_stopped : (state : State) (answered turns : List Turn) {a : D} (b : D) {c : D} (status : Status) → StopsShort status → LogsFollow d state answered a b
      → (turns ≡ answered) ⊎ ((turn : Turn) × (turns ≡ answered ++ turn ∷ [])) → LeavesLogs d state turns status a c
  logs_stopped state answered turns b status short logs goes_on =
      record { between = b; answered = follow_but state answered turns logs goes_on; whole = λ ends. absurd (short_unanswered status short ends) }

  -- it ends behind an answer
  pub logs_ended : (state : State) (turns : List Turn) {a b : D} (status : Status) → LogsFollow d state turns a b → LeavesLogs d state turns status a b
  logs_ended state turns {b = b} status logs =
      record { between = b; answered = follow_but state turns turns logs (inl refl); whole = λ ends. logs }

  pub leaves_behind : {state : State} {turns : List Turn} {a b c : D} (status : Status) → Rests d a b → LeavesLogs d state turns status b c → LeavesLogs d state turns status a c
  leaves_behind {state = state} {turns = turns} status rest left =
      record { between = left.between; answered = but_behind rest left.answered; whole = λ ends. logs_behind state turns _ rest (left.whole ends) }
