-- A conversation over a store: requests that came, turns that are had of them, and how it ends.
use Rattle.std.proofs.Common.{◌≡◌, inl, inr, ℕ, ◌+◌, ◌≤◌, true, List, [], ◌∷◌, ◌++◌, length, Option, None, Some, IfSome, IsSome, Ok, Err, refl, sym, ap, ◌∙◌, subst, arith, append_assoc, append-nil}
use Rattle.std.proofs.lemmas.Bool.{false≢true}
use Rattle.nx_host.specs.declared.disk.Disk.{Ghosts}
use Rattle.nx_host.specs.Disk.{Image, Beside, Keeps, Rose}
use Rattle.nx_host.specs.Host.{Takes, IsAtEnd, Appends}
use Rattle.nx_host.specs.Input.{most_input}
use Rattle.nx_host.specs.Time.{Stood, Elapses, none_elapsed, elapsed_then, elapsed_weaker}
use Rattle.nx_host.specs.Phase.{LeavesAreas, TakesAlone, GivesAlone}
use Rattle.nx_host.specs.Still.{IsStill, IsSettled}
use Rattle.nx_host.proofs.DiskLemmas.{keeps_self, settled_still}
use Rattle.nx_host.proofs.OutputLemmas.{appends_then, takes_nothing}
use Rattle.nx_holdings.specs.Holdings.{HoldsBy}
use Rattle.nx_holdings.proofs.OneLemmas.{hold_one}
use Rattle.nx_records.specs.Words.{replay, Held, Holds, IsRenewed}
use Rattle.nx_records.specs.Records.{HasHeader}
use Rattle.nx_script.specs.declared.command.Command.TheVariants.{Checkpoint}
use Rattle.nx_script.specs.declared.request.Request.{Request}
use Rattle.nx_script.specs.declared.request.Request.TheVariants.{Single}
use Rattle.nx_script.specs.declared.requests.Requests.{Requests}
use Rattle.nx_script.specs.declared.error.ScriptError.{ScriptError}
use Rattle.nx_script.specs.declared.error.ScriptError.TheVariants as scripts
use Rattle.nx_script.specs.Requests.{AreRequests, AreWholeRequests, HasGivenRequests, HasGivenRequestsIn, StopsRequests}
use Rattle.nx_script.proofs.OneRequestList.{one_request_list, given_requests_prefix}
use Rattle.nx_script.proofs.RequestLemmas.{in_requests}
use Rattle.nx_state.specs.State.{State}
use Rattle.nx_state.specs.Stands.{Recovers}
use Rattle.nx_store.specs.declared.store.Store.{Store}
use Rattle.nx_store.specs.declared.error.EngineError.{EngineError}
use Rattle.nx_store.specs.declared.error.EngineError.TheVariants as engine
use Rattle.nx_store.specs.Store.{IsAt, TakesNone, NotOpened, HoldsOn}
use Rattle.nx_store.specs.Reads.{opening_reads, ReadsOpening}
use Rattle.nx_store.proofs.AtLemmas.{at_image, at_beside}
use Rattle.nx_store.proofs.FoundLemmas.{same_some}
use Rattle.nx_store.proofs.StayingLemmas.{held_on}
use Rattle.nx_filters.specs.declared.status.Status.{Status}
use Rattle.nx_filters.specs.declared.status.Status.TheVariants.{Done, Usage, Refused, DiskFault, ReadFault, WriteFault, NoMemory, NotAStore, Damaged, TooMuch}
use Rattle.nx_filters.specs.declared.give.GiveError.{GiveError}
use Rattle.nx_filters.specs.TakeError.{status_of_script, status_of_give_error}
use Rattle.nx_filters.specs.Outcome.{TakesFew, CountsGrow, EndsWhole, Given}
use Rattle.nx_front.specs.Serving.{Turn, AreFirst, state_after, requests_of, texts_of, ShowsMoment, ShowsBetween, LeavesMoments, EndsBetween, AreOfTaken, EndsServing, EndsWithCheckpoint, HasEmptyLog, LeavesAll, ReadsLookups, ServesFrom, IsCaused, EndsWithoutHeader, Serves}
use Rattle.nx_front.specs.Lookups.{is_lookup_request, AreLookups, ReadsForRequest, ReadsRequestWithin, ReadForAll}
use Rattle.nx_front.specs.Conversation.{ShowsReached, HasRun, HasLookedUp, IsLater, IsConversing, AnswersNext, BeginsNext, StopsShort, IsUnanswered, IsEnded, Converses, status_of_engine}
use Rattle.nx_filters.proofs.OutcomeLemmas.{rose_since, told_at_first, kept_appends, keeps_of}
use Rattle.nx_front.proofs.ClockLemmas.{HasClock, at_end}
use Rattle.nx_front.proofs.MomentLemmas.{every_moment, every_between, reached_none, requests_more}
use Rattle.nx_front.proofs.ServeLemmas.{served_none, served_filled, given_block, run_block, between_served, between_block, all_given, stops_giving, block_stopped}
use Rattle.nx_front.proofs.UntakenLemmas.{of_taken, first_of_taken, none_of_taken, none_came, not_none, none_left, left_then, left_still, left_taken, left_given}
use Rattle.nx_front.specs.Logs.{LeavesLogs}
use Rattle.nx_front.proofs.LogLemmas.{rests, still_rests, beside_rests, logs_rest, logs_more, logs_stopped, logs_ended, leaves_behind}
use Rattle.nx_front.proofs.LookupLemmas.{lookups_but_last, read_more}
use Rattle.nx_front.proofs.ServingLaws.{serving_together}

-- What was taken:

-- what is told no longer is behind what was taken
pub takes_kept : (taken : List ℕ) (first now next : Option (List ℕ)) → Takes taken first now → Keeps now next → Takes taken first next
takes_kept taken first now None takes kept = tt
takes_kept taken first now (Some left) takes kept = subst (λ (o : Option (List ℕ)). Takes taken first o) kept takes

pub end_kept : (now next : Option (List ℕ)) → IsAtEnd now → Keeps now next → IsAtEnd next
end_kept now None end kept = tt
end_kept now (Some left) end kept = subst IsAtEnd kept end

given_kept : {script : Requests} {taken : List ℕ} {requests : List Request} {first now : Option (List ℕ)} (next : Option (List ℕ)) → HasGivenRequestsIn script taken requests first now → Keeps now next →
    HasGivenRequestsIn script taken requests first next
given_kept {taken = taken} {first = first} {now = now} next given kept = record {
  given = given.given;
  takes = takes_kept taken first now next given.takes kept;
  end = λ ended. let (end, few) = given.end ended in (end_kept now next end kept, few);
}

-- the requests that a script gave are the first ones
pub first_given : (script : Requests) (taken : List ℕ) (requests : List Request) (first now : Option (List ℕ)) → HasGivenRequestsIn script taken requests first now → AreFirst taken requests now
first_given script taken requests first None given = tt
first_given script taken requests first (Some left) given = given_requests_prefix script taken left requests first given

-- no more bytes were taken than a run takes
pub few_given : (script : Requests) (taken : List ℕ) (requests : List Request) (first now : Option (List ℕ)) → HasGivenRequestsIn script taken requests first now → length taken ≤ most_input
few_given script taken requests first now given =
    let counted : script.script.input.taken ≡ length taken = given.given.script.counted in let few : script.script.input.taken ≤ most_input = script.script.input.few in let e : length taken ≤ most_input = omega arith in e

-- the next request of the script
pub next_given : (old new : Requests) (next : Option Request) (request : Request) → next ≡ Some request →
    IfSome next (λ c. (taken : List ℕ) (requests : List Request) → HasGivenRequests old taken requests → HasGivenRequests new taken (requests ++ c ∷ [])) →
    (taken : List ℕ) (requests : List Request) → HasGivenRequests old taken requests → HasGivenRequests new taken (requests ++ request ∷ [])
next_given old new next request is given =
    subst (λ (o : Option Request). IfSome o (λ c. (taken : List ℕ) (requests : List Request) → HasGivenRequests old taken requests → HasGivenRequests new taken (requests ++ c ∷ []))) is given

-- a last request is the last one
last_one : (before requests : List Request) (last request : Request) → requests ++ request ∷ [] ≡ before ++ last ∷ [] → request ≡ last
last_one [] [] last request is = cc is
last_one [] (c ∷ []) last request is = absurd (cc is)
last_one [] (c ∷ c' ∷ requests) last request is = absurd (cc is)
last_one (b ∷ []) [] last request is = absurd (cc is)
last_one (b ∷ b' ∷ before) [] last request is = absurd (cc is)
last_one (b ∷ before) (c ∷ requests) last request is = last_one before requests last request (let e : requests ++ request ∷ [] ≡ before ++ last ∷ [] = cc is in e)

no_last : (before : List Request) (last : Request) → [] ≡ before ++ last ∷ [] → ⊥
no_last [] last is = cc is
no_last (b ∷ before) last is = cc is

-- the first of the first requests
pub first_of : (taken : List ℕ) (requests rest all : List Request) (now : Option (List ℕ)) → requests ++ rest ≡ all → AreFirst taken all now → AreFirst taken requests now
first_of taken requests rest all None is first = tt
first_of taken requests rest all (Some left) is (others, are) =
    (rest ++ others, subst (λ (rs : List Request). AreRequests (taken ++ left) rs) (ap (λ (rs : List Request). rs ++ others) (sym is) ∙ append_assoc requests rest others) are)

-- requests of an input of which nothing is taken
pub first_none : (now : Option (List ℕ)) → AreFirst [] [] now
first_none None = tt
first_none (Some left) = let one = one_request_list left in (one.requests, one.are)

stopped_serving : (status : Status) (turns : List Turn) (taken : List ℕ) (a b : Beside) → StopsShort status → EndsServing turns taken status a b × (status ≡ Done → ⊥)
stopped_serving DiskFault turns taken a b short = (tt, λ is. cc is)
stopped_serving WriteFault turns taken a b short = (tt, λ is. cc is)
stopped_serving NoMemory turns taken a b short = (tt, λ is. cc is)
stopped_serving Done turns taken a b short = absurd short
stopped_serving Usage turns taken a b short = absurd short
stopped_serving Refused turns taken a b short = absurd short
stopped_serving ReadFault turns taken a b short = absurd short
stopped_serving NotAStore turns taken a b short = absurd short
stopped_serving (Damaged page) turns taken a b short = absurd short
stopped_serving TooMuch turns taken a b short = absurd short

-- the moments of a run, by their whole replies
shows_moments : {D : Type 0} (d : Ghosts D) (first now : D) (state : State) (turns : List Turn) → Elapses d.moment d.stood_since first now (ShowsReached (d.beside first).output state turns) →
    Elapses d.moment d.stood_since first now (ShowsMoment (d.beside first).output state turns)
shows_moments d first now state turns time = elapsed_weaker time (λ s h. (h.0, h.1, every_moment state turns h.0 s.image h.2))

pub few : {first now : Option (List ℕ)} {script : Requests} {taken : List ℕ} {requests : List Request} → HasGivenRequestsIn script taken requests first now → TakesFew first now
few {first = first} {now = now} {script = script} {taken = taken} {requests = requests} given =
    record { taken = taken; few = few_given script taken requests first now given; takes = given.takes }

-- Behind an input and an output that stay:

pub takes_after : (taken : List ℕ) (a b c : Option (List ℕ)) → Keeps a b → Takes taken b c → Takes taken a c
takes_after taken a b None kept takes = tt
takes_after taken a b (Some left) kept takes = subst (λ (o : Option (List ℕ)). Keeps a o) takes kept

pub appends_after : (bytes : List ℕ) (a b c : Option (List ℕ)) → Keeps a b → Appends bytes b c → Appends bytes a c
appends_after bytes a b c kept appends = appends_then [] bytes a b c (kept_appends a b kept) appends

pub whole_after : {taken : List ℕ} {a b : Option (List ℕ)} (c : Option (List ℕ)) → Keeps a b → EndsWhole taken b c → EndsWhole taken a c
whole_after {taken = taken} {a = a} {b = b} c kept whole = record { takes = takes_after taken a b c kept whole.takes; end = whole.end; few = whole.few }

of_taken_after : {taken : List ℕ} (requests : List Request) {a b : Option (List ℕ)} (c : Option (List ℕ)) → Keeps a b → AreOfTaken taken requests b c → AreOfTaken taken requests a c
of_taken_after requests c kept (rest, inl whole) = (rest, inl whole)
of_taken_after requests c kept (rest, inr (ends, are)) = (rest, inr (whole_after c kept ends, are))

-- no byte was taken since
nothing_after : (taken : List ℕ) (a b c : Option (List ℕ)) → Keeps a b → Takes taken b c → IsSome c × (c ≡ a) → IsSome c × (c ≡ b)
nothing_after taken a b None kept takes (told, same) = absurd (false≢true told)
nothing_after taken a b (Some left) kept takes (told, same) = (told, same ∙ subst (λ (o : Option (List ℕ)). Keeps a o) takes kept ∙ sym takes)

pub few_nothing : (a b : Option (List ℕ)) → Keeps a b → TakesFew a b
few_nothing a b kept = record { taken = []; few = (let e : 0 ≤ most_input = omega arith in e); takes = takes_after [] a b b kept (takes_nothing b) }

ends_after : (status : Status) (turns : List Turn) (taken : List ℕ) (a b c : Beside) → Keeps a.input b.input → Keeps a.output b.output → EndsServing turns taken status b c →
    EndsServing turns taken status a c
ends_after Done turns taken a b c input output (whole, are, gave) = (whole_after c.input input whole, are, appends_after (texts_of turns) a.output b.output c.output output gave)
ends_after ReadFault turns taken a b c input output (few, whole, gave) = (few, whole, appends_after (texts_of turns) a.output b.output c.output output gave)
ends_after TooMuch turns taken a b c input output (long, whole, gave) = (long, whole, appends_after (texts_of turns) a.output b.output c.output output gave)
ends_after DiskFault turns taken a b c input output ends = tt
ends_after WriteFault turns taken a b c input output ends = tt
ends_after NoMemory turns taken a b c input output ends = tt
ends_after NotAStore turns taken a b c input output ends = absurd ends
ends_after (Damaged page) turns taken a b c input output ends = absurd ends
ends_after Usage turns taken a b c input output ends = absurd ends
ends_after Refused turns taken a b c input output ends = absurd ends

module _ {D : Type 0} {d : Ghosts D} where
  -- No count fell:

  pub none_goes : {a : D} → IsLater d a a
  none_goes = record { told = λ told. told; counts = record { read = omega arith; written = omega arith }; faults_later = omega arith }

  pub goes_then : {a b c : D} → IsLater d a b → IsLater d b c → IsLater d a c
  goes_then {a = a} {b = b} {c = c} first second = record {
    told = λ told. first.told (second.told told);
    counts = record {
      read = let x : (d.beside a).in_faults ≤ (d.beside b).in_faults = first.counts.read in let y : (d.beside b).in_faults ≤ (d.beside c).in_faults = second.counts.read in omega arith;
      written = let x : (d.beside a).out_faults ≤ (d.beside b).out_faults = first.counts.written in let y : (d.beside b).out_faults ≤ (d.beside c).out_faults = second.counts.written in omega arith;
    };
    faults_later = let x : d.faults a ≤ d.faults b = first.faults_later in let y : d.faults b ≤ d.faults c = second.faults_later in omega arith;
  }

  pub takes_goes : {a b : D} → TakesNone d a b → IsLater d a b
  takes_goes {a = a} {b = b} takes = record {
    told = takes.told;
    counts = record { read = (let same : (d.beside b).in_faults ≡ (d.beside a).in_faults = takes.in_faults_stay in omega arith); written = takes.out_faults_later };
    faults_later = takes.faults_later;
  }

  pub leaves_goes : {a b : D} {P : Option (List ℕ) → Type 0} → LeavesAreas d a b P → IsLater d a b
  leaves_goes {a = a} {b = b} leaves = record {
    told = told_at_first (d.contents a) (d.contents b) leaves.contents_stay;
    counts = record { read = leaves.in_faults_later; written = leaves.out_faults_later };
    faults_later = let same : d.faults b ≡ d.faults a = leaves.faults_stay in omega arith;
  }

  -- Lookups that came:

  -- before the first
  looked_none : {a : D} {store : Store} {state : State} (at : IsAt d store a state) → HasLookedUp d at.held state [] store a a
  looked_none at = record { at = at; same = refl; pages = 0; are = refl; few = omega arith }

  -- what one more reads
  read_by_more : {held : Held} {state : State} {requests : List Request} {store : Store} {first now next : D} (request : Request) → HasLookedUp d held state requests store first now →
      ReadsRequestWithin d request store now next → (pages : ℕ) × ReadForAll held state (requests ++ request ∷ []) pages × (d.reads next ≤ d.reads first + pages)
  read_by_more {held = held} {state = state} {requests = requests} {first = first} {now = now} request looked reads =
      let (own, few, of_it) = reads state looked.at in
      let before : d.reads now ≤ d.reads first + looked.pages = looked.few in (
        looked.pages + own,
        read_more held state requests request looked.pages own looked.are (subst (λ (h : Held). ReadsForRequest h state request own) looked.same of_it),
        omega (arith, before, few),
      )

  -- one more is answered
  looked_more : {held : Held} {state : State} {requests : List Request} {store store' : Store} {first now next : D} (request : Request) → HasLookedUp d held state requests store first now →
      HoldsOn d store store' now next → ReadsRequestWithin d request store now next → IsSome (d.contents next) → HasLookedUp d held state (requests ++ request ∷ []) store' first next
  looked_more {state = state} {store = store} {store' = store'} {now = now} {next = next} request looked holds reads told =
      let (pages, are, few) = read_by_more request looked reads in
      record { at = held_on d store store' now next holds state looked.at told; same = looked.same; pages = pages; are = are; few = few }

  -- while the disk is left
  looked_beside : {held : Held} {state : State} {requests : List Request} {store : Store} {first now next : D} {P : Option (List ℕ) → Type 0} → LeavesAreas d now next P → IsSome (d.contents next) →
      HasLookedUp d held state requests store first now → HasLookedUp d held state requests store first next
  looked_beside {first = first} {now = now} {next = next} leaves told looked = record {
    at = at_beside leaves told looked.at;
    same = looked.same;
    pages = looked.pages;
    are = looked.are;
    few = let same : d.reads next ≡ d.reads now = leaves.reads_stay in let before : d.reads now ≤ d.reads first + looked.pages = looked.few in omega (arith, same, before);
  }

  read_of : {held : Held} {state : State} {requests : List Request} {store : Store} {first now : D} → HasLookedUp d held state requests store first now →
      (pages : ℕ) × ReadForAll held state requests pages × (d.reads now ≤ d.reads first + pages)
  read_of looked = (looked.pages, looked.are, looked.few)

  -- what those of a script read
  read_given : {held : Held} {state : State} {script : Requests} {taken : List ℕ} {requests : List Request} {first now : D} → HasGivenRequestsIn script taken requests (d.beside first).input (d.beside now).input →
      (AreLookups requests → (pages : ℕ) × ReadForAll held state requests pages × (d.reads now ≤ d.reads first + pages)) → ReadsLookups d 0 held state first now
  read_given {script = script} {taken = taken} {requests = requests} {first = first} {now = now} given read = record {
    taken = taken;
    takes = given.takes;
    requests = requests;
    first = first_given script taken requests (d.beside first).input (d.beside now).input given;
    whole = of_taken script taken requests (d.beside first).input (d.beside now).input given;
    few = λ all. let (pages, are, few) = read all in (pages, are, omega (arith, few));
  }

  -- nothing was taken
  read_nothing : {held : Held} {state : State} {a b : D} (pages : ℕ) → Keeps (d.beside a).input (d.beside b).input → d.reads b ≤ d.reads a + pages → ReadsLookups d pages held state a b
  read_nothing {a = a} {b = b} pages kept few = record {
    taken = [];
    takes = takes_after [] (d.beside a).input (d.beside b).input (d.beside b).input kept (takes_nothing (d.beside b).input);
    requests = [];
    first = first_none (d.beside b).input;
    whole = none_of_taken (d.beside a).input (d.beside b).input;
    few = λ all. (0, refl, omega (arith, few));
  }

  -- Commands that came, and their turns:

  -- before the first
  pub conversing_none : {a : D} {script : Requests} {store : Store} {block : List ℕ} → block ≡ [] → HasGivenRequestsIn script [] [] (d.beside a).input (d.beside a).input →
      IsConversing d store [] [] script store block a a
  conversing_none none given = record {
    given = given;
    goes = none_goes;
    served = λ state at told. ([], refl, served_none at none, rests);
    emptied = λ state at told ends. absurd (no_last ends.0 (Single Checkpoint) ends.1);
    unbegun = λ is. (none, none_left);
    looked = λ all state at told. looked_none at;
  }

  -- the requests of a script with one more
  with_request : {begun : Store} {taken : List ℕ} {requests : List Request} {old new : Requests} {store : Store} {block : List ℕ} {first now : D} (request : Request) (next : D) → new.script.ended ≡ old.script.ended →
      IsConversing d begun taken requests old store block first now → HasGivenRequests new taken (requests ++ request ∷ []) → TakesNone d now next →
      HasGivenRequestsIn new taken (requests ++ request ∷ []) (d.beside first).input (d.beside next).input
  with_request {old = old} {new = new} request next same talk given takes = given_kept (d.beside next).input (in_requests old new same talk.given given) takes.input_stays

  -- one request more is answered
  pub conversing_more : {begun : Store} {taken : List ℕ} {requests : List Request} {old new : Requests} {store store' : Store} {block block' : List ℕ} {first now next : D} (request : Request) →
      new.script.ended ≡ old.script.ended → IsConversing d begun taken requests old store block first now → HasGivenRequests new taken (requests ++ request ∷ []) → TakesNone d now next →
      AnswersNext d request store store' block block' now next → (is_lookup_request request ≡ true → HoldsOn d store store' now next) → (is_lookup_request request ≡ true → ReadsRequestWithin d request store now next) →
      IsConversing d begun taken (requests ++ request ∷ []) new store' block' first next
  conversing_more {requests = requests} {first = first} {next = next} request same talk given takes answers holds reads = record {
    given = with_request request next same talk given takes;
    goes = goes_then talk.goes (takes_goes takes);
    served = λ state at told.
        let (turns, are, served, logs) = talk.served state at (takes.told told) in
        let (turn, is, more, left) = answers first state turns served told in (
          turns ++ turn ∷ [],
          requests_more turns turn ∙ ap (λ (rs : List Request). rs ++ turn.request ∷ []) are ∙ ap (λ (c : Request). requests ++ c ∷ []) is,
          more,
          logs_more state turns turn _ logs left,
        );
    emptied = λ state at told ends.
        let (turns, are, served, logs) = talk.served state at (takes.told told) in
        let (turn, is, more, left) = answers first state turns served told in
        (left.log).emptied (is ∙ last_one ends.0 requests (Single Checkpoint) request ends.1);
    unbegun = λ is. absurd (not_none requests request is);
    looked = λ all state at told.
        let (some, one) = lookups_but_last requests request all in
        looked_more request (talk.looked some state at (takes.told told)) (holds one) (reads one) told;
  }

  -- the same requests, in other words
  pub conversing_as : {begun : Store} {taken : List ℕ} {requests : List Request} {script : Requests} {store : Store} {block : List ℕ} {first now : D} (same : List Request) → requests ≡ same →
      IsConversing d begun taken requests script store block first now → IsConversing d begun taken same script store block first now
  conversing_as {begun = begun} {taken = taken} {script = script} {store = store} {block = block} {first = first} {now = now} same is talk =
      subst (λ (rs : List Request). IsConversing d begun taken rs script store block first now) is talk

  -- the script looked for one more, and there was none
  pub conversing_drained : {begun : Store} {taken : List ℕ} {requests : List Request} {old new : Requests} {store : Store} {block : List ℕ} {first now : D} → new.script.ended ≡ old.script.ended →
      IsConversing d begun taken requests old store block first now → HasGivenRequests new taken requests → IsConversing d begun taken requests new store block first now
  conversing_drained {old = old} {new = new} same talk given = record { given = in_requests old new same talk.given given; goes = talk.goes; served = talk.served; emptied = talk.emptied; unbegun = talk.unbegun; looked = talk.looked }

  -- the block is given
  pub conversing_given : {begun : Store} {taken : List ℕ} {requests : List Request} {script : Requests} {store : Store} {block left : List ℕ} {first now next : D} →
      IsConversing d begun taken requests script store block first now → left ≡ [] → Given block (Ok tt) (d.beside now) (d.beside next) → GivesAlone d block now next →
      IsConversing d begun taken requests script store left first next
  conversing_given {taken = taken} {requests = requests} {script = script} {first = first} talk none gave alone = record {
    given = subst (λ (i : Option (List ℕ)). HasGivenRequestsIn script taken requests (d.beside first).input i) (sym alone.input_stays) talk.given;
    goes = goes_then talk.goes (leaves_goes alone.areas);
    served = λ state at told.
        let (turns, are, served, logs) = talk.served state at ((leaves_goes alone.areas).told told) in
        (turns, are, given_block served none gave alone told, logs_rest state turns _ logs (beside_rests alone.areas told));
    emptied = λ state at told ends i left. talk.emptied state at ((leaves_goes alone.areas).told told) ends i ((alone.areas.images_stay i).0 left);
    unbegun = λ is. let (empty, stays) = talk.unbegun is in (none, left_then stays (left_given (Ok tt) empty gave alone));
    looked = λ all state at told. looked_beside alone.areas told (talk.looked all state at ((leaves_goes alone.areas).told told));
  }

  -- more input was asked for
  pub conversing_filled : {begun : Store} {taken more : List ℕ} {requests : List Request} {old new : Requests} {store : Store} {block : List ℕ} {first now next : D} →
      IsConversing d begun taken requests old store block first now → HasGivenRequestsIn new more requests (d.beside first).input (d.beside next).input → TakesAlone d now next →
      IsConversing d begun more requests new store block first next
  conversing_filled {block = block} {first = first} {now = now} {next = next} talk given takes = record {
    given = given;
    goes = goes_then talk.goes (leaves_goes takes.areas);
    served = λ state at told.
        let (turns, are, served, logs) = talk.served state at ((leaves_goes takes.areas).told told) in
        (turns, are, served_filled served takes told, logs_rest state turns _ logs (beside_rests takes.areas told));
    emptied = λ state at told ends i left. talk.emptied state at ((leaves_goes takes.areas).told told) ends i ((takes.areas.images_stay i).0 left);
    unbegun = λ is. let (empty, stays) = talk.unbegun is in (empty, left_then stays (left_taken takes));
    looked = λ all state at told. looked_beside takes.areas told (talk.looked all state at ((leaves_goes takes.areas).told told));
  }

  -- How it ends:

  -- each image that may be left is a moment of the run
  left_moments : {state : State} {turns : List Turn} {first now : D} → HasClock d → ((i : Image) → d.may_leave first i → Recovers i (Some state)) →
      Elapses d.moment d.stood_since first now (ShowsMoment (d.beside first).output state turns) → LeavesMoments d now (ShowsMoment (d.beside first).output state turns)
  left_moments {state = state} {turns = turns} {first = first} {now = now} clock begins time = λ i left.
      elim (at_end clock time i left) [
        | inl (same, before) ↦ (
          [],
          kept_appends (d.beside first).output (d.beside now).output (keeps_of (d.beside first).output (d.beside now).output same),
          every_moment state turns [] i (reached_none state turns i (begins i before)),
        )
        | inr shown ↦ shown
      ]

  -- a run of turns of the first requests that came
  serves_from : {begun : Store} {state : State} {turns : List Turn} {first now : D} {script : Requests} {taken : List ℕ} {requests : List Request} (rest : List Request) (status : Status) → HasClock d →
      IsAt d begun first state → HasRun d state turns first now → requests_of turns ++ rest ≡ requests → HasGivenRequestsIn script taken requests (d.beside first).input (d.beside now).input →
      EndsServing turns taken status (d.beside first) (d.beside now) →
      (EndsBetween status → LeavesMoments d now (ShowsBetween (d.beside first).output state turns)) →
      (status ≡ Done → ((i : Image) → d.may_leave now i → Recovers i (Some (state_after state turns))) × (EndsWithCheckpoint (requests_of turns) → HasEmptyLog d now)) → LeavesLogs d state turns status first now → ServesFrom d state status first now
  serves_from {state = state} {turns = turns} {first = first} {now = now} {script = script} {taken = taken} {requests = requests} rest status clock at run are given ends between last logs =
      let time = shows_moments d first now state turns run.time in
      record {
        turns = turns;
        run = run.run;
        taken = taken;
        takes = given.takes;
        first = first_of taken (requests_of turns) rest requests (d.beside now).input are (first_given script taken requests (d.beside first).input (d.beside now).input given);
        whole = first_of_taken taken (requests_of turns) rest requests are (of_taken script taken requests (d.beside first).input (d.beside now).input given);
        time = time;
        ends = ends;
        left = left_moments clock (λ i left. at_image at left) time;
        between = between;
        last = λ is. (last is).0;
        emptied = λ is. (last is).1;
        logs = logs;
      }

  pub stopped_ends : {first now : D} (status : Status) (next : D) → IsLater d first now → IsUnanswered d status now next → IsEnded d status first next
  stopped_ends {first = first} {now = now} DiskFault next goes rose = rose_since (d.faults first) (d.faults now) (d.faults next) goes.faults_later rose
  stopped_ends {first = first} {now = now} WriteFault next goes rose = rose_since (d.beside first).out_faults (d.beside now).out_faults (d.beside next).out_faults goes.counts.written rose
  stopped_ends NoMemory next goes stopped = tt
  stopped_ends (Damaged page) next goes stopped = tt
  stopped_ends Done next goes stopped = absurd stopped
  stopped_ends Usage next goes stopped = absurd stopped
  stopped_ends Refused next goes stopped = absurd stopped
  stopped_ends ReadFault next goes stopped = absurd stopped
  stopped_ends NotAStore next goes stopped = absurd stopped
  stopped_ends TooMuch next goes stopped = absurd stopped

  -- a request isn't answered
  pub converses_stopped : {begun : Store} {taken : List ℕ} {requests : List Request} {old new : Requests} {store : Store} {block : List ℕ} {first now next : D} (request : Request) (status : Status) →
      HasClock d → new.script.ended ≡ old.script.ended → IsConversing d begun taken requests old store block first now → HasGivenRequests new taken (requests ++ request ∷ []) → TakesNone d now next →
      BeginsNext d request status store block now next → IsUnanswered d status now next → (is_lookup_request request ≡ true → ReadsRequestWithin d request store now next) → Converses d begun status first next
  converses_stopped {requests = requests} {first = first} {next = next} request status clock same talk given takes begins stopped reads =
      let came = with_request request next same talk given takes in
      record {
        from = λ state at told.
            let (turns, are, served, logs) = talk.served state at (takes.told told) in
            let (short, begun_so) = begins first state turns served told in
            let (ends, not_done) = stopped_serving status begun_so.turns _ (d.beside first) (d.beside next) short in
            serves_from begun_so.rest status clock at begun_so.run (begun_so.parts ∙ ap (λ (rs : List Request). rs ++ request ∷ []) are) came ends begun_so.between (λ is. absurd (not_done is))
            (logs_stopped state turns begun_so.turns _ status short logs begun_so.goes_on);
        cause = stopped_ends status next talk.goes stopped;
        bounded = few came;
        goes = goes_then talk.goes (takes_goes takes);
        untaken = λ none. absurd (not_none requests request (none_came came none));
        reads = λ state at told. read_given came (λ all.
            let (some, one) = lookups_but_last requests request all in
            read_by_more request (talk.looked some state at (takes.told told)) (reads one));
      }

  -- the block isn't given
  pub converses_blocked : {begun : Store} {taken : List ℕ} {requests : List Request} {script : Requests} {store : Store} {block : List ℕ} {first now next : D} (stop : GiveError) → HasClock d →
      IsConversing d begun taken requests script store block first now → Given block (Err stop) (d.beside now) (d.beside next) → GivesAlone d block now next →
      Converses d begun (status_of_give_error stop) first next
  converses_blocked {taken = taken} {requests = requests} {script = script} {block = block} {first = first} {now = now} {next = next} stop clock talk gave alone =
      let status = status_of_give_error stop in
      let came : HasGivenRequestsIn script taken requests (d.beside first).input (d.beside next).input =
      subst (λ (i : Option (List ℕ)). HasGivenRequestsIn script taken requests (d.beside first).input i) (sym alone.input_stays) talk.given
      in
      record {
        from = λ state at told.
            let (turns, are, served, logs) = talk.served state at ((leaves_goes alone.areas).told told) in
            let (ends, not_done) = stopped_serving status turns taken (d.beside first) (d.beside next) (stops_giving stop) in
            serves_from [] status clock at (run_block served alone) (append-nil (requests_of turns) ∙ are) came ends (λ between. between_block clock served alone) (λ is. absurd (not_done is))
            (logs_stopped state turns turns _ status (stops_giving stop) logs (inl refl));
        cause = stopped_ends status next talk.goes (block_stopped d now next block stop gave);
        bounded = few came;
        goes = goes_then talk.goes (leaves_goes alone.areas);
        untaken = λ none. let (empty, stays) = talk.unbegun (none_came came none) in left_then stays (left_given (Err stop) empty gave alone);
        reads = λ state at told. read_given came (λ all. read_of (looked_beside alone.areas told (talk.looked all state at ((leaves_goes alone.areas).told told))));
      }

  -- memory runs out
  pub converses_starved : {begun : Store} {taken : List ℕ} {requests : List Request} {script : Requests} {store : Store} {block : List ℕ} {first now : D} → HasClock d →
      IsConversing d begun taken requests script store block first now → Converses d begun NoMemory first now
  converses_starved clock talk = record {
    from = λ state at told.
        let (turns, are, served, logs) = talk.served state at told in
        serves_from [] NoMemory clock at served.run (append-nil (requests_of turns) ∙ are) talk.given tt (λ between. between_served clock served) (λ is. absurd (cc is))
        (logs_ended state turns NoMemory logs);
    cause = tt;
    bounded = few talk.given;
    goes = talk.goes;
    untaken = λ none. (talk.unbegun (none_came talk.given none)).1;
    reads = λ state at told. read_given talk.given (λ all. read_of (talk.looked all state at told));
  }

  -- all requests are answered
  pub converses_done : {begun : Store} {taken : List ℕ} {requests : List Request} {script : Requests} {store : Store} {block : List ℕ} {first now : D} → HasClock d →
      IsConversing d begun taken requests script store block first now → block ≡ [] → script.script.ended ≡ true → AreRequests taken requests → Converses d begun Done first now
  converses_done {taken = taken} {first = first} {now = now} clock talk none ended all =
      let (end, short) = talk.given.end ended in
      let whole : EndsWhole taken (d.beside first).input (d.beside now).input = record { takes = talk.given.takes; end = end; few = short } in
      record {
        from = λ state at told.
            let (turns, are, served, logs) = talk.served state at told in
            serves_from [] Done clock at served.run (append-nil (requests_of turns) ∙ are) talk.given
            (whole, subst (λ (rs : List Request). AreRequests taken rs) (sym are) all, all_given served none)
            (λ between. between_served clock served)
            (λ is. (λ i left. at_image served.at left, λ ends. talk.emptied state at told (subst EndsWithCheckpoint are ends)))
            (logs_ended state turns Done logs);
        cause = (taken, whole);
        bounded = few talk.given;
        goes = talk.goes;
        untaken = λ none. (talk.unbegun (none_came talk.given none)).1;
        reads = λ state at told. read_given talk.given (λ all. read_of (talk.looked all state at told));
      }

  -- the input gave no more
  pub converses_unfilled : {begun : Store} {taken : List ℕ} {requests : List Request} {script : Requests} {store : Store} {block : List ℕ} {first now next : D} (error : ScriptError) → HasClock d →
      IsConversing d begun taken requests script store block first next → block ≡ [] → (d.beside first).in_faults ≤ (d.beside now).in_faults →
      (error ≡ scripts.Read → Rose (d.beside now).in_faults (d.beside next).in_faults) → StopsRequests error script [] requests (d.beside first).input (d.beside next).input →
      Converses d begun (status_of_script error) first next
  converses_unfilled {first = first} {now = now} {next = next} scripts.Read clock talk none earlier rose (more, given, short, stops) = record {
    from = λ state at told.
        let (turns, are, served, logs) = talk.served state at told in
        serves_from [] ReadFault clock at served.run (append-nil (requests_of turns) ∙ are) given
        (short, subst (λ (rs : List Request). AreWholeRequests more rs) (sym are) stops.whole, all_given served none) (λ between. between_served clock served) (λ is. absurd (cc is))
        (logs_ended state turns ReadFault logs);
    cause = (rose_since (d.beside first).in_faults (d.beside now).in_faults (d.beside next).in_faults earlier (rose refl), more, short, stops.takes);
    bounded = few given;
    goes = talk.goes;
    untaken = λ nothing. (talk.unbegun (none_came talk.given nothing)).1;
    reads = λ state at told. read_given given (λ all. read_of (talk.looked all state at told));
  }
  converses_unfilled scripts.TooMuch clock talk none earlier rose (more, given, long, stops) = record {
    from = λ state at told.
        let (turns, are, served, logs) = talk.served state at told in
        serves_from [] TooMuch clock at served.run (append-nil (requests_of turns) ∙ are) given
        (long, subst (λ (rs : List Request). AreWholeRequests more rs) (sym are) stops.whole, all_given served none) (λ between. between_served clock served) (λ is. absurd (cc is))
        (logs_ended state turns TooMuch logs);
    cause = (more, long, stops.takes);
    bounded = few given;
    goes = talk.goes;
    untaken = λ nothing. (talk.unbegun (none_came talk.given nothing)).1;
    reads = λ state at told. read_given given (λ all. read_of (talk.looked all state at told));
  }
  converses_unfilled scripts.Memory clock talk none earlier rose stops = converses_starved clock talk

  -- a run without turns, of which nothing was taken
  serves_nothing : {state : State} {a b : D} (status : Status) → HasClock d → ((i : Image) → d.may_leave a i → Recovers i (Some state)) →
      HasRun d state [] a b → LeavesAll d a b → Keeps (d.beside a).input (d.beside b).input → StopsShort status → ServesFrom d state status a b
  serves_nothing {state = state} {a = a} {b = b} status clock begins run stays kept short =
      let (ends, not_done) = stopped_serving status [] [] (d.beside a) (d.beside b) short in
      record {
        turns = [];
        run = run.run;
        taken = [];
        takes = takes_after [] (d.beside a).input (d.beside b).input (d.beside b).input kept (takes_nothing (d.beside b).input);
        first = first_none (d.beside b).input;
        whole = none_of_taken (d.beside a).input (d.beside b).input;
        time = shows_moments d a b state [] run.time;
        ends = ends;
        left = left_moments clock begins (shows_moments d a b state [] run.time);
        between = λ between i left.
            ([], kept_appends (d.beside a).output (d.beside b).output stays.output_stays, every_between state [] [] i (refl, begins i ((stays.images_stay i).0 left)));
        last = λ is. absurd (not_done is);
        emptied = λ is. absurd (not_done is);
        logs = logs_stopped state [] [] _ status short rests (inl refl);
      }

  -- it doesn't begin
  pub converses_unbegun : {a : D} {begun : Store} → HasClock d → Converses d begun NoMemory a a
  converses_unbegun {a = a} clock = record {
    from = λ state at told. serves_nothing NoMemory clock (λ i left. at_image at left) (record { run = tt; time = none_elapsed }) none_left (keeps_self (d.beside a).input) tt;
    cause = tt;
    bounded = few_nothing (d.beside a).input (d.beside a).input (keeps_self (d.beside a).input);
    goes = none_goes;
    untaken = λ none. none_left;
    reads = λ state at told. read_nothing 0 (keeps_self (d.beside a).input) (omega arith);
  }

  -- A run over the store that was opened:

  pub counts_still : {a b : D} → IsStill d a b → CountsGrow (d.beside a) (d.beside b)
  counts_still {a = a} {b = b} still = record {
    read = let same : (d.beside b).in_faults ≡ (d.beside a).in_faults = still.beside_stays.in_faults in omega arith;
    written = let same : (d.beside b).out_faults ≡ (d.beside a).out_faults = still.beside_stays.out_faults in omega arith;
  }

  pub still_goes : {a b : D} → IsStill d a b → IsLater d a b
  still_goes {a = a} {b = b} still = record {
    told = subst (λ (o : Option Image). IsSome o → IsSome (d.contents a)) (sym still.contents_stay) (λ told. told);
    counts = counts_still still;
    faults_later = still.faults_later;
  }

  -- each image of a disk with one image that is a state is of that state
  pub still_image : {a : D} {was : Image} {state : State} → IsSettled d a was → Recovers was (Some state) → (s : Stood) → d.may_leave a s.image → Recovers s.image (Some state)
  still_image {state = state} settled recovers s left = subst (λ (i : Image). Recovers i (Some state)) (sym (settled.only s.image left)) recovers

  opened_from : {a b c : D} {was : Image} {state : State} (status : Status) → IsStill d a b → IsSettled d a was → Recovers was (Some state) → ServesFrom d state status b c → ServesFrom d state status a c
  opened_from {a = a} {b = b} {c = c} {state = state} status still settled recovers from =
      let input = still.beside_stays.input in
      let output = still.beside_stays.output in
      record {
        turns = from.turns;
        run = from.run;
        taken = from.taken;
        takes = takes_after from.taken (d.beside a).input (d.beside b).input (d.beside c).input input from.takes;
        first = from.first;
        whole = of_taken_after (requests_of from.turns) (d.beside c).input input from.whole;
        time = elapsed_then {P = ShowsMoment (d.beside a).output state from.turns}
            (elapsed_weaker still.time (λ s h. (
              [],
              kept_appends (d.beside a).output s.output h.0,
              every_moment state from.turns [] s.image (reached_none state from.turns s.image (still_image settled recovers s h.1)),
            )))
            from.time (λ s h. (h.0, appends_after h.0 (d.beside a).output (d.beside b).output s.output output h.1, h.2));
        ends = ends_after status from.turns from.taken (d.beside a) (d.beside b) (d.beside c) input output from.ends;
        left = λ i may. let (out, gave, moment) = from.left i may in (out, appends_after out (d.beside a).output (d.beside b).output (d.beside c).output output gave, moment);
        between = λ ends i may. let (out, gave, moment) = from.between ends i may in (out, appends_after out (d.beside a).output (d.beside b).output (d.beside c).output output gave, moment);
        last = from.last;
        emptied = from.emptied;
        logs = leaves_behind status (still_rests still) from.logs;
      }

  opened_cause : {a b c : D} {begun : Store} (status : Status) → IsStill d a b → ((was : Image) (state : State) → IsSettled d a was → Recovers was (Some state) → IsAt d begun b state) →
      Converses d begun status b c → IsEnded d status b c → IsCaused d status a c
  opened_cause {c = c} Done still opens talk (taken, whole) = (taken, whole_after (d.beside c).input still.beside_stays.input whole)
  opened_cause {a = a} {b = b} {c = c} DiskFault still opens talk rose = rose_since (d.faults a) (d.faults b) (d.faults c) still.faults_later rose
  opened_cause {a = a} {b = b} {c = c} ReadFault still opens talk (rose, taken, short, takes) = (
    rose_since (d.beside a).in_faults (d.beside b).in_faults (d.beside c).in_faults (counts_still still).read rose,
    taken,
    short,
    takes_after taken (d.beside a).input (d.beside b).input (d.beside c).input still.beside_stays.input takes,
  )
  opened_cause {a = a} {b = b} {c = c} WriteFault still opens talk rose =
      rose_since (d.beside a).out_faults (d.beside b).out_faults (d.beside c).out_faults (counts_still still).written rose
  opened_cause NoMemory still opens talk cause = tt
  opened_cause (Damaged page) still opens talk cause = λ was state settled told recovers. (talk.from state (opens was state settled recovers) told).ends
  opened_cause {a = a} {b = b} {c = c} TooMuch still opens talk (taken, long, takes) =
      (taken, long, takes_after taken (d.beside a).input (d.beside b).input (d.beside c).input still.beside_stays.input takes)
  opened_cause NotAStore still opens talk cause = absurd cause
  opened_cause Usage still opens talk cause = absurd cause
  opened_cause Refused still opens talk cause = absurd cause

  -- what the store holds is what the pages of the image hold
  pub opened_held : {b : D} {begun : Store} {state : State} {was : Image} {held : Held} (at : IsAt d begun b state) → IsSettled d b was → Holds (replay was) held → at.held ≡ held
  opened_held {begun = begun} {was = was} {held = held} at settled holds =
      let keeps = (at.stands).keeps in
      let same : keeps.image ≡ was = same_some (sym ((keeps.step).settled).here ∙ settled.here) in
      hold_one (replay was) at.held held ((begun.records).saved, subst (λ (i : Image). HoldsBy (replay i) (begun.records).saved at.held) same keeps.holds) holds

  -- the pages of opening, and behind them those of the requests
  opened_reads : {a b c : D} {held held' : Held} {state : State} (pages : ℕ) → IsStill d a b → held' ≡ held → d.reads b ≤ d.reads a + pages → ReadsLookups d 0 held' state b c → ReadsLookups d pages held state a c
  opened_reads {a = a} {b = b} {c = c} {state = state} pages still same first from = record {
    taken = from.taken;
    takes = takes_after from.taken (d.beside a).input (d.beside b).input (d.beside c).input still.beside_stays.input from.takes;
    requests = from.requests;
    first = from.first;
    whole = of_taken_after from.requests (d.beside c).input still.beside_stays.input from.whole;
    few = λ all.
        let (own, are, few) = from.few all in
        (own, subst (λ (h : Held). ReadForAll h state from.requests own) same are, omega (arith, first, few));
  }

  pub serves_opened : {a b c : D} {begun : Store} (status : Status) → IsStill d a b → IsRenewed d a b → ((was : Image) (state : State) → IsSettled d a was → Recovers was (Some state) → IsAt d begun b state) →
      ((was : Image) → IsSettled d a was → HasHeader was) → ((was : Image) → IsSettled d a was → ReadsOpening was (d.reads a) (d.reads b)) → Converses d begun status b c → Serves d status a c
  serves_opened {a = a} {b = b} {c = c} status still renewed opens marked opening talk =
      let goes = goes_then (still_goes still) talk.goes in
      record {
        from = λ was state settled told recovers. opened_from status still settled recovers (talk.from state (opens was state settled recovers) told);
        cause = opened_cause status still opens talk talk.cause;
        no_header = λ was settled none. absurd (none (marked was settled));
        opened = inr (record { opened = b; still = still; renewed = renewed; counts = talk.goes.counts; faults_later = talk.goes.faults_later });
        bounded = record {
          taken = talk.bounded.taken;
          few = talk.bounded.few;
          takes = takes_after talk.bounded.taken (d.beside a).input (d.beside b).input (d.beside c).input still.beside_stays.input talk.bounded.takes;
        };
        counts = goes.counts;
        faults_later = goes.faults_later;
        untaken = λ none.
            left_then (left_still still)
            (talk.untaken (nothing_after talk.bounded.taken (d.beside a).input (d.beside b).input (d.beside c).input still.beside_stays.input talk.bounded.takes none));
        reads = λ was held state settled told holds is.
            let at = opens was state settled (held, holds, is) in
            opened_reads (opening_reads was held.catalog.bytes) still (opened_held at (settled_still still settled) holds) ((opening was settled).sound held holds) (talk.reads state at told);
        unopened_reads = λ was settled none. absurd (none (marked was settled));
      }

module _ {D : Type 0} (d : Ghosts D) (a b : D) where
  -- A store wasn't opened:

  pub unopened_short : (was : Image) (state : State) (e : EngineError) → NotOpened d e a b → IsSettled d a was → Recovers was (Some state) → StopsShort (status_of_engine e)
  unopened_short was state engine.Disk why settled recovers = tt
  unopened_short was state engine.Memory why settled recovers = tt
  unopened_short was state engine.NotAStore why settled recovers = absurd (why was settled (serving_together.header was state recovers))
  unopened_short was state (engine.Damaged page) why settled recovers = absurd ((why was settled).1 state recovers)
  unopened_short was state engine.Exists why settled recovers = absurd why
  unopened_short was state engine.Write why settled recovers = absurd why
  unopened_short was state engine.Ended why settled recovers = absurd why

  pub unopened_cause : (e : EngineError) → NotOpened d e a b → IsCaused d (status_of_engine e) a b
  unopened_cause engine.Disk why = why
  unopened_cause engine.Memory why = tt
  unopened_cause engine.NotAStore why = why
  unopened_cause (engine.Damaged page) why = λ was state settled told recovers. (why was settled).1 state recovers
  unopened_cause engine.Exists why = absurd why
  unopened_cause engine.Write why = absurd why
  unopened_cause engine.Ended why = absurd why

  pub unopened_header : (was : Image) (e : EngineError) → NotOpened d e a b → IsSettled d a was → (HasHeader was → ⊥) → EndsWithoutHeader (status_of_engine e)
  unopened_header was engine.Disk why settled none = tt
  unopened_header was engine.Memory why settled none = tt
  unopened_header was engine.NotAStore why settled none = tt
  unopened_header was (engine.Damaged page) why settled none = absurd (none (why was settled).0)
  unopened_header was engine.Exists why settled none = absurd why
  unopened_header was engine.Write why settled none = absurd why
  unopened_header was engine.Ended why settled none = absurd why

  pub serves_unopened : (e : EngineError) → HasClock d → IsStill d a b → NotOpened d e a b → ((was : Image) → IsSettled d a was → ReadsOpening was (d.reads a) (d.reads b)) → Serves d (status_of_engine e) a b
  serves_unopened e clock still why opening = record {
    from = λ was state settled told recovers.
        serves_nothing (status_of_engine e) clock (λ i left. subst (λ (j : Image). Recovers j (Some state)) (sym (settled.only i left)) recovers)
        (record {
          run = tt;
          time = elapsed_weaker still.time (λ s h. ([], kept_appends (d.beside a).output s.output h.0, (refl, still_image settled recovers s h.1)));
        })
        (left_still still) still.beside_stays.input (unopened_short was state e why settled recovers);
    cause = unopened_cause e why;
    no_header = λ was settled none. (unopened_header was e why settled none, still);
    opened = inl still;
    bounded = few_nothing (d.beside a).input (d.beside b).input still.beside_stays.input;
    counts = counts_still still;
    faults_later = still.faults_later;
    untaken = λ none. left_still still;
    reads = λ was held state settled told holds is. read_nothing (opening_reads was held.catalog.bytes) still.beside_stays.input ((opening was settled).sound held holds);
    unopened_reads = λ was settled none. (opening was settled).no_header none;
  }
