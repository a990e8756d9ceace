-- Generated commands over a store: turns that are had of them, what came of them, and how such a run ends.
use Rattle.std.proofs.Common.{◌≡◌, ◌⊎◌, inl, inr, ℕ, ◌+◌, ◌≤◌, Bool, true, false, cond, if◌then◌else◌, List, [], ◌∷◌, ◌++◌, map, length, Option, None, Some, IsSome, Result, Ok, Err, IfErr, refl, sym, ap, ◌∙◌, subst, arith, append_assoc, append-nil, length-append}
use Rattle.std.specs.Prelude.{MatchOption}
use Rattle.std.specs.Option.{option_map, option_map_or, unwrap_or}
use Rattle.std.specs.Ordering.{is_eq}
use Rattle.std.specs.List.{count_by}
use Rattle.std.specs.FinMap.{find, entries, get-entries}
use Rattle.std.proofs.lemmas.Bool.{false≢true}
use Rattle.std.proofs.lemmas.List.{length-map}
use Rattle.std.proofs.lemmas.List.Sums.{sum_by_push, count_by-le-length}
use Rattle.std.proofs.lemmas.Map.Text.{is_eq-slice_cmp}
use Rattle.nx_host.specs.declared.disk.Disk.{Ghosts}
use Rattle.nx_host.specs.Disk.{Image, Beside, Keeps}
use Rattle.nx_host.specs.Host.{Appends, AppendsPrefix}
use Rattle.nx_host.specs.Input.{most_input}
use Rattle.nx_host.specs.Time.{Elapses, none_elapsed, elapsed_then, elapsed_weaker}
use Rattle.nx_host.specs.Still.{IsStill, WritesAlone, IsSettled}
use Rattle.nx_host.specs.Phase.{GivesAlone}
use Rattle.nx_host.proofs.DiskLemmas.{keeps_self, keeps_then, none_written, written_alone_then}
use Rattle.nx_host.proofs.OutputLemmas.{appends_then, prefix_then, keeps_prefix}
use Rattle.nx_pyx.specs.Text.{text}
use Rattle.nx_cuts.specs.Cut.{CutTree, tree_of}
use Rattle.nx_script.specs.declared.command.Command.{Command}
use Rattle.nx_script.specs.declared.command.Command.TheVariants.{Export}
use Rattle.nx_script.specs.declared.request.Request.{Request}
use Rattle.nx_script.specs.declared.request.Request.TheVariants.{Single}
use Rattle.nx_script.specs.declared.request.Answer.{Answer}
use Rattle.nx_script.specs.declared.request.Answer.TheVariants.{One, All, RefusedAt}
use Rattle.nx_script.specs.declared.reply.Reply.{Reply}
use Rattle.nx_script.specs.declared.reply.Reply.TheVariants as reply
use Rattle.nx_script.specs.declared.reply.ReplyError.TheVariants.{NoDocument}
use Rattle.nx_pyx.specs.DocumentName.{name_order}
use Rattle.nx_gen.specs.Commands.{gen_name}
use Rattle.nx_records.specs.Records.{HasHeader}
use Rattle.nx_state.specs.State.{State, document_size}
use Rattle.nx_state.specs.Stands.{Recovers}
use Rattle.nx_steps.specs.Answers.{Answers, Refuses, cut_document_line}
use Rattle.nx_steps.specs.Step.{Step, FindsNoRoom}
use Rattle.nx_steps.specs.Requests.{is_refused, RequestStep}
use Rattle.nx_store.specs.Store.{IsApplied, IsAt, IsOf, IsOfEither, Shows, TakesNone, NotOpened}
use Rattle.nx_store.specs.declared.store.Store.{Store}
use Rattle.nx_store.specs.declared.error.EngineError.{EngineError}
use Rattle.nx_store.specs.declared.error.EngineError.TheVariants as engine
use Rattle.nx_store.specs.Told.{line_of}
use Rattle.nx_store.proofs.AtLemmas.{at_image}
use Rattle.nx_store.proofs.FoundLemmas.{at_lines}
use Rattle.nx_store.proofs.ShowLemmas.{shows_then}
use Rattle.nx_filters.specs.declared.status.Status.{Status}
use Rattle.nx_filters.specs.declared.status.Status.TheVariants.{Done, Usage, Refused, DiskFault, ReadFault, WriteFault, NoMemory, NotAStore, Damaged, TooMuch}
use Rattle.nx_filters.specs.Outcome.{TakesFew, CountsGrow}
use Rattle.nx_filters.proofs.OutcomeLemmas.{rose_since, told_at_first, kept_appends, keeps_of}
use Rattle.nx_front.specs.Turns.{Turn, IsRun, state_after, requests_of, replies_of, IsAfterSome}
use Rattle.nx_front.specs.Serving.{LeavesMoments, EndsWell, EndsWithoutHeader}
use Rattle.nx_front.specs.Conversation.{IsUnanswered, status_of_engine}
use Rattle.nx_front.specs.Init.{exists_line, SaysLine, IsUntroubled}
use Rattle.nx_front.specs.Generating.{generated, generated_requests, is_refused_alone, text_size, summary_text, ShowsGenerating, EndsGenerating, GeneratesFrom, EndsFinding, FindsGenerated, GeneratesIn, IsGenerationCaused, Generates, EndsRefusing, CompletesGenerating}
use Rattle.nx_front.specs.Carrying.{listed_nodes, exported_size, HasTurned, IsCarrying, HasCarried, CarriesOut, CutsShort, CarriesSome, StopsCarrying}
use Rattle.nx_front.proofs.InitLemmas.{line_told}
use Rattle.nx_front.proofs.ServingLaws.{serving_together}
use Rattle.nx_front.proofs.ConversationLemmas.{unopened_header}
use Rattle.nx_front.proofs.ClockLemmas.{HasClock, at_end}
use Rattle.nx_records.specs.Words.{IsRenewed}
use Rattle.nx_front.specs.Logs.{EndsAnswered, IsOpenedOrStill}
use Rattle.nx_front.proofs.LogLemmas.{rests, still_rests, beside_rests, leaves_turn, logs_rest, logs_more, logs_behind, follow_but, but_behind, logs_ended}
use Rattle.nx_front.proofs.MomentLemmas.{run_more, after_more, requests_more}

-- Images of the state after some turns:

some_all : (state : State) (turns : List Turn) (image : Image) → IsOf (state_after state turns) image → IsAfterSome state turns image
some_all state turns image is = (turns, [], append-nil turns, is)

-- ... of all but the last
some_before : (state : State) (turns : List Turn) (turn : Turn) (image : Image) → IsOf (state_after state turns) image → IsAfterSome state (turns ++ turn ∷ []) image
some_before state turns turn image is = (turns, turn ∷ [], refl, is)

some_next : (state : State) (turns : List Turn) (turn : Turn) (image : Image) → IsOf turn.next image → IsAfterSome state (turns ++ turn ∷ []) image
some_next state turns turn image is = some_all state (turns ++ turn ∷ []) image (subst (λ (t : State). IsOf t image) (sym (after_more state turns turn)) is)

some_either : (state : State) (turns : List Turn) (turn : Turn) (image : Image) → IsOfEither (state_after state turns) turn.next image → IsAfterSome state (turns ++ turn ∷ []) image
some_either state turns turn image (inl old) = some_before state turns turn image old
some_either state turns turn image (inr new) = some_next state turns turn image new

some_longer : (state : State) (turns : List Turn) (turn : Turn) (image : Image) → IsAfterSome state turns image → IsAfterSome state (turns ++ turn ∷ []) image
some_longer state turns turn image (done, rest, is, stands) =
    (done, rest ++ turn ∷ [], sym (append_assoc done rest (turn ∷ [])) ∙ ap (λ (ts : List Turn). ts ++ turn ∷ []) is, stands)

replies_more : (turns : List Turn) (turn : Turn) → replies_of (turns ++ turn ∷ []) ≡ replies_of turns ++ turn.reply ∷ []
replies_more [] turn = refl
replies_more (t ∷ ts) turn = ap (λ (rs : List Answer). t.reply ∷ rs) (replies_more ts turn)

-- What is told of replies:

-- how many bytes of text the reply to a command that stands alone gives
abbrev pub size_alone : Answer → ℕ
size_alone (One reply) = exported_size reply
size_alone _ = 0

-- ... and the last one
abbrev pub last_size : List Answer → ℕ
last_size [] = 0
last_size (r ∷ []) = size_alone r
last_size (r ∷ r' ∷ rs) = last_size (r' ∷ rs)

last_more : (replies : List Answer) (r : Answer) → last_size (replies ++ r ∷ []) ≡ size_alone r
last_more [] r = refl
last_more (q ∷ []) r = refl
last_more (q ∷ q' ∷ replies) r = last_more (q' ∷ replies) r

refused_more : (replies : List Answer) (r : Answer) → count_by is_refused_alone (replies ++ r ∷ []) ≡ count_by is_refused_alone replies + (if is_refused_alone r then 1 else 0)
refused_more replies r = sum_by_push (λ (q : Answer). cond (is_refused_alone q) 1 0) replies r

length_more : {T : Type 0} (xs : List T) (x : T) → length (xs ++ x ∷ []) ≡ length xs + 1
length_more xs x = length-append xs (x ∷ [])

-- the last of turns, by their requests
last_turn : (turns : List Turn) (before : List Request) (request : Request) → requests_of turns ≡ before ++ request ∷ [] →
    (others : List Turn) × (turn : Turn) × (turns ≡ others ++ turn ∷ []) × (turn.request ≡ request)
last_turn [] [] request is = absurd (cc is)
last_turn [] (b ∷ before) request is = absurd (cc is)
last_turn (t ∷ []) [] request is = ([], t, refl, (let e : t.request ≡ request = cc is in e))
last_turn (t ∷ t' ∷ ts) [] request is = absurd (cc is)
last_turn (t ∷ ts) (b ∷ before) request is =
    let (others, turn, are, same) = last_turn ts before request (let e : requests_of ts ≡ before ++ request ∷ [] = cc is in e) in
    (t ∷ others, turn, ap (λ (l : List Turn). t ∷ l) are, same)

run_last : (state : State) (turns : List Turn) (turn : Turn) → IsRun state (turns ++ turn ∷ []) → RequestStep (state_after state turns) turn.request turn.reply turn.next
run_last state [] turn run = run.0
run_last state (t ∷ ts) turn run = run_last t.next ts turn run.1

-- an `export` gives the text of the document there is, and leaves the state
export_gives_text : (state : State) (r : Reply) (next : State) → Step state (Export gen_name) r next → (next ≡ state) × (exported_size r ≡ option_map_or text_size (generated state) 0)
export_gives_text state r next step = by (generated state) step
  where
    by : (o : Option CutTree) →
        MatchOption (option_map_or (λ (document : CutTree). None) o (Some NoDocument))
        (Answers state (option_map_or (λ (document : CutTree). reply.Exported (text (tree_of document))) o (reply.Refused NoDocument)) r next ⊎ FindsNoRoom state (Export gen_name) r next)
        (λ error. Refuses state error r next) → (next ≡ state) × (exported_size r ≡ option_map_or text_size o 0)
    by None (is, same) = (same, ap exported_size is)
    by (Some document) (inl (is, same)) = (same, ap exported_size is)
    by (Some document) (inr full) = absurd (false≢true full.needs)

export_gives : (state : State) (r : Answer) (next : State) → RequestStep state (Single (Export gen_name)) r next → (next ≡ state) × (size_alone r ≡ option_map_or text_size (generated state) 0)
export_gives state (One r) next step = export_gives_text state r next step
export_gives state (All rs) next step = absurd step
export_gives state (RefusedAt number error) next step = absurd step

-- so the last of these requests gives how many bytes its text has
size_after : (state : State) (turns : List Turn) (before : List Request) → IsRun state turns → requests_of turns ≡ before ++ Single (Export gen_name) ∷ [] →
    last_size (replies_of turns) ≡ option_map_or text_size (generated (state_after state turns)) 0
size_after state turns before run are =
    let (others, turn, is, same) = last_turn turns before (Single (Export gen_name)) are in
    let step = run_last state others turn (subst (λ (ts : List Turn). IsRun state ts) is run) in
    let (stays, size) = export_gives (state_after state others) turn.reply turn.next (subst (λ (r : Request). RequestStep (state_after state others) r turn.reply turn.next) same step) in
    let last : state_after state turns ≡ state_after state others = ap (λ (ts : List Turn). state_after state ts) is ∙ after_more state others turn ∙ stays in
    ap (λ (ts : List Turn). last_size (replies_of ts)) is ∙ ap last_size (replies_more others turn) ∙ last_more (replies_of others) turn.reply ∙ size
    ∙ ap (λ (t : State). option_map_or text_size (generated t) 0) (sym last)

-- What is listed:

picked : {A B : Type 0} (f : A → B) (b : Bool) (x : A) (o : Option A) (p : Option B) → p ≡ option_map f o → (if b then Some (f x) else p) ≡ option_map f (cond b (Some x) o)
picked f true x o p is = refl
picked f false x o p is = is

listed_found : (name : List ℕ) (es : List (List ℕ × CutTree)) → listed_nodes name (map cut_document_line es) ≡ option_map document_size (find name_order name es)
listed_found name [] = refl
listed_found name (e ∷ es) =
    let others = listed_nodes name (map cut_document_line es) in
    ap (λ (b : Bool). if b then Some (document_size e.1) else others) (sym (is_eq-slice_cmp name e.0))
    ∙ picked document_size (is_eq (name_order name e.0)) e.1 (find name_order name es) others (listed_found name es)

-- ... of a store at a state is what the state has
pub listed_at : {D : Type 0} {d : Ghosts D} {store : Store} {disk : D} {state : State} → IsAt d store disk state →
    listed_nodes gen_name (map line_of (entries (store.catalog).documents)) ≡ option_map document_size (generated state)
listed_at {state = state} at =
    ap (listed_nodes gen_name) (at_lines at) ∙ listed_found gen_name (entries state.documents) ∙ ap (option_map document_size) (sym (get-entries state.documents gen_name))

size_or : (o : Option CutTree) (nodes : Option ℕ) → nodes ≡ option_map document_size o → unwrap_or nodes 0 ≡ option_map_or document_size o 0
size_or None nodes is = ap (λ (o : Option ℕ). unwrap_or o 0) is
size_or (Some document) nodes is = ap (λ (o : Option ℕ). unwrap_or o 0) is

-- the lines are some bytes
pub some_text : (count errors nodes bytes : ℕ) → 1 ≤ length (summary_text count errors nodes bytes)
some_text count errors nodes bytes = omega arith

-- no command is left where none came
pub none_remains : (left left' : List Command) (o : Option Command) → ((command : Command) → o ≡ Some command → ⊥) →
    MatchOption o ((left ≡ []) × (left' ≡ [])) (λ command. left ≡ command ∷ left') → left ≡ []
none_remains left left' None other ends = ends.0
none_remains left left' (Some command) other ends = absurd (other command refl)

module _ {D : Type 0} {d : Ghosts D} where
  -- Turns that are had:

  turned_none : {a : D} {state : State} {store : Store} → IsAt d store a state → HasTurned d state [] store a a
  turned_none at = record { run = tt; at = at; time = none_elapsed; logs = rests }

  turned_more : {first now next : D} {state : State} {turns : List Turn} {store store' : Store} (command : Command) (r : Reply) → WritesAlone d first now (λ _. Unit {0}) → d.moment now ≤ d.moment next →
      HasTurned d state turns store first now → IsApplied d (Ok r) (state_after state turns) command store' now next →
      (turn : Turn) × (turn.request ≡ Single command) × (turn.reply ≡ One r) × HasTurned d state (turns ++ turn ∷ []) store' first next
  turned_more {next = next} {state = state} {turns = turns} {store' = store'} command r areas later turned (after, step, at, shows, log) =
      let turn : Turn = record { request = Single command; reply = One r; next = after } in (
        turn,
        refl,
        refl,
        record {
          run = run_more state turns turn turned.run step;
          at = subst (λ (t : State). IsAt d store' next t) (sym (after_more state turns turn)) at;
          time = shows_then d areas.beside_stays.output (some_longer state turns turn) (some_either state turns turn) turned.time shows;
          logs = logs_more state turns turn _ turned.logs (leaves_turn turn at later log);
        },
      )

  -- Commands that are carried out:

  carrying_none : {a : D} {store : Store} → IsCarrying d store [] [] store a a
  carrying_none = record { areas = none_written; had = λ state at told. ([], refl, refl, turned_none at) }

  carrying_more : {begun store store' : Store} {came : List Request} {replies : List Answer} {first now next : D} (command : Command) (r : Reply) →
      IsCarrying d begun came replies store first now → WritesAlone d now next (λ _. Unit {0}) →
      ((state : State) → IsAt d store now state → IsSome (d.contents next) → IsApplied d (Ok r) state command store' now next) →
      IsCarrying d begun (came ++ Single command ∷ []) (replies ++ One r ∷ []) store' first next
  carrying_more {came = came} {replies = replies} command r carried writes applies = record {
    areas = written_alone_then carried.areas writes (λ told i has. tt);
    had = λ state at told.
        let (turns, are, answered, turned) = carried.had state at (writes.told told) in
        let (turn, is, its, more) = turned_more command r carried.areas (writes.time).later turned (applies (state_after state turns) turned.at told) in (
          turns ++ turn ∷ [],
          requests_more turns turn ∙ ap (λ (rs : List Request). rs ++ turn.request ∷ []) are ∙ ap (λ (q : Request). came ++ q ∷ []) is,
          replies_more turns turn ∙ ap (λ (rs : List Answer). rs ++ turn.reply ∷ []) answered ∙ ap (λ (q : Answer). replies ++ q ∷ []) its,
          more,
        );
  }

  -- memory runs out between two commands
  carrying_starved : {begun store : Store} {came all : List Request} {replies : List Answer} {first now : D} (rest : List Request) → IsCarrying d begun came replies store first now →
      came ++ rest ≡ all → StopsCarrying d all engine.Memory begun first now
  carrying_starved {now = now} rest carried parts state at told =
      let (turns, are, answered, turned) = carried.had state at told in
      record {
        short = tt;
        turns = turns;
        run = turned.run;
        rest = rest;
        parts = ap (λ (rs : List Request). rs ++ rest) are ∙ parts;
        time = turned.time;
        between = now;
        logs = follow_but state turns turns turned.logs (inl refl);
      }

  -- a command isn't carried out, or begun alone
  module _ {begun store : Store} {came all : List Request} {replies : List Answer} {first now next : D} (store' : Store) (command : Command) (rest : List Request)
      (carried : IsCarrying d begun came replies store first now) (writes : WritesAlone d now next (λ _. Unit {0})) (parts : came ++ Single command ∷ rest ≡ all) where
    none_begun : (error : EngineError) (state : State) (turns : List Turn) → CutsShort error → requests_of turns ≡ came → HasTurned d state turns store first now →
        Shows d (IsOf (state_after state turns)) now next → CarriesSome d all error state first next
    none_begun error state turns short are turned shows = record {
      short = short;
      turns = turns;
      run = turned.run;
      rest = Single command ∷ rest;
      parts = ap (λ (rs : List Request). rs ++ Single command ∷ rest) are ∙ parts;
      time = shows_then d carried.areas.beside_stays.output (λ i is. is) (some_all state turns) turned.time shows;
      between = now;
      logs = follow_but state turns turns turned.logs (inl refl);
    }

    one_begun : (error : EngineError) (state : State) (turns : List Turn) (turn : Turn) → CutsShort error → requests_of turns ≡ came → HasTurned d state turns store first now →
        turn.request ≡ Single command → RequestStep (state_after state turns) turn.request turn.reply turn.next → Shows d (IsOfEither (state_after state turns) turn.next) now next →
        CarriesSome d all error state first next
    one_begun error state turns turn short are turned is step shows = record {
      short = short;
      turns = turns ++ turn ∷ [];
      run = run_more state turns turn turned.run step;
      rest = rest;
      parts =
          ap (λ (rs : List Request). rs ++ rest) (requests_more turns turn) ∙ append_assoc (requests_of turns) (turn.request ∷ []) rest ∙ ap (λ (q : Request). requests_of turns ++ q ∷ rest) is
          ∙ ap (λ (rs : List Request). rs ++ Single command ∷ rest) are ∙ parts;
      time = shows_then d carried.areas.beside_stays.output (some_longer state turns turn) (some_either state turns turn) turned.time shows;
      between = now;
      logs = follow_but state turns (turns ++ turn ∷ []) turned.logs (inr (turn, refl));
    }

    stops_by : (error : EngineError) (state : State) (turns : List Turn) → requests_of turns ≡ came → HasTurned d state turns store first now →
        IsApplied d (Err error) (state_after state turns) command store' now next → CarriesSome d all error state first next
    stops_by engine.Memory state turns are turned (at, shows, spares) = none_begun engine.Memory state turns tt are turned shows
    stops_by engine.Disk state turns are turned (inl shows) = none_begun engine.Disk state turns tt are turned shows
    stops_by engine.Disk state turns are turned (inr (begins, shows)) =
        one_begun engine.Disk state turns (record { request = Single command; reply = begins.reply; next = begins.next }) tt are turned refl begins.step shows
    stops_by engine.Exists state turns are turned applied = absurd applied
    stops_by engine.NotAStore state turns are turned applied = absurd applied
    stops_by engine.Write state turns are turned applied = absurd applied
    stops_by (engine.Damaged page) state turns are turned applied = absurd applied
    stops_by engine.Ended state turns are turned applied = absurd applied

    carrying_stops : (error : EngineError) → ((state : State) → IsAt d store now state → IsSome (d.contents next) → IsApplied d (Err error) state command store' now next) →
        StopsCarrying d all error begun first next
    carrying_stops error applies state at told =
        let (turns, are, answered, turned) = carried.had state at (writes.told told) in
        stops_by error state turns are turned (applies (state_after state turns) turned.at told)

  -- all commands are carried out, and these numbers are told
  carried_out : {begun store : Store} {all : List Request} {replies : List Answer} {first now : D} {count errors nodes bytes : ℕ} (lines : List ℕ) (listed : Option ℕ) (before : List Request) →
      IsCarrying d begun all replies store first now → all ≡ before ++ Single (Export gen_name) ∷ [] → count ≡ length replies → errors ≡ count_by is_refused_alone replies → bytes ≡ last_size replies →
      listed ≡ listed_nodes gen_name (map line_of (entries (store.catalog).documents)) → nodes ≡ unwrap_or listed 0 → lines ≡ summary_text count errors nodes bytes →
      CarriesOut d all lines begun store first now
  carried_out {store = store} {replies = replies} {count = count} {errors = errors} {nodes = nodes} {bytes = bytes} lines listed before carried ends many failed size lists counted is state at told =
      let (turns, are, answered, turned) = carried.had state at told in
      let last = state_after state turns in
      let there : nodes ≡ option_map_or document_size (generated last) 0 = counted ∙ size_or (generated last) listed (lists ∙ listed_at turned.at) in
      let long : bytes ≡ option_map_or text_size (generated last) 0 = size ∙ ap last_size (sym answered) ∙ size_after state turns before turned.run (are ∙ ends) in
      record {
        turns = turns;
        all_are = are;
        turned = turned;
        text_is =
            is ∙ ap (λ (n : ℕ). summary_text n errors nodes bytes) (many ∙ ap length (sym answered))
            ∙ ap (λ (n : ℕ). summary_text (length (replies_of turns)) n nodes bytes) (failed ∙ ap (count_by is_refused_alone) (sym answered))
            ∙ ap (λ (n : ℕ). summary_text (length (replies_of turns)) (count_by is_refused_alone (replies_of turns)) n bytes) there
            ∙ ap (λ (n : ℕ). summary_text (length (replies_of turns)) (count_by is_refused_alone (replies_of turns)) (option_map_or document_size (generated last) 0) n) long;
      }

-- Between two commands: these remain, and these numbers tell of the replies so far.
pub record IsAmid {D : Type 0} (d : Ghosts D) (all : List Request) (left : List Command) (count errors bytes : ℕ) (begun store : Store) (first now : D) : Type 0 where
  pub done : List Request
  pub replies : List Answer
  pub parts : done ++ map (λ command. Single command) left ≡ all
  pub many : count ≡ length replies
  pub as_many : length replies ≡ length done
  pub failed : errors ≡ count_by is_refused_alone replies
  pub size : bytes ≡ last_size replies
  pub carried : IsCarrying d begun done replies store first now

-- the next command, and those behind it
next_of : (all done : List Request) (left left' : List Command) (command : Command) → left ≡ command ∷ left' → done ++ map (λ c. Single c) left ≡ all → done ++ Single command ∷ map (λ c. Single c) left' ≡ all
next_of all done left left' command is parts = ap (λ (cs : List Command). done ++ map (λ c. Single c) cs) (sym is) ∙ parts

module _ {D : Type 0} {d : Ghosts D} where
  pub amid_first : {all left : List Command} {count errors bytes : ℕ} {a : D} {store : Store} → left ≡ all → count ≡ 0 → errors ≡ 0 → bytes ≡ 0 →
      IsAmid d (map (λ command. Single command) all) left count errors bytes store store a a
  amid_first is many failed size = record {
    done = [];
    replies = [];
    parts = ap (λ (cs : List Command). map (λ command. Single command) cs) is;
    many = many;
    as_many = refl;
    failed = failed;
    size = size;
    carried = carrying_none;
  }

  -- there are few
  pub amid_few : {all : List Request} {left : List Command} {count errors bytes : ℕ} {begun store : Store} {first now : D} → IsAmid d all left count errors bytes begun store first now →
      (count + length left ≡ length all) × (errors ≤ count)
  amid_few {all = all} {left = left} {count = count} {errors = errors} amid =
      let behind : List Request = map (λ command. Single command) left in
      let sum : length (amid.done ++ behind) ≡ length amid.done + length behind = length-append amid.done behind in
      let whole : length (amid.done ++ behind) ≡ length all = ap length amid.parts in
      let remain : length behind ≡ length left = length-map left (λ command. Single command) in
      let as_many : length amid.replies ≡ length amid.done = amid.as_many in
      let few : count_by is_refused_alone amid.replies ≤ length amid.replies = count_by-le-length is_refused_alone amid.replies in (
        let many : count ≡ length amid.replies = amid.many in omega (arith, sum, whole, remain, as_many, many),
        let many : count ≡ length amid.replies = amid.many in let failed : errors ≡ count_by is_refused_alone amid.replies = amid.failed in omega (arith, few, many, failed),
      )

  -- one more is carried out
  pub amid_more : {all : List Request} {left left' : List Command} {count errors bytes count' errors' bytes' : ℕ} {begun store store' : Store} {first now next : D} (command : Command) (r : Reply) →
      left ≡ command ∷ left' → count' ≡ count + 1 → errors' ≡ errors + (if is_refused r then 1 else 0) → bytes' ≡ exported_size r →
      IsAmid d all left count errors bytes begun store first now → WritesAlone d now next (λ _. Unit {0}) →
      ((state : State) → IsAt d store now state → IsSome (d.contents next) → IsApplied d (Ok r) state command store' now next) →
      IsAmid d all left' count' errors' bytes' begun store' first next
  amid_more {all = all} {left = left} {left' = left'} command r is many failed size amid writes applies = record {
    done = amid.done ++ Single command ∷ [];
    replies = amid.replies ++ One r ∷ [];
    parts = append_assoc amid.done (Single command ∷ []) (map (λ c. Single c) left') ∙ next_of all amid.done left left' command is amid.parts;
    many = many ∙ ap (λ (n : ℕ). n + 1) amid.many ∙ sym (length_more amid.replies (One r));
    as_many = length_more amid.replies (One r) ∙ ap (λ (n : ℕ). n + 1) amid.as_many ∙ sym (length_more amid.done (Single command));
    failed = failed ∙ ap (λ (n : ℕ). n + (if is_refused r then 1 else 0)) amid.failed ∙ sym (refused_more amid.replies (One r));
    size = size ∙ sym (last_more amid.replies (One r));
    carried = carrying_more command r amid.carried writes applies;
  }

  -- all are
  pub amid_done : {all : List Request} {left : List Command} {count errors nodes bytes : ℕ} {begun store : Store} {first now : D} (lines : List ℕ) (listed : Option ℕ) (before : List Request) → left ≡ [] →
      all ≡ before ++ Single (Export gen_name) ∷ [] → IsAmid d all left count errors bytes begun store first now →
      listed ≡ listed_nodes gen_name (map line_of (entries (store.catalog).documents)) → nodes ≡ unwrap_or listed 0 → lines ≡ summary_text count errors nodes bytes →
      CarriesOut d all lines begun store first now
  amid_done {all = all} {begun = begun} {store = store} {first = first} {now = now} lines listed before none ends amid lists counted is =
      let whole : amid.done ≡ all = sym (append-nil amid.done) ∙ ap (λ (cs : List Command). amid.done ++ map (λ c. Single c) cs) (sym none) ∙ amid.parts in
      carried_out lines listed before (subst (λ (rs : List Request). IsCarrying d begun rs amid.replies store first now) whole amid.carried) ends amid.many amid.failed amid.size lists counted is

  -- memory runs out
  pub amid_starved : {all : List Request} {left : List Command} {count errors bytes : ℕ} {begun store : Store} {first now : D} → IsAmid d all left count errors bytes begun store first now →
      StopsCarrying d all engine.Memory begun first now
  amid_starved {left = left} amid = carrying_starved (map (λ command. Single command) left) amid.carried amid.parts

  -- a command isn't carried out
  pub amid_stops : {all : List Request} {left left' : List Command} {count errors bytes : ℕ} {begun store : Store} {first now next : D} (store' : Store) (command : Command) (error : EngineError) →
      left ≡ command ∷ left' → IsAmid d all left count errors bytes begun store first now → WritesAlone d now next (λ _. Unit {0}) →
      ((state : State) → IsAt d store now state → IsSome (d.contents next) → IsApplied d (Err error) state command store' now next) → StopsCarrying d all error begun first next
  amid_stops {all = all} {left = left} {left' = left'} store' command error is amid writes applies =
      carrying_stops store' command (map (λ c. Single c) left') amid.carried writes (next_of all amid.done left left' command is amid.parts) error applies

-- the error that a `?` hands on
pub passed : {T E : Type 0} (r : Result T E) (P : E → Type 0) (e : E) → (y : E) × (r ≡ Err y) × (y ≡ e) → P e → IfErr r P
passed r P e is here = subst (λ x. IfErr x P) (sym is.1) (subst P (sym is.2) here)

-- How the run ends:

found_ends : (status : Status) (a b c : Beside) → Keeps a.output b.output → SaysLine exists_line Refused status b c → EndsFinding status a c
found_ends status a b c kept (inl (is, appends)) =
    subst (λ (s : Status). EndsFinding s a c) (sym is) (appends_then [] exists_line a.output b.output c.output (kept_appends a.output b.output kept) appends)
found_ends status a b c kept (inr (is, fails)) = subst (λ (s : Status). EndsFinding s a c) (sym is) tt

-- it doesn't end behind an answer then
cut_unanswered : (e : EngineError) → CutsShort e → EndsAnswered (status_of_engine e) → ⊥
cut_unanswered engine.Disk short answered = answered
cut_unanswered engine.Memory short answered = answered
cut_unanswered engine.Exists short answered = short
cut_unanswered engine.NotAStore short answered = short
cut_unanswered engine.Write short answered = short
cut_unanswered (engine.Damaged page) short answered = short
cut_unanswered engine.Ended short answered = short

cut_ends : (all : List Request) (state : State) (turns : List Turn) (e : EngineError) (a b : Beside) → CutsShort e →
    EndsGenerating all state turns (status_of_engine e) a b × (status_of_engine e ≡ Done → ⊥)
cut_ends all state turns engine.Disk a b short = (tt, λ is. cc is)
cut_ends all state turns engine.Memory a b short = (tt, λ is. cc is)
cut_ends all state turns engine.Exists a b short = absurd short
cut_ends all state turns engine.NotAStore a b short = absurd short
cut_ends all state turns engine.Write a b short = absurd short
cut_ends all state turns (engine.Damaged page) a b short = absurd short
cut_ends all state turns engine.Ended a b short = absurd short

module _ {D : Type 0} {d : Ghosts D} where
  -- no input is taken, and no count falls
  pub takes_then : {a b c : D} → TakesNone d a b → TakesNone d b c → TakesNone d a c
  takes_then {a = a} {b = b} {c = c} one other = record {
    told = λ told. one.told (other.told told);
    input_stays = keeps_then (d.beside a).input (d.beside b).input (d.beside c).input one.input_stays other.input_stays;
    in_faults_stay = other.in_faults_stay ∙ one.in_faults_stay;
    out_faults_later =
        let x : (d.beside a).out_faults ≤ (d.beside b).out_faults = one.out_faults_later in let y : (d.beside b).out_faults ≤ (d.beside c).out_faults = other.out_faults_later in omega arith;
    faults_later = let x : d.faults a ≤ d.faults b = one.faults_later in let y : d.faults b ≤ d.faults c = other.faults_later in omega arith;
  }

  writes_takes : {a b : D} {P : Image → Type 0} → WritesAlone d a b P → TakesNone d a b
  writes_takes {a = a} {b = b} writes = record {
    told = writes.told;
    input_stays = writes.beside_stays.input;
    in_faults_stay = writes.beside_stays.in_faults;
    out_faults_later = let same : (d.beside b).out_faults ≡ (d.beside a).out_faults = writes.beside_stays.out_faults in omega (arith, same);
    faults_later = writes.faults_later;
  }

  pub still_takes : {a b : D} → IsStill d a b → TakesNone d a b
  still_takes {a = a} {b = b} still = record {
    told = subst (λ (o : Option Image). IsSome o → IsSome (d.contents a)) (sym still.contents_stay) (λ told. told);
    input_stays = still.beside_stays.input;
    in_faults_stay = still.beside_stays.in_faults;
    out_faults_later = let same : (d.beside b).out_faults ≡ (d.beside a).out_faults = still.beside_stays.out_faults in omega (arith, same);
    faults_later = still.faults_later;
  }

  pub gives_takes : {a b : D} {line : List ℕ} → GivesAlone d line a b → TakesNone d a b
  gives_takes {a = a} {b = b} gives = record {
    told = told_at_first (d.contents a) (d.contents b) gives.areas.contents_stay;
    input_stays = keeps_of (d.beside a).input (d.beside b).input gives.input_stays;
    in_faults_stay = gives.in_faults_stay;
    out_faults_later = gives.areas.out_faults_later;
    faults_later = let same : d.faults b ≡ d.faults a = gives.areas.faults_stay in omega (arith, same);
  }

  -- at the end of a run there is a moment of it
  left_shown : {all : List Request} {state : State} {turns : List Turn} {a c : D} → HasClock d → ((i : Image) → d.may_leave a i → Recovers i (Some state)) →
      Elapses d.moment d.stood_since a c (ShowsGenerating (d.beside a).output all state turns) → LeavesMoments d c (ShowsGenerating (d.beside a).output all state turns)
  left_shown {all = all} {state = state} {turns = turns} {a = a} {c = c} clock begins time = λ i left.
      elim (at_end clock time i left) [
        | inl (same, before) ↦ inl (keeps_of (d.beside a).output (d.beside c).output same, ([], turns, refl, begins i before))
        | inr shown ↦ shown
      ]

  -- each image of a disk with one image that is a state is of that state
  of_settled : {a : D} {was : Image} {state : State} → IsSettled d a was → Recovers was (Some state) → (i : Image) → d.may_leave a i → Recovers i (Some state)
  of_settled {state = state} settled recovers i left = subst (λ (j : Image). Recovers j (Some state)) (sym (settled.only i left)) recovers

  -- of a disk that was asked alone nothing is carried out
  generates_none : {all : List Request} {state : State} {was : Image} {a b : D} (status : Status) → HasClock d → IsStill d a b → IsSettled d a was → Recovers was (Some state) →
      EndsGenerating all state [] status (d.beside a) (d.beside b) → (status ≡ Done → ⊥) → GeneratesFrom d all state status a b
  generates_none {all = all} {state = state} {a = a} status clock still settled recovers ends not_done =
      let time = elapsed_weaker {P = ShowsGenerating (d.beside a).output all state []} still.time
      (λ s h. inl (h.0, ([], [], refl, of_settled settled recovers s.image h.1)))
      in
      record {
        turns = [];
        run = tt;
        rest = all;
        first = refl;
        time = time;
        left = left_shown clock (of_settled settled recovers) time;
        ends = ends;
        last = λ is. absurd (not_done is);
        logs = logs_ended state [] status (still_rests still);
      }

  -- ... and where a document is there, nothing is said
  finds_none : {a b : D} (status : Status) → IsStill d a b → EndsFinding status (d.beside a) (d.beside b) → FindsGenerated d status a b
  finds_none {a = a} {b = b} status still ends = record {
    contents_stay = subst (λ (o : Option Image). Keeps (d.contents a) o) (sym still.contents_stay) (keeps_self (d.contents a));
    images_stay = still.images_stay;
    time = elapsed_weaker still.time (λ s h. (keeps_prefix exists_line (d.beside a).output s.output h.0, h.1));
    ends = ends;
  }

  -- the store wasn't opened
  module _ (all : List Request) {state : State} {was : Image} {a b : D} (clock : HasClock d) (still : IsStill d a b) (settled : IsSettled d a was) (recovers : Recovers was (Some state)) where
    nothing_by : (status : Status) → EndsGenerating all state [] status (d.beside a) (d.beside b) → (status ≡ Done → ⊥) → EndsFinding status (d.beside a) (d.beside b) → (o : Option CutTree) →
        MatchOption o (GeneratesFrom d all state status a b) (λ document. FindsGenerated d status a b)
    nothing_by status ends not_done finds None = generates_none status clock still settled recovers ends not_done
    nothing_by status ends not_done finds (Some document) = finds_none status still finds

    starved_in : GeneratesIn d all state NoMemory a b
    starved_in = nothing_by NoMemory tt (λ is. cc is) tt (generated state)

    unopened_in : (e : EngineError) → NotOpened d e a b → GeneratesIn d all state (status_of_engine e) a b
    unopened_in engine.Disk why = nothing_by DiskFault tt (λ is. cc is) tt (generated state)
    unopened_in engine.Memory why = starved_in
    unopened_in engine.NotAStore why = absurd (why was settled (serving_together.header was state recovers))
    unopened_in (engine.Damaged page) why = absurd ((why was settled).1 state recovers)
    unopened_in engine.Exists why = absurd why
    unopened_in engine.Write why = absurd why
    unopened_in engine.Ended why = absurd why

  finds_said : {a b c : D} (status : Status) → IsStill d a b → SaysLine exists_line Refused status (d.beside b) (d.beside c) → GivesAlone d exists_line b c → FindsGenerated d status a c
  finds_said {a = a} {b = b} {c = c} status still says gives = let told = line_told exists_line still gives in record {
    contents_stay = told.contents_stay;
    images_stay = told.images_stay;
    time = told.time;
    ends = found_ends status (d.beside a) (d.beside b) (d.beside c) still.beside_stays.output says;
  }

  -- not all commands were carried out
  generates_cut : {all : List Request} {state : State} {was : Image} {a b c : D} (e : EngineError) → HasClock d → IsStill d a b → IsSettled d a was → Recovers was (Some state) →
      CarriesSome d all e state b c → GeneratesFrom d all state (status_of_engine e) a c
  generates_cut {all = all} {state = state} {a = a} {b = b} {c = c} e clock still settled recovers stopped =
      let time = elapsed_then {P = ShowsGenerating (d.beside a).output all state stopped.turns}
      (elapsed_weaker still.time (λ s h. inl (h.0, ([], stopped.turns, refl, of_settled settled recovers s.image h.1))))
      stopped.time
      (λ s h. inl (keeps_then (d.beside a).output (d.beside b).output s.output still.beside_stays.output h.0, h.1))
      in
      let (ends, not_done) = cut_ends all state stopped.turns e (d.beside a) (d.beside c) stopped.short in
      record {
        turns = stopped.turns;
        run = stopped.run;
        rest = stopped.rest;
        first = stopped.parts;
        time = time;
        left = left_shown clock (of_settled settled recovers) time;
        ends = ends;
        last = λ is. absurd (not_done is);
        logs = record {
          between = stopped.between;
          answered = but_behind (still_rests still) stopped.logs;
          whole = λ answered. absurd (cut_unanswered e stopped.short answered);
        };
      }

  -- all were, and the summary is given
  generates_said : {all : List Request} {lines : List ℕ} {state : State} {was : Image} {store : Store} {a b c e : D} (status : Status) → HasClock d → IsStill d a b → IsSettled d a was →
      Recovers was (Some state) → HasCarried d all lines state store b c → Keeps (d.beside b).output (d.beside c).output → SaysLine lines Done status (d.beside c) (d.beside e) →
      GivesAlone d lines c e → IsSome (d.contents e) → GeneratesFrom d all state status a e
  generates_said {all = all} {lines = lines} {state = state} {a = a} {b = b} {c = c} {e = e} status clock still settled recovers carried kept says gives told =
      let turns = carried.turns in
      let turned = carried.turned in
      let here = keeps_then (d.beside a).output (d.beside b).output (d.beside c).output still.beside_stays.output kept in
      let time = elapsed_then {P = ShowsGenerating (d.beside a).output all state turns}
      (elapsed_then {P = ShowsGenerating (d.beside a).output all state turns}
      (elapsed_weaker still.time (λ s h. inl (h.0, ([], turns, refl, of_settled settled recovers s.image h.1))))
      turned.time (λ s h. inl (keeps_then (d.beside a).output (d.beside b).output s.output still.beside_stays.output h.0, h.1)))
      gives.areas.time
      (λ s h. inr (
        carried.all_are,
        subst (λ (l : List ℕ). AppendsPrefix l (d.beside a).output s.output) carried.text_is
            (prefix_then [] lines (d.beside a).output (d.beside c).output s.output (kept_appends (d.beside a).output (d.beside c).output here) h.0),
        at_image turned.at h.1,
      ))
      in
      record {
        turns = turns;
        run = turned.run;
        rest = [];
        first = append-nil (requests_of turns) ∙ carried.all_are;
        time = time;
        left = left_shown clock (of_settled settled recovers) time;
        ends = elim says [
          | inl (is, appends) ↦ subst (λ (s : Status). EndsGenerating all state turns s (d.beside a) (d.beside e)) (sym is) (
            carried.all_are,
            subst (λ (l : List ℕ). Appends l (d.beside a).output (d.beside e).output) carried.text_is
                (appends_then [] lines (d.beside a).output (d.beside c).output (d.beside e).output (kept_appends (d.beside a).output (d.beside c).output here) appends),
          )
          | inr (is, fails) ↦ subst (λ (s : Status). EndsGenerating all state turns s (d.beside a) (d.beside e)) (sym is) carried.all_are
        ];
        last = λ is i may. at_image turned.at ((gives.areas.images_stay i).0 may);
        logs = logs_ended state turns status (logs_behind state turns _ (still_rests still) (logs_rest state turns _ turned.logs (beside_rests gives.areas told)));
      }

-- where none is listed none is there, and where one is listed one is
none_in : {A : Type 0} (B : Type 0) (o : Option CutTree) → None ≡ option_map document_size o → A → MatchOption o A (λ document. B)
none_in B None none a = a
none_in B (Some document) none a = absurd (cc none)

some_in : (A : Type 0) {B : Type 0} (o : Option CutTree) (n : ℕ) → Some n ≡ option_map document_size o → B → MatchOption o A (λ document. B)
some_in A None n some b = absurd (cc some)
some_in A (Some document) n some b = b

-- why it ends so

unopened_causes : {D : Type 0} (d : Ghosts D) (a b : D) (e : EngineError) → NotOpened d e a b → IsGenerationCaused d (status_of_engine e) a b
unopened_causes d a b engine.Disk why = why
unopened_causes d a b engine.Memory why = tt
unopened_causes d a b engine.NotAStore why = why
unopened_causes d a b (engine.Damaged page) why = λ was state settled told recovers. (why was settled).1 state recovers
unopened_causes d a b engine.Exists why = absurd why
unopened_causes d a b engine.Write why = absurd why
unopened_causes d a b engine.Ended why = absurd why

said_cause : {D : Type 0} (d : Ghosts D) (a b c : D) (line : List ℕ) (whole status : Status) → IsGenerationCaused d whole a c → (d.beside a).out_faults ≤ (d.beside b).out_faults →
    SaysLine line whole status (d.beside b) (d.beside c) → IsGenerationCaused d status a c
said_cause d a b c line whole status cause later (inl (is, appends)) = subst (λ (s : Status). IsGenerationCaused d s a c) (sym is) cause
said_cause d a b c line whole status cause later (inr (is, fails)) =
    subst (λ (s : Status). IsGenerationCaused d s a c) (sym is) (rose_since (d.beside a).out_faults (d.beside b).out_faults (d.beside c).out_faults later fails.rose)

module _ {D : Type 0} {d : Ghosts D} where
  pub generates_unopened : (seed n : ℕ) {a b : D} (e : EngineError) → HasClock d → IsStill d a b → NotOpened d e a b → Generates d seed n (status_of_engine e) a b
  generates_unopened seed n {a = a} {b = b} e clock still why = record {
    from = λ was state settled told recovers. unopened_in (generated_requests seed n) clock still settled recovers e why;
    cause = unopened_causes d a b e why;
    no_header = λ was settled none. (unopened_header d a b was e why settled none, still);
    opened = inl still;
    takes = still_takes still;
  }

  -- Over a store that was opened:
  module _ (seed n : ℕ) {a b : D} {begun : Store} (clock : HasClock d) (still : IsStill d a b) (renewed : IsRenewed d a b)
      (opens : (was : Image) (state : State) → IsSettled d a was → Recovers was (Some state) → IsAt d begun b state) (marked : (was : Image) → IsSettled d a was → HasHeader was) where
    -- its documents aren't listed for want of memory
    pub generates_starved : Generates d seed n NoMemory a b
    generates_starved = record {
      from = λ was state settled told recovers. starved_in (generated_requests seed n) clock still settled recovers;
      cause = tt;
      no_header = λ was settled none. absurd (none (marked was settled));
      opened = inl still;
      takes = still_takes still;
    }

    -- it was opened
    opened_by : {c : D} → TakesNone d b c → IsOpenedOrStill d a c
    opened_by {c = c} takes = inr (record {
      opened = b;
      still = still;
      renewed = renewed;
      counts = record {
        read = let same : (d.beside c).in_faults ≡ (d.beside b).in_faults = takes.in_faults_stay in omega (arith, same);
        written = takes.out_faults_later;
      };
      faults_later = takes.faults_later;
    })

    listed_in : (was : Image) (state : State) → IsSettled d a was → Recovers was (Some state) →
        listed_nodes gen_name (map line_of (entries (begun.catalog).documents)) ≡ option_map document_size (generated state)
    listed_in was state settled recovers = listed_at (opens was state settled recovers)

    -- a document is listed
    pub generates_found : {c : D} (nodes : ℕ) (status : Status) → Some nodes ≡ listed_nodes gen_name (map line_of (entries (begun.catalog).documents)) →
        SaysLine exists_line Refused status (d.beside b) (d.beside c) → GivesAlone d exists_line b c → Generates d seed n status a c
    generates_found {c = c} nodes status listed says gives =
        let still_later : (d.beside a).out_faults ≤ (d.beside b).out_faults = (still_takes still).out_faults_later in
        record {
          from = λ was state settled told recovers. some_in (GeneratesFrom d (generated_requests seed n) state status a c) (generated state) nodes (listed ∙ listed_in was state settled recovers) (finds_said status still says gives);
          cause = said_cause d a b c exists_line Refused status tt still_later says;
          no_header = λ was settled none. absurd (none (marked was settled));
          opened = opened_by (gives_takes gives);
          takes = takes_then (still_takes still) (gives_takes gives);
        }

    -- Where none is listed:
    module _ (none_listed : None ≡ listed_nodes gen_name (map line_of (entries (begun.catalog).documents))) where
      stopped_cause : {c : D} (e : EngineError) → d.faults a ≤ d.faults b → StopsCarrying d (generated_requests seed n) e begun b c → IsUnanswered d (status_of_engine e) b c →
          IsGenerationCaused d (status_of_engine e) a c
      stopped_cause {c = c} engine.Disk later stops rose = rose_since (d.faults a) (d.faults b) (d.faults c) later rose
      stopped_cause engine.Memory later stops cause = tt
      stopped_cause engine.Ended later stops cause = tt
      stopped_cause engine.Exists later stops cause = tt
      stopped_cause (engine.Damaged page) later stops cause = λ was state settled told recovers. (stops state (opens was state settled recovers) told).short
      stopped_cause engine.NotAStore later stops cause = absurd cause
      stopped_cause {c = c} engine.Write later stops rose =
          rose_since (d.beside a).out_faults (d.beside b).out_faults (d.beside c).out_faults (still_takes still).out_faults_later rose

      -- not all commands are carried out
      pub generates_stopped : {c : D} (e : EngineError) → StopsCarrying d (generated_requests seed n) e begun b c → IsUnanswered d (status_of_engine e) b c → WritesAlone d b c (λ _. Unit {0}) →
          Generates d seed n (status_of_engine e) a c
      generates_stopped {c = c} e stops cause writes = record {
        from = λ was state settled told recovers.
            none_in (FindsGenerated d (status_of_engine e) a c) (generated state) (none_listed ∙ listed_in was state settled recovers)
            (generates_cut e clock still settled recovers (stops state (opens was state settled recovers) told));
        cause = stopped_cause e still.faults_later stops cause;
        no_header = λ was settled none. absurd (none (marked was settled));
        opened = opened_by (writes_takes writes);
        takes = takes_then (still_takes still) (writes_takes writes);
      }

      -- all are
      pub generates_all : {c e : D} {store : Store} {lines : List ℕ} (status : Status) → CarriesOut d (generated_requests seed n) lines begun store b c → WritesAlone d b c (λ _. Unit {0}) →
          SaysLine lines Done status (d.beside c) (d.beside e) → GivesAlone d lines c e → Generates d seed n status a e
      generates_all {c = c} {e = e} {lines = lines} status carries writes says gives =
          let takes = takes_then (still_takes still) (writes_takes writes) in
          record {
            from = λ was state settled told recovers.
                let there = told_at_first (d.contents c) (d.contents e) gives.areas.contents_stay told in
                none_in (FindsGenerated d status a e) (generated state) (none_listed ∙ listed_in was state settled recovers)
                (generates_said status clock still settled recovers (carries state (opens was state settled recovers) there) writes.beside_stays.output says gives told);
            cause = said_cause d a c e lines Done status tt takes.out_faults_later says;
            no_header = λ was settled none. absurd (none (marked was settled));
            opened = opened_by (takes_then (writes_takes writes) (gives_takes gives));
            takes = takes_then takes (gives_takes gives);
          }

-- What it ends with where nothing fails:

module _ {D : Type 0} {d : Ghosts D} {a b : D} {was : Image} (calm : IsUntroubled d was a b) where
  whole_by : (all : List Request) (state : State) (turns : List Turn) (status : Status) → IsGenerationCaused d status a b → EndsGenerating all state turns status (d.beside a) (d.beside b) → EndsWell status
  whole_by all state turns Done cause ends = tt
  whole_by all state turns NoMemory cause ends = tt
  whole_by all state turns DiskFault cause ends = absurd (calm.disk cause)
  whole_by all state turns WriteFault cause ends = absurd (calm.written cause)
  whole_by all state turns Usage cause ends = absurd ends
  whole_by all state turns Refused cause ends = absurd ends
  whole_by all state turns ReadFault cause ends = absurd ends
  whole_by all state turns NotAStore cause ends = absurd ends
  whole_by all state turns (Damaged page) cause ends = absurd ends
  whole_by all state turns TooMuch cause ends = absurd ends

  refusing_by : (status : Status) → IsGenerationCaused d status a b → EndsFinding status (d.beside a) (d.beside b) → EndsRefusing status
  refusing_by Refused cause ends = tt
  refusing_by NoMemory cause ends = tt
  refusing_by DiskFault cause ends = absurd (calm.disk cause)
  refusing_by WriteFault cause ends = absurd (calm.written cause)
  refusing_by Usage cause ends = absurd ends
  refusing_by Done cause ends = absurd ends
  refusing_by ReadFault cause ends = absurd ends
  refusing_by NotAStore cause ends = absurd ends
  refusing_by (Damaged page) cause ends = absurd ends
  refusing_by TooMuch cause ends = absurd ends

  either_by : (all : List Request) (state : State) (status : Status) → IsGenerationCaused d status a b → (o : Option CutTree) →
      MatchOption o (GeneratesFrom d all state status a b) (λ document. FindsGenerated d status a b) → MatchOption o (EndsWell status) (λ document. EndsRefusing status)
  either_by all state status cause None from = whole_by all state from.turns status cause from.ends
  either_by all state status cause (Some document) found = refusing_by status cause found.ends

  without_by : (status : Status) → IsGenerationCaused d status a b → EndsWithoutHeader status → (status ≡ NotAStore) ⊎ (status ≡ NoMemory)
  without_by NotAStore cause none = inl refl
  without_by NoMemory cause none = inr refl
  without_by DiskFault cause none = absurd (calm.disk cause)
  without_by Done cause none = absurd none
  without_by Usage cause none = absurd none
  without_by Refused cause none = absurd none
  without_by ReadFault cause none = absurd none
  without_by WriteFault cause none = absurd none
  without_by (Damaged page) cause none = absurd none
  without_by TooMuch cause none = absurd none

module _ {D : Type 0} {d : Ghosts D} {a b : D} where
  pub generating_completes : (seed n : ℕ) (status : Status) → Generates d seed n status a b → CompletesGenerating d status a b
  generating_completes seed n status generates = record {
    store = λ was state calm recovers.
        either_by calm (generated_requests seed n) state status generates.cause (generated state) (generates.from was state calm.settled calm.still_told recovers);
    no_store = λ was calm none. without_by calm status generates.cause (generates.no_header was calm.settled none).0;
  }

  -- it isn't answered by how command lines are to be written
  pub generating_not_usage : (seed n : ℕ) → Generates d seed n Usage a b → ⊥
  generating_not_usage seed n generates = generates.cause

  pub generating_bounded : (seed n : ℕ) (status : Status) → Generates d seed n status a b → TakesFew (d.beside a).input (d.beside b).input
  generating_bounded seed n status generates = record { taken = []; few = (let e : 0 ≤ most_input = omega arith in e); takes = generates.takes.input_stays }

  pub generating_counts : (seed n : ℕ) (status : Status) → Generates d seed n status a b → CountsGrow (d.beside a) (d.beside b) × (d.faults a ≤ d.faults b)
  generating_counts seed n status generates =
      (record { read = (let same : (d.beside b).in_faults ≡ (d.beside a).in_faults = generates.takes.in_faults_stay in omega (arith, same)); written = generates.takes.out_faults_later }, generates.takes.faults_later)
