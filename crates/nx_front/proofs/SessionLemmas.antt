-- What sessions lead to, one after the other.
use Rattle.std.proofs.Common.{◌≡◌, ◌⊎◌, inl, inr, ℕ, ◌+◌, ◌≤◌, List, [], ◌∷◌, ◌++◌, take, drop, length, min, Option, None, Some, refl, sym, ap, ◌∙◌, subst, arith, append_assoc, append-nil}
use Rattle.std.specs.Prelude.{MatchOption}
use Rattle.std.proofs.lemmas.List.{map-append, take-append-drop, take_all, length-take}
use Rattle.nx_host.specs.declared.disk.Disk.{Ghosts}
use Rattle.nx_host.specs.Disk.{Image, Keeps}
use Rattle.nx_host.specs.Host.{Takes, Appends}
use Rattle.nx_host.specs.Time.{Stood, Elapses, elapsed_weaker}
use Rattle.nx_host.proofs.DiskLemmas.{keeps_self}
use Rattle.nx_host.specs.Still.{IsStill}
use Rattle.nx_host.proofs.OutputLemmas.{appends_nothing}
use Rattle.nx_filters.proofs.OutcomeLemmas.{kept_appends}
use Rattle.nx_replay.specs.Log.{Pages, Group, HasSame, replay}
use Rattle.nx_replay.specs.Laws.{over_all}
use Rattle.nx_replay.proofs.CommitMoments.{same_self}
use Rattle.nx_replay.proofs.ReplayLemmas.{replay-same}
use Rattle.nx_replay.proofs.SettledLemmas.{is_some}
use Rattle.nx_records.specs.Words.{Settings}
use Rattle.nx_records.specs.Records.{HasHeader}
use Rattle.nx_records.specs.Refusals.{IsNewStore}
use Rattle.nx_script.specs.declared.request.Request.{Request}
use Rattle.nx_script.specs.Requests.{AreRequests}
use Rattle.nx_cuts.specs.Cut.{CutTree}
use Rattle.nx_ship.specs.Stream.{Begins}
use Rattle.nx_ship.specs.Applying.{applied_text}
use Rattle.nx_ship.specs.declared.error.Start.{Start}
use Rattle.nx_ship.proofs.RecoveryLemmas.{states_are_whole}
use Rattle.nx_state.specs.State.{State, new_state}
use Rattle.nx_state.specs.Stands.{Stands, Recovers}
use Rattle.nx_filters.specs.declared.status.Status.{Status}
use Rattle.nx_filters.specs.declared.status.Status.TheVariants.{Done, Usage, Refused, DiskFault, ReadFault, WriteFault, NoMemory, NotAStore, Damaged, TooMuch}
use Rattle.nx_filters.specs.Outcome.{Meaning, RunsBeside}
use Rattle.nx_front.specs.declared.words.CommandLine.{CommandLine}
use Rattle.nx_front.specs.declared.words.CommandLine.TheVariants.{Tidy, Run, Plan, Verify, Init, Gen, Check, Find, Ship, Apply, Ask}
use Rattle.nx_front.specs.Turns.{Turn, IsRun, state_after, requests_of}
use Rattle.nx_front.specs.Serving.{ServesFrom, AreFirst, AreWholeReplies, IsMoment}
use Rattle.nx_front.specs.Generating.{generated, generated_requests, GeneratesFrom, FindsGenerated}
use Rattle.nx_front.specs.Checking.{Checks}
use Rattle.nx_front.specs.Asking.{Asks}
use Rattle.nx_front.specs.Finding.{Finds}
use Rattle.nx_front.specs.Shipping.{ShipsGroups}
use Rattle.nx_front.specs.Applied.{TakesGroups, IsUntaken, StandBehindEach}
use Rattle.nx_front.specs.Init.{HasPage, IsOldOrNew, Initializes, MakesStore, GivesUp}
use Rattle.nx_front.specs.Run.{IsCarriedOut}
use Rattle.nx_front.specs.Sessions.{Session, BeginInput, HasAnswered, HasGenerated, HasMade, AreOfState, HasReceived, AppliedStand, LeadsToStates, LeadsFrom, LeadsFromNone, Leads, SessionsLead}
use Rattle.nx_front.proofs.ClockLemmas.{HasClock}
use Rattle.nx_front.proofs.AppliedLemmas.{stay_dense}
use Rattle.nx_front.proofs.ReceivedLemmas.{AreReceived, none_received, received, whole_are_in, state_behind}
use Rattle.nx_front.proofs.InitLemmas.{init_together, holds_nothing}
use Rattle.nx_front.proofs.MomentLemmas.{reached_none, every_moment}
use Rattle.nx_front.proofs.ServingLaws.{serving_together}

-- the first requests of the bytes that were taken, and of what is left, are the first of the input
begins : (taken : List ℕ) (requests : List Request) (before after : Option (List ℕ)) → Takes taken before after → AreFirst taken requests after → BeginInput requests before after
begins taken requests before None takes first = tt
begins taken requests None (Some left) takes first = tt
begins taken requests (Some input) (Some left) takes (rest, are) =
    let same : input ≡ taken ++ left = cc takes in
    (rest, subst (λ (bytes : List ℕ). AreRequests bytes (requests ++ rest)) (sym same) are)

-- A disk without pages has no header.
no_header : (image : Image) → Recovers image None → HasHeader image → ⊥
no_header image none (bytes, here, marked) = let no_page : None ≡ Some bytes = sym (none 0) ∙ here in cc

-- One in a state has a page.
has_page : (image : Image) (state : State) → Recovers image (Some state) → HasPage image
has_page image state recovers = let (bytes, here, marked) = serving_together.header image state recovers in (0, is_some (replay image 0) here)

-- what an image holds one holds that is as it was
holds_same : (was image : Image) (held : Option State) → HasSame was image → Recovers was held → Recovers image held
holds_same was image None same none = λ p. ap (λ (pages : Pages). pages p) (replay-same was image same) ∙ none p
holds_same was image (Some state) same recovers = subst (λ (pages : Pages). Stands pages state) (sym (replay-same was image same)) recovers

-- turns that are a run are one up to any of them
run_up_to : (state : State) (done rest : List Turn) → IsRun state (done ++ rest) → IsRun state done
run_up_to state [] rest run = tt
run_up_to state (turn ∷ done) rest run = (run.0, run_up_to turn.next done rest run.1)

-- pages of a state, or of none, are what an image recovers to
of_image : (image : Image) (held : Option State) → Recovers image held → AreOfState (replay image) held
of_image image None none = none
of_image image (Some state) recovers = recovers

to_image : (image : Image) (pages : Pages) (next : Option State) → replay image ≡ pages → AreOfState pages next → Recovers image next
to_image image pages None is none = λ p. ap (λ (all : Pages). all p) is ∙ none p
to_image image pages (Some state) is stands = subst (λ (all : Pages). Stands all state) (sym is) stands

module _ {D : Type 0} {d : Ghosts D} where
  -- What stood at a moment of a session stood at its beginning, or it is what is said of such moments.
  at_stop : {P : Stood → Type 0} → HasClock d → (session : Session d) → Elapses d.moment d.stood_since session.before session.after P →
      (((session.stop).output ≡ (d.beside session.before).output) × ((session.stop).image ≡ session.opened)) ⊎ P session.stop
  at_stop clock session time = elim (time.nothing_else (d.moment session.before) session.stop (omega arith) session.stood) [
    | inl earlier ↦ let (same, left) = clock.only_now session.before session.stop earlier in inl (same, (session.settled).only (session.stop).image left)
    | inr added ↦ inr added
  ]

  -- where the images stayed, so did this one
  stays : {P : Stood → Type 0} → HasClock d → (session : Session d) →
      Elapses d.moment d.stood_since session.before session.after (λ s. P s × d.may_leave session.before s.image) → (session.stop).image ≡ session.opened
  stays clock session time = elim (at_stop clock session time) [
    | inl first ↦ first.1
    | inr added ↦ (session.settled).only (session.stop).image added.1
  ]

  -- the output is as at first
  kept : (session : Session d) → (session.stop).output ≡ (d.beside session.before).output → Keeps (d.beside session.before).output (session.stop).output
  kept session same = subst (λ (o : Option (List ℕ)). Keeps (d.beside session.before).output o) (sym same) (keeps_self (d.beside session.before).output)

  -- What a session led to, and its image holds.
  abbrev Went : Session d → (Option State → Type 0) → Type 0
  Went session Led = (next : Option State) × Led next × Recovers (session.stop).image next

  -- it is what was held before, where the image stayed
  same_held : (session : Session d) (held : Option State) → Recovers session.opened held → (session.stop).image ≡ session.opened → Went session (λ next. next ≡ held)
  same_held session held recovers same = (held, refl, subst (λ (i : Image). Recovers i held) (sym same) recovers)

  -- A run over a store:

  -- at a moment of it so many turns are done, of which the image is
  did : (session : Session d) (state : State) (from : ServesFrom d state session.status session.before session.after) (out : List ℕ) →
      Appends out (d.beside session.before).output (session.stop).output → (moment : IsMoment state from.turns out (session.stop).image) (n : ℕ) →
      moment.count ≤ n → n ≤ moment.count + 1 → Recovers (session.stop).image (Some (state_after state (take n from.turns))) → Went session (HasAnswered session state)
  did session state from out gave moment n low high recovers =
      let all : take n from.turns ++ drop n from.turns ≡ from.turns = take-append-drop n from.turns in
      let long : length (take n from.turns) ≡ min n (length from.turns) = length-take n from.turns in
      let some : moment.count ≤ length from.turns = (moment.whole).some in (
        Some (state_after state (take n from.turns)),
        record {
          done = take n from.turns;
          rest = drop n from.turns;
          run = subst (λ (turns : List Turn). IsRun state turns) (sym all) from.run;
          first = subst (λ (turns : List Turn). BeginInput (requests_of turns) (d.beside session.before).input (d.beside session.after).input) (sym all)
              (begins from.taken (requests_of from.turns) (d.beside session.before).input (d.beside session.after).input from.takes from.first);
          out = out;
          gave = gave;
          count = moment.count;
          acknowledged = subst (λ (turns : List Turn). AreWholeReplies turns out moment.count) (sym all) moment.whole;
          all_acknowledged = omega (arith, long, low, some);
          one_more = omega (arith, long, high);
          leads = refl;
        },
        recovers,
      )

  at_moment : (session : Session d) (state : State) (from : ServesFrom d state session.status session.before session.after) (out : List ℕ) →
      Appends out (d.beside session.before).output (session.stop).output → IsMoment state from.turns out (session.stop).image → Went session (HasAnswered session state)
  at_moment session state from out gave moment = elim moment.stands [
    | inl is ↦ did session state from out gave moment moment.count (omega arith) (omega arith) is
    | inr is ↦ did session state from out gave moment (moment.count + 1) (omega arith) (omega arith) is
  ]

  answered : HasClock d → (session : Session d) (state : State) → Recovers session.opened (Some state) → ServesFrom d state session.status session.before session.after →
      Went session (HasAnswered session state)
  answered clock session state recovers from = elim (at_stop clock session from.time) [
    | inl (same, here) ↦
        let is : Recovers (session.stop).image (Some state) = subst (λ (i : Image). Recovers i (Some state)) (sym here) recovers in
        let none : Appends [] (d.beside session.before).output (session.stop).output =
        subst (λ (o : Option (List ℕ)). Appends [] (d.beside session.before).output o) (sym same) (appends_nothing (d.beside session.before).output) in
        at_moment session state from [] none (every_moment state from.turns [] (session.stop).image (reached_none state from.turns (session.stop).image is))
    | inr (out, gave, moment) ↦ at_moment session state from out gave moment
  ]

  -- Generated commands:

  -- no command is done
  none_carried : (all : List Request) (session : Session d) (state : State) → Keeps (d.beside session.before).output (session.stop).output → HasGenerated all session state (Some state)
  none_carried all session state keeps = record { done = []; rest = all; run = tt; first = refl; all_once_out = inl keeps; leads = refl }

  carried : HasClock d → (all : List Request) (session : Session d) (state : State) → Recovers session.opened (Some state) →
      GeneratesFrom d all state session.status session.before session.after → Went session (HasGenerated all session state)
  carried clock all session state recovers from = elim (at_stop clock session from.time) [
    | inl (same, here) ↦ (
      Some state,
      none_carried all session state (kept session same),
      subst (λ (i : Image). Recovers i (Some state)) (sym here) recovers,
    )
    | inr (inl (keeps, (done, rest, parts, is))) ↦ (
      Some (state_after state done),
      record {
        done = done;
        rest = requests_of rest ++ from.rest;
        run = run_up_to state done rest (subst (λ (turns : List Turn). IsRun state turns) (sym parts) from.run);
        first = sym (append_assoc (requests_of done) (requests_of rest) from.rest)
            ∙ ap (λ (l : List Request). l ++ from.rest) (sym (map-append (λ (turn : Turn). turn.request) done rest) ∙ ap requests_of parts)
            ∙ from.first;
        all_once_out = inl keeps;
        leads = refl;
      },
      is,
    )
    | inr (inr (whole, told, is)) ↦ (
      Some (state_after state from.turns),
      record { done = from.turns; rest = []; run = from.run; first = append-nil (requests_of from.turns) ∙ whole; all_once_out = inr refl; leads = refl },
      is,
    )
  ]

  generated_from : HasClock d → (all : List Request) (session : Session d) (state : State) → Recovers session.opened (Some state) → (document : Option CutTree) →
      MatchOption document (GeneratesFrom d all state session.status session.before session.after) (λ known. FindsGenerated d session.status session.before session.after) →
      Went session (λ next. MatchOption document (HasGenerated all session state next) (λ known. next ≡ Some state))
  generated_from clock all session state recovers None from = carried clock all session state recovers from
  generated_from clock all session state recovers (Some document) finds = same_held session (Some state) recovers (stays clock session finds.time)

  -- A store that is made:

  -- over a disk without pages
  made : (settings : Settings) (session : Session d) → Recovers session.opened None → Keeps (d.beside session.before).output (session.stop).output →
      IsOldOrNew settings session.opened (session.stop).image → Went session (HasMade settings session)
  made settings session none keeps (inl same) = (None, inr (refl, keeps), holds_same session.opened (session.stop).image None same none)
  made settings session none keeps (inr new) = (Some (new_state settings), inl refl, (holds_nothing settings).recovers session.opened (session.stop).image new)

  -- ... and over one in a state
  not_made : (settings : Settings) (session : Session d) (state : State) → Recovers session.opened (Some state) → IsOldOrNew settings session.opened (session.stop).image →
      Went session (λ next. next ≡ Some state)
  not_made settings session state recovers (inl same) = (Some state, refl, holds_same session.opened (session.stop).image (Some state) same recovers)
  not_made settings session state recovers (inr new) = absurd ((init_together settings).one_outcome session.opened new.none_before (has_page session.opened state recovers))

  -- At the moment the image was as at first, or the new store, and with the first one nothing was out.
  abbrev AtMaking : Settings → Session d → Type 0
  AtMaking settings session =
      (Keeps (d.beside session.before).output (session.stop).output × IsOldOrNew settings session.opened (session.stop).image)
      ⊎ IsNewStore settings session.opened (session.stop).image

  was_first : (settings : Settings) (session : Session d) → Keeps (d.beside session.before).output (session.stop).output → (session.stop).image ≡ session.opened → AtMaking settings session
  was_first settings session keeps same = inl (keeps, inl (subst (λ (i : Image). HasSame session.opened i) (sym same) (same_self session.opened)))

  -- The disk had pages, and the image stayed.
  abbrev FoundPages : Session d → Type 0
  FoundPages session = HasPage session.opened × ((session.stop).image ≡ session.opened)

  making : HasClock d → (settings : Settings) (session : Session d) (status : Status) → MakesStore d settings status session.before session.after → AtMaking settings session
  making clock settings session status makes = elim (at_stop clock session makes.time) [
    | inl (same, here) ↦ was_first settings session (kept session same) here
    | inr (inl (keeps, is)) ↦ inl (keeps, is session.opened session.settled session.told)
    | inr (inr (told, is)) ↦ inr (is session.opened session.settled session.told)
  ]

  giving_up : HasClock d → (settings : Settings) (session : Session d) (status : Status) → GivesUp d settings status session.before session.after → AtMaking settings session
  giving_up clock settings session DiskFault (rose, goes, still) = elim (at_stop clock session goes.time) [
    | inl (same, here) ↦ was_first settings session (kept session same) here
    | inr (keeps, is) ↦ inl (keeps, is session.told session.opened session.settled)
  ]
  giving_up clock settings session NoMemory still = elim (at_stop clock session still.time) [
    | inl (same, here) ↦ was_first settings session (kept session same) here
    | inr (keeps, left) ↦ was_first settings session keeps ((session.settled).only (session.stop).image left)
  ]
  giving_up clock settings session Done ends = absurd ends
  giving_up clock settings session Usage ends = absurd ends
  giving_up clock settings session Refused ends = absurd ends
  giving_up clock settings session ReadFault ends = absurd ends
  giving_up clock settings session WriteFault ends = absurd ends
  giving_up clock settings session NotAStore ends = absurd ends
  giving_up clock settings session (Damaged page) ends = absurd ends
  giving_up clock settings session TooMuch ends = absurd ends

  initializing : HasClock d → (settings : Settings) (session : Session d) (status : Status) → Initializes d settings status session.before session.after →
      AtMaking settings session ⊎ FoundPages session
  initializing clock settings session status carried = elim carried.ends [
    | inl makes ↦ inl (making clock settings session status makes)
    | inr (inl finds) ↦ inr (finds.pages session.opened session.settled, stays clock session (finds.tells).time)
    | inr (inr ends) ↦ inl (giving_up clock settings session status ends)
  ]

  init_none : HasClock d → (settings : Settings) (session : Session d) → Recovers session.opened None → Initializes d settings session.status session.before session.after →
      Went session (HasMade settings session)
  init_none clock settings session none carried = elim (initializing clock settings session session.status carried) [
    | inl (inl (keeps, is)) ↦ made settings session none keeps is
    | inl (inr new) ↦ (Some (new_state settings), inl refl, (holds_nothing settings).recovers session.opened (session.stop).image new)
    | inr (page, same) ↦ absurd ((init_together settings).one_outcome session.opened none page)
  ]

  init_some : HasClock d → (settings : Settings) (session : Session d) (state : State) → Recovers session.opened (Some state) →
      Initializes d settings session.status session.before session.after → Went session (λ next. next ≡ Some state)
  init_some clock settings session state recovers carried = elim (initializing clock settings session session.status carried) [
    | inl (inl (keeps, is)) ↦ not_made settings session state recovers is
    | inl (inr new) ↦ not_made settings session state recovers (inr new)
    | inr (page, same) ↦ same_held session (Some state) recovers same
  ]

  -- Groups that are applied:

  -- what was received so far
  so_far : (session : Session d) (held : Option State) → Recovers session.opened held → (takes : TakesGroups d session.opened session.status session.before session.after) →
      StandBehindEach (replay session.opened) takes.groups → (out : List ℕ) → Appends out (d.beside session.before).output (session.stop).output →
      AreReceived (replay session.opened) takes.groups out (session.stop).image → Went session (HasReceived session)
  so_far session held recovers takes stand out gave are =
      let start = replay session.opened in
      let (next, leads) = state_behind start held are.done are.rest (of_image session.opened held recovers) (subst (λ (gs : List Group). StandBehindEach start gs) are.split stand) in (
        next,
        record {
          done = are.done;
          rest = are.rest;
          taken = takes.taken;
          behind = takes.rest;
          takes = takes.takes;
          begins = subst (λ (gs : List Group). Begins gs takes.taken takes.rest) are.split takes.begins;
          out = out;
          gave = gave;
          count = are.count;
          acknowledged = are.begins;
          all_acknowledged = whole_are_in are.done are.rest out are.long;
          one_more = are.one_more;
          leads = leads;
        },
        to_image (session.stop).image (over_all start are.done) next are.stands leads,
      )

  -- ... where what stands behind all groups was turned away
  all_received : (session : Session d) (held : Option State) → Recovers session.opened held → (takes : TakesGroups d session.opened session.status session.before session.after) →
      StandBehindEach (replay session.opened) takes.groups → (out : List ℕ) → Appends (applied_text takes.groups ++ out) (d.beside session.before).output (session.stop).output →
      replay (session.stop).image ≡ over_all (replay session.opened) takes.groups → Went session (HasReceived session)
  all_received session held recovers takes stand out gave is =
      let start = replay session.opened in
      let all : takes.groups ≡ takes.groups ++ [] = sym (append-nil takes.groups) in
      let (next, leads) = state_behind start held takes.groups [] (of_image session.opened held recovers) (subst (λ (gs : List Group). StandBehindEach start gs) all stand) in
      let whole : take (length takes.groups) takes.groups ≡ takes.groups = take_all (length takes.groups) takes.groups (omega arith) in (
        next,
        record {
          done = takes.groups;
          rest = [];
          taken = takes.taken;
          behind = takes.rest;
          takes = takes.takes;
          begins = subst (λ (gs : List Group). Begins gs takes.taken takes.rest) all takes.begins;
          out = applied_text takes.groups ++ out;
          gave = gave;
          count = length takes.groups;
          acknowledged = (out, ap (λ (gs : List Group). applied_text gs ++ out) (sym whole));
          all_acknowledged = λ more low begins. let same : length (takes.groups ++ []) ≡ length takes.groups = ap length (sym all) in omega (arith, low, same);
          one_more = omega arith;
          leads = leads;
        },
        to_image (session.stop).image (over_all start takes.groups) next is leads,
      )

  -- nothing was given, and the image is as at first
  no_output : (session : Session d) → (session.stop).output ≡ (d.beside session.before).output → Appends [] (d.beside session.before).output (session.stop).output
  no_output session same = subst (λ (o : Option (List ℕ)). Appends [] (d.beside session.before).output o) (sym same) (appends_nothing (d.beside session.before).output)

  -- nothing was taken
  none_taken : HasClock d → (session : Session d) (held : Option State) → Recovers session.opened held → IsStill d session.before session.after → Went session (HasReceived session)
  none_taken clock session held recovers still =
      let given : Keeps (d.beside session.before).output (session.stop).output × ((session.stop).image ≡ session.opened) =
      elim (at_stop clock session still.time) [
        | inl (same, here) ↦ (kept session same, here)
        | inr (keeps, left) ↦ (keeps, (session.settled).only (session.stop).image left)
      ] in (
        held,
        record {
          done = [];
          rest = [];
          taken = [];
          behind = [];
          takes = (still.beside_stays).input;
          begins = refl;
          out = [];
          gave = kept_appends (d.beside session.before).output (session.stop).output given.0;
          count = 0;
          acknowledged = ([], refl);
          all_acknowledged = λ more low begins. low;
          one_more = omega arith;
          leads = of_image session.opened held recovers;
        },
        subst (λ (i : Image). Recovers i held) (sym given.1) recovers,
      )

  applying : HasClock d → (session : Session d) (held : Option State) → Recovers session.opened held →
      (ended : TakesGroups d session.opened session.status session.before session.after ⊎ (IsUntaken session.opened session.status × IsStill d session.before session.after)) →
      AppliedStand ended → Went session (HasReceived session)
  applying clock session held recovers (inr (why, still)) stand = none_taken clock session held recovers still
  applying clock session held recovers (inl takes) stand =
      let start = replay session.opened in
      let shows = takes.shows (stay_dense start takes.groups (states_are_whole.dense session.opened held recovers) stand) in
      elim (at_stop clock session shows.time) [
        | inl (same, here) ↦ so_far session held recovers takes stand [] (no_output session same) (none_received start takes.groups [] (session.stop).image refl (ap replay here))
        | inr (inl (out, by, gave)) ↦ so_far session held recovers takes stand out gave (received start takes.groups out (session.stop).image by)
        | inr (inr (line, why, ((n, gave), is))) ↦ all_received session held recovers takes stand (take n line) gave is
      ]

  -- Any session:

  beside_stays : {m : Meaning} → HasClock d → (session : Session d) (held : Option State) → Recovers session.opened held → RunsBeside d m session.status session.before session.after →
      Went session (λ next. next ≡ held)
  beside_stays clock session held recovers runs = same_held session held recovers (stays clock session (runs.run).time)

  check_stays : HasClock d → (session : Session d) (held : Option State) → Recovers session.opened held → Checks d session.status session.before session.after →
      Went session (λ next. next ≡ held)
  check_stays clock session held recovers checks = elim checks.ends [
    | inl told ↦ same_held session held recovers (stays clock session (told.tells).time)
    | inr (why, still) ↦ same_held session held recovers (stays clock session still.time)
  ]

  find_stays : HasClock d → (session : Session d) (held : Option State) → Recovers session.opened held → Finds d session.status session.before session.after →
      Went session (λ next. next ≡ held)
  find_stays clock session held recovers finds = same_held session held recovers (stays {P = λ s. Unit {0}} clock session (elapsed_weaker finds.time (λ s h. (tt, h))))

  ship_stays : HasClock d → (session : Session d) (held : Option State) {start : Start} → Recovers session.opened held → ShipsGroups d start session.status session.before session.after →
      Went session (λ next. next ≡ held)
  ship_stays clock session held recovers ships = same_held session held recovers (stays {P = λ s. Unit {0}} clock session (elapsed_weaker ships.time (λ s h. (tt, h))))

  ask_stays : HasClock d → (session : Session d) (held : Option State) → Recovers session.opened held → Asks d session.status session.before session.after →
      Went session (λ next. next ≡ held)
  ask_stays clock session held recovers asks = same_held session held recovers (stays {P = λ s. Unit {0}} clock session (elapsed_weaker asks.time (λ s h. (tt, h))))

  from_state : HasClock d → (line : CommandLine) (session : Session d) (state : State) → Recovers session.opened (Some state) →
      (carried : IsCarriedOut d line session.status session.before session.after) →
      LeadsToStates d line session.status session.before session.after carried session.opened session.settled session.told → Went session (LeadsFrom line session state)
  from_state clock Tidy session state recovers carried stand = beside_stays clock session (Some state) recovers carried
  from_state clock (Plan k) session state recovers carried stand = beside_stays clock session (Some state) recovers carried
  from_state clock (Verify k) session state recovers carried stand = beside_stays clock session (Some state) recovers carried
  from_state clock Run session state recovers carried stand = answered clock session state recovers (carried.from session.opened state session.settled session.told recovers)
  from_state clock (Init settings) session state recovers carried stand = init_some clock settings session state recovers carried
  from_state clock (Gen seed n) session state recovers carried stand =
      generated_from clock (generated_requests seed n) session state recovers (generated state) (carried.from session.opened state session.settled session.told recovers)
  from_state clock Check session state recovers carried stand = check_stays clock session (Some state) recovers carried
  from_state clock Find session state recovers carried stand = find_stays clock session (Some state) recovers carried
  from_state clock (Ship start) session state recovers carried stand = ship_stays clock session (Some state) recovers carried
  from_state clock (Ask workers) session state recovers carried stand = ask_stays clock session (Some state) recovers carried
  from_state clock Apply session state recovers carried stand = applying clock session (Some state) recovers (carried.from session.opened session.settled session.told) stand

  from_none : HasClock d → (line : CommandLine) (session : Session d) → Recovers session.opened None →
      (carried : IsCarriedOut d line session.status session.before session.after) →
      LeadsToStates d line session.status session.before session.after carried session.opened session.settled session.told → Went session (LeadsFromNone line session)
  from_none clock Tidy session none carried stand = beside_stays clock session None none carried
  from_none clock (Plan k) session none carried stand = beside_stays clock session None none carried
  from_none clock (Verify k) session none carried stand = beside_stays clock session None none carried
  from_none clock Run session none carried stand =
      same_held session None none (stays clock session ((carried.no_header session.opened session.settled (no_header session.opened none)).1).time)
  from_none clock (Init settings) session none carried stand = init_none clock settings session none carried
  from_none clock (Gen seed n) session none carried stand =
      same_held session None none (stays clock session ((carried.no_header session.opened session.settled (no_header session.opened none)).1).time)
  from_none clock Check session none carried stand = check_stays clock session None none carried
  from_none clock Find session none carried stand = find_stays clock session None none carried
  from_none clock (Ship start) session none carried stand = ship_stays clock session None none carried
  from_none clock (Ask workers) session none carried stand = ask_stays clock session None none carried
  from_none clock Apply session none carried stand = applying clock session None none (carried.from session.opened session.settled session.told) stand

  one_leads : HasClock d → (session : Session d) (held : Option State) → Recovers session.opened held → Went session (Leads session held)
  one_leads clock session None none = from_none clock session.line session none session.carried session.applied
  one_leads clock session (Some state) recovers = from_state clock session.line session state recovers session.carried session.applied

  pub sessions_lead : HasClock d → SessionsLead d
  sessions_lead clock image held [] order recovers = (held, refl, recovers)
  sessions_lead clock image held (session ∷ sessions) (here, order) recovers =
      let (next, leads, left) = one_leads clock session held (subst (λ (i : Image). Recovers i held) (sym here) recovers) in
      let (last, lead, stands) = sessions_lead clock (session.stop).image next sessions order left in
      (last, (next, leads, lead), stands)
