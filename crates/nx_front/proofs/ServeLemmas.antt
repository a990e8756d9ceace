-- A script over a store: turns that are had, and what was given of their replies.
use Rattle.std.proofs.Common.{◌≡◌, false, ◌⊎◌, inl, inr, ℕ, ◌+◌, ◌-◌, ◌<◌, ◌≤◌, List, [], ◌∷◌, ◌++◌, take, length, Option, None, Some, IsSome, Result, Ok, Err, refl, sym, ap, ◌∙◌, subst, arith, append_assoc, append-nil, length-append}
use Rattle.std.proofs.lemmas.List.{take_all, take-append-le, length-take-le}
use Rattle.std.proofs.Math.Seq.{take-append-add}
use Rattle.nx_host.specs.declared.disk.Disk.{Ghosts}
use Rattle.nx_host.specs.Disk.{Image}
use Rattle.nx_host.specs.Host.{Appends, AppendsPrefix}
use Rattle.nx_host.specs.Time.{Stood, Elapses, none_elapsed, elapsed_then, elapsed_weaker}
use Rattle.nx_host.specs.Phase.{LeavesAreas, TakesAlone, GivesAlone}
use Rattle.nx_host.specs.Still.{WritesAlone}
use Rattle.nx_host.proofs.OutputLemmas.{appends_nothing, appends_then, keeps_prefix}
use Rattle.nx_script.specs.declared.command.Command.{Command}
use Rattle.nx_script.specs.declared.command.Command.TheVariants.{Export}
use Rattle.nx_script.specs.declared.request.Request.{Request}
use Rattle.nx_script.specs.declared.request.Request.TheVariants.{Single}
use Rattle.nx_script.specs.declared.reply.Reply.{Reply}
use Rattle.nx_script.specs.declared.request.Answer.TheVariants.{One}
use Rattle.nx_script.specs.Reply.{reply_text, answered_text}
use Rattle.nx_store.specs.Store.{StoreTurn, IsApplied, IsAnswered, GivesPart, IsAt, IsOf, IsOfEither, Shows, ShowsAnswer, ShowsGiven, IsGiven, IsExported, TakesNone, NotApplied}
use Rattle.nx_steps.specs.Requests.{RequestStep}
use Rattle.nx_state.specs.State.{State}
use Rattle.nx_store.specs.declared.store.Store.{Store}
use Rattle.nx_store.specs.declared.error.EngineError.{EngineError}
use Rattle.nx_store.specs.declared.error.EngineError.TheVariants as engine
use Rattle.nx_store.proofs.AtLemmas.{at_beside, at_image}
use Rattle.nx_nav.specs.Given.{AsksAndGives}
use Rattle.nx_store.proofs.CaseLemmas.{quiet_leaves}
use Rattle.nx_store.proofs.LogLemmas.{areas_keep, log_of_look}
use Rattle.nx_front.proofs.LogLemmas.{beside_rests, turn_behind, leaves_turn}
use Rattle.nx_steps.specs.Step.{may_change}
use Rattle.nx_steps.proofs.RequestLemmas.{other_requests_stay}
use Rattle.nx_filters.specs.declared.status.Status.{Status}
use Rattle.nx_filters.specs.declared.status.Status.TheVariants.{NoMemory}
use Rattle.nx_filters.specs.declared.give.GiveError.{GiveError}
use Rattle.nx_filters.specs.declared.give.GiveError.TheVariants as give_error
use Rattle.nx_filters.specs.TakeError.{status_of_give_error}
use Rattle.nx_filters.specs.Outcome.{Given}
use Rattle.nx_front.specs.Serving.{Turn, state_after, requests_of, texts_of, ShowsBetween, LeavesMoments, EndsBetween}
use Rattle.nx_front.specs.Conversation.{IsReached, ShowsReached, IsReachedBetween, HasRun, HasServed, HasBegun, AnswersNext, BeginsNext, StopsShort, IsUnanswered, status_of_engine}
use Rattle.nx_filters.proofs.OutcomeLemmas.{kept_appends, gives_appends, keeps_of}
use Rattle.nx_front.proofs.ClockLemmas.{HasClock, at_end}
use Rattle.nx_front.proofs.MomentLemmas.{run_more, after_more, texts_more, requests_more, longer, last, longer_between, last_between, part_between, every_between, le_or}

-- What is given:

-- a prefix that was given is some bytes
prefix_bytes : (bytes : List ℕ) (old new : Option (List ℕ)) → AppendsPrefix bytes old new → (n : ℕ) × Appends (take n bytes) old new
prefix_bytes bytes old None prefix = (0, tt)
prefix_bytes bytes old (Some now) (was, n, is, grew) = (n, (was, is, grew))

-- Of the texts of turns more are out, and the last one changed nothing.
waits_more : (state : State) (turns : List Turn) (turn : Turn) (n : ℕ) (image : Image) → (n ≤ length (texts_of turns) → IsReached state turns (take n (texts_of turns)) image) → IsOf turn.next image →
    (n < length (texts_of turns)) ⊎ (length (texts_of turns) ≤ n) → IsReached state (turns ++ turn ∷ []) (take n (texts_of turns ++ answered_text turn.reply)) image
waits_more state turns turn n image waits is (inl short) =
    let few : n ≤ length (texts_of turns) = omega (arith, short) in
    subst (λ (l : List ℕ). IsReached state (turns ++ turn ∷ []) l image) (sym (take-append-le n (texts_of turns) (answered_text turn.reply) few))
    (longer state turns turn (take n (texts_of turns)) image (waits few))
waits_more state turns turn n image waits is (inr long) =
    let text = answered_text turn.reply in
    let m = n - length (texts_of turns) in
    let all : length (texts_of turns) + m ≡ n = omega (arith, long) in
    subst (λ (l : List ℕ). IsReached state (turns ++ turn ∷ []) l image)
    (sym (take-append-add (texts_of turns) text m) ∙ ap (λ (k : ℕ). take k (texts_of turns ++ text)) all)
    (last state turns turn (take m text) image (inr (inl (m, refl, is))))

-- ... and none is begun
between_more : (state : State) (turns : List Turn) (turn : Turn) (n : ℕ) (image : Image) → IsReachedBetween state turns (take n (texts_of turns)) image → IsOf (state_after state turns) image →
    IsOf turn.next image → (n < length (texts_of turns)) ⊎ (length (texts_of turns) ≤ n) → IsReachedBetween state (turns ++ turn ∷ []) (take n (texts_of turns ++ answered_text turn.reply)) image
between_more state turns turn n image waits before is (inl short) =
    let few : n ≤ length (texts_of turns) = omega (arith, short) in
    let long : length (take n (texts_of turns)) ≡ n = length-take-le n (texts_of turns) few in
    subst (λ (l : List ℕ). IsReachedBetween state (turns ++ turn ∷ []) l image) (sym (take-append-le n (texts_of turns) (answered_text turn.reply) few))
    (longer_between state turns turn (take n (texts_of turns)) image (omega (arith, short, long)) waits)
between_more state turns turn n image waits before is (inr long) =
    let text = answered_text turn.reply in
    let m = n - length (texts_of turns) in
    let all : length (texts_of turns) + m ≡ n = omega (arith, long) in
    subst (λ (l : List ℕ). IsReachedBetween state (turns ++ turn ∷ []) l image)
    (sym (take-append-add (texts_of turns) text m) ∙ ap (λ (k : ℕ). take k (texts_of turns ++ text)) all)
    (last_between state turns turn (take m text) image (part_between (state_after state turns) turn m image before is (le_or m (length text))))

-- a moment of the last turn is one of the run, where all replies before it are out
within : (state : State) (turns : List Turn) (turn : Turn) (first now : Option (List ℕ)) (s : Stood) → Appends (texts_of turns) first now →
    ShowsAnswer now (state_after state turns) (answered_text turn.reply) turn.next s → ShowsReached first state (turns ++ turn ∷ []) s
within state turns turn first now s gave (inl (keeps, is)) = (
  texts_of turns ++ [],
  appends_then (texts_of turns) [] first now s.output gave (kept_appends now s.output keeps),
  last state turns turn [] s.image (elim is [ inl old ↦ inl (refl, old) | inr new ↦ inr (inl (0, refl, new)) ]),
)
within state turns turn first now s gave (inr (prefix, is)) =
    let (n, appended) = prefix_bytes (answered_text turn.reply) now s.output prefix in (
      texts_of turns ++ take n (answered_text turn.reply),
      appends_then (texts_of turns) (take n (answered_text turn.reply)) first now s.output gave appended,
      last state turns turn (take n (answered_text turn.reply)) s.image (inr (inl (n, refl, is))),
    )

-- the moments of a longer run
time_longer : {D : Type 0} (d : Ghosts D) (first now : D) (state : State) (turns : List Turn) (turn : Turn) →
    Elapses d.moment d.stood_since first now (ShowsReached (d.beside first).output state turns) →
    Elapses d.moment d.stood_since first now (ShowsReached (d.beside first).output state (turns ++ turn ∷ []))
time_longer d first now state turns turn time = elapsed_weaker time (λ s h. (h.0, h.1, longer state turns turn h.0 s.image h.2))

-- where the output stays, a part of anything is given
shows_gives : {D : Type 0} (d : Ghosts D) (now next : D) (state : State) (block : List ℕ) → Shows d (IsOf state) now next → ShowsGiven d block state now next
shows_gives d now next state block shows = elapsed_weaker shows (λ s h. (keeps_prefix block (d.beside now).output s.output h.0, h.1))

-- an image of a state, or of the one after a turn that changes nothing
quiet_shows : {D : Type 0} (d : Ghosts D) (now next : D) (before after : State) → after ≡ before → Shows d (IsOfEither before after) now next → Shows d (IsOf before) now next
quiet_shows d now next before after same shows =
    elapsed_weaker shows (λ s h. (h.0, elim h.1 [ inl old ↦ old | inr new ↦ subst (λ (t : State). IsOf t s.image) same new ]))

pub stops_giving : (stop : GiveError) → StopsShort (status_of_give_error stop)
stops_giving give_error.WriteFault = tt
stops_giving give_error.NoMemory = tt

-- the turn of a request that came in a state
abbrev turn_of : {state : State} (request : Request) → StoreTurn state request → Turn
turn_of request turn = record { request = request; reply = turn.reply; next = turn.next }

-- ... of an export
abbrev exported_turn : List ℕ → Reply → State → Turn
exported_turn name reply state = record { request = Single (Export name); reply = One reply; next = state }

module _ {D : Type 0} {d : Ghosts D} where
  -- before the first turn
  pub served_none : {a : D} {state : State} {store : Store} {block : List ℕ} → IsAt d store a state → block ≡ [] → HasServed d state [] store block a a
  served_none {a = a} at none = record {
    run = record { run = tt; time = none_elapsed };
    at = at;
    done = [];
    parts = none;
    gave = appends_nothing (d.beside a).output;
    waits = λ n image long is. (take_all n [] (omega arith), is);
    none_begun = λ n image long is. (take_all n [] (omega arith), is);
  }

  -- Behind what the block has comes the reply of a turn that changes nothing.
  served_quietly : {first now : D} {state : State} {turns : List Turn} {store : Store} {block : List ℕ} (turn : Turn) → HasServed d state turns store block first now →
      RequestStep (state_after state turns) turn.request turn.reply turn.next → turn.next ≡ state_after state turns →
      HasServed d state (turns ++ turn ∷ []) store (block ++ answered_text turn.reply) first now
  served_quietly {first = first} {now = now} {state = state} {turns = turns} {store = store} {block = block} turn served step same =
      let text = answered_text turn.reply in
      let before : state_after state (turns ++ turn ∷ []) ≡ state_after state turns = after_more state turns turn ∙ same in
      record {
        run = record { run = run_more state turns turn served.run.run step; time = time_longer d first now state turns turn served.run.time };
        at = subst (λ (t : State). IsAt d store now t) (sym before) served.at;
        done = served.done;
        parts = sym (append_assoc served.done block text) ∙ ap (λ (l : List ℕ). l ++ text) served.parts ∙ sym (texts_more turns turn);
        gave = served.gave;
        waits = λ n image long is.
            let here : IsOf (state_after state turns) image = subst (λ (t : State). IsOf t image) before is in
            subst (λ (l : List ℕ). IsReached state (turns ++ turn ∷ []) (take n l) image) (sym (texts_more turns turn))
            (waits_more state turns turn n image (λ few. served.waits n image long here) (subst (λ (t : State). IsOf t image) (sym same) here) (le_or n (length (texts_of turns))));
        none_begun = λ n image long is.
            let here : IsOf (state_after state turns) image = subst (λ (t : State). IsOf t image) before is in
            subst (λ (l : List ℕ). IsReachedBetween state (turns ++ turn ∷ []) (take n l) image) (sym (texts_more turns turn))
            (between_more state turns turn n image (served.none_begun n image long here) here (subst (λ (t : State). IsOf t image) (sym same) here) (le_or n (length (texts_of turns))));
      }

  -- the moments while a part is given of what the block has
  run_given : {first now next : D} {state : State} {turns : List Turn} {store : Store} {block : List ℕ} → HasServed d state turns store block first now →
      ShowsGiven d block (state_after state turns) now next → HasRun d state turns first next
  run_given {first = first} {now = now} {next = next} {state = state} {turns = turns} {block = block} served gives = record {
    run = served.run.run;
    time = elapsed_then served.run.time gives (λ s h.
        let (n, appended) = prefix_bytes block (d.beside now).output s.output h.0 in
        let long : length served.done ≤ length served.done + n = omega arith in
        let out : take (length served.done + n) (texts_of turns) ≡ served.done ++ take n block =
        ap (λ (l : List ℕ). take (length served.done + n) l) (sym served.parts) ∙ take-append-add served.done block n
        in (
          served.done ++ take n block,
          appends_then served.done (take n block) (d.beside first).output (d.beside now).output s.output served.gave appended,
          subst (λ (l : List ℕ). IsReached state turns l s.image) out (served.waits (length served.done + n) s.image long h.1),
        ));
  }

  -- ... and at their end no request is half done
  pub between_given : {first now next : D} {state : State} {turns : List Turn} {store : Store} {block : List ℕ} → HasClock d → HasServed d state turns store block first now →
      ShowsGiven d block (state_after state turns) now next → LeavesMoments d next (ShowsBetween (d.beside first).output state turns)
  between_given {first = first} {now = now} {next = next} {state = state} {turns = turns} {block = block} clock served gives = λ i left.
      by i (elim (at_end clock gives i left) [
        | inl (same, before) ↦ (keeps_prefix block (d.beside now).output (d.beside next).output (keeps_of (d.beside now).output (d.beside next).output same), at_image served.at before)
        | inr shown ↦ shown
      ])
    where
      by : (i : Image) → AppendsPrefix block (d.beside now).output (d.beside next).output × IsOf (state_after state turns) i →
          ShowsBetween (d.beside first).output state turns (record { output = (d.beside next).output; image = i })
      by i (prefix, is) =
          let (n, appended) = prefix_bytes block (d.beside now).output (d.beside next).output prefix in
          let long : length served.done ≤ length served.done + n = omega arith in
          let out : take (length served.done + n) (texts_of turns) ≡ served.done ++ take n block =
          ap (λ (l : List ℕ). take (length served.done + n) l) (sym served.parts) ∙ take-append-add served.done block n
          in (
            served.done ++ take n block,
            appends_then served.done (take n block) (d.beside first).output (d.beside now).output (d.beside next).output served.gave appended,
            every_between state turns (served.done ++ take n block) i
                (subst (λ (l : List ℕ). IsReachedBetween state turns l i) out (served.none_begun (length served.done + n) i long is)),
          )

  -- ... also where nothing was given since
  pub between_served : {first now : D} {state : State} {turns : List Turn} {store : Store} {block : List ℕ} → HasClock d → HasServed d state turns store block first now →
      LeavesMoments d now (ShowsBetween (d.beside first).output state turns)
  between_served clock served = between_given clock served none_elapsed

  -- A part is given of what the block has, or nothing, and each image is one of the state.
  served_given : {first now next : D} {state : State} {turns : List Turn} {store store' : Store} {block left : List ℕ} (done : List ℕ) → HasServed d state turns store block first now →
      IsAt d store' next (state_after state turns) → done ++ left ≡ block → Appends done (d.beside now).output (d.beside next).output → ShowsGiven d block (state_after state turns) now next →
      HasServed d state turns store' left first next
  served_given {first = first} {now = now} {next = next} {state = state} {turns = turns} {left = left} done served at parts gave gives = record {
    run = run_given served gives;
    at = at;
    done = served.done ++ done;
    parts = append_assoc served.done done left ∙ ap (λ (l : List ℕ). served.done ++ l) parts ∙ served.parts;
    gave = appends_then served.done done (d.beside first).output (d.beside now).output (d.beside next).output served.gave gave;
    waits = λ n image long is.
        let all : length (served.done ++ done) ≡ length served.done + length done = length-append served.done done in
        served.waits n image (omega arith) is;
    none_begun = λ n image long is.
        let all : length (served.done ++ done) ≡ length served.done + length done = length-append served.done done in
        served.none_begun n image (omega arith) is;
  }

  -- what the block had is given, while the disk is left
  leaves_gives : {now next : D} {state : State} {store : Store} (block : List ℕ) → LeavesAreas d now next (AppendsPrefix block (d.beside now).output) → IsAt d store now state →
      ShowsGiven d block state now next
  leaves_gives block leaves at = elapsed_weaker leaves.time (λ s h. (h.0, at_image at h.1))

  -- the moments while the block is given
  pub run_block : {first now next : D} {state : State} {turns : List Turn} {store : Store} {block : List ℕ} → HasServed d state turns store block first now → GivesAlone d block now next →
      HasRun d state turns first next
  run_block {block = block} served alone = run_given served (leaves_gives block alone.areas served.at)

  pub between_block : {first now next : D} {state : State} {turns : List Turn} {store : Store} {block : List ℕ} → HasClock d → HasServed d state turns store block first now →
      GivesAlone d block now next → LeavesMoments d next (ShowsBetween (d.beside first).output state turns)
  between_block {block = block} clock served alone = between_given clock served (leaves_gives block alone.areas served.at)

  -- more input was asked for
  pub served_filled : {first now next : D} {state : State} {turns : List Turn} {store : Store} {block : List ℕ} → HasServed d state turns store block first now → TakesAlone d now next →
      IsSome (d.contents next) → HasServed d state turns store block first next
  served_filled {now = now} {next = next} {block = block} served takes told =
      served_given [] served (at_beside takes.areas told served.at) refl
      (kept_appends (d.beside now).output (d.beside next).output (keeps_of (d.beside now).output (d.beside next).output takes.output_stays))
      (elapsed_weaker takes.areas.time (λ s h. (keeps_prefix block (d.beside now).output s.output h.0, at_image served.at h.1)))

  -- the texts of all turns are out, where the block has none
  pub all_given : {first now : D} {state : State} {turns : List Turn} {store : Store} {block : List ℕ} → HasServed d state turns store block first now → block ≡ [] →
      Appends (texts_of turns) (d.beside first).output (d.beside now).output
  all_given {first = first} {now = now} served none =
      subst (λ (l : List ℕ). Appends l (d.beside first).output (d.beside now).output)
      (sym (append-nil served.done) ∙ ap (λ (l : List ℕ). served.done ++ l) (sym none) ∙ served.parts) served.gave

  -- the moments of a turn that may change the state, once all replies before it are out
  run_loudly : {first now next : D} {state : State} {turns : List Turn} {store : Store} {block : List ℕ} (turn : Turn) → HasServed d state turns store block first now → block ≡ [] →
      RequestStep (state_after state turns) turn.request turn.reply turn.next →
      Elapses d.moment d.stood_since now next (ShowsAnswer (d.beside now).output (state_after state turns) (answered_text turn.reply) turn.next) →
      HasRun d state (turns ++ turn ∷ []) first next
  run_loudly {first = first} {now = now} {state = state} {turns = turns} turn served none step time = record {
    run = run_more state turns turn served.run.run step;
    time = elapsed_then (time_longer d first now state turns turn served.run.time) time (λ s h. within state turns turn (d.beside first).output (d.beside now).output s (all_given served none) h);
  }

  -- The reply of a turn that may change the state is given at once.
  served_loudly : {first now next : D} {state : State} {turns : List Turn} {store store' : Store} {block : List ℕ} (turn : Turn) → HasServed d state turns store block first now → block ≡ [] →
      RequestStep (state_after state turns) turn.request turn.reply turn.next → IsAt d store' next turn.next → Appends (answered_text turn.reply) (d.beside now).output (d.beside next).output →
      Elapses d.moment d.stood_since now next (ShowsAnswer (d.beside now).output (state_after state turns) (answered_text turn.reply) turn.next) →
      HasServed d state (turns ++ turn ∷ []) store' block first next
  served_loudly {first = first} {now = now} {next = next} {state = state} {turns = turns} {store' = store'} {block = block} turn served none step at appends time =
      let text = answered_text turn.reply in
      let after : state_after state (turns ++ turn ∷ []) ≡ turn.next = after_more state turns turn in
      let all : texts_of turns ++ text ≡ texts_of (turns ++ turn ∷ []) = sym (texts_more turns turn) in
      record {
        run = run_loudly turn served none step time;
        at = subst (λ (t : State). IsAt d store' next t) (sym after) at;
        done = texts_of turns ++ text;
        parts = ap (λ (l : List ℕ). (texts_of turns ++ text) ++ l) none ∙ append-nil (texts_of turns ++ text) ∙ all;
        gave = appends_then (texts_of turns) text (d.beside first).output (d.beside now).output (d.beside next).output (all_given served none) appends;
        waits = λ n image long is.
            let here : IsOf turn.next image = subst (λ (t : State). IsOf t image) after is in
            let whole : take n (texts_of (turns ++ turn ∷ [])) ≡ texts_of turns ++ text = ap (λ (l : List ℕ). take n l) (sym all) ∙ take_all n (texts_of turns ++ text) long in
            subst (λ (l : List ℕ). IsReached state (turns ++ turn ∷ []) l image) (sym whole)
            (last state turns turn text image (inr (inl (length text, sym (take_all (length text) text (omega arith)), here))));
        none_begun = λ n image long is.
            let here : IsOf turn.next image = subst (λ (t : State). IsOf t image) after is in
            let whole : take n (texts_of (turns ++ turn ∷ [])) ≡ texts_of turns ++ text = ap (λ (l : List ℕ). take n l) (sym all) ∙ take_all n (texts_of turns ++ text) long in
            subst (λ (l : List ℕ). IsReachedBetween state (turns ++ turn ∷ []) l image) (sym whole)
            (last_between state turns turn text image (inr ([], sym (append-nil text), (refl, here))));
      }

  -- What a request is answered:

  -- the block is given
  pub given_block : {first now next : D} {state : State} {turns : List Turn} {store : Store} {block left : List ℕ} → HasServed d state turns store block first now → left ≡ [] →
      Given block (Ok tt) (d.beside now) (d.beside next) → GivesAlone d block now next → IsSome (d.contents next) → HasServed d state turns store left first next
  given_block {now = now} {next = next} {block = block} served none gave alone told =
      served_given block served (at_beside alone.areas told served.at) (ap (λ (l : List ℕ). block ++ l) none ∙ append-nil block)
      (gives_appends block (d.beside now).output (d.beside next).output gave)
      (leaves_gives block alone.areas served.at)

  -- a request isn't begun, while a part is given of what the block has
  begun_none : {status : Status} {first now next : D} {state : State} {turns : List Turn} {store : Store} {block : List ℕ} (request : Request) → HasClock d →
      HasServed d state turns store block first now → ShowsGiven d block (state_after state turns) now next → HasBegun d status state turns (requests_of turns ++ request ∷ []) first next
  begun_none {turns = turns} request clock served gives = record {
    turns = turns;
    goes_on = inl refl;
    rest = request ∷ [];
    parts = refl;
    run = run_given served gives;
    between = λ ends. between_given clock served gives;
  }

  -- it is begun
  begun_one : {status : Status} {first next : D} {state : State} (turns : List Turn) (turn : Turn) → HasRun d state (turns ++ turn ∷ []) first next →
      (EndsBetween status → LeavesMoments d next (ShowsBetween (d.beside first).output state (turns ++ turn ∷ []))) → HasBegun d status state turns (requests_of turns ++ turn.request ∷ []) first next
  begun_one turns turn run between = record {
    turns = turns ++ turn ∷ [];
    goes_on = inr (turn, refl);
    rest = [];
    parts = append-nil (requests_of (turns ++ turn ∷ [])) ∙ requests_more turns turn;
    run = run;
    between = between;
  }

  -- a first part of an export was given
  part_begun : {status : Status} {first mid next : D} {store : Store} {state : State} {turns : List Turn} {block : List ℕ} (request : Request) → HasClock d → HasServed d state turns store block first mid → block ≡ [] →
      GivesPart d (state_after state turns) request mid next → HasBegun d status state turns (requests_of turns ++ request ∷ []) first next
  part_begun {status = status} {first = first} {mid = mid} {next = next} {state = state} {turns = turns} {block = block} request clock served none part =
      let turn = exported_turn part.name part.reply (state_after state turns) in
      let there = served_quietly turn served part.step refl in
      let gives = subst (λ (t : State). ShowsGiven d (block ++ reply_text part.reply) t mid next) (sym (after_more state turns turn))
      (subst (λ (b : List ℕ). ShowsGiven d (b ++ reply_text part.reply) (state_after state turns) mid next) (sym none) part.time) in
      subst (λ (r : Request). HasBegun d status state turns (requests_of turns ++ r ∷ []) first next) (sym part.is) (begun_one turns turn (run_given there gives) (λ ends. between_given clock there gives))

  -- it isn't begun where the block isn't given
  pub block_begins : {now next : D} {store : Store} {block : List ℕ} (request : Request) (stop : GiveError) → HasClock d → GivesAlone d block now next →
      BeginsNext d request (status_of_give_error stop) store block now next
  block_begins {block = block} request stop clock alone first state turns served told = (stops_giving stop, begun_none request clock served (leaves_gives block alone.areas served.at))

  -- A request that may change the store is answered, once the block is given.
  pub loud_answers : {now mid next : D} {store store' : Store} {block left : List ℕ} (request : Request) → left ≡ [] → Given block (Ok tt) (d.beside now) (d.beside mid) → GivesAlone d block now mid →
      TakesNone d mid next → ((state : State) → IsAt d store mid state → IsSome (d.contents next) → IsAnswered d (Ok tt) state request store store' mid next) →
      AnswersNext d request store store' block left now next
  loud_answers request none gave alone takes answers first state turns served told =
      let there = given_block served none gave alone (takes.told told) in
      let gives = answers (state_after state turns) there.at told in
      let turn = turn_of request gives.turn in (
        turn,
        refl,
        served_loudly turn there none gives.turn.step gives.at gives.gave gives.time,
        turn_behind (beside_rests alone.areas (takes.told told)) (leaves_turn turn gives.at (gives.time).later gives.log),
      )

  -- ... or begun
  loud_stops : {first mid next : D} {store : Store} {state : State} {turns : List Turn} {block : List ℕ} (store' : Store) (request : Request) (e : EngineError) → HasClock d →
      HasServed d state turns store block first mid → block ≡ [] → IsAnswered d (Err e) (state_after state turns) request store store' mid next →
      StopsShort (status_of_engine e) × HasBegun d (status_of_engine e) state turns (requests_of turns ++ request ∷ []) first next
  loud_stops {turns = turns} store' request engine.Write clock served none (turn, at, time, holds, log) =
      (tt, begun_one turns (turn_of request turn) (run_loudly (turn_of request turn) served none turn.step time) (λ ends. absurd ends))
  loud_stops {mid = mid} {next = next} {state = state} {turns = turns} {block = block} store' request engine.Memory clock served none (at, inl shows, holds, spares) =
      (tt, begun_none request clock served (shows_gives d mid next (state_after state turns) block shows))
  loud_stops store' request engine.Memory clock served none (at, inr part, holds, spares) = (tt, part_begun request clock served none part)
  loud_stops {mid = mid} {next = next} {state = state} {turns = turns} {block = block} store' request engine.Disk clock served none (inl (inl shows)) =
      (tt, begun_none request clock served (shows_gives d mid next (state_after state turns) block shows))
  loud_stops {turns = turns} store' request engine.Disk clock served none (inl (inr (turn, shows))) =
      (tt, begun_one turns (turn_of request turn) (run_loudly (turn_of request turn) served none turn.step (elapsed_weaker shows (λ s h. inl h))) (λ ends. absurd ends))
  loud_stops store' request engine.Disk clock served none (inr part) = (tt, part_begun request clock served none part)
  loud_stops store' request engine.Exists clock served none answered = absurd answered
  loud_stops store' request engine.NotAStore clock served none answered = absurd answered
  loud_stops store' request (engine.Damaged page) clock served none answered = absurd answered
  loud_stops store' request engine.Ended clock served none answered = absurd answered

  pub loud_begins : {now mid next : D} {store : Store} {block left : List ℕ} (store' : Store) (request : Request) (e : EngineError) → HasClock d → left ≡ [] →
      Given block (Ok tt) (d.beside now) (d.beside mid) → GivesAlone d block now mid → TakesNone d mid next →
      ((state : State) → IsAt d store mid state → IsSome (d.contents next) → IsAnswered d (Err e) state request store store' mid next) → BeginsNext d request (status_of_engine e) store block now next
  loud_begins store' request e clock none gave alone takes answers first state turns served told =
      let there = given_block served none gave alone (takes.told told) in
      loud_stops store' request e clock there none (answers (state_after state turns) there.at told)

  -- A command that changes nothing is carried out.
  quietly : {first now next : D} {state : State} {turns : List Turn} {store store' : Store} {block : List ℕ} {P : Image → Type 0} {after : State} → HasServed d state turns store block first now →
      after ≡ state_after state turns → IsAt d store' next after → WritesAlone d now next P → Shows d (IsOfEither (state_after state turns) after) now next → HasServed d state turns store' block first next
  quietly {now = now} {next = next} {state = state} {turns = turns} {store' = store'} {block = block} {after = after} served same at alone shows =
      served_given [] served (subst (λ (t : State). IsAt d store' next t) same at) refl
      (kept_appends (d.beside now).output (d.beside next).output alone.beside_stays.output)
      (shows_gives d now next (state_after state turns) block (quiet_shows d now next (state_after state turns) after same shows))

  -- ... and its reply stands behind what the block has
  pub quiet_answers : {now next : D} {store store' : Store} {block left : List ℕ} {P : Image → Type 0} (command : Command) (reply : Reply) → may_change command ≡ false → left ≡ block ++ reply_text reply →
      WritesAlone d now next P → ((state : State) → IsAt d store now state → IsSome (d.contents next) → IsApplied d (Ok reply) state command store' now next) →
      AnswersNext d (Single command) store store' block left now next
  quiet_answers {now = now} {next = next} {store' = store'} {block = block} command reply calm is alone applies first state turns served told =
      let (after, step, at, shows, log) = applies (state_after state turns) served.at told in
      let same = quiet_leaves command calm (state_after state turns) after reply step in
      let turn : Turn = record { request = Single command; reply = One reply; next = after } in (
        turn,
        refl,
        subst (λ (l : List ℕ). HasServed d state (turns ++ turn ∷ []) store' l first next) (sym is) (served_quietly turn (quietly served same at alone shows) step same),
        leaves_turn turn at (alone.time).later log,
      )

  -- ... but for the text of its reply
  pub quiet_pushless : {now next : D} {store store' : Store} {block : List ℕ} (command : Command) (reply : Reply) → HasClock d → may_change command ≡ false →
      ((state : State) → IsAt d store now state → IsSome (d.contents next) → IsApplied d (Ok reply) state command store' now next) → BeginsNext d (Single command) NoMemory store block now next
  quiet_pushless {now = now} {next = next} {block = block} command reply clock calm applies first state turns served told =
      let (after, step, at, shows, log) = applies (state_after state turns) served.at told in
      let before = state_after state turns in
      let same = quiet_leaves command calm before after reply step in
      (tt, begun_none (Single command) clock served (shows_gives d now next before block (quiet_shows d now next before after same shows)))

  quiet_stops : {first now next : D} {store : Store} {state : State} {turns : List Turn} {block : List ℕ} (store' : Store) (command : Command) (e : EngineError) → HasClock d →
      may_change command ≡ false → HasServed d state turns store block first now → IsApplied d (Err e) (state_after state turns) command store' now next →
      StopsShort (status_of_engine e) × HasBegun d (status_of_engine e) state turns (requests_of turns ++ Single command ∷ []) first next
  quiet_stops {now = now} {next = next} {state = state} {turns = turns} {block = block} store' command engine.Memory clock calm served (at, shows, spares) =
      (tt, begun_none (Single command) clock served (shows_gives d now next (state_after state turns) block shows))
  quiet_stops {now = now} {next = next} {state = state} {turns = turns} {block = block} store' command engine.Disk clock calm served (inl shows) =
      (tt, begun_none (Single command) clock served (shows_gives d now next (state_after state turns) block shows))
  quiet_stops {now = now} {next = next} {state = state} {turns = turns} {block = block} store' command engine.Disk clock calm served (inr (turn, shows)) =
      let before = state_after state turns in
      let same = other_requests_stay before (Single command) turn.reply turn.next calm turn.step in
      (tt, begun_none (Single command) clock served (shows_gives d now next before block (quiet_shows d now next before turn.next same shows)))
  quiet_stops store' command engine.Write clock calm served applied = absurd applied
  quiet_stops store' command engine.Exists clock calm served applied = absurd applied
  quiet_stops store' command engine.NotAStore clock calm served applied = absurd applied
  quiet_stops store' command (engine.Damaged page) clock calm served applied = absurd applied
  quiet_stops store' command engine.Ended clock calm served applied = absurd applied

  pub quiet_begins : {now next : D} {store : Store} {block : List ℕ} (store' : Store) (command : Command) (e : EngineError) → HasClock d → may_change command ≡ false →
      ((state : State) → IsAt d store now state → IsSome (d.contents next) → IsApplied d (Err e) state command store' now next) → BeginsNext d (Single command) (status_of_engine e) store block now next
  quiet_begins store' command e clock calm applies first state turns served told = quiet_stops store' command e clock calm served (applies (state_after state turns) served.at told)

  -- A document's text is given behind what the block has, but for a last part.
  exported : {first now next : D} {state : State} {turns : List Turn} {store store' : Store} {name block left : List ℕ} {result : Result (Unit {0}) EngineError} → HasServed d state turns store block first now →
      (done : IsExported d result (state_after state turns) name block left store' now next) →
      HasServed d state (turns ++ exported_turn name done.reply (state_after state turns) ∷ []) store (block ++ reply_text done.reply) first now
      × (state_after state (turns ++ exported_turn name done.reply (state_after state turns) ∷ []) ≡ state_after state turns)
  exported {state = state} {turns = turns} {name = name} served done =
      let turn = exported_turn name done.reply (state_after state turns) in
      (served_quietly turn served done.step refl, after_more state turns turn)

  pub export_answers : {now next : D} {store store' : Store} {block left shown name : List ℕ} {u : Unit {0}} (command : Command) → command ≡ Export name → shown ≡ name → AsksAndGives d now next →
      ((state : State) → IsAt d store now state → IsSome (d.contents next) → IsExported d (Ok u) state shown block left store' now next) → AnswersNext d (Single command) store store' block left now next
  export_answers {now = now} {next = next} {store' = store'} {block = block} {shown = shown} {name = name} command is same_name areas exports first state turns served told =
      let done = exports (state_after state turns) served.at told in
      let turn = exported_turn shown done.reply (state_after state turns) in
      let (there, same) = exported served done in
      let (at, but) = done.given in (
        turn,
        ap (λ (n : List ℕ). Single (Export n)) same_name ∙ ap (λ (c : Command). Single c) (sym is),
        served_given but.done there (subst (λ (t : State). IsAt d store' next t) (sym same) at) but.parts but.gave
            (subst (λ (t : State). ShowsGiven d (block ++ reply_text done.reply) t now next) (sym same) done.time),
        leaves_turn turn at (done.time).later
            (log_of_look d (Export shown) done.reply (state_after state turns) now next (refl, λ last. cc) (areas_keep d now next areas.contents_stay told areas.images_stay)),
      )

  export_stops : {first now next : D} {store store' : Store} {state : State} {turns : List Turn} {name block left : List ℕ} (e : EngineError) → HasServed d state turns store block first now →
      (done : IsExported d (Err e) (state_after state turns) name block left store' now next) → IsGiven d (Err e) (block ++ reply_text done.reply) left (state_after state turns) store' now next →
      StopsShort (status_of_engine e)
  export_stops engine.Write served done given = tt
  export_stops engine.Memory served done given = tt
  export_stops engine.Disk served done given = tt
  export_stops engine.Exists served done given = absurd given
  export_stops engine.NotAStore served done given = absurd given
  export_stops (engine.Damaged page) served done given = absurd given
  export_stops engine.Ended served done given = absurd given

  pub export_begins : {now next : D} {store store' : Store} {block left shown name : List ℕ} (command : Command) (e : EngineError) → HasClock d → command ≡ Export name → shown ≡ name →
      ((state : State) → IsAt d store now state → IsSome (d.contents next) → IsExported d (Err e) state shown block left store' now next) → BeginsNext d (Single command) (status_of_engine e) store block now next
  export_begins {now = now} {next = next} {block = block} {shown = shown} command e clock is same_name exports first state turns served told =
      let done = exports (state_after state turns) served.at told in
      let turn = exported_turn shown done.reply (state_after state turns) in
      let (there, same) = exported served done in
      let gives = subst (λ (t : State). ShowsGiven d (block ++ reply_text done.reply) t now next) (sym same) done.time in (
        export_stops e served done done.given,
        subst (λ (r : Request). HasBegun d (status_of_engine e) state turns (requests_of turns ++ r ∷ []) first next) (ap (λ (n : List ℕ). Single (Export n)) same_name ∙ ap (λ (c : Command). Single c) (sym is))
            (begun_one turns turn (run_given there gives) (λ ends. between_given clock there gives)),
      )

  -- Whatever the store is at:

  pub written_takes : {now next : D} {P : Image → Type 0} → WritesAlone d now next P → TakesNone d now next
  written_takes {now = now} {next = next} alone = record {
    told = alone.told;
    input_stays = alone.beside_stays.input;
    in_faults_stay = alone.beside_stays.in_faults;
    out_faults_later = let same : (d.beside next).out_faults ≡ (d.beside now).out_faults = alone.beside_stays.out_faults in omega arith;
    faults_later = alone.faults_later;
  }

module _ {D : Type 0} (d : Ghosts D) (a b : D) where
  -- why a command wasn't carried out
  pub stopped_applying : (old new : Store) (e : EngineError) → NotApplied d e old new a b → IsUnanswered d (status_of_engine e) a b
  stopped_applying old new engine.Disk (rose, ends) = rose
  stopped_applying old new (engine.Damaged page) why = tt
  stopped_applying old new engine.Ended why = tt
  stopped_applying old new engine.Memory why = tt
  stopped_applying old new engine.Write why = absurd why
  stopped_applying old new engine.Exists why = absurd why
  stopped_applying old new engine.NotAStore why = absurd why

  -- why the block wasn't given
  pub block_stopped : (block : List ℕ) (stop : GiveError) → Given block (Err stop) (d.beside a) (d.beside b) → IsUnanswered d (status_of_give_error stop) a b
  block_stopped block give_error.WriteFault fails = fails.rose
  block_stopped block give_error.NoMemory gave = tt
