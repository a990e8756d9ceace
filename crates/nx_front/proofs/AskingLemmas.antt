-- A run of questions over a snapshot: batches that came, what is answered of them, and how it ends.
use Rattle.std.proofs.Common.{◌≡◌, ℕ, ◌+◌, ◌*◌, List, [], ◌++◌, map, length, Option, Some, refl, sym, ap, ap₂, ◌∙◌, subst, arith, length-append}
use Rattle.std.specs.List.{AllZip, flat_map}
use Rattle.std.proofs.lemmas.Grind.{flat_map-append}
use Rattle.std.proofs.lemmas.List.{map-append, length-map}
use Rattle.nx_host.specs.declared.disk.Disk.{Ghosts}
use Rattle.nx_host.specs.Disk.{Image, Beside, Keeps}
use Rattle.nx_host.specs.Host.{Takes, IsAtEnd, Appends}
use Rattle.nx_host.specs.Phase.{TakesAlone, GivesAlone}
use Rattle.nx_host.specs.Still.{IsStill, IsSettled}
use Rattle.nx_host.specs.Time.{Elapses, elapsed_then, elapsed_weaker, none_elapsed}
use Rattle.nx_host.proofs.DiskLemmas.{keeps_self, none_still}
use Rattle.nx_host.proofs.OutputLemmas.{takes_nothing, appends_then}
use Rattle.nx_records.specs.Records.{HasHeader}
use Rattle.nx_script.specs.declared.command.Command.{Command}
use Rattle.nx_script.specs.declared.reply.Reply.{Reply}
use Rattle.nx_script.specs.declared.request.Request.{Request}
use Rattle.nx_script.specs.declared.requests.Requests.{Requests}
use Rattle.nx_script.specs.Requests.{HasGivenRequestsIn, EndsInRequests}
use Rattle.nx_script.specs.Reply.{reply_text}
use Rattle.nx_state.specs.State.{State}
use Rattle.nx_state.specs.Stands.{Recovers}
use Rattle.nx_ask.specs.declared.error.AskError.{AskError}
use Rattle.nx_ask.specs.declared.error.AskError.TheVariants as asking
use Rattle.nx_ask.specs.declared.snapshot.Snapshot.{Snapshot}
use Rattle.nx_ask.specs.Asked.{Asked, IsSnapshotOf}
use Rattle.nx_ask.specs.Snapshot.{HasPagesOf, ReadsSnapshot, NoSnapshot}
use Rattle.nx_ask.proofs.RowLemmas.{zip_joined}
use Rattle.nx_ask.proofs.SnapshotLemmas.{snapshot_stands}
use Rattle.nx_filters.specs.declared.status.Status.{Status}
use Rattle.nx_filters.specs.declared.status.Status.TheVariants.{Done, Usage, Refused, DiskFault, ReadFault, WriteFault, NoMemory, NotAStore, Damaged, TooMuch}
use Rattle.nx_filters.specs.Outcome.{EndsWhole}
use Rattle.nx_filters.proofs.OutcomeLemmas.{kept_appends, rose_since}
use Rattle.nx_front.specs.Serving.{AreFirst, IsCaused, EndsWithoutHeader}
use Rattle.nx_front.specs.Conversation.{IsEnded}
use Rattle.nx_front.specs.Finding.{ShowsPart}
use Rattle.nx_front.specs.Asking.{batch_size, as_question, AreBatches, IsAskedText, EndsAsking, AsksFrom, GivesBatches, Asks}
use Rattle.nx_front.specs.Batches.{StopsBatch, AreAnswers, StopsAnswering, AnswersBatch, BreaksOff, LeavesBatch, HasAsked, IsAsking, AsksAll, status_of_asking}
use Rattle.nx_front.proofs.ConversationLemmas.{first_given, first_of, first_none, few, takes_after, appends_after, whole_after, few_nothing, none_goes, goes_then, leaves_goes, still_goes, counts_still}
use Rattle.nx_front.proofs.FindingLemmas.{images_none, images_still, images_beside, images_then, keeps_same, part_longer, part_behind, part_kept}
use Rattle.nx_front.proofs.ServingLaws.{serving_together}

-- Batches:

one_batch_more : (count size all : ℕ) → all ≡ batch_size * count + size → size ≡ batch_size → all ≡ batch_size * (count + 1)
one_batch_more count size all sum whole = omega (arith, sum, whole)

batches_more : (requests batch : List Request) → AreBatches requests → length batch ≡ batch_size → AreBatches (requests ++ batch)
batches_more requests batch (count, are) whole =
    (count + 1, one_batch_more count (length batch) (length (requests ++ batch)) (length-append requests batch ∙ ap (λ (n : ℕ). n + length batch) are) whole)

-- What whole batches gave:

gives_nothing : (old new : Option (List ℕ)) → Keeps old new → GivesBatches old new
gives_nothing old new kept = record { replies = []; count = 0; whole = refl; gave = kept_appends old new kept }

gives_kept : (old now next : Option (List ℕ)) → next ≡ now → GivesBatches old now → GivesBatches old next
gives_kept old now next same gives = subst (λ (o : Option (List ℕ)). GivesBatches old o) (sym same) gives

gives_after : (a b c : Option (List ℕ)) → Keeps a b → GivesBatches b c → GivesBatches a c
gives_after a b c kept gives =
    record { replies = gives.replies; count = gives.count; whole = gives.whole; gave = appends_after (flat_map reply_text gives.replies) a b c kept gives.gave }

gives_batch : {snapshot : Snapshot} {text : List ℕ} (batch : List Request) (old now next : Option (List ℕ)) → GivesBatches old now → AreAnswers snapshot (map as_question batch) text → length batch ≡ batch_size →
    Appends text now next → GivesBatches old next
gives_batch {text = text} batch old now next gives answers full gave =
    let joined : flat_map reply_text (gives.replies ++ answers.replies) ≡ flat_map reply_text gives.replies ++ flat_map reply_text answers.replies =
    flat_map-append reply_text gives.replies answers.replies in
    let here : Appends (flat_map reply_text answers.replies) now next = subst (λ (t : List ℕ). Appends t now next) answers.text_is gave in
    record {
      replies = gives.replies ++ answers.replies;
      count = gives.count + 1;
      whole = one_batch_more gives.count (length answers.replies) (length (gives.replies ++ answers.replies))
          (length-append gives.replies answers.replies ∙ ap (λ (n : ℕ). n + length answers.replies) gives.whole) (answers.asked.0 ∙ length-map batch as_question ∙ full);
      gave = subst (λ (t : List ℕ). Appends t old next) (sym joined) (appends_then (flat_map reply_text gives.replies) (flat_map reply_text answers.replies) old now next gives.gave here);
    }

-- Texts of replies:

asked_text : {snapshot : Snapshot} {batch : List Request} {text : List ℕ} (state : State) → IsSnapshotOf snapshot state → AreAnswers snapshot (map as_question batch) text → IsAskedText state batch text
asked_text state is answers = record { replies = answers.replies; asked = answers.asked.1 state is; text_is = answers.text_is }

asked_none : (state : State) → IsAskedText state [] []
asked_none state = record { replies = []; asked = tt; text_is = refl }

asked_joined : (state : State) (requests batch : List Request) (text more : List ℕ) → IsAskedText state requests text → IsAskedText state batch more → IsAskedText state (requests ++ batch) (text ++ more)
asked_joined state requests batch text more one other = record {
  replies = one.replies ++ other.replies;
  asked = subst (λ (questions : List Command). AllZip (Asked state) questions (one.replies ++ other.replies)) (sym (map-append as_question requests batch))
      (zip_joined (Asked state) (map as_question requests) (map as_question batch) one.replies other.replies one.asked other.asked);
  text_is = ap₂ (λ (xs ys : List ℕ). xs ++ ys) one.text_is other.text_is ∙ sym (flat_map-append reply_text one.replies other.replies);
}

module _ {D : Type 0} {d : Ghosts D} where
  -- Questions that were answered:

  -- none yet
  has_none : {state : State} {a : D} → HasAsked d state [] a a
  has_none {state = state} {a = a} =
      record { text = []; replies = asked_none state; gave = kept_appends (d.beside a).output (d.beside a).output (keeps_self (d.beside a).output); time = none_elapsed }

  -- more was taken of the input
  has_taken : {state : State} {requests : List Request} {first now mid : D} → HasAsked d state requests first now → TakesAlone d now mid → HasAsked d state requests first mid
  has_taken {first = first} {now = now} asked takes = record {
    text = asked.text;
    replies = asked.replies;
    gave = subst (λ (o : Option (List ℕ)). Appends asked.text (d.beside first).output o) (sym takes.output_stays) asked.gave;
    time = elapsed_then {P = ShowsPart (d.beside first).output asked.text} asked.time takes.areas.time (λ s h. part_kept (d.beside first).output (d.beside now).output asked.text s asked.gave h.0);
  }

  -- what stood while more was given
  time_more : {state : State} {requests : List Request} {first now next : D} (text : List ℕ) (asked : HasAsked d state requests first now) → GivesAlone d text now next →
      Elapses d.moment d.stood_since first next (ShowsPart (d.beside first).output (asked.text ++ text))
  time_more {first = first} {now = now} text asked alone =
      elapsed_then {P = ShowsPart (d.beside first).output (asked.text ++ text)} (elapsed_weaker asked.time (λ s h. part_longer (d.beside first).output asked.text text s h)) alone.areas.time
      (λ s h. part_behind (d.beside first).output (d.beside now).output asked.text text s asked.gave h.0)

  -- a batch more
  has_more : {state : State} {requests batch : List Request} {first now next : D} (text : List ℕ) → HasAsked d state requests first now → IsAskedText state batch text →
      Appends text (d.beside now).output (d.beside next).output → GivesAlone d text now next → HasAsked d state (requests ++ batch) first next
  has_more {state = state} {requests = requests} {batch = batch} {first = first} {now = now} {next = next} text asked answers gave alone = record {
    text = asked.text ++ text;
    replies = asked_joined state requests batch asked.text text asked.replies answers;
    gave = appends_then asked.text text (d.beside first).output (d.beside now).output (d.beside next).output asked.gave gave;
    time = time_more text asked alone;
  }

  -- how a run ends from a state, by what was answered
  asks_from : {state : State} {requests : List Request} {first now : D} (status : Status) (taken : List ℕ) → HasAsked d state requests first now →
      Takes taken (d.beside first).input (d.beside now).input → AreFirst taken requests (d.beside now).input →
      ((text : List ℕ) → Appends text (d.beside first).output (d.beside now).output → EndsAsking requests text taken status (d.beside first) (d.beside now)) → AsksFrom d state status first now
  asks_from {requests = requests} status taken asked takes are ends =
      record { taken = taken; takes = takes; requests = requests; first = are; text = asked.text; replies = asked.replies; time = asked.time; ends = ends asked.text asked.gave }

  -- Before the first batch.
  pub asking_none : {snapshot : Snapshot} {script : Requests} {a : D} → HasGivenRequestsIn script [] [] (d.beside a).input (d.beside a).input → IsAsking d snapshot [] [] script a a
  asking_none {a = a} given = record { given = given; batches = (0, refl); gave = gives_nothing (d.beside a).output (d.beside a).output (keeps_self (d.beside a).output); goes = none_goes; areas = images_none; unread = refl; asked = λ state is. has_none }

  -- A batch more came, and is answered.
  pub asking_more : {snapshot : Snapshot} {taken more : List ℕ} {requests : List Request} {old new : Requests} {first now mid next : D} (batch : List Request) → IsAsking d snapshot taken requests old first now →
      TakesAlone d now mid → HasGivenRequestsIn new more (requests ++ batch) (d.beside first).input (d.beside mid).input → length batch ≡ batch_size → AnswersBatch d snapshot (map as_question batch) mid next →
      IsAsking d snapshot more (requests ++ batch) new first next
  asking_more {more = more} {requests = requests} {new = new} {first = first} {now = now} {mid = mid} {next = next} batch asks takes given whole answers = record {
    given = subst (λ (o : Option (List ℕ)). HasGivenRequestsIn new more (requests ++ batch) (d.beside first).input o) (sym answers.alone.input_stays) given;
    batches = batches_more requests batch asks.batches whole;
    gave = gives_batch batch (d.beside first).output (d.beside mid).output (d.beside next).output
        (gives_kept (d.beside first).output (d.beside now).output (d.beside mid).output takes.output_stays asks.gave) answers.answers whole answers.gave;
    goes = goes_then (goes_then asks.goes (leaves_goes takes.areas)) (leaves_goes answers.alone.areas);
    areas = images_then (images_then asks.areas (images_beside takes.areas)) (images_beside answers.alone.areas);
    unread = answers.alone.areas.reads_stay ∙ takes.areas.reads_stay ∙ asks.unread;
    asked = λ state is. has_more answers.text (has_taken (asks.asked state is) takes) (asked_text state is answers.answers) answers.gave answers.alone;
  }

  -- The last batch came, and is answered.
  pub asks_done : {snapshot : Snapshot} {taken more : List ℕ} {requests : List Request} {old new : Requests} {first now mid next : D} (batch : List Request) → IsAsking d snapshot taken requests old first now →
      TakesAlone d now mid → HasGivenRequestsIn new more (requests ++ batch) (d.beside first).input (d.beside mid).input → EndsInRequests more (requests ++ batch) (d.beside first).input (d.beside mid).input →
      AnswersBatch d snapshot (map as_question batch) mid next → AsksAll d snapshot Done first next
  asks_done {more = more} {requests = requests} {new = new} {first = first} {mid = mid} {next = next} batch asks takes given ends answers =
      let came : HasGivenRequestsIn new more (requests ++ batch) (d.beside first).input (d.beside next).input =
      subst (λ (o : Option (List ℕ)). HasGivenRequestsIn new more (requests ++ batch) (d.beside first).input o) (sym answers.alone.input_stays) given in
      let whole : EndsWhole more (d.beside first).input (d.beside next).input =
      record { takes = came.takes; end = subst IsAtEnd (sym answers.alone.input_stays) ends.end; few = ends.few } in
      record {
        from = λ state is.
            asks_from Done more (has_more answers.text (has_taken (asks.asked state is) takes) (asked_text state is answers.answers) answers.gave answers.alone) came.takes
            (first_given new more (requests ++ batch) (d.beside first).input (d.beside next).input came) (λ text gave. (whole, ends.requests_are, gave));
        cause = (more, whole);
        between = λ ends_so. absurd ends_so;
        taken = λ is. absurd (cc is);
        bounded = few came;
        goes = goes_then (goes_then asks.goes (leaves_goes takes.areas)) (leaves_goes answers.alone.areas);
        areas = images_then (images_then asks.areas (images_beside takes.areas)) (images_beside answers.alone.areas);
        unread = answers.alone.areas.reads_stay ∙ takes.areas.reads_stay ∙ asks.unread;
      }

  -- A batch came, and isn't given: writing failed ..
  broken_off : {snapshot : Snapshot} {taken more : List ℕ} {requests : List Request} {old new : Requests} {first now mid next : D} (batch : List Request) → IsAsking d snapshot taken requests old first now →
      TakesAlone d now mid → HasGivenRequestsIn new more (requests ++ batch) (d.beside first).input (d.beside mid).input → BreaksOff d snapshot (map as_question batch) mid next → AsksAll d snapshot WriteFault first next
  broken_off {more = more} {requests = requests} {new = new} {first = first} {mid = mid} {next = next} batch asks takes given breaks =
      let came : HasGivenRequestsIn new more (requests ++ batch) (d.beside first).input (d.beside next).input =
      subst (λ (o : Option (List ℕ)). HasGivenRequestsIn new more (requests ++ batch) (d.beside first).input o) (sym breaks.alone.input_stays) given in
      let goes = goes_then asks.goes (leaves_goes takes.areas) in
      record {
        from = λ state is.
            let asked = has_taken (asks.asked state is) takes in
            record {
              taken = more;
              takes = came.takes;
              requests = requests ++ batch;
              first = first_given new more (requests ++ batch) (d.beside first).input (d.beside next).input came;
              text = asked.text ++ breaks.text;
              replies = asked_joined state requests batch asked.text breaks.text asked.replies (asked_text state is breaks.answers);
              time = time_more breaks.text asked breaks.alone;
              ends = tt;
            };
        cause = rose_since (d.beside first).out_faults (d.beside mid).out_faults (d.beside next).out_faults goes.counts.written breaks.rose;
        between = λ ends_so. absurd ends_so;
        taken = λ is. absurd (cc is);
        bounded = few came;
        goes = goes_then goes (leaves_goes breaks.alone.areas);
        areas = images_then (images_then asks.areas (images_beside takes.areas)) (images_beside breaks.alone.areas);
        unread = breaks.alone.areas.reads_stay ∙ takes.areas.reads_stay ∙ asks.unread;
      }

  -- .. or it isn't answered
  unanswered : {snapshot : Snapshot} {taken more : List ℕ} {requests : List Request} {old new : Requests} {first now mid : D} (batch : List Request) (status : Status) → IsAsking d snapshot taken requests old first now →
      TakesAlone d now mid → HasGivenRequestsIn new more (requests ++ batch) (d.beside first).input (d.beside mid).input → StopsAnswering status snapshot → AsksAll d snapshot status first mid
  unanswered {more = more} {requests = requests} {new = new} {first = first} {now = now} {mid = mid} batch NoMemory asks takes given stops = record {
    from = λ state is.
        asks_from NoMemory more (has_taken (asks.asked state is) takes) given.takes
        (first_of more requests batch (requests ++ batch) (d.beside mid).input refl (first_given new more (requests ++ batch) (d.beside first).input (d.beside mid).input given))
        (λ text gave. (asks.batches, gave));
    cause = tt;
    between = λ ends_so. gives_kept (d.beside first).output (d.beside now).output (d.beside mid).output takes.output_stays asks.gave;
    taken = λ is. absurd (cc is);
    bounded = few given;
    goes = goes_then asks.goes (leaves_goes takes.areas);
    areas = images_then asks.areas (images_beside takes.areas);
    unread = takes.areas.reads_stay ∙ asks.unread;
  }
  unanswered {first = first} {now = now} {mid = mid} batch (Damaged page) asks takes given stops = record {
    from = λ state is. absurd (stops state is);
    cause = tt;
    between = λ ends_so. gives_kept (d.beside first).output (d.beside now).output (d.beside mid).output takes.output_stays asks.gave;
    taken = λ is. absurd (cc is);
    bounded = few given;
    goes = goes_then asks.goes (leaves_goes takes.areas);
    areas = images_then asks.areas (images_beside takes.areas);
    unread = takes.areas.reads_stay ∙ asks.unread;
  }
  unanswered batch Done asks takes given stops = absurd stops
  unanswered batch Usage asks takes given stops = absurd stops
  unanswered batch Refused asks takes given stops = absurd stops
  unanswered batch DiskFault asks takes given stops = absurd stops
  unanswered batch ReadFault asks takes given stops = absurd stops
  unanswered batch WriteFault asks takes given stops = absurd stops
  unanswered batch NotAStore asks takes given stops = absurd stops
  unanswered batch TooMuch asks takes given stops = absurd stops

  unanswered_so : {snapshot : Snapshot} {taken more : List ℕ} {requests : List Request} {old new : Requests} {first now mid : D} (batch : List Request) (status : Status) (next : D) →
      IsAsking d snapshot taken requests old first now → TakesAlone d now mid → HasGivenRequestsIn new more (requests ++ batch) (d.beside first).input (d.beside mid).input →
      (next ≡ mid) × StopsAnswering status snapshot → AsksAll d snapshot status first next
  unanswered_so {snapshot = snapshot} {first = first} batch status next asks takes given (same, stops) =
      subst (λ (s : D). AsksAll d snapshot status first s) (sym same) (unanswered batch status asks takes given stops)

  pub asks_unanswered : {snapshot : Snapshot} {taken more : List ℕ} {requests : List Request} {old new : Requests} {first now mid next : D} (batch : List Request) (status : Status) →
      IsAsking d snapshot taken requests old first now → TakesAlone d now mid → HasGivenRequestsIn new more (requests ++ batch) (d.beside first).input (d.beside mid).input →
      LeavesBatch d status snapshot (map as_question batch) mid next → AsksAll d snapshot status first next
  asks_unanswered batch WriteFault asks takes given leaves = broken_off batch asks takes given leaves
  asks_unanswered {next = next} batch NoMemory asks takes given leaves = unanswered_so batch NoMemory next asks takes given leaves
  asks_unanswered {next = next} batch (Damaged page) asks takes given leaves = unanswered_so batch (Damaged page) next asks takes given leaves
  asks_unanswered batch Done asks takes given leaves = absurd leaves.1
  asks_unanswered batch Usage asks takes given leaves = absurd leaves.1
  asks_unanswered batch Refused asks takes given leaves = absurd leaves.1
  asks_unanswered batch DiskFault asks takes given leaves = absurd leaves.1
  asks_unanswered batch ReadFault asks takes given leaves = absurd leaves.1
  asks_unanswered batch NotAStore asks takes given leaves = absurd leaves.1
  asks_unanswered batch TooMuch asks takes given leaves = absurd leaves.1

  -- A batch isn't read.
  pub asks_unread : {snapshot : Snapshot} {taken : List ℕ} {requests : List Request} {old : Requests} {first now mid : D} (status : Status) (new : Requests) → IsAsking d snapshot taken requests old first now →
      TakesAlone d now mid → StopsBatch d status old new now mid → AsksAll d snapshot status first mid
  asks_unread {taken = taken} {requests = requests} {first = first} {now = now} {mid = mid} ReadFault new asks takes (rose, stops) =
      let (more, batch, fewer, short, given, all) = stops (d.beside first).input taken requests asks.given in
      record {
        from = λ state is.
            asks_from ReadFault (taken ++ more) (has_taken (asks.asked state is) takes) given.takes
            (first_of (taken ++ more) requests batch (requests ++ batch) (d.beside mid).input refl (first_given new (taken ++ more) (requests ++ batch) (d.beside first).input (d.beside mid).input given))
            (λ text gave. (short, (asks.batches, (batch, fewer, all.whole)), gave));
        cause = (rose_since (d.beside first).in_faults (d.beside now).in_faults (d.beside mid).in_faults asks.goes.counts.read rose, taken ++ more, short, given.takes);
        between = λ ends_so. gives_kept (d.beside first).output (d.beside now).output (d.beside mid).output takes.output_stays asks.gave;
        taken = λ is. absurd (cc is);
        bounded = few given;
        goes = goes_then asks.goes (leaves_goes takes.areas);
        areas = images_then asks.areas (images_beside takes.areas);
        unread = takes.areas.reads_stay ∙ asks.unread;
      }
  asks_unread {taken = taken} {requests = requests} {first = first} {now = now} {mid = mid} TooMuch new asks takes stops =
      let (more, batch, fewer, long, given, all) = stops (d.beside first).input taken requests asks.given in
      record {
        from = λ state is.
            asks_from TooMuch (taken ++ more) (has_taken (asks.asked state is) takes) given.takes
            (first_of (taken ++ more) requests batch (requests ++ batch) (d.beside mid).input refl (first_given new (taken ++ more) (requests ++ batch) (d.beside first).input (d.beside mid).input given))
            (λ text gave. (long, (asks.batches, (batch, fewer, all.whole)), gave));
        cause = (taken ++ more, long, given.takes);
        between = λ ends_so. gives_kept (d.beside first).output (d.beside now).output (d.beside mid).output takes.output_stays asks.gave;
        taken = λ is. absurd (cc is);
        bounded = few given;
        goes = goes_then asks.goes (leaves_goes takes.areas);
        areas = images_then asks.areas (images_beside takes.areas);
        unread = takes.areas.reads_stay ∙ asks.unread;
      }
  asks_unread {taken = taken} {requests = requests} {first = first} {now = now} {mid = mid} NoMemory new asks takes stops =
      let (more, took, short, are) = stops (d.beside first).input taken requests asks.given in
      record {
        from = λ state is. asks_from NoMemory (taken ++ more) (has_taken (asks.asked state is) takes) took are (λ text gave. (asks.batches, gave));
        cause = tt;
        between = λ ends_so. gives_kept (d.beside first).output (d.beside now).output (d.beside mid).output takes.output_stays asks.gave;
        taken = λ is. absurd (cc is);
        bounded = record { taken = taken ++ more; few = short; takes = took };
        goes = goes_then asks.goes (leaves_goes takes.areas);
        areas = images_then asks.areas (images_beside takes.areas);
        unread = takes.areas.reads_stay ∙ asks.unread;
      }
  asks_unread Done new asks takes stops = absurd stops
  asks_unread Usage new asks takes stops = absurd stops
  asks_unread Refused new asks takes stops = absurd stops
  asks_unread DiskFault new asks takes stops = absurd stops
  asks_unread WriteFault new asks takes stops = absurd stops
  asks_unread NotAStore new asks takes stops = absurd stops
  asks_unread (Damaged page) new asks takes stops = absurd stops

  -- It ends between two batches, by itself.
  pub asks_given_up : {snapshot : Snapshot} {taken : List ℕ} {requests : List Request} {script : Requests} {first now : D} → IsAsking d snapshot taken requests script first now →
      AsksAll d snapshot NoMemory first now
  asks_given_up {taken = taken} {requests = requests} {script = script} {first = first} {now = now} asks = record {
    from = λ state is.
        asks_from NoMemory taken (asks.asked state is) asks.given.takes (first_given script taken requests (d.beside first).input (d.beside now).input asks.given) (λ text gave. (asks.batches, gave));
    cause = tt;
    between = λ ends_so. asks.gave;
    taken = λ is. absurd (cc is);
    bounded = few asks.given;
    goes = asks.goes;
    areas = asks.areas;
    unread = asks.unread;
  }

  -- It ends where nothing was taken, and the disk was asked alone.
  asks_nothing : {state : State} {a b : D} (status : Status) → IsStill d a b → ((gave : Appends [] (d.beside a).output (d.beside b).output) → EndsAsking [] [] [] status (d.beside a) (d.beside b)) →
      AsksFrom d state status a b
  asks_nothing {state = state} {a = a} {b = b} status still ends = record {
    taken = [];
    takes = takes_after [] (d.beside a).input (d.beside b).input (d.beside b).input still.beside_stays.input (takes_nothing (d.beside b).input);
    requests = [];
    first = first_none (d.beside b).input;
    text = [];
    replies = asked_none state;
    time = elapsed_weaker still.time (λ s h. ([], ([], refl), kept_appends (d.beside a).output s.output h.0));
    ends = ends (kept_appends (d.beside a).output (d.beside b).output still.beside_stays.output);
  }

  -- It doesn't begin.
  pub asks_unbegun : {snapshot : Snapshot} {a : D} → AsksAll d snapshot NoMemory a a
  asks_unbegun {a = a} = record {
    from = λ state is. asks_nothing NoMemory none_still (λ gave. ((0, refl), gave));
    cause = tt;
    between = λ ends_so. gives_nothing (d.beside a).output (d.beside a).output (keeps_self (d.beside a).output);
    taken = λ is. absurd (cc is);
    bounded = few_nothing (d.beside a).input (d.beside a).input (keeps_self (d.beside a).input);
    goes = none_goes;
    areas = images_none;
    unread = refl;
  }

-- A snapshot wasn't taken:

module _ {D : Type 0} (d : Ghosts D) (a b : D) where
  untaken_from : (e : AskError) → IsStill d a b → NoSnapshot d e a b → (was : Image) (state : State) → IsSettled d a was → Recovers was (Some state) → AsksFrom d state (status_of_asking e) a b
  untaken_from asking.NotAStore still why was state settled recovers = absurd (why was settled (serving_together.header was state recovers))
  untaken_from asking.Disk still why was state settled recovers = asks_nothing DiskFault still (λ gave. (refl, refl, gave))
  untaken_from (asking.Damaged page) still why was state settled recovers = absurd ((why was settled).1 state recovers)
  untaken_from asking.Memory still why was state settled recovers = asks_nothing NoMemory still (λ gave. ((0, refl), gave))

  untaken_cause : (e : AskError) → NoSnapshot d e a b → IsCaused d (status_of_asking e) a b
  untaken_cause asking.NotAStore why = why
  untaken_cause asking.Disk why = why
  untaken_cause (asking.Damaged page) why = λ was state settled told recovers. (why was settled).1 state recovers
  untaken_cause asking.Memory why = tt

  untaken_header : (e : AskError) → NoSnapshot d e a b → (was : Image) → IsSettled d a was → (HasHeader was → ⊥) → EndsWithoutHeader (status_of_asking e)
  untaken_header asking.NotAStore why was settled none = tt
  untaken_header asking.Disk why was settled none = tt
  untaken_header (asking.Damaged page) why was settled none = absurd (none (why was settled).0)
  untaken_header asking.Memory why was settled none = tt

  pub asks_untaken : (e : AskError) → IsStill d a b → ((was : Image) → IsSettled d a was → ReadsSnapshot was (d.reads a) (d.reads b)) → NoSnapshot d e a b → Asks d (status_of_asking e) a b
  asks_untaken e still reads why = record {
    from = untaken_from e still why;
    cause = untaken_cause e why;
    between = λ ends_so. gives_nothing (d.beside a).output (d.beside b).output still.beside_stays.output;
    untaken = λ is. still;
    no_header = λ was settled none. (untaken_header e why was settled none, still);
    once = reads;
    contents_stay = keeps_same (d.contents a) (d.contents b) still.contents_stay;
    images_stay = still.images_stay;
    time = elapsed_weaker still.time (λ s h. h.1);
    bounded = few_nothing (d.beside a).input (d.beside b).input still.beside_stays.input;
    counts = counts_still still;
    faults_later = still.faults_later;
  }

-- A run over the snapshot that was taken:

asked_after : (status : Status) (requests : List Request) (text taken : List ℕ) (a b c : Beside) → Keeps a.input b.input → Keeps a.output b.output → EndsAsking requests text taken status b c →
    EndsAsking requests text taken status a c
asked_after Done requests text taken a b c input output (whole, are, gave) = (whole_after c.input input whole, are, appends_after text a.output b.output c.output output gave)
asked_after ReadFault requests text taken a b c input output (short, are, gave) = (short, are, appends_after text a.output b.output c.output output gave)
asked_after TooMuch requests text taken a b c input output (long, are, gave) = (long, are, appends_after text a.output b.output c.output output gave)
asked_after DiskFault requests text taken a b c input output (none, no_commands, gave) = (none, no_commands, appends_after [] a.output b.output c.output output gave)
asked_after NoMemory requests text taken a b c input output (are, gave) = (are, appends_after text a.output b.output c.output output gave)
asked_after WriteFault requests text taken a b c input output ends = tt
asked_after NotAStore requests text taken a b c input output ends = absurd ends
asked_after (Damaged page) requests text taken a b c input output ends = absurd ends
asked_after Usage requests text taken a b c input output ends = absurd ends
asked_after Refused requests text taken a b c input output ends = absurd ends

module _ {D : Type 0} {d : Ghosts D} where
  taken_from : {a b c : D} {state : State} (status : Status) → IsStill d a b → AsksFrom d state status b c → AsksFrom d state status a c
  taken_from {a = a} {b = b} {c = c} status still from =
      let output = still.beside_stays.output in
      record {
        taken = from.taken;
        takes = takes_after from.taken (d.beside a).input (d.beside b).input (d.beside c).input still.beside_stays.input from.takes;
        requests = from.requests;
        first = from.first;
        text = from.text;
        replies = from.replies;
        time = elapsed_then {P = ShowsPart (d.beside a).output from.text} (elapsed_weaker still.time (λ s h. ([], (from.text, refl), kept_appends (d.beside a).output s.output h.0)))
            from.time (λ s h. (h.0, h.1, appends_after h.0 (d.beside a).output (d.beside b).output s.output output h.2));
        ends = asked_after status from.requests from.text from.taken (d.beside a) (d.beside b) (d.beside c) still.beside_stays.input output from.ends;
      }

  taken_cause : {a b c : D} {snapshot : Snapshot} (status : Status) → IsStill d a b → ((was : Image) → IsSettled d a was → HasHeader was × HasPagesOf snapshot was) →
      AsksAll d snapshot status b c → IsEnded d status b c → IsCaused d status a c
  taken_cause {c = c} Done still took all (taken, whole) = (taken, whole_after (d.beside c).input still.beside_stays.input whole)
  taken_cause {a = a} {b = b} {c = c} DiskFault still took all rose = rose_since (d.faults a) (d.faults b) (d.faults c) still.faults_later rose
  taken_cause {a = a} {b = b} {c = c} ReadFault still took all (rose, taken, short, takes) = (
    rose_since (d.beside a).in_faults (d.beside b).in_faults (d.beside c).in_faults (counts_still still).read rose,
    taken,
    short,
    takes_after taken (d.beside a).input (d.beside b).input (d.beside c).input still.beside_stays.input takes,
  )
  taken_cause {a = a} {b = b} {c = c} WriteFault still took all rose = rose_since (d.beside a).out_faults (d.beside b).out_faults (d.beside c).out_faults (counts_still still).written rose
  taken_cause NoMemory still took all cause = tt
  taken_cause {snapshot = snapshot} (Damaged page) still took all cause = λ was state settled told recovers. (all.from state (snapshot_stands snapshot was state (took was settled).1 recovers)).ends
  taken_cause {a = a} {b = b} {c = c} TooMuch still took all (taken, long, takes) =
      (taken, long, takes_after taken (d.beside a).input (d.beside b).input (d.beside c).input still.beside_stays.input takes)
  taken_cause NotAStore still took all cause = absurd cause
  taken_cause Usage still took all cause = absurd cause
  taken_cause Refused still took all cause = absurd cause

  pub asks_taken : {a b c : D} {snapshot : Snapshot} (status : Status) → IsStill d a b → ((was : Image) → IsSettled d a was → ReadsSnapshot was (d.reads a) (d.reads b)) →
      ((was : Image) → IsSettled d a was → HasHeader was × HasPagesOf snapshot was) → AsksAll d snapshot status b c → Asks d status a c
  asks_taken {a = a} {b = b} {c = c} {snapshot = snapshot} status still reads took all =
      let goes = goes_then (still_goes still) all.goes in
      let areas = images_then (images_still still) all.areas in
      record {
        from = λ was state settled recovers. taken_from status still (all.from state (snapshot_stands snapshot was state (took was settled).1 recovers));
        cause = taken_cause status still took all all.cause;
        between = λ ends_so. gives_after (d.beside a).output (d.beside b).output (d.beside c).output still.beside_stays.output (all.between ends_so);
        untaken = λ is. absurd (all.taken is);
        no_header = λ was settled none. absurd (none (took was settled).0);
        once = λ was settled. subst (λ (n : ℕ). ReadsSnapshot was (d.reads a) n) (sym all.unread) (reads was settled);
        contents_stay = areas.contents_stay;
        images_stay = areas.images_stay;
        time = areas.time;
        bounded = record {
          taken = all.bounded.taken;
          few = all.bounded.few;
          takes = takes_after all.bounded.taken (d.beside a).input (d.beside b).input (d.beside c).input still.beside_stays.input all.bounded.takes;
        };
        counts = goes.counts;
        faults_later = goes.faults_later;
      }
