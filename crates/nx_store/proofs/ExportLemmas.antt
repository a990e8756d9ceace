-- A store whose document was given to an output, record by record.
use Rattle.std.proofs.Common.{◌≡◌, ℕ, ◌+◌, ◌≤◌, List, [], ◌∷◌, ◌++◌, length, take, Option, None, Some, false, refl, sym, ap, ◌∙◌, subst, append_assoc, arith, inr}
use Rattle.std.specs.Prelude.{IsSome, Result, Ok, Err}
use Rattle.std.specs.Option.{option_map_or, IsSomeAnd}
use Rattle.std.specs.FinMap.{get}
use Rattle.std.proofs.lemmas.Bool.{false≢true}
use Rattle.std.proofs.lemmas.List.{take_all}
use Rattle.nx_host.specs.Disk.{Image, Keeps, Rose}
use Rattle.nx_host.specs.Host.{Appends, AppendsPrefix}
use Rattle.nx_host.specs.Phase.{TalksAlone, GivesAlone}
use Rattle.nx_host.specs.declared.disk.Disk.{Ghosts}
use Rattle.nx_host.specs.Time.{none_elapsed, elapsed_then, elapsed_weaker}
use Rattle.nx_host.proofs.OutputLemmas.{appends_nothing, appends_then, prefix_then}
use Rattle.nx_host.proofs.DiskLemmas.{none_still, told_same}
use Rattle.nx_records.proofs.LeaveLemmas.{leaves_stand}
use Rattle.nx_records.specs.declared.records.Records.{Records}
use Rattle.nx_records.specs.Records.{LeavesRecords, has_ended}
use Rattle.nx_pyx.specs.Text.{text}
use Rattle.nx_cuts.specs.Cut.{CutTree, tree_of}
use Rattle.nx_hold.specs.declared.entry.DocEntry.{DocEntry}
use Rattle.nx_hold.specs.Changes.{place_of}
use Rattle.nx_catalog.specs.Catalog.{Contents, IsCatalog}
use Rattle.nx_nav.specs.declared.error.NavError.{NavError}
use Rattle.nx_nav.specs.declared.error.NavError.TheVariants as nav
use Rattle.nx_nav.specs.Given.{AsksAndGives, AppendsBut, GivesWithin}
use Rattle.nx_nav.specs.GivenLaws.{within_more}
use Rattle.nx_nav.specs.EarlyLaws.{left_front}
use Rattle.nx_nav.specs.Refusals.{OfEach, OfEachWith, HoldsNoneWith, IsRefused}
use Rattle.nx_nav.proofs.PartLemmas.{stands_kept}
use Rattle.nx_script.specs.declared.command.Command.TheVariants.{Export}
use Rattle.nx_script.specs.declared.reply.Reply.{Reply}
use Rattle.nx_script.specs.declared.reply.Reply.TheVariants as reply
use Rattle.nx_script.specs.declared.reply.ReplyError.TheVariants.{NoDocument}
use Rattle.nx_script.specs.Reply.{reply_text}
use Rattle.nx_state.specs.State.{State}
use Rattle.nx_steps.specs.Answers.{by_stored_document}
use Rattle.nx_store.specs.Told.{told_by}
use Rattle.nx_store.specs.Store.{is_ended, HoldsOn, LeavesLog, IsAt, IsGiven, IsExported, IsAnswered, StoreTurn, ShowsGiven, ShowsAnswer, ShowsTurn, TakesNone, NotAnswered}
use Rattle.nx_store.specs.Reads.{ReadsToFirst}
use Rattle.nx_script.specs.declared.request.Request.TheVariants.{Single}
use Rattle.nx_script.specs.declared.request.Answer.TheVariants.{One}
use Rattle.nx_store.specs.declared.store.Store.{Store}
use Rattle.nx_store.specs.declared.error.EngineError.{EngineError}
use Rattle.nx_store.specs.declared.error.EngineError.TheVariants as error
use Rattle.nx_store.proofs.CaseLemmas.{export_case}
use Rattle.nx_store.proofs.AtLemmas.{at_runs, at_image, at_beside}
use Rattle.nx_store.proofs.FoundLemmas.{IsFound, at_found}
use Rattle.nx_store.proofs.LogLemmas.{areas_keep, keeps_on, log_of_look, kept_spares}
use Rattle.nx_store.proofs.LookLemmas.{absent_answer, lacks_nowhere_with}

-- what ends the reply to an export
abbrev pub last_line : List ℕ
last_line = 46 ∷ 10 ∷ []

-- what is a prefix is something that came
prefix_grows : (bytes : List ℕ) (old new : Option (List ℕ)) → AppendsPrefix bytes old new → (more : List ℕ) × Appends more old new
prefix_grows bytes old None prefix = ([], tt)
prefix_grows bytes old (Some now) (was, n, is, grew) = (take n bytes, (was, is, grew))

module _ {D : Type 0} (d : Ghosts D) where
  -- the store is at its state after a call that asked the areas and gave output
  pub at_given : (s0 s1 : Store) (x0 x1 : D) (state : State) → LeavesRecords s0.records s1.records → s1.catalog ≡ s0.catalog → AsksAndGives d x0 x1 → IsSome (d.contents x1) → IsAt d s0 x0 state → IsAt d s1 x1 state
  at_given s0 s1 x0 x1 state records catalog gives told at = record {
    held = at.held;
    stands = leaves_stand {r0 = s0.records} {r1 = s1.records} records none_still (stands_kept gives.contents_stay told (λ i. (gives.images_stay i).0) at.stands);
    none_waits = records.changes_stay ∙ at.none_waits;
    state_is = at.state_is;
    catalog = subst (λ (c : Contents). IsCatalog (at.held).catalog.bytes c) (sym catalog) at.catalog;
  }

  pub gives_within : (s : Store) (x0 x1 : D) (state : State) (bytes : List ℕ) → IsAt d s x0 state → GivesWithin d bytes x0 x1 → ShowsGiven d bytes state x0 x1
  gives_within s x0 x1 state bytes at within = elapsed_weaker within (λ m h. (h.0, at_image at h.1))

  module _ (s0 s1 : Store) (x0 x1 : D) (state : State) (name block left : List ℕ) (at : IsAt d s0 x0 state) where
    exported : (result : Result (Unit {0}) EngineError) (r : Reply) → r ≡ by_stored_document state name (λ document. reply.Exported (text (tree_of document))) → GivesWithin d (block ++ reply_text r) x0 x1
        → IsGiven d result (block ++ reply_text r) left state s1 x0 x1 → IsExported d result state name block left s1 x0 x1
    exported result r is within given = record { reply = r; step = export_case state name r state (is, refl); given = given; time = gives_within s0 x0 x1 state (block ++ reply_text r) at within }

    -- a document of that name was given, or a first part of it
    module _ (entry : DocEntry) (is : get (s0.catalog).documents name ≡ Some entry) (within : OfEach d s0.records x0 (place_of entry.root) (λ document. GivesWithin d (block ++ text (tree_of document)) x0 x1)) where
      found : IsFound d s0 x0 state name entry
      found = at_found name entry at is

      found_exported : (result : Result (Unit {0}) EngineError) → IsGiven d result (block ++ (text (tree_of found.document) ++ last_line)) left state s1 x0 x1 → IsExported d result state name block left s1 x0 x1
      found_exported result given =
          let said = text (tree_of found.document) in
          exported result (reply.Exported said) (ap (λ o. option_map_or (λ (document : CutTree). reply.Exported (text (tree_of document))) o (reply.Refused NoDocument)) (sym found.there))
          (subst (λ w. GivesWithin d w x0 x1) (append_assoc block said last_line) (within_more d (block ++ said) last_line x0 x1 (within found.document found.has))) given

      -- the last part is in the block
      pub given_exported : (mid : List ℕ) → OfEachWith d s0.records x0 (place_of entry.root) entry.nodes (λ document. AppendsBut (block ++ text (tree_of document)) mid (d.beside x0).output (d.beside x1).output)
          → left ≡ mid ++ last_line → IsAt d s1 x1 state → IsExported d (Ok tt) state name block left s1 x0 x1
      given_exported mid gives ends later =
          let said = text (tree_of found.document) in
          let first = gives found.document found.has (sym found.counted) in
          found_exported (Ok tt) (
            later,
            record {
              done = first.done;
              parts = ap (λ w. first.done ++ w) ends ∙ sym (append_assoc first.done mid last_line) ∙ ap (λ w. w ++ last_line) first.parts ∙ append_assoc block said last_line;
              gave = first.gave;
            },
          )

      pub no_memory_exported : IsAt d s1 x1 state → IsExported d (Err error.Memory) state name block left s1 x0 x1
      no_memory_exported later = found_exported (Err error.Memory) later

      pub refused_exported : (Unwritten : Type 0) (e : NavError) → s1.catalog ≡ s0.catalog → AsksAndGives d x0 x1 → IsSome (d.contents x1)
          → IsRefused d ⊥ Unwritten (IsSome (d.contents x1) → HoldsNoneWith d s0.records x0 (place_of entry.root) entry.nodes) e s0.records s1.records x0 x1
          → IsSomeAnd (told_by e) (λ told. IsExported d (Err told) state name block left s1 x0 x1)
      refused_exported Unwritten nav.NoNode catalog gives told refused = absurd refused.0
      refused_exported Unwritten nav.Disk catalog gives told refused = found_exported (Err error.Disk) tt
      refused_exported Unwritten nav.Write catalog gives told refused = found_exported (Err error.Write) (at_given s0 s1 x0 x1 state refused.2 catalog gives told at)
      refused_exported Unwritten (nav.Damaged page) catalog gives told refused = absurd (refused.0 told found.document found.has (sym found.counted))
      refused_exported Unwritten nav.Ended catalog gives told refused = absurd (false≢true (sym (at_runs at) ∙ refused.0))
      refused_exported Unwritten nav.Memory catalog gives told refused = found_exported (Err error.Memory) (at_given s0 s1 x0 x1 state refused.1 catalog gives told at)

  -- there is no document of that name, and its reply is in the block, or there was no memory for it
  module _ (s : Store) (x : D) (state : State) (name block left : List ℕ) (at : IsAt d s x state) (none : get (s.catalog).documents name ≡ None) where
    absent_exported : (result : Result (Unit {0}) EngineError) → IsGiven d result (block ++ reply_text (reply.Refused NoDocument)) left state s x x → IsExported d result state name block left s x x
    absent_exported result given =
        exported s s x x state name block left at result (reply.Refused NoDocument) (absent_answer name (λ (document : CutTree). reply.Exported (text (tree_of document))) none at) none_elapsed given

    pub told_absent : left ≡ block ++ reply_text (reply.Refused NoDocument) → IsExported d (Ok tt) state name block left s x x
    told_absent ends = absent_exported (Ok tt) (at, record { done = []; parts = ends; gave = appends_nothing (d.beside x).output })

    pub no_memory_absent : IsExported d (Err error.Memory) state name block left s x x
    no_memory_absent = absent_exported (Err error.Memory) at

  -- records that run on are left
  pub given_same : (Unwritten Lacks : Type 0) (r0 r1 : Records) (x0 x1 : D) (e : NavError) → IsRefused d ⊥ Unwritten Lacks e r0 r1 x0 x1 → has_ended r1 ≡ false → LeavesRecords r0 r1
  given_same Unwritten Lacks r0 r1 x0 x1 nav.NoNode h runs = absurd h.0
  given_same Unwritten Lacks r0 r1 x0 x1 nav.Disk h runs = absurd (false≢true (sym runs ∙ (h.1).after))
  given_same Unwritten Lacks r0 r1 x0 x1 nav.Write h runs = h.2
  given_same Unwritten Lacks r0 r1 x0 x1 (nav.Damaged page) h runs = absurd (false≢true (sym runs ∙ (h.1).after))
  given_same Unwritten Lacks r0 r1 x0 x1 nav.Ended h runs = h.1
  given_same Unwritten Lacks r0 r1 x0 x1 nav.Memory h runs = h.1

  -- why it wasn't given
  pub not_exported : (s0 s1 : Store) (x0 x1 : D) (name : List ℕ) (entry : DocEntry) (e : NavError) → is_ended s0 ≡ false → get (s0.catalog).documents name ≡ Some entry
      → IsRefused d ⊥ (Rose (d.beside x0).out_faults (d.beside x1).out_faults) (IsSome (d.contents x1) → HoldsNoneWith d s0.records x0 (place_of entry.root) entry.nodes) e s0.records s1.records x0 x1
      → IsSomeAnd (told_by e) (λ told. NotAnswered d told s0 s1 x0 x1)
  not_exported s0 s1 x0 x1 name entry nav.NoNode runs is refused = absurd refused.0
  not_exported s0 s1 x0 x1 name entry nav.Disk runs is refused = (refused.0, (runs, (refused.1).after))
  not_exported s0 s1 x0 x1 name entry nav.Write runs is refused = (refused.0, (runs, (refused.2).ended_stays ∙ runs))
  not_exported s0 s1 x0 x1 name entry (nav.Damaged page) runs is refused = ((runs, (refused.1).after), λ told. lacks_nowhere_with name entry is (refused.0 told))
  not_exported s0 s1 x0 x1 name entry nav.Ended runs is refused = absurd (false≢true (sym runs ∙ refused.0))
  not_exported s0 s1 x0 x1 name entry nav.Memory runs is refused = (runs, (refused.1).ended_stays ∙ runs)

  -- one that began with an empty block
  pub from_empty : (result : Result (Unit {0}) EngineError) (s : Store) (x0 x1 : D) (state : State) (name block left : List ℕ) → block ≡ [] → IsExported d result state name block left s x0 x1 → IsExported d result state name [] left s x0 x1
  from_empty result s x0 x1 state name block left none done = subst (λ (b : List ℕ). IsExported d result state name b left s x0 x1) none done

  pub told_before : (bytes : List ℕ) (x1 x2 : D) → TalksAlone d bytes x1 x2 → IsSome (d.contents x2) → IsSome (d.contents x1)
  told_before bytes x1 x2 gives told = subst (λ (o : Option Image). IsSome o) (told_same (d.contents x1) (d.contents x2) gives.contents_stay told) told

  pub as_prefix : (bytes : List ℕ) (old new : Option (List ℕ)) → Appends bytes old new → AppendsPrefix bytes old new
  as_prefix bytes old None grew = tt
  as_prefix bytes old (Some now) (was, is, grew) = (was, length bytes, is, grew ∙ ap (λ w. was ++ w) (sym (take_all (length bytes) bytes (omega arith))))

  -- An export that was given but for a last part, behind which this is given:
  module _ (s : Store) (x0 x1 x2 : D) (state : State) (name left : List ℕ) (gives : TalksAlone d left x1 x2) (told : IsSome (d.contents x2)) (done : IsExported d (Ok tt) state name [] left s x0 x1) where
    abbrev export_turn : StoreTurn state (Single (Export name))
    export_turn = record { reply = One done.reply; next = state; step = done.step }

    export_shows : ShowsTurn d export_turn x0 x2
    export_shows =
        let but = (done.given).1 in
        elapsed_then {P = ShowsAnswer (d.beside x0).output state (reply_text done.reply) state} (elapsed_weaker done.time (λ m h. inr h)) gives.time (λ m h. inr (
          subst (λ (t : List ℕ). AppendsPrefix t (d.beside x0).output m.output) but.parts (prefix_then but.done left (d.beside x0).output (d.beside x1).output m.output but.gave h.0),
          at_image (done.given).0 h.1,
        ))

    export_log : AsksAndGives d x0 x1 → LeavesLog d (Single (Export name)) (One done.reply) state state x0 x2
    export_log areas =
        log_of_look d (Export name) done.reply state x0 x2 (refl, λ is. cc)
        (keeps_on d x0 x1 x2 (areas_keep d x0 x1 areas.contents_stay (told_before left x1 x2 gives told) areas.images_stay)
        (areas_keep d x1 x2 gives.contents_stay told gives.images_stay))

    pub export_answered : (s0 : Store) → AsksAndGives d x0 x1 → HoldsOn d s0 s x0 x2 → Appends left (d.beside x1).output (d.beside x2).output → IsAnswered d (Ok tt) state (Single (Export name)) s0 s x0 x2
    export_answered s0 areas holds grew =
        let but = (done.given).1 in
        record {
          turn = export_turn;
          at = at_beside gives told (done.given).0;
          gave = subst (λ (t : List ℕ). Appends t (d.beside x0).output (d.beside x2).output) but.parts (appends_then but.done left (d.beside x0).output (d.beside x1).output (d.beside x2).output but.gave grew);
          time = export_shows;
          log = export_log areas;
          holds = λ refused. holds;
        }

    pub export_unwritten : (s0 : Store) → AsksAndGives d x0 x1 → HoldsOn d s0 s x0 x2 → IsAnswered d (Err error.Write) state (Single (Export name)) s0 s x0 x2
    export_unwritten s0 areas holds = (export_turn, at_beside gives told (done.given).0, export_shows, λ refused. holds, export_log areas)

  -- what was read where nothing of it was given
  pub export_read : (s0 s1 : Store) (x0 x1 x2 : D) (name left : List ℕ) (gives : TalksAlone d left x1 x2) → AppendsPrefix left (d.beside x1).output (d.beside x2).output → ((state : State) → IsAt d s0 x0 state → IsSome (d.contents x1) → IsExported d (Ok tt) state name [] left s1 x0 x1)
      → ReadsToFirst d name s0 x0 x1 → ReadsToFirst d name s0 x0 x2
  export_read s0 s1 x0 x1 x2 name left gives prefix exports reads output state at =
      let more = prefix_grows left (d.beside x1).output (d.beside x2).output prefix in
      let told : IsSome (d.contents x1) = subst (λ (o : Option Image). IsSome o) (told_same (d.contents x1) (d.contents x2) gives.contents_stay output.told) output.told in
      let but = ((exports state at told).given).1 in
      let same = gives.reads_stay in
      let read = reads (left_front but.done more.0 but.gave more.1 gives.contents_stay output) state at in
      (read.0, let few = read.1 in omega (arith, few, same), read.2)

  -- an export that gave up
  pub export_failed : (e : EngineError) (s0 s : Store) (x0 x1 : D) (state : State) (name left : List ℕ) → AsksAndGives d x0 x1 → IsSome (d.contents x1) → (is_ended s ≡ false → HoldsOn d s0 s x0 x1) → IsExported d (Err e) state name [] left s x0 x1 → IsAnswered d (Err e) state (Single (Export name)) s0 s x0 x1
  export_failed error.Write s0 s x0 x1 state name left areas told holds done = (
    record { reply = One done.reply; next = state; step = done.step },
    done.given,
    elapsed_weaker done.time (λ m h. inr h),
    λ refused. holds (at_runs done.given),
    log_of_look d (Export name) done.reply state x0 x1 (refl, λ is. cc) (areas_keep d x0 x1 areas.contents_stay told areas.images_stay),
  )
  export_failed error.Memory s0 s x0 x1 state name left areas told holds done = (
    done.given,
    inr (record { name = name; is = refl; reply = done.reply; step = done.step; time = done.time }),
    holds (at_runs done.given),
    kept_spares d (Single (Export name)) x0 x1 (areas_keep d x0 x1 areas.contents_stay told areas.images_stay),
  )
  export_failed error.Disk s0 s x0 x1 state name left areas told holds done = inr (record { name = name; is = refl; reply = done.reply; step = done.step; time = done.time })
  export_failed error.Exists s0 s x0 x1 state name left areas told holds done = absurd done.given
  export_failed error.NotAStore s0 s x0 x1 state name left areas told holds done = absurd done.given
  export_failed (error.Damaged page) s0 s x0 x1 state name left areas told holds done = absurd done.given
  export_failed error.Ended s0 s x0 x1 state name left areas told holds done = absurd done.given

  -- no input is taken where output is given behind a call
  pub takes_more : (bytes : List ℕ) (x0 x1 x2 : D) → TakesNone d x0 x1 → GivesAlone d bytes x1 x2 → TakesNone d x0 x2
  takes_more bytes x0 x1 x2 takes alone = record {
    told = λ told. takes.told (subst (λ (o : Option Image). IsSome o) (told_same (d.contents x1) (d.contents x2) (alone.areas).contents_stay told) told);
    input_stays = subst (λ (o : Option (List ℕ)). Keeps (d.beside x0).input o) (sym alone.input_stays) takes.input_stays;
    in_faults_stay = alone.in_faults_stay ∙ takes.in_faults_stay;
    out_faults_later = let first = takes.out_faults_later in let then = (alone.areas).out_faults_later in omega (arith, first, then);
    faults_later = let first = takes.faults_later in let same : d.faults x2 ≡ d.faults x1 = (alone.areas).faults_stay in omega (arith, first, same);
  }
