-- A load behind whatever waits for the commit.
use Rattle.std.proofs.Common.{◌≡◌, ◌⊎◌, ℕ, ◌+◌, List, length, Option, None, Some, true, false, inl, inr, refl, sym, ap, ◌∙◌, subst}
use Rattle.std.specs.Prelude.{IsSome, Result, Ok, Err, IfOk, IfErr}
use Rattle.std.specs.Bool.{MatchBool}
use Rattle.std.specs.Option.{is_some, option_map}
use Rattle.std.specs.FinMap.{get}
use Rattle.nx_host.specs.declared.disk.Disk.{Ghosts}
use Rattle.nx_holdings.specs.declared.header.Settings.{Settings}
use Rattle.nx_holdings.specs.Holdings.{Held}
use Rattle.nx_parts.specs.declared.interval.Interval.{Interval}
use Rattle.nx_parts.specs.Minima.{IsLeanOptimal}
use Rattle.nx_tree.specs.Forest.{OrderedTree, nodes}
use Rattle.nx_weights.specs.Weight.{first_heavy, weighed}
use Rattle.nx_pyx.specs.declared.error.PyxError.{PyxError}
use Rattle.nx_records.specs.Records.{has_ended, settings_of}
use Rattle.nx_records.specs.declared.error.StoreError.{StoreError}
use Rattle.nx_records.specs.declared.error.StoreError.TheVariants as below
use Rattle.nx_script.specs.declared.command.LoadBody.{LoadBody}
use Rattle.nx_script.specs.declared.command.LoadBody.TheVariants.{Read, Wrong}
use Rattle.nx_script.specs.declared.command.Command.TheVariants.{Load}
use Rattle.nx_script.specs.declared.reply.Reply.{Reply}
use Rattle.nx_script.specs.declared.reply.Reply.TheVariants as reply
use Rattle.nx_script.specs.declared.reply.ReplyError.{ReplyError}
use Rattle.nx_script.specs.declared.reply.ReplyError.TheVariants.{Exists, Pyx, TooHeavy, Full}
use Rattle.nx_state.specs.State.{State}
use Rattle.nx_steps.specs.Answers.{Refuses, with_document}
use Rattle.nx_steps.specs.Answers.{heavy_fault}
use Rattle.nx_steps.specs.Step.{Step}
use Rattle.nx_steps.proofs.StoredLemmas.{stored_sound}
use Rattle.nx_hold.specs.declared.entry.DocEntry.{DocEntry}
use Rattle.nx_store.specs.Store.{is_ended, IsNow}
use Rattle.nx_store.specs.Staying.{IsLeftBy, RecordsStay, AllStay}
use Rattle.nx_store.specs.Changing.{IsStoreLeft, MakesStep, StepsRefused, PreparesNext, NotPrepared, IsStoreCause}
use Rattle.nx_store.specs.Loading.{IsNew, IsChosen, IsKept, NotKept}
use Rattle.nx_store.specs.declared.store.Store.{Store}
use Rattle.nx_store.specs.declared.error.EngineError.{EngineError}
use Rattle.nx_store.specs.declared.error.EngineError.TheVariants as error
use Rattle.nx_store.proofs.CaseLemmas.{BodyStep, load_case}
use Rattle.nx_store.proofs.EditLemmas.{now_none}
use Rattle.nx_store.proofs.GoneLemmas.{shown_there}
use Rattle.nx_store.proofs.LogLemmas.{some_value}
use Rattle.nx_store.proofs.PrepareLemmas.{makes_step, refused_next, untold_next, told_err, no_err, store_left}
use Rattle.nx_store.proofs.StepLemmas.{new_step, no_heavy, light_step, heavy_step, get_there}

module _ {D : Type 0} (d : Ghosts D) (s : Store) (x : D) (running : is_ended s ≡ false) (name : List ℕ) where
  -- a document has the name
  pub exists_next : (body : LoadBody) → IsSome (get (s.catalog).documents name) → IsStoreLeft d s s x x × StepsRefused d (Load name body) Exists s x
  exists_next body there = (
    store_left d s x running,
    λ saved state at.
        let entry = some_value (get (s.catalog).documents name) there in
        load_case state name body (reply.Refused Exists) state
        (subst (λ o. MatchBool (is_some o) (Refuses state Exists (reply.Refused Exists) state) (BodyStep state name body (reply.Refused Exists) state)) (sym (shown_there d s x state at name entry.0 entry.1)) (refl, refl)),
  )

  module _ (new : IsNew s name) where
    -- the lines are no document
    pub wrong_next : (e : PyxError) → IsStoreLeft d s s x x × StepsRefused d (Load name (Wrong e)) (Pyx e) s x
    wrong_next e = (store_left d s x running, λ saved state at. new_step state name (Wrong e) (reply.Refused (Pyx e)) state (now_none name at new) (refl, refl))

    now_settings : {saved : Held} (state : State) → IsNow d s x saved state → settings_of s.records ≡ state.settings
    now_settings state at = sym (((at.stands).holds).behind).settings ∙ (at.state_is).settings

    -- a node is too heavy
    pub heavy_next : (tree : OrderedTree) (path : List ℕ) (slots : ℕ) → option_map weighed (first_heavy (settings_of s.records).k tree) ≡ Some (path, slots) → IsStoreLeft d s s x x × StepsRefused d (Load name (Read tree)) (TooHeavy path slots) s x
    heavy_next tree path slots heavy = (
      store_left d s x running,
      λ saved state at. new_step state name (Read tree) (reply.Refused (TooHeavy path slots)) state (now_none name at new)
          (heavy_step state name tree path slots (subst (λ (t : Settings). option_map weighed (first_heavy t.k tree) ≡ Some (path, slots)) (now_settings state at) heavy)),
    )

    module _ (tree : OrderedTree) (parts : List Interval) (chosen : IsChosen s tree parts) where
      light_now : {saved : Held} (state : State) → IsNow d s x saved state → heavy_fault (state.settings).k tree ≡ None
      light_now state at = subst (λ (t : Settings). heavy_fault t.k tree ≡ None) (now_settings state at) (no_heavy (settings_of s.records).k tree parts ((chosen.lean).optimal).feasible)

      module _ (s1 : Store) (x1 : D) where
        kept_step : {saved : Held} (state : State) → IsNow d s x saved state → (k : IsKept d saved s1 x1 state name tree parts) → Step state (Load name (Read tree)) (reply.Loaded (1 + nodes tree.below) (length parts)) (with_document state name k.document)
        kept_step state at k =
            let next = with_document state name k.document in
            new_step state name (Read tree) (reply.Loaded (1 + nodes tree.below) (length parts)) next (now_none name at new)
            (light_step state name tree (reply.Loaded (1 + nodes tree.below) (length parts)) next (light_now state at) (inl (record {
              document = k.document;
              tree_is = k.tree_is;
              lean = subst (λ (ps : List Interval). IsLeanOptimal (state.settings).k tree ps) (sym k.parts_are) (subst (λ (t : Settings). IsLeanOptimal t.k tree parts) (now_settings state at) chosen.lean);
              drawn = (stored_sound (k.now).held next (k.now).state_is).drawn name k.document (get_there state.documents name k.document);
              answered = ap (λ (ps : List Interval). reply.Loaded (1 + nodes tree.below) (length ps)) (sym k.parts_are);
              next_is = refl;
            })))

        -- it was kept
        pub kept_makes : (count many : ℕ) → count ≡ 1 + nodes tree.below → many ≡ length parts → (saved : Held) (state : State) (at : IsNow d s x saved state)
            → (kept : IsKept d saved s1 x1 state name tree parts) × RecordsStay (IsLeftBy (Load name (Read tree))) (at.state_is).stored at.held (kept.now).held × AllStay (at.state_is).stored ((kept.now).state_is).stored
            → MakesStep (Load name (Read tree)) (reply.Loaded count many) at s1 x1
        kept_makes count many counted parted saved state at kept =
            let k = kept.0 in
            let next = with_document state name k.document in
            makes_step at (Load name (Read tree))
            (record {
              next = next;
              step = subst (λ (n : ℕ). Step state (Load name (Read tree)) (reply.Loaded n many) next) (sym counted) (subst (λ (n : ℕ). Step state (Load name (Read tree)) (reply.Loaded (1 + nodes tree.below) n) next) (sym parted) (kept_step state at k));
              now = k.now;
            })
            kept.1
            (λ s there beside. kept.2 s there)

        -- ... or not
        pub unkept_ok : (text longer : List ℕ) (e : StoreError) (r : Result (Result Reply ReplyError) EngineError) → IsStoreCause e r → NotKept d tree e s s1 x x1 → IfOk r (λ made. PreparesNext d (Load name (Read tree)) made text longer s s1 x x1)
        unkept_ok text longer below.Full r is why = refused_next d (Load name (Read tree)) text longer s s1 x x1 Full r is (
          why.0,
          λ saved state at. new_step state name (Read tree) (reply.Refused Full) state (now_none name at new) (light_step state name tree (reply.Refused Full) state (light_now state at) (inr (why.1 saved state at, (refl, refl)))),
        )
        unkept_ok text longer below.Memory r is why = untold_next d (Load name (Read tree)) text longer s s1 x x1 error.Memory r is
        unkept_ok text longer below.Disk r is why = untold_next d (Load name (Read tree)) text longer s s1 x x1 error.Disk r is
        unkept_ok text longer (below.Damaged page) r is why = untold_next d (Load name (Read tree)) text longer s s1 x x1 (error.Damaged page) r is
        unkept_ok text longer below.Ended r is why = absurd why
        unkept_ok text longer below.Exists r is why = absurd why
        unkept_ok text longer below.NotAStore r is why = absurd why

        pub unkept_err : (e : StoreError) (r : Result (Result Reply ReplyError) EngineError) → IsStoreCause e r → NotKept d tree e s s1 x x1 → IfErr r (λ y. NotPrepared d y s s1 x x1)
        unkept_err below.Full r is why = no_err d s s1 x x1 Full r is
        unkept_err below.Memory r is why = told_err d s s1 x x1 error.Memory r is why
        unkept_err below.Disk r is why = told_err d s s1 x x1 error.Disk r is why
        unkept_err (below.Damaged page) r is why = told_err d s s1 x x1 (error.Damaged page) r is why
        unkept_err below.Ended r is why = absurd why
        unkept_err below.Exists r is why = absurd why
        unkept_err below.NotAStore r is why = absurd why
