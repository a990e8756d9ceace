-- A store whose log was emptied, and what commands leave of the log.
use Rattle.std.proofs.Common.{◌≡◌, ◌+◌, ◌<◌, ◌≤◌, ◌↔◌, List, [], ◌∷◌, Option, None, Some, inl, inr, true, false, refl, sym, ap, ◌∙◌, subst, arith}
use Rattle.std.specs.Prelude.{◌≢◌, ◌⊎◌, nat_lt, if◌then◌else◌}
use Rattle.std.proofs.lemmas.Bool.{le-ltb, lt-ltb}
use Rattle.std.proofs.lemmas.Bool.{false≢true}
use Rattle.std.specs.Prelude.{IsSome}
use Rattle.nx_host.specs.Disk.{Image, Keeps}
use Rattle.nx_host.specs.declared.disk.Disk.{Ghosts}
use Rattle.nx_host.specs.Still.{IsStill, IsSettled, WritesAlone}
use Rattle.nx_host.proofs.DiskLemmas.{settled_still, settled_kept, written_alone_weaker}
use Rattle.nx_replay.specs.Log.{Group, groups, replay, HasGroup}
use Rattle.nx_holdings.specs.Holdings.{Held, Holds}
use Rattle.nx_records.specs.declared.records.Records.{Records}
use Rattle.nx_records.specs.Records.{has_ended, log_length_of, image_group_count, log_end, HasSaved, IsInStepWith, StandsFor, HasNoChanges, FollowsOn}
use Rattle.nx_records.proofs.GroupLemmas.{ends_there, one_more, none_counted, ends_at_none}
use Rattle.nx_records.proofs.StandLemmas.{abandon_stands}
use Rattle.nx_catalog.specs.Catalog.{Contents, IsCatalog}
use Rattle.nx_script.specs.declared.command.Command.{Command}
use Rattle.nx_script.specs.declared.command.Command.TheVariants.{Checkpoint}
use Rattle.nx_state.specs.State.{State}
use Rattle.nx_steps.specs.Step.{may_change}
use Rattle.nx_steps.specs.Requests.{is_refused, may_change_request}
use Rattle.nx_script.specs.declared.reply.Reply.{Reply}
use Rattle.nx_store.specs.Store.{longest_log, IsAt, IsOf, IsShortened, HoldsOn, AddsGroup, AddsNoGroup, KeepsImage, is_refusal, GoesThrough, LooksAlone, LeavesLog, MayEmptyLog, SparesLog}
use Rattle.nx_script.specs.declared.request.Request.{Request}
use Rattle.nx_script.specs.declared.request.Request.TheVariants.{Single, Transaction}
use Rattle.nx_script.specs.declared.request.Answer.{Answer}
use Rattle.nx_script.specs.declared.request.Answer.TheVariants.{One}
use Rattle.nx_store.specs.declared.store.Store.{Store}
use Rattle.nx_store.proofs.FoundLemmas.{same_some}

pub some_value : {T : Type 0} (o : Option T) → IsSome o → (x : T) × (o ≡ Some x)
some_value None told = absurd (false≢true told)
some_value (Some x) told = (x, refl)

module _ {D : Type 0} {d : Ghosts D} (s0 : Store) (r1 : Records) (x0 : D) (follows : FollowsOn s0.records r1) (none : HasNoChanges r1)
    (heads : (r1.saved ≡ (s0.records).saved) × (r1.head ≡ (s0.records).saved) × (r1.catalog_pages ≡ [])) (ended : has_ended r1 ≡ has_ended s0.records) where
  dropped : (state : State) (at : IsAt d s0 x0 state) → StandsFor d r1 x0 at.held at.held
  dropped state at = abandon_stands {r0 = s0.records} {r1 = r1} follows none (heads.0, heads.1) heads.2 ended (at.stands).keeps

  -- at each moment each image is that of the state
  pub emptied_goes : (x1 : D) → WritesAlone d x0 x1 (λ i. (saved : Held) → HasSaved d r1 x0 saved → Holds (replay i) saved) → WritesAlone d x0 x1 (λ i. (state : State) → IsAt d s0 x0 state → IsOf state i)
  emptied_goes x1 goes = written_alone_weaker goes (λ told i held state at. (at.held, held at.held (dropped state at).keeps, at.state_is))

  -- and then the store is at it
  pub emptied_at : (x1 : D) (s2 : Store) → ((saved now : Held) (image : Image) → StandsFor d r1 x0 saved now → d.contents x1 ≡ Some image → StandsFor d s2.records x1 saved now) → HasNoChanges s2.records → s2.catalog ≡ s0.catalog
      → (state : State) → IsAt d s0 x0 state → IsSome (d.contents x1) → IsAt d s2 x1 state
  emptied_at x1 s2 stands none_left catalog state at told =
      let image = some_value (d.contents x1) told in
      record {
        held = at.held;
        stands = stands at.held at.held image.0 (dropped state at) image.1;
        none_waits = none_left;
        state_is = at.state_is;
        catalog = subst (λ (c : Contents). IsCatalog (at.held).catalog.bytes c) (sym catalog) at.catalog;
      }

  -- ... with all that it held
  pub emptied_holds : (x1 : D) (s2 : Store) → ((saved now : Held) (image : Image) → StandsFor d r1 x0 saved now → d.contents x1 ≡ Some image → StandsFor d s2.records x1 saved now) → HasNoChanges s2.records → s2.catalog ≡ s0.catalog → HoldsOn d s0 s2 x0 x1
  emptied_holds x1 s2 stands none_left catalog state at told = let image = some_value (d.contents x1) told in (stands at.held at.held image.0 (dropped state at) image.1, none_left, catalog)

  -- without a group in its log
  pub emptied_log : (x1 : D) → ((was now : Image) → IsInStepWith d r1 x0 was → d.contents x1 ≡ Some now → groups now.log ≡ [])
      → (state : State) (now : Image) → IsAt d s0 x0 state → IsSettled d x1 now → image_group_count now ≡ 0
  emptied_log x1 none_there state now at settled = let keeps = (dropped state at).keeps in none_counted now (none_there keeps.image now keeps.step settled.here)

-- a request that may change a store is no checkpoint
pub changes_other : (request : Request) → may_change_request request ≡ true → request ≢ Single Checkpoint
changes_other request may is = false≢true (ap may_change_request (sym is) ∙ may)

-- ... and doesn't look alone
pub changes_looks : (request : Request) → may_change_request request ≡ true → LooksAlone request → ⊥
changes_looks request may looks = false≢true (sym looks.0 ∙ may)

-- a transaction with commands may change a store
pub some_change : (commands : List Command) → commands ≢ [] → may_change_request (Transaction commands) ≡ true
some_change [] some = absurd (some refl)
some_change (command ∷ commands) some = refl

-- a command is a checkpoint or another
checkpoint_or : (command : Command) → (Single command ≡ Single Checkpoint) ⊎ (Single command ≢ Single Checkpoint)
checkpoint_or Checkpoint = inl refl
checkpoint_or command = inr (λ is. cc)

module _ {D : Type 0} (d : Ghosts D) where
  -- there is one image
  pub one_image : (x : D) (was now : Image) → IsSettled d x was → IsSettled d x now → now ≡ was
  one_image x was now one other = same_some (sym other.here ∙ one.here)

  -- the log of a store at a state is as long as its records say
  pub log_at : (s : Store) (x : D) (state : State) (was : Image) → IsAt d s x state → IsSettled d x was → log_length_of s.records ≡ log_end was
  log_at s x state was at settled =
      let keeps = (at.stands).keeps in
      ends_there s.records keeps.step ∙ ap log_end (sym (one_image x keeps.image was (keeps.step).settled settled))

  -- a long log became empty
  pub long_shortened : (s : Store) (x0 x1 : D) (state : State) (was now : Image) → longest_log < log_length_of s.records → IsAt d s x0 state → IsSettled d x0 was → IsSettled d x1 now
      → image_group_count now ≡ 0 → IsShortened was now
  long_shortened s x0 x1 state was now long at before after none = let ends = log_at s x0 state was at before in inl (omega (arith, long, ends), none)

  -- a short one stays
  pub short_shortened : (s : Store) (x : D) (state : State) (was now : Image) → log_length_of s.records ≤ longest_log → IsAt d s x state → IsSettled d x was → IsSettled d x now → IsShortened was now
  short_shortened s x state was now short at before after = let ends = log_at s x state was at before in inr (omega (arith, short, ends), one_image x was now before after)

  -- ---- the image stays

  -- where nothing was written
  pub still_keeps : (x0 x1 : D) → IsStill d x0 x1 → KeepsImage d x0 x1
  still_keeps x0 x1 still was before = settled_still still before

  -- ... or what was written is beside the areas
  pub areas_keep : (x0 x1 : D) → Keeps (d.contents x0) (d.contents x1) → IsSome (d.contents x1)
      → ((i : Image) → d.may_leave x1 i ↔ d.may_leave x0 i) → KeepsImage d x0 x1
  areas_keep x0 x1 kept told same was before = settled_kept kept told (λ i. (same i).0) before

  pub keeps_on : (x0 x1 x2 : D) → KeepsImage d x0 x1 → KeepsImage d x1 x2 → KeepsImage d x0 x2
  keeps_on x0 x1 x2 first second was before = second was (first was before)

  kept_none : (x0 x1 : D) → KeepsImage d x0 x1 → AddsNoGroup d x0 x1
  kept_none x0 x1 keeps was image before may = inl ((keeps was before).only image may)

  -- then a request that leaves the state leaves the log
  pub log_stays : (request : Request) (answer : Answer) (state : State) (before after : D) → request ≢ Single Checkpoint
      → (GoesThrough request answer → ⊥) → KeepsImage d before after → LeavesLog d request answer state state before after
  log_stays request answer state before after other through keeps = record {
    emptied = λ is. absurd (other is);
    grown = λ changed. absurd (changed refl);
    once = λ goes. absurd (through goes);
    none = λ nothing. kept_none before after keeps;
    stays = λ looks. keeps;
  }

  -- ... as a command that looks alone does
  pub log_of_look : (command : Command) (r : Reply) (state : State) (before after : D) → LooksAlone (Single command)
      → KeepsImage d before after → LeavesLog d (Single command) (One r) state state before after
  log_of_look command r state before after looks keeps =
      log_stays (Single command) (One r) state before after looks.1 (λ goes. false≢true (sym looks.0 ∙ goes.0)) keeps

  -- ... and one that was given up
  pub kept_spares : (request : Request) (before after : D) → KeepsImage d before after → SparesLog d request before after
  kept_spares request before after keeps = record {
    emptied = λ was image there may. inl ((keeps was there).only image may);
    none = λ other. kept_none before after keeps;
    stays = λ looks. keeps;
  }

  -- a command that was carried out may leave the state, and there was no memory for its text
  pub told_spares : (command : Command) (r : Reply) (state next : State) (before after : D) → may_change command ≡ false
      → LeavesLog d (Single command) (One r) state next before after → SparesLog d (Single command) before after
  told_spares command r state next before after quiet log = elim (checkpoint_or command) [
    | inl is ↦ record {
      emptied = λ was image there may. inr (log.emptied is image may);
      none = λ other. absurd (other is);
      stays = λ looks. absurd (looks.1 is);
    }
    | inr other ↦ kept_spares (Single command) before after (log.stays (quiet, other))
  ]

  -- a checkpoint empties it
  pub log_emptied : (s : Store) (r : Reply) (state : State) (before after : D) → is_refused r ≡ false → ((now : Image) → IsSettled d after now → image_group_count now ≡ 0)
      → IsAt d s after state → LeavesLog d (Single Checkpoint) (One r) state state before after
  log_emptied s r state before after taken none at =
      let keeps = (at.stands).keeps in
      let settled = (keeps.step).settled in record {
        emptied = λ is image may. subst (λ (i : Image). image_group_count i ≡ 0) (sym (settled.only image may)) (none keeps.image settled);
        grown = λ changed. absurd (changed refl);
        once = λ goes. absurd (false≢true goes.0);
        none = λ refused. absurd (false≢true (sym taken ∙ refused));
        stays = λ looks. absurd (looks.1 refl);
      }

  -- a commit over a short log adds a group
  pub adds_one : (state : State) (s0 : Store) (r1 r2 : Records) (x0 x1 x2 : D) (g : Group) → log_length_of s0.records ≤ longest_log → IsAt d s0 x0 state → IsStill d x0 x1
      → (mid : Image) → IsInStepWith d r1 x1 mid → ((was now : Image) → IsInStepWith d r1 x1 was → d.contents x2 ≡ Some now → HasGroup g was now)
      → ((was now : Image) → IsInStepWith d r1 x1 was → d.contents x2 ≡ Some now → IsInStepWith d r2 x2 now) → IsSome (d.contents x2) → AddsGroup d x0 x2
  adds_one state s0 r1 r2 x0 x1 x2 g short at still mid step more after told was image before may =
      let now = some_value (d.contents x2) told in
      let ends = log_at s0 x0 state was at before in
      let same : mid ≡ was = one_image x1 was mid (settled_still still before) step.settled in
      let counted : image_group_count now.0 ≡ image_group_count was + 1 = one_more g mid now.0 (more mid now.0 step now.1) ∙ ap (λ (i : Image). image_group_count i + 1) same in
      subst (λ (i : Image). image_group_count i ≡ (if nat_lt longest_log (log_end was) then 1 else image_group_count was + 1)) (sym (((after mid now.0 step now.1).settled).only image may))
      (counted ∙ ap (λ b. if b then 1 else image_group_count was + 1) (sym (le-ltb longest_log (log_end was) (omega (arith, short, ends)))))

  -- what is left of a log that was shortened first
  module _ (x0 x1 x2 : D) (mid : Image) (settled : IsSettled d x1 mid) (shortened : (was : Image) → IsSettled d x0 was → IsShortened was mid) where
    adds_later : AddsGroup d x1 x2 → AddsGroup d x0 x2
    adds_later adds was image before may = counted (shortened was before) (adds mid image settled may)
      where
        counted : IsShortened was mid → image_group_count image ≡ (if nat_lt longest_log (log_end mid) then 1 else image_group_count mid + 1)
            → image_group_count image ≡ (if nat_lt longest_log (log_end was) then 1 else image_group_count was + 1)
        counted (inl long) is =
            is ∙ ap (λ b. if b then 1 else image_group_count mid + 1) (le-ltb longest_log (log_end mid) (let none = ends_at_none mid long.1 in omega (arith, none)))
            ∙ ap (λ n. n + 1) long.1 ∙ ap (λ b. if b then 1 else image_group_count was + 1) (sym (lt-ltb longest_log (log_end was) long.0))
        counted (inr short) is = subst (λ (i : Image). image_group_count image ≡ (if nat_lt longest_log (log_end i) then 1 else image_group_count i + 1)) short.1 is

    none_later : AddsNoGroup d x1 x2 → AddsNoGroup d x0 x2
    none_later adds was image before may = both (shortened was before) (adds mid image settled may)
      where
        both : IsShortened was mid → (image ≡ mid) ⊎ ((longest_log < log_end mid) × (image_group_count image ≡ 0)) → (image ≡ was) ⊎ ((longest_log < log_end was) × (image_group_count image ≡ 0))
        both (inl long) (inl same) = inr (long.0, ap image_group_count same ∙ long.1)
        both (inl long) (inr again) = inr (long.0, again.1)
        both (inr short) after = subst (λ (i : Image). (image ≡ i) ⊎ ((longest_log < log_end i) × (image_group_count image ≡ 0))) short.1 after

    pub log_later : (request : Request) (answer : Answer) (state next : State) → may_change_request request ≡ true
        → LeavesLog d request answer state next x1 x2 → LeavesLog d request answer state next x0 x2
    log_later request answer state next may leaves = record {
      emptied = leaves.emptied;
      grown = λ changed. adds_later (leaves.grown changed);
      once = λ goes. adds_later (leaves.once goes);
      none = λ nothing. none_later (leaves.none nothing);
      stays = λ looks. absurd (changes_looks request may looks);
    }

    pub spares_later : (request : Request) → may_change_request request ≡ true → SparesLog d request x1 x2 → SparesLog d request x0 x2
    spares_later request may spares = record {
      emptied = λ was image before left. both was image (shortened was before) (spares.emptied mid image settled left);
      none = λ other. none_later (spares.none other);
      stays = λ looks. absurd (changes_looks request may looks);
    }
      where
        both : (was image : Image) → IsShortened was mid → (image ≡ mid) ⊎ (image_group_count image ≡ 0) → (image ≡ was) ⊎ (image_group_count image ≡ 0)
        both was image short (inr none) = inr none
        both was image (inl long) (inl same) = inr (ap image_group_count same ∙ long.1)
        both was image (inr short) (inl same) = inl (same ∙ short.1)
