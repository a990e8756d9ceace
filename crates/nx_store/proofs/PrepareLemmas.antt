-- What one command prepares, or is refused for.
use Rattle.std.proofs.Common.{◌≡◌, ℕ, ◌++◌, List, Option, None, Some, false, inr, refl, sym, subst}
use Rattle.std.specs.Prelude.{◌≢◌, Contains, if◌then◌else◌, Result, Ok, Err, IfOk, IfErr}
use Rattle.std.specs.FinMap.{get}
use Rattle.nx_host.specs.declared.disk.Disk.{Ghosts}
use Rattle.nx_holdings.specs.Holdings.{Held}
use Rattle.nx_records.specs.Records.{has_ended}
use Rattle.nx_records.specs.declared.error.StoreError.{StoreError}
use Rattle.nx_records.specs.declared.error.StoreError.TheVariants as below
use Rattle.nx_layouts.specs.Layout.{RecordPlace}
use Rattle.nx_catalog.specs.declared.saving.RuleError.{RuleError}
use Rattle.nx_catalog.specs.declared.saving.RuleError.TheVariants as rule
use Rattle.nx_pyx.specs.DocumentName.{is_document_name}
use Rattle.nx_script.specs.declared.command.Command.{Command}
use Rattle.nx_script.specs.declared.command.Command.TheVariants as command
use Rattle.nx_script.specs.declared.reply.Reply.{Reply}
use Rattle.nx_script.specs.declared.reply.Reply.TheVariants as reply
use Rattle.nx_script.specs.declared.reply.ReplyError.{ReplyError}
use Rattle.nx_script.specs.declared.reply.ReplyError.TheVariants as refused
use Rattle.nx_state.specs.State.{State}
use Rattle.nx_state.specs.Stands.{StoredDocument, record_places}
use Rattle.nx_edit.specs.declared.error.EditError.{EditError}
use Rattle.nx_edit.specs.declared.error.EditError.TheVariants as edit
use Rattle.nx_store.specs.Store.{is_ended, IsNow}
use Rattle.nx_store.specs.Staying.{IsLeftBy, RecordsStay, OthersStay, IsBeside}
use Rattle.nx_store.specs.Changing.{PreparesNow, MakesStep, IsPrepared, IsStoreLeft, StepsRefused, PreparesNext, NotPrepared, RuleNotPrepared, RenameNotPrepared, IsStoreCause, IsRuleCause}
use Rattle.nx_store.specs.Editing.{edit_command, edit_reply, EditNotPrepared, IsEditCause}
use Rattle.nx_store.specs.declared.editing.Edit.{Edit}
use Rattle.nx_store.specs.declared.editing.Edit.TheVariants as made
use Rattle.nx_store.specs.declared.store.Store.{Store}
use Rattle.nx_store.specs.declared.error.EngineError.{EngineError}
use Rattle.nx_store.specs.declared.error.EngineError.TheVariants as error
use Rattle.nx_store.proofs.EditLemmas.{now_none}
use Rattle.nx_store.proofs.GoneLemmas.{absent_gone}

-- ---- what stays

-- each command leaves the records of documents that it doesn't name
pub left_beside : (k : Command) (s : StoredDocument) (place : RecordPlace) → IsBeside k s.name → Contains (record_places s) place → IsLeftBy k s place
left_beside (command.Delete name path) s place beside among = inr (beside, among)
left_beside (command.Retext name path text) s place beside among = inr (beside, among)
left_beside (command.Insert name path line) s place beside among = inr (beside, among)
left_beside (command.Discard name) s place beside among = (beside, among)
left_beside _ s place beside among = among

beside_name : (name path : List ℕ) (e : Edit) (other : List ℕ) → IsBeside (edit_command name path e) other → other ≢ name
beside_name name path made.Delete other beside = beside
beside_name name path (made.Retext content) other beside = beside
beside_name name path (made.Insert node) other beside = beside

module _ {D : Type 0} {d : Ghosts D} {s0 s1 : Store} {x0 x1 : D} {saved : Held} {state : State} {r : Reply} (at : IsNow d s0 x0 saved state) where
  -- a step that was prepared, with what stays
  pub makes_step : (k : Command) (p : PreparesNow d saved state k r s1 x1) → RecordsStay (IsLeftBy k) (at.state_is).stored at.held (p.now).held
      → ((s : StoredDocument) → Contains (at.state_is).stored s → IsBeside k s.name → Contains ((p.now).state_is).stored s) → MakesStep k r at s1 x1
  makes_step k p stay there = record {
    next = p.next;
    step = p.step;
    now = p.now;
    stay = stay;
    beside = λ s among beside. (there s among beside, λ place of. stay s place among (left_beside k s place beside of));
  }

  pub makes_edit : (name path : List ℕ) (e : Edit) (p : PreparesNow d saved state (edit_command name path e) r s1 x1) → RecordsStay (IsLeftBy (edit_command name path e)) (at.state_is).stored at.held (p.now).held
      → OthersStay name (at.state_is).stored ((p.now).state_is).stored → MakesStep (edit_command name path e) r at s1 x1
  makes_edit name path e p stay others = makes_step (edit_command name path e) p stay (λ s among beside. others s among (beside_name name path e s.name beside))

-- ---- refusals

module _ {D : Type 0} (d : Ghosts D) (k : Command) (text longer : List ℕ) (s0 s1 : Store) (x0 x1 : D) where
  pub refused_next : (e : ReplyError) (r : Result (Result Reply ReplyError) EngineError) → r ≡ Ok (Err e) → IsStoreLeft d s0 s1 x0 x1 × StepsRefused d k e s0 x0 → IfOk r (λ made. PreparesNext d k made text longer s0 s1 x0 x1)
  refused_next e r is why = subst (λ x. IfOk x (λ made. PreparesNext d k made text longer s0 s1 x0 x1)) (sym is) why

  pub untold_next : (e : EngineError) (r : Result (Result Reply ReplyError) EngineError) → r ≡ Err e → IfOk r (λ made. PreparesNext d k made text longer s0 s1 x0 x1)
  untold_next e r is = subst (λ x. IfOk x (λ made. PreparesNext d k made text longer s0 s1 x0 x1)) (sym is) tt

  pub edit_refused : (path : List ℕ) (e : EditError) (r : Result (Result Reply ReplyError) EngineError) → IsEditCause path e r → EditNotPrepared d k path e s0 s1 x0 x1 → IfOk r (λ made. PreparesNext d k made text longer s0 s1 x0 x1)
  edit_refused path edit.Memory r is why = untold_next error.Memory r is
  edit_refused path edit.Disk r is why = untold_next error.Disk r is
  edit_refused path (edit.Damaged page) r is why = untold_next (error.Damaged page) r is
  edit_refused path edit.Ended r is why = absurd why
  edit_refused path edit.NoNode r is why = refused_next (edit_reply path edit.NoNode) r is why
  edit_refused path edit.BadPlace r is why = refused_next (edit_reply path edit.BadPlace) r is why
  edit_refused path edit.Twice r is why = refused_next (edit_reply path edit.Twice) r is why
  edit_refused path edit.NoContent r is why = refused_next (edit_reply path edit.NoContent) r is why
  edit_refused path edit.TooLong r is why = refused_next (edit_reply path edit.TooLong) r is why
  edit_refused path edit.TooDeep r is why = refused_next (edit_reply path edit.TooDeep) r is why
  edit_refused path edit.TooMany r is why = refused_next (edit_reply path edit.TooMany) r is why
  edit_refused path (edit.TooHeavy weight) r is why = refused_next (edit_reply path (edit.TooHeavy weight)) r is why
  edit_refused path edit.Full r is why = refused_next (edit_reply path edit.Full) r is why

  pub rule_refused : (e : RuleError) (r : Result (Result Reply ReplyError) EngineError) → IsRuleCause e r → RuleNotPrepared d k e s0 s1 x0 x1 → IfOk r (λ made. PreparesNext d k made text longer s0 s1 x0 x1)
  rule_refused rule.TooManyRules r is why = refused_next refused.TooManyRules r is why
  rule_refused (rule.Store below.Full) r is why = refused_next refused.Full r is why
  rule_refused (rule.Store below.Memory) r is why = untold_next error.Memory r is
  rule_refused (rule.Store below.Disk) r is why = untold_next error.Disk r is
  rule_refused (rule.Store (below.Damaged page)) r is why = untold_next (error.Damaged page) r is
  rule_refused (rule.Store below.Ended) r is why = absurd why
  rule_refused (rule.Store below.Exists) r is why = absurd why
  rule_refused (rule.Store below.NotAStore) r is why = absurd why

  pub rename_refused : (e : StoreError) (r : Result (Result Reply ReplyError) EngineError) → IsStoreCause e r → RenameNotPrepared d k e s0 s1 x0 x1 → IfOk r (λ made. PreparesNext d k made text longer s0 s1 x0 x1)
  rename_refused below.Full r is why = refused_next refused.Full r is why
  rename_refused below.Memory r is why = untold_next error.Memory r is
  rename_refused below.Disk r is why = untold_next error.Disk r is
  rename_refused (below.Damaged page) r is why = untold_next (error.Damaged page) r is
  rename_refused below.Ended r is why = absurd why
  rename_refused below.Exists r is why = absurd why
  rename_refused below.NotAStore r is why = absurd why

module _ {D : Type 0} (d : Ghosts D) (s0 s1 : Store) (x0 x1 : D) where
  pub told_err : (e : EngineError) (r : Result (Result Reply ReplyError) EngineError) → r ≡ Err e → NotPrepared d e s0 s1 x0 x1 → IfErr r (λ x. NotPrepared d x s0 s1 x0 x1)
  told_err e r is why = subst (λ y. IfErr y (λ x. NotPrepared d x s0 s1 x0 x1)) (sym is) why

  pub no_err : (e : ReplyError) (r : Result (Result Reply ReplyError) EngineError) → r ≡ Ok (Err e) → IfErr r (λ x. NotPrepared d x s0 s1 x0 x1)
  no_err e r is = subst (λ y. IfErr y (λ x. NotPrepared d x s0 s1 x0 x1)) (sym is) tt

  module _ (k : Command) where
    pub edit_unprepared : (path : List ℕ) (e : EditError) (r : Result (Result Reply ReplyError) EngineError) → IsEditCause path e r → EditNotPrepared d k path e s0 s1 x0 x1 → IfErr r (λ x. NotPrepared d x s0 s1 x0 x1)
    edit_unprepared path edit.Memory r is why = told_err error.Memory r is why
    edit_unprepared path edit.Disk r is why = told_err error.Disk r is why
    edit_unprepared path (edit.Damaged page) r is why = told_err (error.Damaged page) r is why
    edit_unprepared path edit.Ended r is why = absurd why
    edit_unprepared path edit.NoNode r is why = no_err (edit_reply path edit.NoNode) r is
    edit_unprepared path edit.BadPlace r is why = no_err (edit_reply path edit.BadPlace) r is
    edit_unprepared path edit.Twice r is why = no_err (edit_reply path edit.Twice) r is
    edit_unprepared path edit.NoContent r is why = no_err (edit_reply path edit.NoContent) r is
    edit_unprepared path edit.TooLong r is why = no_err (edit_reply path edit.TooLong) r is
    edit_unprepared path edit.TooDeep r is why = no_err (edit_reply path edit.TooDeep) r is
    edit_unprepared path edit.TooMany r is why = no_err (edit_reply path edit.TooMany) r is
    edit_unprepared path (edit.TooHeavy weight) r is why = no_err (edit_reply path (edit.TooHeavy weight)) r is
    edit_unprepared path edit.Full r is why = no_err (edit_reply path edit.Full) r is

    pub rule_untold : (e : RuleError) (r : Result (Result Reply ReplyError) EngineError) → IsRuleCause e r → RuleNotPrepared d k e s0 s1 x0 x1 → IfErr r (λ x. NotPrepared d x s0 s1 x0 x1)
    rule_untold rule.TooManyRules r is why = no_err refused.TooManyRules r is
    rule_untold (rule.Store below.Full) r is why = no_err refused.Full r is
    rule_untold (rule.Store below.Memory) r is why = told_err error.Memory r is why
    rule_untold (rule.Store below.Disk) r is why = told_err error.Disk r is why
    rule_untold (rule.Store (below.Damaged page)) r is why = told_err (error.Damaged page) r is why
    rule_untold (rule.Store below.Ended) r is why = absurd why
    rule_untold (rule.Store below.Exists) r is why = absurd why
    rule_untold (rule.Store below.NotAStore) r is why = absurd why

    pub rename_untold : (e : StoreError) (r : Result (Result Reply ReplyError) EngineError) → IsStoreCause e r → RenameNotPrepared d k e s0 s1 x0 x1 → IfErr r (λ x. NotPrepared d x s0 s1 x0 x1)
    rename_untold below.Full r is why = no_err refused.Full r is
    rename_untold below.Memory r is why = told_err error.Memory r is why
    rename_untold below.Disk r is why = told_err error.Disk r is why
    rename_untold (below.Damaged page) r is why = told_err (error.Damaged page) r is why
    rename_untold below.Ended r is why = absurd why
    rename_untold below.Exists r is why = absurd why
    rename_untold below.NotAStore r is why = absurd why

-- ---- where nothing was done

module _ {D : Type 0} (d : Ghosts D) (s : Store) (x : D) (running : is_ended s ≡ false) where
  pub store_left : IsStoreLeft d s s x x
  store_left = record { runs = record { before = running; after = running; length_stays = refl; settings_stay = refl }; saved = λ saved has. has; catalog = refl }

  -- no document has the name that is to go
  pub gone_absent : (name : List ℕ) → get (s.catalog).documents name ≡ None → IsStoreLeft d s s x x × StepsRefused d (command.Discard name) refused.NoDocument s x
  gone_absent name none = (store_left, λ saved state at. absent_gone state name (now_none name at none))
