use Rattle.std.proofs.Common.{◌≡◌, ◌++◌, List, ℕ, [], true, refl, sym, ap, ◌∙◌, subst}
use Rattle.std.specs.Prelude.{Option, Some, None, Result, Ok, Err, codes}
use Rattle.std.specs.List.{flat_map}
use Rattle.std.proofs.lemmas.Bool.{false≢true}
use Rattle.std.proofs.lemmas.Result.{err_from_is_err_and}
use Rattle.nx_wal.specs.Wal.{next_group}
use Rattle.nx_records.specs.Records.{next_number}
use Rattle.nx_host.proofs.DiskLemmas.{none_still}
use Rattle.nx_script.specs.Reply.{reply_text}
use Rattle.nx_store.specs.Changing.{PreparesAll, IsCarriedWithText}
use Rattle.nx_script.specs.declared.request.Request.TheVariants.{Transaction}
use Rattle.nx_script.specs.declared.request.Answer.TheVariants.{All}
use Rattle.nx_store.specs.declared.store.Store.{Store}
use Rattle.nx_store.specs.declared.transacting.Refusal.{Refusal}
use Rattle.nx_store.specs.declared.error.EngineError.{EngineError}
use Rattle.nx_store.specs.declared.error.EngineError.TheVariants.{Memory}
use Rattle.nx_store.proofs.AtLemmas.{now_at}
use Rattle.nx_store.proofs.ShowLemmas.{handed, still_areas, on_ok_any}
use Rattle.nx_store.proofs.StayingLemmas.{held_leaves, ended_leaves, unasked_leaves}
use Rattle.nx_store.proofs.ReadLemmas.{unasked_holds}
use Rattle.nx_store.proofs.CommitLemmas.{dropped_holds, dropped_on, all_give_up, given_up, not_applied, memory_holds, given_up_leaves, commit_begun, commit_done, commit_leaves, commit_refused}
use Rattle.nx_store.proofs.LogLemmas.{some_change}
use Rattle.nx_store.proofs.TransactLemmas.{all_ready, refused_done, refused_given_up}
use Rattle.nx_store.proofs.store.Store.transact_shortly.Goals as goal

-- ---- there was no memory for the copy of the catalog

pub returns-in_err-was-clause-transacts : goal.returns-in_err-was-clause-transacts
returns-in_err-was-clause-transacts g c state at told =
    let runs = c.requires.runs in
    handed c.from_residual.result (λ (r : Result (List ℕ) EngineError). IsCarriedWithText g.D.Disk r state (Transaction c.args.commands) c.args.self.now c.args.self.now c.args.disk.now c.args.disk.now) Memory
    (err_from_is_err_and c.from_residual.result c.from_residual.ensures.1) (
      given_up g.D.Disk c.args.self.now c.args.self.now c.args.disk.now c.args.disk.now none_still (Transaction c.args.commands) Memory ((runs, runs), unasked_holds g.D.Disk c.args.self.now c.args.disk.now) state at told,
      λ is. unasked_holds g.D.Disk c.args.self.now c.args.disk.now,
    )

pub returns-in_err-was-clause-leaves : goal.returns-in_err-was-clause-leaves
returns-in_err-was-clause-leaves g c = unasked_leaves g.D.Disk (Transaction c.args.commands) c.args.self.now c.args.disk.now

-- ---- one is refused

pub returns-in-Ok-Some-clause-transacts : goal.returns-in-Ok-Some-clause-transacts
returns-in-Ok-Some-clause-transacts g c state at told =
    let s0 = c.args.self.now in
    let s1 = c.prepare_all.new.self in
    let s2 = c.put_back.new.self in
    let x0 = c.args.disk.now in
    let x1 = c.prepare_all.new.disk in
    let why = subst (λ (o : Option Refusal). PreparesAll g.D.Disk c.args.commands o c.new-text.result c.prepare_all.new.text s0 s1 x0 x1) c.in-Ok-Some.field-0-is c.in-Ok-Some.ensures.ok in
    let holds = dropped_holds g.D.Disk s0 s1 s2 x0 x1 why.0 c.put_back.ensures.drops (c.put_back.ensures.catalog ∙ c.in_ok-was.ensures) in
    refused_done g.D.Disk s0 s2 x0 x1 c.prepare_all.ensures.still c.args.commands c.in-Ok-Some.refusal.number c.in-Ok-Some.refusal.error holds c.told_at.result c.told_at.ensures.ok c.told_at.ensures.err state at told (why.1 at.held state (now_at at))

pub returns-in-Ok-Some-clause-ok : goal.returns-in-Ok-Some-clause-ok
returns-in-Ok-Some-clause-ok g c =
    let why = subst (λ (o : Option Refusal). PreparesAll g.D.Disk c.args.commands o c.new-text.result c.prepare_all.new.text c.args.self.now c.prepare_all.new.self c.args.disk.now c.prepare_all.new.disk) c.in-Ok-Some.field-0-is c.in-Ok-Some.ensures.ok in
    on_ok_any c.told_at.result (dropped_on g.D.Disk c.args.self.now c.prepare_all.new.self c.put_back.new.self c.args.disk.now c.prepare_all.new.disk c.put_back.ensures.drops (why.0).runs)

pub returns-in-Ok-Some-clause-refused : goal.returns-in-Ok-Some-clause-refused
returns-in-Ok-Some-clause-refused g c =
    let s0 = c.args.self.now in
    let s1 = c.prepare_all.new.self in
    let s2 = c.put_back.new.self in
    let x0 = c.args.disk.now in
    let x1 = c.prepare_all.new.disk in
    let why = subst (λ (o : Option Refusal). PreparesAll g.D.Disk c.args.commands o c.new-text.result c.prepare_all.new.text s0 s1 x0 x1) c.in-Ok-Some.field-0-is c.in-Ok-Some.ensures.ok in
    let holds = dropped_holds g.D.Disk s0 s1 s2 x0 x1 why.0 c.put_back.ensures.drops (c.put_back.ensures.catalog ∙ c.in_ok-was.ensures) in
    refused_given_up g.D.Disk s0 s2 x0 x1 c.prepare_all.ensures.still c.args.commands c.in-Ok-Some.refusal.number c.in-Ok-Some.refusal.error holds c.told_at.result (dropped_on g.D.Disk s0 s1 s2 x0 x1 c.put_back.ensures.drops (why.0).runs) c.told_at.ensures.err

pub returns-in-Ok-Some-clause-leaves : goal.returns-in-Ok-Some-clause-leaves
returns-in-Ok-Some-clause-leaves g c =
    let s0 = c.args.self.now in
    let s1 = c.prepare_all.new.self in
    let s2 = c.put_back.new.self in
    let x0 = c.args.disk.now in
    let x1 = c.prepare_all.new.disk in
    let why = subst (λ (o : Option Refusal). PreparesAll g.D.Disk c.args.commands o c.new-text.result c.prepare_all.new.text s0 s1 x0 x1) c.in-Ok-Some.field-0-is c.in-Ok-Some.ensures.ok in
    held_leaves g.D.Disk (Transaction c.args.commands) s0 s2 x0 x1 (λ runs. dropped_holds g.D.Disk s0 s1 s2 x0 x1 why.0 c.put_back.ensures.drops (c.put_back.ensures.catalog ∙ c.in_ok-was.ensures))

pub returns-in-Ok-Some-clause-areas : goal.returns-in-Ok-Some-clause-areas
returns-in-Ok-Some-clause-areas g c = still_areas g.D.Disk c.prepare_all.ensures.still

-- ---- it was given up

pub returns-in-Err-clause-transacts : goal.returns-in-Err-clause-transacts
returns-in-Err-clause-transacts g c state at told =
    let drop = c.put_back-in-Err in
    let gives = all_give_up g.D.Disk c.args.self.now c.prepare_all.new.self drop.new.self c.args.disk.now c.prepare_all.new.disk drop.ensures.drops (drop.ensures.catalog ∙ c.in_ok-was.ensures) c.in-Err.error c.in-Err.ensures.refused in (
      given_up g.D.Disk c.args.self.now drop.new.self c.args.disk.now c.prepare_all.new.disk c.prepare_all.ensures.still (Transaction c.args.commands) c.in-Err.error gives state at told,
      memory_holds g.D.Disk c.args.self.now drop.new.self c.args.disk.now c.prepare_all.new.disk c.prepare_all.ensures.still c.in-Err.error gives,
    )

pub returns-in-Err-clause-refused : goal.returns-in-Err-clause-refused
returns-in-Err-clause-refused g c =
    let drop = c.put_back-in-Err in
    let gives = all_give_up g.D.Disk c.args.self.now c.prepare_all.new.self drop.new.self c.args.disk.now c.prepare_all.new.disk drop.ensures.drops (drop.ensures.catalog ∙ c.in_ok-was.ensures) c.in-Err.error c.in-Err.ensures.refused in
    not_applied g.D.Disk c.args.self.now drop.new.self c.args.disk.now c.prepare_all.new.disk c.prepare_all.ensures.still c.in-Err.error gives

pub returns-in-Err-clause-leaves : goal.returns-in-Err-clause-leaves
returns-in-Err-clause-leaves g c =
    let drop = c.put_back-in-Err in
    let gives = all_give_up g.D.Disk c.args.self.now c.prepare_all.new.self drop.new.self c.args.disk.now c.prepare_all.new.disk drop.ensures.drops (drop.ensures.catalog ∙ c.in_ok-was.ensures) c.in-Err.error c.in-Err.ensures.refused in
    given_up_leaves g.D.Disk c.args.self.now drop.new.self c.args.disk.now c.prepare_all.new.disk c.prepare_all.ensures.still (Transaction c.args.commands) c.in-Err.error gives

pub returns-in-Err-clause-areas : goal.returns-in-Err-clause-areas
returns-in-Err-clause-areas g c = still_areas g.D.Disk c.prepare_all.ensures.still

-- ---- the commit failed

pub returns-in_default-clause-transacts : goal.returns-in_default-clause-transacts
returns-in_default-clause-transacts g c state at told =
    let made = subst (λ (o : Option Refusal). PreparesAll g.D.Disk c.args.commands o c.new-text.result c.prepare_all.new.text c.args.self.now c.prepare_all.new.self c.args.disk.now c.prepare_all.new.disk) c.in-Ok-None.field-0-is c.in-Ok-None.ensures.ok in
    let ready = all_ready g.D.Disk c.args.self.now c.prepare_all.new.self c.args.disk.now c.prepare_all.new.disk c.new-text.result c.prepare_all.new.text c.args.commands made in
    (commit_begun g.D.Disk (Transaction c.args.commands) (All made.replies) c.args.self.now c.prepare_all.new.self c.args.disk.now c.prepare_all.new.disk c.commit.new.disk c.prepare_all.ensures.still ready c.commit.ensures.goes state at told, λ is. cc)

pub returns-in_default-clause-leaves : goal.returns-in_default-clause-leaves
returns-in_default-clause-leaves g c =
    let made = subst (λ (o : Option Refusal). PreparesAll g.D.Disk c.args.commands o c.new-text.result c.prepare_all.new.text c.args.self.now c.prepare_all.new.self c.args.disk.now c.prepare_all.new.disk) c.in-Ok-None.field-0-is c.in-Ok-None.ensures.ok in
    let after : Store = record { alloc = c.prepare_all.new.self.alloc; records = c.commit.new.self; catalog = c.prepare_all.new.self.catalog } in
    let failed = commit_refused g.D.Disk c.args.self.now c.prepare_all.new.self after c.args.disk.now c.prepare_all.new.disk c.commit.new.disk c.in_default.field-0 c.prepare_all.ensures.still made.runs c.in_default.ensures.refused in
    ended_leaves g.D.Disk (Transaction c.args.commands) c.args.self.now after c.args.disk.now c.commit.new.disk (failed.1).1

-- ---- it is committed

pub returns-clause-transacts : goal.returns-clause-transacts
returns-clause-transacts g c state at told =
    let made = subst (λ (o : Option Refusal). PreparesAll g.D.Disk c.args.commands o c.new-text.result c.prepare_all.new.text c.args.self.now c.prepare_all.new.self c.args.disk.now c.prepare_all.new.disk) c.in-Ok-None.field-0-is c.in-Ok-None.ensures.ok in
    let ready = all_ready g.D.Disk c.args.self.now c.prepare_all.new.self c.args.disk.now c.prepare_all.new.disk c.new-text.result c.prepare_all.new.text c.args.commands made in
    let after : Store = record { alloc = c.prepare_all.new.self.alloc; records = c.commit.new.self; catalog = c.prepare_all.new.self.catalog } in (
      All made.replies,
      made.told ∙ ap (λ (l : List ℕ). l ++ (flat_map reply_text made.replies ++ codes ".\n")) c.new-text.ensures,
      commit_done g.D.Disk (Transaction c.args.commands) (All made.replies) c.args.self.now c.prepare_all.new.self c.args.disk.now c.prepare_all.new.disk c.commit.new.disk c.prepare_all.ensures.still ready c.commit.ensures.goes state at told
          after (next_group (next_number c.prepare_all.new.self.records) c.prepare_all.new.self.records.wal) c.requires.short (some_change c.args.commands c.requires.some) c.requires.some
          c.in-Ok.ensures.group c.in-Ok.ensures.step c.in-Ok.ensures.ok c.in-Ok.ensures.none_left.2 refl,
      λ refused. absurd (false≢true refused),
    )

pub returns-clause-leaves : goal.returns-clause-leaves
returns-clause-leaves g c =
    let made = subst (λ (o : Option Refusal). PreparesAll g.D.Disk c.args.commands o c.new-text.result c.prepare_all.new.text c.args.self.now c.prepare_all.new.self c.args.disk.now c.prepare_all.new.disk) c.in-Ok-None.field-0-is c.in-Ok-None.ensures.ok in
    let ready = all_ready g.D.Disk c.args.self.now c.prepare_all.new.self c.args.disk.now c.prepare_all.new.disk c.new-text.result c.prepare_all.new.text c.args.commands made in
    let after : Store = record { alloc = c.prepare_all.new.self.alloc; records = c.commit.new.self; catalog = c.prepare_all.new.self.catalog } in
    commit_leaves g.D.Disk (Transaction c.args.commands) (All made.replies) c.args.self.now c.prepare_all.new.self c.args.disk.now c.prepare_all.new.disk c.commit.new.disk c.prepare_all.ensures.still ready c.commit.ensures.goes
    after c.in-Ok.ensures.ok c.in-Ok.ensures.none_left.2 refl

pub returns-clause-ok : goal.returns-clause-ok
returns-clause-ok g c =
    let made = subst (λ (o : Option Refusal). PreparesAll g.D.Disk c.args.commands o c.new-text.result c.prepare_all.new.text c.args.self.now c.prepare_all.new.self c.args.disk.now c.prepare_all.new.disk) c.in-Ok-None.field-0-is c.in-Ok-None.ensures.ok in
    ((made.runs).before, c.in-Ok.ensures.none_left.1)
