use Rattle.std.proofs.Common.{◌≡◌, ◌++◌, List, [], ℕ, true, false, refl, sym, ap, ◌∙◌, subst}
use Rattle.std.specs.Prelude.{Result, Ok}
use Rattle.std.proofs.lemmas.Bool.{false≢true}
use Rattle.nx_wal.specs.Wal.{next_group}
use Rattle.nx_records.specs.Records.{next_number}
use Rattle.nx_script.specs.Reply.{reply_text}
use Rattle.nx_script.specs.declared.reply.Reply.{Reply}
use Rattle.nx_script.specs.declared.reply.ReplyError.{ReplyError}
use Rattle.nx_store.specs.Changing.{PreparesNext}
use Rattle.nx_script.specs.declared.request.Request.TheVariants.{Single}
use Rattle.nx_script.specs.declared.request.Answer.TheVariants.{One}
use Rattle.nx_store.specs.declared.store.Store.{Store}
use Rattle.nx_store.proofs.AtLemmas.{now_at}
use Rattle.nx_store.proofs.LogLemmas.{changes_other}
use Rattle.nx_store.proofs.ShowLemmas.{still_areas}
use Rattle.nx_store.proofs.StayingLemmas.{held_leaves, ended_leaves}
use Rattle.nx_store.proofs.CommitLemmas.{dropped_holds, dropped_on, left_saved, command_gives_up, given_up, not_applied, given_up_kept, given_up_leaves, refused_applied, refused_told, refused_untold, refused_kept, commit_begun, commit_done, commit_leaves, commit_refused}
use Rattle.nx_store.proofs.TransactLemmas.{command_ready}
use Rattle.nx_store.proofs.store.Store.change_shortly.Goals as goal

-- ---- it is refused

pub returns-in-Ok-Err-clause-applies : goal.returns-in-Ok-Err-clause-applies
returns-in-Ok-Err-clause-applies g c state at told =
    let s0 = c.args.self.now in
    let s1 = c.prepare_change.new.self in
    let s2 = c.drop_changes.new.self in
    let x0 = c.args.disk.now in
    let x1 = c.prepare_change.new.disk in
    let why = subst (λ (made : Result Reply ReplyError). PreparesNext g.D.Disk c.args.command made c.new-text.result c.prepare_change.new.text s0 s1 x0 x1) c.in-Ok-Err.field-0-is c.in-Ok-Err.ensures.ok in
    let holds = dropped_holds g.D.Disk s0 s1 s2 x0 x1 (left_saved g.D.Disk s0 s1 x0 x1 why.0) c.drop_changes.ensures.drops (c.drop_changes.ensures.catalog ∙ (why.0).catalog) in
    refused_applied g.D.Disk s0 s2 x0 x1 c.prepare_change.ensures.still c.args.command (changes_other (Single c.args.command) c.requires.may) holds (dropped_on g.D.Disk s0 s1 s2 x0 x1 c.drop_changes.ensures.drops (why.0).runs) c.in-Ok-Err.error
    c.told.result c.told.ensures state at told (why.1 at.held state (now_at at))

pub returns-in-Ok-Err-clause-ok : goal.returns-in-Ok-Err-clause-ok
returns-in-Ok-Err-clause-ok g c =
    let s0 = c.args.self.now in
    let s1 = c.prepare_change.new.self in
    let s2 = c.drop_changes.new.self in
    let x0 = c.args.disk.now in
    let x1 = c.prepare_change.new.disk in
    let why = subst (λ (made : Result Reply ReplyError). PreparesNext g.D.Disk c.args.command made c.new-text.result c.prepare_change.new.text s0 s1 x0 x1) c.in-Ok-Err.field-0-is c.in-Ok-Err.ensures.ok in
    let holds = dropped_holds g.D.Disk s0 s1 s2 x0 x1 (left_saved g.D.Disk s0 s1 x0 x1 why.0) c.drop_changes.ensures.drops (c.drop_changes.ensures.catalog ∙ (why.0).catalog) in
    refused_told g.D.Disk s0 s2 x0 x1 c.prepare_change.ensures.still c.args.command (changes_other (Single c.args.command) c.requires.may) holds (dropped_on g.D.Disk s0 s1 s2 x0 x1 c.drop_changes.ensures.drops (why.0).runs) c.in-Ok-Err.error
    c.told.result c.told.ensures

pub returns-in-Ok-Err-clause-refused : goal.returns-in-Ok-Err-clause-refused
returns-in-Ok-Err-clause-refused g c =
    let s0 = c.args.self.now in
    let s1 = c.prepare_change.new.self in
    let s2 = c.drop_changes.new.self in
    let x0 = c.args.disk.now in
    let x1 = c.prepare_change.new.disk in
    let why = subst (λ (made : Result Reply ReplyError). PreparesNext g.D.Disk c.args.command made c.new-text.result c.prepare_change.new.text s0 s1 x0 x1) c.in-Ok-Err.field-0-is c.in-Ok-Err.ensures.ok in
    let holds = dropped_holds g.D.Disk s0 s1 s2 x0 x1 (left_saved g.D.Disk s0 s1 x0 x1 why.0) c.drop_changes.ensures.drops (c.drop_changes.ensures.catalog ∙ (why.0).catalog) in
    refused_untold g.D.Disk s0 s2 x0 x1 c.prepare_change.ensures.still c.args.command (changes_other (Single c.args.command) c.requires.may) holds (dropped_on g.D.Disk s0 s1 s2 x0 x1 c.drop_changes.ensures.drops (why.0).runs) c.in-Ok-Err.error
    c.told.result c.told.ensures

pub returns-in-Ok-Err-clause-kept : goal.returns-in-Ok-Err-clause-kept
returns-in-Ok-Err-clause-kept g c =
    let s0 = c.args.self.now in
    let s1 = c.prepare_change.new.self in
    let s2 = c.drop_changes.new.self in
    let x0 = c.args.disk.now in
    let x1 = c.prepare_change.new.disk in
    let why = subst (λ (made : Result Reply ReplyError). PreparesNext g.D.Disk c.args.command made c.new-text.result c.prepare_change.new.text s0 s1 x0 x1) c.in-Ok-Err.field-0-is c.in-Ok-Err.ensures.ok in
    let holds = dropped_holds g.D.Disk s0 s1 s2 x0 x1 (left_saved g.D.Disk s0 s1 x0 x1 why.0) c.drop_changes.ensures.drops (c.drop_changes.ensures.catalog ∙ (why.0).catalog) in
    refused_kept g.D.Disk s0 s2 x0 x1 c.prepare_change.ensures.still c.args.command (changes_other (Single c.args.command) c.requires.may) holds (dropped_on g.D.Disk s0 s1 s2 x0 x1 c.drop_changes.ensures.drops (why.0).runs) c.in-Ok-Err.error
    c.told.result c.told.ensures

pub returns-in-Ok-Err-clause-leaves : goal.returns-in-Ok-Err-clause-leaves
returns-in-Ok-Err-clause-leaves g c =
    let s0 = c.args.self.now in
    let s1 = c.prepare_change.new.self in
    let s2 = c.drop_changes.new.self in
    let x0 = c.args.disk.now in
    let x1 = c.prepare_change.new.disk in
    let why = subst (λ (made : Result Reply ReplyError). PreparesNext g.D.Disk c.args.command made c.new-text.result c.prepare_change.new.text s0 s1 x0 x1) c.in-Ok-Err.field-0-is c.in-Ok-Err.ensures.ok in
    held_leaves g.D.Disk (Single c.args.command) s0 s2 x0 x1 (λ runs. dropped_holds g.D.Disk s0 s1 s2 x0 x1 (left_saved g.D.Disk s0 s1 x0 x1 why.0) c.drop_changes.ensures.drops (c.drop_changes.ensures.catalog ∙ (why.0).catalog))

pub returns-in-Ok-Err-clause-areas : goal.returns-in-Ok-Err-clause-areas
returns-in-Ok-Err-clause-areas g c = still_areas g.D.Disk c.prepare_change.ensures.still

-- ---- it was given up

pub returns-in-Err-clause-applies : goal.returns-in-Err-clause-applies
returns-in-Err-clause-applies g c state at told =
    let drop = c.drop_changes-in-Err in
    let gives = command_gives_up g.D.Disk c.args.self.now c.prepare_change.new.self drop.new.self c.args.disk.now c.prepare_change.new.disk drop.ensures.drops drop.ensures.catalog c.in-Err.error c.in-Err.ensures.refused in
    given_up g.D.Disk c.args.self.now drop.new.self c.args.disk.now c.prepare_change.new.disk c.prepare_change.ensures.still (Single c.args.command) c.in-Err.error gives state at told

pub returns-in-Err-clause-refused : goal.returns-in-Err-clause-refused
returns-in-Err-clause-refused g c =
    let drop = c.drop_changes-in-Err in
    let gives = command_gives_up g.D.Disk c.args.self.now c.prepare_change.new.self drop.new.self c.args.disk.now c.prepare_change.new.disk drop.ensures.drops drop.ensures.catalog c.in-Err.error c.in-Err.ensures.refused in
    not_applied g.D.Disk c.args.self.now drop.new.self c.args.disk.now c.prepare_change.new.disk c.prepare_change.ensures.still c.in-Err.error gives

pub returns-in-Err-clause-kept : goal.returns-in-Err-clause-kept
returns-in-Err-clause-kept g c =
    let drop = c.drop_changes-in-Err in
    let gives = command_gives_up g.D.Disk c.args.self.now c.prepare_change.new.self drop.new.self c.args.disk.now c.prepare_change.new.disk drop.ensures.drops drop.ensures.catalog c.in-Err.error c.in-Err.ensures.refused in
    given_up_kept g.D.Disk c.args.self.now drop.new.self c.args.disk.now c.prepare_change.new.disk c.prepare_change.ensures.still c.in-Err.error gives

pub returns-in-Err-clause-leaves : goal.returns-in-Err-clause-leaves
returns-in-Err-clause-leaves g c =
    let drop = c.drop_changes-in-Err in
    let gives = command_gives_up g.D.Disk c.args.self.now c.prepare_change.new.self drop.new.self c.args.disk.now c.prepare_change.new.disk drop.ensures.drops drop.ensures.catalog c.in-Err.error c.in-Err.ensures.refused in
    given_up_leaves g.D.Disk c.args.self.now drop.new.self c.args.disk.now c.prepare_change.new.disk c.prepare_change.ensures.still (Single c.args.command) c.in-Err.error gives

pub returns-in-Err-clause-areas : goal.returns-in-Err-clause-areas
returns-in-Err-clause-areas g c = still_areas g.D.Disk c.prepare_change.ensures.still

-- ---- the commit failed

pub returns-in_default-clause-applies : goal.returns-in_default-clause-applies
returns-in_default-clause-applies g c state at told =
    let made = subst (λ (made : Result Reply ReplyError). PreparesNext g.D.Disk c.args.command made c.new-text.result c.prepare_change.new.text c.args.self.now c.prepare_change.new.self c.args.disk.now c.prepare_change.new.disk) c.in-Ok-Ok.field-0-is c.in-Ok-Ok.ensures.ok in
    let ready = command_ready g.D.Disk c.args.self.now c.prepare_change.new.self c.args.disk.now c.prepare_change.new.disk c.new-text.result c.prepare_change.new.text c.args.command c.in-Ok-Ok.reply made in
    commit_begun g.D.Disk (Single c.args.command) (One c.in-Ok-Ok.reply) c.args.self.now c.prepare_change.new.self c.args.disk.now c.prepare_change.new.disk c.commit.new.disk c.prepare_change.ensures.still ready c.commit.ensures.goes state at told

pub returns-in_default-clause-leaves : goal.returns-in_default-clause-leaves
returns-in_default-clause-leaves g c =
    let made = subst (λ (made : Result Reply ReplyError). PreparesNext g.D.Disk c.args.command made c.new-text.result c.prepare_change.new.text c.args.self.now c.prepare_change.new.self c.args.disk.now c.prepare_change.new.disk) c.in-Ok-Ok.field-0-is c.in-Ok-Ok.ensures.ok in
    let after : Store = record { alloc = c.prepare_change.new.self.alloc; records = c.commit.new.self; catalog = c.prepare_change.new.self.catalog } in
    let failed = commit_refused g.D.Disk c.args.self.now c.prepare_change.new.self after c.args.disk.now c.prepare_change.new.disk c.commit.new.disk c.in_default.field-0 c.prepare_change.ensures.still made.runs c.in_default.ensures.refused in
    ended_leaves g.D.Disk (Single c.args.command) c.args.self.now after c.args.disk.now c.commit.new.disk (failed.1).1

-- ---- it is committed

pub returns-clause-applies : goal.returns-clause-applies
returns-clause-applies g c state at told =
    let made = subst (λ (made : Result Reply ReplyError). PreparesNext g.D.Disk c.args.command made c.new-text.result c.prepare_change.new.text c.args.self.now c.prepare_change.new.self c.args.disk.now c.prepare_change.new.disk) c.in-Ok-Ok.field-0-is c.in-Ok-Ok.ensures.ok in
    let ready = command_ready g.D.Disk c.args.self.now c.prepare_change.new.self c.args.disk.now c.prepare_change.new.disk c.new-text.result c.prepare_change.new.text c.args.command c.in-Ok-Ok.reply made in
    let after : Store = record { alloc = c.prepare_change.new.self.alloc; records = c.commit.new.self; catalog = c.prepare_change.new.self.catalog } in
    commit_done g.D.Disk (Single c.args.command) (One c.in-Ok-Ok.reply) c.args.self.now c.prepare_change.new.self c.args.disk.now c.prepare_change.new.disk c.commit.new.disk c.prepare_change.ensures.still ready c.commit.ensures.goes state at told
    after (next_group (next_number c.prepare_change.new.self.records) c.prepare_change.new.self.records.wal) c.requires.short c.requires.may (λ refused. false≢true (sym made.taken ∙ refused))
    c.in-Ok.ensures.group c.in-Ok.ensures.step c.in-Ok.ensures.ok c.in-Ok.ensures.none_left.2 refl

pub returns-clause-leaves : goal.returns-clause-leaves
returns-clause-leaves g c =
    let made = subst (λ (made : Result Reply ReplyError). PreparesNext g.D.Disk c.args.command made c.new-text.result c.prepare_change.new.text c.args.self.now c.prepare_change.new.self c.args.disk.now c.prepare_change.new.disk) c.in-Ok-Ok.field-0-is c.in-Ok-Ok.ensures.ok in
    let ready = command_ready g.D.Disk c.args.self.now c.prepare_change.new.self c.args.disk.now c.prepare_change.new.disk c.new-text.result c.prepare_change.new.text c.args.command c.in-Ok-Ok.reply made in
    let after : Store = record { alloc = c.prepare_change.new.self.alloc; records = c.commit.new.self; catalog = c.prepare_change.new.self.catalog } in
    commit_leaves g.D.Disk (Single c.args.command) (One c.in-Ok-Ok.reply) c.args.self.now c.prepare_change.new.self c.args.disk.now c.prepare_change.new.disk c.commit.new.disk c.prepare_change.ensures.still ready c.commit.ensures.goes
    after c.in-Ok.ensures.ok c.in-Ok.ensures.none_left.2 refl

pub returns-clause-ok : goal.returns-clause-ok
returns-clause-ok g c =
    let made = subst (λ (made : Result Reply ReplyError). PreparesNext g.D.Disk c.args.command made c.new-text.result c.prepare_change.new.text c.args.self.now c.prepare_change.new.self c.args.disk.now c.prepare_change.new.disk) c.in-Ok-Ok.field-0-is c.in-Ok-Ok.ensures.ok in
    (((made.runs).before, c.in-Ok.ensures.none_left.1), made.told ∙ ap (λ (l : List ℕ). l ++ reply_text c.in-Ok-Ok.reply) c.new-text.ensures)

pub returns-clause-kept : goal.returns-clause-kept
returns-clause-kept g c refused =
    let made = subst (λ (made : Result Reply ReplyError). PreparesNext g.D.Disk c.args.command made c.new-text.result c.prepare_change.new.text c.args.self.now c.prepare_change.new.self c.args.disk.now c.prepare_change.new.disk) c.in-Ok-Ok.field-0-is c.in-Ok-Ok.ensures.ok in
    absurd (false≢true (sym made.taken ∙ refused))
