use Rattle.std.proofs.Common.{refl, sym, subst, ap, ◌∙◌}
use Rattle.std.specs.Prelude.{Ok}
use Rattle.nx_host.proofs.DiskLemmas.{none_still}
use Rattle.nx_records.proofs.StandLemmas.{if_ok_then, if_err_then}
use Rattle.nx_script.specs.declared.command.Command.{Command}
use Rattle.nx_script.specs.declared.command.Command.TheVariants.{Names, Export, Get, Layout, Rules, Begin, Commit, Bad}
use Rattle.nx_script.specs.declared.reply.Reply.TheVariants.{Refused}
use Rattle.nx_script.specs.declared.reply.ReplyError.TheVariants.{Syntax}
use Rattle.nx_store.specs.Store.{IsApplied, NotApplied}
use Rattle.nx_store.specs.Staying.{LeavesOthers}
use Rattle.nx_script.specs.declared.request.Request.TheVariants.{Single}
use Rattle.nx_store.specs.declared.error.EngineError.{EngineError}
use Rattle.nx_store.proofs.LookLemmas.{names_answer, rules_answer}
use Rattle.nx_store.proofs.AtLemmas.{leaves_self}
use Rattle.nx_store.proofs.ShowLemmas.{still_areas, looked_applied, on_ok_any}
use Rattle.nx_store.proofs.StayingLemmas.{unasked_leaves, looked_leaves}
use Rattle.std.proofs.lemmas.Bool.{false≢true}
use Rattle.nx_store.specs.Reads.{is_lookup, needs_no_page, ReadsWithin}
use Rattle.nx_store.proofs.ReadLemmas.{on_ok, other_reads, unread_reads, looked_holds, unasked_holds, looked_kept}
use Rattle.nx_store.proofs.store.Store.look.Goals as goal

pub returns-in-Names-clause-applies : goal.returns-in-Names-clause-applies
returns-in-Names-clause-applies g c state at told =
    let runs = c.requires.runs in
    subst (λ (k : Command). IsApplied g.D.Disk c.names.result state k c.args.self.now c.args.disk.now c.args.disk.now) (sym c.in-Names.is)
    (looked_applied g.D.Disk Names (refl, λ is. cc) none_still (λ on. leaves_self c.args.self.now) at told c.names.result (if_ok_then c.names.result c.names.ensures.ok (λ reply is. ((runs, runs), λ s there. names_answer reply is there)))
    (if_err_then c.names.result c.names.ensures.err (λ e is. subst (λ (x : EngineError). NotApplied g.D.Disk x c.args.self.now c.args.self.now c.args.disk.now c.args.disk.now) (sym is) (runs, runs))))

pub returns-in-Names-clause-refused : goal.returns-in-Names-clause-refused
returns-in-Names-clause-refused g c =
    let runs = c.requires.runs in
    if_err_then c.names.result c.names.ensures.err (λ e is. subst (λ (x : EngineError). NotApplied g.D.Disk x c.args.self.now c.args.self.now c.args.disk.now c.args.disk.now) (sym is) (runs, runs))

pub returns-in-Rules-clause-applies : goal.returns-in-Rules-clause-applies
returns-in-Rules-clause-applies g c state at told =
    let runs = c.requires.runs in
    subst (λ (k : Command). IsApplied g.D.Disk c.rules.result state k c.args.self.now c.args.disk.now c.args.disk.now) (sym c.in-Rules.is)
    (looked_applied g.D.Disk Rules (refl, λ is. cc) none_still (λ on. leaves_self c.args.self.now) at told c.rules.result (if_ok_then c.rules.result c.rules.ensures.ok (λ reply is. ((runs, runs), λ s there. rules_answer reply is there)))
    (if_err_then c.rules.result c.rules.ensures.err (λ e is. subst (λ (x : EngineError). NotApplied g.D.Disk x c.args.self.now c.args.self.now c.args.disk.now c.args.disk.now) (sym is) (runs, runs))))

pub returns-in-Rules-clause-refused : goal.returns-in-Rules-clause-refused
returns-in-Rules-clause-refused g c =
    let runs = c.requires.runs in
    if_err_then c.rules.result c.rules.ensures.err (λ e is. subst (λ (x : EngineError). NotApplied g.D.Disk x c.args.self.now c.args.self.now c.args.disk.now c.args.disk.now) (sym is) (runs, runs))

pub returns-in-Bad-clause-applies : goal.returns-in-Bad-clause-applies
returns-in-Bad-clause-applies g c state at told =
    let runs = c.requires.runs in
    subst (λ (k : Command). IsApplied g.D.Disk (Ok (Refused Syntax)) state k c.args.self.now c.args.disk.now c.args.disk.now) (sym c.in-Bad.is)
    (looked_applied g.D.Disk Bad (refl, λ is. cc) none_still (λ on. leaves_self c.args.self.now) at told (Ok (Refused Syntax)) ((runs, runs), λ s there. (refl, refl)) tt)

pub returns-in-Export-clause-applies : goal.returns-in-Export-clause-applies
returns-in-Export-clause-applies g c state at told =
    subst (λ (k : Command). IsApplied g.D.Disk c.export.result state k c.export.new.self c.args.disk.now c.export.new.disk) (sym c.in-Export.is)
    (looked_applied g.D.Disk (Export c.in-Export.name) (refl, λ is. cc) c.export.ensures.still c.export.ensures.same at told c.export.result c.export.ensures.ok c.export.ensures.refused)

pub returns-in-Export-clause-ok : goal.returns-in-Export-clause-ok
returns-in-Export-clause-ok g c = if_ok_then c.export.result c.export.ensures.ok (λ reply ok. ok.0)

pub returns-in-Export-clause-areas : goal.returns-in-Export-clause-areas
returns-in-Export-clause-areas g c = still_areas g.D.Disk c.export.ensures.still

pub returns-in-Get-clause-applies : goal.returns-in-Get-clause-applies
returns-in-Get-clause-applies g c state at told =
    subst (λ (k : Command). IsApplied g.D.Disk c.get.result state k c.get.new.self c.args.disk.now c.get.new.disk) (sym c.in-Get.is)
    (looked_applied g.D.Disk (Get c.in-Get.name c.in-Get.path) (refl, λ is. cc) c.get.ensures.still c.get.ensures.same at told c.get.result c.get.ensures.ok c.get.ensures.refused)

pub returns-in-Get-clause-ok : goal.returns-in-Get-clause-ok
returns-in-Get-clause-ok g c = if_ok_then c.get.result c.get.ensures.ok (λ reply ok. ok.0)

pub returns-in-Get-clause-areas : goal.returns-in-Get-clause-areas
returns-in-Get-clause-areas g c = still_areas g.D.Disk c.get.ensures.still

pub returns-in-Layout-clause-applies : goal.returns-in-Layout-clause-applies
returns-in-Layout-clause-applies g c state at told =
    subst (λ (k : Command). IsApplied g.D.Disk c.layout.result state k c.layout.new.self c.args.disk.now c.layout.new.disk) (sym c.in-Layout.is)
    (looked_applied g.D.Disk (Layout c.in-Layout.name) (refl, λ is. cc) c.layout.ensures.still c.layout.ensures.same at told c.layout.result c.layout.ensures.ok c.layout.ensures.refused)

pub returns-in-Layout-clause-ok : goal.returns-in-Layout-clause-ok
returns-in-Layout-clause-ok g c = if_ok_then c.layout.result c.layout.ensures.ok (λ reply ok. ok.0)

pub returns-in-Layout-clause-areas : goal.returns-in-Layout-clause-areas
returns-in-Layout-clause-areas g c = still_areas g.D.Disk c.layout.ensures.still

pub returns-in-Checkpoint-clause-applies : goal.returns-in-Checkpoint-clause-applies
returns-in-Checkpoint-clause-applies g c state at told =
    subst (λ (k : Command). IsApplied g.D.Disk c.checkpoint.result state k c.checkpoint.new.self c.args.disk.now c.checkpoint.new.disk) (sym c.in-Checkpoint.is) (c.checkpoint.ensures.applies state at told)

pub returns-in-Names-clause-leaves : goal.returns-in-Names-clause-leaves
returns-in-Names-clause-leaves g c = unasked_leaves g.D.Disk (Single c.args.command) c.args.self.now c.args.disk.now

pub returns-in-Rules-clause-leaves : goal.returns-in-Rules-clause-leaves
returns-in-Rules-clause-leaves g c = unasked_leaves g.D.Disk (Single c.args.command) c.args.self.now c.args.disk.now

pub returns-in-Bad-clause-leaves : goal.returns-in-Bad-clause-leaves
returns-in-Bad-clause-leaves g c = unasked_leaves g.D.Disk (Single c.args.command) c.args.self.now c.args.disk.now

pub returns-in-Export-clause-leaves : goal.returns-in-Export-clause-leaves
returns-in-Export-clause-leaves g c = looked_leaves g.D.Disk (Single c.args.command) c.args.self.now c.export.new.self c.args.disk.now c.export.new.disk c.export.ensures.still c.export.ensures.same

pub returns-in-Get-clause-leaves : goal.returns-in-Get-clause-leaves
returns-in-Get-clause-leaves g c = looked_leaves g.D.Disk (Single c.args.command) c.args.self.now c.get.new.self c.args.disk.now c.get.new.disk c.get.ensures.still c.get.ensures.same

pub returns-in-Layout-clause-leaves : goal.returns-in-Layout-clause-leaves
returns-in-Layout-clause-leaves g c = looked_leaves g.D.Disk (Single c.args.command) c.args.self.now c.layout.new.self c.args.disk.now c.layout.new.disk c.layout.ensures.still c.layout.ensures.same

pub returns-in-Checkpoint-clause-leaves : goal.returns-in-Checkpoint-clause-leaves
returns-in-Checkpoint-clause-leaves g c = subst (λ (k : Command). LeavesOthers g.D.Disk (Single k) c.args.self.now c.checkpoint.new.self c.args.disk.now c.checkpoint.new.disk) (sym c.in-Checkpoint.is) c.checkpoint.ensures.leaves

pub returns-in-Names-clause-reads : goal.returns-in-Names-clause-reads
returns-in-Names-clause-reads g c =
    unread_reads g.D.Disk c.args.command c.args.self.now c.args.disk.now c.args.disk.now (ap needs_no_page c.in-Names.is) refl

pub returns-in-Rules-clause-reads : goal.returns-in-Rules-clause-reads
returns-in-Rules-clause-reads g c =
    unread_reads g.D.Disk c.args.command c.args.self.now c.args.disk.now c.args.disk.now (ap needs_no_page c.in-Rules.is) refl

pub returns-in-Bad-clause-reads : goal.returns-in-Bad-clause-reads
returns-in-Bad-clause-reads g c =
    unread_reads g.D.Disk c.args.command c.args.self.now c.args.disk.now c.args.disk.now (ap needs_no_page c.in-Bad.is) refl

pub returns-in-Export-clause-reads : goal.returns-in-Export-clause-reads
returns-in-Export-clause-reads g c =
    other_reads g.D.Disk c.args.command c.args.self.now c.args.disk.now c.export.new.disk (ap is_lookup c.in-Export.is)

pub returns-in-Layout-clause-reads : goal.returns-in-Layout-clause-reads
returns-in-Layout-clause-reads g c =
    other_reads g.D.Disk c.args.command c.args.self.now c.args.disk.now c.layout.new.disk (ap is_lookup c.in-Layout.is)

pub returns-in-Checkpoint-clause-reads : goal.returns-in-Checkpoint-clause-reads
returns-in-Checkpoint-clause-reads g c =
    other_reads g.D.Disk c.args.command c.args.self.now c.args.disk.now c.checkpoint.new.disk (ap is_lookup c.in-Checkpoint.is)

pub returns-in-Get-clause-reads : goal.returns-in-Get-clause-reads
returns-in-Get-clause-reads g c =
    subst (λ (k : Command). ReadsWithin g.D.Disk k c.args.self.now c.args.disk.now c.get.new.disk) (sym c.in-Get.is) c.get.ensures.reads

pub returns-in-Export-clause-unread : goal.returns-in-Export-clause-unread
returns-in-Export-clause-unread g c none =
    absurd (false≢true (sym (ap needs_no_page c.in-Export.is) ∙ none))

pub returns-in-Get-clause-unread : goal.returns-in-Get-clause-unread
returns-in-Get-clause-unread g c none =
    absurd (false≢true (sym (ap needs_no_page c.in-Get.is) ∙ none))

pub returns-in-Layout-clause-unread : goal.returns-in-Layout-clause-unread
returns-in-Layout-clause-unread g c none =
    absurd (false≢true (sym (ap needs_no_page c.in-Layout.is) ∙ none))

pub returns-in-Checkpoint-clause-unread : goal.returns-in-Checkpoint-clause-unread
returns-in-Checkpoint-clause-unread g c none =
    absurd (false≢true (sym (ap needs_no_page c.in-Checkpoint.is) ∙ none))

pub returns-in-Names-clause-holds : goal.returns-in-Names-clause-holds
returns-in-Names-clause-holds g c =
    on_ok c.names.result (unasked_holds g.D.Disk c.args.self.now c.args.disk.now)

pub returns-in-Rules-clause-holds : goal.returns-in-Rules-clause-holds
returns-in-Rules-clause-holds g c =
    on_ok c.rules.result (unasked_holds g.D.Disk c.args.self.now c.args.disk.now)

pub returns-in-Bad-clause-holds : goal.returns-in-Bad-clause-holds
returns-in-Bad-clause-holds g c =
    unasked_holds g.D.Disk c.args.self.now c.args.disk.now

pub returns-in-Export-clause-holds : goal.returns-in-Export-clause-holds
returns-in-Export-clause-holds g c =
    if_ok_then c.export.result c.export.ensures.ok (λ reply ok. looked_holds g.D.Disk c.args.self.now c.export.new.self c.args.disk.now c.export.new.disk (c.export.ensures.same (ok.0).1) c.export.ensures.still)

pub returns-in-Get-clause-holds : goal.returns-in-Get-clause-holds
returns-in-Get-clause-holds g c =
    if_ok_then c.get.result c.get.ensures.ok (λ reply ok. looked_holds g.D.Disk c.args.self.now c.get.new.self c.args.disk.now c.get.new.disk (c.get.ensures.same (ok.0).1) c.get.ensures.still)

pub returns-in-Layout-clause-holds : goal.returns-in-Layout-clause-holds
returns-in-Layout-clause-holds g c =
    if_ok_then c.layout.result c.layout.ensures.ok (λ reply ok. looked_holds g.D.Disk c.args.self.now c.layout.new.self c.args.disk.now c.layout.new.disk (c.layout.ensures.same (ok.0).1) c.layout.ensures.still)

pub returns-in-Checkpoint-clause-holds : goal.returns-in-Checkpoint-clause-holds
returns-in-Checkpoint-clause-holds g c =
    c.checkpoint.ensures.holds

pub returns-in-Names-clause-kept : goal.returns-in-Names-clause-kept
returns-in-Names-clause-kept g c =
    let runs = c.requires.runs in
    looked_kept g.D.Disk c.args.self.now c.args.self.now c.args.disk.now c.args.disk.now c.names.result none_still (λ on. leaves_self c.args.self.now) (on_ok_any c.names.result (runs, runs))
    (if_err_then c.names.result c.names.ensures.err (λ e is. subst (λ (x : EngineError). NotApplied g.D.Disk x c.args.self.now c.args.self.now c.args.disk.now c.args.disk.now) (sym is) (runs, runs)))

pub returns-in-Rules-clause-kept : goal.returns-in-Rules-clause-kept
returns-in-Rules-clause-kept g c =
    let runs = c.requires.runs in
    looked_kept g.D.Disk c.args.self.now c.args.self.now c.args.disk.now c.args.disk.now c.rules.result none_still (λ on. leaves_self c.args.self.now) (on_ok_any c.rules.result (runs, runs))
    (if_err_then c.rules.result c.rules.ensures.err (λ e is. subst (λ (x : EngineError). NotApplied g.D.Disk x c.args.self.now c.args.self.now c.args.disk.now c.args.disk.now) (sym is) (runs, runs)))

pub returns-in-Export-clause-kept : goal.returns-in-Export-clause-kept
returns-in-Export-clause-kept g c =
    looked_kept g.D.Disk c.args.self.now c.export.new.self c.args.disk.now c.export.new.disk c.export.result c.export.ensures.still c.export.ensures.same (if_ok_then c.export.result c.export.ensures.ok (λ reply ok. ok.0)) c.export.ensures.refused

pub returns-in-Get-clause-kept : goal.returns-in-Get-clause-kept
returns-in-Get-clause-kept g c =
    looked_kept g.D.Disk c.args.self.now c.get.new.self c.args.disk.now c.get.new.disk c.get.result c.get.ensures.still c.get.ensures.same (if_ok_then c.get.result c.get.ensures.ok (λ reply ok. ok.0)) c.get.ensures.refused

pub returns-in-Layout-clause-kept : goal.returns-in-Layout-clause-kept
returns-in-Layout-clause-kept g c =
    looked_kept g.D.Disk c.args.self.now c.layout.new.self c.args.disk.now c.layout.new.disk c.layout.result c.layout.ensures.still c.layout.ensures.same (if_ok_then c.layout.result c.layout.ensures.ok (λ reply ok. ok.0)) c.layout.ensures.refused

pub returns-in-Checkpoint-clause-kept : goal.returns-in-Checkpoint-clause-kept
returns-in-Checkpoint-clause-kept g c = c.checkpoint.ensures.kept

pub returns-in-Commit-clause-applies : goal.returns-in-Commit-clause-applies
returns-in-Commit-clause-applies g c state at told =
    let runs = c.requires.runs in
    subst (λ (k : Command). IsApplied g.D.Disk (Ok (Refused Syntax)) state k c.args.self.now c.args.disk.now c.args.disk.now) (sym c.in-Commit.is)
    (looked_applied g.D.Disk Commit (refl, λ is. cc) none_still (λ on. leaves_self c.args.self.now) at told (Ok (Refused Syntax)) ((runs, runs), λ s there. (refl, refl)) tt)

pub returns-in-Begin-clause-applies : goal.returns-in-Begin-clause-applies
returns-in-Begin-clause-applies g c state at told =
    let runs = c.requires.runs in
    subst (λ (k : Command). IsApplied g.D.Disk (Ok (Refused Syntax)) state k c.args.self.now c.args.disk.now c.args.disk.now) (sym c.in-Begin.is)
    (looked_applied g.D.Disk (Begin c.in-Begin.bare) (refl, λ is. cc) none_still (λ on. leaves_self c.args.self.now) at told (Ok (Refused Syntax)) ((runs, runs), λ s there. (refl, refl)) tt)

pub returns-in-Commit-clause-leaves : goal.returns-in-Commit-clause-leaves
returns-in-Commit-clause-leaves g c = unasked_leaves g.D.Disk (Single c.args.command) c.args.self.now c.args.disk.now

pub returns-in-Begin-clause-leaves : goal.returns-in-Begin-clause-leaves
returns-in-Begin-clause-leaves g c = unasked_leaves g.D.Disk (Single c.args.command) c.args.self.now c.args.disk.now

pub returns-in-Commit-clause-reads : goal.returns-in-Commit-clause-reads
returns-in-Commit-clause-reads g c =
    unread_reads g.D.Disk c.args.command c.args.self.now c.args.disk.now c.args.disk.now (ap needs_no_page c.in-Commit.is) refl

pub returns-in-Begin-clause-reads : goal.returns-in-Begin-clause-reads
returns-in-Begin-clause-reads g c =
    unread_reads g.D.Disk c.args.command c.args.self.now c.args.disk.now c.args.disk.now (ap needs_no_page c.in-Begin.is) refl

pub returns-in-Commit-clause-holds : goal.returns-in-Commit-clause-holds
returns-in-Commit-clause-holds g c =
    unasked_holds g.D.Disk c.args.self.now c.args.disk.now

pub returns-in-Begin-clause-holds : goal.returns-in-Begin-clause-holds
returns-in-Begin-clause-holds g c =
    unasked_holds g.D.Disk c.args.self.now c.args.disk.now
