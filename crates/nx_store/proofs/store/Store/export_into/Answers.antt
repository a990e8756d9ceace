use Rattle.std.proofs.Common.{[], ◌∷◌, refl, sym, ap, ◌∙◌, subst}
use Rattle.std.proofs.lemmas.Result.{err_from_is_err_and}
use Rattle.std.specs.Prelude.{Result, Err}
use Rattle.nx_host.specs.Disk.{Rose}
use Rattle.nx_host.proofs.DiskLemmas.{none_still}
use Rattle.nx_nav.specs.GivenLaws.{still_gives}
use Rattle.nx_script.specs.declared.command.Command.TheVariants.{Get}
use Rattle.nx_store.specs.Store.{IsExported, NotAnswered}
use Rattle.nx_edit.proofs.ToldLemmas.{told_so}
use Rattle.nx_store.specs.Told.{told_by}
use Rattle.nx_store.specs.declared.store.Store.{Store}
use Rattle.nx_store.specs.declared.error.EngineError.{EngineError}
use Rattle.nx_store.proofs.AtLemmas.{leaves_self}
use Rattle.nx_store.proofs.ReadLemmas.{ended_reads, absent_reads, first_reads}
use Rattle.nx_store.proofs.ExportLemmas.{given_same, at_given, given_exported, no_memory_exported, refused_exported, told_absent, no_memory_absent, not_exported}
use Rattle.nx_store.proofs.store.Store.export_into.Goals as goal

pub returns-in_default-clause-exports : goal.returns-in_default-clause-exports
returns-in_default-clause-exports g c = λ state at told.
    told_absent g.H.Disk c.args.self.now c.args.host.now state c.args.name.now c.args.block.now c.push_reply.new.block at (sym c.in_default.ensures) c.in_ok-push_reply.ensures.ok

pub returns-in-Err-clause-exports : goal.returns-in-Err-clause-exports
returns-in-Err-clause-exports g c = λ state at told.
    let after : Store = record c.args.self.now { records = c.export.new.records } in
    let x0 = c.args.host.now in
    let x1 = c.export.new.host in
    let e = c.in-Err.ensures in
    told_so (told_by c.in-Err.error) (λ (e : EngineError). IsExported g.H.Disk (Err e) state c.args.name.now c.args.block.now c.export.new.block after x0 x1) c.told_by.result c.told_by.ensures
    (refused_exported g.H.Disk c.args.self.now after x0 x1 state c.args.name.now c.args.block.now c.export.new.block at c.in-Some.entry (sym c.in-Some.ensures) (e.time told)
    (Rose (g.H.Disk.beside x0).out_faults (g.H.Disk.beside x1).out_faults) c.in-Err.error refl e.areas told e.refused)

pub returns-in-Err-clause-refused : goal.returns-in-Err-clause-refused
returns-in-Err-clause-refused g c =
    let after : Store = record c.args.self.now { records = c.export.new.records } in
    let runs = sym c.is_ended.ensures ∙ c.if-is_ended.false in
    told_so (told_by c.in-Err.error) (λ (e : EngineError). NotAnswered g.H.Disk e c.args.self.now after c.args.host.now c.export.new.host) c.told_by.result c.told_by.ensures
    (not_exported g.H.Disk c.args.self.now after c.args.host.now c.export.new.host c.args.name.now c.in-Some.entry c.in-Err.error runs (sym c.in-Some.ensures) c.in-Err.ensures.refused)

pub returns-in_err-extend_from_slice-clause-exports : goal.returns-in_err-extend_from_slice-clause-exports
returns-in_err-extend_from_slice-clause-exports g c = λ state at told.
    let after : Store = record c.args.self.now { records = c.export.new.records } in
    let x0 = c.args.host.now in
    let x1 = c.export.new.host in
    let e = c.in-Ok.ensures in
    let p = err_from_is_err_and c.from_residual-in_err-extend_from_slice.result c.from_residual-in_err-extend_from_slice.ensures.1 in
    let later = at_given g.H.Disk c.args.self.now after x0 x1 state e.stays.1 refl e.areas told at in
    subst (λ (r : Result (Unit {0}) EngineError). IsExported g.H.Disk r state c.args.name.now c.args.block.now c.extend_from_slice.new.self after x0 x1) (sym (p.1 ∙ ap Err p.2))
    (no_memory_exported g.H.Disk c.args.self.now after x0 x1 state c.args.name.now c.args.block.now c.extend_from_slice.new.self at c.in-Some.entry (sym c.in-Some.ensures) (e.time told) later)

pub returns-clause-exports : goal.returns-clause-exports
returns-clause-exports g c = λ state at told.
    let after : Store = record c.args.self.now { records = c.export.new.records } in
    let x0 = c.args.host.now in
    let x1 = c.export.new.host in
    let e = c.in-Ok.ensures in
    let later = at_given g.H.Disk c.args.self.now after x0 x1 state e.stays.1 refl e.areas told at in
    given_exported g.H.Disk c.args.self.now after x0 x1 state c.args.name.now c.args.block.now c.extend_from_slice.new.self at c.in-Some.entry (sym c.in-Some.ensures) (e.time told) c.export.new.block (λ document has count. (e.ok told document has).1)
    c.in_ok-extend_from_slice.ensures.ok later

pub returns-in_err-push_reply-clause-exports : goal.returns-in_err-push_reply-clause-exports
returns-in_err-push_reply-clause-exports g c = λ state at told.
    let p = err_from_is_err_and c.from_residual.result c.from_residual.ensures.1 in
    subst (λ (r : Result (Unit {0}) EngineError). IsExported g.H.Disk r state c.args.name.now c.args.block.now c.push_reply.new.block c.args.self.now c.args.host.now c.args.host.now) (sym (p.1 ∙ ap Err p.2))
    (no_memory_absent g.H.Disk c.args.self.now c.args.host.now state c.args.name.now c.args.block.now c.push_reply.new.block at (sym c.in_default.ensures))

pub returns-then-is_ended-clause-same : goal.returns-then-is_ended-clause-same
returns-then-is_ended-clause-same g c = λ runs. leaves_self c.args.self.now

pub returns-then-is_ended-clause-areas : goal.returns-then-is_ended-clause-areas
returns-then-is_ended-clause-areas g c = still_gives none_still

pub returns-then-is_ended-clause-early : goal.returns-then-is_ended-clause-early
returns-then-is_ended-clause-early g c = λ left. ended_reads g.H.Disk (Get c.args.name.now (0 ∷ [])) c.args.self.now c.args.host.now c.args.host.now (sym c.is_ended.ensures ∙ c.if-is_ended.true)

pub returns-in_err-push_reply-clause-same : goal.returns-in_err-push_reply-clause-same
returns-in_err-push_reply-clause-same g c = λ runs. leaves_self c.args.self.now

pub returns-in_err-push_reply-clause-areas : goal.returns-in_err-push_reply-clause-areas
returns-in_err-push_reply-clause-areas g c = still_gives none_still

pub returns-in_err-push_reply-clause-early : goal.returns-in_err-push_reply-clause-early
returns-in_err-push_reply-clause-early g c = λ left. absent_reads g.H.Disk c.args.name.now (0 ∷ []) c.args.self.now c.args.host.now (sym c.in_default.ensures)

pub returns-in_default-clause-same : goal.returns-in_default-clause-same
returns-in_default-clause-same g c = λ runs. leaves_self c.args.self.now

pub returns-in_default-clause-areas : goal.returns-in_default-clause-areas
returns-in_default-clause-areas g c = still_gives none_still

pub returns-in_default-clause-early : goal.returns-in_default-clause-early
returns-in_default-clause-early g c = λ left. absent_reads g.H.Disk c.args.name.now (0 ∷ []) c.args.self.now c.args.host.now (sym c.in_default.ensures)

pub returns-in-Err-clause-same : goal.returns-in-Err-clause-same
returns-in-Err-clause-same g c = λ runs. record {
  records = given_same g.H.Disk _ _ c.args.self.now.records c.export.new.records c.args.host.now c.export.new.host c.in-Err.error c.in-Err.ensures.refused runs;
  catalog = refl;
}

pub returns-in-Err-clause-early : goal.returns-in-Err-clause-early
returns-in-Err-clause-early g c = first_reads g.H.Disk c.args.name.now c.in-Some.entry c.args.self.now c.args.host.now c.export.new.host (sym c.in-Some.ensures) c.export.ensures.reads

pub returns-in_err-extend_from_slice-clause-same : goal.returns-in_err-extend_from_slice-clause-same
returns-in_err-extend_from_slice-clause-same g c = λ runs. record { records = c.in-Ok.ensures.stays.1; catalog = refl }

pub returns-in_err-extend_from_slice-clause-early : goal.returns-in_err-extend_from_slice-clause-early
returns-in_err-extend_from_slice-clause-early g c = first_reads g.H.Disk c.args.name.now c.in-Some.entry c.args.self.now c.args.host.now c.export.new.host (sym c.in-Some.ensures) c.export.ensures.reads

pub returns-clause-same : goal.returns-clause-same
returns-clause-same g c = λ runs. record { records = c.in-Ok.ensures.stays.1; catalog = refl }

pub returns-clause-early : goal.returns-clause-early
returns-clause-early g c = first_reads g.H.Disk c.args.name.now c.in-Some.entry c.args.self.now c.args.host.now c.export.new.host (sym c.in-Some.ensures) c.export.ensures.reads
