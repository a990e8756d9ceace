use Rattle.std.proofs.Common.{◌≡◌, refl, subst, inl}
use Rattle.std.specs.Prelude.{None, IfErr, OnOk}
use Rattle.nx_host.proofs.DiskLemmas.{none_still}
use Rattle.nx_records.specs.declared.records.Records.{Records}
use Rattle.nx_records.specs.Records.{KeepsSaved, ComesTo, HasChanges}
use Rattle.nx_records.specs.Changes.{RemovesRecord}
use Rattle.nx_records.specs.Refusals.{NotChanged, RunsOn}
use Rattle.nx_records.proofs.StandLemmas.{keeps_then, saved_kept, steps_lead, on_ok_then, if_err_then}
use Rattle.nx_records.proofs.RefusalLemmas.{memory_changed, runs_on}
use Rattle.nx_records.proofs.LeaveLemmas.{had_ended}
use Rattle.nx_records.proofs.records.Records.remove.Goals as goal

pub returns-then-self-clause-refused : goal.returns-then-self-clause-refused
returns-then-self-clause-refused g c = had_ended c.if-self.true

pub returns-then-clear_waiting-clause-ok : goal.returns-then-clear_waiting-clause-ok
returns-then-clear_waiting-clause-ok g c =
    let cleared = c.if-clear_waiting.ensures.cleared refl in
    on_ok_then c.store_header.result c.store_header.ensures.ok (λ ok.
    steps_lead g.D.Disk c.args.self.now c.clear_waiting.new.self c.store_header.new.self c.args.disk.now c.args.disk.now (λ was now. RemovesRecord c.args.rid.page c.args.rid.slot was now)
    cleared.0 c.store_header.ensures.keeps none_still c.store_header.new.self.head_range ok.0 ok.2 cleared.1
    (inl (λ was now removes. (removes.changes).catalog)))

pub returns-then-clear_waiting-clause-keeps : goal.returns-then-clear_waiting-clause-keeps
returns-then-clear_waiting-clause-keeps g c =
    let keeps = keeps_then {r0 = c.args.self.now} {r1 = c.clear_waiting.new.self} {r2 = c.store_header.new.self} (c.if-clear_waiting.ensures.cleared refl).0 c.store_header.ensures.keeps in
    on_ok_then c.store_header.result c.store_header.ensures.ok (λ ok. (runs_on c.if-self.false keeps, saved_kept keeps none_still, ok.1))

pub returns-then-clear_waiting-clause-refused : goal.returns-then-clear_waiting-clause-refused
returns-then-clear_waiting-clause-refused g c =
    let keeps = keeps_then {r0 = c.args.self.now} {r1 = c.clear_waiting.new.self} {r2 = c.store_header.new.self} (c.if-clear_waiting.ensures.cleared refl).0 c.store_header.ensures.keeps in
    if_err_then c.store_header.result c.store_header.ensures.refused (λ e same.
    memory_changed g.D.Disk c.args.self.now c.store_header.new.self c.args.disk.now c.args.disk.now c.args.rid.page (λ now. now.records c.args.rid.page c.args.rid.slot ≡ None) e
    same c.if-self.false none_still keeps)

pub returns-clause-ok : goal.returns-clause-ok
returns-clause-ok g c =
    subst (λ (r : Records). OnOk c.remove_loaded.result (ComesTo g.D.Disk r c.remove_loaded.new.self c.args.disk.now c.remove_loaded.new.disk (λ was now. RemovesRecord c.args.rid.page c.args.rid.slot was now)))
    (c.if-clear_waiting.ensures.none refl) c.remove_loaded.ensures.ok

pub returns-clause-keeps : goal.returns-clause-keeps
returns-clause-keeps g c =
    subst (λ (r : Records). OnOk c.remove_loaded.result (RunsOn r c.remove_loaded.new.self × KeepsSaved g.D.Disk r c.remove_loaded.new.self c.args.disk.now c.remove_loaded.new.disk × HasChanges c.remove_loaded.new.self))
    (c.if-clear_waiting.ensures.none refl) c.remove_loaded.ensures.keeps

pub returns-clause-refused : goal.returns-clause-refused
returns-clause-refused g c =
    subst (λ (r : Records). IfErr c.remove_loaded.result (λ e. NotChanged g.D.Disk (λ now. now.records c.args.rid.page c.args.rid.slot ≡ None) c.args.rid.page e r c.remove_loaded.new.self c.args.disk.now c.remove_loaded.new.disk))
    (c.if-clear_waiting.ensures.none refl) c.remove_loaded.ensures.refused
