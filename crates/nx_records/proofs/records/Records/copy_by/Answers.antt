use Rattle.std.proofs.Common.{Bool, Bor, refl, sym, ap, ◌∙◌}
use Rattle.nx_wal.specs.Reading.{page_found}
use Rattle.std.specs.Option.{option_map}
use Rattle.nx_slots.specs.declared.page.PageBytes.{PageBytes}
use Rattle.nx_records.proofs.SeenLemmas.{seen_page, waits_there}
use Rattle.nx_records.proofs.records.Records.copy_by.Goals as goal

pub returns-in-Some-clause-ok : goal.returns-in-Some-clause-ok
returns-in-Some-clause-ok g c =
    let records = c.args.self.now in
    let bytes = c.in-Some.page.now.bytes in
    seen_page g.D.Disk records records c.args.disk.now c.args.disk.now c.args.rid.page c.args.rid.slot c.copy_record.result bytes refl
    (waits_there g.D.Disk records records c.args.disk.now c.args.disk.now c.args.rid.page c.args.rid.slot bytes
    (ap (option_map (λ (page : Bor PageBytes). page.now.bytes)) (sym c.in-Some.is) ∙ c.waiting.ensures)) c.copy_record.ensures.ok

pub returns-clause-ok : goal.returns-clause-ok
returns-clause-ok g c =
    seen_page g.D.Disk c.args.self.now c.load.new.self c.args.disk.now c.load.new.disk c.args.rid.page c.args.rid.slot c.copy_record-2.result c.load.new.into.bytes c.in_ok-load.ensures.ok.0
    (λ was step. c.in_ok-load.ensures.ok.1 was step ∙ ap (λ (found : Bool). page_found found c.load.new.into.bytes) c.if-not-branch.false) c.copy_record-2.ensures.ok
