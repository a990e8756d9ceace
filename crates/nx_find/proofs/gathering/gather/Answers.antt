use Rattle.std.proofs.Common.{◌≡◌, arith}
use Rattle.std.proofs.lemmas.Result.{err_from_is_err_and}
use Rattle.nx_hold.specs.Changes.{place_of}
use Rattle.nx_nav.specs.Refusals.{node_count}
use Rattle.nx_nav.proofs.RefusalLemmas.{is_damaged}
use Rattle.nx_names.specs.Gathered.{gathered_behind, nothing_gathered}
use Rattle.nx_names.proofs.LookLemmas.{all_wanted}
use Rattle.nx_find.specs.Over.{OfEachLaid}
use Rattle.nx_find.proofs.WalkLemmas.{stops_behind}
use Rattle.nx_find.proofs.OverLemmas.{laid_interval, no_document, reads_document, counts_document, gathers_document, found_none, found_map, lacks_more}
use Rattle.nx_find.proofs.gathering.gather.Goals as goal

pub returns-in_err-show_document-clause-reads : goal.returns-in_err-show_document-clause-reads
returns-in_err-show_document-clause-reads g c = λ saved now stands pieces document layout laid. reads_document stands pieces document layout laid c.in_err-show_document.ensures.stops

pub returns-in_err-show_document-clause-refused : goal.returns-in_err-show_document-clause-refused
returns-in_err-show_document-clause-refused g c =
    let p = err_from_is_err_and c.from_residual.result c.from_residual.ensures.1 in
    let Lacks = OfEachLaid g.D.Disk c.args.records.now c.args.disk.now (place_of c.args.entry.root) (λ now document layout. node_count document ≡ c.args.entry.nodes → ⊥) in
    rw (p.1, p.2)
    (lacks_more g.D.Disk _ c.args.records.now c.show_document.new.records c.args.disk.now c.show_document.new.disk Lacks
    (λ none. λ saved now stands pieces document layout laid. no_document stands pieces document layout laid all_wanted c.args.entry.nodes none) c.in_err-show_document.field-0.0 c.in_err-show_document.ensures.refused)

pub returns-then-walk-ne0-clause-reads : goal.returns-then-walk-ne0-clause-reads
returns-then-walk-ne0-clause-reads g c = λ saved now stands pieces document layout laid. reads_document stands pieces document layout laid (stops_behind c.in_ok-show_document.ensures.shown)

pub returns-then-walk-ne0-clause-refused : goal.returns-then-walk-ne0-clause-refused
returns-then-walk-ne0-clause-refused g c =
    let stays = c.in_ok-show_document.ensures.stays in
    is_damaged g.D.Disk ⊥ ⊥ (OfEachLaid g.D.Disk c.args.records.now c.args.disk.now (place_of c.args.entry.root) (λ now document layout. node_count document ≡ c.args.entry.nodes → ⊥))
    {r0 = c.args.records.now} {r1 = c.show_document.new.records} {r2 = c.damaged.new.records} c.args.disk.now c.show_document.new.disk c.damaged.result c.damaged.ensures.result stays.0 stays.1 c.damaged.ensures.ends
    (λ saved now stands pieces document layout laid count. c.if-walk-ne0.true (let all = counts_document stands pieces document layout laid c.in_ok-show_document.ensures.shown in omega arith))

pub finish-requires : goal.finish-requires
finish-requires g c =
    let has = c.in_ok-show_document.ensures.shown in
    (gathered_behind nothing_gathered has.told, has.goes nothing_gathered c.new.ensures)

pub returns-in_err-map-clause-reads : goal.returns-in_err-map-clause-reads
returns-in_err-map-clause-reads g c = λ saved now stands pieces document layout laid. reads_document stands pieces document layout laid (stops_behind c.in_ok-show_document.ensures.shown)

pub returns-in-None-clause-reads : goal.returns-in-None-clause-reads
returns-in-None-clause-reads g c = λ saved now stands pieces document layout laid. reads_document stands pieces document layout laid (stops_behind c.in_ok-show_document.ensures.shown)

pub returns-in-None-clause-refused : goal.returns-in-None-clause-refused
returns-in-None-clause-refused g c =
    let stays = c.in_ok-show_document.ensures.stays in
    let has = c.in_ok-show_document.ensures.shown in
    is_damaged g.D.Disk ⊥ ⊥ (OfEachLaid g.D.Disk c.args.records.now c.args.disk.now (place_of c.args.entry.root) (λ now document layout. node_count document ≡ c.args.entry.nodes → ⊥))
    {r0 = c.args.records.now} {r1 = c.show_document.new.records} {r2 = c.damaged-in-None.new.records} c.args.disk.now c.show_document.new.disk c.damaged-in-None.result c.damaged-in-None.ensures.result stays.0 stays.1 c.damaged-in-None.ensures.ends
    (λ saved now stands pieces document layout laid count.
    found_none stands pieces document layout laid c.in_ok-map.field-0 c.in-None.is (c.in_ok-map.ensures _ (gathers_document stands pieces document layout laid c.new.result c.show_document.new.walk.looks.gatherer has.told c.new.ensures has.goes (has.all _ (laid_interval stands pieces document layout laid)))))

pub returns-in-Some-clause-reads : goal.returns-in-Some-clause-reads
returns-in-Some-clause-reads g c = λ saved now stands pieces document layout laid. reads_document stands pieces document layout laid (stops_behind c.in_ok-show_document.ensures.shown)

pub returns-in-Some-clause-ok : goal.returns-in-Some-clause-ok
returns-in-Some-clause-ok g c =
    let stays = c.in_ok-show_document.ensures.stays in
    let has = c.in_ok-show_document.ensures.shown in (
      stays.0,
      stays.1,
      λ saved now stands pieces document layout laid. (
        (let all = counts_document stands pieces document layout laid has in let none = c.if-walk-ne0.false in omega arith),
        found_map stands pieces document layout laid c.in_ok-map.field-0 c.in-Some.map c.in-Some.is
            (c.in_ok-map.ensures _ (gathers_document stands pieces document layout laid c.new.result c.show_document.new.walk.looks.gatherer has.told c.new.ensures has.goes (has.all _ (laid_interval stands pieces document layout laid)))),
      ),
    )
