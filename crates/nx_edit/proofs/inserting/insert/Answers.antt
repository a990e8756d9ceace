use Rattle.std.proofs.Common.{◌≡◌, ◌∷◌, List, refl, sym, ◌∙◌, subst}
use Rattle.std.specs.Option.{option_to_list}
use Rattle.std.proofs.lemmas.Result.{err_from_is_err_and}
use Rattle.nx_host.proofs.DiskLemmas.{still_then}
use Rattle.nx_tree.specs.Edit.{put as put_node, parent_path, last_position}
use Rattle.nx_records.specs.Records.{settings_of}
use Rattle.nx_piece.specs.declared.piece.Proxy.{Proxy}
use Rattle.nx_layouts.specs.Layout.{nodes_in}
use Rattle.nx_hold.specs.Changes.{place_of}
use Rattle.nx_hold.specs.Contents.{content_pages}
use Rattle.nx_edit.specs.Changing.{Child}
use Rattle.nx_edit.specs.declared.error.EditError.{EditError}
use Rattle.nx_edit.specs.Refusals.{NotEdited, edit_needs, edit_error}
use Rattle.nx_edit.specs.Inserting.{insertion_fault, is_of_insertion}
use Rattle.nx_edit.proofs.RemoveLemmas.{ends_behind}
use Rattle.nx_edit.proofs.DeleteLemmas.{handed_on}
use Rattle.nx_edit.proofs.DocumentLemmas.{change_tells, none_first, some_first}
use Rattle.nx_edit.proofs.InsertCalls.{allowed, hold_refused, put_refused, put_none, put_came, put_keeps}
use Rattle.nx_edit.proofs.ToldLemmas.{told_so, tells}
use Rattle.nx_edit.proofs.inserting.insert.Goals as goal

pub returns-in_err-route-clause-refused : goal.returns-in_err-route-clause-refused
returns-in_err-route-clause-refused g c =
    handed_on c.from_residual.result (λ (e : EditError). NotEdited g.D.Disk is_of_insertion (insertion_fault c.args.node c.args.path.now (settings_of c.args.records.now).k) (edit_needs (put_node c.args.node c.args.path.now) nodes_in (content_pages c.args.node)) c.args.entry e c.args.records.now c.check_insertion.new.records c.args.disk.now c.check_insertion.new.disk)
    c.in_err-route.field-0.0 (err_from_is_err_and c.from_residual.result c.from_residual.ensures.1) c.in_err-route.ensures.refused

pub hold_node-requires : goal.hold_node-requires
hold_node-requires g c =
    c.requires.short

pub edit_error-requires : goal.edit_error-requires
edit_error-requires g c =
    tells (edit_error c.in-Err.error) (λ (e : EditError). NotEdited g.D.Disk is_of_insertion (insertion_fault c.args.node c.args.path.now (settings_of c.args.records.now).k) (edit_needs (put_node c.args.node c.args.path.now) nodes_in (content_pages c.args.node)) c.args.entry e c.args.records.now c.hold_node.new.records c.args.disk.now c.hold_node.new.disk)
    (hold_refused g.D.Disk c.args.entry c.args.node c.args.path.now c.in_ok-route.ensures.few.0 c.args.records.now c.check_insertion.new.records c.args.disk.now c.check_insertion.new.disk c.check_insertion.ensures.still c.in_ok-route.ensures.runs.0 c.in_ok-route.ensures.runs.1
    c.in_ok-route.ensures.placed c.in_ok-route.ensures.few.1 c.in_ok-route.ensures.few.2 c.in_ok-route.ensures.few.3 c.requires c.args.matrix.now
    c.hold_node.new.records c.hold_node.new.disk c.hold_node.ensures.still c.in-Err.error c.in-Err.ensures.refused)

pub returns-in-Err-clause-still : goal.returns-in-Err-clause-still
returns-in-Err-clause-still g c =
    still_then c.check_insertion.ensures.still c.hold_node.ensures.still

pub returns-in-Err-clause-refused : goal.returns-in-Err-clause-refused
returns-in-Err-clause-refused g c =
    told_so (edit_error c.in-Err.error) (λ (e : EditError). NotEdited g.D.Disk is_of_insertion (insertion_fault c.args.node c.args.path.now (settings_of c.args.records.now).k) (edit_needs (put_node c.args.node c.args.path.now) nodes_in (content_pages c.args.node)) c.args.entry e c.args.records.now c.hold_node.new.records c.args.disk.now c.hold_node.new.disk) c.edit_error.result c.edit_error.ensures
    (hold_refused g.D.Disk c.args.entry c.args.node c.args.path.now c.in_ok-route.ensures.few.0 c.args.records.now c.check_insertion.new.records c.args.disk.now c.check_insertion.new.disk c.check_insertion.ensures.still c.in_ok-route.ensures.runs.0 c.in_ok-route.ensures.runs.1
    c.in_ok-route.ensures.placed c.in_ok-route.ensures.few.1 c.in_ok-route.ensures.few.2 c.in_ok-route.ensures.few.3 c.requires c.args.matrix.now
    c.hold_node.new.records c.hold_node.new.disk c.hold_node.ensures.still c.in-Err.error c.in-Err.ensures.refused)

pub change_at-requires-clause-runs : goal.change_at-requires-clause-runs
change_at-requires-clause-runs g c =
    (c.in-Ok.ensures.keeps.0).after

pub change_at-requires-clause-ends : goal.change_at-requires-clause-ends
change_at-requires-clause-ends g c =
    (c.in_ok-route.ensures.route).ends

pub change_at-requires-clause-written : goal.change_at-requires-clause-written
change_at-requires-clause-written g c =
    (c.in-Ok.ensures.near.0.0, c.in-Ok.ensures.near.1.0)

pub edit_error-requires-in-Err-change_at : goal.edit_error-requires-in-Err-change_at
edit_error-requires-in-Err-change_at g c =
    change_tells g.D.Disk c.args.matrix.now (Child (last_position c.args.path.now) (record { node = c.args.node; list = c.in-Ok.ensures.item.0 })) (place_of c.args.entry.root) 0 (parent_path c.args.path.now)
    c.hold_node.new.records c.change_at.new.records c.hold_node.new.disk c.change_at.new.disk c.in_ok-route.route.passed.items c.in_ok-route.route.last c.in-Err-change_at.error (c.in-Err-change_at.ensures.refused (Child (last_position c.args.path.now) (record { node = c.args.node; list = c.in-Ok.ensures.item.0 })) (refl, c.in-Ok.ensures.item.1))

pub returns-in-Err-change_at-clause-still : goal.returns-in-Err-change_at-clause-still
returns-in-Err-change_at-clause-still g c =
    still_then (still_then c.check_insertion.ensures.still c.hold_node.ensures.still) c.change_at.ensures.still

pub returns-in-Err-change_at-clause-refused : goal.returns-in-Err-change_at-clause-refused
returns-in-Err-change_at-clause-refused g c =
    told_so (edit_error c.in-Err-change_at.error) (λ (e : EditError). NotEdited g.D.Disk is_of_insertion (insertion_fault c.args.node c.args.path.now (settings_of c.args.records.now).k) (edit_needs (put_node c.args.node c.args.path.now) nodes_in (content_pages c.args.node)) c.args.entry e c.args.records.now c.change_at.new.records c.args.disk.now c.change_at.new.disk) c.edit_error-in-Err-change_at.result c.edit_error-in-Err-change_at.ensures
    (put_refused g.D.Disk c.args.entry c.args.node c.args.path.now c.in_ok-route.ensures.few.0 c.args.records.now c.check_insertion.new.records c.args.disk.now c.check_insertion.new.disk c.check_insertion.ensures.still c.in_ok-route.ensures.runs.0 c.in_ok-route.ensures.runs.1
    c.in_ok-route.ensures.placed c.in_ok-route.ensures.few.1 c.in_ok-route.ensures.few.2 c.in_ok-route.ensures.few.3 c.requires c.args.matrix.now
    c.in-Ok.leaf.node c.in-Ok.ensures.item.0 c.in-Ok.ensures.item.1 c.hold_node.new.records c.hold_node.new.disk c.hold_node.ensures.still c.in-Ok.ensures.keeps.0 c.in-Ok.ensures.keeps.1 c.in-Ok.ensures.ok
    c.in_ok-route.route.passed.items c.in_ok-route.route.last (c.in_ok-route.ensures.route).held
    c.change_at.new.records c.change_at.new.disk c.in-Err-change_at.error (c.in-Err-change_at.ensures.refused (Child (last_position c.args.path.now) (record { node = c.args.node; list = c.in-Ok.ensures.item.0 })) (refl, c.in-Ok.ensures.item.1)))

pub returns-in-None-clause-still : goal.returns-in-None-clause-still
returns-in-None-clause-still g c =
    still_then (still_then c.check_insertion.ensures.still c.hold_node.ensures.still) c.change_at.ensures.still

pub returns-in-None-clause-refused : goal.returns-in-None-clause-refused
returns-in-None-clause-refused g c =
    let kept = put_keeps g.D.Disk c.args.entry c.args.node c.args.path.now c.in_ok-route.ensures.few.0 c.args.records.now c.check_insertion.new.records c.args.disk.now c.check_insertion.new.disk c.check_insertion.ensures.still c.in_ok-route.ensures.runs.0 c.in_ok-route.ensures.runs.1
    c.in_ok-route.ensures.placed c.in_ok-route.ensures.few.1 c.in_ok-route.ensures.few.2 c.in_ok-route.ensures.few.3 c.requires c.args.matrix.now
    c.in-Ok.leaf.node c.in-Ok.ensures.item.0 c.in-Ok.ensures.item.1 c.hold_node.new.records c.hold_node.new.disk c.hold_node.ensures.still c.in-Ok.ensures.keeps.0 c.in-Ok.ensures.keeps.1 c.in-Ok.ensures.ok
    c.in_ok-route.route.passed.items c.in_ok-route.route.last (c.in_ok-route.ensures.route).held
    c.change_at.new.records c.change_at.new.disk c.in-Ok-change_at.changed.row (option_to_list c.in-Ok-change_at.changed.gone) (c.in-Ok-change_at.ensures.ok (Child (last_position c.args.path.now) (record { node = c.args.node; list = c.in-Ok.ensures.item.0 })) (refl, c.in-Ok.ensures.item.1)) c.in-Ok-change_at.ensures.keeps.0 c.in-Ok-change_at.ensures.keeps.1 c.change_at.ensures.still in
    subst (λ (e : EditError). NotEdited g.D.Disk is_of_insertion (insertion_fault c.args.node c.args.path.now (settings_of c.args.records.now).k) (edit_needs (put_node c.args.node c.args.path.now) nodes_in (content_pages c.args.node)) c.args.entry e c.args.records.now c.no_document.new.records c.args.disk.now c.change_at.new.disk) (sym c.no_document.ensures.result) (
      ends_behind kept.0 (c.no_document.ensures.ends (kept.0).after),
      put_none g.D.Disk c.args.entry c.args.node c.args.path.now c.in_ok-route.ensures.few.0 c.args.records.now c.check_insertion.new.records c.args.disk.now c.check_insertion.new.disk c.check_insertion.ensures.still c.in_ok-route.ensures.runs.0 c.in_ok-route.ensures.runs.1
          c.in_ok-route.ensures.placed c.in_ok-route.ensures.few.1 c.in_ok-route.ensures.few.2 c.in_ok-route.ensures.few.3 c.requires c.args.matrix.now
          c.in-Ok.leaf.node c.in-Ok.ensures.item.0 c.in-Ok.ensures.item.1 c.hold_node.new.records c.hold_node.new.disk c.hold_node.ensures.still c.in-Ok.ensures.keeps.0 c.in-Ok.ensures.keeps.1 c.in-Ok.ensures.ok
          c.in_ok-route.route.passed.items c.in_ok-route.route.last (c.in_ok-route.ensures.route).held
          c.change_at.new.records c.change_at.new.disk c.in-Ok-change_at.changed.row (option_to_list c.in-Ok-change_at.changed.gone) (c.in-Ok-change_at.ensures.ok (Child (last_position c.args.path.now) (record { node = c.args.node; list = c.in-Ok.ensures.item.0 })) (refl, c.in-Ok.ensures.item.1)) (none_first c.in-Ok-change_at.changed.row.proxies (sym c.in-None.is ∙ c.first_of.ensures)),
    )

pub returns-clause-still : goal.returns-clause-still
returns-clause-still g c =
    still_then (still_then c.check_insertion.ensures.still c.hold_node.ensures.still) c.change_at.ensures.still

pub returns-clause-allowed : goal.returns-clause-allowed
returns-clause-allowed g c =
    allowed g.D.Disk c.args.entry c.args.node c.args.path.now c.in_ok-route.ensures.few.0 c.args.records.now c.check_insertion.new.records c.args.disk.now c.check_insertion.new.disk c.check_insertion.ensures.still c.in_ok-route.ensures.runs.0 c.in_ok-route.ensures.runs.1
    c.in_ok-route.ensures.placed c.in_ok-route.ensures.few.1 c.in_ok-route.ensures.few.2 c.in_ok-route.ensures.few.3 c.requires c.args.matrix.now

pub returns-clause-ok : goal.returns-clause-ok
returns-clause-ok g c =
    let is : (rest : List Proxy) × (c.in-Ok-change_at.changed.row.proxies ≡ c.in-Some.proxy ∷ rest) = some_first c.in-Ok-change_at.changed.row.proxies c.in-Some.proxy (sym c.in-Some.is ∙ c.first_of.ensures) in
    put_came g.D.Disk c.args.entry c.args.node c.args.path.now c.in_ok-route.ensures.few.0 c.args.records.now c.check_insertion.new.records c.args.disk.now c.check_insertion.new.disk c.check_insertion.ensures.still c.in_ok-route.ensures.runs.0 c.in_ok-route.ensures.runs.1
    c.in_ok-route.ensures.placed c.in_ok-route.ensures.few.1 c.in_ok-route.ensures.few.2 c.in_ok-route.ensures.few.3 c.requires c.args.matrix.now
    c.in-Ok.leaf.node c.in-Ok.ensures.item.0 c.in-Ok.ensures.item.1 c.hold_node.new.records c.hold_node.new.disk c.hold_node.ensures.still c.in-Ok.ensures.keeps.0 c.in-Ok.ensures.keeps.1 c.in-Ok.ensures.ok
    c.in_ok-route.route.passed.items c.in_ok-route.route.last (c.in_ok-route.ensures.route).held
    c.change_at.new.records c.change_at.new.disk c.in-Ok-change_at.ensures.keeps.0 c.in-Ok-change_at.ensures.keeps.1 c.change_at.ensures.still c.in-Ok-change_at.changed.row c.in-Some.proxy is.0 is.1
    c.entry_at.result c.entry_at.ensures.place c.entry_at.ensures.count c.in-Ok-change_at.changed.gone (c.in-Ok-change_at.ensures.ok (Child (last_position c.args.path.now) (record { node = c.args.node; list = c.in-Ok.ensures.item.0 })) (refl, c.in-Ok.ensures.item.1))

pub returns-clause-keeps : goal.returns-clause-keeps
returns-clause-keeps g c =
    let kept = put_keeps g.D.Disk c.args.entry c.args.node c.args.path.now c.in_ok-route.ensures.few.0 c.args.records.now c.check_insertion.new.records c.args.disk.now c.check_insertion.new.disk c.check_insertion.ensures.still c.in_ok-route.ensures.runs.0 c.in_ok-route.ensures.runs.1
    c.in_ok-route.ensures.placed c.in_ok-route.ensures.few.1 c.in_ok-route.ensures.few.2 c.in_ok-route.ensures.few.3 c.requires c.args.matrix.now
    c.in-Ok.leaf.node c.in-Ok.ensures.item.0 c.in-Ok.ensures.item.1 c.hold_node.new.records c.hold_node.new.disk c.hold_node.ensures.still c.in-Ok.ensures.keeps.0 c.in-Ok.ensures.keeps.1 c.in-Ok.ensures.ok
    c.in_ok-route.route.passed.items c.in_ok-route.route.last (c.in_ok-route.ensures.route).held
    c.change_at.new.records c.change_at.new.disk c.in-Ok-change_at.changed.row (option_to_list c.in-Ok-change_at.changed.gone) (c.in-Ok-change_at.ensures.ok (Child (last_position c.args.path.now) (record { node = c.args.node; list = c.in-Ok.ensures.item.0 })) (refl, c.in-Ok.ensures.item.1)) c.in-Ok-change_at.ensures.keeps.0 c.in-Ok-change_at.ensures.keeps.1 c.change_at.ensures.still in
    (kept.0, kept.1, c.in-Ok-change_at.ensures.keeps.2)
