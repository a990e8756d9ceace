use Rattle.std.proofs.Common.{◌≡◌, ◌∷◌, List, true, sym, ap, ◌∙◌, subst}
use Rattle.std.specs.Option.{option_to_list}
use Rattle.std.proofs.lemmas.Result.{err_from_is_err_and}
use Rattle.nx_host.proofs.DiskLemmas.{still_then}
use Rattle.nx_tree.specs.Edit.{retext}
use Rattle.nx_records.specs.Records.{settings_of}
use Rattle.nx_piece.specs.declared.piece.Proxy.{Proxy}
use Rattle.nx_piece.specs.Gapped.{GappedTree}
use Rattle.nx_piece.specs.PieceNode.{PieceNode, IsNearWith, IsFarWith}
use Rattle.nx_hold.specs.Changes.{place_of}
use Rattle.nx_hold.specs.Contents.{bytes_pages}
use Rattle.nx_edit.specs.Changing.{Content}
use Rattle.nx_edit.specs.Editing.{nodes_off}
use Rattle.nx_edit.specs.declared.error.EditError.{EditError}
use Rattle.nx_edit.specs.Refusals.{NotEdited, edit_needs, edit_error}
use Rattle.nx_edit.specs.Retexting.{content_fault, is_of_content}
use Rattle.nx_edit.proofs.RemoveLemmas.{ends_behind}
use Rattle.nx_edit.proofs.DeleteLemmas.{handed_on}
use Rattle.nx_edit.proofs.DocumentLemmas.{change_tells, none_first, some_first}
use Rattle.nx_edit.proofs.RetextCalls.{allowed, hold_refused, set_near, set_far, set_refused, set_none, set_runs, unfreed, set_came, set_keeps}
use Rattle.nx_edit.proofs.ToldLemmas.{told_so, tells}
use Rattle.nx_edit.proofs.retexting.retext.Goals as goal

pub returns-in_err-node-clause-refused : goal.returns-in_err-node-clause-refused
returns-in_err-node-clause-refused g c =
    handed_on c.from_residual.result (λ (e : EditError). NotEdited g.D.Disk is_of_content (content_fault c.args.content c.args.path.now (settings_of c.args.records.now).k) (edit_needs (retext c.args.content c.args.path.now) (nodes_off true c.args.path.now) (bytes_pages c.args.content)) c.args.entry e c.args.records.now c.check_content.new.records c.args.disk.now c.check_content.new.disk)
    c.in_err-node.field-0.0 (err_from_is_err_and c.from_residual.result c.from_residual.ensures.1) c.in_err-node.ensures.refused

pub edit_error-requires : goal.edit_error-requires
edit_error-requires g c =
    tells (edit_error c.in-Err.error) (λ (e : EditError). NotEdited g.D.Disk is_of_content (content_fault c.args.content c.args.path.now (settings_of c.args.records.now).k) (edit_needs (retext c.args.content c.args.path.now) (nodes_off true c.args.path.now) (bytes_pages c.args.content)) c.args.entry e c.args.records.now c.hold_node.new.records c.args.disk.now c.hold_node.new.disk)
    (hold_refused g.D.Disk c.args.entry c.args.content c.args.path.now c.args.records.now c.check_content.new.records c.args.disk.now c.check_content.new.disk c.check_content.ensures.still c.in_ok-node.ensures.runs.0 c.in_ok-node.ensures.runs.1
    c.in_ok-node.node c.in_ok-node.ensures.there c.in_ok-node.ensures.node.1 c.in_ok-node.ensures.node.0 c.in_ok-node.ensures.node.2 c.in_ok-node.ensures.node.3 c.args.matrix.now
    c.hold_node.new.records c.hold_node.new.disk c.hold_node.ensures.still c.in-Err.error c.in-Err.ensures.refused)

pub returns-in-Err-clause-still : goal.returns-in-Err-clause-still
returns-in-Err-clause-still g c =
    still_then c.check_content.ensures.still c.hold_node.ensures.still

pub returns-in-Err-clause-refused : goal.returns-in-Err-clause-refused
returns-in-Err-clause-refused g c =
    told_so (edit_error c.in-Err.error) (λ (e : EditError). NotEdited g.D.Disk is_of_content (content_fault c.args.content c.args.path.now (settings_of c.args.records.now).k) (edit_needs (retext c.args.content c.args.path.now) (nodes_off true c.args.path.now) (bytes_pages c.args.content)) c.args.entry e c.args.records.now c.hold_node.new.records c.args.disk.now c.hold_node.new.disk) c.edit_error.result c.edit_error.ensures
    (hold_refused g.D.Disk c.args.entry c.args.content c.args.path.now c.args.records.now c.check_content.new.records c.args.disk.now c.check_content.new.disk c.check_content.ensures.still c.in_ok-node.ensures.runs.0 c.in_ok-node.ensures.runs.1
    c.in_ok-node.node c.in_ok-node.ensures.there c.in_ok-node.ensures.node.1 c.in_ok-node.ensures.node.0 c.in_ok-node.ensures.node.2 c.in_ok-node.ensures.node.3 c.args.matrix.now
    c.hold_node.new.records c.hold_node.new.disk c.hold_node.ensures.still c.in-Err.error c.in-Err.ensures.refused)

pub change_at-requires-clause-runs : goal.change_at-requires-clause-runs
change_at-requires-clause-runs g c =
    (c.in-Ok.ensures.keeps.0).after

pub change_at-requires-clause-ends : goal.change_at-requires-clause-ends
change_at-requires-clause-ends g c =
    (c.in_ok-node.ensures.route).ends

pub change_at-requires-clause-written : goal.change_at-requires-clause-written
change_at-requires-clause-written g c =
    let same : record { node = c.leaf.inside.node; far = c.leaf.inside.far } ≡ c.in-Ok.leaf.node = ap (λ (t : GappedTree). t.node) c.leaf.view_is in
    subst (λ (n : PieceNode). IsNearWith n.node.content n.far × IsFarWith n.node.content n.far) (sym same) (c.in-Ok.ensures.near.0.0, c.in-Ok.ensures.near.1.0)

pub edit_error-requires-in-Err-change_at : goal.edit_error-requires-in-Err-change_at
edit_error-requires-in-Err-change_at g c =
    change_tells g.D.Disk c.args.matrix.now (Content c.args.content c.in-Ok.ensures.item.0) (place_of c.args.entry.root) 0 c.args.path.now
    c.hold_node.new.records c.change_at.new.records c.hold_node.new.disk c.change_at.new.disk c.in_ok-node.route.passed.items c.in_ok-node.route.last c.in-Err-change_at.error (c.in-Err-change_at.ensures.refused (Content c.args.content c.in-Ok.ensures.item.0) (
      ap (λ (t : GappedTree). t.node.node.content) c.leaf.view_is ∙ set_near g.D.Disk c.args.entry c.args.content c.args.path.now c.args.records.now c.check_content.new.records c.args.disk.now c.check_content.new.disk c.check_content.ensures.still c.in_ok-node.ensures.runs.0 c.in_ok-node.ensures.runs.1
          c.in_ok-node.node c.in_ok-node.ensures.there c.in_ok-node.ensures.node.1 c.in_ok-node.ensures.node.0 c.in_ok-node.ensures.node.2 c.in_ok-node.ensures.node.3 c.args.matrix.now c.in-Ok.leaf.node c.in-Ok.ensures.item.0 c.in-Ok.ensures.item.1,
      ap (λ (t : GappedTree). t.node.far) c.leaf.view_is ∙ set_far g.D.Disk c.args.entry c.args.content c.args.path.now c.args.records.now c.check_content.new.records c.args.disk.now c.check_content.new.disk c.check_content.ensures.still c.in_ok-node.ensures.runs.0 c.in_ok-node.ensures.runs.1
          c.in_ok-node.node c.in_ok-node.ensures.there c.in_ok-node.ensures.node.1 c.in_ok-node.ensures.node.0 c.in_ok-node.ensures.node.2 c.in_ok-node.ensures.node.3 c.args.matrix.now c.in-Ok.leaf.node c.in-Ok.ensures.item.0 c.in-Ok.ensures.item.1,
    ))

pub returns-in-Err-change_at-clause-still : goal.returns-in-Err-change_at-clause-still
returns-in-Err-change_at-clause-still g c =
    still_then (still_then c.check_content.ensures.still c.hold_node.ensures.still) c.change_at.ensures.still

pub returns-in-Err-change_at-clause-refused : goal.returns-in-Err-change_at-clause-refused
returns-in-Err-change_at-clause-refused g c =
    told_so (edit_error c.in-Err-change_at.error) (λ (e : EditError). NotEdited g.D.Disk is_of_content (content_fault c.args.content c.args.path.now (settings_of c.args.records.now).k) (edit_needs (retext c.args.content c.args.path.now) (nodes_off true c.args.path.now) (bytes_pages c.args.content)) c.args.entry e c.args.records.now c.change_at.new.records c.args.disk.now c.change_at.new.disk) c.edit_error-in-Err-change_at.result c.edit_error-in-Err-change_at.ensures
    (set_refused g.D.Disk c.args.entry c.args.content c.args.path.now c.args.records.now c.check_content.new.records c.args.disk.now c.check_content.new.disk c.check_content.ensures.still c.in_ok-node.ensures.runs.0 c.in_ok-node.ensures.runs.1
    c.in_ok-node.node c.in_ok-node.ensures.there c.in_ok-node.ensures.node.1 c.in_ok-node.ensures.node.0 c.in_ok-node.ensures.node.2 c.in_ok-node.ensures.node.3 c.args.matrix.now
    c.in-Ok.leaf.node c.in-Ok.ensures.item.0 c.in-Ok.ensures.item.1 c.hold_node.new.records c.hold_node.new.disk c.hold_node.ensures.still c.in-Ok.ensures.keeps.0 c.in-Ok.ensures.keeps.1 c.in-Ok.ensures.ok
    c.in_ok-node.route.passed.items c.in_ok-node.route.last (c.in_ok-node.ensures.route).held
    c.change_at.new.records c.change_at.new.disk c.in-Err-change_at.error (c.in-Err-change_at.ensures.refused (Content c.args.content c.in-Ok.ensures.item.0) (
      ap (λ (t : GappedTree). t.node.node.content) c.leaf.view_is ∙ set_near g.D.Disk c.args.entry c.args.content c.args.path.now c.args.records.now c.check_content.new.records c.args.disk.now c.check_content.new.disk c.check_content.ensures.still c.in_ok-node.ensures.runs.0 c.in_ok-node.ensures.runs.1
          c.in_ok-node.node c.in_ok-node.ensures.there c.in_ok-node.ensures.node.1 c.in_ok-node.ensures.node.0 c.in_ok-node.ensures.node.2 c.in_ok-node.ensures.node.3 c.args.matrix.now c.in-Ok.leaf.node c.in-Ok.ensures.item.0 c.in-Ok.ensures.item.1,
      ap (λ (t : GappedTree). t.node.far) c.leaf.view_is ∙ set_far g.D.Disk c.args.entry c.args.content c.args.path.now c.args.records.now c.check_content.new.records c.args.disk.now c.check_content.new.disk c.check_content.ensures.still c.in_ok-node.ensures.runs.0 c.in_ok-node.ensures.runs.1
          c.in_ok-node.node c.in_ok-node.ensures.there c.in_ok-node.ensures.node.1 c.in_ok-node.ensures.node.0 c.in_ok-node.ensures.node.2 c.in_ok-node.ensures.node.3 c.args.matrix.now c.in-Ok.leaf.node c.in-Ok.ensures.item.0 c.in-Ok.ensures.item.1,
    )))

pub returns-in_default-clause-still : goal.returns-in_default-clause-still
returns-in_default-clause-still g c =
    still_then (still_then c.check_content.ensures.still c.hold_node.ensures.still) c.change_at.ensures.still

pub returns-in_default-clause-refused : goal.returns-in_default-clause-refused
returns-in_default-clause-refused g c =
    let run = set_runs g.D.Disk c.args.entry c.args.content c.args.path.now c.args.records.now c.check_content.new.records c.args.disk.now c.check_content.new.disk c.check_content.ensures.still c.in_ok-node.ensures.runs.0 c.in_ok-node.ensures.runs.1
    c.in_ok-node.node c.in_ok-node.ensures.there c.in_ok-node.ensures.node.1 c.in_ok-node.ensures.node.0 c.in_ok-node.ensures.node.2 c.in_ok-node.ensures.node.3 c.args.matrix.now
    c.in-Ok.leaf.node c.in-Ok.ensures.item.0 c.in-Ok.ensures.item.1 c.hold_node.new.records c.hold_node.new.disk c.hold_node.ensures.still c.in-Ok.ensures.keeps.0 c.in-Ok.ensures.keeps.1 c.in-Ok.ensures.ok
    c.in_ok-node.route.passed.items c.in_ok-node.route.last (c.in_ok-node.ensures.route).held
    c.change_at.new.records c.change_at.new.disk c.in-Ok-change_at.changed.row (option_to_list c.in-Ok-change_at.changed.gone) (c.in-Ok-change_at.ensures.ok (Content c.args.content c.in-Ok.ensures.item.0) (
      ap (λ (t : GappedTree). t.node.node.content) c.leaf.view_is ∙ set_near g.D.Disk c.args.entry c.args.content c.args.path.now c.args.records.now c.check_content.new.records c.args.disk.now c.check_content.new.disk c.check_content.ensures.still c.in_ok-node.ensures.runs.0 c.in_ok-node.ensures.runs.1
          c.in_ok-node.node c.in_ok-node.ensures.there c.in_ok-node.ensures.node.1 c.in_ok-node.ensures.node.0 c.in_ok-node.ensures.node.2 c.in_ok-node.ensures.node.3 c.args.matrix.now c.in-Ok.leaf.node c.in-Ok.ensures.item.0 c.in-Ok.ensures.item.1,
      ap (λ (t : GappedTree). t.node.far) c.leaf.view_is ∙ set_far g.D.Disk c.args.entry c.args.content c.args.path.now c.args.records.now c.check_content.new.records c.args.disk.now c.check_content.new.disk c.check_content.ensures.still c.in_ok-node.ensures.runs.0 c.in_ok-node.ensures.runs.1
          c.in_ok-node.node c.in_ok-node.ensures.there c.in_ok-node.ensures.node.1 c.in_ok-node.ensures.node.0 c.in_ok-node.ensures.node.2 c.in_ok-node.ensures.node.3 c.args.matrix.now c.in-Ok.leaf.node c.in-Ok.ensures.item.0 c.in-Ok.ensures.item.1,
    )) c.in-Ok-change_at.ensures.keeps.0 c.in-Ok-change_at.ensures.keeps.1 c.change_at.ensures.still c.change_at.new.records c.change_at.new.disk in
    subst (λ (e : EditError). NotEdited g.D.Disk is_of_content (content_fault c.args.content c.args.path.now (settings_of c.args.records.now).k) (edit_needs (retext c.args.content c.args.path.now) (nodes_off true c.args.path.now) (bytes_pages c.args.content)) c.args.entry e c.args.records.now c.no_document.new.records c.args.disk.now c.change_at.new.disk) (sym c.no_document.ensures.result) (
      ends_behind run (c.no_document.ensures.ends run.after),
      set_none g.D.Disk c.args.entry c.args.content c.args.path.now c.args.records.now c.check_content.new.records c.args.disk.now c.check_content.new.disk c.check_content.ensures.still c.in_ok-node.ensures.runs.0 c.in_ok-node.ensures.runs.1
          c.in_ok-node.node c.in_ok-node.ensures.there c.in_ok-node.ensures.node.1 c.in_ok-node.ensures.node.0 c.in_ok-node.ensures.node.2 c.in_ok-node.ensures.node.3 c.args.matrix.now
          c.in-Ok.leaf.node c.in-Ok.ensures.item.0 c.in-Ok.ensures.item.1 c.hold_node.new.records c.hold_node.new.disk c.hold_node.ensures.still c.in-Ok.ensures.keeps.0 c.in-Ok.ensures.keeps.1 c.in-Ok.ensures.ok
          c.in_ok-node.route.passed.items c.in_ok-node.route.last (c.in_ok-node.ensures.route).held
          c.change_at.new.records c.change_at.new.disk c.in-Ok-change_at.changed.row (option_to_list c.in-Ok-change_at.changed.gone) (c.in-Ok-change_at.ensures.ok (Content c.args.content c.in-Ok.ensures.item.0) (
            ap (λ (t : GappedTree). t.node.node.content) c.leaf.view_is ∙ set_near g.D.Disk c.args.entry c.args.content c.args.path.now c.args.records.now c.check_content.new.records c.args.disk.now c.check_content.new.disk c.check_content.ensures.still c.in_ok-node.ensures.runs.0 c.in_ok-node.ensures.runs.1
                c.in_ok-node.node c.in_ok-node.ensures.there c.in_ok-node.ensures.node.1 c.in_ok-node.ensures.node.0 c.in_ok-node.ensures.node.2 c.in_ok-node.ensures.node.3 c.args.matrix.now c.in-Ok.leaf.node c.in-Ok.ensures.item.0 c.in-Ok.ensures.item.1,
            ap (λ (t : GappedTree). t.node.far) c.leaf.view_is ∙ set_far g.D.Disk c.args.entry c.args.content c.args.path.now c.args.records.now c.check_content.new.records c.args.disk.now c.check_content.new.disk c.check_content.ensures.still c.in_ok-node.ensures.runs.0 c.in_ok-node.ensures.runs.1
                c.in_ok-node.node c.in_ok-node.ensures.there c.in_ok-node.ensures.node.1 c.in_ok-node.ensures.node.0 c.in_ok-node.ensures.node.2 c.in_ok-node.ensures.node.3 c.args.matrix.now c.in-Ok.leaf.node c.in-Ok.ensures.item.0 c.in-Ok.ensures.item.1,
          )) (none_first c.in-Ok-change_at.changed.row.proxies (sym c.in_default.is ∙ c.first_of.ensures)),
    )

pub free_one-requires : goal.free_one-requires
free_one-requires g c =
    record { runs = (c.in-Ok-change_at.ensures.keeps.0).after }

pub edit_error-requires-in-Err-free_one : goal.edit_error-requires-in-Err-free_one
edit_error-requires-in-Err-free_one g c =
    tells (edit_error c.in-Err-free_one.error) (λ (e : EditError). NotEdited g.D.Disk is_of_content (content_fault c.args.content c.args.path.now (settings_of c.args.records.now).k) (edit_needs (retext c.args.content c.args.path.now) (nodes_off true c.args.path.now) (bytes_pages c.args.content)) c.args.entry e c.args.records.now c.free_one.new.records c.args.disk.now c.free_one.new.disk)
    (unfreed g.D.Disk c.args.entry c.args.content c.args.path.now c.args.records.now c.check_content.new.records c.args.disk.now c.check_content.new.disk c.check_content.ensures.still c.in_ok-node.ensures.runs.0 c.in_ok-node.ensures.runs.1
    c.in_ok-node.node c.in_ok-node.ensures.there c.in_ok-node.ensures.node.1 c.in_ok-node.ensures.node.0 c.in_ok-node.ensures.node.2 c.in_ok-node.ensures.node.3 c.args.matrix.now
    c.in-Ok.leaf.node c.in-Ok.ensures.item.0 c.in-Ok.ensures.item.1 c.hold_node.new.records c.hold_node.new.disk c.hold_node.ensures.still c.in-Ok.ensures.keeps.0 c.in-Ok.ensures.keeps.1 c.in-Ok.ensures.ok
    c.in_ok-node.route.passed.items c.in_ok-node.route.last (c.in_ok-node.ensures.route).held
    c.change_at.new.records c.change_at.new.disk c.in-Ok-change_at.changed.row (option_to_list c.in-Ok-change_at.changed.gone) (c.in-Ok-change_at.ensures.ok (Content c.args.content c.in-Ok.ensures.item.0) (
      ap (λ (t : GappedTree). t.node.node.content) c.leaf.view_is ∙ set_near g.D.Disk c.args.entry c.args.content c.args.path.now c.args.records.now c.check_content.new.records c.args.disk.now c.check_content.new.disk c.check_content.ensures.still c.in_ok-node.ensures.runs.0 c.in_ok-node.ensures.runs.1
          c.in_ok-node.node c.in_ok-node.ensures.there c.in_ok-node.ensures.node.1 c.in_ok-node.ensures.node.0 c.in_ok-node.ensures.node.2 c.in_ok-node.ensures.node.3 c.args.matrix.now c.in-Ok.leaf.node c.in-Ok.ensures.item.0 c.in-Ok.ensures.item.1,
      ap (λ (t : GappedTree). t.node.far) c.leaf.view_is ∙ set_far g.D.Disk c.args.entry c.args.content c.args.path.now c.args.records.now c.check_content.new.records c.args.disk.now c.check_content.new.disk c.check_content.ensures.still c.in_ok-node.ensures.runs.0 c.in_ok-node.ensures.runs.1
          c.in_ok-node.node c.in_ok-node.ensures.there c.in_ok-node.ensures.node.1 c.in_ok-node.ensures.node.0 c.in_ok-node.ensures.node.2 c.in_ok-node.ensures.node.3 c.args.matrix.now c.in-Ok.leaf.node c.in-Ok.ensures.item.0 c.in-Ok.ensures.item.1,
    )) c.in-Ok-change_at.ensures.keeps.0 c.in-Ok-change_at.ensures.keeps.1 c.change_at.ensures.still c.free_one.new.records c.free_one.new.disk c.in-Err-free_one.error c.in-Err-free_one.ensures.refused)

pub returns-in-Err-free_one-clause-still : goal.returns-in-Err-free_one-clause-still
returns-in-Err-free_one-clause-still g c =
    still_then (still_then (still_then c.check_content.ensures.still c.hold_node.ensures.still) c.change_at.ensures.still) c.free_one.ensures.still

pub returns-in-Err-free_one-clause-refused : goal.returns-in-Err-free_one-clause-refused
returns-in-Err-free_one-clause-refused g c =
    told_so (edit_error c.in-Err-free_one.error) (λ (e : EditError). NotEdited g.D.Disk is_of_content (content_fault c.args.content c.args.path.now (settings_of c.args.records.now).k) (edit_needs (retext c.args.content c.args.path.now) (nodes_off true c.args.path.now) (bytes_pages c.args.content)) c.args.entry e c.args.records.now c.free_one.new.records c.args.disk.now c.free_one.new.disk) c.edit_error-in-Err-free_one.result c.edit_error-in-Err-free_one.ensures
    (unfreed g.D.Disk c.args.entry c.args.content c.args.path.now c.args.records.now c.check_content.new.records c.args.disk.now c.check_content.new.disk c.check_content.ensures.still c.in_ok-node.ensures.runs.0 c.in_ok-node.ensures.runs.1
    c.in_ok-node.node c.in_ok-node.ensures.there c.in_ok-node.ensures.node.1 c.in_ok-node.ensures.node.0 c.in_ok-node.ensures.node.2 c.in_ok-node.ensures.node.3 c.args.matrix.now
    c.in-Ok.leaf.node c.in-Ok.ensures.item.0 c.in-Ok.ensures.item.1 c.hold_node.new.records c.hold_node.new.disk c.hold_node.ensures.still c.in-Ok.ensures.keeps.0 c.in-Ok.ensures.keeps.1 c.in-Ok.ensures.ok
    c.in_ok-node.route.passed.items c.in_ok-node.route.last (c.in_ok-node.ensures.route).held
    c.change_at.new.records c.change_at.new.disk c.in-Ok-change_at.changed.row (option_to_list c.in-Ok-change_at.changed.gone) (c.in-Ok-change_at.ensures.ok (Content c.args.content c.in-Ok.ensures.item.0) (
      ap (λ (t : GappedTree). t.node.node.content) c.leaf.view_is ∙ set_near g.D.Disk c.args.entry c.args.content c.args.path.now c.args.records.now c.check_content.new.records c.args.disk.now c.check_content.new.disk c.check_content.ensures.still c.in_ok-node.ensures.runs.0 c.in_ok-node.ensures.runs.1
          c.in_ok-node.node c.in_ok-node.ensures.there c.in_ok-node.ensures.node.1 c.in_ok-node.ensures.node.0 c.in_ok-node.ensures.node.2 c.in_ok-node.ensures.node.3 c.args.matrix.now c.in-Ok.leaf.node c.in-Ok.ensures.item.0 c.in-Ok.ensures.item.1,
      ap (λ (t : GappedTree). t.node.far) c.leaf.view_is ∙ set_far g.D.Disk c.args.entry c.args.content c.args.path.now c.args.records.now c.check_content.new.records c.args.disk.now c.check_content.new.disk c.check_content.ensures.still c.in_ok-node.ensures.runs.0 c.in_ok-node.ensures.runs.1
          c.in_ok-node.node c.in_ok-node.ensures.there c.in_ok-node.ensures.node.1 c.in_ok-node.ensures.node.0 c.in_ok-node.ensures.node.2 c.in_ok-node.ensures.node.3 c.args.matrix.now c.in-Ok.leaf.node c.in-Ok.ensures.item.0 c.in-Ok.ensures.item.1,
    )) c.in-Ok-change_at.ensures.keeps.0 c.in-Ok-change_at.ensures.keeps.1 c.change_at.ensures.still c.free_one.new.records c.free_one.new.disk c.in-Err-free_one.error c.in-Err-free_one.ensures.refused)

pub returns-clause-still : goal.returns-clause-still
returns-clause-still g c =
    still_then (still_then (still_then c.check_content.ensures.still c.hold_node.ensures.still) c.change_at.ensures.still) c.free_one.ensures.still

pub returns-clause-allowed : goal.returns-clause-allowed
returns-clause-allowed g c =
    allowed g.D.Disk c.args.entry c.args.content c.args.path.now c.args.records.now c.check_content.new.records c.args.disk.now c.check_content.new.disk c.check_content.ensures.still c.in_ok-node.ensures.runs.0 c.in_ok-node.ensures.runs.1
    c.in_ok-node.node c.in_ok-node.ensures.there c.in_ok-node.ensures.node.1 c.in_ok-node.ensures.node.0 c.in_ok-node.ensures.node.2 c.in_ok-node.ensures.node.3 c.args.matrix.now

pub returns-clause-ok : goal.returns-clause-ok
returns-clause-ok g c =
    let is : (rest : List Proxy) × (c.in-Ok-change_at.changed.row.proxies ≡ c.in-Some.proxy ∷ rest) = some_first c.in-Ok-change_at.changed.row.proxies c.in-Some.proxy (sym c.in-Some.is ∙ c.first_of.ensures) in
    set_came g.D.Disk c.args.entry c.args.content c.args.path.now c.args.records.now c.check_content.new.records c.args.disk.now c.check_content.new.disk c.check_content.ensures.still c.in_ok-node.ensures.runs.0 c.in_ok-node.ensures.runs.1
    c.in_ok-node.node c.in_ok-node.ensures.there c.in_ok-node.ensures.node.1 c.in_ok-node.ensures.node.0 c.in_ok-node.ensures.node.2 c.in_ok-node.ensures.node.3 c.args.matrix.now
    c.in-Ok.leaf.node c.in-Ok.ensures.item.0 c.in-Ok.ensures.item.1 c.hold_node.new.records c.hold_node.new.disk c.hold_node.ensures.still c.in-Ok.ensures.keeps.0 c.in-Ok.ensures.keeps.1 c.in-Ok.ensures.ok
    c.in_ok-node.route.passed.items c.in_ok-node.route.last (c.in_ok-node.ensures.route).held
    c.change_at.new.records c.change_at.new.disk c.in-Ok-change_at.changed.row (option_to_list c.in-Ok-change_at.changed.gone) (c.in-Ok-change_at.ensures.ok (Content c.args.content c.in-Ok.ensures.item.0) (
      ap (λ (t : GappedTree). t.node.node.content) c.leaf.view_is ∙ set_near g.D.Disk c.args.entry c.args.content c.args.path.now c.args.records.now c.check_content.new.records c.args.disk.now c.check_content.new.disk c.check_content.ensures.still c.in_ok-node.ensures.runs.0 c.in_ok-node.ensures.runs.1
          c.in_ok-node.node c.in_ok-node.ensures.there c.in_ok-node.ensures.node.1 c.in_ok-node.ensures.node.0 c.in_ok-node.ensures.node.2 c.in_ok-node.ensures.node.3 c.args.matrix.now c.in-Ok.leaf.node c.in-Ok.ensures.item.0 c.in-Ok.ensures.item.1,
      ap (λ (t : GappedTree). t.node.far) c.leaf.view_is ∙ set_far g.D.Disk c.args.entry c.args.content c.args.path.now c.args.records.now c.check_content.new.records c.args.disk.now c.check_content.new.disk c.check_content.ensures.still c.in_ok-node.ensures.runs.0 c.in_ok-node.ensures.runs.1
          c.in_ok-node.node c.in_ok-node.ensures.there c.in_ok-node.ensures.node.1 c.in_ok-node.ensures.node.0 c.in_ok-node.ensures.node.2 c.in_ok-node.ensures.node.3 c.args.matrix.now c.in-Ok.leaf.node c.in-Ok.ensures.item.0 c.in-Ok.ensures.item.1,
    )) c.in-Ok-change_at.ensures.keeps.0 c.in-Ok-change_at.ensures.keeps.1 c.change_at.ensures.still c.free_one.new.records c.free_one.new.disk c.in_default-free_one.ensures.ok c.in-Some.proxy is.0
    c.entry_at.result is.1 c.entry_at.ensures.place c.entry_at.ensures.count

pub returns-clause-keeps : goal.returns-clause-keeps
returns-clause-keeps g c =
    let kept = set_keeps g.D.Disk c.args.entry c.args.content c.args.path.now c.args.records.now c.check_content.new.records c.args.disk.now c.check_content.new.disk c.check_content.ensures.still c.in_ok-node.ensures.runs.0 c.in_ok-node.ensures.runs.1
    c.in_ok-node.node c.in_ok-node.ensures.there c.in_ok-node.ensures.node.1 c.in_ok-node.ensures.node.0 c.in_ok-node.ensures.node.2 c.in_ok-node.ensures.node.3 c.args.matrix.now
    c.in-Ok.leaf.node c.in-Ok.ensures.item.0 c.in-Ok.ensures.item.1 c.hold_node.new.records c.hold_node.new.disk c.hold_node.ensures.still c.in-Ok.ensures.keeps.0 c.in-Ok.ensures.keeps.1 c.in-Ok.ensures.ok
    c.in_ok-node.route.passed.items c.in_ok-node.route.last (c.in_ok-node.ensures.route).held
    c.change_at.new.records c.change_at.new.disk c.in-Ok-change_at.changed.row (option_to_list c.in-Ok-change_at.changed.gone) (c.in-Ok-change_at.ensures.ok (Content c.args.content c.in-Ok.ensures.item.0) (
      ap (λ (t : GappedTree). t.node.node.content) c.leaf.view_is ∙ set_near g.D.Disk c.args.entry c.args.content c.args.path.now c.args.records.now c.check_content.new.records c.args.disk.now c.check_content.new.disk c.check_content.ensures.still c.in_ok-node.ensures.runs.0 c.in_ok-node.ensures.runs.1
          c.in_ok-node.node c.in_ok-node.ensures.there c.in_ok-node.ensures.node.1 c.in_ok-node.ensures.node.0 c.in_ok-node.ensures.node.2 c.in_ok-node.ensures.node.3 c.args.matrix.now c.in-Ok.leaf.node c.in-Ok.ensures.item.0 c.in-Ok.ensures.item.1,
      ap (λ (t : GappedTree). t.node.far) c.leaf.view_is ∙ set_far g.D.Disk c.args.entry c.args.content c.args.path.now c.args.records.now c.check_content.new.records c.args.disk.now c.check_content.new.disk c.check_content.ensures.still c.in_ok-node.ensures.runs.0 c.in_ok-node.ensures.runs.1
          c.in_ok-node.node c.in_ok-node.ensures.there c.in_ok-node.ensures.node.1 c.in_ok-node.ensures.node.0 c.in_ok-node.ensures.node.2 c.in_ok-node.ensures.node.3 c.args.matrix.now c.in-Ok.leaf.node c.in-Ok.ensures.item.0 c.in-Ok.ensures.item.1,
    )) c.in-Ok-change_at.ensures.keeps.0 c.in-Ok-change_at.ensures.keeps.1 c.change_at.ensures.still c.free_one.new.records c.free_one.new.disk c.in_default-free_one.ensures.keeps.0 c.in_default-free_one.ensures.keeps.1 in
    (kept.0, kept.1, c.in_default-free_one.ensures.keeps.2 c.in-Ok-change_at.ensures.keeps.2)
