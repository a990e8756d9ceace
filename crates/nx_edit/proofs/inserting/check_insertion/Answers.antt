use Rattle.std.proofs.Common.{◌≡◌, ◌<◌, ◌≤◌, length, refl, sym, ap, ◌∙◌, arith}
use Rattle.std.proofs.lemmas.Result.{err_from_is_err_and}
use Rattle.nx_holdings.specs.declared.header.Settings.{Settings}
use Rattle.nx_holdings.specs.declared.header.Header.{Header}
use Rattle.nx_tree.specs.Document.{deepest, most_nodes}
use Rattle.nx_tree.specs.Edit.{put as put_node, parent_path, last_position}
use Rattle.nx_records.specs.Records.{settings_of}
use Rattle.nx_layouts.specs.Layout.{nodes_in}
use Rattle.nx_hold.specs.Contents.{content_pages}
use Rattle.nx_edit.specs.declared.error.EditError.{EditError}
use Rattle.nx_edit.specs.Refusals.{NotEdited, edit_needs}
use Rattle.nx_edit.specs.Inserting.{insertion_fault, is_of_insertion, place_fault}
use Rattle.nx_edit.proofs.RemoveLemmas.{tested_some}
use Rattle.nx_edit.proofs.DeleteLemmas.{handed_on}
use Rattle.nx_edit.proofs.DocumentLemmas.{fault_passed}
use Rattle.nx_edit.proofs.InsertLemmas.{place_first, deep_refused, many_refused, heavy_refused}
use Rattle.nx_edit.proofs.inserting.check_insertion.Goals as goal

pub returns-in_err-route-clause-refused : goal.returns-in_err-route-clause-refused
returns-in_err-route-clause-refused g c =
    handed_on c.from_residual.result (λ (e : EditError). NotEdited g.D.Disk is_of_insertion (insertion_fault c.args.node.now c.args.path.now (settings_of c.args.records.now).k) (edit_needs (put_node c.args.node.now c.args.path.now) nodes_in (content_pages c.args.node.now)) c.args.entry e c.args.records.now c.check_place.new.records c.args.disk.now c.check_place.new.disk)
    c.in_err-route.field-0.0 (err_from_is_err_and c.from_residual.result c.from_residual.ensures.1)
    (fault_passed g.D.Disk c.args.records.now c.check_place.new.records c.args.disk.now c.check_place.new.disk c.check_place.ensures.still is_of_insertion (place_fault c.args.node.now (last_position c.args.path.now) (parent_path c.args.path.now))
    (insertion_fault c.args.node.now c.args.path.now (settings_of c.args.records.now).k) (edit_needs (put_node c.args.node.now c.args.path.now) nodes_in (content_pages c.args.node.now)) c.args.entry
    (λ t e is. place_first c.args.node.now c.args.path.now (settings_of c.args.records.now).k t e (λ none. tested_some (length c.args.path.now) (sym c.is_empty.ensures ∙ c.if-is_empty.false) (ap length none)) is)
    c.in_err-route.field-0.0 c.in_err-route.ensures.refused)

pub returns-then-path-gt-DEEPEST-clause-refused : goal.returns-then-path-gt-DEEPEST-clause-refused
returns-then-path-gt-DEEPEST-clause-refused g c =
    deep_refused g.D.Disk c.args.entry c.args.node.now c.args.path.now (λ none. tested_some (length c.args.path.now) (sym c.is_empty.ensures ∙ c.if-is_empty.false) (ap length none))
    c.args.records.now c.check_place.new.records c.args.disk.now c.check_place.new.disk c.check_place.ensures.still (sym c.is_ended.ensures ∙ c.if-is_ended.false) c.in_ok-route.ensures.ok.0 (last_position c.args.path.now) (parent_path c.args.path.now) refl refl c.in_ok-route.ensures.ok.1 c.if-path-gt-DEEPEST.true

pub returns-then-entry-ge-MOST_NODES-clause-refused : goal.returns-then-entry-ge-MOST_NODES-clause-refused
returns-then-entry-ge-MOST_NODES-clause-refused g c =
    let shallow : length c.args.path.now ≤ deepest = let not = c.if-path-gt-DEEPEST.false in omega (arith, not) in
    many_refused g.D.Disk c.args.entry c.args.node.now c.args.path.now (λ none. tested_some (length c.args.path.now) (sym c.is_empty.ensures ∙ c.if-is_empty.false) (ap length none))
    c.args.records.now c.check_place.new.records c.args.disk.now c.check_place.new.disk c.check_place.ensures.still (sym c.is_ended.ensures ∙ c.if-is_ended.false) c.in_ok-route.ensures.ok.0 (last_position c.args.path.now) (parent_path c.args.path.now) refl refl c.in_ok-route.ensures.ok.1 shallow
    (let many = c.if-entry-ge-MOST_NODES.true in omega (arith, many))

pub returns-then-heavy-settings-clause-refused : goal.returns-then-heavy-settings-clause-refused
returns-then-heavy-settings-clause-refused g c =
    let shallow : length c.args.path.now ≤ deepest = let not = c.if-path-gt-DEEPEST.false in omega (arith, not) in
    let few : c.args.entry.nodes < most_nodes = let not = c.if-entry-ge-MOST_NODES.false in omega (arith, not) in
    let same : (c.settings.result).k ≡ (settings_of c.args.records.now).k = ap (λ (s : Settings). s.k) c.settings.ensures ∙ ap (λ (h : Header). (h.settings).k) (c.in_ok-route.ensures.ok.0).head_stays in
    heavy_refused g.D.Disk c.args.entry c.args.node.now c.args.path.now (λ none. tested_some (length c.args.path.now) (sym c.is_empty.ensures ∙ c.if-is_empty.false) (ap length none))
    c.args.records.now c.check_place.new.records c.args.disk.now c.check_place.new.disk c.check_place.ensures.still (sym c.is_ended.ensures ∙ c.if-is_ended.false) c.in_ok-route.ensures.ok.0 (last_position c.args.path.now) (parent_path c.args.path.now) refl refl c.in_ok-route.ensures.ok.1 shallow few
    c.weight-heavy.result (c.settings.result).k c.weight-heavy.ensures same c.if-heavy-settings.true
