use Rattle.std.proofs.Common.{◌≡◌, None, true, refl, sym, ap, ◌∙◌}
use Rattle.nx_holdings.specs.declared.header.Settings.{Settings}
use Rattle.nx_holdings.specs.declared.header.Header.{Header}
use Rattle.nx_tree.specs.Edit.{at, retext}
use Rattle.nx_cuts.specs.Cut.{tree_of}
use Rattle.nx_nav.specs.Refusals.{OfEach}
use Rattle.nx_records.specs.Records.{settings_of}
use Rattle.nx_hold.specs.Changes.{place_of}
use Rattle.nx_hold.specs.Contents.{bytes_pages}
use Rattle.nx_edit.specs.Editing.{nodes_off}
use Rattle.nx_edit.specs.Refusals.{NotEdited, edit_needs, seen_error}
use Rattle.nx_edit.specs.Retexting.{content_fault, is_of_content}
use Rattle.nx_edit.specs.declared.error.EditError.{EditError}
use Rattle.nx_edit.proofs.DocumentLemmas.{seen_refused}
use Rattle.nx_edit.proofs.RetextLemmas.{fault_missing, node_with, long_refused, parent_refused, heavy_refused}
use Rattle.nx_edit.proofs.ToldLemmas.{told_so}
use Rattle.nx_edit.proofs.retexting.check_content.Goals as goal

pub returns-in-Err-clause-refused : goal.returns-in-Err-clause-refused
returns-in-Err-clause-refused g c =
    told_so (seen_error c.in-Err.error) (λ (e : EditError). NotEdited g.D.Disk is_of_content (content_fault c.args.content c.args.path.now (settings_of c.args.records.now).k) (edit_needs (retext c.args.content c.args.path.now) (nodes_off true c.args.path.now) (bytes_pages c.args.content)) c.args.entry e c.args.records.now c.get_route.new.records c.args.disk.now c.get_route.new.disk) c.seen_error.result c.seen_error.ensures
    (seen_refused g.D.Disk c.args.records.now c.get_route.new.records c.args.disk.now c.get_route.new.disk c.get_route.ensures.still is_of_content (content_fault c.args.content c.args.path.now (settings_of c.args.records.now).k)
    (edit_needs (retext c.args.content c.args.path.now) (nodes_off true c.args.path.now) (bytes_pages c.args.content)) c.args.entry refl
    (OfEach g.D.Disk c.args.records.now c.args.disk.now (place_of c.args.entry.root) (λ document. at (tree_of document) c.args.path.now ≡ None))
    (λ none document has. fault_missing c.args.content c.args.path.now (settings_of c.args.records.now).k (tree_of document) (none document has))
    c.in-Err.error c.in-Err.ensures.refused)

pub returns-then-not-is_short-clause-refused : goal.returns-then-not-is_short-clause-refused
returns-then-not-is_short-clause-refused g c =
    long_refused g.D.Disk c.args.entry c.args.content c.args.path.now c.args.records.now c.get_route.new.records c.args.disk.now c.get_route.new.disk c.get_route.ensures.still
    c.in-Ok.ensures.ok.0 c.in-Ok.ensures.ok.1 c.with_content-node.result (node_with g.D.Disk (place_of c.args.entry.root) c.args.content c.args.path.now c.args.records.now c.args.disk.now c.in-Ok.found.shown (λ document has. (c.in-Ok.ensures.ok.2 document has).0) c.with_content-node.result c.with_content-node.ensures) (sym c.is_short.ensures ∙ c.if-not-is_short.true)

pub returns-then-is_parent-clause-refused : goal.returns-then-is_parent-clause-refused
returns-then-is_parent-clause-refused g c =
    parent_refused g.D.Disk c.args.entry c.args.content c.args.path.now c.args.records.now c.get_route.new.records c.args.disk.now c.get_route.new.disk c.get_route.ensures.still
    c.in-Ok.ensures.ok.0 c.in-Ok.ensures.ok.1 c.with_content-node.result (node_with g.D.Disk (place_of c.args.entry.root) c.args.content c.args.path.now c.args.records.now c.args.disk.now c.in-Ok.found.shown (λ document has. (c.in-Ok.ensures.ok.2 document has).0) c.with_content-node.result c.with_content-node.ensures) (sym c.is_short.ensures ∙ c.if-not-is_short.false) (sym c.is_parent.ensures ∙ c.if-is_parent.true)

pub returns-then-heavy-settings-clause-refused : goal.returns-then-heavy-settings-clause-refused
returns-then-heavy-settings-clause-refused g c =
    let same : (c.settings.result).k ≡ (settings_of c.args.records.now).k = ap (λ (s : Settings). s.k) c.settings.ensures ∙ ap (λ (h : Header). (h.settings).k) (c.in-Ok.ensures.ok.1).head_stays in
    heavy_refused g.D.Disk c.args.entry c.args.content c.args.path.now c.args.records.now c.get_route.new.records c.args.disk.now c.get_route.new.disk c.get_route.ensures.still
    c.in-Ok.ensures.ok.0 c.in-Ok.ensures.ok.1 c.with_content-node.result (node_with g.D.Disk (place_of c.args.entry.root) c.args.content c.args.path.now c.args.records.now c.args.disk.now c.in-Ok.found.shown (λ document has. (c.in-Ok.ensures.ok.2 document has).0) c.with_content-node.result c.with_content-node.ensures) (sym c.is_short.ensures ∙ c.if-not-is_short.false) (sym c.is_parent.ensures ∙ c.if-is_parent.false)
    c.weight-heavy.result (c.settings.result).k c.weight-heavy.ensures same c.if-heavy-settings.true

pub returns-clause-there : goal.returns-clause-there
returns-clause-there g c =
    node_with g.D.Disk (place_of c.args.entry.root) c.args.content c.args.path.now c.args.records.now c.args.disk.now c.in-Ok.found.shown (λ document has. (c.in-Ok.ensures.ok.2 document has).0) c.with_content-node.result c.with_content-node.ensures
