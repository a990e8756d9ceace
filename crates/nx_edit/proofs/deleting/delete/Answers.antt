use Rattle.std.proofs.Common.{◌≡◌, List, [], ◌++◌, length, false, sym, ap, ◌∙◌, subst}
use Rattle.std.specs.Option.{option_to_list}
use Rattle.nx_host.proofs.DiskLemmas.{still_then}
use Rattle.nx_tree.specs.Edit.{cut_at}
use Rattle.nx_piece.specs.declared.piece.Far.{Far}
use Rattle.nx_hold.specs.Changes.{ComesTidyWhere}
use Rattle.nx_hold.specs.Documents.{MovesRecords}
use Rattle.nx_hold.proofs.RefusalLemmas.{runs_then}
use Rattle.nx_edit.specs.Editing.{nodes_off}
use Rattle.nx_edit.specs.Removing.{AreUnnamed, NotFreed}
use Rattle.nx_edit.specs.Refusals.{NotEdited, deletion_fault, is_of_path, edit_needs, edit_error, seen_error}
use Rattle.nx_edit.specs.declared.error.EditError.{EditError}
use Rattle.nx_edit.proofs.RemoveLemmas.{ends_behind, tested_some}
use Rattle.nx_edit.proofs.FreeLemmas.{firsts}
use Rattle.nx_edit.proofs.DocumentLemmas.{left_there}
use Rattle.nx_edit.proofs.DeleteLemmas.{look_refused, root_refused, delete_allowed, in_refused, in_none, in_done, in_keeps, free_refused}
use Rattle.nx_edit.proofs.ToldLemmas.{told_so}
use Rattle.nx_edit.proofs.deleting.delete.Goals as goal

pub returns-in-Err-clause-refused : goal.returns-in-Err-clause-refused
returns-in-Err-clause-refused g c =
    told_so (seen_error c.in-Err.error) (λ (e : EditError). NotEdited g.D.Disk is_of_path (deletion_fault c.args.path.now) (edit_needs (cut_at c.args.path.now) (nodes_off false c.args.path.now) 0) c.args.entry e c.args.records.now c.get_route.new.records c.args.disk.now c.get_route.new.disk) c.seen_error.result c.seen_error.ensures
    (look_refused g.D.Disk c.args.entry c.args.path.now (λ none. tested_some (length c.args.path.now) (sym c.is_empty.ensures ∙ c.if-is_empty.false) (ap length none))
    c.args.records.now c.get_route.new.records c.args.disk.now c.get_route.new.disk c.get_route.ensures.still c.in-Err.error c.in-Err.ensures.refused)

pub returns-then-is_root_element-clause-refused : goal.returns-then-is_root_element-clause-refused
returns-then-is_root_element-clause-refused g c =
    root_refused g.D.Disk c.args.entry c.args.path.now (λ none. tested_some (length c.args.path.now) (sym c.is_empty.ensures ∙ c.if-is_empty.false) (ap length none))
    c.args.records.now c.get_route.new.records c.args.disk.now c.get_route.new.disk c.get_route.ensures.still
    c.in-Ok.ensures.ok.0 c.in-Ok.ensures.ok.1 c.in-Ok.found.shown (λ document has. (c.in-Ok.ensures.ok.2 document has).0) (sym c.is_root_element.ensures ∙ c.if-is_root_element.true)

pub returns-clause-still : goal.returns-clause-still
returns-clause-still g c = still_then (still_then c.get_route.ensures.still c.delete_at.ensures.still) c.free_all.ensures.still

pub returns-clause-allowed : goal.returns-clause-allowed
returns-clause-allowed g c =
    delete_allowed g.D.Disk c.args.entry c.args.path.now (λ none. tested_some (length c.args.path.now) (sym c.is_empty.ensures ∙ c.if-is_empty.false) (ap length none))
    c.args.records.now c.get_route.new.records c.args.disk.now c.get_route.new.disk c.get_route.ensures.still
    c.in-Ok.ensures.ok.0 c.in-Ok.ensures.ok.1 c.in-Ok.found.shown (λ document has. (c.in-Ok.ensures.ok.2 document has).0) (sym c.is_root_element.ensures ∙ c.if-is_root_element.false)

pub returns-in-Err-delete_at-clause-refused : goal.returns-in-Err-delete_at-clause-refused
returns-in-Err-delete_at-clause-refused g c =
    told_so (edit_error c.in-Err-delete_at.error) (λ (e : EditError). NotEdited g.D.Disk is_of_path (deletion_fault c.args.path.now) (edit_needs (cut_at c.args.path.now) (nodes_off false c.args.path.now) 0) c.args.entry e c.args.records.now c.delete_at.new.records c.args.disk.now c.delete_at.new.disk) c.edit_error.result c.edit_error.ensures
    (in_refused g.D.Disk c.args.entry c.args.path.now (λ none. tested_some (length c.args.path.now) (sym c.is_empty.ensures ∙ c.if-is_empty.false) (ap length none))
    c.args.records.now c.get_route.new.records c.args.disk.now c.get_route.new.disk c.get_route.ensures.still
    c.in-Ok.ensures.ok.0 c.in-Ok.ensures.ok.1 c.in-Ok.found.shown (λ document has. (c.in-Ok.ensures.ok.2 document has).0) (sym c.is_root_element.ensures ∙ c.if-is_root_element.false)
    c.in-Ok.found.route.passed.items c.in-Ok.found.route.last (c.in-Ok.ensures.route).held c.delete_at.new.records c.delete_at.new.disk c.in-Err-delete_at.error c.in-Err-delete_at.ensures.refused)

pub returns-in_default-clause-refused : goal.returns-in_default-clause-refused
returns-in_default-clause-refused g c =
    let left = left_there g.D.Disk c.args.records.now c.get_route.new.records c.args.disk.now c.get_route.new.disk c.get_route.ensures.still c.in-Ok.ensures.ok.0 c.in-Ok.ensures.ok.1 in
    let run = runs_then {r0 = c.args.records.now} {r1 = c.get_route.new.records} {r2 = c.delete_at.new.records} left.0 c.in-Ok-delete_at.ensures.keeps.0 in
    subst (λ (e : EditError). NotEdited g.D.Disk is_of_path (deletion_fault c.args.path.now) (edit_needs (cut_at c.args.path.now) (nodes_off false c.args.path.now) 0) c.args.entry e c.args.records.now c.no_document.new.records c.args.disk.now c.delete_at.new.disk) (sym c.no_document.ensures.result) (
      ends_behind run (c.no_document.ensures.ends run.after),
      in_none g.D.Disk c.args.entry c.args.path.now (λ none. tested_some (length c.args.path.now) (sym c.is_empty.ensures ∙ c.if-is_empty.false) (ap length none))
          c.args.records.now c.get_route.new.records c.args.disk.now c.get_route.new.disk c.get_route.ensures.still
          c.in-Ok.ensures.ok.0 c.in-Ok.ensures.ok.1 c.in-Ok.found.shown (λ document has. (c.in-Ok.ensures.ok.2 document has).0) (sym c.is_root_element.ensures ∙ c.if-is_root_element.false)
          c.in-Ok.found.route.passed.items c.in-Ok.found.route.last (c.in-Ok.ensures.route).held c.delete_at.new.records c.delete_at.new.disk
          c.in-Ok-delete_at.taken.gone (option_to_list c.in-Ok-delete_at.taken.left) c.in-Ok-delete_at.ensures.ok.0 c.in-Ok-delete_at.ensures.ok.2 (ap option_to_list c.in_default.is),
    )

pub returns-in-Err-free_all-clause-refused : goal.returns-in-Err-free_all-clause-refused
returns-in-Err-free_all-clause-refused g c =
    let fars : List Far = c.in-Ok-delete_at.ensures.ok.0 in
    let same : c.as_slice.result.now ≡ fars = c.as_slice.ensures.value ∙ c.in-Ok-delete_at.ensures.ok.1 ∙ ap (λ (l : List Far). l ++ fars) c.new-gone.ensures.items in
    told_so (edit_error c.in-Err-free_all.error) (λ (e : EditError). NotEdited g.D.Disk is_of_path (deletion_fault c.args.path.now) (edit_needs (cut_at c.args.path.now) (nodes_off false c.args.path.now) 0) c.args.entry e c.args.records.now c.free_all.new.records c.args.disk.now c.free_all.new.disk) c.edit_error-in-Err-free_all.result c.edit_error-in-Err-free_all.ensures
    (free_refused g.D.Disk c.args.entry c.args.path.now (λ none. tested_some (length c.args.path.now) (sym c.is_empty.ensures ∙ c.if-is_empty.false) (ap length none))
    c.args.records.now c.get_route.new.records c.args.disk.now c.get_route.new.disk c.get_route.ensures.still
    c.in-Ok.ensures.ok.0 c.in-Ok.ensures.ok.1 c.in-Ok.found.shown (λ document has. (c.in-Ok.ensures.ok.2 document has).0) (sym c.is_root_element.ensures ∙ c.if-is_root_element.false)
    c.in-Ok.found.route.passed.items c.in-Ok.found.route.last (c.in-Ok.ensures.route).held c.delete_at.new.records c.delete_at.new.disk
    c.in-Ok-delete_at.taken.gone (option_to_list c.in-Ok-delete_at.taken.left) c.in-Ok-delete_at.ensures.ok.0 c.in-Ok-delete_at.ensures.ok.2 c.in-Ok-delete_at.ensures.keeps.0 c.in-Ok-delete_at.ensures.keeps.1 c.delete_at.ensures.still c.free_all.new.records c.free_all.new.disk c.in-Err-free_all.error
    (subst (λ (fs : List Far). NotFreed g.D.Disk fs c.in-Err-free_all.error c.delete_at.new.records c.free_all.new.records c.delete_at.new.disk c.free_all.new.disk) same c.in-Err-free_all.ensures.refused))

pub returns-clause-ok : goal.returns-clause-ok
returns-clause-ok g c =
    let fars : List Far = c.in-Ok-delete_at.ensures.ok.0 in
    let same : c.as_slice.result.now ≡ fars = c.as_slice.ensures.value ∙ c.in-Ok-delete_at.ensures.ok.1 ∙ ap (λ (l : List Far). l ++ fars) c.new-gone.ensures.items in
    in_done g.D.Disk c.args.entry c.args.path.now (λ none. tested_some (length c.args.path.now) (sym c.is_empty.ensures ∙ c.if-is_empty.false) (ap length none))
    c.args.records.now c.get_route.new.records c.args.disk.now c.get_route.new.disk c.get_route.ensures.still
    c.in-Ok.ensures.ok.0 c.in-Ok.ensures.ok.1 c.in-Ok.found.shown (λ document has. (c.in-Ok.ensures.ok.2 document has).0) (sym c.is_root_element.ensures ∙ c.if-is_root_element.false)
    c.in-Ok.found.route.passed.items c.in-Ok.found.route.last (c.in-Ok.ensures.route).held c.delete_at.new.records c.delete_at.new.disk
    c.in-Ok-delete_at.taken.gone (option_to_list c.in-Ok-delete_at.taken.left) c.in-Ok-delete_at.ensures.ok.0 c.in-Ok-delete_at.ensures.ok.2 c.in-Ok-delete_at.ensures.keeps.0 c.in-Ok-delete_at.ensures.keeps.1 c.delete_at.ensures.still c.free_all.new.records c.free_all.new.disk
    (subst (λ (fs : List Far). ComesTidyWhere g.D.Disk c.delete_at.new.records c.free_all.new.records c.delete_at.new.disk c.free_all.new.disk (λ was. AreUnnamed was fs) (λ was now. MovesRecords [] [] (firsts fs) [] 0 was now)) same c.in_default-free_all.ensures.ok)
    c.in-Some.proxy c.entry_at.result
    (ap option_to_list c.in-Some.is) c.entry_at.ensures.place c.entry_at.ensures.count

pub returns-clause-keeps : goal.returns-clause-keeps
returns-clause-keeps g c =
    let kept = in_keeps g.D.Disk c.args.entry c.args.path.now (λ none. tested_some (length c.args.path.now) (sym c.is_empty.ensures ∙ c.if-is_empty.false) (ap length none))
    c.args.records.now c.get_route.new.records c.args.disk.now c.get_route.new.disk c.get_route.ensures.still
    c.in-Ok.ensures.ok.0 c.in-Ok.ensures.ok.1 c.in-Ok.found.shown (λ document has. (c.in-Ok.ensures.ok.2 document has).0) (sym c.is_root_element.ensures ∙ c.if-is_root_element.false)
    c.in-Ok.found.route.passed.items c.in-Ok.found.route.last (c.in-Ok.ensures.route).held c.delete_at.new.records c.delete_at.new.disk
    c.in-Ok-delete_at.taken.gone (option_to_list c.in-Ok-delete_at.taken.left) c.in-Ok-delete_at.ensures.ok.0 c.in-Ok-delete_at.ensures.ok.2 c.in-Ok-delete_at.ensures.keeps.0 c.in-Ok-delete_at.ensures.keeps.1 c.delete_at.ensures.still c.free_all.new.records c.free_all.new.disk c.in_default-free_all.ensures.keeps.0 c.in_default-free_all.ensures.keeps.1 in
    (kept.0, kept.1, c.in_default-free_all.ensures.keeps.2 c.in-Ok-delete_at.ensures.keeps.2)

pub delete_at-requires-clause-ends : goal.delete_at-requires-clause-ends
delete_at-requires-clause-ends g c = (c.in-Ok.ensures.route).ends
