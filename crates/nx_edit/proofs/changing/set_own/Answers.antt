use Rattle.std.proofs.Common.{Option, Some, sym, ap, ◌∙◌, subst, arith}
use Rattle.std.specs.Option.{option_copied, option_to_list}
use Rattle.std.proofs.lemmas.Bool.{false≢true}
use Rattle.std.proofs.lemmas.Result.{err_from_is_err_and}
use Rattle.nx_records.specs.Words.{Settings}
use Rattle.nx_records.specs.Records.{settings_of}
use Rattle.nx_records.specs.declared.error.StoreError.{StoreError}
use Rattle.nx_records.proofs.RefusalLemmas.{err_passed}
use Rattle.nx_piece.specs.declared.piece.Far.{Far}
use Rattle.nx_piece.specs.Gapped.{GappedTree}
use Rattle.nx_hold.specs.Changes.{ComesTidyWhere, place_of}
use Rattle.nx_edit.specs.declared.changing.Change.TheVariants as change
use Rattle.nx_edit.specs.Changing.{Put, ChangesKnown, IsLaidPut, MayPutIn, NotChangedKnown}
use Rattle.nx_edit.proofs.SetCalls.{same_tree, same_weight, set_changed, set_heavy, set_is_piece, set_refused}
use Rattle.nx_edit.proofs.changing.set_own.Goals as goal

pub returns-then-not-may_have-clause-refused : goal.returns-then-not-may_have-clause-refused
returns-then-not-may_have-clause-refused g c =
    let own = c.tree_at-tree.result.now in
    let name = c.as_slice.ensures ∙ ap (λ (t : GappedTree). (t.node).node.name) c.tree.view_is in
    let same = same_weight c.as_slice.result.now (own.node).node.name c.as_slice-2.result.now c.args.content c.args.far name c.as_slice-2.ensures in
    let k = ap (λ (s : Settings). s.k) c.settings.ensures in
    subst
    (λ (e : StoreError). (put : Put) → IsLaidPut (change.Content c.args.content c.args.far) put → NotChangedKnown g.D.Disk c.args.matrix.now (Some c.args.piece) put (place_of c.args.rid) c.args.member c.args.path.now e c.args.records.now c.damaged.new.records c.args.disk.now c.args.disk.now)
    (sym c.damaged.ensures.result)
    (set_heavy g.D.Disk c.args.matrix.now c.args.piece (place_of c.args.rid) c.args.member c.args.path.now c.args.content c.args.far own c.tree_at-tree.ensures c.args.records.now c.damaged.new.records c.args.disk.now c.args.disk.now
    (λ light. false≢true (sym c.if-not-may_have.true ∙ c.may_have.ensures.1 (omega (arith, same, k, light)))) (c.damaged.ensures.ends c.requires.runs) c.args.rid.page)

pub put_grown-requires-clause-piece : goal.put_grown-requires-clause-piece
put_grown-requires-clause-piece g c =
    let own = c.tree_at-tree.result.now in
    let name = c.as_slice.ensures ∙ ap (λ (t : GappedTree). (t.node).node.name) c.tree.view_is in
    let same = same_weight c.as_slice.result.now (own.node).node.name c.as_slice-2.result.now c.args.content c.args.far name c.as_slice-2.ensures in
    let k = ap (λ (s : Settings). s.k) c.settings.ensures in
    let may = c.may_have.ensures.0 c.if-not-may_have.false in
    set_is_piece c.args.piece c.set_content-piece.result c.args.member c.args.path.now c.args.content c.args.far c.set_content-piece.ensures own c.tree_at-tree.ensures (settings_of c.args.records.now).k c.requires.valid c.requires.written (omega (arith, same, k, may))
    c.args.records.now.head_range.settings.k.1

pub returns-clause-ok : goal.returns-clause-ok
returns-clause-ok g c =
    let own = c.tree_at-tree.result.now in
    let far = ap (λ (t : GappedTree). (t.node).far) (same_tree c.args.piece c.set_content-piece.result c.args.member c.args.path.now c.args.content c.args.far c.set_content-piece.ensures own c.tree_at-tree.ensures) ∙ sym (ap (λ (t : GappedTree). (t.node).far) c.tree.view_is) in
    subst
    (λ (f : Option Far). (put : Put) → IsLaidPut (change.Content c.args.content c.args.far) put
    → ComesTidyWhere g.D.Disk c.args.records.now c.put_grown.new.records c.args.disk.now c.put_grown.new.disk (λ was. MayPutIn was put c.args.piece) (ChangesKnown c.args.matrix.now (Some c.args.piece) c.args.room (option_copied c.args.above) put (place_of c.args.rid) c.args.member c.args.path.now c.in_ok-row.row (option_to_list f)))
    far
    (set_changed g.D.Disk c.args.matrix.now c.args.piece c.set_content-piece.result (place_of c.args.rid) c.args.member c.args.path.now c.args.records.now c.put_grown.new.records c.args.disk.now c.put_grown.new.disk c.requires.runs c.args.content c.args.far c.set_content-piece.ensures c.requires.written
    c.args.room (option_copied c.args.above) c.in_ok-row.row c.in_ok-row.ensures.ok)

pub returns-in_err-row-clause-refused : goal.returns-in_err-row-clause-refused
returns-in_err-row-clause-refused g c =
    err_passed c.from_residual.result
    (λ (e : StoreError). (put : Put) → IsLaidPut (change.Content c.args.content c.args.far) put → NotChangedKnown g.D.Disk c.args.matrix.now (Some c.args.piece) put (place_of c.args.rid) c.args.member c.args.path.now e c.args.records.now c.put_grown.new.records c.args.disk.now c.put_grown.new.disk)
    c.in_err-row.field-0.0 (err_from_is_err_and c.from_residual.result c.from_residual.ensures.1)
    (set_refused g.D.Disk c.args.matrix.now c.args.piece c.set_content-piece.result (place_of c.args.rid) c.args.member c.args.path.now c.args.records.now c.put_grown.new.records c.args.disk.now c.put_grown.new.disk c.requires.runs c.args.content c.args.far c.set_content-piece.ensures c.requires.written
    c.in_err-row.field-0.0 c.in_err-row.ensures.refused)
