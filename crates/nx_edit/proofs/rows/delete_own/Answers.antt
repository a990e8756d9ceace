use Rattle.std.proofs.Common.{◌+◌, ◌-◌, List, ◌++◌, Option, Some, refl, sym, ap, ◌∙◌, subst, arith, append_assoc}
use Rattle.std.proofs.lemmas.Result.{err_from_is_err_and}
use Rattle.nx_piece.specs.declared.piece.Far.{Far}
use Rattle.nx_piece.specs.declared.piece.Proxy.{Proxy}
use Rattle.nx_piece.specs.Contents.{fars_in}
use Rattle.nx_piece.specs.Gapped.{End, Grow}
use Rattle.nx_records.specs.declared.error.StoreError.{StoreError}
use Rattle.nx_records.proofs.RefusalLemmas.{err_passed}
use Rattle.nx_hold.specs.Changes.{place_of, ComesTidy}
use Rattle.nx_hold.proofs.RefusalLemmas.{runs_then, saved_then}
use Rattle.nx_edit.specs.Removing.{RemovesRow, NotRemovedRow}
use Rattle.nx_piece_edits.specs.declared.cutting.Removed.{Removed}
use Rattle.nx_piece_edits.specs.Cutting.{IsTreeRemoved, IsWithoutTree}
use Rattle.nx_edit.specs.Rows.{NotDeletedIn}
use Rattle.nx_edit.proofs.RowCalls.{valid_piece, own_damaged, rows_refused, put_refused, own_done}
use Rattle.nx_edit.proofs.rows.delete_own.Goals as goal

pub remove_tree-requires : goal.remove_tree-requires
remove_tree-requires g c = valid_piece c.args.piece c.requires.valid

pub returns-in_default-clause-refused : goal.returns-in_default-clause-refused
returns-in_default-clause-refused g c = (record { before = c.requires.runs; after = c.requires.runs; length_stays = refl; settings_stay = refl }, λ saved has. has)

pub count_nodes-own-requires : goal.count_nodes-own-requires
count_nodes-own-requires g c =
    let w : IsWithoutTree c.args.piece c.args.member c.args.path.now c.in-Some.removed = subst (λ (o : Option Removed). IsTreeRemoved c.args.piece c.args.member c.args.path.now o) c.in-Some.is c.in-Ok.ensures in
    w.part.small

pub returns-then-limit-own-clause-refused : goal.returns-then-limit-own-clause-refused
returns-then-limit-own-clause-refused g c =
    let w : IsWithoutTree c.args.piece c.args.member c.args.path.now c.in-Some.removed = subst (λ (o : Option Removed). IsTreeRemoved c.args.piece c.args.member c.args.path.now o) c.in-Some.is c.in-Ok.ensures in
    subst (λ (e : StoreError). NotDeletedIn g.D.Disk (Some c.args.piece) (place_of c.args.rid) c.args.member c.args.path.now c.args.limit e c.args.records.now c.damaged.new.records c.args.disk.now c.args.disk.now) (sym c.damaged.ensures.result)
    (own_damaged g.D.Disk c.args.piece (place_of c.args.rid) c.args.member c.args.path.now c.args.limit c.in-Some.removed c.count_nodes-own.result w c.count_nodes-own.ensures c.args.records.now c.args.disk.now
    c.damaged.new.records (let more = c.if-limit-own.true in omega (arith, more)) (c.damaged.ensures.ends c.requires.runs))

pub returns-in_err-below-clause-refused : goal.returns-in_err-below-clause-refused
returns-in_err-below-clause-refused g c =
    let w : IsWithoutTree c.args.piece c.args.member c.args.path.now c.in-Some.removed = subst (λ (o : Option Removed). IsTreeRemoved c.args.piece c.args.member c.args.path.now o) c.in-Some.is c.in-Ok.ensures in
    err_passed c.from_residual.result (λ (e : StoreError). NotDeletedIn g.D.Disk (Some c.args.piece) (place_of c.args.rid) c.args.member c.args.path.now c.args.limit e c.args.records.now c.remove_rows.new.records c.args.disk.now c.remove_rows.new.disk)
    c.in_err-below.field-0.0 (err_from_is_err_and c.from_residual.result c.from_residual.ensures.1)
    (rows_refused g.D.Disk c.args.piece (place_of c.args.rid) c.args.member c.args.path.now c.args.limit c.in-Some.removed c.count_nodes-own.result w c.count_nodes-own.ensures c.args.records.now c.args.disk.now
    c.remove_rows.new.records c.remove_rows.new.disk c.in_err-below.field-0.0
    (subst (λ (ps : List Proxy). NotRemovedRow g.D.Disk ps (c.args.limit - c.count_nodes-own.result) c.in_err-below.field-0.0 c.args.records.now c.remove_rows.new.records c.args.disk.now c.remove_rows.new.disk) c.as_slice.ensures c.in_err-below.ensures.refused))

pub put_rest-requires-clause-valid : goal.put_rest-requires-clause-valid
put_rest-requires-clause-valid g c =
    let w : IsWithoutTree c.args.piece c.args.member c.args.path.now c.in-Some.removed = subst (λ (o : Option Removed). IsTreeRemoved c.args.piece c.args.member c.args.path.now o) c.in-Some.is c.in-Ok.ensures in
    w.valid c.requires.valid

pub returns-in_err-left-clause-refused : goal.returns-in_err-left-clause-refused
returns-in_err-left-clause-refused g c =
    let w : IsWithoutTree c.args.piece c.args.member c.args.path.now c.in-Some.removed = subst (λ (o : Option Removed). IsTreeRemoved c.args.piece c.args.member c.args.path.now o) c.in-Some.is c.in-Ok.ensures in
    err_passed c.from_residual-in_err-left.result (λ (e : StoreError). NotDeletedIn g.D.Disk (Some c.args.piece) (place_of c.args.rid) c.args.member c.args.path.now c.args.limit e c.args.records.now c.put_rest.new.records c.args.disk.now c.put_rest.new.disk)
    c.in_err-left.field-0.0 (err_from_is_err_and c.from_residual-in_err-left.result c.from_residual-in_err-left.ensures.1)
    (put_refused g.D.Disk c.args.piece (place_of c.args.rid) c.args.member c.args.path.now c.args.limit c.in-Some.removed c.count_nodes-own.result w c.count_nodes-own.ensures c.args.records.now c.args.disk.now
    c.remove_rows.new.records c.remove_rows.new.disk c.in_ok-below.below c.in_ok-below.ensures.ok.0 c.remove_rows.ensures.still c.in_ok-below.ensures.keeps.0 c.in_ok-below.ensures.keeps.1
    (subst (λ (ps : List Proxy). ComesTidy g.D.Disk c.args.records.now c.remove_rows.new.records c.args.disk.now c.remove_rows.new.disk (RemovesRow ps (c.args.limit - c.count_nodes-own.result) c.in_ok-below.below c.in_ok-below.ensures.ok.0)) c.as_slice.ensures c.in_ok-below.ensures.ok.2)
    c.put_rest.new.records c.put_rest.new.disk c.in_err-left.ensures.refused.0 c.in_err-left.field-0.0 c.in_err-left.ensures.refused.1)

pub returns-clause-ok : goal.returns-clause-ok
returns-clause-ok g c =
    let w : IsWithoutTree c.args.piece c.args.member c.args.path.now c.in-Some.removed = subst (λ (o : Option Removed). IsTreeRemoved c.args.piece c.args.member c.args.path.now o) c.in-Some.is c.in-Ok.ensures in
    let own : List Far = fars_in (Grow c.in-Some.removed.tree.node c.in-Some.removed.tree.below End) in (
      own ++ c.in_ok-below.ensures.ok.0,
      c.in_ok-below.ensures.ok.1 ∙ ap (λ (fs : List Far). fs ++ c.in_ok-below.ensures.ok.0) c.in-Ok-push_fars.ensures ∙ append_assoc c.args.gone.now.items own c.in_ok-below.ensures.ok.0,
      own_done g.D.Disk c.args.piece (place_of c.args.rid) c.args.member c.args.path.now c.args.limit c.in-Some.removed c.count_nodes-own.result w c.count_nodes-own.ensures c.args.records.now c.args.disk.now
          c.remove_rows.new.records c.remove_rows.new.disk c.in_ok-below.below c.in_ok-below.ensures.ok.0 c.remove_rows.ensures.still c.in_ok-below.ensures.keeps.0 c.in_ok-below.ensures.keeps.1
          (subst (λ (ps : List Proxy). ComesTidy g.D.Disk c.args.records.now c.remove_rows.new.records c.args.disk.now c.remove_rows.new.disk (RemovesRow ps (c.args.limit - c.count_nodes-own.result) c.in_ok-below.below c.in_ok-below.ensures.ok.0)) c.as_slice.ensures c.in_ok-below.ensures.ok.2)
          c.put_rest.new.records c.put_rest.new.disk c.in_ok-left.left (c.count_nodes-own.result + c.in_ok-below.below) refl c.in_ok-left.ensures.ok,
    )

pub returns-clause-keeps : goal.returns-clause-keeps
returns-clause-keeps g c = (
  runs_then {r0 = c.args.records.now} {r1 = c.remove_rows.new.records} {r2 = c.put_rest.new.records} c.in_ok-below.ensures.keeps.0 c.in_ok-left.ensures.keeps.0,
  saved_then {d = g.D.Disk} {r0 = c.args.records.now} {r1 = c.remove_rows.new.records} {r2 = c.put_rest.new.records} {x0 = c.args.disk.now} {x1 = c.remove_rows.new.disk} {x2 = c.put_rest.new.disk} c.in_ok-below.ensures.keeps.1 c.in_ok-left.ensures.keeps.1,
  c.in_ok-left.ensures.keeps.2,
)
