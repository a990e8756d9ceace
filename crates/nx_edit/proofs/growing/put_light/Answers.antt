use Rattle.std.proofs.Common.{sym, subst, arith}
use Rattle.std.proofs.lemmas.Result.{err_from_is_err_and}
use Rattle.nx_records.specs.Records.{settings_of}
use Rattle.nx_records.specs.declared.error.StoreError.{StoreError}
use Rattle.nx_records.proofs.RefusalLemmas.{err_passed}
use Rattle.nx_hold.specs.Changes.{place_of}
use Rattle.nx_edit.specs.Growing.{NotGrown}
use Rattle.nx_edit.proofs.RowCalls.{ok_map, err_map}
use Rattle.nx_edit.proofs.GrownLemmas.{light_done, light_refused, row_is_more}
use Rattle.nx_edit.proofs.SizeLemmas.{light_piece}
use Rattle.nx_edit.proofs.growing.put_light.Goals as goal

pub update_piece-requires : goal.update_piece-requires
update_piece-requires g c = record { valid = light_piece c.args.piece.now (settings_of c.args.records.now).k c.requires.piece c.requires.near c.requires.light c.args.records.now.head_range.settings.k.1; near = c.requires.near }

pub returns-in_err-proxy-clause-refused : goal.returns-in_err-proxy-clause-refused
returns-in_err-proxy-clause-refused g c =
    err_passed c.from_residual.result (λ (e : StoreError). NotGrown g.D.Disk c.args.piece.now (place_of c.args.rid) e c.args.records.now c.update_piece.new.records c.args.disk.now c.update_piece.new.disk)
    c.in_err-proxy.field-0.0 (err_from_is_err_and c.from_residual.result c.from_residual.ensures.1)
    (light_refused g.D.Disk c.args.piece.now (place_of c.args.rid) c.args.records.now c.update_piece.new.records c.args.disk.now c.update_piece.new.disk c.args.rid.page c.in_err-proxy.field-0.0 c.requires.runs c.in_err-proxy.ensures.refused)

pub row_alone-requires : goal.row_alone-requires
row_alone-requires g c =
    let valid = light_piece c.args.piece.now (settings_of c.args.records.now).k c.requires.piece c.requires.near c.requires.light c.args.records.now.head_range.settings.k.1 in
    let some = valid.body.some in
    let few = valid.body.few in
    let roots = c.in_ok-proxy.ensures.roots in
    record { ranged = (omega (arith, some, roots), omega (arith, few, roots)) }

pub returns-clause-row : goal.returns-clause-row
returns-clause-row g c = ok_map c.row_alone.result (λ row is. row_is_more row is.1 (omega arith)) c.row_alone.ensures.ok

pub returns-clause-ok : goal.returns-clause-ok
returns-clause-ok g c =
    ok_map c.row_alone.result
    (λ row is. light_done g.D.Disk c.args.piece.now (place_of c.args.rid) c.args.records.now c.update_piece.new.records c.args.disk.now c.update_piece.new.disk c.in_ok-proxy.proxy c.requires.piece c.requires.near c.requires.light
    c.in_ok-proxy.ensures.roots c.in_ok-proxy.ensures.ok row is.0) c.row_alone.ensures.ok

pub returns-clause-keeps : goal.returns-clause-keeps
returns-clause-keeps g c = ok_map c.row_alone.result (λ row is. c.in_ok-proxy.ensures.keeps) c.row_alone.ensures.ok

pub returns-clause-refused : goal.returns-clause-refused
returns-clause-refused g c =
    err_map c.row_alone.result
    (λ e memory. subst (λ (o : StoreError). NotGrown g.D.Disk c.args.piece.now (place_of c.args.rid) o c.args.records.now c.update_piece.new.records c.args.disk.now c.update_piece.new.disk) (sym memory)
    (c.in_ok-proxy.ensures.keeps.0, c.in_ok-proxy.ensures.keeps.1)) c.row_alone.ensures.refused
