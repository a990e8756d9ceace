use Rattle.std.proofs.Common.{ℕ, List, refl, sym, ap, ◌∙◌, subst, arith}
use Rattle.std.proofs.lemmas.Result.{err_from_is_err_and}
use Rattle.nx_holdings.specs.declared.header.Settings.{Settings}
use Rattle.nx_piece.specs.declared.piece.Proxy.{Proxy}
use Rattle.nx_piece.proofs.Laws.{are_short, little_weight}
use Rattle.nx_piece_edits.specs.Cutting.{IsWithItems}
use Rattle.nx_records.specs.Records.{settings_of}
use Rattle.nx_records.specs.declared.error.StoreError.{StoreError}
use Rattle.nx_records.specs.Refusals.{NotStored}
use Rattle.nx_records.proofs.RefusalLemmas.{err_passed}
use Rattle.nx_hold.specs.Changes.{place_of, place_named}
use Rattle.nx_hold.specs.Pieces.{HoldsNone}
use Rattle.nx_hold.proofs.RefusalLemmas.{runs_then, saved_then}
use Rattle.nx_edit.specs.Passing.{put_needs}
use Rattle.nx_edit.specs.RowPut.{MayHaveRow, piece_with_row}
use Rattle.nx_edit.proofs.MakingCalls.{far_updated, making_stored, update_refused}
use Rattle.nx_edit.proofs.RowCalls.{err_map, ok_map}
use Rattle.nx_edit.proofs.RowPutCalls.{large_row, may_come, may_not_come, row_done, row_unput}
use Rattle.nx_edit.proofs.SizeLemmas.{light_piece}
use Rattle.nx_edit.proofs.changing.put_row.Goals as goal

pub returns-then-len-clause-refused : goal.returns-then-len-clause-refused
returns-then-len-clause-refused g c =
    subst (λ (e : StoreError). (page : ℕ) × NotStored g.D.Disk (λ was. put_needs (piece_with_row c.args.index c.args.row c.args.piece)) (λ was. MayHaveRow (settings_of c.args.records.now).k c.args.piece c.args.row → HoldsNone was (place_of c.args.rid)) page e c.args.records.now c.damaged.new.records c.args.disk.now c.args.disk.now) (sym c.damaged.ensures.result) (
      c.args.rid.page,
      record {
        page = refl;
        ends = c.damaged.ensures.ends c.requires.runs;
        lacks = λ saved now stands may. absurd (let few = may.few in let more = c.if-len.true in let one = c.len.ensures in let two = c.len-2.ensures in let most = c.requires.valid.body.few_proxies in omega (arith, few, more, one, two, most));
      },
    )

pub weight-requires-clause-short : goal.weight-requires-clause-short
weight-requires-clause-short g c =
    let large = large_row c.args.piece c.in-Ok.piece c.args.index c.args.row c.requires.valid c.requires.row (let not = c.if-len.false in let one = c.len.ensures in let two = c.len-2.ensures in let most = c.requires.valid.body.few_proxies in omega (arith, not, one, two, most)) (subst (λ (ps : List Proxy). IsWithItems c.args.piece c.args.index c.args.row.items ps c.in-Ok.piece) c.as_slice.ensures c.in-Ok.ensures) in
    are_short c.in-Ok.piece.body.roots (large.body).small (large.body).far

pub weight-requires-clause-few : goal.weight-requires-clause-few
weight-requires-clause-few g c =
    let large = large_row c.args.piece c.in-Ok.piece c.args.index c.args.row c.requires.valid c.requires.row (let not = c.if-len.false in let one = c.len.ensures in let two = c.len-2.ensures in let most = c.requires.valid.body.few_proxies in omega (arith, not, one, two, most)) (subst (λ (ps : List Proxy). IsWithItems c.args.piece c.args.index c.args.row.items ps c.in-Ok.piece) c.as_slice.ensures c.in-Ok.ensures) in
    little_weight c.in-Ok.piece.body.roots (large.body).small (large.body).far

pub returns-then-weight-settings-clause-refused : goal.returns-then-weight-settings-clause-refused
returns-then-weight-settings-clause-refused g c =
    subst (λ (e : StoreError). (page : ℕ) × NotStored g.D.Disk (λ was. put_needs (piece_with_row c.args.index c.args.row c.args.piece)) (λ was. MayHaveRow (settings_of c.args.records.now).k c.args.piece c.args.row → HoldsNone was (place_of c.args.rid)) page e c.args.records.now c.damaged-then-weight-settings.new.records c.args.disk.now c.args.disk.now) (sym c.damaged-then-weight-settings.ensures.result) (
      c.args.rid.page,
      record {
        page = refl;
        ends = c.damaged-then-weight-settings.ensures.ends c.requires.runs;
        lacks = λ saved now stands may. absurd (may_not_come c.args.piece c.in-Ok.piece c.args.index c.args.row c.requires.valid c.requires.row (let not = c.if-len.false in let one = c.len.ensures in let two = c.len-2.ensures in let most = c.requires.valid.body.few_proxies in omega (arith, not, one, two, most)) (subst (λ (ps : List Proxy). IsWithItems c.args.piece c.args.index c.args.row.items ps c.in-Ok.piece) c.as_slice.ensures c.in-Ok.ensures)
            (settings_of c.args.records.now).k (let more = c.if-weight-settings.true in let weighs = c.weight.ensures in let k = ap (λ (s : Settings). s.k) c.settings.ensures in omega (arith, more, weighs, k)) may);
      },
    )

pub make_far-requires-clause-piece : goal.make_far-requires-clause-piece
make_far-requires-clause-piece g c = large_row c.args.piece c.in-Ok.piece c.args.index c.args.row c.requires.valid c.requires.row (let not = c.if-len.false in let one = c.len.ensures in let two = c.len-2.ensures in let most = c.requires.valid.body.few_proxies in omega (arith, not, one, two, most)) (subst (λ (ps : List Proxy). IsWithItems c.args.piece c.args.index c.args.row.items ps c.in-Ok.piece) c.as_slice.ensures c.in-Ok.ensures)

pub returns-in_err-made-clause-refused : goal.returns-in_err-made-clause-refused
returns-in_err-made-clause-refused g c =
    err_passed c.from_residual.result (λ (e : StoreError). (page : ℕ) × NotStored g.D.Disk (λ was. put_needs (piece_with_row c.args.index c.args.row c.args.piece)) (λ was. MayHaveRow (settings_of c.args.records.now).k c.args.piece c.args.row → HoldsNone was (place_of c.args.rid)) page e c.args.records.now c.make_far.new.records c.args.disk.now c.make_far.new.disk)
    c.in_err-made.field-0.0 (err_from_is_err_and c.from_residual.result c.from_residual.ensures.1)
    (row_unput c.args.piece c.in-Ok.piece c.args.index c.args.row c.requires.valid c.requires.row (let not = c.if-len.false in let one = c.len.ensures in let two = c.len-2.ensures in let most = c.requires.valid.body.few_proxies in omega (arith, not, one, two, most)) (subst (λ (ps : List Proxy). IsWithItems c.args.piece c.args.index c.args.row.items ps c.in-Ok.piece) c.as_slice.ensures c.in-Ok.ensures)
    g.D.Disk (place_of c.args.rid) (settings_of c.args.records.now).k c.args.records.now c.make_far.new.records c.args.disk.now c.make_far.new.disk c.in_err-made.field-0.0
    (making_stored g.D.Disk c.in-Ok.piece (place_of c.args.rid) c.args.records.now c.make_far.new.records c.args.disk.now c.make_far.new.disk c.in_err-made.field-0.0 c.in_err-made.ensures.refused))

pub update_piece-requires-clause-valid : goal.update_piece-requires-clause-valid
update_piece-requires-clause-valid g c =
    let light = c.if-weight-settings.false in
    let weighs = c.weight.ensures in
    let k = ap (λ (s : Settings). s.k) c.settings.ensures in
    let same = (c.in_ok-made.ensures.far).weighs in
    light_piece c.in_ok-made.made (settings_of c.args.records.now).k c.in_ok-made.ensures.piece (c.in_ok-made.ensures.far).near (omega (arith, light, weighs, k, same)) c.args.records.now.head_range.settings.k.1

pub returns-in_err-proxy-clause-refused : goal.returns-in_err-proxy-clause-refused
returns-in_err-proxy-clause-refused g c =
    err_passed c.from_residual-in_err-proxy.result (λ (e : StoreError). (page : ℕ) × NotStored g.D.Disk (λ was. put_needs (piece_with_row c.args.index c.args.row c.args.piece)) (λ was. MayHaveRow (settings_of c.args.records.now).k c.args.piece c.args.row → HoldsNone was (place_of c.args.rid)) page e c.args.records.now c.update_piece.new.records c.args.disk.now c.update_piece.new.disk)
    c.in_err-proxy.field-0.0 (err_from_is_err_and c.from_residual-in_err-proxy.result c.from_residual-in_err-proxy.ensures.1)
    (row_unput c.args.piece c.in-Ok.piece c.args.index c.args.row c.requires.valid c.requires.row (let not = c.if-len.false in let one = c.len.ensures in let two = c.len-2.ensures in let most = c.requires.valid.body.few_proxies in omega (arith, not, one, two, most)) (subst (λ (ps : List Proxy). IsWithItems c.args.piece c.args.index c.args.row.items ps c.in-Ok.piece) c.as_slice.ensures c.in-Ok.ensures)
    g.D.Disk (place_of c.args.rid) (settings_of c.args.records.now).k c.args.records.now c.update_piece.new.records c.args.disk.now c.update_piece.new.disk c.in_err-proxy.field-0.0
    (update_refused {d = g.D.Disk} c.in-Ok.piece c.in_ok-made.made (place_of c.args.rid) c.in_ok-made.ensures.far {r0 = c.args.records.now} {r1 = c.make_far.new.records} {x0 = c.args.disk.now} {x1 = c.make_far.new.disk} c.in_ok-made.ensures.ok
    c.in_ok-made.ensures.keeps.0 c.in_ok-made.ensures.keeps.1 c.make_far.ensures.still c.in_ok-made.ensures.leaves c.args.rid.page c.update_piece.new.records c.update_piece.new.disk c.in_err-proxy.field-0.0 c.in_err-proxy.ensures.refused))

pub returns-clause-ok : goal.returns-clause-ok
returns-clause-ok g c =
    ok_map c.row_alone.result (λ put alone. (
      may_come c.args.piece c.in-Ok.piece c.args.index c.args.row c.requires.valid c.requires.row (let not = c.if-len.false in let one = c.len.ensures in let two = c.len-2.ensures in let most = c.requires.valid.body.few_proxies in omega (arith, not, one, two, most)) (subst (λ (ps : List Proxy). IsWithItems c.args.piece c.args.index c.args.row.items ps c.in-Ok.piece) c.as_slice.ensures c.in-Ok.ensures)
          (settings_of c.args.records.now).k (let light = c.if-weight-settings.false in let weighs = c.weight.ensures in let k = ap (λ (s : Settings). s.k) c.settings.ensures in omega (arith, light, weighs, k)),
      row_done c.args.piece c.in-Ok.piece c.args.index c.args.row c.requires.valid c.requires.row (let not = c.if-len.false in let one = c.len.ensures in let two = c.len-2.ensures in let most = c.requires.valid.body.few_proxies in omega (arith, not, one, two, most)) (subst (λ (ps : List Proxy). IsWithItems c.args.piece c.args.index c.args.row.items ps c.in-Ok.piece) c.as_slice.ensures c.in-Ok.ensures)
          g.D.Disk (place_of c.args.rid) c.args.records.now c.update_piece.new.records c.args.disk.now c.update_piece.new.disk c.in_ok-proxy.proxy put alone.0 (c.in_ok-proxy.ensures.roots ∙ (c.in_ok-made.ensures.far).wide)
          (far_updated {d = g.D.Disk} c.in-Ok.piece c.in_ok-made.made (place_of c.args.rid) c.in_ok-made.ensures.far {r0 = c.args.records.now} {r1 = c.make_far.new.records} {x0 = c.args.disk.now} {x1 = c.make_far.new.disk} c.in_ok-made.ensures.ok
          {r2 = c.update_piece.new.records} {x2 = c.update_piece.new.disk} (place_named c.in_ok-proxy.proxy) c.in_ok-proxy.ensures.ok),
    )) c.row_alone.ensures.ok

pub returns-clause-keeps : goal.returns-clause-keeps
returns-clause-keeps g c =
    ok_map c.row_alone.result (λ put alone. (
      runs_then {r0 = c.args.records.now} {r1 = c.make_far.new.records} {r2 = c.update_piece.new.records} c.in_ok-made.ensures.keeps.0 c.in_ok-proxy.ensures.keeps.0,
      saved_then {d = g.D.Disk} {r0 = c.args.records.now} {r1 = c.make_far.new.records} {r2 = c.update_piece.new.records} {x0 = c.args.disk.now} {x1 = c.make_far.new.disk} {x2 = c.update_piece.new.disk} c.in_ok-made.ensures.keeps.1 c.in_ok-proxy.ensures.keeps.1,
      c.in_ok-proxy.ensures.keeps.2,
    )) c.row_alone.ensures.ok

pub returns-clause-refused : goal.returns-clause-refused
returns-clause-refused g c =
    err_map c.row_alone.result (λ e is.
    subst (λ (e : StoreError). (page : ℕ) × NotStored g.D.Disk (λ was. put_needs (piece_with_row c.args.index c.args.row c.args.piece)) (λ was. MayHaveRow (settings_of c.args.records.now).k c.args.piece c.args.row → HoldsNone was (place_of c.args.rid)) page e c.args.records.now c.update_piece.new.records c.args.disk.now c.update_piece.new.disk) (sym is) (
      0,
      (
        runs_then {r0 = c.args.records.now} {r1 = c.make_far.new.records} {r2 = c.update_piece.new.records} c.in_ok-made.ensures.keeps.0 c.in_ok-proxy.ensures.keeps.0,
        saved_then {d = g.D.Disk} {r0 = c.args.records.now} {r1 = c.make_far.new.records} {r2 = c.update_piece.new.records} {x0 = c.args.disk.now} {x1 = c.make_far.new.disk} {x2 = c.update_piece.new.disk} c.in_ok-made.ensures.keeps.1 c.in_ok-proxy.ensures.keeps.1,
      ),
    )) c.row_alone.ensures.refused
