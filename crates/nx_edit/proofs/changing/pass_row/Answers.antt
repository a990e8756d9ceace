use Rattle.std.proofs.Common.{◌≡◌, ℕ, sym, ap, ◌∙◌, subst, arith}
use Rattle.std.proofs.lemmas.Bool.{false≢true}
use Rattle.std.proofs.lemmas.Result.{err_from_is_err_and}
use Rattle.nx_holdings.specs.Holdings.{Held}
use Rattle.nx_piece.specs.declared.piece.Piece.{Piece}
use Rattle.nx_records.specs.Records.{settings_of}
use Rattle.nx_records.specs.declared.error.StoreError.{StoreError}
use Rattle.nx_records.specs.Refusals.{NotStored}
use Rattle.nx_records.proofs.RefusalLemmas.{err_passed}
use Rattle.nx_hold.specs.Changes.{place_of}
use Rattle.nx_hold.specs.Pieces.{HoldsNone, MayName}
use Rattle.nx_edit.specs.Passing.{NotPassed, put_needs}
use Rattle.nx_edit.specs.RowPut.{IsPutAlone, MayHaveRow, piece_with_row}
use Rattle.nx_edit.proofs.RowCalls.{ok_map, err_map}
use Rattle.nx_edit.proofs.StayLemmas.{row_kept, left_alone}
use Rattle.nx_edit.proofs.PassCalls.{unread_passed, short_passed, unstored_passed, more_passed, keeps_passed}
use Rattle.nx_edit.proofs.changing.pass_row.Goals as goal

pub row_alone-requires : goal.row_alone-requires
row_alone-requires g c = let some = c.requires.roots.0 in let few = c.requires.roots.1 in let same = c.own_proxy.ensures.roots in record { ranged = (omega (arith, some, same), omega (arith, few, same)) }

pub returns-then-is_alone-clause-ok : goal.returns-then-is_alone-clause-ok
returns-then-is_alone-clause-ok g c =
    ok_map c.row_alone.result (λ put both saved was stands tidy may. (
      was,
      stands,
      tidy,
      row_kept was (place_of c.args.rid) c.args.passed.now c.args.row put c.own_proxy.result (c.is_alone.ensures.0 c.if-is_alone.true) c.own_proxy.ensures.place c.own_proxy.ensures.roots both.0,
    )) c.row_alone.ensures.ok

pub returns-then-is_alone-clause-keeps : goal.returns-then-is_alone-clause-keeps
returns-then-is_alone-clause-keeps g c =
    let alone = left_alone g.D.Disk c.args.records.now c.args.disk.now c.requires.runs in
    ok_map c.row_alone.result (λ put both. (alone.0, alone.1, λ has. has)) c.row_alone.ensures.ok

pub returns-then-is_alone-clause-refused : goal.returns-then-is_alone-clause-refused
returns-then-is_alone-clause-refused g c =
    err_map c.row_alone.result (λ e is.
    subst (λ (e : StoreError). NotPassed g.D.Disk (place_of c.args.rid) c.args.passed.now (piece_with_row c.args.passed.now.index c.args.row) (λ (piece : Piece). MayHaveRow (settings_of c.args.records.now).k piece c.args.row) e c.args.records.now c.args.records.now c.args.disk.now c.args.disk.now) (sym is)
    (left_alone g.D.Disk c.args.records.now c.args.disk.now c.requires.runs)) c.row_alone.ensures.refused

pub returns-in_err-piece-clause-refused : goal.returns-in_err-piece-clause-refused
returns-in_err-piece-clause-refused g c =
    err_passed c.from_residual.result (λ (e : StoreError). NotPassed g.D.Disk (place_of c.args.rid) c.args.passed.now (piece_with_row c.args.passed.now.index c.args.row) (λ (piece : Piece). MayHaveRow (settings_of c.args.records.now).k piece c.args.row) e c.args.records.now c.read_piece.new.records c.args.disk.now c.read_piece.new.disk)
    c.in_err-piece.field-0.0 (err_from_is_err_and c.from_residual.result c.from_residual.ensures.1)
    (unread_passed g.D.Disk (place_of c.args.rid) c.args.passed.now (piece_with_row c.args.passed.now.index c.args.row) (λ (piece : Piece). MayHaveRow (settings_of c.args.records.now).k piece c.args.row) c.args.records.now c.read_piece.new.records c.args.disk.now c.read_piece.new.disk c.requires.runs c.read_piece.ensures.still c.args.rid.page c.in_err-piece.field-0.0 c.in_err-piece.ensures.refused)

pub returns-then-len-passed-clause-refused : goal.returns-then-len-passed-clause-refused
returns-then-len-passed-clause-refused g c =
    subst (λ (e : StoreError). NotPassed g.D.Disk (place_of c.args.rid) c.args.passed.now (piece_with_row c.args.passed.now.index c.args.row) (λ (piece : Piece). MayHaveRow (settings_of c.args.records.now).k piece c.args.row) e c.args.records.now c.damaged.new.records c.args.disk.now c.read_piece.new.disk) (sym c.damaged.ensures.result)
    (short_passed g.D.Disk (place_of c.args.rid) c.args.passed.now (piece_with_row c.args.passed.now.index c.args.row) (λ (piece : Piece). MayHaveRow (settings_of c.args.records.now).k piece c.args.row) c.args.records.now c.read_piece.new.records c.args.disk.now c.read_piece.new.disk c.requires.runs c.read_piece.ensures.still c.in_ok-piece.piece c.in_ok-piece.ensures.ok.1 c.in_ok-piece.ensures.ok.2 c.damaged.new.records (let short = c.if-len-passed.true in let len = c.len.ensures in omega (arith, short, len)) (c.damaged.ensures.ends ((c.in_ok-piece.ensures.ok.1).ended_stays ∙ c.requires.runs)))

pub returns-clause-unwritten : goal.returns-clause-unwritten
returns-clause-unwritten g c = ok_map c.put_row.result (λ put keeps alone. absurd (false≢true (sym c.if-is_alone.false ∙ c.is_alone.ensures.1 alone))) c.put_row.ensures.keeps

pub put_row-requires-clause-valid : goal.put_row-requires-clause-valid
put_row-requires-clause-valid g c = c.in_ok-piece.ensures.valid.0

pub put_row-requires-clause-within : goal.put_row-requires-clause-within
put_row-requires-clause-within g c = let not = c.if-len-passed.false in let len = c.len.ensures in omega (arith, not, len)

pub returns-clause-ok : goal.returns-clause-ok
returns-clause-ok g c =
    ok_map c.put_row.result (λ put both.
    more_passed g.D.Disk (place_of c.args.rid) c.args.passed.now (λ (piece : Piece). piece) (λ (piece : Piece). MayHaveRow (settings_of c.args.records.now).k piece c.args.row) c.args.records.now c.read_piece.new.records c.args.disk.now c.read_piece.new.disk c.requires.runs c.read_piece.ensures.still c.in_ok-piece.piece c.in_ok-piece.ensures.ok.1 c.in_ok-piece.ensures.ok.2 c.put_row.new.records c.put_row.new.disk
    (λ (was : Held). MayName was c.args.row.items) (λ (piece : Piece). IsPutAlone (place_of c.args.rid) (piece_with_row c.args.passed.now.index c.args.row piece) put) c.in_ok-piece.ensures.holds both.1) c.put_row.ensures.ok

pub returns-clause-keeps : goal.returns-clause-keeps
returns-clause-keeps g c =
    ok_map c.put_row.result (λ put keeps.
    let on = keeps_passed g.D.Disk (place_of c.args.rid) c.args.passed.now (piece_with_row c.args.passed.now.index c.args.row) (λ (piece : Piece). MayHaveRow (settings_of c.args.records.now).k piece c.args.row) c.args.records.now c.read_piece.new.records c.args.disk.now c.read_piece.new.disk c.requires.runs c.read_piece.ensures.still c.in_ok-piece.piece c.in_ok-piece.ensures.ok.1 c.in_ok-piece.ensures.ok.2 c.put_row.new.records c.put_row.new.disk keeps.0 keeps.1 in
    (on.0, on.1, λ had. keeps.2)) c.put_row.ensures.keeps

pub returns-clause-refused : goal.returns-clause-refused
returns-clause-refused g c =
    let same : (settings_of c.read_piece.new.records).k ≡ (settings_of c.args.records.now).k = ap (λ head. (head.settings).k) (c.in_ok-piece.ensures.ok.1).head_stays in
    err_map c.put_row.result (λ e refused.
    unstored_passed g.D.Disk (place_of c.args.rid) c.args.passed.now (piece_with_row c.args.passed.now.index c.args.row) (λ (piece : Piece). MayHaveRow (settings_of c.args.records.now).k piece c.args.row) c.args.records.now c.read_piece.new.records c.args.disk.now c.read_piece.new.disk c.requires.runs c.read_piece.ensures.still c.in_ok-piece.piece c.in_ok-piece.ensures.ok.1 c.in_ok-piece.ensures.ok.2 c.put_row.new.records c.put_row.new.disk refused.0 e
    (subst (λ (k : ℕ). NotStored g.D.Disk (λ was. put_needs (piece_with_row c.args.passed.now.index c.args.row c.in_ok-piece.piece)) (λ was. MayHaveRow k c.in_ok-piece.piece c.args.row → HoldsNone was (place_of c.args.rid)) refused.0 e c.read_piece.new.records c.put_row.new.records c.read_piece.new.disk c.put_row.new.disk) same refused.1))
    c.put_row.ensures.refused
