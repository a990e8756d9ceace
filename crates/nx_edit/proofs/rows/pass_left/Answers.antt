use Rattle.std.proofs.Common.{◌≡◌, inl, sym, ◌∙◌, subst, arith}
use Rattle.std.proofs.lemmas.Bool.{false≢true}
use Rattle.std.proofs.lemmas.Result.{err_from_is_err_and}
use Rattle.nx_holdings.specs.Holdings.{Held}
use Rattle.nx_piece.specs.declared.piece.Piece.{Piece}
use Rattle.nx_piece.specs.Gapped.{gapped_width}
use Rattle.nx_records.specs.declared.error.StoreError.{StoreError}
use Rattle.nx_records.specs.Refusals.{NotStored}
use Rattle.nx_records.proofs.RefusalLemmas.{err_passed}
use Rattle.nx_piece.specs.Valid.{IsValidPiece}
use Rattle.nx_hold.specs.Pieces.{HoldsNone, MayName}
use Rattle.nx_hold.specs.Changes.{place_of, place_named, ComesTidyWhere}
use Rattle.nx_edit.specs.Passing.{NotPassed, PutsOrStays, put_needs}
use Rattle.nx_edit.specs.Rows.{with_left}
use Rattle.nx_edit.proofs.RowCalls.{ok_map, ok_both, err_map}
use Rattle.nx_edit.proofs.StayLemmas.{left_alone, left_kept, own_ranged, roots_ranged}
use Rattle.nx_edit.proofs.PassCalls.{left_keeps_fars, lacks_anyway, unread_passed, short_passed, unstored_passed, far_passed, keeps_passed}
use Rattle.nx_edit.proofs.rows.pass_left.Goals as goal

pub returns-then-is_left_same-clause-ranged : goal.returns-then-is_left_same-clause-ranged
returns-then-is_left_same-clause-ranged g c = roots_ranged c.own_proxy.result c.args.passed.now.roots c.own_proxy.ensures.roots c.requires.rooted.0 c.requires.rooted.1

pub returns-then-is_left_same-clause-ok : goal.returns-then-is_left_same-clause-ok
returns-then-is_left_same-clause-ok g c = λ saved was stands tidy. (
  was,
  stands,
  tidy,
  left_kept was (place_of c.args.rid) c.args.passed.now c.args.left c.own_proxy.result (c.is_left_same.ensures.0 c.if-is_left_same.true) c.own_proxy.ensures.place c.own_proxy.ensures.roots,
)

pub returns-then-is_left_same-clause-keeps : goal.returns-then-is_left_same-clause-keeps
returns-then-is_left_same-clause-keeps g c =
    let alone = left_alone g.D.Disk c.args.records.now c.args.disk.now c.requires.runs in
    (alone.0, alone.1, λ has. has)

pub returns-in_err-piece-clause-refused : goal.returns-in_err-piece-clause-refused
returns-in_err-piece-clause-refused g c =
    err_passed c.from_residual.result (λ (e : StoreError). NotPassed g.D.Disk (place_of c.args.rid) c.args.passed.now (with_left c.args.passed.now.index c.args.left) (λ (piece : Piece). Unit {0}) e c.args.records.now c.read_piece.new.records c.args.disk.now c.read_piece.new.disk)
    c.in_err-piece.field-0.0 (err_from_is_err_and c.from_residual.result c.from_residual.ensures.1)
    (unread_passed g.D.Disk (place_of c.args.rid) c.args.passed.now (with_left c.args.passed.now.index c.args.left) (λ (piece : Piece). Unit {0}) c.args.records.now c.read_piece.new.records c.args.disk.now c.read_piece.new.disk c.requires.runs c.read_piece.ensures.still c.args.rid.page c.in_err-piece.field-0.0 c.in_err-piece.ensures.refused)

pub returns-then-len-passed-clause-refused : goal.returns-then-len-passed-clause-refused
returns-then-len-passed-clause-refused g c =
    subst (λ (e : StoreError). NotPassed g.D.Disk (place_of c.args.rid) c.args.passed.now (with_left c.args.passed.now.index c.args.left) (λ (piece : Piece). Unit {0}) e c.args.records.now c.damaged.new.records c.args.disk.now c.read_piece.new.disk) (sym c.damaged.ensures.result)
    (short_passed g.D.Disk (place_of c.args.rid) c.args.passed.now (with_left c.args.passed.now.index c.args.left) (λ (piece : Piece). Unit {0}) c.args.records.now c.read_piece.new.records c.args.disk.now c.read_piece.new.disk c.requires.runs c.read_piece.ensures.still c.in_ok-piece.piece c.in_ok-piece.ensures.ok.1 c.in_ok-piece.ensures.ok.2 c.damaged.new.records (let short = c.if-len-passed.true in let len = c.len.ensures in omega (arith, short, len)) (c.damaged.ensures.ends ((c.in_ok-piece.ensures.ok.1).ended_stays ∙ c.requires.runs)))

pub put_left-piece-requires-clause-valid : goal.put_left-piece-requires-clause-valid
put_left-piece-requires-clause-valid g c = c.in_ok-piece.ensures.valid.0

pub put_left-piece-requires-clause-within : goal.put_left-piece-requires-clause-within
put_left-piece-requires-clause-within g c = let not = c.if-len-passed.false in let len = c.len.ensures in omega (arith, not, len)

pub returns-clause-unwritten : goal.returns-clause-unwritten
returns-clause-unwritten g c = ok_map c.update_far.result (λ own keeps same. absurd (false≢true (sym c.if-is_left_same.false ∙ c.is_left_same.ensures.1 same))) c.update_far.ensures.keeps

pub returns-clause-ranged : goal.returns-clause-ranged
returns-clause-ranged g c = ok_map c.update_far.result (λ own roots. own_ranged c.put_left-piece.result own c.put_left-piece.ensures.valid roots) c.update_far.ensures.roots

pub returns-clause-ok : goal.returns-clause-ok
returns-clause-ok g c =
    let left : Piece = with_left c.args.passed.now.index c.args.left c.in_ok-piece.piece in
    ok_map c.update_far.result (λ own both.
    far_passed g.D.Disk (place_of c.args.rid) c.args.passed.now (with_left c.args.passed.now.index c.args.left) (λ (piece : Piece). Unit {0}) c.args.records.now c.read_piece.new.records c.args.disk.now c.read_piece.new.disk c.requires.runs c.read_piece.ensures.still c.in_ok-piece.piece c.in_ok-piece.ensures.ok.1 c.in_ok-piece.ensures.ok.2 c.update_far.new.records c.update_far.new.disk
    (λ (piece : Piece) (was now : Held). (own.roots ≡ gapped_width (with_left c.args.passed.now.index c.args.left piece).body.roots) × PutsOrStays (place_of c.args.rid) (place_named own) (with_left c.args.passed.now.index c.args.left piece) was now)
    c.in_ok-piece.ensures.holds
    (left_keeps_fars c.in_ok-piece.piece c.args.passed.now.index c.args.left (subst IsValidPiece c.put_left-piece.ensures.same c.put_left-piece.ensures.valid))
    (subst (λ (p : Piece). ComesTidyWhere g.D.Disk c.read_piece.new.records c.update_far.new.records c.read_piece.new.disk c.update_far.new.disk (λ was. MayName was p.body.roots) (λ (was now : Held). (own.roots ≡ gapped_width p.body.roots) × PutsOrStays (place_of c.args.rid) (place_named own) p was now)) c.put_left-piece.ensures.same
    (λ saved was stands tidy may. let next = both.1 saved was stands tidy may in (next.0, next.1, next.2, (both.0, inl next.3)))))
    (ok_both _ _ c.update_far.result c.update_far.ensures.roots c.update_far.ensures.ok)

pub returns-clause-keeps : goal.returns-clause-keeps
returns-clause-keeps g c =
    ok_map c.update_far.result (λ own keeps.
    let on = keeps_passed g.D.Disk (place_of c.args.rid) c.args.passed.now (with_left c.args.passed.now.index c.args.left) (λ (piece : Piece). Unit {0}) c.args.records.now c.read_piece.new.records c.args.disk.now c.read_piece.new.disk c.requires.runs c.read_piece.ensures.still c.in_ok-piece.piece c.in_ok-piece.ensures.ok.1 c.in_ok-piece.ensures.ok.2 c.update_far.new.records c.update_far.new.disk keeps.0 keeps.1 in
    (on.0, on.1, λ had. keeps.2)) c.update_far.ensures.keeps

pub returns-clause-refused : goal.returns-clause-refused
returns-clause-refused g c =
    err_map c.update_far.result (λ e refused.
    unstored_passed g.D.Disk (place_of c.args.rid) c.args.passed.now (with_left c.args.passed.now.index c.args.left) (λ (piece : Piece). Unit {0}) c.args.records.now c.read_piece.new.records c.args.disk.now c.read_piece.new.disk c.requires.runs c.read_piece.ensures.still c.in_ok-piece.piece c.in_ok-piece.ensures.ok.1 c.in_ok-piece.ensures.ok.2 c.update_far.new.records c.update_far.new.disk refused.0 e
    (lacks_anyway g.D.Disk (λ was. put_needs (with_left c.args.passed.now.index c.args.left c.in_ok-piece.piece)) (λ was. HoldsNone was (place_of c.args.rid)) (Unit {0}) refused.0 e c.read_piece.new.records c.update_far.new.records c.read_piece.new.disk c.update_far.new.disk
    (subst (λ (p : Piece). NotStored g.D.Disk (λ was. put_needs p) (λ was. HoldsNone was (place_of c.args.rid)) refused.0 e c.read_piece.new.records c.update_far.new.records c.read_piece.new.disk c.update_far.new.disk) c.put_left-piece.ensures.same refused.1)))
    c.update_far.ensures.refused
