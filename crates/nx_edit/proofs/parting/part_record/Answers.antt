use Rattle.std.proofs.Common.{sym, ◌∙◌, ap, subst, arith}
use Rattle.std.proofs.lemmas.Result.{err_from_is_err_and}
use Rattle.nx_piece.specs.declared.piece.Piece.{Piece}
use Rattle.nx_piece.specs.Gapped.{gapped_width}
use Rattle.nx_piece.specs.Valid.{IsValidPiece}
use Rattle.nx_records.specs.declared.error.StoreError.{StoreError}
use Rattle.nx_records.proofs.RefusalLemmas.{err_passed}
use Rattle.nx_hold.specs.Changes.{place_of}
use Rattle.nx_piece_edits.proofs.ContentsLemmas.{edits_keep_contents}
use Rattle.nx_edit.specs.Parting.{NotParted}
use Rattle.nx_edit.proofs.HalfLemmas.{made_valid}
use Rattle.nx_edit.proofs.PartCalls.{first_count, unread_part, part_memory, too_few, unmade, unput_first, unadded_second, parted_keeps, parted_comes}
use Rattle.nx_edit.proofs.RowCalls.{valid_piece}
use Rattle.nx_edit.proofs.parting.part_record.Goals as goal

pub make_far-requires-clause-piece : goal.make_far-requires-clause-piece
make_far-requires-clause-piece g c = valid_piece c.in_ok-inner.inner c.in_ok-inner.ensures.valid.0

pub divide_roots-requires-clause-piece : goal.divide_roots-requires-clause-piece
divide_roots-requires-clause-piece g c = valid_piece c.in_ok-made.made (made_valid c.in_ok-inner.inner c.in_ok-made.made c.in_ok-made.ensures.far c.in_ok-inner.ensures.valid.0)

pub update_piece-requires-clause-valid : goal.update_piece-requires-clause-valid
update_piece-requires-clause-valid g c = (c.in-Ok.ensures.valid (made_valid c.in_ok-inner.inner c.in_ok-made.made c.in_ok-made.ensures.far c.in_ok-inner.ensures.valid.0)).0

pub update_piece-requires-clause-near : goal.update_piece-requires-clause-near
update_piece-requires-clause-near g c = (edits_keep_contents.divided c.in_ok-made.made c.args.before (c.in-Ok.first, c.in-Ok.second) c.in-Ok.ensures).0.near (c.in_ok-made.ensures.far).near

pub add_piece-requires-clause-valid : goal.add_piece-requires-clause-valid
add_piece-requires-clause-valid g c = (c.in-Ok.ensures.valid (made_valid c.in_ok-inner.inner c.in_ok-made.made c.in_ok-made.ensures.far c.in_ok-inner.ensures.valid.0)).1

pub add_piece-requires-clause-near : goal.add_piece-requires-clause-near
add_piece-requires-clause-near g c = (edits_keep_contents.divided c.in_ok-made.made c.args.before (c.in-Ok.first, c.in-Ok.second) c.in-Ok.ensures).1.near (c.in_ok-made.ensures.far).near

pub returns-in_err-inner-clause-refused : goal.returns-in_err-inner-clause-refused
returns-in_err-inner-clause-refused g c =
    err_passed c.from_residual.result (λ (e : StoreError). NotParted g.D.Disk (place_of c.args.rid) c.args.before e c.args.records.now c.read_piece.new.records c.args.disk.now c.read_piece.new.disk)
    c.in_err-inner.field-0.0 (err_from_is_err_and c.from_residual.result c.from_residual.ensures.1)
    (unread_part g.D.Disk (place_of c.args.rid) c.args.before c.args.records.now c.read_piece.new.records c.args.disk.now c.read_piece.new.disk c.requires.runs c.read_piece.ensures.still c.args.rid.page c.in_err-inner.field-0.0 c.in_err-inner.ensures.refused)

pub returns-then-len-from-clause-refused : goal.returns-then-len-from-clause-refused
returns-then-len-from-clause-refused g c =
    subst (λ (e : StoreError). NotParted g.D.Disk (place_of c.args.rid) c.args.before e c.args.records.now c.damaged.new.records c.args.disk.now c.read_piece.new.disk) (sym c.damaged.ensures.result)
    (too_few g.D.Disk (place_of c.args.rid) c.args.before c.args.records.now c.read_piece.new.records c.args.disk.now c.read_piece.new.disk c.requires.runs c.read_piece.ensures.still c.in_ok-inner.inner c.in_ok-inner.ensures.valid.0 c.in_ok-inner.ensures.ok.1 c.in_ok-inner.ensures.ok.2 c.in_ok-inner.ensures.holds c.damaged.new.records
    (let few = c.if-len-from.true in let a = c.len.ensures in let b = c.from.ensures in omega (arith, few, a, b)) (c.damaged.ensures.ends ((c.in_ok-inner.ensures.ok.1).ended_stays ∙ c.requires.runs)))

pub returns-in_err-made-clause-refused : goal.returns-in_err-made-clause-refused
returns-in_err-made-clause-refused g c =
    err_passed c.from_residual-in_err-made.result (λ (e : StoreError). NotParted g.D.Disk (place_of c.args.rid) c.args.before e c.args.records.now c.make_far.new.records c.args.disk.now c.make_far.new.disk)
    c.in_err-made.field-0.0 (err_from_is_err_and c.from_residual-in_err-made.result c.from_residual-in_err-made.ensures.1)
    (unmade g.D.Disk (place_of c.args.rid) c.args.before c.args.records.now c.read_piece.new.records c.args.disk.now c.read_piece.new.disk c.requires.runs c.read_piece.ensures.still c.in_ok-inner.inner c.in_ok-inner.ensures.valid.0 c.in_ok-inner.ensures.ok.1 c.in_ok-inner.ensures.ok.2 c.in_ok-inner.ensures.holds 0 c.make_far.new.records c.make_far.new.disk c.in_err-made.field-0.0 c.in_err-made.ensures.refused)

pub returns-in_default-clause-refused : goal.returns-in_default-clause-refused
returns-in_default-clause-refused g c =
    part_memory g.D.Disk (place_of c.args.rid) c.args.before c.args.records.now c.read_piece.new.records c.args.disk.now c.read_piece.new.disk c.requires.runs c.read_piece.ensures.still c.in_ok-inner.inner c.in_ok-inner.ensures.valid.0 c.in_ok-inner.ensures.ok.1 c.in_ok-inner.ensures.ok.2 c.in_ok-inner.ensures.holds
    c.in_ok-made.made c.in_ok-made.ensures.far c.make_far.new.records c.make_far.new.disk c.in_ok-made.ensures.ok c.in_ok-made.ensures.keeps.0 c.in_ok-made.ensures.keeps.1 c.make_far.ensures.still

pub returns-in_err-front-clause-refused : goal.returns-in_err-front-clause-refused
returns-in_err-front-clause-refused g c =
    err_passed c.from_residual-in_err-front.result (λ (e : StoreError). NotParted g.D.Disk (place_of c.args.rid) c.args.before e c.args.records.now c.update_piece.new.records c.args.disk.now c.update_piece.new.disk)
    c.in_err-front.field-0.0 (err_from_is_err_and c.from_residual-in_err-front.result c.from_residual-in_err-front.ensures.1)
    (unput_first g.D.Disk (place_of c.args.rid) c.args.before c.args.records.now c.read_piece.new.records c.args.disk.now c.read_piece.new.disk c.requires.runs c.read_piece.ensures.still c.in_ok-inner.inner c.in_ok-inner.ensures.valid.0 c.in_ok-inner.ensures.ok.1 c.in_ok-inner.ensures.ok.2 c.in_ok-inner.ensures.holds
    c.in_ok-made.made c.in_ok-made.ensures.far c.make_far.new.records c.make_far.new.disk c.in_ok-made.ensures.ok c.in_ok-made.ensures.keeps.0 c.in_ok-made.ensures.keeps.1 c.make_far.ensures.still
    (c.in-Ok.first, c.in-Ok.second) c.in-Ok.ensures c.args.rid.page c.update_piece.new.records c.update_piece.new.disk c.in_err-front.field-0.0 c.in_err-front.ensures.refused)

pub returns-in_err-back-clause-refused : goal.returns-in_err-back-clause-refused
returns-in_err-back-clause-refused g c =
    err_passed c.from_residual-in_err-back.result (λ (e : StoreError). NotParted g.D.Disk (place_of c.args.rid) c.args.before e c.args.records.now c.add_piece.new.records c.args.disk.now c.add_piece.new.disk)
    c.in_err-back.field-0.0 (err_from_is_err_and c.from_residual-in_err-back.result c.from_residual-in_err-back.ensures.1)
    (unadded_second g.D.Disk (place_of c.args.rid) c.args.before c.args.records.now c.read_piece.new.records c.args.disk.now c.read_piece.new.disk c.requires.runs c.read_piece.ensures.still c.in_ok-inner.inner c.in_ok-inner.ensures.valid.0 c.in_ok-inner.ensures.ok.1 c.in_ok-inner.ensures.ok.2 c.in_ok-inner.ensures.holds
    c.in_ok-made.made c.in_ok-made.ensures.far c.make_far.new.records c.make_far.new.disk c.in_ok-made.ensures.ok c.in_ok-made.ensures.keeps.0 c.in_ok-made.ensures.keeps.1 c.make_far.ensures.still
    (c.in-Ok.first, c.in-Ok.second) c.in-Ok.ensures c.update_piece.new.records c.update_piece.new.disk c.in_ok-front.front c.in_ok-front.ensures.ok c.in_ok-front.ensures.keeps.0 c.in_ok-front.ensures.keeps.1 (c.update_piece.ensures.still).faults_later
    0 c.add_piece.new.records c.add_piece.new.disk c.in_err-back.field-0.0 c.in_err-back.ensures.refused)

pub returns-clause-ranged : goal.returns-clause-ranged
returns-clause-ranged g c =
    let made : Piece = c.in_ok-made.made in
    let d = c.in-Ok.ensures in
    let more = c.if-len-from.false in
    let a = c.len.ensures in
    let b = c.from.ensures in
    let wide = (c.in_ok-made.ensures.far).wide in
    let valid : IsValidPiece made = made_valid c.in_ok-inner.inner made c.in_ok-made.ensures.far c.in_ok-inner.ensures.valid.0 in
    let most = (valid.body).few in
    let one = ap gapped_width d.front in
    let count = first_count c.args.before made.body.roots (valid.body).trees (omega (arith, more, a, b, wide)) in
    let second = (d.valid valid).1 in
    let some = (second.body).some in
    let few = (second.body).few in
    let front = c.in_ok-front.ensures.roots in
    let back = c.in_ok-back.ensures.roots in
    (front ∙ one ∙ count, omega (arith, more, a, b, most, wide), omega (arith, some, back), omega (arith, few, back))

pub returns-clause-ok : goal.returns-clause-ok
returns-clause-ok g c =
    parted_comes g.D.Disk (place_of c.args.rid) c.args.before c.args.records.now c.read_piece.new.records c.args.disk.now c.read_piece.new.disk c.requires.runs c.read_piece.ensures.still c.in_ok-inner.inner c.in_ok-inner.ensures.valid.0 c.in_ok-inner.ensures.ok.1 c.in_ok-inner.ensures.ok.2 c.in_ok-inner.ensures.holds
    c.in_ok-made.made c.in_ok-made.ensures.far c.make_far.new.records c.make_far.new.disk c.in_ok-made.ensures.ok c.in_ok-made.ensures.keeps.0 c.in_ok-made.ensures.keeps.1 c.make_far.ensures.still
    (c.in-Ok.first, c.in-Ok.second) c.in-Ok.ensures c.update_piece.new.records c.update_piece.new.disk c.in_ok-front.front c.in_ok-front.ensures.ok c.in_ok-front.ensures.keeps.0 c.in_ok-front.ensures.keeps.1 (c.update_piece.ensures.still).faults_later
    c.add_piece.new.records c.add_piece.new.disk c.in_ok-back.back (let more = c.if-len-from.false in let a = c.len.ensures in let b = c.from.ensures in omega (arith, more, a, b)) c.in_ok-front.ensures.roots c.in_ok-back.ensures.roots c.in_ok-back.ensures.ok

pub returns-clause-keeps : goal.returns-clause-keeps
returns-clause-keeps g c =
    let on = parted_keeps g.D.Disk (place_of c.args.rid) c.args.before c.args.records.now c.read_piece.new.records c.args.disk.now c.read_piece.new.disk c.requires.runs c.read_piece.ensures.still c.in_ok-inner.inner c.in_ok-inner.ensures.valid.0 c.in_ok-inner.ensures.ok.1 c.in_ok-inner.ensures.ok.2 c.in_ok-inner.ensures.holds
    c.in_ok-made.made c.in_ok-made.ensures.far c.make_far.new.records c.make_far.new.disk c.in_ok-made.ensures.ok c.in_ok-made.ensures.keeps.0 c.in_ok-made.ensures.keeps.1 c.make_far.ensures.still
    (c.in-Ok.first, c.in-Ok.second) c.in-Ok.ensures c.update_piece.new.records c.update_piece.new.disk c.in_ok-front.front c.in_ok-front.ensures.ok c.in_ok-front.ensures.keeps.0 c.in_ok-front.ensures.keeps.1 (c.update_piece.ensures.still).faults_later
    c.add_piece.new.records c.add_piece.new.disk c.in_ok-back.ensures.keeps.0 c.in_ok-back.ensures.keeps.1 in
    (on.0, on.1, c.in_ok-back.ensures.keeps.2)
