use Rattle.std.proofs.Common.{ℕ, List, refl, sym, ◌∙◌, subst}
use Rattle.std.proofs.lemmas.Result.{err_from_is_err_and}
use Rattle.nx_host.proofs.DiskLemmas.{none_still}
use Rattle.nx_records.specs.declared.error.StoreError.{StoreError}
use Rattle.nx_records.specs.Records.{ComesTo}
use Rattle.nx_records.specs.Changes.{AddsRecord}
use Rattle.nx_records.specs.Refusals.{NotStored}
use Rattle.nx_records.proofs.LeaveLemmas.{leaves_same}
use Rattle.nx_records.proofs.RefusalLemmas.{err_passed}
use Rattle.nx_layouts.specs.Layout.{RecordPlace}
use Rattle.nx_hold.specs.Pieces.{MayName}
use Rattle.nx_hold.specs.Changes.{place_of, piece_needs, AddsPiece, ComesTidyWhere}
use Rattle.nx_hold.specs.Putting.{PutsProxies}
use Rattle.nx_hold.proofs.CallLemmas.{added, added_alone, added_free, add_refused, bytes_refused}
use Rattle.nx_hold.proofs.RefusalLemmas.{GoesOn, reads_on, runs_then, saved_then}
use Rattle.nx_hold.proofs.pieces.add_piece.Goals as goal

pub returns-in_err-bytes-clause-refused : goal.returns-in_err-bytes-clause-refused
returns-in_err-bytes-clause-refused g c =
    err_passed c.from_residual.result (λ (e : StoreError). NotStored g.D.Disk (λ was. piece_needs c.args.piece.now) (λ was. ⊥) 0 e c.args.records.now c.record_bytes.new.records c.args.disk.now c.record_bytes.new.disk) c.in_err-bytes.field-0.0
    (err_from_is_err_and c.from_residual.result c.from_residual.ensures.1)
    (bytes_refused {d = g.D.Disk} {r0 = c.args.records.now} {r1 = c.args.records.now} {x0 = c.args.disk.now} {x1 = c.args.disk.now} {Told = λ held. Unit {0}} c.record_bytes.new.records c.record_bytes.new.disk c.args.piece.now 0 (λ was. ⊥)
    (reads_on {r0 = c.args.records.now} {r1 = c.args.records.now} (λ held. Unit {0}) (sym c.is_ended.ensures ∙ c.if-is_ended.false) (leaves_same refl) none_still (λ saved now stands. tt)) c.in_err-bytes.field-0.0 c.in_err-bytes.ensures.refused)

pub returns-in_err-rid-clause-refused : goal.returns-in_err-rid-clause-refused
returns-in_err-rid-clause-refused g c =
    let goes : GoesOn g.D.Disk c.args.records.now c.record_bytes.new.records c.args.disk.now c.record_bytes.new.disk (λ was now. PutsProxies c.args.piece.now c.in_ok-bytes.bytes was now) =
    record { runs = c.in_ok-bytes.ensures.keeps.0; keeps = c.in_ok-bytes.ensures.keeps.1; still = c.record_bytes.ensures.still; comes = c.in_ok-bytes.ensures.ok } in
    err_passed c.from_residual-in_err-rid.result (λ (e : StoreError). NotStored g.D.Disk (λ was. piece_needs c.args.piece.now) (λ was. ⊥) 0 e c.args.records.now c.add.new.self c.args.disk.now c.add.new.disk) c.in_err-rid.field-0.0
    (err_from_is_err_and c.from_residual-in_err-rid.result c.from_residual-in_err-rid.ensures.1)
    (add_refused {d = g.D.Disk} {r0 = c.args.records.now} {r1 = c.record_bytes.new.records} {x0 = c.args.disk.now} {x1 = c.record_bytes.new.disk} c.add.new.self c.add.new.disk c.args.piece.now c.in_ok-bytes.bytes goes
    c.in_err-rid.field-0.0 c.in_err-rid.ensures.refused)

pub returns-clause-ok : goal.returns-clause-ok
returns-clause-ok g c =
    subst (λ (p : RecordPlace). ComesTidyWhere g.D.Disk c.args.records.now c.add.new.self c.args.disk.now c.add.new.disk (λ was. MayName was c.args.piece.now.body.roots) (λ was now. AddsPiece p c.args.piece.now was now)) (sym c.proxy_of.ensures.place)
    (added {d = g.D.Disk} {r0 = c.args.records.now} {r1 = c.record_bytes.new.records} {r2 = c.add.new.self} {x0 = c.args.disk.now} {x1 = c.record_bytes.new.disk} {x2 = c.add.new.disk} c.args.piece.now c.in_ok-bytes.bytes (place_of c.in_ok-rid.rid) c.requires.valid
    c.in_ok-bytes.ensures.ok
    (subst (λ (l : List ℕ). ComesTo g.D.Disk c.record_bytes.new.records c.add.new.self c.record_bytes.new.disk c.add.new.disk (λ was now. AddsRecord c.in_ok-rid.rid.page c.in_ok-rid.rid.slot l was now)) c.as_slice.ensures c.in_ok-rid.ensures.ok))

pub returns-clause-adds : goal.returns-clause-adds
returns-clause-adds g c =
    subst (λ (p : RecordPlace). ComesTo g.D.Disk c.args.records.now c.add.new.self c.args.disk.now c.add.new.disk (λ was now. AddsPiece p c.args.piece.now was now)) (sym c.proxy_of.ensures.place)
    (added_alone {d = g.D.Disk} {r0 = c.args.records.now} {r1 = c.record_bytes.new.records} {r2 = c.add.new.self} {x0 = c.args.disk.now} {x1 = c.record_bytes.new.disk} {x2 = c.add.new.disk} c.args.piece.now c.in_ok-bytes.bytes (place_of c.in_ok-rid.rid) c.requires.valid
    c.in_ok-bytes.ensures.ok
    (subst (λ (l : List ℕ). ComesTo g.D.Disk c.record_bytes.new.records c.add.new.self c.record_bytes.new.disk c.add.new.disk (λ was now. AddsRecord c.in_ok-rid.rid.page c.in_ok-rid.rid.slot l was now)) c.as_slice.ensures c.in_ok-rid.ensures.ok))

pub returns-clause-takes : goal.returns-clause-takes
returns-clause-takes g c =
    added_free {d = g.D.Disk} {r0 = c.args.records.now} {r1 = c.record_bytes.new.records} {r2 = c.add.new.self} {x0 = c.args.disk.now} {x1 = c.record_bytes.new.disk} {x2 = c.add.new.disk} c.args.piece.now c.in_ok-bytes.bytes (place_of c.in_ok-rid.rid)
    c.in_ok-bytes.ensures.ok
    (subst (λ (l : List ℕ). ComesTo g.D.Disk c.record_bytes.new.records c.add.new.self c.record_bytes.new.disk c.add.new.disk (λ was now. AddsRecord c.in_ok-rid.rid.page c.in_ok-rid.rid.slot l was now)) c.as_slice.ensures c.in_ok-rid.ensures.ok)

pub returns-clause-keeps : goal.returns-clause-keeps
returns-clause-keeps g c = (
  runs_then {r0 = c.args.records.now} {r1 = c.record_bytes.new.records} {r2 = c.add.new.self} c.in_ok-bytes.ensures.keeps.0 c.in_ok-rid.ensures.keeps.0,
  saved_then {d = g.D.Disk} {r0 = c.args.records.now} {r1 = c.record_bytes.new.records} {r2 = c.add.new.self} {x0 = c.args.disk.now} {x1 = c.record_bytes.new.disk} {x2 = c.add.new.disk} c.in_ok-bytes.ensures.keeps.1 c.in_ok-rid.ensures.keeps.1,
  c.in_ok-rid.ensures.keeps.2,
)
