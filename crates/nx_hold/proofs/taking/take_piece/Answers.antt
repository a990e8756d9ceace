use Rattle.std.proofs.lemmas.Result.{err_from_is_err_and}
use Rattle.std.proofs.Common.{◌≡◌, sym, subst}
use Rattle.nx_host.proofs.DiskLemmas.{still_then}
use Rattle.nx_holdings.specs.Holdings.{Held}
use Rattle.nx_records.specs.declared.error.StoreError.{StoreError}
use Rattle.nx_records.specs.Refusals.{NotChanged}
use Rattle.nx_records.proofs.LeaveLemmas.{leaves_add_up, leaves_stand}
use Rattle.nx_records.proofs.RefusalLemmas.{err_passed}
use Rattle.nx_piece.specs.declared.piece.Piece.{Piece}
use Rattle.nx_piece.specs.Viewing.{seen_stored}
use Rattle.nx_layouts.specs.Layout.{RecordPlace}
use Rattle.nx_hold.specs.Pieces.{HoldsNone, IsStored}
use Rattle.nx_hold.specs.Changes.{place_of, IsTakenOf}
use Rattle.nx_hold.specs.Putting.{piece_with}
use Rattle.nx_hold.proofs.CallLemmas.{removing, removed, removed_tidy, remove_refused, list_refused, IsReading, IsRemoving}
use Rattle.nx_hold.proofs.RefusalLemmas.{GoesOn, reads_on, read_changed, later_read, runs_then, saved_then}
use Rattle.nx_hold.proofs.taking.take_piece.Goals as goal

pub returns-in_err-stored-clause-refused : goal.returns-in_err-stored-clause-refused
returns-in_err-stored-clause-refused g c =
    err_passed c.from_residual.result (λ (e : StoreError). NotChanged g.D.Disk (λ was. HoldsNone was (place_of c.args.rid)) c.args.rid.page e c.args.records.now c.viewed_at.new.records c.args.disk.now c.viewed_at.new.disk) c.in_err-stored.field-0.0
    (err_from_is_err_and c.from_residual.result c.from_residual.ensures.1)
    (read_changed g.D.Disk (λ was. HoldsNone was (place_of c.args.rid)) c.args.rid.page c.args.records.now c.viewed_at.new.records c.args.disk.now c.viewed_at.new.disk c.viewed_at.ensures.still c.in_err-stored.field-0.0 c.in_err-stored.ensures.refused)

pub returns-in_err-listed-clause-refused : goal.returns-in_err-listed-clause-refused
returns-in_err-listed-clause-refused g c =
    err_passed c.from_residual-in_err-listed.result (λ (e : StoreError). NotChanged g.D.Disk (λ was. HoldsNone was (place_of c.args.rid)) c.args.rid.page e c.args.records.now c.listed_proxies.new.records c.args.disk.now c.listed_proxies.new.disk) c.in_err-listed.field-0.0
    (err_from_is_err_and c.from_residual-in_err-listed.result c.from_residual-in_err-listed.ensures.1)
    (read_changed g.D.Disk (λ was. HoldsNone was (place_of c.args.rid)) c.args.rid.page c.args.records.now c.listed_proxies.new.records c.args.disk.now c.listed_proxies.new.disk
    (still_then c.viewed_at.ensures.still c.listed_proxies.ensures.still) c.in_err-listed.field-0.0
    (later_read {d = g.D.Disk} {r0 = c.args.records.now} {r1 = c.viewed_at.new.records} {x0 = c.args.disk.now} {x1 = c.viewed_at.new.disk}
    (reads_on {r0 = c.args.records.now} {r1 = c.viewed_at.new.records} (λ held. IsStored held (place_of c.args.rid) (seen_stored c.in_ok-stored.stored)) c.in_ok-stored.ensures.ok.0 c.in_ok-stored.ensures.ok.1 c.viewed_at.ensures.still c.in_ok-stored.ensures.ok.4)
    (λ now. (place : RecordPlace) → IsStored now place (seen_stored c.in_ok-stored.stored) → HoldsNone now place) (λ now. HoldsNone now (place_of c.args.rid)) c.args.rid.page
    (λ was mid read lacks. subst (λ (h : Held). HoldsNone h (place_of c.args.rid)) read.0
    (lacks (place_of c.args.rid) (subst (λ (h : Held). IsStored h (place_of c.args.rid) (seen_stored c.in_ok-stored.stored)) (sym read.0) read.1)))
    c.listed_proxies.new.records c.listed_proxies.new.disk c.in_ok-stored.ensures.ok.1 c.in_err-listed.field-0.0 c.in_err-listed.ensures.refused))

pub returns-in_err-remove-clause-refused : goal.returns-in_err-remove-clause-refused
returns-in_err-remove-clause-refused g c =
    let reads : GoesOn g.D.Disk c.args.records.now c.listed_proxies.new.records c.args.disk.now c.listed_proxies.new.disk (IsReading (place_of c.args.rid) (seen_stored c.in_ok-stored.stored)) =
    reads_on {r0 = c.args.records.now} {r1 = c.listed_proxies.new.records} (λ held. IsStored held (place_of c.args.rid) (seen_stored c.in_ok-stored.stored)) c.in_ok-stored.ensures.ok.0
    (leaves_add_up c.in_ok-stored.ensures.ok.1 c.in_ok-listed.ensures.ok.0) (still_then c.viewed_at.ensures.still c.listed_proxies.ensures.still) c.in_ok-stored.ensures.ok.4 in
    err_passed c.from_residual-in_err-remove.result (λ (e : StoreError). NotChanged g.D.Disk (λ was. HoldsNone was (place_of c.args.rid)) c.args.rid.page e c.args.records.now c.remove.new.self c.args.disk.now c.remove.new.disk) c.in_err-remove.field-0.0
    (err_from_is_err_and c.from_residual-in_err-remove.result c.from_residual-in_err-remove.ensures.1)
    (remove_refused {d = g.D.Disk} {r0 = c.args.records.now} {r1 = c.listed_proxies.new.records} {x0 = c.args.disk.now} {x1 = c.listed_proxies.new.disk} c.remove.new.self c.remove.new.disk (place_of c.args.rid) (seen_stored c.in_ok-stored.stored)
    reads c.in_err-remove.field-0.0 c.in_err-remove.ensures.refused)

pub returns-in_err-free_proxies-clause-refused : goal.returns-in_err-free_proxies-clause-refused
returns-in_err-free_proxies-clause-refused g c =
    let reads : GoesOn g.D.Disk c.args.records.now c.listed_proxies.new.records c.args.disk.now c.listed_proxies.new.disk (IsReading (place_of c.args.rid) (seen_stored c.in_ok-stored.stored)) =
    reads_on {r0 = c.args.records.now} {r1 = c.listed_proxies.new.records} (λ held. IsStored held (place_of c.args.rid) (seen_stored c.in_ok-stored.stored)) c.in_ok-stored.ensures.ok.0
    (leaves_add_up c.in_ok-stored.ensures.ok.1 c.in_ok-listed.ensures.ok.0) (still_then c.viewed_at.ensures.still c.listed_proxies.ensures.still) c.in_ok-stored.ensures.ok.4 in
    let removes : GoesOn g.D.Disk c.args.records.now c.remove.new.self c.args.disk.now c.remove.new.disk (IsRemoving (place_of c.args.rid) (seen_stored c.in_ok-stored.stored)) =
    removing {r0 = c.args.records.now} {r1 = c.listed_proxies.new.records} {r2 = c.remove.new.self} (place_of c.args.rid) (seen_stored c.in_ok-stored.stored) reads
    (record { runs = c.in_ok-remove.ensures.keeps.0; keeps = c.in_ok-remove.ensures.keeps.1; still = c.remove.ensures.still; comes = c.in_ok-remove.ensures.ok }) in
    err_passed c.from_residual-in_err-free_proxies.result (λ (e : StoreError). NotChanged g.D.Disk (λ was. HoldsNone was (place_of c.args.rid)) c.args.rid.page e c.args.records.now c.free_proxies.new.records c.args.disk.now c.free_proxies.new.disk) c.in_err-free_proxies.field-0.0
    (err_from_is_err_and c.from_residual-in_err-free_proxies.result c.from_residual-in_err-free_proxies.ensures.1)
    (list_refused {d = g.D.Disk} {r0 = c.args.records.now} {r1 = c.remove.new.self} {x0 = c.args.disk.now} {x1 = c.remove.new.disk} c.free_proxies.new.records c.free_proxies.new.disk (place_of c.args.rid) (seen_stored c.in_ok-stored.stored)
    removes c.in_err-free_proxies.field-0.0 (c.in_err-free_proxies.ensures.refused (seen_stored c.in_ok-stored.stored) c.named_in.ensures))

pub returns-clause-own : goal.returns-clause-own
returns-clause-own g c =
    let reads : GoesOn g.D.Disk c.args.records.now c.listed_proxies.new.records c.args.disk.now c.listed_proxies.new.disk (IsReading (place_of c.args.rid) (seen_stored c.in_ok-stored.stored)) =
    reads_on {r0 = c.args.records.now} {r1 = c.listed_proxies.new.records} (λ held. IsStored held (place_of c.args.rid) (seen_stored c.in_ok-stored.stored)) c.in_ok-stored.ensures.ok.0
    (leaves_add_up c.in_ok-stored.ensures.ok.1 c.in_ok-listed.ensures.ok.0) (still_then c.viewed_at.ensures.still c.listed_proxies.ensures.still) c.in_ok-stored.ensures.ok.4 in
    let removes : GoesOn g.D.Disk c.args.records.now c.remove.new.self c.args.disk.now c.remove.new.disk (IsRemoving (place_of c.args.rid) (seen_stored c.in_ok-stored.stored)) =
    removing {r0 = c.args.records.now} {r1 = c.listed_proxies.new.records} {r2 = c.remove.new.self} (place_of c.args.rid) (seen_stored c.in_ok-stored.stored) reads
    (record { runs = c.in_ok-remove.ensures.keeps.0; keeps = c.in_ok-remove.ensures.keeps.1; still = c.remove.ensures.still; comes = c.in_ok-remove.ensures.ok }) in
    removed {d = g.D.Disk} {r0 = c.args.records.now} {r1 = c.remove.new.self} {r2 = c.free_proxies.new.records} {x0 = c.args.disk.now} {x1 = c.remove.new.disk} {x2 = c.free_proxies.new.disk} (place_of c.args.rid) (seen_stored c.in_ok-stored.stored) removes.comes (c.in_ok-free_proxies.ensures.ok (seen_stored c.in_ok-stored.stored) c.named_in.ensures)

pub returns-clause-ok : goal.returns-clause-ok
returns-clause-ok g c =
    let reads : GoesOn g.D.Disk c.args.records.now c.listed_proxies.new.records c.args.disk.now c.listed_proxies.new.disk (IsReading (place_of c.args.rid) (seen_stored c.in_ok-stored.stored)) =
    reads_on {r0 = c.args.records.now} {r1 = c.listed_proxies.new.records} (λ held. IsStored held (place_of c.args.rid) (seen_stored c.in_ok-stored.stored)) c.in_ok-stored.ensures.ok.0
    (leaves_add_up c.in_ok-stored.ensures.ok.1 c.in_ok-listed.ensures.ok.0) (still_then c.viewed_at.ensures.still c.listed_proxies.ensures.still) c.in_ok-stored.ensures.ok.4 in
    let removes : GoesOn g.D.Disk c.args.records.now c.remove.new.self c.args.disk.now c.remove.new.disk (IsRemoving (place_of c.args.rid) (seen_stored c.in_ok-stored.stored)) =
    removing {r0 = c.args.records.now} {r1 = c.listed_proxies.new.records} {r2 = c.remove.new.self} (place_of c.args.rid) (seen_stored c.in_ok-stored.stored) reads
    (record { runs = c.in_ok-remove.ensures.keeps.0; keeps = c.in_ok-remove.ensures.keeps.1; still = c.remove.ensures.still; comes = c.in_ok-remove.ensures.ok }) in
    removed_tidy {d = g.D.Disk} {r0 = c.args.records.now} {r2 = c.free_proxies.new.records} {x0 = c.args.disk.now} {x2 = c.free_proxies.new.disk} (place_of c.args.rid)
    (removed {d = g.D.Disk} {r0 = c.args.records.now} {r1 = c.remove.new.self} {r2 = c.free_proxies.new.records} {x0 = c.args.disk.now} {x1 = c.remove.new.disk} {x2 = c.free_proxies.new.disk} (place_of c.args.rid) (seen_stored c.in_ok-stored.stored) removes.comes (c.in_ok-free_proxies.ensures.ok (seen_stored c.in_ok-stored.stored) c.named_in.ensures))

pub returns-clause-keeps : goal.returns-clause-keeps
returns-clause-keeps g c =
    let reads : GoesOn g.D.Disk c.args.records.now c.listed_proxies.new.records c.args.disk.now c.listed_proxies.new.disk (IsReading (place_of c.args.rid) (seen_stored c.in_ok-stored.stored)) =
    reads_on {r0 = c.args.records.now} {r1 = c.listed_proxies.new.records} (λ held. IsStored held (place_of c.args.rid) (seen_stored c.in_ok-stored.stored)) c.in_ok-stored.ensures.ok.0
    (leaves_add_up c.in_ok-stored.ensures.ok.1 c.in_ok-listed.ensures.ok.0) (still_then c.viewed_at.ensures.still c.listed_proxies.ensures.still) c.in_ok-stored.ensures.ok.4 in
    let removes : GoesOn g.D.Disk c.args.records.now c.remove.new.self c.args.disk.now c.remove.new.disk (IsRemoving (place_of c.args.rid) (seen_stored c.in_ok-stored.stored)) =
    removing {r0 = c.args.records.now} {r1 = c.listed_proxies.new.records} {r2 = c.remove.new.self} (place_of c.args.rid) (seen_stored c.in_ok-stored.stored) reads
    (record { runs = c.in_ok-remove.ensures.keeps.0; keeps = c.in_ok-remove.ensures.keeps.1; still = c.remove.ensures.still; comes = c.in_ok-remove.ensures.ok }) in
    let keeps = c.in_ok-free_proxies.ensures.keeps in (
      runs_then {r0 = c.args.records.now} {r1 = c.remove.new.self} {r2 = c.free_proxies.new.records} removes.runs keeps.0,
      saved_then {d = g.D.Disk} {r0 = c.args.records.now} {r1 = c.remove.new.self} {r2 = c.free_proxies.new.records} {x0 = c.args.disk.now} {x1 = c.remove.new.disk} {x2 = c.free_proxies.new.disk} removes.keeps keeps.1,
      keeps.2 c.in_ok-remove.ensures.keeps.2,
    )

pub returns-clause-taken : goal.returns-clause-taken
returns-clause-taken g c saved now held stands holds =
    let mid = leaves_stand {d = g.D.Disk} c.in_ok-stored.ensures.ok.1 c.viewed_at.ensures.still stands in
    let is = c.in_ok-stored.ensures.ok.4 saved now stands in
    let same : piece_with (seen_stored c.in_ok-stored.stored) c.in_ok-listed.listed ≡ held = c.in_ok-listed.ensures.ok.1 saved now (place_of c.args.rid) held mid is holds in
    subst (λ (p : Piece). IsTakenOf p c.taken_of.result) same c.taken_of.ensures.taken
