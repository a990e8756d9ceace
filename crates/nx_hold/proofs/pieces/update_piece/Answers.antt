use Rattle.std.proofs.Common.{◌≡◌, ℕ, List, None, sym, subst}
use Rattle.std.proofs.lemmas.Result.{err_from_is_err_and}
use Rattle.nx_host.proofs.DiskLemmas.{still_then}
use Rattle.nx_records.specs.declared.error.StoreError.{StoreError}
use Rattle.nx_records.specs.Records.{ComesTo}
use Rattle.nx_records.specs.Changes.{UpdatesRecord, update_needs}
use Rattle.nx_records.specs.Refusals.{NotStored}
use Rattle.nx_records.proofs.RefusalLemmas.{err_passed}
use Rattle.nx_layouts.specs.Layout.{RecordPlace}
use Rattle.nx_hold.specs.Pieces.{HoldsNone, IsStored, MayName}
use Rattle.nx_hold.specs.Changes.{place_of, piece_needs, UpdatesPiece, ComesOwn, ComesTidyWhere}
use Rattle.nx_hold.proofs.CallLemmas.{putting, updating, updated, updated_tidy, bytes_refused, update_refused, free_refused, kept_own, kept_refused, IsPutting, IsUpdating, IsReading}
use Rattle.nx_hold.proofs.RefusalLemmas.{GoesOn, reads_on, read_changed, change_stored, runs_then, saved_then}
use Rattle.nx_hold.proofs.pieces.update_piece.Goals as goal

pub returns-in_err-old-clause-refused : goal.returns-in_err-old-clause-refused
returns-in_err-old-clause-refused g c =
    err_passed c.from_residual.result (λ (e : StoreError). NotStored g.D.Disk (λ was. piece_needs c.args.piece.now) (λ was. HoldsNone was (place_of c.args.rid)) c.args.rid.page e
    c.args.records.now c.named_at.new.records c.args.disk.now c.named_at.new.disk) c.in_err-old.field-0.0
    (err_from_is_err_and c.from_residual.result c.from_residual.ensures.1)
    (change_stored g.D.Disk (λ was. HoldsNone was (place_of c.args.rid)) c.args.rid.page c.args.records.now c.named_at.new.records c.args.disk.now c.named_at.new.disk c.named_at.ensures.still (λ was. piece_needs c.args.piece.now) c.in_err-old.field-0.0
    (read_changed g.D.Disk (λ was. HoldsNone was (place_of c.args.rid)) c.args.rid.page c.args.records.now c.named_at.new.records c.args.disk.now c.named_at.new.disk c.named_at.ensures.still c.in_err-old.field-0.0 c.in_err-old.ensures.refused))

pub returns-in_err-kept-clause-refused : goal.returns-in_err-kept-clause-refused
returns-in_err-kept-clause-refused g c =
    let reads : GoesOn g.D.Disk c.args.records.now c.named_at.new.records c.args.disk.now c.named_at.new.disk (IsReading (place_of c.args.rid) c.in_ok-old.ensures.ok.0) =
    reads_on {r0 = c.args.records.now} {r1 = c.named_at.new.records} (λ held. IsStored held (place_of c.args.rid) c.in_ok-old.ensures.ok.0) c.in_ok-old.ensures.ok.1 c.in_ok-old.ensures.ok.2 c.named_at.ensures.still c.in_ok-old.ensures.ok.4 in
    err_passed c.from_residual-in_err-kept.result (λ (e : StoreError). NotStored g.D.Disk (λ was. piece_needs c.args.piece.now) (λ was. HoldsNone was (place_of c.args.rid)) c.args.rid.page e
    c.args.records.now c.update_on_list.new.records c.args.disk.now c.update_on_list.new.disk) c.in_err-kept.field-0.0
    (err_from_is_err_and c.from_residual-in_err-kept.result c.from_residual-in_err-kept.ensures.1)
    (kept_refused {d = g.D.Disk} {r0 = c.args.records.now} {r1 = c.named_at.new.records} {x0 = c.args.disk.now} {x1 = c.named_at.new.disk} c.update_on_list.new.records c.update_on_list.new.disk (place_of c.args.rid) c.args.piece.now c.in_ok-old.ensures.ok.0
    c.in-Some.list.count c.in-Some.list.chain (c.in-Some.ensures.names c.in_ok-old.ensures.ok.0 c.in_ok-old.ensures.ok.3) reads c.in_err-kept.field-0.0 c.in_err-kept.ensures.refused)

pub returns-in-Some-clause-own : goal.returns-in-Some-clause-own
returns-in-Some-clause-own g c =
    let reads : GoesOn g.D.Disk c.args.records.now c.named_at.new.records c.args.disk.now c.named_at.new.disk (IsReading (place_of c.args.rid) c.in_ok-old.ensures.ok.0) =
    reads_on {r0 = c.args.records.now} {r1 = c.named_at.new.records} (λ held. IsStored held (place_of c.args.rid) c.in_ok-old.ensures.ok.0) c.in_ok-old.ensures.ok.1 c.in_ok-old.ensures.ok.2 c.named_at.ensures.still c.in_ok-old.ensures.ok.4 in
    subst (λ (p : RecordPlace). ComesOwn g.D.Disk c.args.records.now c.update_on_list.new.records c.args.disk.now c.update_on_list.new.disk (place_of c.args.rid) (λ was now. UpdatesPiece (place_of c.args.rid) p c.args.piece.now was now))
    (sym c.proxy_of.ensures.place)
    (kept_own {d = g.D.Disk} {r0 = c.args.records.now} {r1 = c.named_at.new.records} {r2 = c.update_on_list.new.records} {x0 = c.args.disk.now} {x1 = c.named_at.new.disk} {x2 = c.update_on_list.new.disk} (place_of c.args.rid) (place_of c.in_ok-kept.kept)
    c.args.piece.now c.in_ok-old.ensures.ok.0 c.in-Some.list.count c.in-Some.list.chain (c.in-Some.ensures.names c.in_ok-old.ensures.ok.0 c.in_ok-old.ensures.ok.3) reads c.in_ok-kept.ensures.ok)

pub returns-in-Some-clause-ok : goal.returns-in-Some-clause-ok
returns-in-Some-clause-ok g c =
    let reads : GoesOn g.D.Disk c.args.records.now c.named_at.new.records c.args.disk.now c.named_at.new.disk (IsReading (place_of c.args.rid) c.in_ok-old.ensures.ok.0) =
    reads_on {r0 = c.args.records.now} {r1 = c.named_at.new.records} (λ held. IsStored held (place_of c.args.rid) c.in_ok-old.ensures.ok.0) c.in_ok-old.ensures.ok.1 c.in_ok-old.ensures.ok.2 c.named_at.ensures.still c.in_ok-old.ensures.ok.4 in
    subst (λ (p : RecordPlace). ComesTidyWhere g.D.Disk c.args.records.now c.update_on_list.new.records c.args.disk.now c.update_on_list.new.disk (λ was. MayName was c.args.piece.now.body.roots) (λ was now. UpdatesPiece (place_of c.args.rid) p c.args.piece.now was now)) (sym c.proxy_of.ensures.place)
    (updated_tidy {d = g.D.Disk} {r0 = c.args.records.now} {r2 = c.update_on_list.new.records} {x0 = c.args.disk.now} {x2 = c.update_on_list.new.disk} (place_of c.args.rid) (place_of c.in_ok-kept.kept) c.args.piece.now
    (kept_own {d = g.D.Disk} {r0 = c.args.records.now} {r1 = c.named_at.new.records} {r2 = c.update_on_list.new.records} {x0 = c.args.disk.now} {x1 = c.named_at.new.disk} {x2 = c.update_on_list.new.disk} (place_of c.args.rid) (place_of c.in_ok-kept.kept)
    c.args.piece.now c.in_ok-old.ensures.ok.0 c.in-Some.list.count c.in-Some.list.chain (c.in-Some.ensures.names c.in_ok-old.ensures.ok.0 c.in_ok-old.ensures.ok.3) reads c.in_ok-kept.ensures.ok))

pub returns-in-Some-clause-keeps : goal.returns-in-Some-clause-keeps
returns-in-Some-clause-keeps g c =
    let reads : GoesOn g.D.Disk c.args.records.now c.named_at.new.records c.args.disk.now c.named_at.new.disk (IsReading (place_of c.args.rid) c.in_ok-old.ensures.ok.0) =
    reads_on {r0 = c.args.records.now} {r1 = c.named_at.new.records} (λ held. IsStored held (place_of c.args.rid) c.in_ok-old.ensures.ok.0) c.in_ok-old.ensures.ok.1 c.in_ok-old.ensures.ok.2 c.named_at.ensures.still c.in_ok-old.ensures.ok.4 in (
      runs_then {r0 = c.args.records.now} {r1 = c.named_at.new.records} {r2 = c.update_on_list.new.records} reads.runs c.in_ok-kept.ensures.keeps.0,
      saved_then {d = g.D.Disk} {r0 = c.args.records.now} {r1 = c.named_at.new.records} {r2 = c.update_on_list.new.records} {x0 = c.args.disk.now} {x1 = c.named_at.new.disk} {x2 = c.update_on_list.new.disk} reads.keeps c.in_ok-kept.ensures.keeps.1,
      c.in_ok-kept.ensures.keeps.2,
    )

pub returns-in_err-bytes-clause-refused : goal.returns-in_err-bytes-clause-refused
returns-in_err-bytes-clause-refused g c =
    err_passed c.from_residual-in_err-bytes.result (λ (e : StoreError). NotStored g.D.Disk (λ was. piece_needs c.args.piece.now) (λ was. HoldsNone was (place_of c.args.rid)) c.args.rid.page e
    c.args.records.now c.record_bytes.new.records c.args.disk.now c.record_bytes.new.disk) c.in_err-bytes.field-0.0
    (err_from_is_err_and c.from_residual-in_err-bytes.result c.from_residual-in_err-bytes.ensures.1)
    (bytes_refused {d = g.D.Disk} {r0 = c.args.records.now} {r1 = c.named_at.new.records} {x0 = c.args.disk.now} {x1 = c.named_at.new.disk} {Told = λ held. IsStored held (place_of c.args.rid) c.in_ok-old.ensures.ok.0} c.record_bytes.new.records c.record_bytes.new.disk
    c.args.piece.now c.args.rid.page (λ was. HoldsNone was (place_of c.args.rid))
    (reads_on {r0 = c.args.records.now} {r1 = c.named_at.new.records} (λ held. IsStored held (place_of c.args.rid) c.in_ok-old.ensures.ok.0) c.in_ok-old.ensures.ok.1 c.in_ok-old.ensures.ok.2 c.named_at.ensures.still c.in_ok-old.ensures.ok.4)
    c.in_err-bytes.field-0.0 c.in_err-bytes.ensures.refused)

pub returns-in_err-place-clause-refused : goal.returns-in_err-place-clause-refused
returns-in_err-place-clause-refused g c =
    let puts : GoesOn g.D.Disk c.args.records.now c.record_bytes.new.records c.args.disk.now c.record_bytes.new.disk (IsPutting (place_of c.args.rid) c.args.piece.now c.in_ok-bytes.bytes c.in_ok-old.ensures.ok.0) =
    putting {r0 = c.args.records.now} {r1 = c.named_at.new.records} {r2 = c.record_bytes.new.records} (place_of c.args.rid) c.args.piece.now c.in_ok-bytes.bytes c.in_ok-old.ensures.ok.0
    (reads_on {r0 = c.args.records.now} {r1 = c.named_at.new.records} (λ held. IsStored held (place_of c.args.rid) c.in_ok-old.ensures.ok.0) c.in_ok-old.ensures.ok.1 c.in_ok-old.ensures.ok.2 c.named_at.ensures.still c.in_ok-old.ensures.ok.4)
    (record { runs = c.in_ok-bytes.ensures.keeps.0; keeps = c.in_ok-bytes.ensures.keeps.1; still = c.record_bytes.ensures.still; comes = c.in_ok-bytes.ensures.ok }) in
    err_passed c.from_residual-in_err-place.result (λ (e : StoreError). NotStored g.D.Disk (λ was. piece_needs c.args.piece.now) (λ was. HoldsNone was (place_of c.args.rid)) c.args.rid.page e
    c.args.records.now c.update.new.self c.args.disk.now c.update.new.disk) c.in_err-place.field-0.0
    (err_from_is_err_and c.from_residual-in_err-place.result c.from_residual-in_err-place.ensures.1)
    (update_refused {d = g.D.Disk} {r0 = c.args.records.now} {r1 = c.record_bytes.new.records} {x0 = c.args.disk.now} {x1 = c.record_bytes.new.disk} c.update.new.self c.update.new.disk (place_of c.args.rid) c.args.piece.now c.in_ok-bytes.bytes c.in_ok-old.ensures.ok.0 puts
    c.in_err-place.field-0.0
    (subst (λ (l : List ℕ). NotStored g.D.Disk (update_needs c.args.rid.page c.args.rid.slot l) (λ was. was.records c.args.rid.page c.args.rid.slot ≡ None) c.args.rid.page c.in_err-place.field-0.0
    c.record_bytes.new.records c.update.new.self c.record_bytes.new.disk c.update.new.disk) c.as_slice.ensures c.in_err-place.ensures.refused))

pub returns-in_err-free_proxies-clause-refused : goal.returns-in_err-free_proxies-clause-refused
returns-in_err-free_proxies-clause-refused g c =
    let puts : GoesOn g.D.Disk c.args.records.now c.record_bytes.new.records c.args.disk.now c.record_bytes.new.disk (IsPutting (place_of c.args.rid) c.args.piece.now c.in_ok-bytes.bytes c.in_ok-old.ensures.ok.0) =
    putting {r0 = c.args.records.now} {r1 = c.named_at.new.records} {r2 = c.record_bytes.new.records} (place_of c.args.rid) c.args.piece.now c.in_ok-bytes.bytes c.in_ok-old.ensures.ok.0
    (reads_on {r0 = c.args.records.now} {r1 = c.named_at.new.records} (λ held. IsStored held (place_of c.args.rid) c.in_ok-old.ensures.ok.0) c.in_ok-old.ensures.ok.1 c.in_ok-old.ensures.ok.2 c.named_at.ensures.still c.in_ok-old.ensures.ok.4)
    (record { runs = c.in_ok-bytes.ensures.keeps.0; keeps = c.in_ok-bytes.ensures.keeps.1; still = c.record_bytes.ensures.still; comes = c.in_ok-bytes.ensures.ok }) in
    let updates : GoesOn g.D.Disk c.args.records.now c.update.new.self c.args.disk.now c.update.new.disk (IsUpdating (place_of c.args.rid) (place_of c.in_ok-place.place) c.args.piece.now c.in_ok-bytes.bytes c.in_ok-old.ensures.ok.0) =
    updating {r0 = c.args.records.now} {r1 = c.record_bytes.new.records} {r2 = c.update.new.self} (place_of c.args.rid) (place_of c.in_ok-place.place) c.args.piece.now c.in_ok-bytes.bytes c.in_ok-old.ensures.ok.0 puts
    (record {
      runs = c.in_ok-place.ensures.keeps.0;
      keeps = c.in_ok-place.ensures.keeps.1;
      still = c.update.ensures.still;
      comes = subst (λ (l : List ℕ). ComesTo g.D.Disk c.record_bytes.new.records c.update.new.self c.record_bytes.new.disk c.update.new.disk
          (λ was now. UpdatesRecord c.args.rid.page c.args.rid.slot l c.in_ok-place.place.page c.in_ok-place.place.slot was now)) c.as_slice.ensures c.in_ok-place.ensures.ok;
    }) in
    err_passed c.from_residual-in_err-free_proxies.result (λ (e : StoreError). NotStored g.D.Disk (λ was. piece_needs c.args.piece.now) (λ was. HoldsNone was (place_of c.args.rid)) c.args.rid.page e
    c.args.records.now c.free_proxies.new.records c.args.disk.now c.free_proxies.new.disk) c.in_err-free_proxies.field-0.0
    (err_from_is_err_and c.from_residual-in_err-free_proxies.result c.from_residual-in_err-free_proxies.ensures.1)
    (change_stored g.D.Disk (λ was. HoldsNone was (place_of c.args.rid)) c.args.rid.page c.args.records.now c.free_proxies.new.records c.args.disk.now c.free_proxies.new.disk (still_then updates.still c.free_proxies.ensures.still) (λ was. piece_needs c.args.piece.now)
    c.in_err-free_proxies.field-0.0
    (free_refused {d = g.D.Disk} {r0 = c.args.records.now} {r1 = c.update.new.self} {x0 = c.args.disk.now} {x1 = c.update.new.disk} c.free_proxies.new.records c.free_proxies.new.disk (place_of c.args.rid) (place_of c.in_ok-place.place) c.args.piece.now c.in_ok-bytes.bytes
    c.in_ok-old.ensures.ok.0 updates c.in_err-free_proxies.field-0.0 (c.in_err-free_proxies.ensures.refused c.in_ok-old.ensures.ok.0 c.in_ok-old.ensures.ok.3)))

pub returns-clause-own : goal.returns-clause-own
returns-clause-own g c =
    let puts : GoesOn g.D.Disk c.args.records.now c.record_bytes.new.records c.args.disk.now c.record_bytes.new.disk (IsPutting (place_of c.args.rid) c.args.piece.now c.in_ok-bytes.bytes c.in_ok-old.ensures.ok.0) =
    putting {r0 = c.args.records.now} {r1 = c.named_at.new.records} {r2 = c.record_bytes.new.records} (place_of c.args.rid) c.args.piece.now c.in_ok-bytes.bytes c.in_ok-old.ensures.ok.0
    (reads_on {r0 = c.args.records.now} {r1 = c.named_at.new.records} (λ held. IsStored held (place_of c.args.rid) c.in_ok-old.ensures.ok.0) c.in_ok-old.ensures.ok.1 c.in_ok-old.ensures.ok.2 c.named_at.ensures.still c.in_ok-old.ensures.ok.4)
    (record { runs = c.in_ok-bytes.ensures.keeps.0; keeps = c.in_ok-bytes.ensures.keeps.1; still = c.record_bytes.ensures.still; comes = c.in_ok-bytes.ensures.ok }) in
    let updates : GoesOn g.D.Disk c.args.records.now c.update.new.self c.args.disk.now c.update.new.disk (IsUpdating (place_of c.args.rid) (place_of c.in_ok-place.place) c.args.piece.now c.in_ok-bytes.bytes c.in_ok-old.ensures.ok.0) =
    updating {r0 = c.args.records.now} {r1 = c.record_bytes.new.records} {r2 = c.update.new.self} (place_of c.args.rid) (place_of c.in_ok-place.place) c.args.piece.now c.in_ok-bytes.bytes c.in_ok-old.ensures.ok.0 puts
    (record {
      runs = c.in_ok-place.ensures.keeps.0;
      keeps = c.in_ok-place.ensures.keeps.1;
      still = c.update.ensures.still;
      comes = subst (λ (l : List ℕ). ComesTo g.D.Disk c.record_bytes.new.records c.update.new.self c.record_bytes.new.disk c.update.new.disk
          (λ was now. UpdatesRecord c.args.rid.page c.args.rid.slot l c.in_ok-place.place.page c.in_ok-place.place.slot was now)) c.as_slice.ensures c.in_ok-place.ensures.ok;
    }) in
    subst (λ (p : RecordPlace). ComesOwn g.D.Disk c.args.records.now c.free_proxies.new.records c.args.disk.now c.free_proxies.new.disk (place_of c.args.rid) (λ was now. UpdatesPiece (place_of c.args.rid) p c.args.piece.now was now))
    (sym c.proxy_of-2.ensures.place)
    (updated {d = g.D.Disk} {r0 = c.args.records.now} {r1 = c.update.new.self} {r2 = c.free_proxies.new.records} {x0 = c.args.disk.now} {x1 = c.update.new.disk} {x2 = c.free_proxies.new.disk} (place_of c.args.rid) (place_of c.in_ok-place.place) c.args.piece.now
    c.in_ok-bytes.bytes c.in_ok-old.ensures.ok.0 c.requires.valid updates.comes (c.in_ok-free_proxies.ensures.ok c.in_ok-old.ensures.ok.0 c.in_ok-old.ensures.ok.3))

pub returns-clause-ok : goal.returns-clause-ok
returns-clause-ok g c =
    let puts : GoesOn g.D.Disk c.args.records.now c.record_bytes.new.records c.args.disk.now c.record_bytes.new.disk (IsPutting (place_of c.args.rid) c.args.piece.now c.in_ok-bytes.bytes c.in_ok-old.ensures.ok.0) =
    putting {r0 = c.args.records.now} {r1 = c.named_at.new.records} {r2 = c.record_bytes.new.records} (place_of c.args.rid) c.args.piece.now c.in_ok-bytes.bytes c.in_ok-old.ensures.ok.0
    (reads_on {r0 = c.args.records.now} {r1 = c.named_at.new.records} (λ held. IsStored held (place_of c.args.rid) c.in_ok-old.ensures.ok.0) c.in_ok-old.ensures.ok.1 c.in_ok-old.ensures.ok.2 c.named_at.ensures.still c.in_ok-old.ensures.ok.4)
    (record { runs = c.in_ok-bytes.ensures.keeps.0; keeps = c.in_ok-bytes.ensures.keeps.1; still = c.record_bytes.ensures.still; comes = c.in_ok-bytes.ensures.ok }) in
    let updates : GoesOn g.D.Disk c.args.records.now c.update.new.self c.args.disk.now c.update.new.disk (IsUpdating (place_of c.args.rid) (place_of c.in_ok-place.place) c.args.piece.now c.in_ok-bytes.bytes c.in_ok-old.ensures.ok.0) =
    updating {r0 = c.args.records.now} {r1 = c.record_bytes.new.records} {r2 = c.update.new.self} (place_of c.args.rid) (place_of c.in_ok-place.place) c.args.piece.now c.in_ok-bytes.bytes c.in_ok-old.ensures.ok.0 puts
    (record {
      runs = c.in_ok-place.ensures.keeps.0;
      keeps = c.in_ok-place.ensures.keeps.1;
      still = c.update.ensures.still;
      comes = subst (λ (l : List ℕ). ComesTo g.D.Disk c.record_bytes.new.records c.update.new.self c.record_bytes.new.disk c.update.new.disk
          (λ was now. UpdatesRecord c.args.rid.page c.args.rid.slot l c.in_ok-place.place.page c.in_ok-place.place.slot was now)) c.as_slice.ensures c.in_ok-place.ensures.ok;
    }) in
    subst (λ (p : RecordPlace). ComesTidyWhere g.D.Disk c.args.records.now c.free_proxies.new.records c.args.disk.now c.free_proxies.new.disk (λ was. MayName was c.args.piece.now.body.roots) (λ was now. UpdatesPiece (place_of c.args.rid) p c.args.piece.now was now)) (sym c.proxy_of-2.ensures.place)
    (updated_tidy {d = g.D.Disk} {r0 = c.args.records.now} {r2 = c.free_proxies.new.records} {x0 = c.args.disk.now} {x2 = c.free_proxies.new.disk} (place_of c.args.rid) (place_of c.in_ok-place.place) c.args.piece.now
    (updated {d = g.D.Disk} {r0 = c.args.records.now} {r1 = c.update.new.self} {r2 = c.free_proxies.new.records} {x0 = c.args.disk.now} {x1 = c.update.new.disk} {x2 = c.free_proxies.new.disk} (place_of c.args.rid) (place_of c.in_ok-place.place) c.args.piece.now
    c.in_ok-bytes.bytes c.in_ok-old.ensures.ok.0 c.requires.valid updates.comes (c.in_ok-free_proxies.ensures.ok c.in_ok-old.ensures.ok.0 c.in_ok-old.ensures.ok.3)))

pub returns-clause-keeps : goal.returns-clause-keeps
returns-clause-keeps g c =
    let puts : GoesOn g.D.Disk c.args.records.now c.record_bytes.new.records c.args.disk.now c.record_bytes.new.disk (IsPutting (place_of c.args.rid) c.args.piece.now c.in_ok-bytes.bytes c.in_ok-old.ensures.ok.0) =
    putting {r0 = c.args.records.now} {r1 = c.named_at.new.records} {r2 = c.record_bytes.new.records} (place_of c.args.rid) c.args.piece.now c.in_ok-bytes.bytes c.in_ok-old.ensures.ok.0
    (reads_on {r0 = c.args.records.now} {r1 = c.named_at.new.records} (λ held. IsStored held (place_of c.args.rid) c.in_ok-old.ensures.ok.0) c.in_ok-old.ensures.ok.1 c.in_ok-old.ensures.ok.2 c.named_at.ensures.still c.in_ok-old.ensures.ok.4)
    (record { runs = c.in_ok-bytes.ensures.keeps.0; keeps = c.in_ok-bytes.ensures.keeps.1; still = c.record_bytes.ensures.still; comes = c.in_ok-bytes.ensures.ok }) in
    let updates : GoesOn g.D.Disk c.args.records.now c.update.new.self c.args.disk.now c.update.new.disk (IsUpdating (place_of c.args.rid) (place_of c.in_ok-place.place) c.args.piece.now c.in_ok-bytes.bytes c.in_ok-old.ensures.ok.0) =
    updating {r0 = c.args.records.now} {r1 = c.record_bytes.new.records} {r2 = c.update.new.self} (place_of c.args.rid) (place_of c.in_ok-place.place) c.args.piece.now c.in_ok-bytes.bytes c.in_ok-old.ensures.ok.0 puts
    (record {
      runs = c.in_ok-place.ensures.keeps.0;
      keeps = c.in_ok-place.ensures.keeps.1;
      still = c.update.ensures.still;
      comes = subst (λ (l : List ℕ). ComesTo g.D.Disk c.record_bytes.new.records c.update.new.self c.record_bytes.new.disk c.update.new.disk
          (λ was now. UpdatesRecord c.args.rid.page c.args.rid.slot l c.in_ok-place.place.page c.in_ok-place.place.slot was now)) c.as_slice.ensures c.in_ok-place.ensures.ok;
    }) in (
      runs_then {r0 = c.args.records.now} {r1 = c.update.new.self} {r2 = c.free_proxies.new.records} updates.runs c.in_ok-free_proxies.ensures.keeps.0,
      saved_then {d = g.D.Disk} {r0 = c.args.records.now} {r1 = c.update.new.self} {r2 = c.free_proxies.new.records} {x0 = c.args.disk.now} {x1 = c.update.new.disk} {x2 = c.free_proxies.new.disk} updates.keeps c.in_ok-free_proxies.ensures.keeps.1,
      c.in_ok-free_proxies.ensures.keeps.2 c.in_ok-place.ensures.keeps.2,
    )
