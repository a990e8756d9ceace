use Rattle.std.proofs.Common.{◌≡◌, [], subst}
use Rattle.std.specs.Prelude.{Option, IfSome}
use Rattle.std.proofs.lemmas.Result.{err_from_is_err_and}
use Rattle.nx_host.proofs.DiskLemmas.{still_then, settled_still}
use Rattle.nx_wal.specs.Wal.{pending}
use Rattle.nx_wal.specs.declared.wal.Wal.{Wal}
use Rattle.nx_ship.specs.Sent.{FindsStore}
use Rattle.nx_ship.proofs.TakingLemmas.{if_err_map}
use Rattle.nx_ship.proofs.ShippingLemmas.{earlier_fault}
use Rattle.nx_ship.proofs.OpenLemmas.{cut_unapplied, if_ok_map}
use Rattle.nx_ship.proofs.receiver.Receiver.open.Goals as goal

pub returns-in_err-found-clause-err : goal.returns-in_err-found-clause-err
returns-in_err-found-clause-err g c =
    let p = err_from_is_err_and c.from_residual.result c.from_residual.ensures.1 in
    rw (p.1, p.2) (λ was settled. cut_unapplied was c.in_err-found.field-0.0 c.in_err-found.ensures.barred)

pub returns-in_err-found-clause-cause : goal.returns-in_err-found-clause-cause
returns-in_err-found-clause-cause g c =
    let p = err_from_is_err_and c.from_residual.result c.from_residual.ensures.1 in
    rw (p.1, p.2) c.in_err-found.ensures.cause

pub of_store-requires : goal.of_store-requires
of_store-requires g c = subst (λ (o : Option Wal). IfSome o (λ wal. pending wal ≡ [])) c.in-Some.is c.in_ok-found.ensures.fresh

pub returns-in-Some-clause-still : goal.returns-in-Some-clause-still
returns-in-Some-clause-still g c = still_then c.find_store.ensures.still c.of_store.ensures.still

pub returns-in-Some-clause-ok : goal.returns-in-Some-clause-ok
returns-in-Some-clause-ok g c =
    if_ok_map c.of_store.result c.of_store.ensures.ok (λ r ok was settled.
    ok was (subst (λ (o : Option Wal). FindsStore g.D.Disk was o c.find_store.new.disk) c.in-Some.is (c.in_ok-found.ensures.ok was settled)).0)

pub returns-in-Some-clause-err : goal.returns-in-Some-clause-err
returns-in-Some-clause-err g c =
    if_err_map c.of_store.result c.of_store.ensures.err (λ e err was settled.
    let (step, mark) = subst (λ (o : Option Wal). FindsStore g.D.Disk was o c.find_store.new.disk) c.in-Some.is (c.in_ok-found.ensures.ok was settled) in
    err was step mark)

pub returns-in-Some-clause-cause : goal.returns-in-Some-clause-cause
returns-in-Some-clause-cause g c =
    if_err_map c.of_store.result c.of_store.ensures.cause (λ e fault. earlier_fault c.args.disk.now c.find_store.new.disk c.of_store.new.disk e c.find_store.ensures.still fault)

pub returns-in-None-clause-still : goal.returns-in-None-clause-still
returns-in-None-clause-still g c = still_then c.find_store.ensures.still c.of_none.ensures.still

pub returns-in-None-clause-ok : goal.returns-in-None-clause-ok
returns-in-None-clause-ok g c = if_ok_map c.of_none.result c.of_none.ensures.ok (λ r ok was settled. ok was (settled_still c.find_store.ensures.still settled))

pub returns-in-None-clause-err : goal.returns-in-None-clause-err
returns-in-None-clause-err g c =
    if_err_map c.of_none.result c.of_none.ensures.err (λ e err was settled.
    err was (settled_still c.find_store.ensures.still settled) (subst (λ (o : Option Wal). FindsStore g.D.Disk was o c.find_store.new.disk) c.in-None.is (c.in_ok-found.ensures.ok was settled)))

pub returns-in-None-clause-cause : goal.returns-in-None-clause-cause
returns-in-None-clause-cause g c =
    if_err_map c.of_none.result c.of_none.ensures.cause (λ e fault. earlier_fault c.args.disk.now c.find_store.new.disk c.of_none.new.disk e c.find_store.ensures.still fault)
