use Rattle.std.proofs.Common.{refl, sym, subst, inr}
use Rattle.std.specs.Prelude.{Err}
use Rattle.nx_wal.specs.Wal.{NoLogCreated}
use Rattle.nx_wal.specs.declared.error.WalError.{WalError}
use Rattle.nx_ship.specs.Applying.{IsUnapplied}
use Rattle.nx_ship.specs.Sent.{IsFault}
use Rattle.nx_ship.specs.declared.error.ShipError.{ShipError}
use Rattle.nx_ship.proofs.OpenLemmas.{log_unapplied, created_fault, none_lost}
use Rattle.nx_ship.proofs.receiver.Receiver.of_none.Goals as goal

pub returns-in-Ok-clause-ok : goal.returns-in-Ok-clause-ok
returns-in-Ok-clause-ok g c was settled =
    let here = c.in-Ok.ensures.ok was settled in
    record {
      read = c.new.ensures;
      offset = refl;
      none = (c.in-Ok.ensures.fresh).2;
      step = here.0;
      last = here.1;
      open_for = inr here.1;
      whole = none_lost was here.1;
    }

pub returns-in-Err-Exists-clause-err : goal.returns-in-Err-Exists-clause-err
returns-in-Err-Exists-clause-err g c was settled no_mark =
    (no_mark, subst (λ (e : WalError). NoLogCreated g.D.Disk e c.args.disk.now c.create.new.disk) c.in-Err-Exists.field-0-is c.in-Err-Exists.ensures.refused was settled)

pub returns-in-Err-clause-err : goal.returns-in-Err-clause-err
returns-in-Err-clause-err g c was settled no_mark = subst (λ (e : ShipError). IsUnapplied was (Err e)) (sym c.error_of.ensures) (log_unapplied was c.in-Err.error)

pub returns-in-Err-clause-cause : goal.returns-in-Err-clause-cause
returns-in-Err-clause-cause g c =
    subst (λ (e : ShipError). IsFault g.D.Disk e c.args.disk.now c.create.new.disk) (sym c.error_of.ensures) (created_fault g.D.Disk c.args.disk.now c.create.new.disk c.in-Err.error c.in-Err.ensures.refused)
