use Rattle.std.proofs.Common.{refl, ap, ◌∙◌, inl}
use Rattle.std.proofs.lemmas.Result.{err_from_is_err_and}
use Rattle.nx_wal.specs.Wal.{pending}
use Rattle.nx_wal.specs.declared.wal.Wal.{Wal}
use Rattle.nx_ship.proofs.OpenLemmas.{step_after}
use Rattle.nx_ship.proofs.receiver.Receiver.of_store.Goals as goal

pub returns-in_err-header-clause-err : goal.returns-in_err-header-clause-err
returns-in_err-header-clause-err g c =
    let p = err_from_is_err_and c.from_residual.result c.from_residual.ensures.1 in
    rw (p.1, p.2) (λ was step. c.in_err-header.ensures.err was step c.requires)

pub returns-in_err-header-clause-cause : goal.returns-in_err-header-clause-cause
returns-in_err-header-clause-cause g c =
    let p = err_from_is_err_and c.from_residual.result c.from_residual.ensures.1 in
    rw (p.1, p.2) c.in_err-header.ensures.cause

pub returns-clause-ok : goal.returns-clause-ok
returns-clause-ok g c was step =
    let same = c.in_ok-header.ensures.stays in
    let headed = c.in_ok-header.ensures.ok was step c.requires in
    record {
      read = c.new.ensures;
      offset = refl;
      none = ap (λ (w : Wal). pending w) same ∙ c.requires;
      step = step_after _ _ c.read_whole_head.ensures.still same step;
      last = (c.in_ok-header.header, headed, refl);
      open_for = inl (c.in_ok-header.header.number, (c.in_ok-header.header, headed, refl));
      whole = c.in_ok-header.ensures.whole was step c.requires;
    }
