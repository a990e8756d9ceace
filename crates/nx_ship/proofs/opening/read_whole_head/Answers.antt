use Rattle.std.proofs.Common.{ℕ, inr, subst}
use Rattle.std.specs.Prelude.{Option}
use Rattle.std.proofs.lemmas.Result.{err_from_is_err_and}
use Rattle.nx_wal.specs.Lost.{Loses}
use Rattle.nx_ship.proofs.OpenLemmas.{step_after, lost_none, headless_unapplied}
use Rattle.nx_ship.proofs.opening.read_whole_head.Goals as goal

pub returns-in_err-header-clause-err : goal.returns-in_err-header-clause-err
returns-in_err-header-clause-err g c =
    let p = err_from_is_err_and c.from_residual.result c.from_residual.ensures.1 in
    rw (p.1, p.2) (λ was step none mark. headless_unapplied was c.in_err-header.field-0.0 mark (c.in_err-header.ensures.err was step none))

pub returns-in-Ok-None-clause-whole : goal.returns-in-Ok-None-clause-whole
returns-in-Ok-None-clause-whole g c was step none =
    lost_none was c.in_ok-header.header (c.in_ok-header.ensures.ok was step none)
    (subst (λ (o : Option ℕ). Loses o (c.in_ok-header.header).pages was) c.in-Ok-None.field-0-is
    ((c.in-Ok-None.ensures.ok).2 was (step_after _ _ c.read_head.ensures.still c.in_ok-header.ensures.stays step)))

pub returns-in-Ok-Some-clause-err : goal.returns-in-Ok-Some-clause-err
returns-in-Ok-Some-clause-err g c was step none mark = (
  mark,
  inr (record {
    header = c.in_ok-header.header;
    headed = c.in_ok-header.ensures.ok was step none;
    lost = subst (λ (o : Option ℕ). Loses o (c.in_ok-header.header).pages was) c.in-Ok-Some.field-0-is
        ((c.in-Ok-Some.ensures.ok).2 was (step_after _ _ c.read_head.ensures.still c.in_ok-header.ensures.stays step));
  }),
)
