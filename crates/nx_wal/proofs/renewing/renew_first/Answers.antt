use Rattle.std.proofs.Common.{ℕ, sym, subst, ◌∙◌}
use Rattle.nx_host.specs.Disk.{IsRenewedLast}
use Rattle.nx_host.specs.declared.disk.Area.TheVariants.{Log}
use Rattle.nx_replay.proofs.SettledLemmas.{on_ok}
use Rattle.nx_wal.proofs.RenewLemmas.{first_of_none, first_at}
use Rattle.nx_wal.proofs.renewing.renew_first.Goals as goal

pub returns-then-limit-eq0-clause-renewed : goal.returns-then-limit-eq0-clause-renewed
returns-then-limit-eq0-clause-renewed g c was at told first =
    absurd (first_of_none was.log at (sym (c.in_ok-limit.ensures.limit was told) ∙ c.if-limit-eq0.true) first)

pub returns-clause-renewed : goal.returns-clause-renewed
returns-clause-renewed g c = on_ok c.renew_byte.result c.renew_byte.ensures.renewed (λ renewed was at told first.
    subst (λ (n : ℕ). IsRenewedLast Log n (g.D.Disk.renewed c.renew_byte.new.disk)) (sym (first_at was.log at first)) renewed)
