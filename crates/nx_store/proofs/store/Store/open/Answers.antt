use Rattle.std.proofs.Common.{ℕ, refl, sym, subst}
use Rattle.nx_records.proofs.LeaveLemmas.{leaves_same}
use Rattle.nx_store.specs.Reads.{ReadsOpening}
use Rattle.nx_store.proofs.AtLemmas.{at_kept}
use Rattle.nx_store.proofs.store.Store.open.Goals as goal

pub returns-clause-ok : goal.returns-clause-ok
returns-clause-ok g c was state settled recovers =
    at_kept {s0 = c.in-Ok.store} (record { records = leaves_same c.in-Ok-renew.ensures.ok.0; catalog = refl }) c.renew.ensures.still (c.in-Ok.ensures.ok was state settled recovers)

pub returns-clause-reads : goal.returns-clause-reads
returns-clause-reads g c was settled =
    subst (λ (n : ℕ). ReadsOpening was (g.D.Disk.reads c.args.disk.now) n) (sym c.renew.ensures.reads) (c.open_to_read.ensures.reads was settled)

pub returns-clause-renewed : goal.returns-clause-renewed
returns-clause-renewed g c was at settled gate = c.in-Ok-renew.ensures.renewed was at (c.in-Ok.ensures.step was settled) gate
