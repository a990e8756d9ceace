use Rattle.std.proofs.Common.{[], ◌∷◌, ◌∙◌, refl, sym, ap, subst}
use Rattle.std.proofs.lemmas.Result.{err_from_is_err_and}
use Rattle.nx_replay.specs.Log.{entry_pages, over}
use Rattle.nx_slots.specs.declared.page.PageBytes.{PageBytes}
use Rattle.nx_wal.specs.Wal.{pending}
use Rattle.nx_ship.specs.declared.reader.Reader.{Reader}
use Rattle.nx_ship.specs.Sent.{IsCutShort}
use Rattle.nx_ship.specs.declared.error.ShipError.{ShipError}
use Rattle.nx_ship.specs.Reading.{page_of}
use Rattle.nx_ship.proofs.SendLemmas.{log_cut}
use Rattle.nx_ship.proofs.CallLemmas.{begun_keeps, puts_page}
use Rattle.nx_ship.proofs.receiver.Receiver.keep.Goals as goal

pub returns-in_err-begin_group-clause-cause : goal.returns-in_err-begin_group-clause-cause
returns-in_err-begin_group-clause-cause g c =
    let p = err_from_is_err_and c.from_residual.result c.from_residual.ensures.1 in
    rw (p.1, p.2) c.in_err-begin_group.ensures.cause

pub returns-in_err-begin_group-clause-cut : goal.returns-in_err-begin_group-clause-cut
returns-in_err-begin_group-clause-cut g c =
    let p = err_from_is_err_and c.from_residual.result c.from_residual.ensures.1 in
    rw (p.1, p.2) c.in_err-begin_group.ensures.cut

pub returns-in-Ok-clause-ok : goal.returns-in-Ok-clause-ok
returns-in-Ok-clause-ok g c next =
    begun_keeps {d = g.D.Disk} {mid = c.begin_group.new.self} (page_of c.args.page c.args.self.now.reader) next c.in_ok-begin_group.ensures.ok c.begin_group.ensures.stays
    (puts_page (page_of c.args.page c.args.self.now.reader) (record { reader = refl; last = refl; offset = refl }) c.put.ensures.follows
    (c.in-Ok.ensures.pending
    ∙ ap (λ (b : PageBytes). over (entry_pages (record { page = c.args.page; bytes = b.bytes } ∷ [])) (entry_pages (pending c.begin_group.new.self.wal))) c.page.ensures
    ∙ ap (λ (r : Reader). over (entry_pages (page_of c.args.page r ∷ [])) (entry_pages (pending c.begin_group.new.self.wal))) c.begin_group.ensures.stays.reader))

pub returns-in-Err-clause-cut : goal.returns-in-Err-clause-cut
returns-in-Err-clause-cut g c = subst (λ (e : ShipError). IsCutShort e) (sym c.error_of.ensures) (log_cut c.in-Err.error)
