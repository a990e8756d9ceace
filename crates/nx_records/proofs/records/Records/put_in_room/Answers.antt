use Rattle.std.proofs.Common.{◌≡◌, ap, subst}
use Rattle.std.specs.Prelude.{IfSome, IfNone, IfOk, IfErr}
use Rattle.nx_records.specs.declared.records.Records.{Records}
use Rattle.nx_records.specs.Records.{KeepsLog}
use Rattle.nx_records.specs.Changes.{AddsRecord}
use Rattle.nx_records.specs.Pages.{SeesSo, NotPut, StepsTo}
use Rattle.nx_records.specs.Room.{FitsRoom, TakesNoPage}
use Rattle.nx_records.specs.declared.error.StoreError.TheVariants as error
use Rattle.nx_holdings.specs.declared.header.Header.{Header}
use Rattle.nx_records.proofs.records.Records.put_in_room.Goals as goal

pub returns-clause-ok : goal.returns-clause-ok
returns-clause-ok g c =
    subst (λ (r : Records). IfOk c.put_loaded.result (λ found. IfSome found (λ rid. KeepsLog r c.put_loaded.new.self
    × StepsTo g.D.Disk r c.put_loaded.new.self c.args.disk.now (λ was now. AddsRecord rid.page rid.slot c.args.bytes.now was now)))) c.in_default.ensures.none c.put_loaded.ensures.ok

pub returns-clause-refused : goal.returns-clause-refused
returns-clause-refused g c =
    subst (λ (r : Records). IfErr c.put_loaded.result (λ e. NotPut g.D.Disk (λ held. ⊥) c.args.named e r c.put_loaded.new.self c.args.disk.now c.put_loaded.new.disk)) c.in_default.ensures.none
    c.put_loaded.ensures.refused

pub returns-then-self-eq0-clause-full : goal.returns-then-self-eq0-clause-full
returns-then-self-eq0-clause-full g c was step fits = fits.some c.if-self-eq0.true

pub returns-in-Some-clause-takes : goal.returns-in-Some-clause-takes
returns-in-Some-clause-takes g c = (ap (λ (h : Header). h.free) c.put_waiting.ensures.head, ap (λ (h : Header). h.pages) c.put_waiting.ensures.head)

pub returns-in-Some-clause-fits : goal.returns-in-Some-clause-fits
returns-in-Some-clause-fits g c was step = c.in-Some.ensures.fits was

pub returns-clause-takes : goal.returns-clause-takes
returns-clause-takes g c = subst (λ (r : Records). IfOk c.put_loaded.result (λ found. IfSome found (λ rid. TakesNoPage r c.put_loaded.new.self))) c.in_default.ensures.none c.put_loaded.ensures.takes

pub returns-clause-fits : goal.returns-clause-fits
returns-clause-fits g c =
    subst (λ (r : Records). IfOk c.put_loaded.result (λ found. IfSome found (λ rid. SeesSo g.D.Disk r c.args.disk.now (λ pages. FitsRoom pages r.head c.args.bytes.now)))) c.in_default.ensures.none c.put_loaded.ensures.fits

pub returns-clause-full : goal.returns-clause-full
returns-clause-full g c =
    subst (λ (r : Records). IfOk c.put_loaded.result (λ found. IfNone found (SeesSo g.D.Disk r c.args.disk.now (λ pages. FitsRoom pages r.head c.args.bytes.now → ⊥)))) c.in_default.ensures.none c.put_loaded.ensures.full

pub returns-clause-memory : goal.returns-clause-memory
returns-clause-memory g c =
    subst (λ (r : Records). IfErr c.put_loaded.result (λ e. e ≡ error.Memory → SeesSo g.D.Disk r c.args.disk.now (λ pages. FitsRoom pages r.head c.args.bytes.now))) c.in_default.ensures.none c.put_loaded.ensures.memory
