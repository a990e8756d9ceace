use Rattle.std.proofs.Common.{◌≡◌, inl, refl, sym, subst}
use Rattle.nx_records.proofs.LeaveLemmas.{leaves_same}
use Rattle.nx_records.proofs.StandLemmas.{if_ok_then, if_err_then}
use Rattle.nx_piece.specs.declared.piece.Stored.TheVariants.{Inline, Chained}
use Rattle.nx_piece.specs.declared.viewing.StoredView.{StoredView}
use Rattle.nx_piece.specs.Viewing.{seen_stored}
use Rattle.nx_layouts.specs.Layout.{RecordPlace}
use Rattle.nx_hold.specs.Pieces.{HoldsNone, IsStored}
use Rattle.nx_hold.specs.Putting.{LacksProxies, piece_with}
use Rattle.nx_hold.proofs.TidyLemmas.{read_one}
use Rattle.nx_hold.proofs.PutLemmas.{lacking_none, chained_holds}
use Rattle.nx_hold.proofs.RefusalLemmas.{read_fewer}
use Rattle.nx_hold.proofs.taking.listed_proxies.Goals as goal

pub returns-in-Inline-clause-ok : goal.returns-in-Inline-clause-ok
returns-in-Inline-clause-ok g c = (
  leaves_same refl,
  λ saved now place held stands is holds.
      let here : IsStored now place (Inline c.in-Inline.field-0) = subst (λ (s : StoredView). IsStored now place (seen_stored s)) c.in-Inline.is is in
      subst (λ (s : StoredView). piece_with (seen_stored s) c.new.result ≡ held) (sym c.in-Inline.is) (read_one now place (λ named. inl here) held holds),
)

pub returns-in-Chained-clause-ok : goal.returns-in-Chained-clause-ok
returns-in-Chained-clause-ok g c = if_ok_then c.proxies_at.result c.proxies_at.ensures.ok (λ proxies ok. (
  ok.0,
  λ saved now place held stands is holds.
      let here : IsStored now place (Chained c.in-Chained.body c.in-Chained.count c.in-Chained.chain) = subst (λ (s : StoredView). IsStored now place (seen_stored s)) c.in-Chained.is is in
      subst (λ (s : StoredView). piece_with (seen_stored s) proxies ≡ held) (sym c.in-Chained.is)
      (read_one now place
      (chained_holds now place c.in-Chained.body c.in-Chained.count c.in-Chained.chain proxies here ok.1 ok.2 ok.3 (λ list there. ok.4 saved now list stands there))
      held holds),
))

pub returns-in-Chained-clause-refused : goal.returns-in-Chained-clause-refused
returns-in-Chained-clause-refused g c = if_err_then c.proxies_at.result c.proxies_at.ensures.refused (λ e refused.
    read_fewer g.D.Disk (λ now. LacksProxies now c.in-Chained.count c.in-Chained.chain) (λ now. (place : RecordPlace) → IsStored now place (seen_stored c.args.stored.now) → HoldsNone now place)
    c.args.named c.args.named c.args.records.now c.proxies_at.new.records c.args.disk.now c.proxies_at.new.disk
    (λ held lacks place is.
    lacking_none held place c.in-Chained.body c.in-Chained.count c.in-Chained.chain (subst (λ (s : StoredView). IsStored held place (seen_stored s)) c.in-Chained.is is) lacks)
    e refused)
