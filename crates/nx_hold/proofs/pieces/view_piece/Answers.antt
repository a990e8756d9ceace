use Rattle.std.proofs.Common.{◌≡◌, ◌+◌, ◌*◌, Some, inl, inr, refl, sym, subst}
use Rattle.std.proofs.lemmas.Result.{err_from_is_err_and}
use Rattle.nx_holdings.specs.Holdings.{Held, chain_count}
use Rattle.nx_records.specs.declared.error.StoreError.{StoreError}
use Rattle.nx_records.specs.Refusals.{NotRead}
use Rattle.nx_records.proofs.LeaveLemmas.{leaves_add_up, leaves_stand}
use Rattle.nx_records.proofs.RefusalLemmas.{err_passed}
use Rattle.nx_piece.specs.declared.viewing.StoredView.{StoredView}
use Rattle.nx_piece.specs.Viewing.{seen_stored}
use Rattle.nx_piece.specs.declared.piece.Stored.TheVariants.{Chained}
use Rattle.nx_piece.specs.Encoding.{proxies_bytes}
use Rattle.nx_hold.specs.Pieces.{HoldsNone, IsStored}
use Rattle.nx_hold.specs.Changes.{place_of}
use Rattle.nx_hold.specs.Putting.{LacksProxies}
use Rattle.nx_hold.proofs.TidyLemmas.{read_one}
use Rattle.nx_hold.proofs.PutLemmas.{lacking_none, chained_holds, chained_pages}
use Rattle.nx_hold.proofs.RefusalLemmas.{reads_on, later_read}
use Rattle.nx_hold.proofs.pieces.view_piece.Goals as goal

pub returns-in_err-proxies-in-Chained-clause-refused : goal.returns-in_err-proxies-in-Chained-clause-refused
returns-in_err-proxies-in-Chained-clause-refused g c =
    err_passed c.from_residual-in_err-proxies-in-Chained.result (λ (e : StoreError). NotRead g.D.Disk (λ now. HoldsNone now (place_of c.args.rid)) c.args.rid.page e
    c.args.records.now c.proxies_at.new.records c.args.disk.now c.proxies_at.new.disk) c.in_err-proxies-in-Chained.field-0.0
    (err_from_is_err_and c.from_residual-in_err-proxies-in-Chained.result c.from_residual-in_err-proxies-in-Chained.ensures.1)
    (later_read {d = g.D.Disk} {r0 = c.args.records.now} {r1 = c.viewed_at.new.records} {x0 = c.args.disk.now} {x1 = c.viewed_at.new.disk}
    (reads_on {r0 = c.args.records.now} {r1 = c.viewed_at.new.records} (λ held. IsStored held (place_of c.args.rid) (seen_stored c.in_ok-piece.field-0)) c.in_ok-piece.ensures.ok.0 c.in_ok-piece.ensures.ok.1 c.viewed_at.ensures.still c.in_ok-piece.ensures.ok.4)
    (λ now. LacksProxies now c.in-Chained.count c.in-Chained.chain) (λ now. HoldsNone now (place_of c.args.rid)) c.args.rid.page
    (λ was mid read lacks.
    lacking_none was (place_of c.args.rid) c.in-Chained.body c.in-Chained.count c.in-Chained.chain (subst (λ (s : StoredView). IsStored was (place_of c.args.rid) (seen_stored s)) c.in-Chained.is read.1)
    (λ ps n roots there. lacks ps n roots (subst (λ (h : Held). h.lists c.in-Chained.chain ≡ Some (proxies_bytes ps)) (sym read.0) there)))
    c.proxies_at.new.records c.proxies_at.new.disk c.in_ok-piece.ensures.ok.1 c.in_err-proxies-in-Chained.field-0.0 c.in_err-proxies-in-Chained.ensures.refused)

pub returns-in-Inline-clause-holds : goal.returns-in-Inline-clause-holds
returns-in-Inline-clause-holds g c saved now stands named = inl (subst (λ (s : StoredView). IsStored now (place_of c.args.rid) (seen_stored s)) c.in-Inline.is (c.in_ok-piece.ensures.ok.4 saved now stands))

pub returns-in-Inline-clause-ok : goal.returns-in-Inline-clause-ok
returns-in-Inline-clause-ok g c = (
  c.in_ok-piece.ensures.ok.0,
  c.in_ok-piece.ensures.ok.1,
  λ saved now held stands holds.
      read_one now (place_of c.args.rid) (λ named. inl (subst (λ (s : StoredView). IsStored now (place_of c.args.rid) (seen_stored s)) c.in-Inline.is (c.in_ok-piece.ensures.ok.4 saved now stands))) held holds,
)

pub returns-in_ok-proxies-in-Chained-clause-holds : goal.returns-in_ok-proxies-in-Chained-clause-holds
returns-in_ok-proxies-in-Chained-clause-holds g c saved now stands named =
    let is : IsStored now (place_of c.args.rid) (Chained c.in-Chained.body c.in-Chained.count c.in-Chained.chain) =
    subst (λ (s : StoredView). IsStored now (place_of c.args.rid) (seen_stored s)) c.in-Chained.is (c.in_ok-piece.ensures.ok.4 saved now stands) in
    let later = leaves_stand {d = g.D.Disk} c.in_ok-piece.ensures.ok.1 c.viewed_at.ensures.still stands in
    chained_holds now (place_of c.args.rid) c.in-Chained.body c.in-Chained.count c.in-Chained.chain c.in_ok-proxies-in-Chained.proxies is c.in_ok-proxies-in-Chained.ensures.ok.1 c.in_ok-proxies-in-Chained.ensures.ok.2
    c.in_ok-proxies-in-Chained.ensures.ok.3 (λ list there. c.in_ok-proxies-in-Chained.ensures.ok.4 saved now list later there) named

pub returns-in_ok-proxies-in-Chained-clause-ok : goal.returns-in_ok-proxies-in-Chained-clause-ok
returns-in_ok-proxies-in-Chained-clause-ok g c = (
  c.in_ok-piece.ensures.ok.0,
  leaves_add_up c.in_ok-piece.ensures.ok.1 c.in_ok-proxies-in-Chained.ensures.ok.0,
  λ saved now held stands holds.
      let is : IsStored now (place_of c.args.rid) (Chained c.in-Chained.body c.in-Chained.count c.in-Chained.chain) =
      subst (λ (s : StoredView). IsStored now (place_of c.args.rid) (seen_stored s)) c.in-Chained.is (c.in_ok-piece.ensures.ok.4 saved now stands) in
      let later = leaves_stand {d = g.D.Disk} c.in_ok-piece.ensures.ok.1 c.viewed_at.ensures.still stands in
      read_one now (place_of c.args.rid)
      (chained_holds now (place_of c.args.rid) c.in-Chained.body c.in-Chained.count c.in-Chained.chain c.in_ok-proxies-in-Chained.proxies is c.in_ok-proxies-in-Chained.ensures.ok.1 c.in_ok-proxies-in-Chained.ensures.ok.2
      c.in_ok-proxies-in-Chained.ensures.ok.3 (λ list there. c.in_ok-proxies-in-Chained.ensures.ok.4 saved now list later there))
      held holds,
)

pub returns-in-Inline-clause-reads : goal.returns-in-Inline-clause-reads
returns-in-Inline-clause-reads g c = (1, c.viewed_at.ensures.reads, λ saved now stands. inl refl)

pub returns-in_ok-proxies-in-Chained-clause-reads : goal.returns-in_ok-proxies-in-Chained-clause-reads
returns-in_ok-proxies-in-Chained-clause-reads g c = (
  1 + chain_count (8 * c.in-Chained.count),
  chained_pages (g.D.Disk.reads c.args.disk.now) (g.D.Disk.reads c.viewed_at.new.disk) (g.D.Disk.reads c.proxies_at.new.disk) (chain_count (8 * c.in-Chained.count)) c.viewed_at.ensures.reads c.proxies_at.ensures.reads,
  λ saved now stands. inr (
    c.in-Chained.count,
    c.in-Chained.chain,
    (c.in-Chained.body, subst (λ (s : StoredView). IsStored now (place_of c.args.rid) (seen_stored s)) c.in-Chained.is (c.in_ok-piece.ensures.ok.4 saved now stands)),
    refl,
  ),
)

pub returns-in_err-proxies-in-Chained-clause-reads : goal.returns-in_err-proxies-in-Chained-clause-reads
returns-in_err-proxies-in-Chained-clause-reads g c = (
  1 + chain_count (8 * c.in-Chained.count),
  chained_pages (g.D.Disk.reads c.args.disk.now) (g.D.Disk.reads c.viewed_at.new.disk) (g.D.Disk.reads c.proxies_at.new.disk) (chain_count (8 * c.in-Chained.count)) c.viewed_at.ensures.reads c.proxies_at.ensures.reads,
  λ saved now stands. inr (
    c.in-Chained.count,
    c.in-Chained.chain,
    (c.in-Chained.body, subst (λ (s : StoredView). IsStored now (place_of c.args.rid) (seen_stored s)) c.in-Chained.is (c.in_ok-piece.ensures.ok.4 saved now stands)),
    refl,
  ),
)

pub returns-in_err-piece-clause-reads : goal.returns-in_err-piece-clause-reads
returns-in_err-piece-clause-reads g c = (1, c.viewed_at.ensures.reads, λ saved now stands. inl refl)
