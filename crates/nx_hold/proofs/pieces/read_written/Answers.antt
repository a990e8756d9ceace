use Rattle.std.proofs.Common.{◌≡◌, ◌+◌, ◌*◌, ℕ, List, Some, None, ap, ◌∙◌, sym, subst, inl, refl}
use Rattle.std.proofs.lemmas.Result.{err_from_is_err_and}
use Rattle.nx_host.proofs.DiskLemmas.{still_then}
use Rattle.nx_records.specs.Words.{Held, chain_count}
use Rattle.nx_records.specs.declared.error.StoreError.{StoreError}
use Rattle.nx_records.specs.Refusals.{NotRead}
use Rattle.nx_records.proofs.LeaveLemmas.{leaves_add_up, leaves_stand}
use Rattle.nx_records.proofs.RefusalLemmas.{err_passed}
use Rattle.nx_seek.specs.Written.{IsWrittenAs}
use Rattle.nx_hold.specs.Pieces.{record_at, HoldsNone}
use Rattle.nx_hold.specs.Changes.{place_of}
use Rattle.nx_hold.specs.Putting.{LacksProxies}
use Rattle.nx_hold.proofs.MapLemmas.{no_record}
use Rattle.nx_hold.proofs.PutLemmas.{chained_pages}
use Rattle.nx_hold.proofs.RefusalLemmas.{read_fewer, reads_on, later_read}
use Rattle.nx_hold.proofs.WrittenLemmas.{written_inline, written_listed, unlisted, pages_named}
use Rattle.nx_hold.proofs.pieces.read_written.Goals as goal

pub returns-in_err-record-clause-refused : goal.returns-in_err-record-clause-refused
returns-in_err-record-clause-refused g c =
    err_passed c.from_residual.result (λ (e : StoreError). NotRead g.D.Disk (λ now. HoldsNone now (place_of c.args.rid)) c.args.rid.page e c.args.records.now c.read.new.self c.args.disk.now c.read.new.disk) c.in_err-record.field-0.0
    (err_from_is_err_and c.from_residual.result c.from_residual.ensures.1)
    (read_fewer g.D.Disk (λ now. now.records c.args.rid.page c.args.rid.slot ≡ None) (λ now. HoldsNone now (place_of c.args.rid)) c.args.rid.page c.args.rid.page c.args.records.now c.read.new.self c.args.disk.now c.read.new.disk
    (λ held none. no_record none) c.in_err-record.field-0.0 c.in_err-record.ensures.refused)

pub returns-in_err-record-clause-reads : goal.returns-in_err-record-clause-reads
returns-in_err-record-clause-reads g c = (1, c.read.ensures.reads, λ saved now held stands holds. inl refl)

pub returns-in-None-clause-reads : goal.returns-in-None-clause-reads
returns-in-None-clause-reads g c = (1, c.read.ensures.reads, λ saved now held stands holds. inl refl)

pub returns-in-None-clause-ok : goal.returns-in-None-clause-ok
returns-in-None-clause-ok g c = (
  c.in_ok-record.ensures.ok.0,
  c.in_ok-record.ensures.ok.1,
  λ saved now held stands holds.
      subst (λ (bytes : List ℕ). IsWrittenAs held bytes c.new.result) c.as_slice.ensures
      (written_inline {place = place_of c.args.rid} held c.new.result (c.in_ok-record.ensures.ok.2 saved now stands ∙ ap Some (sym c.as_slice.ensures)) holds c.in-None.ensures),
)

pub returns-in_ok-list-in-Some-clause-reads : goal.returns-in_ok-list-in-Some-clause-reads
returns-in_ok-list-in-Some-clause-reads g c = (
  1 + chain_count (8 * c.in-Some.count),
  chained_pages (g.D.Disk.reads c.args.disk.now) (g.D.Disk.reads c.read.new.disk) (g.D.Disk.reads c.list_at.new.disk) (chain_count (8 * c.in-Some.count)) c.read.ensures.reads c.list_at.ensures.reads,
  λ saved now held stands holds. pages_named held c.in-Some.count c.in-Some.chain (c.in_ok-record.ensures.ok.2 saved now stands ∙ ap Some (sym c.as_slice.ensures)) holds c.in-Some.ensures,
)

pub returns-in_err-list-in-Some-clause-reads : goal.returns-in_err-list-in-Some-clause-reads
returns-in_err-list-in-Some-clause-reads g c = (
  1 + chain_count (8 * c.in-Some.count),
  chained_pages (g.D.Disk.reads c.args.disk.now) (g.D.Disk.reads c.read.new.disk) (g.D.Disk.reads c.list_at.new.disk) (chain_count (8 * c.in-Some.count)) c.read.ensures.reads c.list_at.ensures.reads,
  λ saved now held stands holds. pages_named held c.in-Some.count c.in-Some.chain (c.in_ok-record.ensures.ok.2 saved now stands ∙ ap Some (sym c.as_slice.ensures)) holds c.in-Some.ensures,
)

pub returns-in_ok-list-in-Some-clause-ok : goal.returns-in_ok-list-in-Some-clause-ok
returns-in_ok-list-in-Some-clause-ok g c = (
  c.in_ok-record.ensures.ok.0,
  leaves_add_up c.in_ok-record.ensures.ok.1 c.in_ok-list-in-Some.ensures.ok.0,
  λ saved now held stands holds.
      let later = leaves_stand {d = g.D.Disk} c.in_ok-record.ensures.ok.1 c.read.ensures.still stands in
      subst (λ (bytes : List ℕ). IsWrittenAs held bytes c.in_ok-list-in-Some.list) c.as_slice.ensures
      (written_listed {place = place_of c.args.rid} held c.in-Some.count c.in-Some.chain c.in_ok-list-in-Some.list (c.in_ok-record.ensures.ok.2 saved now stands ∙ ap Some (sym c.as_slice.ensures)) holds c.in-Some.ensures
      (λ all there. c.in_ok-list-in-Some.ensures.ok.1 saved now all later there)),
)

pub returns-in_err-list-in-Some-clause-refused : goal.returns-in_err-list-in-Some-clause-refused
returns-in_err-list-in-Some-clause-refused g c =
    err_passed c.from_residual-in_err-list-in-Some.result (λ (e : StoreError). NotRead g.D.Disk (λ now. HoldsNone now (place_of c.args.rid)) c.args.rid.page e
    c.args.records.now c.list_at.new.records c.args.disk.now c.list_at.new.disk) c.in_err-list-in-Some.field-0.0
    (err_from_is_err_and c.from_residual-in_err-list-in-Some.result c.from_residual-in_err-list-in-Some.ensures.1)
    (later_read {d = g.D.Disk} {r0 = c.args.records.now} {r1 = c.read.new.self} {x0 = c.args.disk.now} {x1 = c.read.new.disk}
    (reads_on {r0 = c.args.records.now} {r1 = c.read.new.self} (λ held. record_at held (place_of c.args.rid) ≡ Some c.as_slice.result.now) c.in_ok-record.ensures.ok.0 c.in_ok-record.ensures.ok.1 c.read.ensures.still
    (λ saved now stands. c.in_ok-record.ensures.ok.2 saved now stands ∙ ap Some (sym c.as_slice.ensures)))
    (λ now. LacksProxies now c.in-Some.count c.in-Some.chain) (λ now. HoldsNone now (place_of c.args.rid)) c.args.rid.page
    (λ was mid read lacks. unlisted c.in-Some.count c.in-Some.chain read.1 c.in-Some.ensures (subst (λ (h : Held). LacksProxies h c.in-Some.count c.in-Some.chain) read.0 lacks))
    c.list_at.new.records c.list_at.new.disk c.in_ok-record.ensures.ok.1 c.in_err-list-in-Some.field-0.0 c.in_err-list-in-Some.ensures.refused)

pub returns-in_ok-list-in-Some-clause-still : goal.returns-in_ok-list-in-Some-clause-still
returns-in_ok-list-in-Some-clause-still g c = still_then c.read.ensures.still c.list_at.ensures.still
