use Rattle.std.proofs.Common.{◌≡◌, refl, sym, subst, ap, ◌∙◌, arith}
use Rattle.std.proofs.lemmas.Result.{err_from_is_err_and}
use Rattle.std.specs.Prelude.{Some}
use Rattle.nx_replay.specs.Log.{Pages, entry_pages}
use Rattle.nx_wal.specs.declared.error.WalError.{WalError}
use Rattle.nx_wal.specs.Wal.{pending, NoLogCreated as NotBegun}
use Rattle.nx_holdings.specs.declared.header.Header.{Header}
use Rattle.nx_holdings.specs.Header.{header_bytes, IsInRange}
use Rattle.nx_records.specs.declared.error.StoreError.{StoreError}
use Rattle.nx_records.specs.First.{first_head, first_pages}
use Rattle.nx_records.specs.Refusals.{NotCreated}
use Rattle.nx_records.proofs.RefusalLemmas.{err_passed}
use Rattle.nx_records.proofs.FirstLemmas.{opened_stands, first_holds, first_replay, first_created, still_creates, commit_creates, commit_rose, no_page}
use Rattle.nx_holdings.specs.Holdings.{HoldsBy}
use Rattle.nx_records.specs.Changes.{nothing_held}
use Rattle.nx_records.proofs.records.Records.create.Goals as goal

pub returns-in-Err-Exists-clause-goes : goal.returns-in-Err-Exists-clause-goes
returns-in-Err-Exists-clause-goes g c = still_creates g.D.Disk c.args.settings c.create.ensures.still

pub returns-in-Err-Disk-clause-goes : goal.returns-in-Err-Disk-clause-goes
returns-in-Err-Disk-clause-goes g c = still_creates g.D.Disk c.args.settings c.create.ensures.still

pub returns-in-Err : goal.returns-in-Err
returns-in-Err g c = record { goes = still_creates g.D.Disk c.args.settings c.create.ensures.still; ok = tt; fresh = tt; number = tt; format = tt; refused = c.create.ensures.still }

pub returns-in_err-put_first-clause-goes : goal.returns-in_err-put_first-clause-goes
returns-in_err-put_first-clause-goes g c = still_creates g.D.Disk c.args.settings c.create.ensures.still

pub returns-in_err-put_first-clause-refused : goal.returns-in_err-put_first-clause-refused
returns-in_err-put_first-clause-refused g c =
    err_passed c.from_residual.result (λ (e : StoreError). NotCreated g.D.Disk e c.args.disk.now c.create.new.disk) c.in_err-put_first.field-0.0 (err_from_is_err_and c.from_residual.result c.from_residual.ensures.1)
    (subst (λ (e : StoreError). NotCreated g.D.Disk e c.args.disk.now c.create.new.disk) (sym c.in_err-put_first.ensures.refused) c.create.ensures.still)

pub commit-requires-clause-room : goal.commit-requires-clause-room
commit-requires-clause-room g c = let same = c.put_first.ensures.stays.0 in let zero = c.in-Ok.ensures.fresh.1 in omega (arith, same, zero)

pub returns-in_default-clause-goes : goal.returns-in_default-clause-goes
returns-in_default-clause-goes g c =
    commit_creates g.D.Disk c.args.settings c.in-Ok.wal c.put_first.new.wal (subst IsInRange c.first_header-header.ensures.first c.first_header-header.ensures.range) c.create.ensures.still c.in-Ok.ensures.ok
    c.put_first.ensures.follows (c.in_ok-put_first.ensures.ok ∙ ap first_pages c.first_header-header.ensures.first) c.commit.ensures.goes

pub returns-in_default-clause-refused : goal.returns-in_default-clause-refused
returns-in_default-clause-refused g c = (
  commit_rose g.D.Disk c.put_first.new.wal c.commit.new.self c.in_default.field-0 (c.put_first.ensures.stays.1 ∙ c.in-Ok.ensures.fresh.0) c.create.ensures.still c.in_default.ensures.refused,
  λ was p settled some. no_page c.in-Ok.ensures.ok was p settled some,
)

pub returns-in-Err-Disk-clause-refused : goal.returns-in-Err-Disk-clause-refused
returns-in-Err-Disk-clause-refused g c = (
  subst (λ (e : WalError). NotBegun g.D.Disk e c.args.disk.now c.create.new.disk) c.in-Err-Disk.field-0-is c.in-Err-Disk.ensures.refused,
  λ was p settled some. c.create.ensures.still,
)

pub returns-clause-number : goal.returns-clause-number
returns-clause-number g c = ap (λ (h : Header). h.number) c.first_header-header.ensures.first

pub returns-clause-format : goal.returns-clause-format
returns-clause-format g c = ap (λ (h : Header). h.format) c.first_header-header.ensures.first

pub invariant_of-result : goal.invariant_of-result
invariant_of-result g c = record {
  saved_range = c.first_header-header.ensures.range;
  head_range = c.first_header-header.ensures.range;
  numbered = λ some. absurd (some c.in-Ok-commit.ensures.none_left.0);
  header_waits = tt;
  runs = λ still. c.in-Ok-commit.ensures.none_left.2;
}

pub returns-clause-goes : goal.returns-clause-goes
returns-clause-goes g c =
    commit_creates g.D.Disk c.args.settings c.in-Ok.wal c.put_first.new.wal (subst IsInRange c.first_header-header.ensures.first c.first_header-header.ensures.range) c.create.ensures.still c.in-Ok.ensures.ok
    c.put_first.ensures.follows (c.in_ok-put_first.ensures.ok ∙ ap first_pages c.first_header-header.ensures.first) c.commit.ensures.goes

pub returns-clause-ok : goal.returns-clause-ok
returns-clause-ok g c was now settled told =
    let first = c.first_header-header.ensures.first in
    let range : IsInRange (first_head c.args.settings) = subst IsInRange first c.first_header-header.ensures.range in
    let made = c.in-Ok.ensures.ok was settled in
    let put : entry_pages (pending c.put_first.new.wal) ≡ first_pages (first_head c.args.settings) = c.in_ok-put_first.ensures.ok ∙ ap first_pages first in
    let done = c.in-Ok-commit.ensures.ok was now (record { settled = (made.0).settled; follows = c.put_first.ensures.follows was.log (made.0).follows }) told in
    let pages = first_replay c.put_first.new.wal (first_head c.args.settings) 0 made.1 put done.1 in (
      opened_stands _ (refl, c.in-Ok-commit.ensures.none_left.0, refl, c.new.ensures) done.0 (ap (λ (p : Pages). p 0) pages ∙ ap (λ (h : Header). Some (header_bytes h)) (sym first)) c.first_header-header.ensures.range
          (first_head c.args.settings, subst (λ (p : Pages). HoldsBy p (first_head c.args.settings) (nothing_held c.args.settings)) (sym pages) (first_holds c.args.settings range)),
      done.0,
      first_created c.args.settings c.put_first.new.wal range made.1 put done.1,
    )

pub returns-clause-fresh : goal.returns-clause-fresh
returns-clause-fresh g c = (refl, c.in-Ok-commit.ensures.none_left.0, ap (λ (h : Header). h.settings) c.first_header-header.ensures.first)
