use Rattle.std.proofs.Common.{◌≡◌, ◌≢◌, ◌∙◌, ◌+◌, ◌-◌, ◌*◌, ◌++◌, ◌∷◌, [], List, ℕ, length, refl, sym, subst, ap, arith, length-append}
use Rattle.std.proofs.lemmas.Result.{err_from_is_err_and}
use Rattle.nx_host.proofs.DiskLemmas.{none_still, still_then}
use Rattle.nx_replay.specs.Log.{Pages}
use Rattle.nx_wal.specs.Wal.{current}
use Rattle.nx_links.specs.Lists.{IsLinkAt, IsListStep, IsReadTo}
use Rattle.nx_links.proofs.ListLemmas.{read_none, read_more}
use Rattle.nx_records.specs.declared.records.Records.{Records}
use Rattle.nx_records.specs.declared.error.StoreError.{StoreError}
use Rattle.nx_records.specs.Chains.{NoListFrom, NotListed}
use Rattle.nx_records.proofs.ChainLemmas.{few_pages, reads_within, sees_back, listed_damaged, listed_weaker, later_listed}
use Rattle.nx_records.proofs.ReadingLemmas.{rest_lacks}
use Rattle.nx_records.proofs.RefusalLemmas.{err_passed, ended_now}
use Rattle.nx_records.proofs.KnownLemmas.{WalksTo, walk_none, walk_more, walked_all}
use Rattle.nx_records.proofs.records.Records.find_catalog.Goals as goal

pub returns-in_default-clause-refused : goal.returns-in_default-clause-refused
returns-in_default-clause-refused g c =
    let head = c.args.self.now.head in
    listed_damaged g.D.Disk c.args.self.now c.damaged.new.self c.args.disk.now c.args.disk.now 0 (NoListFrom head.pages head.catalog head.catalog_length) c.damaged.result c.damaged.ensures.result
    (ended_now {r0 = c.args.self.now} {r1 = c.args.self.now} {r2 = c.damaged.new.self} c.requires refl c.damaged.ensures.ended)
    (λ was step. c.in_default.ensures.none (current c.args.self.now.wal was))

pub loop-reader-init : goal.loop-reader-init
loop-reader-init g c =
    let opens = c.in-Some.ensures.some.0 in
    let left = opens.left in
    record {
      same = refl;
      still = none_still;
      left = omega (arith, left);
      some = omega (arith, left);
      full = λ some. omega arith;
      reads = omega arith;
      read = λ was step. ([], omega (arith, left), subst (λ (p : ℕ). IsReadTo c.args.self.now.head.pages (current c.args.self.now.wal was) c.args.self.now.head.catalog [] p) (sym opens.next) (read_none c.args.self.now.head.pages (current c.args.self.now.wal was) c.args.self.now.head.catalog));
      walks = λ was step. subst (λ (p : ℕ). WalksTo c.args.self.now.head.pages (current c.args.self.now.wal was) c.args.self.now.head.catalog c.new-pages.result p) (sym opens.next)
          (subst (λ (ps : List ℕ). WalksTo c.args.self.now.head.pages (current c.args.self.now.wal was) c.args.self.now.head.catalog ps c.args.self.now.head.catalog) (sym c.new-pages.ensures) (walk_none c.args.self.now.head.pages (current c.args.self.now.wal was) c.args.self.now.head.catalog));
    }

pub returns-in_err-read_on-clause-refused : goal.returns-in_err-read_on-clause-refused
returns-in_err-read_on-clause-refused g c =
    let so_far = c.loop-reader.invariant in
    let reader = c.loop-reader.reader in
    let head = c.args.self.now.head in
    err_passed c.from_residual.result (λ (e : StoreError). NotListed g.D.Disk (NoListFrom head.pages head.catalog head.catalog_length) 0 e c.args.self.now c.read_on.new.self c.args.disk.now c.read_on.new.disk)
    c.in_err-read_on.field-0.0 (err_from_is_err_and c.from_residual.result c.from_residual.ensures.1)
    (listed_weaker g.D.Disk c.args.self.now c.read_on.new.self c.args.disk.now c.read_on.new.disk 0 (NoListFrom head.pages reader.next reader.left)
    (NoListFrom head.pages head.catalog head.catalog_length) c.in_err-read_on.field-0.0 (λ was step none. let read = so_far.read was step in rest_lacks head.catalog_length reader.left read.2 read.1 none)
    (later_listed c.read_on.new.self c.read_on.new.disk (λ (r : Records). NoListFrom r.head.pages c.loop-reader.reader.next c.loop-reader.reader.left) 0 c.in_err-read_on.field-0.0 so_far.same so_far.still
    c.in_err-read_on.ensures.refused))

pub loop-reader-preserved : goal.loop-reader-preserved
loop-reader-preserved g c =
    let so_far = c.loop-reader.invariant in
    let is = c.in_ok-read_on.ensures.ok.1 in
    let block = c.in_ok-read_on.field-0 in
    let positive = c.loop-reader-test.true in
    let reads = so_far.full (λ zero. absurd (omega (arith, positive, zero))) in
    let once = c.read_on.ensures.reads in
    let whole = so_far.left in
    let left = is.left in
    let some = is.some in
    let few = is.few in
    let enough = so_far.some in
    let more = ap length c.in-Ok.ensures.ok in
    let longer = length-append c.loop-reader.pages (c.loop-reader.reader.next ∷ []) in
    let apart : c.loop-reader.reader.next ≢ 0 = λ zero. (let none = c.loop-reader.reader.ends.0 zero in omega (arith, positive, none)) in
    record {
      same = c.in_ok-read_on.ensures.ok.0 ∙ so_far.same;
      still = still_then so_far.still c.read_on.ensures.still;
      left = omega (arith, whole, left);
      some = omega (arith, enough, left, few, more, longer);
      full = λ goes_on. let full = is.full goes_on in omega (arith, reads, once, left, full, whole);
      reads = reads_within _ _ (c.args.self.now.head.catalog_length - c.loop-reader.reader.left) c.args.self.now.head.catalog_length reads (omega (arith, whole, left, some)) _ once;
      read = λ was step.
          let read = so_far.read was step in
          let counted = read.1 in
          let both = length-append read.0 block in (
            read.0 ++ block,
            omega (arith, counted, both, left),
            read_more read.2 (sees_back (λ (r : Records) (pages : Pages). IsListStep r.head.pages pages c.loop-reader.reader.next c.read_on.new.reader.next block) so_far.same so_far.still c.in_ok-read_on.ensures.step was step),
          );
      walks = λ was step.
          subst (λ (ps : List ℕ). WalksTo c.args.self.now.head.pages (current c.args.self.now.wal was) c.args.self.now.head.catalog ps c.read_on.new.reader.next) (sym c.in-Ok.ensures.ok)
          (walk_more c.loop-reader.pages (few_pages c.args.self.now.head c.args.self.now.head_range) apart
          (sees_back (λ (r : Records) (pages : Pages). IsLinkAt pages c.loop-reader.reader.next c.read_on.new.reader.next block) so_far.same so_far.still c.in_ok-read_on.ensures.stood was step) (so_far.walks was step));
    }

pub returns-clause-some : goal.returns-clause-some
returns-clause-some g c none =
    let so_far = c.loop-reader.invariant in
    let low = c.loop-reader-test.false in
    let enough = so_far.some in
    let least = c.args.self.now.head_range.catalog_length.0 in
    let empty = ap length none in
    omega (arith, low, enough, least, empty)

pub returns-clause-ok : goal.returns-clause-ok
returns-clause-ok g c =
    let so_far = c.loop-reader.invariant in
    let low = c.loop-reader-test.false in
    let none : c.loop-reader.reader.left ≡ 0 = omega (arith, low) in
    (so_far.same, λ was held step holds. walked_all holds (c.loop-reader.reader.ends.1 none) (so_far.walks was step))
