use Rattle.std.proofs.Common.{◌≡◌, ◌∙◌, ◌+◌, List, ℕ, length, refl, sym, subst, ap, arith, length-append}
use Rattle.std.proofs.lemmas.Result.{err_from_is_err_and}
use Rattle.nx_host.proofs.DiskLemmas.{still_then}
use Rattle.nx_replay.specs.Log.{Pages}
use Rattle.nx_wal.specs.Wal.{current}
use Rattle.nx_links.specs.Lists.{IsListStep, IsReadTo}
use Rattle.nx_links.proofs.ListLemmas.{read_more, read_whole}
use Rattle.nx_records.specs.declared.records.Records.{Records}
use Rattle.nx_records.specs.declared.error.StoreError.{StoreError}
use Rattle.nx_records.specs.Chains.{NoListFrom, NotListed}
use Rattle.nx_records.proofs.ChainLemmas.{reads_within, sees_back, listed_damaged, listed_weaker, later_listed}
use Rattle.nx_records.proofs.ReadingLemmas.{rest_lacks}
use Rattle.nx_records.proofs.RefusalLemmas.{err_passed, ended_now}
use Rattle.nx_records.proofs.records.Records.read_chain.Goals as goal

pub returns-in_default-clause-refused : goal.returns-in_default-clause-refused
returns-in_default-clause-refused g c =
    listed_damaged g.D.Disk c.args.self.now c.damaged.new.self c.args.disk.now c.args.disk.now c.args.named (NoListFrom c.args.self.now.head.pages c.args.first c.args.len) c.damaged.result c.damaged.ensures.result
    (ended_now {r0 = c.args.self.now} {r1 = c.args.self.now} {r2 = c.damaged.new.self} c.requires refl c.damaged.ensures.ended)
    (λ was step. c.in_default.ensures.none (current c.args.self.now.wal was))

pub returns-in_err-append_on-clause-refused : goal.returns-in_err-append_on-clause-refused
returns-in_err-append_on-clause-refused g c =
    let so_far = c.loop-reader.invariant in
    let reader = c.loop-reader.reader in
    err_passed c.from_residual.result (λ (e : StoreError). NotListed g.D.Disk (NoListFrom c.args.self.now.head.pages c.args.first c.args.len) c.args.named e c.args.self.now c.append_on.new.self c.args.disk.now c.append_on.new.disk)
    c.in_err-append_on.field-0.0 (err_from_is_err_and c.from_residual.result c.from_residual.ensures.1)
    (listed_weaker g.D.Disk c.args.self.now c.append_on.new.self c.args.disk.now c.append_on.new.disk c.args.named (NoListFrom c.args.self.now.head.pages reader.next reader.left)
    (NoListFrom c.args.self.now.head.pages c.args.first c.args.len) c.in_err-append_on.field-0.0 (λ was step none. rest_lacks c.args.len reader.left (so_far.read was step) so_far.left none)
    (later_listed c.append_on.new.self c.append_on.new.disk (λ (r : Records). NoListFrom r.head.pages c.loop-reader.reader.next c.loop-reader.reader.left) c.args.named c.in_err-append_on.field-0.0 so_far.same so_far.still
    c.in_err-append_on.ensures.refused))

pub loop-reader-preserved : goal.loop-reader-preserved
loop-reader-preserved g c =
    let so_far = c.loop-reader.invariant in
    let put = c.in_ok-append_on.ensures.ok.1 in
    let is = put.is in
    let more = put.appended in
    let longer : length c.append_on.new.into ≡ length c.loop-reader.bytes + length put.block = ap length more ∙ length-append c.loop-reader.bytes put.block in
    let positive = c.loop-reader-test.true in
    let reads = so_far.full (λ zero. absurd (omega (arith, positive, zero))) in
    let once = c.append_on.ensures.reads in
    let whole = so_far.left in
    let left = is.left in
    let some = is.some in
    record {
      same = c.in_ok-append_on.ensures.ok.0 ∙ so_far.same;
      still = still_then so_far.still c.append_on.ensures.still;
      left = omega (arith, longer, whole, left);
      full = λ goes_on. let full = is.full goes_on in omega (arith, reads, once, longer, full);
      reads = reads_within _ _ (length c.loop-reader.bytes) c.args.len reads (omega (arith, whole, left, some)) _ once;
      read = λ was step.
          subst (λ (b : List ℕ). IsReadTo c.args.self.now.head.pages (current c.args.self.now.wal was) c.args.first b c.append_on.new.reader.next) (sym more)
          (read_more (so_far.read was step)
          (sees_back (λ (r : Records) (pages : Pages). IsListStep r.head.pages pages c.loop-reader.reader.next c.append_on.new.reader.next put.block) so_far.same so_far.still put.step was step));
    }

pub returns-clause-ok : goal.returns-clause-ok
returns-clause-ok g c =
    let so_far = c.loop-reader.invariant in
    let low = c.loop-reader-test.false in
    let none : c.loop-reader.reader.left ≡ 0 = omega (arith, low) in
    let whole = so_far.left in (
      so_far.same,
      omega (arith, whole, none),
      λ was step. read_whole
          (subst (λ (p : ℕ). IsReadTo c.args.self.now.head.pages (current c.args.self.now.wal was) c.args.first c.loop-reader.bytes p) (c.loop-reader.reader.ends.1 none) (so_far.read was step)),
    )
