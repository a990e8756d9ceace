use Rattle.std.proofs.Common.{◌≡◌, ◌≢◌, ◌⊎◌, ◌≤◌, ℕ, sym, subst}
use Rattle.std.proofs.lemmas.Result.{err_from_is_err_and}
use Rattle.nx_wal.specs.Wal.{current}
use Rattle.nx_links.specs.Lists.{IsLinkAt, IsListStep}
use Rattle.nx_links.proofs.ListLemmas.{list_step}
use Rattle.nx_records.specs.declared.error.StoreError.{StoreError}
use Rattle.nx_records.specs.Chains.{NoLink, NoListFrom, NotListed}
use Rattle.nx_records.proofs.ChainLemmas.{few_pages, no_list_from, listed_damaged, listed_weaker}
use Rattle.nx_records.proofs.ReadingLemmas.{no_list_behind}
use Rattle.nx_records.proofs.RefusalLemmas.{err_passed, ended_now}
use Rattle.nx_records.proofs.records.Records.read_on.Goals as goal

pub returns-in_err-link-clause-refused : goal.returns-in_err-link-clause-refused
returns-in_err-link-clause-refused g c =
    let head = c.args.self.now.head in
    let reader = c.args.reader.now in
    err_passed c.from_residual.result (λ (e : StoreError). NotListed g.D.Disk (NoListFrom c.args.self.now.head.pages c.args.reader.now.next c.args.reader.now.left) c.args.named e c.args.self.now c.link.new.self c.args.disk.now c.link.new.disk)
    c.in_err-link.field-0.0 (err_from_is_err_and c.from_residual.result c.from_residual.ensures.1)
    (listed_weaker g.D.Disk c.args.self.now c.link.new.self c.args.disk.now c.link.new.disk c.args.named (NoLink head.pages reader.next) (NoListFrom head.pages reader.next reader.left) c.in_err-link.field-0.0
    (λ was step none bytes from long. no_list_from (few_pages head c.args.self.now.head_range) (λ zero. c.requires.some (c.args.reader.now.ends.0 zero)) none bytes from) c.in_err-link.ensures.refused)

pub returns-in_default-clause-refused : goal.returns-in_default-clause-refused
returns-in_default-clause-refused g c =
    let head = c.args.self.now.head in
    let reader = c.args.reader.now in
    let link = c.in_ok-link.ensures.ok in
    listed_damaged g.D.Disk c.args.self.now c.damaged.new.self c.args.disk.now c.link.new.disk c.args.named (NoListFrom head.pages reader.next reader.left) c.damaged.result c.damaged.ensures.result
    (ended_now {r0 = c.args.self.now} {r1 = c.link.new.self} {r2 = c.damaged.new.self} c.requires.runs link.0 c.damaged.ensures.ended)
    (λ was step.
    let has = link.4 was step in
    no_list_behind reader.left (list_step (few_pages head c.args.self.now.head_range) (λ zero. c.requires.some (c.args.reader.now.ends.0 zero)) link.1 has.link has.full)
    (subst (λ (n : ℕ). (c.in_ok-link.link.next ≡ 0) × (n ≢ reader.left) ⊎ (c.in_ok-link.link.next ≢ 0) × (reader.left ≤ n)) c.len.ensures c.in_default.ensures.none))

pub returns-clause-step : goal.returns-clause-step
returns-clause-step g c was step =
    let head = c.args.self.now.head in
    let link = c.in_ok-link.ensures.ok in
    let has = link.4 was step in
    subst (λ (n : ℕ). IsListStep c.args.self.now.head.pages (current c.args.self.now.wal was) c.args.reader.now.next n c.in_ok-link.link.content) (sym c.in-Some.ensures.some.1)
    (list_step (few_pages head c.args.self.now.head_range) (λ zero. c.requires.some (c.args.reader.now.ends.0 zero)) link.1 has.link has.full)

pub returns-clause-stood : goal.returns-clause-stood
returns-clause-stood g c was step =
    let has = c.in_ok-link.ensures.ok.4 was step in
    subst (λ (n : ℕ). IsLinkAt (current c.args.self.now.wal was) c.args.reader.now.next n c.in_ok-link.link.content) (sym c.in-Some.ensures.some.1) has.link
