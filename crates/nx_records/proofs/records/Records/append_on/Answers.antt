use Rattle.std.proofs.Common.{◌∙◌, ℕ, sym, subst}
use Rattle.std.proofs.lemmas.Result.{err_from_is_err_and}
use Rattle.nx_wal.specs.Wal.{current}
use Rattle.nx_links.specs.Lists.{IsListStep}
use Rattle.nx_links.proofs.ListLemmas.{list_step}
use Rattle.nx_records.specs.declared.error.StoreError.{StoreError}
use Rattle.nx_records.specs.Chains.{NoLink, NoListFrom, NotListed}
use Rattle.nx_records.proofs.ChainLemmas.{few_pages, no_list_from, listed_damaged, listed_weaker}
use Rattle.nx_records.proofs.ReadingLemmas.{no_list_behind}
use Rattle.nx_records.proofs.RefusalLemmas.{err_passed, ended_now}
use Rattle.nx_records.proofs.records.Records.append_on.Goals as goal

pub returns-in_err-next-clause-refused : goal.returns-in_err-next-clause-refused
returns-in_err-next-clause-refused g c =
    let head = c.args.self.now.head in
    let reader = c.args.reader.now in
    err_passed c.from_residual.result (λ (e : StoreError). NotListed g.D.Disk (NoListFrom c.args.self.now.head.pages c.args.reader.now.next c.args.reader.now.left) c.args.named e c.args.self.now c.see_link.new.self c.args.disk.now c.see_link.new.disk)
    c.in_err-next.field-0.0 (err_from_is_err_and c.from_residual.result c.from_residual.ensures.1)
    (listed_weaker g.D.Disk c.args.self.now c.see_link.new.self c.args.disk.now c.see_link.new.disk c.args.named (NoLink head.pages reader.next) (NoListFrom head.pages reader.next reader.left) c.in_err-next.field-0.0
    (λ was step none bytes from long. no_list_from (few_pages head c.args.self.now.head_range) (λ zero. c.requires.some (c.args.reader.now.ends.0 zero)) none bytes from) c.in_err-next.ensures.refused)

pub returns-in_default-clause-refused : goal.returns-in_default-clause-refused
returns-in_default-clause-refused g c =
    let head = c.args.self.now.head in
    let reader = c.args.reader.now in
    let link = c.in_ok-next.ensures.ok in
    listed_damaged g.D.Disk c.args.self.now c.damaged.new.self c.args.disk.now c.see_link.new.disk c.args.named (NoListFrom head.pages reader.next reader.left) c.damaged.result c.damaged.ensures.result
    (ended_now {r0 = c.args.self.now} {r1 = c.see_link.new.self} {r2 = c.damaged.new.self} c.requires.runs link.0 c.damaged.ensures.ended)
    (λ was step.
    let has = link.4 was step in
    no_list_behind reader.left (list_step (few_pages head c.args.self.now.head_range) (λ zero. c.requires.some (c.args.reader.now.ends.0 zero)) link.1 has.link has.full)
    c.in_default.ensures.none)

pub returns-clause-ok : goal.returns-clause-ok
returns-clause-ok g c =
    let head = c.args.self.now.head in
    let link = c.in_ok-next.ensures.ok in
    let content = c.in_ok-next.content.now in
    let now = c.in-Some.behind in
    let behind = c.in-Some.ensures.some in (
      link.0,
      record {
        block = content;
        appended = c.in-Ok.ensures.ok;
        is = record { some = link.2; few = c.in_ok-next.ensures.few; full = λ more. link.3 (λ zero. more (now.ends.0 (behind.1 ∙ zero))); left = behind.2; first = behind.0 };
        step = λ was step.
            let has = link.4 was step in
            subst (λ (n : ℕ). IsListStep head.pages (current c.args.self.now.wal was) c.args.reader.now.next n content) (sym behind.1)
            (list_step (few_pages head c.args.self.now.head_range) (λ zero. c.requires.some (c.args.reader.now.ends.0 zero)) link.1 has.link has.full);
      },
    )
