use Rattle.nx_records.specs.Chains.{NoLink}
use Rattle.nx_records.proofs.ChainLemmas.{link_found, no_link_short, listed_damaged}
use Rattle.nx_records.proofs.RefusalLemmas.{ended_now}
use Rattle.nx_records.proofs.records.Records.see_link.Goals as goal

pub returns-then-not-may_stand-clause-refused : goal.returns-then-not-may_stand-clause-refused
returns-then-not-may_stand-clause-refused g c =
    let page = c.in-Some.ensures in
    let short = c.may_stand.ensures.no c.if-not-may_stand.true in
    listed_damaged g.D.Disk c.args.self.now c.damaged-then-not-may_stand.new.self c.args.disk.now c.load.new.disk c.args.named (NoLink c.args.self.now.head.pages c.args.page)
    c.damaged-then-not-may_stand.result c.damaged-then-not-may_stand.ensures.result
    (ended_now {r0 = c.args.self.now} {r1 = c.load.new.self} {r2 = c.damaged-then-not-may_stand.new.self} c.requires c.in_ok-load.ensures.ok.0 c.damaged-then-not-may_stand.ensures.ended)
    (λ was step. no_link_short c.args.self.now.head.pages (link_found c.in_ok-load.field-0 c.if-not-branch.false (c.in_ok-load.ensures.ok.1 was step) page)
    short)

pub returns-clause-ok : goal.returns-clause-ok
returns-clause-ok g c =
    let page = c.in-Some.ensures in
    let full = c.may_stand.ensures.yes c.if-not-may_stand.false in (
      c.in_ok-load.ensures.ok.0,
      c.if-page-self.false,
      page.some,
      full,
      λ was step. record { link = link_found c.in_ok-load.field-0 c.if-not-branch.false (c.in_ok-load.ensures.ok.1 was step) page; full = full },
    )
