use Rattle.std.proofs.Common.{◌∙◌, sym, refl}
use Rattle.nx_links.proofs.ListLemmas.{lists_from}
use Rattle.nx_records.specs.Changes.{LacksList}
use Rattle.nx_records.specs.Chains.{NoListFrom}
use Rattle.nx_records.proofs.StandLemmas.{if_ok_then, if_err_then}
use Rattle.nx_records.proofs.LeaveLemmas.{leaves_same, had_ended}
use Rattle.nx_records.proofs.ChainLemmas.{list_read, lacks_list, listed_read, read_damaged}
use Rattle.nx_records.proofs.RefusalLemmas.{ended_now}
use Rattle.nx_records.proofs.records.Records.read_list.Goals as goal

pub returns-then-not-may_begin-clause-refused : goal.returns-then-not-may_begin-clause-refused
returns-then-not-may_begin-clause-refused g c =
    read_damaged g.D.Disk c.args.self.now c.damaged.new.self c.args.disk.now c.args.disk.now c.args.first (λ now. LacksList now c.args.first c.args.len) c.damaged.result c.damaged.ensures.result
    (ended_now {r0 = c.args.self.now} {r1 = c.args.self.now} {r2 = c.damaged.new.self} c.if-self.false refl c.damaged.ensures.ended)
    (λ saved now stands. lacks_list stands.holds c.args.first c.args.len (c.may_begin.ensures.no c.if-not-may_begin.true))

pub returns-clause-ok : goal.returns-clause-ok
returns-clause-ok g c =
    let may = c.may_begin.ensures.yes c.if-not-may_begin.false in
    if_ok_then c.read_chain.result c.read_chain.ensures.ok (λ bytes ok. (
      c.if-self.false,
      leaves_same ok.0,
      ok.1,
      λ saved now stands. list_read stands.holds c.args.first bytes may.1 (λ zero. may.0 (sym ok.1 ∙ zero)) (ok.2 (stands.keeps).image (stands.keeps).step),
    ))

pub returns-clause-refused : goal.returns-clause-refused
returns-clause-refused g c =
    if_err_then c.read_chain.result c.read_chain.ensures.refused (λ e refused.
    listed_read g.D.Disk c.args.self.now c.read_chain.new.self c.args.disk.now c.read_chain.new.disk c.args.first (λ now. LacksList now c.args.first c.args.len)
    (NoListFrom c.args.self.now.head.pages c.args.first c.args.len) e
    (λ saved now stands none list there long. none list (lists_from stands.holds c.args.first list there).0 long) refused)

pub returns-then-self-clause-refused : goal.returns-then-self-clause-refused
returns-then-self-clause-refused g c = had_ended c.if-self.true

pub returns-clause-list : goal.returns-clause-list
returns-clause-list g c = if_ok_then c.read_chain.result c.read_chain.ensures.ok (λ bytes ok was step. ok.2 was step)
