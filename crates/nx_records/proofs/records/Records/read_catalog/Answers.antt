use Rattle.nx_links.proofs.ListLemmas.{catalog_from, one_list_from}
use Rattle.nx_records.specs.Chains.{NoListFrom}
use Rattle.nx_records.proofs.StandLemmas.{if_ok_then, if_err_then}
use Rattle.nx_records.proofs.LeaveLemmas.{leaves_same, had_ended}
use Rattle.nx_records.proofs.ChainLemmas.{listed_read}
use Rattle.nx_records.proofs.records.Records.read_catalog.Goals as goal

pub returns-clause-ok : goal.returns-clause-ok
returns-clause-ok g c =
    if_ok_then c.read_chain.result c.read_chain.ensures.ok (λ bytes ok. (
      c.if-self.false,
      leaves_same ok.0,
      ok.1,
      λ saved now stands. one_list_from stands.holds (catalog_from stands.holds) (ok.2 (stands.keeps).image (stands.keeps).step),
    ))

pub returns-clause-refused : goal.returns-clause-refused
returns-clause-refused g c =
    if_err_then c.read_chain.result c.read_chain.ensures.refused (λ e refused.
    listed_read g.D.Disk c.args.self.now c.read_chain.new.self c.args.disk.now c.read_chain.new.disk 0 (λ now. ⊥) (NoListFrom c.args.self.now.head.pages c.args.self.now.head.catalog c.args.self.now.head.catalog_length) e
    (λ saved now stands none. none now.catalog.bytes (catalog_from stands.holds) (stands.holds).behind.catalog_length) refused)

pub returns-then-self-clause-refused : goal.returns-then-self-clause-refused
returns-then-self-clause-refused g c = had_ended c.if-self.true
