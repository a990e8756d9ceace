use Rattle.nx_records.proofs.records.Records.know_catalog.Goals as goal

pub returns-clause-ok : goal.returns-clause-ok
returns-clause-ok g c saved now stands = c.in_ok-pages.ensures.ok.1 (stands.keeps).image now (stands.keeps).step (stands.holds).behind
