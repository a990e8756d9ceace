use Rattle.std.proofs.Common.{ℕ, List, subst}
use Rattle.nx_records.specs.declared.error.StoreError.{StoreError}
use Rattle.nx_records.specs.Changes.{LacksList}
use Rattle.nx_records.specs.Refusals.{NotRead}
use Rattle.nx_records.proofs.StandLemmas.{if_ok_then, if_err_then}
use Rattle.nx_hold.proofs.CallLemmas.{list_read}
use Rattle.nx_hold.proofs.contents.far_content.Goals as goal

pub returns-clause-ok : goal.returns-clause-ok
returns-clause-ok g c =
    if_ok_then c.read_list.result c.read_list.ensures.ok
    (λ (bytes : List ℕ) read. (read.0, read.1, λ saved now stands held there. list_read _ (now.lists c.args.far.first) bytes held (read.3 saved now stands) there))

pub returns-clause-refused : goal.returns-clause-refused
returns-clause-refused g c =
    if_err_then c.read_list.result c.read_list.ensures.refused
    (λ (e : StoreError) refused. subst (λ (n : ℕ). NotRead g.D.Disk (λ now. LacksList now c.args.far.first n) c.args.far.first e c.args.records.now c.read_list.new.self c.args.disk.now c.read_list.new.disk) c.from.ensures refused)
