use Rattle.std.proofs.Common.{ℕ, ◌*◌, ap, ◌∙◌, sym, subst}
use Rattle.nx_records.specs.declared.error.StoreError.{StoreError}
use Rattle.nx_records.specs.Changes.{LacksList}
use Rattle.nx_records.specs.Refusals.{NotRead}
use Rattle.nx_piece.specs.Encoding.{proxies_bytes}
use Rattle.nx_piece.proofs.BodyLemmas.{proxies_length}
use Rattle.nx_hold.specs.Putting.{LacksProxies}
use Rattle.nx_hold.proofs.CallLemmas.{list_read}
use Rattle.nx_hold.proofs.RefusalLemmas.{read_told}
use Rattle.nx_hold.proofs.lists.list_at.Goals as goal

pub returns-in-Err-clause-refused : goal.returns-in-Err-clause-refused
returns-in-Err-clause-refused g c =
    subst (λ (e : StoreError). NotRead g.D.Disk (λ now. LacksProxies now c.args.count c.args.chain) c.args.named e c.args.records.now c.read_list.new.self c.args.disk.now c.read_list.new.disk) (sym c.at_page.ensures)
    (read_told g.D.Disk (λ now. LacksList now c.args.chain (8 * c.from.result)) (λ now. LacksProxies now c.args.count c.args.chain) c.args.chain c.args.named c.args.records.now c.read_list.new.self c.args.disk.now c.read_list.new.disk
    (λ held lacks ps n roots there. lacks (proxies_bytes ps) there (proxies_length ps ∙ ap (λ (k : ℕ). 8 * k) (n ∙ sym c.from.ensures))) c.in-Err.error c.in-Err.ensures.refused)

pub returns-in-Ok-clause-ok : goal.returns-in-Ok-clause-ok
returns-in-Ok-clause-ok g c = (
  c.in-Ok.ensures.ok.1,
  λ saved now list stands there. list_read _ (now.lists c.args.chain) c.in-Ok.bytes list (c.in-Ok.ensures.ok.3 saved now stands) there,
)
