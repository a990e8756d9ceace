use Rattle.std.proofs.Common.{ℕ, ◌*◌, ap, ◌∙◌, sym, subst}
use Rattle.nx_records.specs.declared.error.StoreError.{StoreError}
use Rattle.nx_records.specs.Changes.{LacksList}
use Rattle.nx_records.specs.Refusals.{NotRead}
use Rattle.nx_piece.specs.Encoding.{proxies_bytes}
use Rattle.nx_piece.proofs.BodyLemmas.{proxies_length}
use Rattle.nx_hold.specs.Putting.{LacksProxies}
use Rattle.nx_hold.proofs.CallLemmas.{list_read}
use Rattle.nx_hold.proofs.RefusalLemmas.{read_told, read_damaged}
use Rattle.nx_hold.proofs.lists.proxies_at.Goals as goal

pub returns-in-Err-clause-refused : goal.returns-in-Err-clause-refused
returns-in-Err-clause-refused g c =
    subst (λ (e : StoreError). NotRead g.D.Disk (λ now. LacksProxies now c.args.count c.args.chain) c.args.named e c.args.records.now c.read_list.new.self c.args.disk.now c.read_list.new.disk) (sym c.at_page.ensures)
    (read_told g.D.Disk (λ now. LacksList now c.args.chain (8 * c.from.result)) (λ now. LacksProxies now c.args.count c.args.chain) c.args.chain c.args.named c.args.records.now c.read_list.new.self c.args.disk.now c.read_list.new.disk
    (λ held lacks ps n roots there. lacks (proxies_bytes ps) there (proxies_length ps ∙ ap (λ (k : ℕ). 8 * k) (n ∙ sym c.from.ensures))) c.in-Err.error c.in-Err.ensures.refused)

pub returns-in_default-read-clause-refused : goal.returns-in_default-read-clause-refused
returns-in_default-read-clause-refused g c =
    read_damaged g.D.Disk (λ now. LacksProxies now c.args.count c.args.chain) c.args.named {r0 = c.args.records.now} {r1 = c.read_list.new.self} {r2 = c.damaged.new.records} c.args.disk.now c.read_list.new.disk c.damaged.result
    c.damaged.ensures.result c.requires c.in-Ok.ensures.ok.1 c.damaged.ensures.ends
    (λ saved now stands ps n roots there.
    (rw c.in_default-read.is at c.in-Ok-decode_proxies.ensures) ps n roots
    (c.as_slice.ensures ∙ list_read _ (now.lists c.args.chain) c.in-Ok.bytes (proxies_bytes ps) (c.in-Ok.ensures.ok.3 saved now stands) there))

pub returns-clause-ok : goal.returns-clause-ok
returns-clause-ok g c =
    let read = rw c.in-Some.is at c.in-Ok-decode_proxies.ensures in (
      c.in-Ok.ensures.ok.1,
      read.2,
      read.1,
      read.3,
      λ saved now list stands there. sym (list_read _ (now.lists c.args.chain) c.in-Ok.bytes list (c.in-Ok.ensures.ok.3 saved now stands) there) ∙ sym c.as_slice.ensures ∙ read.0,
    )
