use Rattle.std.proofs.Common.{ℕ, ◌*◌, sym, ap, ◌∙◌, subst}
use Rattle.nx_records.specs.declared.error.StoreError.{StoreError}
use Rattle.nx_records.specs.Changes.{LacksList}
use Rattle.nx_records.specs.Refusals.{NotChanged}
use Rattle.nx_piece.specs.declared.piece.Stored.{Stored}
use Rattle.nx_piece.specs.declared.piece.Stored.TheVariants.{Chained}
use Rattle.nx_hold.specs.Putting.{HasList, FreesChain}
use Rattle.nx_hold.proofs.NamedLemmas.{chained_named, frees_none}
use Rattle.nx_hold.proofs.PutLemmas.{frees_chain}
use Rattle.nx_hold.proofs.RefusalLemmas.{change_told}
use Rattle.nx_hold.proofs.lists.free_proxies.Goals as goal

pub returns-in_default-clause-ok : goal.returns-in_default-clause-ok
returns-in_default-clause-ok g c stored names saved now stands has = (now, stands, frees_none stored now names c.in_default.is)

pub returns-in-Ok-clause-ok : goal.returns-in-Ok-clause-ok
returns-in-Ok-clause-ok g c stored names saved now stands has =
    let is = chained_named stored c.in-Some.list names c.in-Some.is in
    let here : HasList now (Chained is.0 c.in-Some.list.count c.in-Some.list.chain) = subst (λ (s : Stored). HasList now s) is.1 has in
    let next = (c.in-Ok.ensures.ok saved now here.0 stands here.1).1 in (
      next.0,
      next.1,
      subst (λ (s : Stored). FreesChain s now next.0) (sym is.1) (frees_chain is.0 c.in-Some.list.count c.in-Some.list.chain now next.0 next.2),
    )

pub returns-in-Err-clause-refused : goal.returns-in-Err-clause-refused
returns-in-Err-clause-refused g c stored names =
    let is = chained_named stored c.in-Some.list names c.in-Some.is in
    subst (λ (e : StoreError). NotChanged g.D.Disk (λ was. HasList was stored → ⊥) c.args.named e c.args.records.now c.free_list.new.self c.args.disk.now c.free_list.new.disk) (sym c.at_page.ensures)
    (change_told g.D.Disk (λ was. LacksList was c.in-Some.list.chain (8 * c.from.result)) (λ was. HasList was stored → ⊥) c.in-Some.list.chain c.args.named
    c.args.records.now c.free_list.new.self c.args.disk.now c.free_list.new.disk
    (λ held lacks has.
    let here : HasList held (Chained is.0 c.in-Some.list.count c.in-Some.list.chain) = subst (λ (s : Stored). HasList held s) is.1 has in
    lacks here.0 here.1 (here.2 ∙ ap (λ (n : ℕ). 8 * n) (sym c.from.ensures)))
    c.in-Err.error c.in-Err.ensures.refused)
