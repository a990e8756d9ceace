use Rattle.std.proofs.Common.{◌≡◌, ℕ, ◌<◌, List, length, Some, sym, ap, ◌∙◌, subst, arith}
use Rattle.std.proofs.lemmas.Result.{err_from_is_err_and}
use Rattle.nx_holdings.specs.Holdings.{chain_count}
use Rattle.nx_records.specs.declared.error.StoreError.{StoreError}
use Rattle.nx_records.specs.Refusals.{NotStored}
use Rattle.nx_records.proofs.RefusalLemmas.{err_passed}
use Rattle.nx_hold.specs.Contents.{content_pages}
use Rattle.nx_hold.proofs.NodeLemmas.{pages_long, far_made, held_far}
use Rattle.nx_hold.proofs.contents.hold_node.Goals as goal

pub returns-in_err-first-clause-refused : goal.returns-in_err-first-clause-refused
returns-in_err-first-clause-refused g c =
    let over : 1024 < length c.args.node.content = omega (arith, c.len.ensures, c.if-len.false) in
    let pages : chain_count (length c.as_slice.result.now) ≡ content_pages c.args.node = ap (λ (l : List ℕ). chain_count (length l)) c.as_slice.ensures ∙ sym (pages_long c.args.node over) in
    err_passed c.from_residual.result (λ (e : StoreError). NotStored g.D.Disk (λ was. content_pages c.args.node) (λ was. ⊥) 0 e c.args.records.now c.write_list.new.self c.args.disk.now c.write_list.new.disk) c.in_err-first.field-0.0
    (err_from_is_err_and c.from_residual.result c.from_residual.ensures.1)
    (subst (λ (n : ℕ). NotStored g.D.Disk (λ was. n) (λ was. ⊥) 0 c.in_err-first.field-0.0 c.args.records.now c.write_list.new.self c.args.disk.now c.write_list.new.disk) pages c.in_err-first.ensures.refused)

pub returns-clause-ok : goal.returns-clause-ok
returns-clause-ok g c saved now stands =
    let over : 1024 < length c.args.node.content = omega (arith, c.len.ensures, c.if-len.false) in
    let written = c.in_ok-first.ensures.ok saved now stands in
    (written.0, written.1, held_far c.args.node c.new-2.result c.as_slice.result.now c.in_ok-first.first c.len-2.result now written.0 c.new-2.ensures c.len-2.ensures c.as_slice.ensures over written.2)

pub returns-clause-item : goal.returns-clause-item
returns-clause-item g c = (Some c.in_ok-first.first, far_made c.args.node c.new-2.result c.in_ok-first.first c.len-2.result c.new-2.ensures c.len-2.ensures)
