use Rattle.std.proofs.Common.{◌≡◌, ◌-◌, ◌∙◌, refl, ap, sym, take, length, vec_len, arith, rules}
use Rattle.std.specs.List.{slice_get}
use Rattle.nx_pyx.specs.Event.{End, Single}
use Rattle.nx_pyx.proofs.WriterLemmas.{written-element, written-end, one_line}
use Rattle.nx_pyx.proofs.writer.Writer.write_line.Goals as goal

pub returns-in_ok-push-in-Element-clause-ok : goal.returns-in_ok-push-in-Element-clause-ok
returns-in_ok-push-in-Element-clause-ok c =
    written-element c.args.block.now _ _ c.args.self.now c.tree.inside.node _ _ c.self.inside.rest.now c.in-Some.others.now c.as_slice-self-inside.result.now c.self.inside.elements.items c.push-in-Element.new.self.items
    (record { name = c.as_slice.result; after = c.in-Some.others })
    c.tree.view_is c.in-Some.ensures.cases.0 c.in-Element.is c.in_ok-push_node_line.ensures.ok c.in_ok-push.ensures.ok c.as_slice.ensures (search rules) c.as_slice-self-inside.ensures.forest c.in_ok-push-in-Element.ensures.items c.self.view_is

pub returns-clause-ok : goal.returns-clause-ok
returns-clause-ok c =
    let elements = c.self.inside.elements in
    let len : vec_len elements ≡ length elements.items = omega (arith, elements.ok.0) in
    written-end c.args.block.now _ _ c.args.self.now c.self.inside.rest.now elements.items c.pop.new.self.items c.in-Some-copied.element
    c.in_default.ensures.cases
    (ap (λ es. slice_get es (length es - 1)) (sym c.deref.ensures.value) ∙ sym c.last.ensures.value ∙ sym c.in-Some-copied.ensures)
    (c.pop.ensures.rest ∙ ap (λ n. take (n - 1) elements.items) len)
    c.in_ok-push_name.ensures.ok c.in_ok-push-2.ensures.ok c.self.view_is

pub returns-in_ok-push-in-Element-clause-lines : goal.returns-in_ok-push-in-Element-clause-lines
returns-in_ok-push-in-Element-clause-lines c = one_line _ _ _ _ (Single c.tree.inside.node) refl c.in_ok-push_node_line.ensures.ok c.in_ok-push.ensures.ok

pub returns-clause-lines : goal.returns-clause-lines
returns-clause-lines c = one_line _ _ _ _ (End c.in-Some-copied.element.name.now) refl c.in_ok-push_name.ensures.ok c.in_ok-push-2.ensures.ok
