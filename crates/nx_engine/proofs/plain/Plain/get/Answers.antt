use Rattle.std.proofs.Common.{◌≡◌, ◌≤◌, length, Some, arith, sym, ap, ◌∙◌}
use Rattle.std.specs.Prelude.{None}
use Rattle.nx_tree.specs.Forest.{OrderedTree, trees_of}
use Rattle.nx_tree.specs.Edit.{at}
use Rattle.nx_engine.proofs.MapLemmas.{get_shown, found_document}
use Rattle.nx_engine.proofs.StepLemmas.{by_absent, shown_there, shown_nowhere}
use Rattle.nx_engine.proofs.SizeLemmas.{few_children}
use Rattle.nx_engine.proofs.plain.Plain.get.Goals as goal

pub returns-in_default : goal.returns-in_default
returns-in_default c = sym (by_absent _ _ _ (get_shown (record { view = c.self.view_is; are = c.self.invariant }) c.as_slice.ensures ∙ sym c.in_default.ensures.value))

pub overflow_cast-result : goal.overflow_cast-result
overflow_cast-result c =
    let document = found_document _ _ c.in-Some.tree.now c.self.invariant (sym c.in-Some.ensures.value) in
    let few : length (trees_of c.in-Ok.found.now.below) ≤ 524288 = few_children _ c.in-Some.tree.now c.in-Ok.found.now document c.in-Ok.ensures.ok in
    omega (arith, c.len.ensures, few, ap (λ (t : OrderedTree). length (trees_of t.below)) c.found.view_is)

pub returns-in_ok-copy_of-in-Ok : goal.returns-in_ok-copy_of-in-Ok
returns-in_ok-copy_of-in-Ok c =
    let found : at c.in-Some.tree.now c.args.path.now ≡ Some c.in-Ok.found.now = ap (at c.in-Some.tree.now) (sym c.as_slice-2.ensures) ∙ c.in-Ok.ensures.ok in
    shown_there _ _ _ c.in-Some.tree.now c.in-Ok.found.now _ _ (get_shown (record { view = c.self.view_is; are = c.self.invariant }) c.as_slice.ensures ∙ sym c.in-Some.ensures.value) found
    (c.in_ok-copy_of-in-Ok.ensures ∙ ap (λ (t : OrderedTree). t.node) c.found.view_is)
    (c.len.ensures ∙ ap (λ (t : OrderedTree). length (trees_of t.below)) c.found.view_is)

pub returns-in-Err : goal.returns-in-Err
returns-in-Err c =
    let nowhere : at c.in-Some.tree.now c.args.path.now ≡ None = ap (at c.in-Some.tree.now) (sym c.as_slice-2.ensures) ∙ c.in-Err.ensures.err.1 in
    shown_nowhere _ _ _ c.in-Some.tree.now (get_shown (record { view = c.self.view_is; are = c.self.invariant }) c.as_slice.ensures ∙ sym c.in-Some.ensures.value) nowhere
