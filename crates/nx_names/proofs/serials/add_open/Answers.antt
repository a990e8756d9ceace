use Rattle.std.proofs.Common.{List, ◌++◌, ap, ◌∙◌, subst}
use Rattle.std.proofs.lemmas.List.Sorted.{IsNonDecreasingBy-drop}
use Rattle.nx_names.specs.Opening.{IsFirstNew}
use Rattle.nx_names.proofs.SerialLemmas.{adds_open, part_left}
use Rattle.nx_names.proofs.serials.add_open.Goals as goal

pub returns : goal.returns
returns c = λ rises ascend before.
    let parts = subst (λ (xs : List _). IsFirstNew xs c.args.around.now c.first_new-from.result) c.as_slice.ensures.value c.first_new-from.ensures.parts in
    adds_open c.args.serials.now.items c.args.around.now c.extend_from_slice.new.self.items c.first_new-from.result parts (c.in_ok-extend_from_slice.ensures.items ∙ ap (λ xs. c.args.serials.now.items ++ xs) (part_left c.args.around.now c.first_new-from.result)) (IsNonDecreasingBy-drop (λ x. x) c.first_new-from.result c.args.around.now rises) rises ascend before
