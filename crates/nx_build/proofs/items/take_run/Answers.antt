use Rattle.std.proofs.Common.{ap, arith, sym, ◌∙◌, List}
use Rattle.nx_piece.specs.declared.piece.Item.{Item}
use Rattle.nx_piece.specs.declared.piece.Item.TheVariants.{Run}
use Rattle.nx_piece.specs.Items.{gapped_of}
use Rattle.nx_build.specs.Rows.{last_gap}
use Rattle.nx_build.proofs.GapLemmas.{last_few, taken, with_proxy-new}
use Rattle.nx_build.proofs.items.take_run.Goals as goal

pub overflow_add-result : goal.overflow_add-result
overflow_add-result c =
    let few = last_few (gapped_of c.args.items.now.items) c.in-Some.count (sym (c.last_run.ensures ∙ ap (λ (xs : List Item). last_gap (gapped_of xs)) c.as_slice.ensures.value) ∙ c.in-Some.is) in omega (arith, few)

pub returns-in-Some : goal.returns-in-Some
returns-in-Some c =
    taken c.args.items.now.items c.pop.new.self.items c.pop.result c.in-Some.count c.pop.ensures.items (λ low. (_, c.pop.ensures.value (Run 0) (omega arith)))
    (sym (c.last_run.ensures ∙ ap (λ (xs : List Item). last_gap (gapped_of xs)) c.as_slice.ensures.value) ∙ c.in-Some.is)

pub returns-in-None : goal.returns-in-None
returns-in-None c = with_proxy-new (gapped_of c.args.items.now.items) (sym (c.last_run.ensures ∙ ap (λ (xs : List Item). last_gap (gapped_of xs)) c.as_slice.ensures.value) ∙ c.in-None.is)
