use Rattle.std.proofs.Common.{◌++◌, List, sym, ap, ◌∙◌, subst}
use Rattle.nx_piece.specs.Viewing.{seen_items}
use Rattle.nx_check.specs.Heads.{Head, heads, item_heads}
use Rattle.nx_check.specs.Siblings.{StandAround}
use Rattle.nx_check.proofs.ShownLemmas.{shown_heads}
use Rattle.nx_check.proofs.FitLemmas.{match_true, match_false, both_true, heads-joined, row_there, row_never, row_stands}
use Rattle.nx_check.proofs.placing.may_join.Goals as goal

pub returns-then-not-branch-clause-ok : goal.returns-then-not-branch-clause-ok
returns-then-not-branch-clause-ok c = λ before behind new level sum stand there shown.
    let roots = seen_items c.args.roots in
    let kind = c.args.siblings.now.kind in
    row_never kind level before new behind (item_heads roots) (shown_heads roots new shown)
    (match_false _ _ c.in_ok-join.field-0 c.if-not-branch.true (c.in_ok-join.ensures.ok (heads before) (heads behind) stand (row_there kind level before behind there)))

pub returns-clause-ok : goal.returns-clause-ok
returns-clause-ok c = λ before behind new level sum stand there shown.
    let roots = seen_items c.args.roots in
    let kind = c.args.siblings.now.kind in
    let same = shown_heads roots new shown in
    let joined = match_true _ _ c.in_ok-join.field-0 c.if-not-branch.false (c.in_ok-join.ensures.ok (heads before) (heads behind) stand (row_there kind level before behind there)) in
    both_true _ _ _ c.stand_at.result (row_stands kind level c.args.levels before new behind (item_heads roots) c.stand_at.result sum same there joined.0 (c.stand_at.ensures.stands new shown))
    (subst (λ (l : List Head). StandAround c.join.new.self c.join.new.element l (heads behind)) (ap (λ (l : List Head). heads before ++ l) (sym same) ∙ sym (heads-joined before new)) joined.1)
