use Rattle.nx_piece.specs.Flat.{seen_node}
use Rattle.nx_piece.specs.Viewing.{seen_items}
use Rattle.nx_check.proofs.FitLemmas.{root_shown, root_never_top, root_judged}
use Rattle.nx_check.proofs.placing.is_root_tree.Goals as goal

pub returns-then-not-is_root_node-clause-ok : goal.returns-then-not-is_root_node-clause-ok
returns-then-not-is_root_node-clause-ok c = λ new shown so_far.
    let r = root_shown (seen_node c.args.tree.node) (seen_items c.args.tree.children) (seen_items c.args.beside) new shown in
    let yes = (c.is_root_node.ensures r.node r.here).1 (r.node_is so_far) in
    let no = c.if-not-is_root_node.true in
    cc (yes, no)

pub returns-then-not-has_no_tree-clause-ok : goal.returns-then-not-has_no_tree-clause-ok
returns-then-not-has_no_tree-clause-ok c = λ new shown so_far.
    let r = root_shown (seen_node c.args.tree.node) (seen_items c.args.tree.children) (seen_items c.args.beside) new shown in
    let no = c.if-not-has_no_tree.true in
    r.not_alone (λ none. let yes = c.has_no_tree.ensures.1 none in cc (yes, no)) so_far

pub returns-then-not-may_be_top-clause-ok : goal.returns-then-not-may_be_top-clause-ok
returns-then-not-may_be_top-clause-ok c = λ new shown.
    root_never_top (seen_node c.args.tree.node) (seen_items c.args.tree.children) (seen_items c.args.beside) new c.args.element.now shown c.requires (c.may_be_top.ensures.no c.if-not-may_be_top.true)

pub returns-clause-ok : goal.returns-clause-ok
returns-clause-ok c = λ new shown.
    root_judged (seen_node c.args.tree.node) (seen_items c.args.tree.children) (seen_items c.args.beside) new c.args.element.now c.may_be_top.new.element c.stand_at.result shown
    (λ node here. (c.is_root_node.ensures node here).0 c.if-not-is_root_node.false) (c.has_no_tree.ensures.0 c.if-not-has_no_tree.false) c.requires (c.may_be_top.ensures.yes c.if-not-may_be_top.false) c.stand_at.ensures.stands
