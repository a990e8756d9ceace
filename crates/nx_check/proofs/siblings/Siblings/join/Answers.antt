use Rattle.std.proofs.Common.{refl}
use Rattle.nx_piece.specs.Viewing.{seen_items}
use Rattle.nx_check.specs.Heads.{item_heads}
use Rattle.nx_check.proofs.SiblingLemmas.{doc_joins, none_joins}
use Rattle.nx_check.proofs.siblings.Siblings.join.Goals as goal

pub returns-in-Doc-clause-ok : goal.returns-in-Doc-clause-ok
returns-in-Doc-clause-ok c = λ before behind stand row.
    doc_joins c.args.self.now c.args.self.now c.args.element.now c.may_be_top.new.element before behind (item_heads (seen_items c.args.roots)) c.may_be_top.result c.in-Doc.is refl stand row c.may_be_top.ensures.yes c.may_be_top.ensures.no

pub returns-in_default-clause-ok : goal.returns-in_default-clause-ok
returns-in_default-clause-ok c = λ before behind stand row.
    none_joins c.args.self.now c.args.element.now before behind (item_heads (seen_items c.args.roots)) c.has_no_tree.result c.in_default.not-Doc c.in_default.not-Element row c.has_no_tree.ensures
