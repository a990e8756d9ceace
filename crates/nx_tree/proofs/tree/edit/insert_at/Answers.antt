use Rattle.std.proofs.Common.{ap, ◌∙◌}
use Rattle.nx_tree.specs.Edit.{put, insert_refusal, put_refusal}
use Rattle.nx_tree.proofs.KeptLemmas.{document_kept}
use Rattle.nx_tree.proofs.PutLemmas.{document_put, top_ordered, goes_on_ok}
use Rattle.nx_tree.proofs.tree.edit.insert_at.Goals as goal

pub insert_in-requires-clause-ordered : goal.insert_in-requires-clause-ordered
insert_in-requires-clause-ordered c = top_ordered c.args.tree.now.below c.requires.document.top

pub returns-clause-document : goal.returns-clause-document
returns-clause-document c =
    document_kept c.insert_in.result (insert_refusal c.args.node c.args.path.now c.args.tree.now) c.args.tree.now c.insert_in.new.tree (put c.args.node c.args.path.now c.args.tree.now)
    c.insert_in.ensures.ok c.insert_in.ensures.err
    (goes_on_ok c.insert_in.result _ (c.insert_in.ensures.refused ∙ ap (λ l. put_refusal l c.args.node c.args.path.now c.args.tree.now) c.limit-limit.ensures))
    (document_put c.args.node c.args.path.now c.args.tree.now c.requires.node c.requires.document) c.requires.document
