use Rattle.nx_tree.specs.Edit.{retext}
use Rattle.nx_tree.proofs.KeptLemmas.{document_kept, none_on_ok, document_retext, retext_spares}
use Rattle.nx_tree.proofs.tree.edit.retext_at.Goals as goal

pub returns-clause-document : goal.returns-clause-document
returns-clause-document c =
    document_kept c.retext_in.result _ c.args.tree.now c.retext_in.new.tree (retext c.args.content c.args.path.now c.args.tree.now)
    c.retext_in.ensures.ok c.retext_in.ensures.err (none_on_ok c.retext_in.result _ c.retext_in.ensures.refused)
    (document_retext c.args.content c.args.path.now c.args.tree.now c.requires.short c.requires.document) c.requires.document

pub returns-clause-memory : goal.returns-clause-memory
returns-clause-memory c = retext_spares c.retext_in.result c.args.path.now c.args.tree.now c.retext_in.ensures.refused
