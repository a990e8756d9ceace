use Rattle.std.proofs.Common.{sym, subst}
use Rattle.std.proofs.lemmas.Result.{err_from_is_err_and}
use Rattle.nx_tree.specs.Document.{IsDocument}
use Rattle.nx_tree.proofs.KeptLemmas.{document_cut, delete_goes, cut_spares}
use Rattle.nx_tree.proofs.tree.edit.delete_at.Goals as goal

pub returns-clause-document : goal.returns-clause-document
returns-clause-document c =
    subst IsDocument (sym c.in_ok-delete_in.ensures.ok)
    (document_cut c.args.path.now c.args.tree.now c.requires
    (delete_goes c.args.path.now c.args.tree.now c.in_ok-delete_in.ensures.refused c.if-is_root_element.ensures))

pub returns-in_err-delete_in-clause-memory : goal.returns-in_err-delete_in-clause-memory
returns-in_err-delete_in-clause-memory c =
    cut_spares c.from_residual.result _ c.args.path.now c.args.tree.now (err_from_is_err_and c.from_residual.result c.from_residual.ensures.1) c.in_err-delete_in.ensures.refused
