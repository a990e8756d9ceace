use Rattle.std.proofs.Common.{◌∙◌}
use Rattle.nx_piece.specs.Gapped.{grown_of}
use Rattle.nx_piece_edits.specs.declared.setting.NodeEdit.TheVariants.{Content}
use Rattle.nx_piece_edits.proofs.SetLemmas.{content_is}
use Rattle.nx_piece_edits.proofs.PlantLemmas.{root_edited}
use Rattle.nx_piece_edits.proofs.setting.set_content.Goals as goal

pub returns : goal.returns
returns c =
    let leads = c.requires.leads in
    let body = c.from_vec.ensures
    ∙ root_edited c.args.piece c.args.member c.args.path.now c.as_slice.result.now (grown_of c.into_vec-roots.result.items) (grown_of c.edit_root.new.roots.items) (Content c.args.content c.args.far) leads.0 leads.1 c.as_slice.ensures c.into_vec-roots.ensures leads.2 c.in-Ok.ensures.ok in
    content_is c.args.piece c.args.member c.args.path.now c.args.content c.args.far c.from_vec.result leads.0 leads.1 leads.2 body
