use Rattle.std.proofs.Common.{◌∙◌}
use Rattle.nx_piece.specs.Gapped.{grown_of}
use Rattle.nx_piece_edits.specs.declared.setting.NodeEdit.TheVariants.{Leaf}
use Rattle.nx_piece_edits.proofs.PlantLemmas.{node_is, root_edited}
use Rattle.nx_piece_edits.proofs.planting.plant_node.Goals as goal

pub returns : goal.returns
returns c =
    let leads = c.requires.leads in
    let body = c.from_vec.ensures
    ∙ root_edited c.args.piece c.args.member c.args.path.now c.as_slice.result.now (grown_of c.into_vec-roots.result.items) (grown_of c.edit_root.new.roots.items) (Leaf c.args.position c.args.node c.args.far) leads.0 leads.1 c.as_slice.ensures c.into_vec-roots.ensures leads.2 c.in_ok-edit_root.ensures.ok in
    node_is c.args.piece c.args.member c.args.path.now c.args.position (record { node = c.args.node; far = c.args.far }) c.from_vec.result leads.0 leads.1 c.requires.piece leads.2 leads.3 body
