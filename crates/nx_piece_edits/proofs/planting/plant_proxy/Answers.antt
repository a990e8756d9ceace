use Rattle.std.proofs.Common.{List, ap, ◌∙◌}
use Rattle.std.specs.List.{insert}
use Rattle.nx_piece.specs.declared.piece.Proxy.{Proxy}
use Rattle.nx_piece.specs.Gapped.{grown_of}
use Rattle.nx_piece_edits.specs.declared.setting.NodeEdit.TheVariants.{OneProxy}
use Rattle.nx_piece_edits.proofs.PlantLemmas.{proxy_is, root_edited}
use Rattle.nx_piece_edits.proofs.planting.plant_proxy.Goals as goal

pub returns : goal.returns
returns c =
    let leads = c.requires.leads in
    let body = c.from_vec.ensures
    ∙ root_edited c.args.piece c.args.member c.args.path.now c.as_slice.result.now (grown_of c.into_vec-roots.result.items) (grown_of c.edit_root.new.roots.items) (OneProxy c.args.position) leads.0 leads.1 c.as_slice.ensures c.into_vec-roots.ensures leads.2 c.in_ok-edit_root.ensures.ok in
    let proxies = c.from_vec-2.ensures ∙ c.in_ok-insert.ensures.items ∙ ap (λ (ps : List Proxy). insert ps c.args.index c.args.proxy) c.into_vec-proxies.ensures in
    proxy_is c.args.piece c.args.member c.args.path.now c.args.position c.args.index c.args.proxy c.from_vec.result c.from_vec-2.result leads.0 leads.1 c.requires.piece leads.2 leads.3 c.requires.within body proxies
