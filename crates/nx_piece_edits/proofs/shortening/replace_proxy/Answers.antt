use Rattle.std.proofs.Common.{◌≡◌, List, set, ap, ◌∙◌}
use Rattle.nx_piece.specs.declared.piece.Proxy.{Proxy}
use Rattle.nx_piece_edits.proofs.LeftLemmas.{replaced_is}
use Rattle.nx_piece_edits.proofs.shortening.replace_proxy.Goals as goal

pub returns : goal.returns
returns c =
    let now : c.from_vec.result ≡ set c.args.piece.proxies c.args.index c.args.proxy = c.from_vec.ensures ∙ ap (λ (ps : List Proxy). set ps c.args.index c.args.proxy) c.into_vec-proxies.ensures in
    replaced_is c.args.piece c.args.index c.args.proxy c.from_vec.result c.requires now
