use Rattle.std.proofs.Common.{◌≡◌, ap, ◌∙◌}
use Rattle.nx_piece.specs.Items.{with_last_tree}
use Rattle.nx_split_driver.proofs.PairLemmas.{pair, pair_is_light}
use Rattle.nx_split_driver.proofs.pieces.pair.Goals as goal

pub returns-clause-nodes : goal.returns-clause-nodes
returns-clause-nodes c =
    let is : c.push-2.new.self ≡ pair c.args.first c.args.second =
    c.in_ok-push-2.ensures.ok ∙ ap (λ f. with_last_tree f c.args.second) (c.in_ok-push.ensures.ok ∙ ap (λ f. with_last_tree f c.args.first) c.new-roots.ensures) in
    pair_is_light c.args.first c.args.second c.push-2.new.self c.requires.first c.requires.second is
