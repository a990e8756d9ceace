use Rattle.std.proofs.Common.{arith, ◌≡◌, List, drop, sym, ap, ap₂, ◌∙◌, subst}
use Rattle.nx_piece.specs.PieceNode.{PieceNode}
use Rattle.nx_piece.specs.declared.piece.Item.{Item}
use Rattle.nx_piece.specs.Gapped.{Gapped, GappedTree, with_gap}
use Rattle.nx_piece.specs.Items.{gapped_of}
use Rattle.nx_piece_edits.specs.Planting.{put_at}
use Rattle.nx_piece_edits.specs.Editing.{IsSpot}
use Rattle.nx_piece_edits.proofs.TakeLemmas.{same_items}
use Rattle.nx_piece_edits.proofs.SetLemmas.{pair}
use Rattle.nx_piece_edits.proofs.SpotLemmas.{proxy_there}
use Rattle.nx_piece_edits.proofs.planting.put_proxy.Goals as goal

pub insert_run-requires-clause-within : goal.insert_run-requires-clause-within
insert_run-requires-clause-within c =
    let items : List Item = c.into_vec-items.result.items in
    let whole : gapped_of items ≡ c.args.tree.now.below = c.into_vec-items.ensures ∙ c.replace.ensures.value ∙ ap (λ (x : GappedTree). x.below) c.tree.view_is in
    let same : c.as_slice.result.now ≡ items = same_items c.as_slice.result.now items (c.as_slice.ensures ∙ ap (λ (x : GappedTree). x.below) c.tree.view_is ∙ sym whole) in
    let spot : IsSpot items (drop c.args.first c.args.proxies.now) c.args.position c.spot_at-index.result.0 c.spot_at-index.result.1 =
    subst (λ xs. IsSpot xs (drop c.args.first c.args.proxies.now) c.args.position c.spot_at-index.result.0 c.spot_at-index.result.1) same c.spot_at-index.ensures in
    let within = spot.within in
    omega (arith, within)

pub returns : goal.returns
returns c =
    let items : List Item = c.into_vec-items.result.items in
    let whole : gapped_of items ≡ c.args.tree.now.below = c.into_vec-items.ensures ∙ c.replace.ensures.value ∙ ap (λ (x : GappedTree). x.below) c.tree.view_is in
    let same : c.as_slice.result.now ≡ items = same_items c.as_slice.result.now items (c.as_slice.ensures ∙ ap (λ (x : GappedTree). x.below) c.tree.view_is ∙ sym whole) in
    let spot : IsSpot items (drop c.args.first c.args.proxies.now) c.args.position c.spot_at-index.result.0 c.spot_at-index.result.1 =
    subst (λ xs. IsSpot xs (drop c.args.first c.args.proxies.now) c.args.position c.spot_at-index.result.0 c.spot_at-index.result.1) same c.spot_at-index.ensures in
    let proxies = drop c.args.first c.args.proxies.now in
    let below = c.from_vec.ensures ∙ proxy_there c.spot_at-index.result.1 c.insert_run.new.items.items spot c.in_ok-insert_run.ensures ∙ ap (λ (f : Gapped). put_at (λ g. with_gap 1 g) c.args.position f proxies) whole in
    let node = ap (λ (x : GappedTree). x.node) c.tree.view_is in
    ap₂ (λ (n : PieceNode) (b : Gapped). pair n b) node below
