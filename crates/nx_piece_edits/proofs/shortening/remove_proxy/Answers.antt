use Rattle.std.proofs.Common.{arith, ◌≡◌, ◌+◌, ◌++◌, ◌≤◌, List, take, drop, sym, ap, ◌∙◌, subst}
use Rattle.nx_piece.specs.declared.piece.Proxy.{Proxy}
use Rattle.nx_piece.specs.Gapped.{Gapped, GappedTree, proxies_in, grown_of}
use Rattle.nx_piece_edits.specs.Cutting.{without_proxy}
use Rattle.nx_piece_edits.specs.Shortening.{IsRootOf}
use Rattle.nx_piece_edits.proofs.TakeLemmas.{there_is}
use Rattle.nx_piece_edits.proofs.LeftLemmas.{proxy_gone}
use Rattle.nx_piece_edits.proofs.ShortLemmas.{root_few, root_shorter}
use Rattle.nx_piece_edits.proofs.shortening.remove_proxy.Goals as goal

pub shorten_below-requires-clause-few : goal.shorten_below-requires-clause-few
shorten_below-requires-clause-few c =
    let roots : List GappedTree = c.into_vec-roots.result.items in
    let h : IsRootOf roots c.args.index c.root_of-place.result = subst (λ xs. IsRootOf xs c.args.index c.root_of-place.result) c.as_slice.ensures.value c.root_of-place.ensures in
    let is : c.index_mut.result.now ≡ h.root = c.index_mut.ensures.value ∙ there_is roots c.root_of-place.result.0 h.root c.index_mut.result.now h.there in
    let all : grown_of roots ≡ c.args.piece.body.roots = c.into_vec-roots.ensures in
    let counted = c.requires.piece.body.counted in
    let most = c.requires.piece.body.few_proxies in
    let count = ap proxies_in all in
    let few : proxies_in (grown_of roots) ≤ 524288 = omega arith in
    subst (λ (t : GappedTree). proxies_in t.below ≤ 524288) (sym is) (root_few roots c.root_of-place.result.0 h.root h.there few)

pub returns : goal.returns
returns c =
    let roots : List GappedTree = c.into_vec-roots.result.items in
    let h : IsRootOf roots c.args.index c.root_of-place.result = subst (λ xs. IsRootOf xs c.args.index c.root_of-place.result) c.as_slice.ensures.value c.root_of-place.ensures in
    let is : c.index_mut.result.now ≡ h.root = c.index_mut.ensures.value ∙ there_is roots c.root_of-place.result.0 h.root c.index_mut.result.now h.there in
    let new : GappedTree = c.shorten_below.new.tree in
    let node = c.shorten_below.ensures.node ∙ ap (λ (t : GappedTree). t.node) is in
    let below = c.shorten_below.ensures.below ∙ ap (λ (t : GappedTree). without_proxy c.root_of-place.result.1 t.below) is in
    let body : c.from_vec.result ≡ without_proxy c.args.index c.args.piece.body.roots = c.from_vec.ensures ∙ root_shorter new h node below ∙ ap (λ (f : Gapped). without_proxy c.args.index f) c.into_vec-roots.ensures in
    let proxies : c.from_vec-2.result ≡ take c.args.index c.args.piece.proxies ++ drop (c.args.index + 1) c.args.piece.proxies =
    c.from_vec-2.ensures ∙ c.remove.ensures.by_index.2 ∙ ap (λ (ps : List Proxy). take c.args.index ps ++ drop (c.args.index + 1) ps) c.into_vec-proxies.ensures in
    proxy_gone c.args.piece c.args.index c.from_vec.result c.from_vec-2.result c.requires.within body proxies
