use Rattle.std.proofs.Common.{arith, ◌≡◌, ◌+◌, ◌++◌, ◌≤◌, List, take, drop, sym, ap, ◌∙◌, subst}
use Rattle.nx_piece.specs.declared.piece.Proxy.{Proxy}
use Rattle.nx_piece.specs.Gapped.{Gapped, GappedTree, proxies_in, grown_of}
use Rattle.nx_piece.specs.Valid.{AreApart}
use Rattle.nx_piece_edits.specs.Cutting.{with_items_at}
use Rattle.nx_piece_edits.specs.Shortening.{IsRootOf}
use Rattle.nx_piece_edits.proofs.TakeLemmas.{there_is}
use Rattle.nx_piece_edits.proofs.WiderLemmas.{items_put}
use Rattle.nx_piece_edits.proofs.ShortLemmas.{root_few, root_wider, apart_root}
use Rattle.nx_piece_edits.proofs.widening.replace_by_items.Goals as goal

pub widen_below-requires-clause-few : goal.widen_below-requires-clause-few
widen_below-requires-clause-few c =
    let roots : List GappedTree = c.into_vec-roots.result.items in
    let h : IsRootOf roots c.args.index c.root_of-place.result = subst (λ xs. IsRootOf xs c.args.index c.root_of-place.result) c.as_slice-2.ensures.value c.root_of-place.ensures in
    let is : c.index_mut.result.now ≡ h.root = c.index_mut.ensures.value ∙ there_is roots c.root_of-place.result.0 h.root c.index_mut.result.now h.there in
    let all : grown_of roots ≡ c.args.piece.body.roots = c.into_vec-roots.ensures in
    let counted = c.requires.piece.body.counted in
    let most = c.requires.piece.body.few_proxies in
    let count = ap proxies_in all in
    let few : proxies_in (grown_of roots) ≤ 524288 = omega arith in
    subst (λ (t : GappedTree). proxies_in t.below ≤ 524288) (sym is) (root_few roots c.root_of-place.result.0 h.root h.there few)

pub widen_below-requires-clause-apart : goal.widen_below-requires-clause-apart
widen_below-requires-clause-apart c =
    let roots : List GappedTree = c.into_vec-roots.result.items in
    let h : IsRootOf roots c.args.index c.root_of-place.result = subst (λ xs. IsRootOf xs c.args.index c.root_of-place.result) c.as_slice-2.ensures.value c.root_of-place.ensures in
    let is : c.index_mut.result.now ≡ h.root = c.index_mut.ensures.value ∙ there_is roots c.root_of-place.result.0 h.root c.index_mut.result.now h.there in
    let all : AreApart (grown_of roots) = subst AreApart (sym c.into_vec-roots.ensures) c.requires.piece.body.apart in
    subst (λ (t : GappedTree). AreApart t.below) (sym is) (apart_root roots c.root_of-place.result.0 h.root h.there all)

pub widen_below-requires-clause-fits : goal.widen_below-requires-clause-fits
widen_below-requires-clause-fits c =
    let same = ap proxies_in c.into_vec.ensures in
    let counted = c.requires.counted in
    let few = c.requires.few in
    omega (arith, same, counted, few)

pub widen_below-requires-clause-row : goal.widen_below-requires-clause-row
widen_below-requires-clause-row c = subst AreApart (sym c.into_vec.ensures) c.requires.apart

pub returns : goal.returns
returns c =
    let roots : List GappedTree = c.into_vec-roots.result.items in
    let h : IsRootOf roots c.args.index c.root_of-place.result = subst (λ xs. IsRootOf xs c.args.index c.root_of-place.result) c.as_slice-2.ensures.value c.root_of-place.ensures in
    let is : c.index_mut.result.now ≡ h.root = c.index_mut.ensures.value ∙ there_is roots c.root_of-place.result.0 h.root c.index_mut.result.now h.there in
    let new : GappedTree = c.widen_below.new.tree in
    let row : Gapped = c.args.items in
    let put = c.in_ok-widen_below.ensures in
    let node = put.0 ∙ ap (λ (t : GappedTree). t.node) is in
    let below = put.1 ∙ ap (λ (f : Gapped). with_items_at c.root_of-place.result.1 f c.index_mut.result.now.below) c.into_vec.ensures ∙ ap (λ (t : GappedTree). with_items_at c.root_of-place.result.1 row t.below) is in
    let body : c.from_vec.result ≡ with_items_at c.args.index row c.args.piece.body.roots = c.from_vec.ensures ∙ root_wider row new h node below ∙ ap (λ (f : Gapped). with_items_at c.args.index row f) c.into_vec-roots.ensures in
    let proxies : c.in_ok-all.all ≡ take c.args.index c.args.piece.proxies ++ c.args.proxies.now ++ drop (c.args.index + 1) c.args.piece.proxies =
    c.in_ok-all.ensures ∙ ap (λ (ps : List Proxy). take c.args.index ps ++ c.args.proxies.now ++ drop (c.args.index + 1) ps) c.as_slice.ensures in
    items_put c.args.piece c.args.index row c.args.proxies.now c.from_vec.result c.in_ok-all.all c.requires.piece c.requires.within c.requires.apart c.requires.counted body proxies
