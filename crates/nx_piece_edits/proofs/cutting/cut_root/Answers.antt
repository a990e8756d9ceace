use Rattle.std.proofs.Common.{arith, ◌≡◌, ◌+◌, ◌++◌, ◌<◌, ◌∷◌, ℕ, List, [], Some, length, take, drop, set, get_or, sym, ap, ◌∙◌, subst}
use Rattle.std.specs.List.{slice_get}
use Rattle.nx_piece.specs.Gapped.{GappedTree, proxies_in, grown_of}
use Rattle.nx_piece.specs.Valid.{AreApart}
use Rattle.nx_piece.specs.Locate.{Own, children_of}
use Rattle.nx_piece_edits.specs.Taking.{IsTakenOut}
use Rattle.nx_piece_edits.proofs.TakeLemmas.{there_within, there_is, none_left}
use Rattle.nx_piece_edits.proofs.RootLemmas.{root_stands, root_there, root_taken, root_taken_on}
use Rattle.nx_piece_edits.proofs.cutting.cut_root.Goals as goal

pub remove-requires : goal.remove-requires
remove-requires c =
    let roots : List GappedTree = c.args.roots.now.items in
    let own : GappedTree = c.in_ok-first.field-0-0.now in
    let found : slice_get (children_of c.args.proxies.now 0 (grown_of roots)) c.args.member ≡ Some (Own own c.in_ok-first.first) =
    ap (λ (xs : List GappedTree). slice_get (children_of c.args.proxies.now 0 (grown_of xs)) c.args.member) (sym c.as_slice.ensures.value) ∙ c.in_ok-first.ensures c.args.proxies.now in
    let stands = root_stands roots c.args.proxies.now 0 c.args.member own c.in_ok-first.first found in
    let there : drop c.args.member roots ≡ own ∷ drop (c.args.member + 1) roots = root_there stands in
    let within : c.args.member < length roots = there_within roots c.args.member own there in
    let index = c.from-index.ensures in
    omega arith

pub index_mut-requires : goal.index_mut-requires
index_mut-requires c =
    let roots : List GappedTree = c.args.roots.now.items in
    let own : GappedTree = c.in_ok-first.field-0-0.now in
    let found : slice_get (children_of c.args.proxies.now 0 (grown_of roots)) c.args.member ≡ Some (Own own c.in_ok-first.first) =
    ap (λ (xs : List GappedTree). slice_get (children_of c.args.proxies.now 0 (grown_of xs)) c.args.member) (sym c.as_slice.ensures.value) ∙ c.in_ok-first.ensures c.args.proxies.now in
    let stands = root_stands roots c.args.proxies.now 0 c.args.member own c.in_ok-first.first found in
    let there : drop c.args.member roots ≡ own ∷ drop (c.args.member + 1) roots = root_there stands in
    let within : c.args.member < length roots = there_within roots c.args.member own there in
    let index = c.from-index.ensures in
    omega arith

pub cut_below-requires-clause-fits : goal.cut_below-requires-clause-fits
cut_below-requires-clause-fits c =
    let roots : List GappedTree = c.args.roots.now.items in
    let own : GappedTree = c.in_ok-first.field-0-0.now in
    let found : slice_get (children_of c.args.proxies.now 0 (grown_of roots)) c.args.member ≡ Some (Own own c.in_ok-first.first) =
    ap (λ (xs : List GappedTree). slice_get (children_of c.args.proxies.now 0 (grown_of xs)) c.args.member) (sym c.as_slice.ensures.value) ∙ c.in_ok-first.ensures c.args.proxies.now in
    let stands = root_stands roots c.args.proxies.now 0 c.args.member own c.in_ok-first.first found in
    let there : drop c.args.member roots ≡ own ∷ drop (c.args.member + 1) roots = root_there stands in
    let is : c.index_mut.result.now ≡ own = c.index_mut.ensures.value ∙ ap (λ (i : ℕ). get_or roots i c.index_mut.result.now) c.from-index.ensures ∙ there_is roots c.args.member own c.index_mut.result.now there in
    let most = stands.fits in
    let fits = c.requires.fits in
    let below : proxies_in c.index_mut.result.now.below ≡ proxies_in own.below = ap (λ (t : GappedTree). proxies_in t.below) is in
    omega arith

pub cut_below-requires-clause-apart : goal.cut_below-requires-clause-apart
cut_below-requires-clause-apart c =
    let roots : List GappedTree = c.args.roots.now.items in
    let own : GappedTree = c.in_ok-first.field-0-0.now in
    let found : slice_get (children_of c.args.proxies.now 0 (grown_of roots)) c.args.member ≡ Some (Own own c.in_ok-first.first) =
    ap (λ (xs : List GappedTree). slice_get (children_of c.args.proxies.now 0 (grown_of xs)) c.args.member) (sym c.as_slice.ensures.value) ∙ c.in_ok-first.ensures c.args.proxies.now in
    let stands = root_stands roots c.args.proxies.now 0 c.args.member own c.in_ok-first.first found in
    let there : drop c.args.member roots ≡ own ∷ drop (c.args.member + 1) roots = root_there stands in
    let is : c.index_mut.result.now ≡ own = c.index_mut.ensures.value ∙ ap (λ (i : ℕ). get_or roots i c.index_mut.result.now) c.from-index.ensures ∙ there_is roots c.args.member own c.index_mut.result.now there in
    subst (λ (t : GappedTree). AreApart t.below) (sym is) (stands.apart c.requires.apart)

pub returns-in-None : goal.returns-in-None
returns-in-None c =
    let roots : List GappedTree = c.args.roots.now.items in
    let own : GappedTree = c.in_ok-first.field-0-0.now in
    let found : slice_get (children_of c.args.proxies.now 0 (grown_of roots)) c.args.member ≡ Some (Own own c.in_ok-first.first) =
    ap (λ (xs : List GappedTree). slice_get (children_of c.args.proxies.now 0 (grown_of xs)) c.args.member) (sym c.as_slice.ensures.value) ∙ c.in_ok-first.ensures c.args.proxies.now in
    let stands = root_stands roots c.args.proxies.now 0 c.args.member own c.in_ok-first.first found in
    let there : drop c.args.member roots ≡ own ∷ drop (c.args.member + 1) roots = root_there stands in
    let none : c.args.path.now ≡ [] = none_left c.args.path.now c.in-None.ensures.cases in
    let is : c.remove.result ≡ own = c.remove.ensures.value ∙ ap (λ (i : ℕ). get_or roots i c.remove.result) c.from-index.ensures ∙ there_is roots c.args.member own c.remove.result there in
    let now = ap grown_of (c.remove.ensures.by_index.2 ∙ ap (λ (i : ℕ). take i roots ++ drop (i + 1) roots) c.from-index.ensures) in
    subst (λ p. IsTakenOut c.args.proxies.now 0 c.args.member p (grown_of roots) (Some c.remove.result) (grown_of c.remove.new.self.items)) (sym none)
    (subst (λ u. IsTakenOut c.args.proxies.now 0 c.args.member [] (grown_of roots) (Some u) (grown_of c.remove.new.self.items)) (sym is)
    (subst (λ g. IsTakenOut c.args.proxies.now 0 c.args.member [] (grown_of roots) (Some own) g) (sym now) (root_taken stands found)))

pub returns-in-Some : goal.returns-in-Some
returns-in-Some c =
    let roots : List GappedTree = c.args.roots.now.items in
    let own : GappedTree = c.in_ok-first.field-0-0.now in
    let found : slice_get (children_of c.args.proxies.now 0 (grown_of roots)) c.args.member ≡ Some (Own own c.in_ok-first.first) =
    ap (λ (xs : List GappedTree). slice_get (children_of c.args.proxies.now 0 (grown_of xs)) c.args.member) (sym c.as_slice.ensures.value) ∙ c.in_ok-first.ensures c.args.proxies.now in
    let stands = root_stands roots c.args.proxies.now 0 c.args.member own c.in_ok-first.first found in
    let there : drop c.args.member roots ≡ own ∷ drop (c.args.member + 1) roots = root_there stands in
    let is : c.index_mut.result.now ≡ own = c.index_mut.ensures.value ∙ ap (λ (i : ℕ). get_or roots i c.index_mut.result.now) c.from-index.ensures ∙ there_is roots c.args.member own c.index_mut.result.now there in
    let on : c.args.path.now ≡ c.in-Some.next.now ∷ c.in-Some.rest.now = c.in-Some.ensures.cases.0 in
    let new : GappedTree = c.cut_below.new.tree in
    let node = c.cut_below.ensures.node ∙ ap (λ (t : GappedTree). t.node) is in
    let below = subst (λ (t : GappedTree). IsTakenOut c.args.proxies.now c.in_ok-first.first c.in-Some.next.now c.in-Some.rest.now t.below c.cut_below.result new.below) is c.cut_below.ensures.below in
    let taken = root_taken_on c.in-Some.next.now c.in-Some.rest.now c.cut_below.result new stands found node below in
    subst (λ p. IsTakenOut c.args.proxies.now 0 c.args.member p (grown_of roots) c.cut_below.result (grown_of (set roots c.from-index.result new))) (sym on)
    (subst (λ (i : ℕ). IsTakenOut c.args.proxies.now 0 c.args.member (c.in-Some.next.now ∷ c.in-Some.rest.now) (grown_of roots) c.cut_below.result (grown_of (set roots i new))) (sym c.from-index.ensures) taken)
