use Rattle.std.proofs.Common.{arith, ◌≡◌, ◌<◌, ℕ, List, Some, length, drop, get_or, set, sym, ap, ◌∙◌, subst}
use Rattle.std.specs.List.{slice_get}
use Rattle.std.proofs.lemmas.Result.{on_ok_weaker}
use Rattle.nx_piece.specs.Gapped.{GappedTree, proxies_in, grown_of}
use Rattle.nx_piece.specs.Valid.{AreApart}
use Rattle.nx_piece.specs.Locate.{Own, Inside, reached, children_of}
use Rattle.nx_piece_edits.specs.Setting.{tree_with}
use Rattle.nx_piece_edits.specs.Editing.{node_edited}
use Rattle.nx_piece_edits.proofs.TakeLemmas.{there_within, there_is}
use Rattle.nx_piece_edits.proofs.RootLemmas.{root_stands, root_there}
use Rattle.nx_piece_edits.proofs.SetLemmas.{root_set}
use Rattle.nx_piece_edits.proofs.setting.edit_root.Goals as goal

pub index_mut-requires : goal.index_mut-requires
index_mut-requires c =
    let roots : List GappedTree = c.args.roots.now.items in
    let own : GappedTree = c.in-Some.field-0-0.now in
    let found : slice_get (children_of c.args.proxies.now 0 (grown_of roots)) c.args.member ≡ Some (Own own c.in-Some.first) =
    ap (λ (xs : List GappedTree). slice_get (children_of c.args.proxies.now 0 (grown_of xs)) c.args.member) (sym c.as_slice.ensures.value) ∙ c.in-Some.ensures c.args.proxies.now in
    let stands = root_stands roots c.args.proxies.now 0 c.args.member own c.in-Some.first found in
    let within : c.args.member < length roots = there_within roots c.args.member own (root_there stands) in
    let index = c.from.ensures in
    omega arith

pub edit_below-requires-clause-fits : goal.edit_below-requires-clause-fits
edit_below-requires-clause-fits c =
    let roots : List GappedTree = c.args.roots.now.items in
    let own : GappedTree = c.in-Some.field-0-0.now in
    let found : slice_get (children_of c.args.proxies.now 0 (grown_of roots)) c.args.member ≡ Some (Own own c.in-Some.first) =
    ap (λ (xs : List GappedTree). slice_get (children_of c.args.proxies.now 0 (grown_of xs)) c.args.member) (sym c.as_slice.ensures.value) ∙ c.in-Some.ensures c.args.proxies.now in
    let stands = root_stands roots c.args.proxies.now 0 c.args.member own c.in-Some.first found in
    let is : c.index_mut.result.now ≡ own = c.index_mut.ensures.value ∙ ap (λ (i : ℕ). get_or roots i c.index_mut.result.now) c.from.ensures ∙ there_is roots c.args.member own c.index_mut.result.now (root_there stands) in
    let most = stands.fits in
    let fits = c.requires.fits in
    let below : proxies_in c.index_mut.result.now.below ≡ proxies_in own.below = ap (λ (t : GappedTree). proxies_in t.below) is in
    omega (arith, most, fits, below)

pub edit_below-requires-clause-apart : goal.edit_below-requires-clause-apart
edit_below-requires-clause-apart c =
    let roots : List GappedTree = c.args.roots.now.items in
    let own : GappedTree = c.in-Some.field-0-0.now in
    let found : slice_get (children_of c.args.proxies.now 0 (grown_of roots)) c.args.member ≡ Some (Own own c.in-Some.first) =
    ap (λ (xs : List GappedTree). slice_get (children_of c.args.proxies.now 0 (grown_of xs)) c.args.member) (sym c.as_slice.ensures.value) ∙ c.in-Some.ensures c.args.proxies.now in
    let stands = root_stands roots c.args.proxies.now 0 c.args.member own c.in-Some.first found in
    let is : c.index_mut.result.now ≡ own = c.index_mut.ensures.value ∙ ap (λ (i : ℕ). get_or roots i c.index_mut.result.now) c.from.ensures ∙ there_is roots c.args.member own c.index_mut.result.now (root_there stands) in
    subst (λ (t : GappedTree). AreApart t.below) (sym is) (stands.apart c.requires.apart)

pub edit_below-requires-clause-leads : goal.edit_below-requires-clause-leads
edit_below-requires-clause-leads c =
    let roots : List GappedTree = c.args.roots.now.items in
    let own : GappedTree = c.in-Some.field-0-0.now in
    let found : slice_get (children_of c.args.proxies.now 0 (grown_of roots)) c.args.member ≡ Some (Own own c.in-Some.first) =
    ap (λ (xs : List GappedTree). slice_get (children_of c.args.proxies.now 0 (grown_of xs)) c.args.member) (sym c.as_slice.ensures.value) ∙ c.in-Some.ensures c.args.proxies.now in
    let stands = root_stands roots c.args.proxies.now 0 c.args.member own c.in-Some.first found in
    let is : c.index_mut.result.now ≡ own = c.index_mut.ensures.value ∙ ap (λ (i : ℕ). get_or roots i c.index_mut.result.now) c.from.ensures ∙ there_is roots c.args.member own c.index_mut.result.now (root_there stands) in
    let leads = c.requires.leads in
    let next : reached c.args.proxies.now leads.2 c.args.path.now (Some (Own c.index_mut.result.now c.in-Some.first)) ≡ Inside leads.0 leads.1 =
    ap (λ (u : GappedTree). reached c.args.proxies.now leads.2 c.args.path.now (Some (Own u c.in-Some.first))) is ∙ sym (ap (reached c.args.proxies.now leads.2 c.args.path.now) found) ∙ leads.3 in
    (leads.0, leads.1, leads.2, next, leads.4)

pub returns-clause-ok : goal.returns-clause-ok
returns-clause-ok c =
    on_ok_weaker c.edit_below.result (λ done target before used e.
    let roots : List GappedTree = c.args.roots.now.items in
    let own : GappedTree = c.in-Some.field-0-0.now in
    let found : slice_get (children_of c.args.proxies.now 0 (grown_of roots)) c.args.member ≡ Some (Own own c.in-Some.first) =
    ap (λ (xs : List GappedTree). slice_get (children_of c.args.proxies.now 0 (grown_of xs)) c.args.member) (sym c.as_slice.ensures.value) ∙ c.in-Some.ensures c.args.proxies.now in
    let stands = root_stands roots c.args.proxies.now 0 c.args.member own c.in-Some.first found in
    let is : c.index_mut.result.now ≡ own = c.index_mut.ensures.value ∙ ap (λ (i : ℕ). get_or roots i c.index_mut.result.now) c.from.ensures ∙ there_is roots c.args.member own c.index_mut.result.now (root_there stands) in
    let next : reached c.args.proxies.now used c.args.path.now (Some (Own c.index_mut.result.now c.in-Some.first)) ≡ Inside target before =
    ap (λ (u : GappedTree). reached c.args.proxies.now used c.args.path.now (Some (Own u c.in-Some.first))) is ∙ sym (ap (reached c.args.proxies.now used c.args.path.now) found) ∙ e in
    let new : GappedTree = node_edited c.args.edit target (drop before c.args.proxies.now) in
    let child : c.edit_below.new.tree ≡ tree_with c.args.path.now new own (drop c.in-Some.first c.args.proxies.now) =
    done target before used next ∙ ap (λ (u : GappedTree). tree_with c.args.path.now new u (drop c.in-Some.first c.args.proxies.now)) is in
    ap (λ (i : ℕ). grown_of (set roots i c.edit_below.new.tree)) c.from.ensures ∙ root_set c.args.path.now new c.edit_below.new.tree stands child) c.edit_below.ensures.ok
