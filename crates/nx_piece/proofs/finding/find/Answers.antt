use Rattle.std.proofs.Common.{◌≡◌, ◌<◌, length, Some, get_or, sym, refl, ap, ◌∙◌, subst}
use Rattle.std.specs.List.{slice_get}
use Rattle.std.proofs.lemmas.Option.{slice_get-get_or}
use Rattle.nx_piece.specs.declared.piece.Proxy.{Proxy}
use Rattle.nx_piece.specs.declared.piece.Piece.{Piece}
use Rattle.nx_piece.specs.Viewing.{seen_items, seen_tree}
use Rattle.nx_piece.specs.Valid.{AreTrees}
use Rattle.nx_piece.specs.FoundView.{seen_child}
use Rattle.nx_piece.proofs.WalkLemmas.{next_at}
use Rattle.nx_piece.proofs.LocateLemmas.{kept_child, trees_own, way_begins, way_goes_on, leads_out, same_children}
use Rattle.nx_piece.proofs.finding.find.Goals as goal

pub returns-in-Some-Root : goal.returns-in-Some-Root
returns-in-Some-Root c =
    let roots : seen_items c.roots.result ≡ c.args.piece.now.body.roots = c.roots.ensures ∙ ap (λ (p : Piece). p.body.roots) c.piece.view_is in
    absurd (trees_own c.as_slice-proxies.result.now 0 (seen_items c.roots.result) c.from.result c.in-Some-Root.field-0-0 c.in-Some-Root.field-0-1 (subst AreTrees (sym roots) c.requires.body.trees)
    ((rw c.in-Some-Root.is at c.find_child.ensures) ∙ ap (λ x. Some (seen_child x)) c.in-Some-Root.field-0-is))

pub loop-used-init : goal.loop-used-init
loop-used-init c =
    let proxies : c.as_slice-proxies.result.now ≡ c.args.piece.now.proxies = c.as_slice-proxies.ensures ∙ ap (λ (p : Piece). p.proxies) c.piece.view_is in
    let roots : seen_items c.roots.result ≡ c.args.piece.now.body.roots = c.roots.ensures ∙ ap (λ (p : Piece). p.body.roots) c.piece.view_is in
    way_begins c.args.piece.now c.args.member c.args.path.now (seen_tree c.in-Some-Tree.tree) c.in-Some-Tree.first c.requires
    (same_children 0 c.args.member proxies roots ((rw (c.from.ensures, c.in-Some-Tree.is) at c.find_child.ensures) ∙ ap (λ x. Some (seen_child x)) c.in-Some-Tree.field-0-is))

pub bounds-proxies-index : goal.bounds-proxies-index
bounds-proxies-index c =
    kept_child c.as_slice-proxies.result.now c.loop-used.first (seen_items c.loop-used.tree.children) (get_or c.args.path.now c.loop-used.used 0) c.in-Some-Root-find_child.index c.in-Some-Root-find_child.member
    ((rw c.in-Some-Root-find_child.is at c.find_child-in-loop-used.ensures) ∙ ap (λ x. Some (seen_child x)) c.in-Some-Root-find_child.field-0-is)

pub returns-in-Some-Root-find_child : goal.returns-in-Some-Root-find_child
returns-in-Some-Root-find_child c =
    let proxies : c.as_slice-proxies.result.now ≡ c.args.piece.now.proxies = c.as_slice-proxies.ensures ∙ ap (λ (p : Piece). p.proxies) c.piece.view_is in
    let found = (rw c.in-Some-Root-find_child.is at c.find_child-in-loop-used.ensures) ∙ ap (λ x. Some (seen_child x)) c.in-Some-Root-find_child.field-0-is in
    let other : Proxy = record { page = 0; slot = 0; roots = 0 } in
    let within : c.in-Some-Root-find_child.index < length c.as_slice-proxies.result.now = kept_child c.as_slice-proxies.result.now c.loop-used.first (seen_items c.loop-used.tree.children) (get_or c.args.path.now c.loop-used.used 0) c.in-Some-Root-find_child.index c.in-Some-Root-find_child.member found in (
      leads_out _ c.in-Some-Root-find_child.index c.in-Some-Root-find_child.member c.loop-used.invariant (next_at c.args.path.now c.loop-used.used 0 c.loop-used-test.true)
          (same_children {f = seen_items c.loop-used.tree.children} c.loop-used.first (get_or c.args.path.now c.loop-used.used 0) proxies refl found),
      ap (λ ps. slice_get ps c.in-Some-Root-find_child.index) (sym proxies) ∙ slice_get-get_or c.as_slice-proxies.result.now c.in-Some-Root-find_child.index other within,
    )

pub loop-used-preserved : goal.loop-used-preserved
loop-used-preserved c =
    let proxies : c.as_slice-proxies.result.now ≡ c.args.piece.now.proxies = c.as_slice-proxies.ensures ∙ ap (λ (p : Piece). p.proxies) c.piece.view_is in
    let found = (rw c.in-Some-Tree-find_child.is at c.find_child-in-loop-used.ensures) ∙ ap (λ x. Some (seen_child x)) c.in-Some-Tree-find_child.field-0-is in
    way_goes_on _ (seen_tree c.in-Some-Tree-find_child.child) c.in-Some-Tree-find_child.before c.loop-used.invariant (next_at c.args.path.now c.loop-used.used 0 c.loop-used-test.true)
    (same_children {f = seen_items c.loop-used.tree.children} c.loop-used.first (get_or c.args.path.now c.loop-used.used 0) proxies refl found)
