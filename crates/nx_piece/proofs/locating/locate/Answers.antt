use Rattle.std.proofs.Common.{◌<◌, length, Some, get_or, sym, refl, ap, ◌∙◌}
use Rattle.std.specs.List.{slice_get}
use Rattle.std.proofs.lemmas.Option.{slice_get-get_or}
use Rattle.nx_piece.specs.declared.piece.Proxy.{Proxy}
use Rattle.nx_piece.specs.Gapped.{GappedTree}
use Rattle.nx_piece.specs.Items.{gapped_of}
use Rattle.nx_piece.specs.Found.{found_child}
use Rattle.nx_piece.proofs.WalkLemmas.{next_at}
use Rattle.nx_piece.proofs.LocateLemmas.{kept_child, way_begins, way_goes_on, leads_out, same_children}
use Rattle.nx_piece.proofs.locating.locate.Goals as goal

pub loop-used-init : goal.loop-used-init
loop-used-init c =
    way_begins c.args.piece.now c.args.member c.args.path.now c.in-Some.tree.now c.in-Some.first c.requires
    (same_children 0 c.args.member refl c.as_slice.ensures ((rw c.in-Some.is at c.root_at.ensures) c.args.piece.now.proxies))

pub bounds-proxies-index : goal.bounds-proxies-index
bounds-proxies-index c =
    kept_child c.as_slice-proxies.result.now c.loop-used.first (gapped_of c.as_slice-in-loop-used.result.now) (get_or c.args.path.now c.loop-used.used 0) c.in-Some-Root.index c.in-Some-Root.member
    ((rw c.in-Some-Root.is at c.child_at.ensures.found) ∙ ap (λ x. Some (found_child x)) c.in-Some-Root.field-0-is)

pub returns-in-Some-Root : goal.returns-in-Some-Root
returns-in-Some-Root c =
    let found = (rw c.in-Some-Root.is at c.child_at.ensures.found) ∙ ap (λ x. Some (found_child x)) c.in-Some-Root.field-0-is in
    let other : Proxy = record { page = 0; slot = 0; roots = 0 } in
    let within : c.in-Some-Root.index < length c.as_slice-proxies.result.now = kept_child c.as_slice-proxies.result.now c.loop-used.first (gapped_of c.as_slice-in-loop-used.result.now) (get_or c.args.path.now c.loop-used.used 0) c.in-Some-Root.index c.in-Some-Root.member found in (
      leads_out _ c.in-Some-Root.index c.in-Some-Root.member c.loop-used.invariant (next_at c.args.path.now c.loop-used.used 0 c.loop-used-test.true)
          (same_children c.loop-used.first (get_or c.args.path.now c.loop-used.used 0) c.as_slice-proxies.ensures (c.as_slice-in-loop-used.ensures ∙ ap (λ (x : GappedTree). x.below) c.tree.view_is) found),
      ap (λ ps. slice_get ps c.in-Some-Root.index) (sym c.as_slice-proxies.ensures) ∙ slice_get-get_or c.as_slice-proxies.result.now c.in-Some-Root.index other within,
    )

pub loop-used-preserved : goal.loop-used-preserved
loop-used-preserved c =
    let found = (rw c.in-Some-Tree.is at c.child_at.ensures.found) ∙ ap (λ x. Some (found_child x)) c.in-Some-Tree.field-0-is in
    way_goes_on _ c.in-Some-Tree.child.now c.in-Some-Tree.before c.loop-used.invariant (next_at c.args.path.now c.loop-used.used 0 c.loop-used-test.true)
    (same_children c.loop-used.first (get_or c.args.path.now c.loop-used.used 0) c.as_slice-proxies.ensures (c.as_slice-in-loop-used.ensures ∙ ap (λ (x : GappedTree). x.below) c.tree.view_is) found)
