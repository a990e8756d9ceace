use Rattle.std.proofs.Common.{arith, ◌≡◌, ◌+◌, ◌<◌, ◌≤◌, ℕ, None, Some, length, sym, ap, ◌∙◌}
use Rattle.std.specs.List.{slice_get}
use Rattle.std.proofs.lemmas.Option.{slice_get-get_or}
use Rattle.nx_piece.specs.declared.piece.Proxy.{Proxy}
use Rattle.nx_piece.specs.Gapped.{GappedTree, proxies_in}
use Rattle.nx_piece.specs.Items.{gapped_of}
use Rattle.nx_piece.specs.Locate.{Own, Kept, Inside, children_of, reached_in}
use Rattle.nx_piece.specs.Found.{found_child}
use Rattle.nx_piece.proofs.LocateLemmas.{kept_child, same_children}
use Rattle.nx_piece_edits.specs.declared.falling.Fall.TheVariants as fall
use Rattle.nx_piece_edits.proofs.PassedLemmas.{index_at}
use Rattle.nx_piece_edits.proofs.FallLemmas.{at_reached, behind_all, between_proxies, between_trees, fall_between}
use Rattle.nx_piece_edits.proofs.falling.fall_at.Goals as goal

pub returns-in_default-child_at : goal.returns-in_default-child_at
returns-in_default-child_at c tree first e =
    let own : GappedTree = c.in-Here.tree.now in
    let here : reached_in c.args.piece.now c.args.member c.args.path.now ≡ Inside own c.in-Here.first = c.in-Here.ensures.0 in
    let below : gapped_of c.as_slice.result.now ≡ own.below = c.as_slice.ensures ∙ ap (λ (x : GappedTree). x.below) c.tree.view_is in
    let found : slice_get (children_of c.args.piece.now.proxies c.in-Here.first own.below) c.args.position ≡ None = same_children c.in-Here.first c.args.position c.as_slice-proxies.ensures below c.in_default-child_at.ensures.found in
    let end : c.args.position ≡ length (children_of c.args.piece.now.proxies c.in-Here.first own.below) = let all = c.children.ensures in omega (arith, all) in
    let index : ℕ = c.in-Here.first + c.proxies_below.result in
    at_reached c.args.piece.now c.args.member c.args.path.now c.args.position (fall.Between index) here e
    (fall_between c.args.piece.now c.args.member c.args.path.now c.args.position own c.in-Here.first index c.requires.piece here (behind_all _ c.args.position found end)
    (ap (λ (n : ℕ). c.in-Here.first + n) c.proxies_below.ensures ∙ sym (ap (index_at (c.in-Here.first + proxies_in own.below)) found)))

pub returns-then-member-eq0 : goal.returns-then-member-eq0
returns-then-member-eq0 c tree first e =
    let own : GappedTree = c.in-Here.tree.now in
    let here : reached_in c.args.piece.now c.args.member c.args.path.now ≡ Inside own c.in-Here.first = c.in-Here.ensures.0 in
    let below : gapped_of c.as_slice.result.now ≡ own.below = c.as_slice.ensures ∙ ap (λ (x : GappedTree). x.below) c.tree.view_is in
    let found : slice_get (children_of c.args.piece.now.proxies c.in-Here.first own.below) c.args.position ≡ Some (Kept c.in-Root.index c.in-Root.member) =
    same_children c.in-Here.first c.args.position c.as_slice-proxies.ensures below c.in-Some.ensures.found ∙ ap (λ x. Some (found_child x)) c.in-Root.is in
    let none : slice_get (children_of c.args.piece.now.proxies c.in-Here.first own.below) c.args.position ≡ Some (Kept c.in-Root.index 0) = found ∙ ap (λ (n : ℕ). Some (Kept c.in-Root.index n)) c.if-member-eq0.true in
    at_reached c.args.piece.now c.args.member c.args.path.now c.args.position (fall.Between c.in-Root.index) here e
    (fall_between c.args.piece.now c.args.member c.args.path.now c.args.position own c.in-Here.first c.in-Root.index c.requires.piece here (between_proxies _ c.args.position c.in-Root.index none)
    (sym (ap (index_at (c.in-Here.first + proxies_in own.below)) none)))

pub bounds-proxies-index : goal.bounds-proxies-index
bounds-proxies-index c =
    kept_child c.as_slice-proxies.result.now c.in-Here.first (gapped_of c.as_slice.result.now) c.args.position c.in-Root.index c.in-Root.member (c.in-Some.ensures.found ∙ ap (λ x. Some (found_child x)) c.in-Root.is)

pub returns-in-Tree : goal.returns-in-Tree
returns-in-Tree c tree first e =
    let own : GappedTree = c.in-Here.tree.now in
    let here : reached_in c.args.piece.now c.args.member c.args.path.now ≡ Inside own c.in-Here.first = c.in-Here.ensures.0 in
    let below : gapped_of c.as_slice.result.now ≡ own.below = c.as_slice.ensures ∙ ap (λ (x : GappedTree). x.below) c.tree.view_is in
    let found : slice_get (children_of c.args.piece.now.proxies c.in-Here.first own.below) c.args.position ≡ Some (Own c.in-Tree.field-0.now c.in-Tree.index) =
    same_children c.in-Here.first c.args.position c.as_slice-proxies.ensures below c.in-Some.ensures.found ∙ ap (λ x. Some (found_child x)) c.in-Tree.is in
    at_reached c.args.piece.now c.args.member c.args.path.now c.args.position (fall.Between c.in-Tree.index) here e
    (fall_between c.args.piece.now c.args.member c.args.path.now c.args.position own c.in-Here.first c.in-Tree.index c.requires.piece here (between_trees _ c.args.position c.in-Tree.field-0.now c.in-Tree.index found)
    (sym (ap (index_at (c.in-Here.first + proxies_in own.below)) found)))

pub returns-else-member-eq0 : goal.returns-else-member-eq0
returns-else-member-eq0 c tree first e =
    let own : GappedTree = c.in-Here.tree.now in
    let here : reached_in c.args.piece.now c.args.member c.args.path.now ≡ Inside own c.in-Here.first = c.in-Here.ensures.0 in
    let below : gapped_of c.as_slice.result.now ≡ own.below = c.as_slice.ensures ∙ ap (λ (x : GappedTree). x.below) c.tree.view_is in
    let found : slice_get (children_of c.args.piece.now.proxies c.in-Here.first own.below) c.args.position ≡ Some (Kept c.in-Root.index c.in-Root.member) =
    same_children c.in-Here.first c.args.position c.as_slice-proxies.ensures below c.in-Some.ensures.found ∙ ap (λ x. Some (found_child x)) c.in-Root.is in
    let within : c.in-Root.index < length c.as_slice-proxies.result.now =
    kept_child c.as_slice-proxies.result.now c.in-Here.first (gapped_of c.as_slice.result.now) c.args.position c.in-Root.index c.in-Root.member (c.in-Some.ensures.found ∙ ap (λ x. Some (found_child x)) c.in-Root.is) in
    let other : Proxy = record { page = 0; slot = 0; roots = 0 } in
    let some : 1 ≤ c.in-Root.member = omega arith in
    at_reached c.args.piece.now c.args.member c.args.path.now c.args.position (fall.Inside _ c.in-Root.index c.in-Root.member) here e
    (found, some, ap (λ ps. slice_get ps c.in-Root.index) (sym c.as_slice-proxies.ensures) ∙ slice_get-get_or c.as_slice-proxies.result.now c.in-Root.index other within)
