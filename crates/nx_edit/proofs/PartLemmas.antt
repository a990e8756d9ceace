-- An interval among the children of a tree of the record, in two: the pieces of what the record has then.
use Rattle.std.proofs.Common.{◌≡◌, ℕ, zero, suc, ◌+◌, ◌<◌, ◌≤◌, List, [], ◌∷◌, ◌++◌, length, take, drop, Some, refl, sym, ap, ap₂, ◌∙◌, subst, arith, append-nil}
use Rattle.std.specs.List.{slice_get}
use Rattle.nx_piece.specs.declared.piece.Piece.{Piece}
use Rattle.nx_piece.specs.declared.piece.Proxy.{Proxy}
use Rattle.nx_piece_edits.specs.Cutting.{IsWithRow, with_items_at, with_row}
use Rattle.nx_piece_edits.proofs.WiderLemmas.{row_is_items}
use Rattle.nx_piece.specs.Gapped.{Gapped, GappedTree, End, Grow, Gap}
use Rattle.nx_piece.specs.Locate.{Kept as Away, Inside, children_of, reached_in}
use Rattle.nx_piece_edits.specs.Planting.{put_at, LeadsBetween, IsWithNode}
use Rattle.nx_piece_edits.specs.Setting.{with_tree}
use Rattle.nx_piece.specs.Valid.{IsPiece}
use Rattle.nx_cuts.specs.Cut.{Bare, Grown, Kept, width}
use Rattle.nx_layouts.specs.Layout.{RecordPlace, LaidNode, Layout, AreLaidParts, in_record, laid_near, piece_body, piece_of, proxies_of, proxy_of}
use Rattle.nx_layouts.specs.Replace.{replaced_at}
use Rattle.nx_layouts.specs.Cutting.{StaysIn, LeadsInto}
use Rattle.nx_layouts.specs.Planting.{FallsBetween, with_node, changed_below}
use Rattle.nx_layouts.proofs.ChangeLemmas.{row_below, below_at}
use Rattle.nx_layouts.proofs.ChildLemmas.{children_are_changed}
use Rattle.nx_layouts.proofs.PathLemmas.{StandBehind, path_stays}
use Rattle.nx_layouts.proofs.PlantLemmas.{node_is_planted}
use Rattle.nx_layouts.proofs.ReplaceLemmas.{replaces}
use Rattle.nx_layouts.proofs.RunLemmas.{runs_after}
use Rattle.nx_layouts.proofs.ValidLemmas.{body_apart}
use Rattle.nx_hold.specs.Changes.{place_named}
use Rattle.nx_drafts.proofs.SomeLemmas.{piece_has_members}
use Rattle.nx_edit.specs.Planting.{IsWithin}
use Rattle.nx_edit.proofs.PassedLemmas.{piece_same}
use Rattle.nx_edit.proofs.RowCalls.{get_within}
use Rattle.nx_edit.proofs.SpotLemmas.{is_inside, tree_there, falls_within, falls_apart, stays_changed, below_changed, changed_twice, changed_same, IsSpot, spot, in_two, falls_there, node_there}

-- a row of proxies in the place of one
pub row_piece : (index : ℕ) (members new : Layout) (row : List Proxy) (changed : Piece) → index < length (proxies_of members) → proxies_of new ≡ row → piece_body new ≡ Gap (length (proxies_of new)) End → 1 ≤ length (proxies_of new)
    → IsWithRow (piece_of members) index row changed → piece_of (replaced_at index new members) ≡ changed
row_piece index members new row changed less is gap some w =
    piece_same (piece_of (replaced_at index new members)) changed
    ((runs_after index members less).many new
    ∙ ap (λ (items : Gapped). with_items_at index items (piece_body members)) gap
    ∙ sym (row_is_items index (length (proxies_of new)) (piece_body members) (body_apart members) some)
    ∙ ap (λ (ps : List Proxy). with_row index (length ps) (piece_body members)) is
    ∙ sym w.body)
    ((replaces index members new less).proxies_are ∙ ap (λ (ps : List Proxy). take index (proxies_of members) ++ ps ++ drop (index + 1) (proxies_of members)) is ∙ sym w.proxies)

pub two_gap : (front back : RecordPlace) (ahead after : Layout) → piece_body (in_two front back ahead after) ≡ Gap (length (proxies_of (in_two front back ahead after))) End
two_gap front back ahead after = refl

module _ (members : Layout) (member : ℕ) (path : List ℕ) (position index before : ℕ) (front back : RecordPlace) (node : LaidNode) (ahead after : Layout) (tree : GappedTree) (start : ℕ) (leads : reached_in (piece_of members) member path ≡ Inside tree start)
    (inside : Layout) (into : LeadsInto index before [] inside member (path ++ position ∷ []) members) (some : 1 ≤ before) (wide : width ahead ≡ before) where
  stays : StaysIn member path members
  stays = (path_stays members member path tree start leads).stays

  s : IsSpot member path position before index inside members
  s = spot member path position before index inside members stays into

  abbrev two : Layout
  two = in_two front back ahead after

  abbrev between : Layout
  between = Kept front ahead (Grown node Bare (Kept back after Bare))

  abbrev two_row : Layout
  two_row = replaced_at index two members

  abbrev grown_row : Layout
  grown_row = replaced_at index between members

  two_is : two_row ≡ changed_below (λ b. replaced_at s.nth two b) member path members
  two_is = s.same two

  two_stays : StaysIn member path two_row
  two_stays = subst (StaysIn member path) (sym two_is) (stays_changed (λ b. replaced_at s.nth two b) member path members stays)

  below_two : below_at member path two_row ≡ replaced_at s.nth two (below_at member path members)
  below_two = ap (below_at member path) two_is ∙ below_changed (λ b. replaced_at s.nth two b) member path members stays

  falls_two : FallsBetween position (below_at member path two_row)
  falls_two = subst (FallsBetween position) (sym below_two) (falls_there front back node before inside ahead after some wide s.nth position (below_at member path members) s.within)

  -- the position stands between the two
  pub between_two : (piece : Piece) → piece_of two_row ≡ piece → LeadsBetween piece member path position
  between_two piece is =
      let t = tree_there two_row member path two_stays in
      let has = children_are_changed 0 two_row member path t.0 t.1 t.2 in
      let falls : FallsBetween position has.below = subst (FallsBetween position) (ap row_below has.at) falls_two in
      let stand : StandBehind (proxies_of two_row) t.1 has.below = record { front = has.front; back = has.back; is = has.proxies_were; long = has.first_is } in
      let long = (has.falls position).long in
      let few = falls_within position has.below falls in
      subst (λ (p : Piece). LeadsBetween p member path position) is (
        t.0,
        t.1,
        t.2,
        record {
          within = omega (arith, long, few);
          apart = λ at root e. falls_apart (proxies_of two_row) t.1 position has.below at root stand falls (ap (λ (g : Gapped). slice_get (children_of (proxies_of two_row) t.1 g) position) has.below_is ∙ e);
        },
      )

  same_row : changed_below (λ r. with_node node position r) member path two_row ≡ grown_row
  same_row =
      ap (λ (r : Layout). changed_below (λ b. with_node node position b) member path r) two_is
      ∙ changed_twice (λ b. replaced_at s.nth two b) (λ r. with_node node position r) member path members
      ∙ changed_same (λ b. with_node node position (replaced_at s.nth two b)) (λ b. replaced_at s.nth between b) member path members stays (node_there front back node before inside ahead after some wide s.nth position (below_at member path members) s.within)
      ∙ sym (s.same between)

  -- with the node there, the piece is that of the row with the node between the two
  pub between_is : (k : ℕ) (placed : Piece) → AreLaidParts k two_row → IsWithNode (piece_of two_row) member path position (in_record node) placed → piece_of grown_row ≡ placed
  between_is k placed parts p =
      let has = children_are_changed k two_row member path p.tree p.first p.leads in
      let falls : FallsBetween position has.below = subst (FallsBetween position) (ap row_below has.at) falls_two in
      let goes = node_is_planted k node position has.below falls in
      let c = has.changed (λ r. with_node node position r) in
      let grow : Gapped → Gapped = λ g. with_tree member path (record { node = (p.tree).node; below = g }) (piece_body two_row) (proxies_of two_row) in
      piece_same (piece_of grown_row) placed
      (ap piece_body (sym same_row) ∙ c.body []
      ∙ ap (λ (ps : List Proxy). with_tree member path (record { node = (p.tree).node; below = piece_body (with_node node position has.below) }) (piece_body two_row) ps) (append-nil (proxies_of two_row))
      ∙ ap (λ (g : Gapped). with_tree member path (record { node = (p.tree).node; below = g }) (piece_body two_row) (proxies_of two_row))
      (goes.body (has.light_below parts) has.back ∙ ap₂ (λ (g : Gapped) (ps : List Proxy). put_at (λ f. Grow (in_record node) End f) position g ps) has.below_is (sym has.rest))
      ∙ sym p.body)
      (ap proxies_of (sym same_row) ∙ c.proxies ∙ ap (λ (ps : List Proxy). has.front ++ (ps ++ has.back)) goes.proxies ∙ sym has.proxies_were ∙ sym p.proxies)

-- some trees, so many
some_trees : LaidNode → ℕ → Layout
some_trees node zero = Bare
some_trees node (suc n) = Grown node Bare (some_trees node n)

trees_wide : (node : LaidNode) (n : ℕ) → width (some_trees node n) ≡ n
unfolding some_trees
trees_wide node zero = refl
trees_wide node (suc n) = let e = trees_wide node n in omega (arith, e)

-- two proxies in the place of one, the first with as many roots as stand before the position
pub stands_between : (piece two : Piece) (member : ℕ) (path : List ℕ) (position index before : ℕ) (proxy front back : Proxy) → IsPiece piece → IsWithin piece member path position proxy index before → front.roots ≡ before
    → IsWithRow piece index (front ∷ back ∷ []) two → LeadsBetween two member path position
stands_between piece two member path position index before proxy front back valid w roots r =
    let node : LaidNode = laid_near ((w.tree).node).node in
    let m = piece_has_members piece valid in
    let members : Layout = m.members in
    let leads : reached_in (piece_of members) member path ≡ Inside w.tree w.first = ap (λ (p : Piece). reached_in p member path) m.is ∙ w.leads in
    let there : slice_get (children_of (proxies_of members) w.first (w.tree).below) position ≡ Some (Away index before) =
    ap (λ (p : Piece). slice_get (children_of p.proxies w.first (w.tree).below) position) m.is ∙ w.there in
    let i = is_inside members member path position index before w.tree w.first leads there in
    let ahead : Layout = some_trees node front.roots in
    let after : Layout = some_trees node back.roots in
    let wide : width ahead ≡ front.roots = trees_wide node front.roots in
    let long : width after ≡ back.roots = trees_wide node back.roots in
    let new : Layout = in_two (place_named front) (place_named back) ahead after in
    let less : index < length (proxies_of members) = subst (λ (p : Piece). index < length p.proxies) (sym m.is) (get_within piece.proxies index proxy w.named) in
    let is : proxies_of new ≡ front ∷ back ∷ [] = ap₂ (λ (x y : ℕ). proxy_of (place_named front) x ∷ proxy_of (place_named back) y ∷ []) wide long in
    between_two members member path position index before (place_named front) (place_named back) node ahead after w.tree w.first leads i.inside i.into w.some (wide ∙ roots) two
    (row_piece index members new (front ∷ back ∷ []) two less is (two_gap (place_named front) (place_named back) ahead after) (omega arith) (subst (λ (p : Piece). IsWithRow p index (front ∷ back ∷ []) two) (sym m.is) r))
