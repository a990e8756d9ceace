-- A change below an interval whose record the path leads into: whatever row came in the place of the interval below, the record above has it.
use Rattle.std.proofs.Common.{◌≡◌, ℕ, zero, suc, ◌+◌, ◌-◌, ◌*◌, ◌<◌, ◌≤◌, true, List, [], ◌∷◌, ◌++◌, length, Option, Some, refl, sym, ap, ◌∙◌, subst, arith}
use Rattle.std.specs.Prelude.{IfSome}
use Rattle.nx_tree.specs.declared.node.Node.{Node}
use Rattle.nx_tree.specs.Forest.{OrderedTree, nodes}
use Rattle.nx_tree.specs.Document.{most_nodes}
use Rattle.nx_holdings.specs.Holdings.{Held}
use Rattle.nx_piece.specs.declared.piece.Far.{Far}
use Rattle.nx_piece.specs.declared.piece.Piece.{Piece}
use Rattle.nx_piece.specs.Gapped.{gapped_weight}
use Rattle.nx_piece.specs.Valid.{AreNear}
use Rattle.nx_matrix.specs.declared.rule.Rule.{Rule}
use Rattle.nx_cuts.specs.Cut.{CutForest, Bare, Grown, Kept, width}
use Rattle.nx_cuts.specs.Rows.{changed_row}
use Rattle.nx_layouts.specs.Layout.{RecordPlace, LaidNode, Layout, laid_forest, piece_body, piece_of, proxies_of, without_places}
use Rattle.nx_layouts.specs.Replace.{replaced_at, above_at}
use Rattle.nx_layouts.specs.Cutting.{member_tree, LeadsInto, StandsIn}
use Rattle.nx_hold.specs.Contents.{near_pages}
use Rattle.nx_hold.specs.Pieces.{IsTidy, PieceMap}
use Rattle.nx_divide.specs.declared.dividing.Row.{Row}
use Rattle.nx_edit.specs.Editing.{places_off}
use Rattle.nx_edit.specs.Rows.{row_nodes, IsHeldInterval}
use Rattle.nx_edit.specs.Changing as shape
use Rattle.nx_edit.specs.Passing.{put_needs}
use Rattle.nx_edit.specs.Changing.{Put, changed, kept_around, put_lists, way_of, MayBeMade, changed_interval, IsPossibleIn, AreSplitOf, IsReplacedByRow, change_needs}
use Rattle.nx_edit.specs.RowPut.{IsPutAlone, MayHaveRow, piece_with_row}
use Rattle.nx_edit.proofs.ChangedLemmas.{interval_changed, interval_changed_inside, changed_below}
use Rattle.nx_edit.proofs.FarLemmas.{near-append}
use Rattle.nx_edit.proofs.OwnLemmas.{nodes_alone}
use Rattle.nx_edit.proofs.PassedLemmas.{IsKeptAround, all_around, off_around, into_member, there, place_inside}
use Rattle.nx_edit.proofs.AwayLemmas.{marked, marked_is}
use Rattle.nx_edit.proofs.RefillLemmas.{replaced_as, row_may_stand, row_few, row_put}

-- a way that leads further leads into the same interval
leads_longer : (more : List ℕ) (index member : ℕ) (rest : List ℕ) (inside : Layout) (position : ℕ) (path : List ℕ) (row : Layout) → LeadsInto index member rest inside position path row → LeadsInto index member (rest ++ more) inside position (path ++ more) row
leads_longer more index member rest inside position path Bare h = absurd h
leads_longer more index member rest inside zero [] (Grown n b s) h = absurd h
leads_longer more index member rest inside zero (q ∷ path) (Grown n b s) h = (h.0, leads_longer more index member rest inside q path b h.1)
leads_longer more index member rest inside (suc position) path (Grown n b s) h = (h.0, leads_longer more (index - length (proxies_of b)) member rest inside position path s h.1)
leads_longer more zero member rest inside position path (Kept p m s) h = (h.0, h.1, ap (λ (ps : List ℕ). ps ++ more) h.2, h.3)
leads_longer more (suc index) member rest inside position path (Kept p m s) h = (h.0, leads_longer more index member rest inside (position - width m) path s h.1)

way_leads : (put : Put) (index next : ℕ) (rest : List ℕ) (inside : Layout) (position : ℕ) (path : List ℕ) (members : Layout) → LeadsInto index next rest inside position path members
    → LeadsInto index next (way_of put rest) inside position (way_of put path) members
way_leads (shape.Content content list) index next rest inside position path members into = into
way_leads (shape.Child child node) index next rest inside position path members into = leads_longer (child ∷ []) index next rest inside position path members into

module _ (rules : List Rule) (put : Put) (was : Held) (pieces : PieceMap was) (known : Option Piece) (place : RecordPlace) (position : ℕ) (path : List ℕ) (members : Layout) (i : IsHeldInterval was pieces known place position path most_nodes members)
    (index next : ℕ) (rest : List ℕ) (inside : Layout) (into : LeadsInto index next rest inside position path members) where
  abbrev k : ℕ
  k = (was.settings).k

  stands : StandsIn k index inside members
  stands = there was pieces known place position path most_nodes members i index next rest inside into

  -- the members below with the change, and the row with them
  abbrev below : Layout
  below = marked (changed_row next (changed rules put rest) (without_places inside))

  abbrev middle : Layout
  middle = replaced_at index (Kept place below Bare) members

  below_is : Kept tt (without_places below) Bare ≡ changed_interval rules put next rest inside
  below_is = ap (λ (c : CutForest). Kept tt c Bare) (marked_is (changed_row next (changed rules put rest) (without_places inside))) ∙ interval_changed (changed rules put rest) next inside Bare (into_member index next rest inside position path members into)

  whole_is : Kept tt (without_places middle) Bare ≡ changed_interval rules put position path members
  whole_is =
      interval_changed_inside (changed rules put) (changed_below rules put) index next rest inside below place position path place members into (marked_is (changed_row next (changed rules put rest) (without_places inside)))

  -- how many nodes they have
  fewer_below : row_nodes (changed_interval rules put next rest inside) ≤ row_nodes (changed_interval rules put position path members)
  fewer_below =
      let b : row_nodes (changed_interval rules put next rest inside) ≡ nodes (laid_forest (Kept place below Bare)) = ap row_nodes (sym below_is) in
      let w : row_nodes (changed_interval rules put position path members) ≡ nodes (laid_forest middle) = ap row_nodes (sym whole_is) ∙ nodes_alone place middle in
      let c = stands.counted (Kept place below Bare) in
      let h = stands.counted Bare in
      omega (arith, b, w, c, h)

  -- the nodes that are kept below are among those kept here
  kept_by : (p : Put) → IsKeptAround was pieces known place position path most_nodes members i index next rest inside into (kept_around p next rest inside) (kept_around p position path members)
  kept_by (shape.Content content list) = off_around was pieces known place position path most_nodes members i index next rest inside into true path rest into
  kept_by (shape.Child child node) = all_around was pieces known place position path most_nodes members i index next rest inside into

  around_it : IsKeptAround was pieces known place position path most_nodes members i index next rest inside into (kept_around put next rest inside) (kept_around put position path members)
  around_it = kept_by put

  -- what is needed below is no more than what is needed here
  pub change_below : change_needs rules put next rest inside ≤ change_needs rules put position path members
  change_below =
      let f = fewer_below in
      let h = stands.counted Bare in
      let off = ap (λ (ns : List LaidNode). near_pages ns) around_it.off in
      let front = near-append around_it.before_it (kept_around put next rest inside ++ around_it.behind_it) in
      let middle = near-append (kept_around put next rest inside) around_it.behind_it in
      omega (arith, f, h, off, front, middle)

  pub possible_below : member_tree (laid_forest members) position path ≡ member_tree (laid_forest inside) next rest → IsPossibleIn k rules put position path members → IsPossibleIn k rules put next rest inside
  possible_below same possible = record {
    made = subst (λ (t : Option OrderedTree). IfSome t (λ there. MayBeMade k put there)) same possible.made;
    few = let f = fewer_below in let all : row_nodes (changed_interval rules put position path members) ≤ most_nodes = possible.few in omega (arith, f, all);
  }

  -- the interval below was replaced
  module _ (possible : IsPossibleIn k rules put position path members) {mid : Held} (tidy : IsTidy was) (node : Node) (room : ℕ) (room_is : room ≡ k - gapped_weight (piece_body members)) {gone : List Far} (row : Row)
      (r : IsReplacedByRow k (AreSplitOf was.settings rules room (Some node) (changed_interval rules put next rest inside)) (place_inside was pieces known place position path most_nodes members i index next rest inside into) inside (kept_around put next rest inside) (put_lists put) (places_off true (next ∷ way_of put rest) inside) row gone was mid) where
    -- ... as it would have other members
    abbrev is_split : IsReplacedByRow k (AreSplitOf was.settings rules room (Some node) (Kept tt (without_places below) Bare)) (place_inside was pieces known place position path most_nodes members i index next rest inside into) inside (kept_around put next rest inside) (put_lists put) (places_off true (next ∷ way_of put rest) inside) row gone was mid
    is_split = (replaced_as refl (λ c h. subst (λ (old : CutForest). AreSplitOf was.settings rules room (Some node) old c) (sym below_is) h) r.0, r.1)

    pub may_have : (piece : Piece) → piece ≡ piece_of members → MayHaveRow k piece row
    may_have piece is =
        row_may_stand rules was pieces known place position path members i index next rest inside into below (changed_interval rules put position path members) whole_is possible.few node room room_is row is_split piece is

    module _ (near : AreNear row.items) (left : was.free + length row.proxies ≤ mid.free + (row_nodes (without_places inside) + 2 * row_nodes (without_places (r.0).row) + near_pages (kept_around put next rest inside))) where
      pub change_few : (piece : Piece) → piece ≡ piece_of members → mid.free < put_needs (piece_with_row index row piece) → was.free < change_needs rules put position path members
      change_few piece is few =
          row_few rules was pieces known place position path members i index next rest inside into below (changed_interval rules put position path members) whole_is possible.few (way_of put path) (way_of put rest)
          (way_leads put index next rest inside position path members into) tidy node room room_is row near is_split left around_it piece is few

      pub away_changed : (outer : ℕ) (above : Option Node) (above_is : above_at index above members ≡ Some node) {now : Held} (tidier : IsTidy mid) (piece : Piece) → piece ≡ piece_of members → (own : Row) → IsPutAlone place (piece_with_row index row piece) own mid now
          → (s : IsReplacedByRow k (AreSplitOf was.settings rules outer above (changed_interval rules put position path members)) place members (kept_around put position path members) (put_lists put) (places_off true (position ∷ way_of put path) members) own gone was now)
          × (was.free + length own.proxies ≤ now.free + (row_nodes (without_places members) + 2 * row_nodes (without_places (s.0).row) + near_pages (kept_around put position path members)))
      away_changed outer above above_is tidier piece is own puts =
          row_put rules was pieces known place position path members i index next rest inside into below (changed_interval rules put position path members) whole_is possible.few (way_of put path) (way_of put rest)
          (way_leads put index next rest inside position path members into) tidy node room room_is row near is_split left around_it outer above above_is tidier piece is own puts
