-- An interval below was replaced by a row: the record above has the row then, as it would have other members below, of which the row is a split.
use Rattle.std.proofs.Common.{◌≡◌, ℕ, zero, suc, ◌+◌, ◌-◌, ◌*◌, ◌<◌, ◌≤◌, true, List, [], ◌∷◌, ◌++◌, length, take, drop, Option, Some, inl, inr, refl, sym, ap, ap₂, ◌∙◌, subst, arith, length-append}
use Rattle.std.proofs.lemmas.Bool.{cases_lt}
use Rattle.nx_tree.specs.declared.node.Node.{Node}
use Rattle.nx_tree.specs.Forest.{nodes}
use Rattle.nx_tree.specs.Document.{most_nodes}
use Rattle.nx_holdings.specs.Holdings.{Held, chain_count}
use Rattle.nx_piece.specs.declared.piece.Far.{Far}
use Rattle.nx_piece.specs.declared.piece.Piece.{Piece}
use Rattle.nx_piece.specs.declared.piece.Proxy.{Proxy}
use Rattle.nx_piece.specs.Gapped.{Gapped, End, Gap, gapped_weight}
use Rattle.nx_piece.specs.Valid.{AreNear}
use Rattle.nx_piece_edits.specs.Cutting.{with_items_at}
use Rattle.nx_piece_edits.proofs.LeftLemmas.{less_is, not_less}
use Rattle.nx_matrix.specs.declared.rule.Rule.{Rule}
use Rattle.nx_cuts.specs.Cut.{CutForest, Bare, Grown, Kept, width}
use Rattle.nx_layouts.specs.Layout.{RecordPlace, LaidNode, Layout, AreLaidParts, laid_forest, laid_weight, piece_body, piece_of, proxies_of, proxy_of, without_places}
use Rattle.nx_layouts.specs.Replace.{replaced_at, kept_at, above_at}
use Rattle.nx_layouts.specs.Cutting.{LeadsInto, StandsIn}
use Rattle.nx_layouts.proofs.BodyLemmas.{bodies_are_of_rows}
use Rattle.nx_layouts.proofs.DrawnLemmas.{drawn_free, drawn_wide}
use Rattle.nx_layouts.proofs.ReplaceLemmas.{replaces}
use Rattle.nx_layouts.proofs.RunLemmas.{runs_after}
use Rattle.nx_hold.specs.Changes.{place_named}
use Rattle.nx_hold.specs.Contents.{near_in, near_pages}
use Rattle.nx_hold.specs.Pieces.{IsTidy, PieceMap}
use Rattle.nx_drawn.specs.Splits.{SplitsRow}
use Rattle.nx_drawn.proofs.SplitLemmas.{same_row}
use Rattle.nx_drafts.proofs.RowLemmas.{row_splits_above}
use Rattle.nx_divide.specs.declared.dividing.Row.{Row}
use Rattle.nx_edit.specs.Editing.{places_off}
use Rattle.nx_edit.specs.Rows.{row_nodes, IsHeldInterval, IsReplaced}
use Rattle.nx_edit.specs.Changing.{AreSplitOf, IsReplacedByRow}
use Rattle.nx_edit.specs.Passing.{put_needs}
use Rattle.nx_edit.specs.RowPut.{IsOneProxy, IsPutAlone, MayHaveRow, piece_with_row}
use Rattle.nx_edit.proofs.CountLemmas.{proxies_few, proxies_most}
use Rattle.nx_edit.proofs.FarLemmas.{near_short}
use Rattle.nx_edit.proofs.OwnLemmas.{nodes_alone}
use Rattle.nx_edit.proofs.PassedLemmas.{IsKeptAround, less_index, near_suffice, pages_above, piece_same, place_inside, replaced_above, there}

-- An interval that was replaced by one with a record at this place, and is replaced again: it has these members in between, and nothing else is other than before.
pub record IsRefilled (index : ℕ) (place : RecordPlace) (members row : Layout) : Type 0 where
  pub again : (new : Layout) → replaced_at index new (replaced_at index (Kept place members Bare) row) ≡ replaced_at index new row
  pub kept : kept_at index (replaced_at index (Kept place members Bare) row) ≡ Some members
  pub above : (top : Option Node) → above_at index top (replaced_at index (Kept place members Bare) row) ≡ above_at index top row
  pub long : length (proxies_of (replaced_at index (Kept place members Bare) row)) ≡ length (proxies_of row)

pub refilled : (index : ℕ) (place : RecordPlace) (members row : Layout) → index < length (proxies_of row) → IsRefilled index place members row
refilled index place members Bare less = absurd (omega (arith, less))
refilled index place members (Grown n b s) less =
    let l = length-append (proxies_of b) (proxies_of s) in
    elim (cases_lt index (length (proxies_of b))) [
      | inl here ↦
          let new : Layout = replaced_at index (Kept place members Bare) b in
          let r = refilled index place members b here in
          let row_is : replaced_at index (Kept place members Bare) (Grown n b s) ≡ Grown n new s =
          less_is index (length (proxies_of b)) (Grown n new s) (Grown n b (replaced_at (index - length (proxies_of b)) (Kept place members Bare) s)) here in
          let there : index < length (proxies_of new) = subst (λ (c : ℕ). index < c) (sym r.long) here in
          record {
            again = λ x.
                ap (replaced_at index x) row_is
                ∙ less_is index (length (proxies_of new)) (Grown n (replaced_at index x new) s) (Grown n new (replaced_at (index - length (proxies_of new)) x s)) there
                ∙ ap (λ (a : Layout). Grown n a s) (r.again x)
                ∙ sym (less_is index (length (proxies_of b)) (Grown n (replaced_at index x b) s) (Grown n b (replaced_at (index - length (proxies_of b)) x s)) here);
            kept = ap (kept_at index) row_is ∙ less_is index (length (proxies_of new)) (kept_at index new) (kept_at (index - length (proxies_of new)) s) there ∙ r.kept;
            above = λ top.
                ap (above_at index top) row_is
                ∙ less_is index (length (proxies_of new)) (above_at index (Some n.node) new) (above_at (index - length (proxies_of new)) top s) there
                ∙ r.above (Some n.node)
                ∙ sym (less_is index (length (proxies_of b)) (above_at index (Some n.node) b) (above_at (index - length (proxies_of b)) top s) here);
            long = ap (λ (a : Layout). length (proxies_of a)) row_is ∙ (let e = length-append (proxies_of new) (proxies_of s) in let same = r.long in omega (arith, e, l, same));
          }
      | inr behind ↦
          let after : ℕ = index - length (proxies_of b) in
          let new : Layout = replaced_at after (Kept place members Bare) s in
          let r = refilled after place members s (omega (arith, l, less, behind)) in
          let row_is : replaced_at index (Kept place members Bare) (Grown n b s) ≡ Grown n b new =
          not_less index (length (proxies_of b)) (Grown n (replaced_at index (Kept place members Bare) b) s) (Grown n b new) behind in
          record {
            again = λ x.
                ap (replaced_at index x) row_is
                ∙ not_less index (length (proxies_of b)) (Grown n (replaced_at index x b) new) (Grown n b (replaced_at after x new)) behind
                ∙ ap (λ (a : Layout). Grown n b a) (r.again x)
                ∙ sym (not_less index (length (proxies_of b)) (Grown n (replaced_at index x b) s) (Grown n b (replaced_at after x s)) behind);
            kept = ap (kept_at index) row_is ∙ not_less index (length (proxies_of b)) (kept_at index b) (kept_at after new) behind ∙ r.kept;
            above = λ top.
                ap (above_at index top) row_is
                ∙ not_less index (length (proxies_of b)) (above_at index (Some n.node) b) (above_at after top new) behind
                ∙ r.above top
                ∙ sym (not_less index (length (proxies_of b)) (above_at index (Some n.node) b) (above_at after top s) behind);
            long = ap (λ (a : Layout). length (proxies_of a)) row_is ∙ (let e = length-append (proxies_of b) (proxies_of new) in let same = r.long in omega (arith, e, l, same));
          }
    ]
refilled zero place members (Kept p m s) less = record { again = λ x. refl; kept = refl; above = λ top. refl; long = refl }
refilled (suc index) place members (Kept p m s) less =
    let r = refilled index place members s (omega (arith, less)) in record {
      again = λ x. ap (λ (a : Layout). Kept p m a) (r.again x);
      kept = r.kept;
      above = r.above;
      long = ap (λ (c : ℕ). suc c) r.long;
    }

-- what is replaced so is replaced so, where as much is said of the row
abbrev pub replaced_as : {k : ℕ} {Becomes Other : CutForest → Type 0} {place : RecordPlace} {members : Layout} {kept : List LaidNode} {put : List ℕ} {stay : List RecordPlace} {proxies other : List Proxy} {gone : List Far} {was now : Held} → other ≡ proxies
    → ((c : CutForest) → Becomes c → Other c) → IsReplaced k Becomes place members kept put stay proxies gone was now → IsReplaced k Other place members kept put stay other gone was now
replaced_as same becomes r = record {
  row = r.row;
  becomes = becomes (without_places r.row) r.becomes;
  proxies_are = same ∙ r.proxies_are;
  held = r.held;
  once = r.once;
  light = r.light;
  brought = r.brought;
  moves = r.moves;
  contents_went = r.contents_went;
  contents_came = r.contents_came;
  brought_once = r.brought_once;
  records_stay = r.records_stay;
  lists_stay = r.lists_stay;
}

-- a list of proxies takes no more pages than they are
list_few : (n : ℕ) → chain_count (8 * n) ≤ n
list_few n = omega arith

-- where a page for each proxy of a row is left of those that may be needed, that many fewer were needed
left_spent : (was mid proxies needs : ℕ) → was + proxies ≤ mid + needs → was ≤ mid + (needs - proxies)
left_spent was mid proxies needs left = omega (arith, left)

module _ (rules : List Rule) (was : Held) (pieces : PieceMap was) (known : Option Piece) (place : RecordPlace) (position : ℕ) (path : List ℕ) (members : Layout) (i : IsHeldInterval was pieces known place position path most_nodes members)
    (index next : ℕ) (rest : List ℕ) (inside : Layout) (into : LeadsInto index next rest inside position path members) (below : Layout) (wanted : CutForest)
    (whole_is : Kept tt (without_places (replaced_at index (Kept place below Bare) members)) Bare ≡ wanted) where
  abbrev k : ℕ
  k = (was.settings).k

  stands : StandsIn k index inside members
  stands = there was pieces known place position path most_nodes members i index next rest inside into

  less : index < length (proxies_of members)
  less = less_index was pieces known place position path most_nodes members i index next rest inside into

  -- the row with other members below
  abbrev middle : Layout
  middle = replaced_at index (Kept place below Bare) members

  refills : IsRefilled index place below members
  refills = refilled index place below members less

  whole_count : row_nodes wanted ≡ nodes (laid_forest middle)
  whole_count = ap row_nodes (sym whole_is) ∙ nodes_alone place middle

  -- no more nodes are below than in all
  pub below_few : nodes (laid_forest (Kept place below Bare)) ≤ row_nodes wanted
  below_few = let w = whole_count in let c = stands.counted (Kept place below Bare) in let h = stands.counted Bare in omega (arith, w, c, h)

  -- the interval below was replaced
  module _ (possible : row_nodes wanted ≤ most_nodes) {mid : Held} (node : Node) (room : ℕ) (room_is : room ≡ k - gapped_weight (piece_body members)) {kept_in : List LaidNode} {put : List ℕ} {stay : List RecordPlace} {gone : List Far} (row : Row)
      (r : IsReplacedByRow k (AreSplitOf was.settings rules room (Some node) (Kept tt (without_places below) Bare)) (place_inside was pieces known place position path most_nodes members i index next rest inside into) inside kept_in put stay row gone was mid) where
    abbrev come : Layout
    come = (r.0).row

    abbrev here : Layout
    here = replaced_at index come members

    row_count : nodes (laid_forest come) ≡ nodes (laid_forest (Kept place below Bare))
    row_count = ap nodes (same_row was.settings rules room (Some node) (Kept tt (without_places below) Bare) (without_places come) ((r.0).becomes).0)

    -- what joins the part above has room there
    fits : laid_weight come + laid_weight members ≤ k
    fits =
        let small : laid_weight come ≤ room = ((r.0).becomes).1 in
        let is = room_is in
        let weighs = (bodies_are_of_rows members).weighs in
        let light : laid_weight members ≤ k = (i.light).2 in
        omega (arith, small, is, weighs, light)

    as_many : length row.proxies ≡ length (proxies_of come)
    as_many = ap (λ (ps : List Proxy). length ps) (r.0).proxies_are

    proxies_less : length row.proxies ≤ row_nodes (without_places come)
    proxies_less = let many = as_many in let most = proxies_most k come (r.0).light in omega (arith, many, most)

    hole_count : (length (proxies_of members) ≡ 1 + length (proxies_of (replaced_at index Bare members))) × (length (proxies_of here) ≡ length (proxies_of come) + length (proxies_of (replaced_at index Bare members)))
        × (1 + length (proxies_of (replaced_at index Bare members)) ≤ nodes (laid_forest (replaced_at index Bare members)))
    hole_count =
        let hole = replaces index members Bare less in
        let all = replaces index members come less in
        let one = replaces index members (Kept place below Bare) less in
        let some : 1 ≤ width (without_places members) = (i.light).0 in
        let as_wide = drawn_wide members in
        let wide : width (replaced_at index Bare members) ≡ width members = hole.wide (drawn_free members (i.light).1) in
        let many = proxies_few k (replaced_at index Bare members) (hole.light k (i.light).3 tt) (hole.free (drawn_free members (i.light).1)) in
        let front : List Proxy = take index (proxies_of members) in
        let back : List Proxy = drop (index + 1) (proxies_of members) in
        let proxies = ap (λ (ps : List Proxy). length ps) hole.proxies_are ∙ length-append (front ++ []) back in
        let none = length-append front [] in
        let with_more = ap (λ (ps : List Proxy). length ps) all.proxies_are ∙ length-append (front ++ proxies_of come) back in
        let inner = length-append front (proxies_of come) in
        let with_one = ap (λ (ps : List Proxy). length ps) one.proxies_are ∙ length-append (front ++ (proxy_of place (width below) ∷ [])) back in
        let single = length-append front (proxy_of place (width below) ∷ []) in
        let long = refills.long in
        (omega (arith, proxies, none, with_one, single, long), omega (arith, proxies, none, with_more, inner), omega (arith, some, as_wide, wide, many))

    whole_nodes : nodes (laid_forest here) ≡ row_nodes wanted
    whole_nodes = let c = stands.counted come in let d = stands.counted (Kept place below Bare) in let r = row_count in let w = whole_count in omega (arith, c, d, r, w)

    pub row_may_stand : (piece : Piece) → piece ≡ piece_of members → MayHaveRow k piece row
    row_may_stand piece is = record {
      few =
          let same = ap (λ (p : Piece). length p.proxies) is in
          let h = hole_count in
          let one = h.0 in
          let hole = h.2 in
          let c = stands.counted come in
          let b = stands.counted Bare in
          let most = proxies_less in
          let w = whole_nodes in
          let all : row_nodes wanted ≤ most_nodes = possible in
          omega (arith, same, one, hole, c, b, most, w, all);
      light =
          let same = ap (λ (p : Piece). gapped_weight p.body.roots) is in
          let weighs = (bodies_are_of_rows members).weighs in
          let items = ap (λ (x : Gapped). gapped_weight x) r.1 in
          let weigh = (bodies_are_of_rows come).weighs in
          let all = fits in
          omega (arith, same, weighs, items, weigh, all);
    }

    -- the piece above
    row_piece : (piece : Piece) → piece ≡ piece_of members → piece_with_row index row piece ≡ piece_of here
    row_piece piece is =
        piece_same (piece_with_row index row piece) (piece_of here)
        (ap₂ (λ (items roots : Gapped). with_items_at index items roots) r.1 (ap (λ (p : Piece). p.body.roots) is) ∙ sym ((runs_after index members less).many come))
        (ap₂ (λ (ps qs : List Proxy). take index qs ++ ps ++ drop (index + 1) qs) (r.0).proxies_are (ap (λ (p : Piece). p.proxies) is) ∙ sym (replaces index members come less).proxies_are)

    here_needs : row_nodes (without_places inside) + 2 * row_nodes (without_places come) + (2 + chain_count (8 * length (proxies_of here))) ≤ row_nodes (without_places members) + 2 * row_nodes wanted + length row.proxies
    here_needs =
        let h = hole_count in
        let long = h.1 in
        let hole = h.2 in
        let many = as_many in
        let list = list_few (length (proxies_of here)) in
        let c = stands.counted come in
        let b = stands.counted Bare in
        let w = whole_nodes in
        omega (arith, long, hole, many, list, c, b, w)

    module _ (outer : ℕ) (above : Option Node) (above_is : above_at index above members ≡ Some node) where
      row_splits : (new : RecordPlace) → SplitsRow was.settings rules outer above wanted (without_places (Kept new here Bare))
      row_splits new =
          let hole : AreLaidParts k (replaced_at index Bare middle) = subst (AreLaidParts k) (sym (refills.again Bare)) ((replaces index members Bare less).light k (i.light).3 tt) in
          let light : laid_weight (replaced_at index come middle) ≤ k =
          subst (λ (a : Layout). laid_weight a ≤ k) (sym (refills.again come)) (let weighs = (replaces index members come less).heavy in let all = fits in omega (arith, weighs, all)) in
          let as_room : room ≡ k - laid_weight middle =
          (let is = room_is in let weighs = (bodies_are_of_rows members).weighs in let none = (replaces index members (Kept place below Bare) less).heavy in omega (arith, is, weighs, none)) in
          let inner : SplitsRow was.settings rules (k - laid_weight middle) (above_at index above middle) (Kept tt (without_places below) Bare) (without_places come) =
          subst (λ (n : ℕ). SplitsRow was.settings rules n (above_at index above middle) (Kept tt (without_places below) Bare) (without_places come)) as_room
          (subst (λ (a : Option Node). SplitsRow was.settings rules room a (Kept tt (without_places below) Bare) (without_places come)) (sym (refills.above above ∙ above_is)) ((r.0).becomes).0) in
          subst (λ (c : CutForest). SplitsRow was.settings rules outer above c (Kept tt (without_places here) Bare)) whole_is
          (subst (λ (a : Layout). SplitsRow was.settings rules outer above (Kept tt (without_places middle) Bare) (Kept tt (without_places a) Bare)) (refills.again come)
          (row_splits_above was.settings rules outer above index middle below come refills.kept hole light inner))

  module _ (possible : row_nodes wanted ≤ most_nodes) (way way_below : List ℕ) (leads : LeadsInto index next way_below inside position way members) {mid : Held} (tidy : IsTidy was) (node : Node) (room : ℕ) (room_is : room ≡ k - gapped_weight (piece_body members))
      {kept_in kept : List LaidNode} {put : List ℕ} {gone : List Far} (row : Row) (near : AreNear row.items)
      (r : IsReplacedByRow k (AreSplitOf was.settings rules room (Some node) (Kept tt (without_places below) Bare)) (place_inside was pieces known place position path most_nodes members i index next rest inside into) inside kept_in put (places_off true (next ∷ way_below) inside) row gone
      was mid) (left : was.free + length row.proxies ≤ mid.free + (row_nodes (without_places inside) + 2 * row_nodes (without_places (r.0).row) + near_pages kept_in))
      (around_it : IsKeptAround was pieces known place position path most_nodes members i index next rest inside into kept_in kept) where
    -- the pages of what is kept suffice for what came below and for the record above
    pages_suffice : near_pages kept_in + near_in (piece_body (replaced_at index (r.0).row members)) ≤ near_pages kept
    pages_suffice =
        near_suffice was pieces known place position path most_nodes members i index next rest inside into way way_below leads tidy true (r.0) around_it (near_short (piece_body (r.0).row) (subst AreNear r.1 near))

    -- fewer pages were free at first than may be needed, where fewer are free in between than the piece above may need
    pub row_few : (piece : Piece) → piece ≡ piece_of members → mid.free < put_needs (piece_with_row index row piece) → was.free < row_nodes (without_places members) + 2 * row_nodes wanted + near_pages kept
    row_few piece is few =
        let same : put_needs (piece_with_row index row piece) ≡ put_needs (piece_of (replaced_at index (r.0).row members)) = ap put_needs (row_piece possible node room room_is row r piece is) in
        let all = here_needs possible node room room_is row r in
        let pages = pages_suffice in
        let moved = left in
        omega (arith, same, all, pages, moved, few)

    -- the piece above has one proxy of what was replaced by one interval, and a page is left of those that may be needed
    put_alone : (outer : ℕ) (above : Option Node) {now : Held} (own : Row) (proxy : Proxy) → IsOneProxy own proxy → (s : IsReplaced k (AreSplitOf was.settings rules outer above wanted) place members kept put (places_off true (position ∷ way) members) (proxy ∷ []) gone was now)
        → piece_body s.row ≡ Gap 1 End → was.free + 1 ≤ now.free + (row_nodes (without_places members) + 2 * row_nodes wanted + near_pages kept)
        → (t : IsReplacedByRow k (AreSplitOf was.settings rules outer above wanted) place members kept put (places_off true (position ∷ way) members) own gone was now)
        × (was.free + length own.proxies ≤ now.free + (row_nodes (without_places members) + 2 * row_nodes (without_places (t.0).row) + near_pages kept))
    put_alone outer above own proxy alone s one free =
        let single = ap (λ (ps : List Proxy). length ps) alone.1 in
        let count : row_nodes (without_places s.row) ≡ row_nodes wanted = ap nodes (same_row was.settings rules outer above wanted (without_places s.row) (s.becomes).0) in
        ((replaced_as alone.1 (λ c h. h) s, alone.0 ∙ sym one), omega (arith, single, count, free))

    -- so the interval above was
    pub row_put : (outer : ℕ) (above : Option Node) (above_is : above_at index above members ≡ Some node) {now : Held} (tidier : IsTidy mid) (piece : Piece) → piece ≡ piece_of members → (own : Row) → IsPutAlone place (piece_with_row index row piece) own mid now
        → (s : IsReplacedByRow k (AreSplitOf was.settings rules outer above wanted) place members kept put (places_off true (position ∷ way) members) own gone was now)
        × (was.free + length own.proxies ≤ now.free + (row_nodes (without_places members) + 2 * row_nodes (without_places (s.0).row) + near_pages kept))
    row_put outer above above_is {now} tidier piece is own puts =
        let new : RecordPlace = place_named puts.0 in
        let above_now : Layout = replaced_at index (r.0).row members in
        let here_is : piece_with_row index row piece ≡ piece_of above_now = row_piece possible node room room_is row r piece is in
        let all = here_needs possible node room room_is row r in
        let whole = whole_nodes possible node room room_is row r in
        let alone = nodes_alone new above_now in
        let pages = pages_suffice in
        let room_there = fits possible node room room_is row r in
        let less_proxies = proxies_less possible node room room_is row r in
        let needs : ℕ = row_nodes (without_places inside) + 2 * row_nodes (without_places (r.0).row) + near_pages kept_in in
        let spent : ℕ = needs - length row.proxies in
        let first : was.free ≤ mid.free + spent = left_spent was.free mid.free (length row.proxies) needs left in
        let s =
        replaced_above was pieces known place position path most_nodes members i index next rest inside into way way_below leads tidy true (r.0) tidier (piece_with_row index row piece) here_is puts.0 puts.2 puts.3 room_there around_it
        (AreSplitOf was.settings rules outer above wanted) (row_splits possible node room room_is row r outer above above_is new, omega arith) spent first (omega (arith, all, whole, alone, pages, less_proxies)) in
        let then = pages_above was pieces known place position path most_nodes members i index next rest inside into way way_below leads tidy true (r.0) tidier (piece_with_row index row piece) here_is puts.0 puts.2 puts.3 room_there in
        let moved = left in
        put_alone outer above own puts.0 puts.1 s.0 s.1 (omega (arith, moved, all, pages, then))
