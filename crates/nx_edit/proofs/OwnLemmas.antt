-- A tree of an interval's own record is taken away.
use Rattle.std.proofs.Common.{◌≡◌, ℕ, ◌+◌, ◌-◌, ◌*◌, ◌<◌, ◌≤◌, List, [], ◌∷◌, ◌++◌, length, Option, None, Some, refl, sym, ap, ◌∙◌, subst, arith, append-nil, IsPermutation}
use Rattle.std.specs.Prelude.{Contains, false}
use Rattle.std.specs.Option.{option_to_list}
use Rattle.std.specs.List.{sum_by}
use Rattle.std.proofs.lemmas.List.Sums.{sum_by-append}
use Rattle.std.proofs.lemmas.List.Sorted.{sum_by-IsPermutation}
use Rattle.nx_tree.specs.Forest.{Empty, nodes}
use Rattle.nx_holdings.specs.Holdings.{Held}
use Rattle.nx_holdings.specs.declared.header.Settings.{Settings}
use Rattle.nx_piece.specs.declared.piece.Far.{Far}
use Rattle.nx_piece.specs.declared.piece.Piece.{Piece}
use Rattle.nx_piece.specs.Contents.{fars_in}
use Rattle.nx_piece.specs.declared.piece.Proxy.{Proxy}
use Rattle.nx_piece.specs.Gapped as gapped
use Rattle.nx_piece.specs.Gapped.{Gapped, GappedTree, End, Grow, Gap, gapped_nodes}
use Rattle.nx_cuts.specs.Cut.{CutForest, Bare, Grown, Kept, width, AreFree, AreParts}
use Rattle.nx_layouts.specs.Layout.{RecordPlace, LaidNode, Layout, AreHeld, ArePlacedOnce, gap_more, laid_forest, laid_weight, piece_body, piece_of, places_of, proxies_of, nodes_in, lists_of, contents_of, without_places}
use Rattle.nx_layouts.proofs.PlaceLemmas.{no_place, later_among, between_cases, once-left, once-right}
use Rattle.nx_layouts.proofs.HeldLemmas.{layout_held}
use Rattle.nx_layouts.proofs.DrawnLemmas.{drawn_wide, drawn_free, free_drawn}
use Rattle.nx_hold.specs.Contents.{near_in, near_pages}
use Rattle.nx_hold.specs.Changes.{place_named, RemovesPiece}
use Rattle.nx_hold.specs.Pieces.{record_at, HoldsPiece, NamesList, IsTidy, PieceMap, held_by}
use Rattle.nx_hold.specs.Documents.{MovesRecords}
use Rattle.nx_hold.proofs.MapLemmas.{held_at, piece_map}
use Rattle.nx_hold.proofs.TidyLemmas.{may_name_own}
use Rattle.nx_hold.proofs.MoveLemmas.{moves_more, remove_moves}
use Rattle.nx_hold.proofs.RecordsLemmas.{record_there}
use Rattle.nx_layouts.proofs.WithoutLemmas.{nodes_joined}
use Rattle.nx_edit.specs.Making.{PutsFar}
use Rattle.nx_edit.specs.Passing.{put_needs}
use Rattle.nx_edit.specs.Removing.{fars_of, kept_fars, kept_nodes, IsRow}
use Rattle.nx_edit.specs.Editing.{places_off, nodes_off}
use Rattle.nx_layouts.specs.Cutting.{layout_without, layout_at, kept_layout, StaysIn, GoesWithTree}
use Rattle.nx_edit.specs.Rows.{row_nodes, IsHeldInterval, IsReplaced, IsLeftOf, left_of, left_needs, IsRestPut}
use Rattle.nx_edit.proofs.RemoveLemmas.{own_and_kept}
use Rattle.nx_edit.proofs.CountLemmas.{proxies_most}
use Rattle.nx_edit.proofs.CutLemmas.{rest_stays, nodes_stay, interval_left}
use Rattle.nx_edit.proofs.OrderLemmas.{fars_by_sums, lists_by_sums}
use Rattle.nx_edit.proofs.FarLemmas.{sum_fars, sum_lists, own_and_kept_fars, own_near}
use Rattle.nx_edit.proofs.HeldLemmas.{held_through, may_name_part}
use Rattle.nx_edit.proofs.PutLemmas.{made_wide, put_as}
use Rattle.nx_layouts.proofs.WithoutLemmas.{tree_goes_out}
use Rattle.nx_edit.proofs.ThroughLemmas.{IsAround, around_interval, apart, above_stays, moves_through, once_through, around_stays}

-- how many nodes of an interval with places are left
pub nodes_bare : (a : Layout) → row_nodes (without_places a) ≡ nodes (laid_forest a)
nodes_bare a = refl

-- an interval alone has the nodes of its members
pub nodes_alone : (place : RecordPlace) (a : Layout) → nodes (laid_forest (Kept place a Bare)) ≡ nodes (laid_forest a)
nodes_alone place a = omega (arith, nodes_joined (laid_forest a) Empty)

wide_more : (g : Gapped) → 1 ≤ gapped.gapped_width (gap_more g)
wide_more End = omega arith
wide_more (Grow n b s) = omega arith
wide_more (Gap c s) = omega arith

-- a piece without roots has no members
pub bare_piece : (a : Layout) → gapped.gapped_width (piece_body a) ≡ 0 → a ≡ Bare
bare_piece Bare e = refl
bare_piece (Grown n b s) e = absurd (omega (arith, e))
bare_piece (Kept p m s) e = absurd (let some = wide_more (piece_body s) in omega (arith, e, some))

-- and one with roots has some
pub kept_piece : (place : RecordPlace) (a : Layout) → AreFree a → 1 ≤ gapped.gapped_width (piece_body a) → (kept_layout place a ≡ Kept place a Bare) × (1 ≤ width a)
kept_piece place Bare free some = absurd (omega (arith, some))
kept_piece place (Grown n b s) free some = (refl, omega arith)
kept_piece place (Kept p m s) free some = absurd free

pub free_wide : (a : Layout) → AreFree a → gapped.gapped_width (piece_body a) ≡ width a
free_wide Bare h = refl
free_wide (Grown n b s) h = omega (arith, free_wide s h)
free_wide (Kept p m s) h = absurd h

module _ (was : Held) (pieces : PieceMap was) (known : Option Piece) (place : RecordPlace) (position : ℕ) (path : List ℕ) (limit : ℕ) (members : Layout) (i : IsHeldInterval was pieces known place position path limit members)
    (stays : StaysIn position path members) where
  abbrev k : ℕ
  k = (was.settings).k

  abbrev tree : Layout
  tree = layout_at position path members

  abbrev rest : Layout
  rest = layout_without position path members

  goes : GoesWithTree k position path members
  goes = tree_goes_out k position path members stays

  abbrev before : List RecordPlace
  before = (goes.parts).before

  abbrev behind : List RecordPlace
  behind = (goes.parts).behind

  around : IsAround was place before (places_of tree) behind
  around = around_interval was pieces place members before (places_of tree) behind i.held i.once (append-nil (places_of members) ∙ (goes.parts).places_were)

  -- the proxies of the tree name a row
  pub tree_row : (proxies : List Proxy) (own : ℕ) → proxies ≡ proxies_of tree → own ≡ gapped_nodes (piece_body tree) → IsRow was pieces proxies (limit - own) tree
  tree_row proxies own are is = record {
    proxies_are = are;
    held = (goes.held (held_by pieces) (i.held).1).1;
    once = once-left (places_of tree) behind (once-right before (places_of tree ++ behind) ((around.once).1));
    few =
        let few : row_nodes (without_places members) ≤ limit = i.few in
        let same = nodes_bare members in
        let sum = goes.counted in
        let both = own_and_kept tree in
        omega (arith, few, same, sum, both, is);
  }

  -- it isn't too large
  pub tree_fits : (own : ℕ) → own ≡ gapped_nodes (piece_body tree) → limit < own → ⊥
  tree_fits own is more =
      let few : row_nodes (without_places members) ≤ limit = i.few in
      let same = nodes_bare members in
      let sum = goes.counted in
      let both = own_and_kept tree in
      omega (arith, few, same, sum, both, is, more)

  members_free : AreFree members
  members_free = drawn_free members (i.light).1

  rest_free : AreFree rest
  rest_free = goes.free members_free

  left_is : (new : RecordPlace) → without_places (kept_layout new rest) ≡ left_of position path members
  left_is new = interval_left position path new members stays

  -- what is left has as many nodes as the rest
  left_nodes : (new : RecordPlace) → row_nodes (without_places (kept_layout new rest)) ≡ nodes (laid_forest rest)
  left_nodes new = nodes_bare (kept_layout new rest) ∙ same rest
    where
      same : (a : Layout) → nodes (laid_forest (kept_layout new a)) ≡ nodes (laid_forest a)
      same Bare = refl
      same (Grown n b s) = nodes_alone new (Grown n b s)
      same (Kept p m s) = nodes_alone new (Kept p m s)

  becomes : (own below gone : ℕ) (new : RecordPlace) → own ≡ gapped_nodes (piece_body tree) → below ≡ kept_nodes tree → gone ≡ own + below → IsLeftOf position path gone members (without_places (kept_layout new rest))
  becomes own below gone new is was_below sum = (
    left_is new,
    let l = left_nodes new in let m = nodes_bare members in let c = goes.counted in let b = own_and_kept tree in omega (arith, l, m, c, b, is, was_below, sum),
  )

  -- the nodes that are kept are those of the rest
  abbrev kept : List LaidNode
  kept = nodes_off false (position ∷ path) members

  kept_is : kept ≡ nodes_in rest
  kept_is = nodes_stay position path members stays

  rest_within : (n : LaidNode) → Contains (nodes_in rest) n → Contains (nodes_in members) n
  rest_within n among =
      let c = (goes.parts).changes in
      subst (λ (ns : List LaidNode). Contains ns n) (sym c.were) (between_cases c.before (nodes_in tree) c.behind n (subst (λ (ns : List LaidNode). Contains ns n) c.are among))

  went : (own_fars fars : List Far) → own_fars ≡ fars_in (piece_body tree) → IsPermutation fars (kept_fars tree) → IsPermutation (fars_of kept ++ (own_fars ++ fars)) (fars_of (nodes_in members))
  went own_fars fars own_are fars_are =
      fars_by_sums (fars_of kept ++ (own_fars ++ fars)) (fars_of (nodes_in members)) (λ f.
      let c = (goes.parts).changes in
      let all = sum_by-append f (fars_of kept) (own_fars ++ fars) in
      let more = sum_by-append f own_fars fars in
      let stay = ap (λ (ns : List LaidNode). sum_by f (fars_of ns)) kept_is in
      let own = ap (λ (l : List Far). sum_by f l) own_are in
      let low = sum_by-IsPermutation f fars (kept_fars tree) fars_are in
      let both = own_and_kept_fars f tree in
      let were = ap (λ (ns : List LaidNode). sum_by f (fars_of ns)) c.were in
      let are = ap (λ (ns : List LaidNode). sum_by f (fars_of ns)) c.are in
      let front = sum_fars f c.before (nodes_in tree ++ c.behind) in
      let middle = sum_fars f (nodes_in tree) c.behind in
      let left = sum_fars f c.before c.behind in
      omega (arith, all, more, stay, own, low, both, were, are, front, middle, left))

  -- how many pages the rest may need
  pub rest_needs : (own : ℕ) (piece : Piece) → own ≡ gapped_nodes (piece_body tree) → 1 ≤ own → piece ≡ piece_of rest → put_needs piece ≤ left_needs position path members
  rest_needs own piece own_is some is =
      let long = ap (λ (p : Piece). length p.proxies) is in
      let near = ap (λ (p : Piece). near_in p.body.roots) is in
      let many = proxies_most k rest (goes.light (i.light).3) in
      let sum = goes.counted in
      let both = own_and_kept tree in
      let own = own_near rest in
      let stay = ap (λ (ns : List LaidNode). near_pages ns) kept_is in
      omega (arith, long, near, many, sum, both, own_is, some, own, stay)

  module _ {mid : Held} (tidy : IsTidy was) (one : MovesRecords (places_of tree) [] [] [] 0 was mid) where
    -- the record is there still
    pub still_there : HoldsPiece mid place (piece_of members)
    still_there = above_stays around one tidy (piece_of members) (held_at was pieces place (piece_of members) ((i.held).0).there)

    module _ {now : Held} (tidier : IsTidy mid) {top : List RecordPlace} {more : List ℕ} {then : ℕ} (two : MovesRecords (place ∷ []) top [] more then mid now) where
      rest_places : before ++ behind ≡ places_of rest
      rest_places = sym (goes.parts).places_are

      -- the records that stay
      off_stays : (other : RecordPlace) → Contains (places_off false (position ∷ path) members) other → (record_at now other ≡ record_at was other) × ((count chain : ℕ) → NamesList was other count chain → now.lists chain ≡ was.lists chain)
      off_stays other among =
          let left : Contains (places_of rest) other = subst (λ (ps : List RecordPlace). Contains ps other) (rest_stays position path members stays) among in
          let found = layout_held (held_by pieces) rest other (goes.held (held_by pieces) (i.held).1).0 left in
          let stays = around_stays around one two tidy tidier other found.0 (subst (λ (ps : List RecordPlace). Contains ps other) (sym rest_places) left) (held_at was pieces other found.0 found.1) in
          (stays.0, stays.2)

      moved : (needs : ℕ) → then ≤ needs → MovesRecords (place ∷ places_of members) (top ++ places_of rest) [] more needs was now
      moved needs most =
          subst (λ (ps : List RecordPlace). MovesRecords (place ∷ places_of members) (top ++ ps) [] more needs was now) rest_places
          (subst (λ (ps : List RecordPlace). MovesRecords (place ∷ ps) (top ++ (before ++ behind)) [] more needs was now) (sym (goes.parts).places_were)
          (moves_more (place ∷ (before ++ (places_of tree ++ behind))) (top ++ (before ++ behind)) [] more (0 + then) needs was now (omega (arith, most)) (moves_through around one two)))

      once_left : ArePlacedOnce top → ArePlacedOnce (top ++ places_of rest)
      once_left new = subst (λ (ps : List RecordPlace). ArePlacedOnce (top ++ ps)) rest_places (once_through around one two new tt)

    -- the rest is held in between
    rest_held : AreHeld (held_by (piece_map mid)) rest
    rest_held =
        held_through tidy one pieces (piece_map mid) rest (goes.held (held_by pieces) (i.held).1).0
        (may_name_part was pieces members rest tidy (i.held).1 (may_name_own was place (piece_of members) tidy (held_at was pieces place (piece_of members) ((i.held).0).there)) rest_within)
        (λ other left went. apart around other went (later_among place (before ++ behind) other (subst (λ (ps : List RecordPlace). Contains ps other) (goes.parts).places_are left)))

    rest_apart : Contains (places_of rest) place → ⊥
    rest_apart among = (around.once).0 (between_cases before (places_of tree) behind place (subst (λ (ps : List RecordPlace). Contains ps place) (goes.parts).places_are among))

    module _ {now : Held} (tidier : IsTidy mid) (own below gone : ℕ) (is : own ≡ gapped_nodes (piece_body tree)) (was_below : below ≡ kept_nodes tree) (sum : gone ≡ own + below) (some : 1 ≤ own) (own_fars fars : List Far)
        (own_are : own_fars ≡ fars_in (piece_body tree)) (fars_are : IsPermutation fars (kept_fars tree)) (piece : Piece) (piece_is : piece ≡ piece_of rest) where
      -- nothing is left
      own_none : gapped.gapped_width piece.body.roots ≡ 0 → RemovesPiece place mid now → IsReplaced k (IsLeftOf position path gone members) place members kept [] (places_off false (position ∷ path) members) [] (own_fars ++ fars) was now
      own_none none removes =
          let bare : rest ≡ Bare = bare_piece rest (subst (λ (p : Piece). gapped.gapped_width p.body.roots ≡ 0) piece_is none) in
          let two = remove_moves place mid now removes in
          let needs : ℕ = row_nodes (without_places members) + 2 * 0 + near_pages kept in
          record {
            row = Bare;
            becomes = subst (λ (l : Layout). IsLeftOf position path gone members (without_places (kept_layout place l))) bare (becomes own below gone place is was_below sum);
            proxies_are = refl;
            held = λ after. tt;
            once = tt;
            light = tt;
            brought = [];
            moves = subst (λ (l : Layout). MovesRecords (place ∷ places_of members) (places_of l) [] [] needs was now) bare (moved tidier two needs (omega arith));
            contents_went = went own_fars fars own_are fars_are;
            contents_came = subst (λ (ns : List LaidNode). IsPermutation [] (lists_of ns ++ [])) (sym (kept_is ∙ ap (λ (l : Layout). nodes_in l) bare)) (lists_by_sums [] [] (λ f. refl));
            brought_once = tt;
            records_stay = λ other among. (off_stays tidier two other among).0;
            lists_stay = λ other count chain among. (off_stays tidier two other among).1 count chain;
          }

      -- or the rest
      own_some : (proxy : Proxy) → 1 ≤ gapped.gapped_width piece.body.roots → proxy.roots ≡ gapped.gapped_width piece.body.roots → PutsFar place (place_named proxy) piece mid now
          → IsReplaced k (IsLeftOf position path gone members) place members kept [] (places_off false (position ∷ path) members) (proxy ∷ []) (own_fars ++ fars) was now
      own_some proxy wide roots puts =
          let new : RecordPlace = place_named proxy in
          let there = record_there mid place (piece_of members) still_there in
          let many : 1 ≤ gapped.gapped_width (piece_body rest) = subst (λ (p : Piece). 1 ≤ gapped.gapped_width p.body.roots) piece_is wide in
          let alone = kept_piece new rest rest_free many in
          let weighs = goes.less in
          let light : laid_weight members ≤ k = (i.light).2 in
          let fits : laid_weight rest ≤ k = omega (arith, weighs, light) in
          let made = put_as puts rest piece_is there (piece_map mid) rest_held rest_apart (subst (λ (s : Settings). laid_weight rest ≤ s.k) (sym one.settings) fits) in
          let row : Layout = Kept new made.made Bare in
          let same : without_places row ≡ without_places (Kept new rest Bare) = ap (λ (c : CutForest). Kept tt c Bare) made.same in
          let left : without_places row ≡ left_of position path members = same ∙ ap (λ (l : Layout). without_places l) (sym alone.0) ∙ left_is new in
          let needs : ℕ = row_nodes (without_places members) + 2 * row_nodes (without_places row) + near_pages kept in
          let most : made.then ≤ needs =
          let few = made.few in
          let all : put_needs piece ≤ left_needs position path members = rest_needs own piece is some piece_is in
          let long = ap (λ (p : Piece). length p.proxies) piece_is in
          let near = ap (λ (p : Piece). near_in p.body.roots) piece_is in
          let nodes = ap (λ (c : CutForest). row_nodes c) left in
          omega (arith, few, all, long, near, nodes) in
          record {
            row = row;
            becomes = subst (λ (c : CutForest). IsLeftOf position path gone members c) (ap (λ (l : Layout). without_places l) alone.0 ∙ sym same) (becomes own below gone new is was_below sum);
            proxies_are =
                ap (λ (r : ℕ). let q : Proxy = record { page = proxy.page; slot = proxy.slot; roots = r } in q ∷ [])
                (roots ∙ ap (λ (p : Piece). gapped.gapped_width p.body.roots) piece_is ∙ free_wide rest rest_free ∙ sym (made_wide made));
            held = λ after. (made.at after, made.held after, tt);
            once =
                subst (λ (ps : List RecordPlace). ArePlacedOnce (new ∷ ps)) (sym (append-nil (places_of made.made)))
                (subst (λ (ps : List RecordPlace). ArePlacedOnce (new ∷ ps)) (sym made.places) (once_left tidier made.moves (no_place new, tt)));
            light = subst (λ (c : CutForest). AreParts k c) (sym same) (subst (λ (w : ℕ). 1 ≤ w) (sym (drawn_wide rest)) alone.1, free_drawn rest rest_free, fits, goes.light (i.light).3, tt);
            brought = made.more;
            moves =
                subst (λ (ps : List RecordPlace). MovesRecords (place ∷ places_of members) (new ∷ ps) [] made.more needs was now) (sym (append-nil (places_of made.made)))
                (subst (λ (ps : List RecordPlace). MovesRecords (place ∷ places_of members) (new ∷ ps) [] made.more needs was now) (sym made.places) (moved tidier made.moves needs most));
            contents_went = went own_fars fars own_are fars_are;
            contents_came =
                lists_by_sums (lists_of (nodes_in made.made ++ [])) (lists_of kept ++ made.more) (λ f.
                let all = sum_lists f (nodes_in made.made) [] in
                let both = sum_by-append f (lists_of kept) made.more in
                let stay = ap (λ (ns : List LaidNode). sum_by f (lists_of ns)) kept_is in
                let came = sum_by-IsPermutation f (contents_of made.made) (contents_of rest ++ made.more) made.came in
                let more = sum_by-append f (contents_of rest) made.more in
                omega (arith, all, both, stay, came, more));
            brought_once = made.once;
            records_stay = λ other among. (off_stays tidier made.moves other among).0;
            lists_stay = λ other count chain among. (off_stays tidier made.moves other among).1 count chain;
          }

      pub own_put : (left : Option Proxy) → IsRestPut place piece left mid now
          → IsReplaced k (IsLeftOf position path gone members) place members kept [] (places_off false (position ∷ path) members) (option_to_list left) (own_fars ++ fars) was now
      own_put None put = own_none put.0 put.1
      own_put (Some proxy) put = own_some proxy put.0 put.1 put.2
