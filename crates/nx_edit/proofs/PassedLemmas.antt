-- An interval that a path leads into was replaced, and then the record above it.
use Rattle.std.proofs.Common.{◌≡◌, ℕ, zero, suc, ◌+◌, ◌-◌, ◌*◌, ◌<◌, ◌≤◌, Bool, List, [], ◌∷◌, ◌++◌, length, Option, None, Some, inl, inr, refl, sym, ap, ap₂, ◌∙◌, subst, arith, append-nil, length-append, IsPermutation}
use Rattle.std.specs.Prelude.{IsSome, Contains}
use Rattle.std.specs.List.{slice_get, sum_by}
use Rattle.std.proofs.lemmas.List.Sums.{sum_by-append}
use Rattle.std.proofs.lemmas.List.Sorted.{sum_by-IsPermutation, Contains-permutation, IsPermutation-sym}
use Rattle.std.proofs.lemmas.List.Elements.{Contains-append_right}
use Rattle.nx_tree.specs.Forest.{nodes}
use Rattle.nx_holdings.specs.Holdings.{Held, chain_count}
use Rattle.nx_holdings.specs.declared.header.Settings.{Settings}
use Rattle.nx_piece.specs.declared.piece.Far.{Far}
use Rattle.nx_piece.specs.declared.piece.Piece.{Piece}
use Rattle.nx_piece.specs.declared.piece.Proxy.{Proxy}
use Rattle.nx_piece.specs.Gapped as gapped
use Rattle.nx_piece.specs.Gapped.{Gapped, End, Gap}
use Rattle.nx_piece.proofs.LocateLemmas.{get_behind}
use Rattle.nx_cuts.specs.Cut.{CutForest, Bare, Grown, Kept, width, AreFree, AreParts}
use Rattle.nx_layouts.specs.Layout.{RecordPlace, LaidNode, Layout, AreHeld, ArePlacedOnce, laid_forest, laid_weight, piece_body, piece_of, places_of, proxies_of, proxy_of, nodes_in, lists_of, contents_of, without_places}
use Rattle.nx_layouts.specs.Replace.{replaced_at}
use Rattle.nx_layouts.specs.Cutting.{member_tree, LeadsInto, StandsIn, IsFilled}
use Rattle.nx_layouts.proofs.PlaceLemmas.{no_place, first_among, later_among, AreDisjoint, once-append, once-left, once-right}
use Rattle.nx_layouts.proofs.HeldLemmas.{layout_held}
use Rattle.nx_layouts.proofs.DrawnLemmas.{drawn_free}
use Rattle.nx_layouts.proofs.FillLemmas.{interval_is_light, row_is_filled}
use Rattle.nx_layouts.proofs.StandLemmas.{interval_stands_in}
use Rattle.nx_hold.specs.Contents.{near_in, near_pages}
use Rattle.nx_hold.specs.Changes.{place_named}
use Rattle.nx_hold.specs.Pieces.{record_at, HoldsPiece, NamesList, IsTidy, PieceMap, held_by}
use Rattle.nx_hold.specs.Documents.{MovesRecords}
use Rattle.nx_hold.proofs.PieceLemmas.{one_piece, pieces_stay, some_same}
use Rattle.nx_hold.proofs.MapLemmas.{piece_map, held_at}
use Rattle.nx_hold.proofs.TidyLemmas.{may_name_own}
use Rattle.nx_hold.proofs.MoveLemmas.{moves_more}
use Rattle.nx_hold.proofs.RecordsLemmas.{record_there}
use Rattle.nx_edit.specs.Editing.{places_off, nodes_off}
use Rattle.nx_edit.specs.Removing.{fars_of}
use Rattle.nx_edit.specs.Passing.{PutsOrStays}
use Rattle.nx_edit.specs.Rows.{row_nodes, IsHeldInterval, IsReplaced}
use Rattle.nx_edit.proofs.CutLemmas.{nodes_inside}
use Rattle.nx_edit.proofs.OffLemmas.{off_among, off_inside}
use Rattle.nx_edit.proofs.ThroughLemmas.{IsAround, around_interval, above_stays, moves_through, once_there, once_through, around_stays, stays_on, apart}
use Rattle.nx_edit.proofs.OwnLemmas.{free_wide}
use Rattle.nx_edit.proofs.OrderLemmas.{fars_by_sums, lists_by_sums}
use Rattle.nx_edit.proofs.FarLemmas.{sum_fars, sum_lists, near-append, near_filled, own_near}
use Rattle.nx_edit.proofs.HeldLemmas.{held_through, row_there}
use Rattle.nx_edit.proofs.GrownThroughLemmas.{moves_within}
use Rattle.nx_edit.proofs.PutLemmas.{IsPutAs, made_wide, put_as, stays_as}

no_value : {A : Type 0} {x : A} {B : Type 0} → Some x ≡ None → B
no_value e = absurd (cc)

at_front : {A : Type 0} (front : List A) (x : A) (rest all : List A) (n : ℕ) → all ≡ front ++ (x ∷ rest) → length front ≡ n → slice_get all n ≡ Some x
at_front front x rest all n e l = ap (λ ys. slice_get ys n) e ∙ ap (slice_get (front ++ (x ∷ rest))) (let place : n ≡ length front + 0 = omega (arith, l) in place) ∙ get_behind front (x ∷ rest) 0

-- the path leads to a member of that interval
pub into_member : (index member : ℕ) (rest : List ℕ) (inside : Layout) (position : ℕ) (path : List ℕ) (row : Layout) → LeadsInto index member rest inside position path row → member < width inside
into_member index member rest inside position path Bare h = absurd h
into_member index member rest inside zero [] (Grown n b s) h = absurd h
into_member index member rest inside zero (q ∷ path) (Grown n b s) h = into_member index member rest inside q path b h.1
into_member index member rest inside (suc position) path (Grown n b s) h = into_member (index - length (proxies_of b)) member rest inside position path s h.1
into_member zero member rest inside position path (Kept p m s) h = subst (λ (l : Layout). member < width l) (sym h.3) (subst (λ (x : ℕ). x < width m) (sym h.1) h.0)
into_member (suc index) member rest inside position path (Kept p m s) h = into_member index member rest inside (position - width m) path s h.1

pub piece_same : (a b : Piece) → a.body.roots ≡ b.body.roots → a.proxies ≡ b.proxies → a ≡ b
piece_same a b e f = ap₂ (λ (g : Gapped) (ps : List Proxy). let z : Piece = record { body = record { roots = g }; proxies = ps } in z) e f

module _ (was : Held) (pieces : PieceMap was) (known : Option Piece) (place : RecordPlace) (position : ℕ) (path : List ℕ) (limit : ℕ) (members : Layout) (i : IsHeldInterval was pieces known place position path limit members)
    (index next : ℕ) (rest : List ℕ) (inside : Layout) (into : LeadsInto index next rest inside position path members) where
  abbrev k : ℕ
  k = (was.settings).k

  pub there : StandsIn k index inside members
  there = interval_stands_in k index next rest inside position path members into

  abbrev pub place_inside : RecordPlace
  place_inside = there.at

  abbrev pub before : List RecordPlace
  before = there.before

  abbrev pub behind : List RecordPlace
  behind = there.behind

  abbrev pub gone : List RecordPlace
  gone = there.at ∷ places_of inside

  pub around : IsAround was place before gone behind
  around = around_interval was pieces place members before gone behind i.held i.once (append-nil (places_of members) ∙ there.places_were)

  pub less_index : index < length (proxies_of members)
  less_index =
      let all = ap (λ (ps : List Proxy). length ps) there.proxies_are in
      let sum = length-append there.front (proxy_of there.at (width inside) ∷ there.back) in
      let is = there.index_is in
      omega (arith, all, sum, is)

  -- the proxy at the index is that of the interval below
  pub inside_proxy : (proxy : Proxy) → slice_get (proxies_of members) index ≡ Some proxy → place_named proxy ≡ place_inside
  inside_proxy proxy found =
      let at : slice_get (proxies_of members) index ≡ Some (proxy_of there.at (width inside)) = at_front there.front (proxy_of there.at (width inside)) there.back (proxies_of members) index there.proxies_are there.index_is in
      ap place_named (some_same (sym found ∙ at))

  pub members_free : AreFree members
  members_free = drawn_free members (i.light).1

  -- no more nodes are below than in all
  pub inside_few : (left : Layout) → nodes (laid_forest (replaced_at index left members)) + nodes (laid_forest inside) ≡ nodes (laid_forest members) + nodes (laid_forest left)
  inside_few left = there.counted left

  pub inside_interval : member_tree (laid_forest members) position path ≡ member_tree (laid_forest inside) next rest → IsHeldInterval was pieces None place_inside next rest limit inside
  inside_interval same = record {
    is = tt;
    held = there.held (held_by pieces) (i.held).1;
    once = subst (λ (ps : List RecordPlace). ArePlacedOnce (there.at ∷ ps)) (sym (append-nil (places_of inside))) (once-left gone behind (once-right before (gone ++ behind) ((around.once).1)));
    light = there.light (i.light).3;
    leads = subst IsSome same i.leads;
    few =
        let most : row_nodes (without_places members) ≤ limit = i.few in
        let c = inside_few Bare in
        omega (arith, most, c);
  }

  -- the record above is there when the interval below was replaced
  pub above_there : {mid : Held} {come : List RecordPlace} {brought : List ℕ} {needs : ℕ} → IsTidy was → MovesRecords gone come [] brought needs was mid → HoldsPiece mid place (piece_of members)
  above_there tidy moves = above_stays around moves tidy (piece_of members) (held_at was pieces place (piece_of members) ((i.held).0).there)

  -- The nodes that are kept of the row are those kept of the interval below, with those around it.
  pub record IsKeptAround (kept_in kept : List LaidNode) : Type 0 where
    pub before_it : List LaidNode
    pub behind_it : List LaidNode
    pub off : kept ≡ before_it ++ (kept_in ++ behind_it)
    pub were : nodes_in members ≡ before_it ++ (nodes_in inside ++ behind_it)
    pub are : (left : Layout) → nodes_in (replaced_at index left members) ≡ before_it ++ (nodes_in left ++ behind_it)

  -- all nodes are
  pub all_around : IsKeptAround (nodes_in inside) (nodes_in members)
  all_around = record { before_it = there.nodes_before; behind_it = there.nodes_behind; off = there.nodes_were; were = there.nodes_were; are = there.nodes_are }

  -- those off a way are
  pub off_around : (stays : Bool) (way way_below : List ℕ) → LeadsInto index next way_below inside position way members → IsKeptAround (nodes_off stays (next ∷ way_below) inside) (nodes_off stays (position ∷ way) members)
  off_around stays way way_below leads =
      let n = nodes_inside stays index next way_below inside position way members leads in
      record { before_it = n.before; behind_it = n.behind; off = n.off; were = n.were; are = n.are }

  -- The interval below was replaced, where what is off some way stays, and then the record above:
  module _ (way way_below : List ℕ) (leads : LeadsInto index next way_below inside position way members) {mid : Held} (tidy : IsTidy was) (stays : Bool) {Below : CutForest → Type 0} {kept_in : List LaidNode} {put : List ℕ} {proxies : List Proxy}
      {gone_fars : List Far} (r : IsReplaced k Below place_inside inside kept_in put (places_off stays (next ∷ way_below) inside) proxies gone_fars was mid) where
    abbrev pub here : Layout
    here = replaced_at index r.row members

    filled : IsFilled k index r.row members
    filled = row_is_filled k index r.row members

    -- the row is held in between
    hole_held : (after : PieceMap mid) → AreHeld (held_by after) (replaced_at index Bare members)
    hole_held after =
        held_through tidy r.moves pieces after (replaced_at index Bare members) (filled.hole (held_by pieces) (i.held).1)
        (λ far among. may_name_own was place (piece_of members) tidy (held_at was pieces place (piece_of members) ((i.held).0).there) far (subst (λ (fs : List Far). Contains fs far) filled.own among))
        (λ other left went. apart around other went (later_among place (before ++ behind) other (subst (λ (ps : List RecordPlace). Contains ps other) (there.places_are Bare) left)))

    pub here_held : (after : PieceMap mid) → AreHeld (held_by after) here
    here_held after = filled.held (held_by after) (hole_held after) (r.held after)

    places_here : before ++ (places_of r.row ++ behind) ≡ places_of here
    places_here = sym (there.places_are r.row)

    here_apart : Contains (places_of here) place → ⊥
    here_apart among = (once_there around r.moves r.once).0 (subst (λ (ps : List RecordPlace). Contains ps place) (sym places_here) among)

    -- the pages of what is kept suffice for what came below and for the record above
    pub near_suffice : {kept : List LaidNode} → IsKeptAround kept_in kept → near_in (piece_body r.row) ≡ 0 → near_pages kept_in + near_in (piece_body here) ≤ near_pages kept
    near_suffice {kept} around_it none =
        let stay = ap (λ (ns : List LaidNode). near_pages ns) around_it.off in
        let front = near-append around_it.before_it (kept_in ++ around_it.behind_it) in
        let middle = near-append kept_in around_it.behind_it in
        let fill = near_filled index r.row members in
        let own = own_near (replaced_at index Bare members) in
        let are = ap (λ (ns : List LaidNode). near_pages ns) (around_it.are Bare) in
        let rest = near-append around_it.before_it around_it.behind_it in
        omega (arith, stay, front, middle, fill, none, own, are, rest)

    module _ {now : Held} (tidier : IsTidy mid) (piece : Piece) (here_is : piece ≡ piece_of here) (proxy : Proxy) (roots : proxy.roots ≡ gapped.gapped_width piece.body.roots) (puts : PutsOrStays place (place_named proxy) piece mid now)
        (room : laid_weight r.row + laid_weight members ≤ k) where
      abbrev new : RecordPlace
      new = place_named proxy

      above : HoldsPiece mid place (piece_of members)
      above = above_there tidy r.moves

      here_light : laid_weight here ≤ (mid.settings).k
      here_light =
          let same = filled.heavy less_index in
          let settled = ap (λ (s : Settings). s.k) (r.moves).settings in
          omega (arith, same, room, settled)

      -- the record above has the row then
      as_put : PutsOrStays place new piece mid now → IsPutAs place new here mid now
      as_put (inl far) = put_as far here here_is (record_there mid place (piece_of members) above) (piece_map mid) (here_held (piece_map mid)) here_apart here_light
      as_put (inr same) =
          subst (λ (p : RecordPlace). IsPutAs place p here mid now) (sym same.1)
          (subst (λ (h : Held). IsPutAs place place here mid h) (sym same.0) (stays_as mid place here (subst (λ (p : Piece). HoldsPiece mid place p) here_is same.2) fits here_held))
        where
          fits : gapped.gapped_size (piece_body here) ≤ (mid.settings).k
          fits =
              let same_piece : piece_of members ≡ piece_of here = one_piece mid place (piece_of members) (piece_of here) above (subst (λ (p : Piece). HoldsPiece mid place p) here_is same.2) in
              let small = ((i.held).0).fits in
              let as_large = ap (λ (p : Piece). gapped.gapped_size p.body.roots) same_piece in
              let settled = ap (λ (s : Settings). s.k) (r.moves).settings in
              omega (arith, small, as_large, settled)

      pub top : IsPutAs place new here mid now
      top = as_put puts

      -- how many pages it took
      pub pages_above : mid.free ≤ now.free + (near_in (piece_body here) + (1 + chain_count (8 * length (proxies_of here))))
      pages_above = let moved = (top.moves).free in let few = top.few in omega (arith, moved, few)

      off_stays : (other : RecordPlace) → Contains (places_off stays (position ∷ way) members) other → (record_at now other ≡ record_at was other) × ((count chain : ℕ) → NamesList was other count chain → now.lists chain ≡ was.lists chain)
      off_stays other among =
          elim (off_inside stays index next way_below inside position way members leads other among) [
            | inl below ↦
                let among_inside : Contains (places_of inside) other = off_among stays (next ∷ way_below) inside other below in
                let found = layout_held (held_by pieces) inside other (there.held (held_by pieces) (i.held).1).1 among_inside in
                let holds : HoldsPiece was other found.0 = held_at was pieces other found.0 found.1 in
                let same : record_at mid other ≡ record_at was other = r.records_stay other below in
                let lists : (count chain : ℕ) → NamesList was other count chain → mid.lists chain ≡ was.lists chain = λ count chain names. r.lists_stay other count chain below names in
                let stays = stays_on around r.moves top.moves tidy tidier other found.0
                (λ e. apart around other (later_among there.at (places_of inside) other among_inside) (subst (λ (p : RecordPlace). Contains (place ∷ (before ++ behind)) p) (sym e) (first_among place (before ++ behind))))
                same (pieces_stay was mid other found.0 same lists holds) lists in
                (stays.0, stays.2)
            | inr left_there ↦
                let beside : Contains (before ++ behind) other = subst (λ (ps : List RecordPlace). Contains ps other) (there.places_are Bare) left_there in
                let found = a_piece other beside in
                let stays = around_stays around r.moves top.moves tidy tidier other found.0 beside found.1 in
                (stays.0, stays.2)
          ]
        where
          a_piece : (other : RecordPlace) → Contains (before ++ behind) other → (p : Piece) × HoldsPiece was other p
          a_piece other beside = around.there other (later_among place (before ++ behind) other beside)

      -- what came below and what comes above is not the same
      brought_apart : AreDisjoint r.brought top.more
      brought_apart first below comes =
          let among : Contains (contents_of r.row) first =
          Contains-permutation (lists_of kept_in ++ (put ++ r.brought)) (contents_of r.row) first (IsPermutation-sym (contents_of r.row) (lists_of kept_in ++ (put ++ r.brought)) r.contents_came)
          (Contains-append_right (lists_of kept_in) (put ++ r.brought) first (Contains-append_right put r.brought first below)) in
          no_value (sym (row_there mid (piece_map mid) r.row (r.held (piece_map mid)) first among).1 ∙ top.fresh first comes)

      module _ {kept : List LaidNode} (around_it : IsKeptAround kept_in kept) where
        went : IsPermutation (fars_of kept ++ gone_fars) (fars_of (nodes_in members))
        went =
            fars_by_sums (fars_of kept ++ gone_fars) (fars_of (nodes_in members)) (λ f.
            let all = sum_by-append f (fars_of kept) gone_fars in
            let stay = ap (λ (ns : List LaidNode). sum_by f (fars_of ns)) around_it.off in
            let were = ap (λ (ns : List LaidNode). sum_by f (fars_of ns)) around_it.were in
            let front = sum_fars f around_it.before_it (kept_in ++ around_it.behind_it) in
            let middle = sum_fars f kept_in around_it.behind_it in
            let old_front = sum_fars f around_it.before_it (nodes_in inside ++ around_it.behind_it) in
            let old_middle = sum_fars f (nodes_in inside) around_it.behind_it in
            let low = sum_by-IsPermutation f (fars_of kept_in ++ gone_fars) (fars_of (nodes_in inside)) r.contents_went in
            let inner = sum_by-append f (fars_of kept_in) gone_fars in
            omega (arith, all, stay, were, front, middle, old_front, old_middle, low, inner))

        came : IsPermutation (lists_of (nodes_in top.made ++ [])) (lists_of kept ++ (put ++ (r.brought ++ top.more)))
        came =
            lists_by_sums (lists_of (nodes_in top.made ++ [])) (lists_of kept ++ (put ++ (r.brought ++ top.more))) (λ f.
            let whole = sum_lists f (nodes_in top.made) [] in
            let all = sum_by-append f (lists_of kept) (put ++ (r.brought ++ top.more)) in
            let more = sum_by-append f put (r.brought ++ top.more) in
            let last = sum_by-append f r.brought top.more in
            let stay = ap (λ (ns : List LaidNode). sum_by f (lists_of ns)) around_it.off in
            let front = sum_lists f around_it.before_it (kept_in ++ around_it.behind_it) in
            let middle = sum_lists f kept_in around_it.behind_it in
            let are = ap (λ (ns : List LaidNode). sum_by f (lists_of ns)) (around_it.are r.row) in
            let new_front = sum_lists f around_it.before_it (nodes_in r.row ++ around_it.behind_it) in
            let new_middle = sum_lists f (nodes_in r.row) around_it.behind_it in
            let here_came = sum_by-IsPermutation f (contents_of top.made) (contents_of here ++ top.more) top.came in
            let here_more = sum_by-append f (contents_of here) top.more in
            let low = sum_by-IsPermutation f (contents_of r.row) (lists_of kept_in ++ (put ++ r.brought)) r.contents_came in
            let low_all = sum_by-append f (lists_of kept_in) (put ++ r.brought) in
            let low_more = sum_by-append f put r.brought in
            omega (arith, whole, all, more, last, stay, front, middle, are, new_front, new_middle, here_came, here_more, low, low_all, low_more))

        -- so the interval above was: it has the row in the place of the interval below; and so many pages were spent on that
        pub replaced_above : (Becomes : CutForest → Type 0) → Becomes (without_places (Kept new here Bare)) → (spent : ℕ) → was.free ≤ mid.free + spent
            → spent + (near_in (piece_body here) + (1 + chain_count (8 * length (proxies_of here)))) ≤ row_nodes (without_places members) + 2 * row_nodes (without_places (Kept new here Bare)) + near_pages kept
            → (s : IsReplaced k Becomes place members kept put (places_off stays (position ∷ way) members) (proxy ∷ []) gone_fars was now) × (piece_body s.row ≡ Gap 1 End)
        replaced_above Becomes becomes spent free most =
            let row : Layout = Kept new top.made Bare in
            let same : without_places row ≡ without_places (Kept new here Bare) = ap (λ (c : CutForest). Kept tt c Bare) top.same in
            let brought : List ℕ = r.brought ++ top.more in
            let needs : ℕ = row_nodes (without_places members) + 2 * row_nodes (without_places row) + near_pages kept in
            let enough : spent + top.then ≤ needs = let few = top.few in let nodes = ap (λ (c : CutForest). row_nodes c) same in omega (arith, few, nodes, most) in
            let below : MovesRecords gone (places_of r.row) [] r.brought spent was mid = moves_within gone (places_of r.row) r.brought (row_nodes (without_places inside) + 2 * row_nodes (without_places r.row) + near_pages kept_in) spent was mid free r.moves in (
              record {
                row = row;
                becomes = subst Becomes (sym same) becomes;
                proxies_are =
                    ap (λ (n : ℕ). let q : Proxy = record { page = proxy.page; slot = proxy.slot; roots = n } in q ∷ [])
                    (roots ∙ ap (λ (p : Piece). gapped.gapped_width p.body.roots) here_is ∙ free_wide here (filled.free members_free) ∙ sym (made_wide top));
                held = λ after. (top.at after, top.held after, tt);
                once =
                    subst (λ (ps : List RecordPlace). ArePlacedOnce (new ∷ ps)) (sym (append-nil (places_of top.made)))
                    (subst (λ (ps : List RecordPlace). ArePlacedOnce (new ∷ ps)) (sym top.places)
                    (subst (λ (ps : List RecordPlace). ArePlacedOnce (new ∷ ps)) places_here (once_through around r.moves top.moves (no_place new, tt) r.once)));
                light = subst (λ (c : CutForest). AreParts k c) (sym same) (interval_is_light k index place new r.row members i.light r.light room);
                brought = brought;
                moves =
                    subst (λ (ps : List RecordPlace). MovesRecords (place ∷ places_of members) (new ∷ ps) [] brought needs was now) (sym (append-nil (places_of top.made)))
                    (subst (λ (ps : List RecordPlace). MovesRecords (place ∷ places_of members) (new ∷ ps) [] brought needs was now) (sym top.places)
                    (subst (λ (ps : List RecordPlace). MovesRecords (place ∷ places_of members) (new ∷ ps) [] brought needs was now) places_here
                    (subst (λ (ps : List RecordPlace). MovesRecords (place ∷ ps) (new ∷ (before ++ (places_of r.row ++ behind))) [] brought needs was now) (sym there.places_were)
                    (moves_more (place ∷ (before ++ (gone ++ behind))) (new ∷ (before ++ (places_of r.row ++ behind))) [] brought
                    (spent + top.then) needs was now enough (moves_through around below top.moves)))));
                contents_went = went;
                contents_came = came;
                brought_once = once-append r.brought top.more r.brought_once top.once brought_apart;
                records_stay = λ other among. (off_stays other among).0;
                lists_stay = λ other count chain among. (off_stays other among).1 count chain;
              },
              refl,
            )
