-- An edit of a document from its first call to its last: a content may have been written, then the row of its root's interval was replaced, and then the lists of what was dropped went.
use Rattle.std.proofs.Common.{◌≡◌, ℕ, ◌+◌, ◌*◌, ◌≤◌, List, [], ◌∷◌, ◌++◌, length, Option, None, Some, inr, refl, sym, ap, ◌∙◌, subst, arith, append-nil, IsPermutation}
use Rattle.std.specs.Prelude.{Contains, IsSome}
use Rattle.std.specs.Option.{option_map_or}
use Rattle.std.proofs.lemmas.List.Sums.{sum_by-cons}
use Rattle.nx_tree.specs.declared.node.Node.{Node}
use Rattle.nx_tree.specs.Forest.{nodes}
use Rattle.nx_tree.specs.Document.{IsDocument}
use Rattle.nx_holdings.specs.Holdings.{Held}
use Rattle.nx_holdings.specs.declared.header.Settings.{Settings}
use Rattle.nx_piece.specs.declared.piece.Far.{Far}
use Rattle.nx_piece.specs.declared.piece.Proxy.{Proxy}
use Rattle.nx_piece.specs.PieceNode.{MayBeFar}
use Rattle.nx_cuts.specs.Cut.{CutForest, CutTree, Bare, Grown, forest, tree_of}
use Rattle.nx_layouts.specs.Layout.{RecordPlace, LaidNode, Layout, laid_near, AreHeld, AreLaidParts, AreOnce, ArePlacedOnce, shown_with, piece_body, piece_of, places_of, nodes_in, lists_of, contents_of, without_places, whole, IsLaidOutAs}
use Rattle.nx_layouts.proofs.PlaceLemmas.{no_place}
use Rattle.nx_hold.specs.declared.entry.DocEntry.{DocEntry}
use Rattle.nx_hold.specs.Changes.{place_of}
use Rattle.nx_hold.specs.Contents.{AreOwn, near_pages, content_pages, bytes_pages}
use Rattle.nx_hold.specs.Pieces.{record_at, HoldsPiece, NamesList, IsNoProxies, IsTidy, MayName, PieceMap, held_by}
use Rattle.nx_hold.specs.Documents.{MovesRecords}
use Rattle.nx_layouts.proofs.HeldLemmas.{layout_held}
use Rattle.nx_hold.proofs.MapLemmas.{piece_map, held_at}
use Rattle.nx_hold.proofs.MoveLemmas.{moves_add_up, moves_beside, moves_more}
use Rattle.nx_hold.proofs.RecordsLemmas.{any_along, names_along, none_named, record_there}
use Rattle.nx_state.specs.State.{document_size}
use Rattle.nx_edit.specs.Removing.{document_places, fars_of, AreUnnamed}
use Rattle.nx_edit.specs.Editing.{IsEdited, edited_needs}
use Rattle.nx_edit.specs.Rows.{row_nodes, IsReplaced}
use Rattle.nx_edit.proofs.FreeLemmas.{firsts}
use Rattle.nx_edit.proofs.HeldLemmas.{held_through, row_there}
use Rattle.nx_edit.proofs.PutLemmas.{far_held}
use Rattle.nx_edit.proofs.EndLemmas.{lists_are, new_once, unnamed, all_moves, new_held, list_end}

-- A root without a content has no list:

bare_list : (node : Node) (list : Option ℕ) → MayBeFar (shown_with node list) → node.content ≡ [] → list ≡ None
bare_list node None far bare = refl
bare_list node (Some first) far bare = absurd (let long = far.1 in let none = ap (λ (l : List ℕ). length l) bare in omega (arith, long, none))

laid_as : (n : LaidNode) → n.list ≡ None → n ≡ laid_near n.node
laid_as n e = ap (λ (o : Option ℕ). let m : LaidNode = record { node = n.node; list = o } in m) e

pub root_near : (held : Held) (place : RecordPlace) (n : LaidNode) (below beside : Layout) → HoldsPiece held place (piece_of (Grown n below beside)) → n.node.content ≡ [] → n ≡ laid_near n.node
root_near held place n below beside holds bare = laid_as n (bare_list n.node n.list (far_held held place (piece_of (Grown n below beside)) holds).0 bare)

-- The nodes of a whole document:

pub whole_nodes : (root : RecordPlace) (node : Node) (layout : Layout) → nodes_in (whole root node layout) ≡ laid_near node ∷ nodes_in layout
whole_nodes root node layout = append-nil (laid_near node ∷ (nodes_in layout ++ [])) ∙ ap (λ (ns : List LaidNode). laid_near node ∷ ns) (append-nil (nodes_in layout))

pub whole_contents : (root : RecordPlace) (node : Node) (layout : Layout) → contents_of (whole root node layout) ≡ contents_of layout
whole_contents root node layout = ap (λ (ns : List LaidNode). lists_of ns) (whole_nodes root node layout)

none_named_above : (held : Held) (root : RecordPlace) (node : Node) (layout : Layout) → MayName held (piece_body (whole root node layout))
none_named_above held root node layout far among = absurd (no_place far among)

-- A content was written first, if any:
module _ (first was : Held) (tidy : IsTidy first) {put : List ℕ} {pages : ℕ} (writes : MovesRecords [] [] [] put pages first was) where
  same_record : (place : RecordPlace) → record_at was place ≡ record_at first place
  same_record place = writes.kept place (no_place place) (no_place place)

  same_list : (place : RecordPlace) (count chain : ℕ) → NamesList first place count chain → was.lists chain ≡ first.lists chain
  same_list place count chain names = let list = tidy.there place count chain names in writes.lists_stay chain list.0 list.1 (λ named. none_named first chain named) ∙ sym list.1

  not_there : (list : ℕ) → Contains put list → first.lists list ≡ None
  not_there list among = writes.lists_fresh list (inr among) (λ named. none_named first list named)

  module _ (tidy_then : IsTidy was) (pieces : PieceMap first) (entry : DocEntry) (document : CutTree) (layout : Layout) (laid : IsLaidOutAs (held_by pieces) (place_of entry.root) document layout) where
    abbrev old : Layout
    old = whole (place_of entry.root) document.node layout

    old_held : (after : PieceMap was) → AreHeld (held_by after) old
    old_held after = held_through tidy writes pieces after old laid.held (none_named_above first (place_of entry.root) document.node layout) (λ place one none. no_place place none)

    -- what the document was in between
    pub laid_then : (after : PieceMap was) → IsLaidOutAs (held_by after) (place_of entry.root) document layout
    laid_then after = record {
      same = laid.same;
      held = old_held after;
      once = laid.once;
      light = subst (λ (s : Settings). AreLaidParts s.k old) (sym writes.settings) laid.light;
      is_document = laid.is_document;
    }

    module _ (own : AreOwn first (document_places entry document layout) (contents_of layout)) where
      own_then : AreOwn was (places_of old) (contents_of old)
      own_then = record {
        once = subst (λ (l : List ℕ). AreOnce l) (sym (whole_contents (place_of entry.root) document.node layout)) own.once;
        alone = λ list among place names. own.alone list (in_layout list among) place (any_along was first place list (sym (same_record place)) names);
        apart = λ list among place count names. own.apart list (in_layout list among) place count (names_along was first place count list (sym (same_record place)) names);
      }
        where
          in_layout : (list : ℕ) → Contains (contents_of old) list → Contains (contents_of layout) list
          in_layout list among = subst (λ (l : List ℕ). Contains l list) (whole_contents (place_of entry.root) document.node layout) among

      old_there : (place : RecordPlace) → Contains (places_of old) place → IsSome (record_at first place)
      old_there place among = let found = layout_held (held_by pieces) old place laid.held among in record_there first place found.0 (held_at first pieces place found.0 found.1)

      -- what was written is counted with what moved then
      first_written : {come : List RecordPlace} {lost brought : List ℕ} {needs : ℕ} {now : Held} → MovesRecords (places_of old) come lost brought needs was now → MovesRecords (places_of old) come lost (put ++ brought) (pages + needs) first now
      first_written {come} {lost} {brought} {needs} {now} then =
          let beside : MovesRecords (places_of old ++ []) (places_of old ++ []) [] put pages first was = moves_beside (places_of old) [] [] [] put pages first was old_there (λ place none among. no_place place none) writes in
          moves_add_up (places_of old) (places_of old) come [] lost put brought pages needs first was now (subst (λ (ps : List RecordPlace). MovesRecords ps ps [] put pages first was) (append-nil (places_of old)) beside) then

      -- then the row of the root's interval was replaced
      module _ {Becomes : CutForest → Type 0} {kept_row : List LaidNode} {stay_row : List RecordPlace} {proxies : List Proxy} {gone : List Far} {mid : Held} (tidier : IsTidy mid)
          (r : IsReplaced (was.settings).k Becomes (place_of entry.root) (Grown (laid_near document.node) layout Bare) kept_row put stay_row proxies gone was mid) (kept : List LaidNode) (kept_is : kept_row ≡ laid_near document.node ∷ kept ++ [])
          (put_once : AreOnce put) (put_there : (list : ℕ) → Contains put list → (bytes : List ℕ) × (was.lists list ≡ Some bytes)) (put_apart : (list : ℕ) → Contains put list → IsNoProxies was list)
          (root : RecordPlace) (node : Node) (below : Layout) (row_is : r.row ≡ whole root node below) where
        abbrev new : Layout
        new = whole root node below

        new_stands : (after : PieceMap mid) → AreHeld (held_by after) new
        new_stands after = subst (λ (l : Layout). AreHeld (held_by after) l) row_is (r.held after)

        abbrev needs : ℕ
        needs = row_nodes (without_places (Grown (laid_near document.node) layout Bare)) + 2 * row_nodes (without_places r.row) + near_pages kept_row

        moves : MovesRecords (places_of old) (places_of new) [] r.brought needs was mid
        moves =
            subst (λ (l : Layout). MovesRecords (places_of old) (places_of l) [] r.brought needs was mid) row_is
            (subst (λ (ps : List RecordPlace). MovesRecords (place_of entry.root ∷ ps) (places_of r.row) [] r.brought needs was mid) (sym (append-nil (places_of layout ++ []))) r.moves)

        went : IsPermutation (fars_of kept_row ++ gone) (fars_of (nodes_in old))
        went = subst (λ (ns : List LaidNode). IsPermutation (fars_of kept_row ++ gone) (fars_of ns)) (sym (append-nil (laid_near document.node ∷ (nodes_in layout ++ [])))) r.contents_went

        came : IsPermutation (contents_of new) (lists_of kept_row ++ (put ++ r.brought))
        came = subst (λ (l : Layout). IsPermutation (contents_of l) (lists_of kept_row ++ (put ++ r.brought))) row_is r.contents_came

        put_new : (list : ℕ) → Contains put list → Contains (contents_of old) list → ⊥
        put_new list here among =
            let there = row_there first pieces old laid.held list among in
            no_value (sym there.1 ∙ not_there list here)
          where
            no_value : {x : List ℕ} → Some x ≡ None → ⊥
            no_value e = absurd (cc)

        pub gone_unnamed : AreUnnamed mid gone
        gone_unnamed = unnamed was mid tidy_then tidier (piece_map was) old new (old_held (piece_map was)) own_then moves new_stands kept_row put gone went came r.brought_once put_once put_there put_apart put_new

        -- the lists of contents, without the root's
        kept_lists : lists_of kept_row ≡ lists_of kept
        kept_lists = ap (λ (ns : List LaidNode). lists_of ns) (kept_is ∙ ap (λ (ns : List LaidNode). laid_near document.node ∷ ns) (append-nil kept))

        contents_went : IsPermutation (lists_of kept ++ firsts gone) (contents_of layout)
        contents_went =
            subst (λ (l : List ℕ). IsPermutation (l ++ firsts gone) (contents_of layout)) kept_lists
            (subst (λ (l : List ℕ). IsPermutation (lists_of kept_row ++ firsts gone) l) (whole_contents (place_of entry.root) document.node layout)
            (lists_are was mid tidy_then tidier (piece_map was) old new (old_held (piece_map was)) own_then moves new_stands kept_row put gone went came r.brought_once put_once put_there put_apart put_new))

        contents_came : IsPermutation (contents_of below) (lists_of kept ++ (put ++ r.brought))
        contents_came =
            subst (λ (l : List ℕ). IsPermutation l (lists_of kept ++ (put ++ r.brought))) (whole_contents root node below)
            (subst (λ (l : List ℕ). IsPermutation (contents_of new) (l ++ (put ++ r.brought))) kept_lists came)

        kept_near : near_pages kept_row ≡ near_pages kept
        kept_near =
            let same = ap (λ (ns : List LaidNode). near_pages ns) (kept_is ∙ ap (λ (ns : List LaidNode). laid_near document.node ∷ ns) (append-nil kept)) in
            let sum = sum_by-cons (λ (n : LaidNode). option_map_or (λ first. 0) n.list (content_pages n.node)) (laid_near document.node) kept in
            let bare = ap bytes_pages (laid.is_document).bare in
            omega (arith, same, sum, bare)

        -- and then the lists of what was dropped went
        pub finished : {now : Held} → MovesRecords [] [] (firsts gone) [] 0 mid now → (Allowed : CutTree → Type 0) (kept_of : Layout → List LaidNode) → kept_of layout ≡ kept → (stay : List RecordPlace) → ((place : RecordPlace) → Contains stay place → Contains stay_row place)
            → (edited : CutTree) → Allowed edited → IsDocument (tree_of edited) → node ≡ edited.node → without_places below ≡ edited.below → (entry_now : DocEntry) → place_of entry_now.root ≡ root → entry_now.nodes ≡ document_size edited
            → IsEdited Allowed kept_of pages (document_size document) (document_places entry document layout) stay layout entry_now first now
        finished {now} frees Allowed kept_of kept_same stay among edited allowed is_document node_is below_is entry_now root_is count =
            let is : new ≡ whole (place_of entry_now.root) edited.node below = ap (λ (p : RecordPlace). whole p node below) (sym root_is) ∙ ap (λ (m : Node). whole (place_of entry_now.root) m below) node_is in
            let held = new_held was mid tidy_then tidier (piece_map was) old new (old_held (piece_map was)) own_then moves new_stands kept_row put gone went came r.brought_once put_once put_there put_apart put_new frees (none_named_above mid root node below) in
            let then : MovesRecords (places_of old) (places_of new) (firsts gone) r.brought needs was now =
            all_moves was mid tidy_then tidier (piece_map was) old new (old_held (piece_map was)) own_then moves new_stands kept_row put gone went came r.brought_once put_once put_there put_apart put_new frees in
            let both : MovesRecords (places_of old) (places_of new) (firsts gone) (put ++ r.brought) (pages + needs) first now = first_written then in
            let enough : pages + needs ≤ edited_needs kept_of pages (document_size document) (document_size edited) layout =
            let near = kept_near in
            let kept_too = ap (λ (ns : List LaidNode). near_pages ns) kept_same in
            let size = ap (λ (c : CutForest). nodes (forest c)) laid.same in
            let size_now = ap (λ (c : CutForest). nodes (forest c)) below_is in
            let row = ap (λ (l : Layout). row_nodes (without_places l)) row_is in
            omega (arith, near, kept_too, size, size_now, row) in
            record {
              document = edited;
              becomes = allowed;
              layout = below;
              laid = λ after. record {
                same = below_is;
                held = subst (λ (l : Layout). AreHeld (held_by after) l) is (held after);
                once = subst (λ (l : Layout). ArePlacedOnce (places_of l)) (row_is ∙ is) r.once;
                light = subst (λ (s : Settings). AreLaidParts s.k (whole (place_of entry_now.root) edited.node below)) (sym then.settings) (subst (AreLaidParts (was.settings).k) (row_is ∙ is) r.light);
                is_document = is_document;
              };
              counted = count;
              lost = firsts gone;
              brought = put ++ r.brought;
              moves =
                  moves_more (document_places entry document layout) (document_places entry_now edited below) (firsts gone) (put ++ r.brought) (pages + needs) (edited_needs kept_of pages (document_size document) (document_size edited) layout) first now enough
                  (subst (λ (l : Layout). MovesRecords (document_places entry document layout) (places_of l) (firsts gone) (put ++ r.brought) (pages + needs) first now) is both);
              contents_went = subst (λ (ns : List LaidNode). IsPermutation (lists_of ns ++ firsts gone) (contents_of layout)) (sym kept_same) contents_went;
              contents_came = subst (λ (ns : List LaidNode). IsPermutation (contents_of below) (lists_of ns ++ (put ++ r.brought))) (sym kept_same) contents_came;
              contents_once =
                  subst (λ (l : List ℕ). AreOnce l) (whole_contents root node below)
                  (new_once was mid tidy_then tidier (piece_map was) old new (old_held (piece_map was)) own_then moves new_stands kept_row put gone went came r.brought_once put_once put_there put_apart put_new);
              records_stay = λ place stays. last_record now frees place ∙ r.records_stay place (among place stays) ∙ same_record place;
              lists_stay = λ place count chain stays names.
                  let then = names_along first was place count chain (same_record place) names in
                  let after = names_along was mid place count chain (r.records_stay place (among place stays)) then in
                  last_list now frees place count chain after ∙ r.lists_stay place count chain (among place stays) then ∙ same_list place count chain names;
            }
          where
            last_record : (now : Held) → MovesRecords [] [] (firsts gone) [] 0 mid now → (place : RecordPlace) → record_at now place ≡ record_at mid place
            last_record now frees place = frees.kept place (no_place place) (no_place place)

            last_list : (now : Held) → MovesRecords [] [] (firsts gone) [] 0 mid now → (place : RecordPlace) (count chain : ℕ) → NamesList mid place count chain → now.lists chain ≡ mid.lists chain
            last_list now frees place count chain names =
                list_end was mid tidy_then tidier (piece_map was) old new (old_held (piece_map was)) own_then moves new_stands kept_row put gone went came r.brought_once put_once put_there put_apart put_new frees place count chain names
