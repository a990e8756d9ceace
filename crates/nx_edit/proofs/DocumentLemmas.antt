-- A change in a document, by the row of its root's interval: for each edit that puts something.
use Rattle.std.proofs.Common.{◌≡◌, ℕ, ◌+◌, ◌<◌, ◌≤◌, List, [], ◌∷◌, ◌++◌, Option, None, Some, refl, sym, ap, ap₂, ◌∙◌, subst, arith, append-nil, drop, IsPermutation}
use Rattle.std.specs.Prelude.{Bool, true, false, Contains, IsSome, IfSome}
use Rattle.std.specs.Option.{IsSomeAnd, option_map_or, option_to_list}
use Rattle.std.specs.List.{slice_get}
use Rattle.std.proofs.lemmas.Bool.{false≢true}
use Rattle.std.proofs.lemmas.List.Elements.{Contains-append_left}
use Rattle.std.proofs.lemmas.List.Sums.{sum_by-append, sum_by-cons}
use Rattle.std.proofs.lemmas.List.Sorted.{sum_by-IsPermutation}
use Rattle.nx_host.specs.declared.disk.Disk.{Ghosts}
use Rattle.nx_host.specs.Still.{IsStill}
use Rattle.nx_host.proofs.DiskLemmas.{still_then}
use Rattle.nx_tree.specs.declared.node.Node.{Node}
use Rattle.nx_tree.specs.Forest.{OrderedTree, Forest, Empty, Plant, nodes}
use Rattle.nx_tree.specs.Document.{IsDocument, most_nodes}
use Rattle.nx_tree.specs.Edit.{at}
use Rattle.nx_weights.proofs.SumLemmas.{weight_least}
use Rattle.nx_records.specs.Words.{Held}
use Rattle.nx_holdings.specs.declared.header.Settings.{Settings}
use Rattle.nx_records.specs.declared.records.Records.{Records}
use Rattle.nx_records.specs.declared.error.StoreError.{StoreError}
use Rattle.nx_records.specs.declared.error.StoreError.TheVariants as store
use Rattle.nx_records.specs.Records.{has_ended, KeepsSaved, LeavesRecords, StandsFor}
use Rattle.nx_records.proofs.LeaveLemmas.{leaves_runs, leaves_saved, leaves_stand}
use Rattle.nx_records.specs.Refusals.{RunsOn, NotStored}
use Rattle.nx_piece.specs.declared.piece.Far.{Far}
use Rattle.nx_piece.specs.declared.piece.Piece.{Piece}
use Rattle.nx_piece.specs.declared.piece.Proxy.{Proxy}
use Rattle.nx_matrix.specs.declared.rule.Rule.{Rule}
use Rattle.nx_cuts.specs.Cut.{CutForest, CutTree, Bare, Grown, Kept, forest, part_weight, tree_of, AreFree, joined}
use Rattle.nx_cuts.specs.Rows.{changed_row}
use Rattle.nx_layouts.specs.Layout.{RecordPlace, LaidNode, Layout, AreHeld, AreLaidParts, AreOnce, laid_near, laid_forest, piece_of, nodes_in, contents_of, proxies_of, proxy_of, without_places, whole, IsLaidOutAs}
use Rattle.nx_layouts.proofs.DrawnLemmas.{drawn_free}
use Rattle.nx_layouts.proofs.PlaceLemmas.{no_place, one_place}
use Rattle.nx_layouts.specs.Cutting.{member_tree}
use Rattle.nx_hold.specs.declared.entry.DocEntry.{DocEntry}
use Rattle.nx_hold.specs.Changes.{place_of, place_named, ComesTidyWhere}
use Rattle.nx_hold.specs.Contents.{AreOwn, near_pages, content_pages, bytes_pages}
use Rattle.nx_hold.specs.Pieces.{IsTidy, PieceMap, held_by}
use Rattle.nx_hold.proofs.MapLemmas.{piece_map, held_at}
use Rattle.nx_hold.proofs.MoveLemmas.{pieces_stay_around}
use Rattle.nx_hold.specs.Documents.{HasDocument, MovesRecords}
use Rattle.nx_hold.proofs.RefusalLemmas.{runs_then, saved_then}
use Rattle.nx_nav.specs.declared.routing.PassedRecord.{PassedRecord}
use Rattle.nx_nav.specs.Route.{HasRoute}
use Rattle.nx_nav.specs.declared.error.NavError.{NavError}
use Rattle.nx_nav.specs.declared.error.NavError.TheVariants as nav
use Rattle.nx_nav.specs.Refusals.{HoldsNoDocument, IsRefused}
use Rattle.nx_state.specs.State.{document_size}
use Rattle.nx_divide.specs.declared.dividing.Row.{Row}
use Rattle.nx_drawn.specs.Splits.{Splits, SplitsRow, whole_document}
use Rattle.nx_drawn.proofs.SplitLemmas.{same_row, same_tree}
use Rattle.nx_edit.specs.declared.error.EditError.{EditError}
use Rattle.nx_edit.specs.declared.error.EditError.TheVariants as error
use Rattle.nx_edit.specs.Removing.{document_places, fars_of, OfEntry, HasNone, AreUnnamed, NotFreed}
use Rattle.nx_edit.specs.Editing.{places_off, nodes_off, EditsDocument}
use Rattle.nx_edit.specs.Refusals.{edit_needs, edit_error, seen_error, LeavesLastCommit, NotEdited}
use Rattle.nx_edit.specs.Rows.{row_nodes, IsHeldInterval, IsReplaced}
use Rattle.nx_edit.specs.Changing.{Put, Content, Child, put_lists, put_list, MayPut, MayChangeAlong, changed, way_of, MayBeMade, changed_interval, IsPossibleIn, AreSplitOf, kept_around, ChangesKnown, change_needs, NotChangedAlong}
use Rattle.nx_edit.proofs.RemoveLemmas.{later_rose, ends_behind}
use Rattle.nx_edit.proofs.FreeLemmas.{firsts}
use Rattle.nx_edit.proofs.FinishLemmas.{root_near, laid_then, gone_unnamed, finished}

abbrev pub IsDeep : Put → List ℕ → Type 0
IsDeep (Content content list) path = path ≡ [] → ⊥
IsDeep (Child position node) path = Unit {0}

-- The change may be made of the node at the path, which isn't the root where its content changes, and makes of the document's tree another document, which is that of this edit.
pub record IsFitting (k : ℕ) (rules : List Rule) (put : Put) (path : List ℕ) (edit : OrderedTree → OrderedTree) (document : CutTree) : Type 0 where
  pub there : OrderedTree
  pub leads : at (tree_of document) path ≡ Some there
  pub deep : IsDeep put path
  pub made : MayBeMade k put there
  pub same : tree_of (changed rules put path document) ≡ edit (tree_of document)
  pub is_document : IsDocument (edit (tree_of document))

-- A row that holds one tree, of which no node joins a part above, is that of one interval, of that tree:

pub record IsOne (row : Layout) : Type 0 where
  pub place : RecordPlace
  pub root : LaidNode
  pub below : Layout
  pub is : row ≡ Kept place (Grown root below Bare) Bare

none_beside : (a b : Forest) → joined a b ≡ Empty → (a ≡ Empty) × (b ≡ Empty)
none_beside Empty b e = (refl, e)
none_beside (Plant n f g) b e = absurd (cc)

abbrev beside_of : Forest → Forest
beside_of Empty = Empty
beside_of (Plant node below beside) = beside

bare_free : (a : Layout) → AreFree a → laid_forest a ≡ Empty → a ≡ Bare
bare_free Bare h e = refl
bare_free (Grown n b s) h e = absurd (cc)
bare_free (Kept p m s) h e = absurd h

bare_row : (k : ℕ) (a : Layout) → AreLaidParts k a → laid_forest a ≡ Empty → a ≡ Bare
bare_row k Bare parts e = refl
bare_row k (Grown n b s) parts e = absurd (cc)
bare_row k (Kept p Bare s) parts e = absurd (let some = parts.0 in omega arith)
bare_row k (Kept p (Grown n b r) s) parts e = absurd (cc)
bare_row k (Kept p (Kept q m r) s) parts e = absurd (parts.1)

-- no tree stands outside of intervals where the row weighs nothing
one_of : (k : ℕ) (row : Layout) (node : Node) (below : Forest) → AreLaidParts k row → part_weight (without_places row) ≤ 0 → laid_forest row ≡ Plant node below Empty → IsOne row
one_of k Bare node below parts none e = absurd (cc)
one_of k (Grown n b s) node below parts none e = absurd (let some = weight_least n.node in omega (arith, none, some))
one_of k (Kept p Bare s) node below parts none e = absurd (let some = parts.0 in omega arith)
one_of k (Kept p (Kept q m r) s) node below parts none e = absurd (parts.1)
one_of k (Kept p (Grown n b r) s) node below parts none e =
    let rest = none_beside (laid_forest r) (laid_forest s) (ap beside_of e) in
    let bare : r ≡ Bare = bare_free r (drawn_free r parts.1) rest.0 in
    let last : s ≡ Bare = bare_row k s parts.4 rest.1 in
    record { place = p; root = n; below = b; is = ap₂ (λ (x y : Layout). Kept p (Grown n b x) y) bare last }

pub none_first : (row : List Proxy) → None ≡ slice_get row 0 → row ≡ []
none_first [] e = refl
none_first (p ∷ row) e = absurd (cc)

pub some_first : (row : List Proxy) (proxy : Proxy) → Some proxy ≡ slice_get row 0 → (rest : List Proxy) × (row ≡ proxy ∷ rest)
some_first [] proxy e = absurd (cc)
some_first (p ∷ row) proxy e = (row, ap (λ (q : Proxy). q ∷ row) (sym (in_option proxy e)))
  where
    value : Proxy → Option Proxy → Proxy
    value other None = other
    value other (Some q) = q

    in_option : (q : Proxy) → Some q ≡ Some p → q ≡ p
    in_option q is = ap (value p) is

head_is : (proxy other : Proxy) (rest : List Proxy) → proxy ∷ rest ≡ other ∷ [] → proxy ≡ other
head_is proxy other rest e = ap (λ (ps : List Proxy). first_or other ps) e
  where
    first_or : Proxy → List Proxy → Proxy
    first_or x [] = x
    first_or x (y ∷ ys) = y

-- the nodes of a document that a change keeps
abbrev pub kept_by_put : Put → List ℕ → Layout → List LaidNode
kept_by_put (Content content list) path layout = nodes_off true path layout
kept_by_put (Child position node) path layout = nodes_in layout

-- a document laid out in records, with a change that fits there
module _ (was : Held) (pieces : PieceMap was) (entry : DocEntry) (document : CutTree) (layout : Layout) (laid : IsLaidOutAs (held_by pieces) (place_of entry.root) document layout)
    (rules : List Rule) (put : Put) (path : List ℕ) (edit : OrderedTree → OrderedTree) (fits : IsFitting (was.settings).k rules put path edit document) where
  abbrev pub top_row : Layout
  top_row = Grown (laid_near document.node) layout Bare

  top_nodes : row_nodes (without_places top_row) ≡ document_size document
  top_nodes =
      let e : nodes (forest (without_places layout)) ≡ nodes (forest document.below) = ap (λ (c : CutForest). nodes (forest c)) laid.same in
      omega (arith, e)

  there_in : member_tree (forest (without_places top_row)) 0 path ≡ Some fits.there
  there_in = subst (λ (c : CutForest). at (record { node = document.node; below = forest c }) path ≡ Some fits.there) (sym laid.same) fits.leads

  pub top_interval : IsHeldInterval was pieces None (place_of entry.root) 0 path most_nodes top_row
  top_interval = record {
    is = tt;
    held = laid.held;
    once = laid.once;
    light = laid.light;
    leads = subst IsSome (sym there_in) refl;
    few = let small = laid.is_document.small in omega (arith, top_nodes, small);
  }

  row_now : changed_interval rules put 0 path top_row ≡ whole_document (changed rules put path document)
  row_now = subst (λ (c : CutForest). changed_row 0 (changed rules put path) (Kept tt (Grown document.node c Bare) Bare) ≡ whole_document (changed rules put path document)) (sym laid.same) refl

  size_now : 1 + nodes (edit (tree_of document)).below ≡ document_size (changed rules put path document)
  size_now =
      let e : nodes (forest (changed rules put path document).below) ≡ nodes (edit (tree_of document)).below = ap (λ (t : OrderedTree). nodes t.below) fits.same in
      omega (arith, e)

  nodes_now : row_nodes (changed_interval rules put 0 path top_row) ≡ 1 + nodes (edit (tree_of document)).below
  nodes_now = let e : row_nodes (changed_interval rules put 0 path top_row) ≡ row_nodes (whole_document (changed rules put path document)) = ap row_nodes row_now in omega (arith, e, size_now)

  pub top_possible : IsPossibleIn (was.settings).k rules put 0 path top_row
  top_possible = record {
    made = subst (λ (o : Option OrderedTree). IfSome o (λ y. MayBeMade (was.settings).k put y)) (sym there_in) fits.made;
    few = let small = fits.is_document.small in omega (arith, nodes_now, small);
  }

  -- the nodes that are kept, and the root
  pub top_kept : kept_around put 0 path top_row ≡ laid_near document.node ∷ kept_by_put put path layout ++ []
  top_kept = by_put put path fits.deep
    where
      by_put : (p : Put) (way : List ℕ) → IsDeep p way → kept_around p 0 way top_row ≡ laid_near document.node ∷ kept_by_put p way layout ++ []
      by_put (Content content list) [] deep = absurd (deep refl)
      by_put (Content content list) (next ∷ way) deep = refl
      by_put (Child position node) way deep = refl

  kept_near : near_pages (kept_around put 0 path top_row) ≡ near_pages (kept_by_put put path layout)
  kept_near =
      let same = ap (λ (ns : List LaidNode). near_pages ns) (top_kept ∙ ap (λ (ns : List LaidNode). laid_near document.node ∷ ns) (append-nil (kept_by_put put path layout))) in
      let sum = sum_by-cons (λ (n : LaidNode). option_map_or (λ first. 0) n.list (content_pages n.node)) (laid_near document.node) (kept_by_put put path layout) in
      let bare = ap bytes_pages (laid.is_document).bare in
      omega (arith, same, sum, bare)

  pub top_needs : (pages : ℕ) → change_needs rules put 0 path top_row + pages ≡ edit_needs edit (kept_by_put put path) pages document layout
  top_needs pages = let near = kept_near in omega (arith, nodes_now, top_nodes, near)

  module _ (proxies : List Proxy) (gone : List Far) (mid : Held)
      (r : IsReplaced (was.settings).k (AreSplitOf was.settings rules 0 None (changed_interval rules put 0 path top_row)) (place_of entry.root) top_row (kept_around put 0 path top_row) (put_lists put) (places_off true (0 ∷ way_of put path) top_row) proxies gone was mid) where
    splits_row : SplitsRow was.settings rules 0 None (whole_document (changed rules put path document)) (without_places r.row)
    splits_row = subst (λ (c : CutForest). SplitsRow was.settings rules 0 None c (without_places r.row)) row_now (r.becomes).0

    forest_now : laid_forest r.row ≡ Plant (changed rules put path document).node (forest (changed rules put path document).below) Empty
    forest_now = same_row was.settings rules 0 None (whole_document (changed rules put path document)) (without_places r.row) splits_row

    pub one_row : IsOne r.row
    one_row = one_of (was.settings).k r.row (changed rules put path document).node (forest (changed rules put path document).below) r.light (r.becomes).1 forest_now

    abbrev pub document_now : CutTree
    document_now = record { node = one_row.root.node; below = without_places one_row.below }

    pub splits_now : Splits was.settings rules (changed rules put path document) document_now
    splits_now = subst (λ (l : Layout). SplitsRow was.settings rules 0 None (whole_document (changed rules put path document)) (without_places l)) one_row.is splits_row

    proxies_one : proxies ≡ proxy_of one_row.place 1 ∷ []
    proxies_one = r.proxies_are ∙ ap (λ (l : Layout). proxies_of l) one_row.is

    pub some_proxy : proxies ≡ [] → ⊥
    some_proxy none = let e : proxy_of one_row.place 1 ∷ [] ≡ [] = sym proxies_one ∙ none in absurd (cc)

    pub top_is : (proxy : Proxy) (rest : List Proxy) → proxies ≡ proxy ∷ rest → proxy ≡ proxy_of one_row.place 1
    top_is proxy rest one = head_is proxy (proxy_of one_row.place 1) rest (sym one ∙ proxies_one)

    same_now : tree_of document_now ≡ edit (tree_of document)
    same_now = same_tree was.settings rules (changed rules put path document) document_now splits_now ∙ fits.same

    pub is_document_now : IsDocument (tree_of document_now)
    is_document_now = subst IsDocument (sym same_now) fits.is_document

    pub now_size : document_size document_now ≡ 1 + nodes (edit (tree_of document)).below
    now_size =
        let e : nodes (forest (without_places one_row.below)) ≡ nodes (edit (tree_of document)).below = ap (λ (t : OrderedTree). nodes t.below) same_now in
        omega (arith, e)

    -- the root has no content, so it has no list
    pub row_is : r.row ≡ whole one_row.place one_row.root.node one_row.below
    row_is =
        let held = subst (λ (l : Layout). AreHeld (held_by (piece_map mid)) l) one_row.is (r.held (piece_map mid)) in
        one_row.is ∙ ap (λ (n : LaidNode). Kept one_row.place (Grown n one_row.below Bare) Bare)
        (root_near mid one_row.place one_row.root one_row.below Bare (held_at mid (piece_map mid) one_row.place (piece_of (Grown one_row.root one_row.below Bare)) (held.0).there) is_document_now.bare)

-- What a path passes is there still where a content was written.
route_stays : (was now : Held) {put : List ℕ} {pages : ℕ} → IsTidy was → MovesRecords [] [] [] put pages was now → (place : RecordPlace) (member : ℕ) (path : List ℕ) (passed : List PassedRecord) (last : Piece) → HasRoute was place member path passed last
    → HasRoute now place member path passed last
route_stays was now {put} {pages} tidy writes place member path [] last holds = (pieces_stay_around [] [] [] put pages was now tidy writes place last holds (no_place place)).1
route_stays was now {put} {pages} tidy writes place member path (first ∷ more) last route = (
  ((route.0).0, (pieces_stay_around [] [] [] put pages was now tidy writes place (route.0).0 (route.0).1 (no_place place)).1, (route.0).2),
  route_stays was now {put = put} {pages = pages} tidy writes (place_named first.proxy) first.member (drop first.used path) more last route.1,
)

-- The content of what is put was written, where it is too long for an item: it may be named.
pub record WritesPut (put : Put) (pages : ℕ) (was now : Held) : Type 0 where
  pub tidy : IsTidy now
  pub moves : MovesRecords [] [] [] (put_lists put) pages was now
  pub may : MayPut now put

none_more : (all gone : List Far) → IsPermutation (all ++ gone) all → gone ≡ []
none_more all [] same = refl
none_more all (far ∷ gone) same =
    let sums = sum_by-IsPermutation (λ (f : Far). 1) (all ++ far ∷ gone) all same in
    let parts = sum_by-append (λ (f : Far). 1) all (far ∷ gone) in
    let one = sum_by-cons (λ (f : Far). 1) far gone in
    absurd (omega (arith, sums, parts, one))

listed_once : (put : Put) → AreOnce (put_lists put)
listed_once (Content content None) = tt
listed_once (Content content (Some first)) = (no_place first, tt)
listed_once (Child position node) = by_list node.list
  where
    by_list : (list : Option ℕ) → AreOnce (option_to_list list)
    by_list None = tt
    by_list (Some first) = (no_place first, tt)

listed_as : (put : Put) (first : ℕ) → Contains (put_lists put) first → put_list put ≡ Some first
listed_as (Content content list) first among = by_list list among
  where
    by_list : (o : Option ℕ) → Contains (option_to_list o) first → o ≡ Some first
    by_list None none = absurd (no_place first none)
    by_list (Some other) here = ap Some (sym (one_place other first here))
listed_as (Child position node) first among = by_list node.list among
  where
    by_list : (o : Option ℕ) → Contains (option_to_list o) first → o ≡ Some first
    by_list None none = absurd (no_place first none)
    by_list (Some other) here = ap Some (sym (one_place other first here))

-- a change gives up as an edit does
pub change_tells : {D : Type 0} (d : Ghosts D) (rules : List Rule) (change : Put) (place : RecordPlace) (position : ℕ) (path : List ℕ) (r0 r1 : Records) (x0 x1 : D)
    → (passed : List PassedRecord) (last : Piece) (e : StoreError) → NotChangedAlong d passed last rules change place position path e r0 r1 x0 x1 → IsSome (edit_error e)
change_tells d rules change place position path r0 r1 x0 x1 passed last store.Disk refused = refl
change_tells d rules change place position path r0 r1 x0 x1 passed last store.Full refused = refl
change_tells d rules change place position path r0 r1 x0 x1 passed last (store.Damaged page) refused = refl
change_tells d rules change place position path r0 r1 x0 x1 passed last store.Memory refused = refl
change_tells d rules change place position path r0 r1 x0 x1 passed last store.Ended refused = absurd refused
change_tells d rules change place position path r0 r1 x0 x1 passed last store.Exists refused = absurd refused
change_tells d rules change place position path r0 r1 x0 x1 passed last store.NotAStore refused = absurd refused

-- looks at the document, and an edit behind them
module _ {D : Type 0} (d : Ghosts D) (r0 r1 : Records) (x0 x1 : D) (still : IsStill d x0 x1) where
  pub left_there : has_ended r0 ≡ false → LeavesRecords r0 r1 → LeavesLastCommit d r0 r1 x0 x1
  left_there runs leaves = (leaves_runs {r0 = r0} {r1 = r1} runs leaves, leaves_saved {d = d} {r0 = r0} {r1 = r1} leaves still)

  pub seen_refused : (can : EditError → Bool) (fault : OrderedTree → Option EditError) (needs : CutTree → Layout → ℕ) (entry : DocEntry) → can error.NoNode ≡ true
      → (Nowhere : Type 0) → (Nowhere → (document : CutTree) → HasDocument d r0 x0 (place_of entry.root) document → fault (tree_of document) ≡ Some error.NoNode)
      → (e : NavError) → IsRefused d Nowhere ⊥ (HoldsNoDocument d r0 x0 (place_of entry.root)) e r0 r1 x0 x1 → IsSomeAnd (seen_error e) (λ told. NotEdited d can fault needs entry told r0 r1 x0 x1)
  seen_refused can fault needs entry may Nowhere missing nav.NoNode refused = (may, left_there refused.1 refused.2, λ document has tidy counted. missing refused.0 document has)
  seen_refused can fault needs entry may Nowhere missing nav.Disk refused = refused
  seen_refused can fault needs entry may Nowhere missing nav.Write refused = absurd refused.0
  seen_refused can fault needs entry may Nowhere missing (nav.Damaged page) refused = (refused.1, λ document has tidy counted own. refused.0 document has)
  seen_refused can fault needs entry may Nowhere missing nav.Ended refused = refused
  seen_refused can fault needs entry may Nowhere missing nav.Memory refused = left_there refused.0 refused.1

  -- a fault is another one too
  pub fault_passed : (can : EditError → Bool) (fault other : OrderedTree → Option EditError) (needs : CutTree → Layout → ℕ) (entry : DocEntry) → ((t : OrderedTree) (e : EditError) → fault t ≡ Some e → other t ≡ Some e)
      → (e : EditError) → NotEdited d can fault (λ document layout. 0) entry e r0 r1 x0 x1 → NotEdited d can other needs entry e r0 r1 x0 x1
  fault_passed can fault other needs entry pass error.Disk refused = refused
  fault_passed can fault other needs entry pass (error.Damaged page) refused = refused
  fault_passed can fault other needs entry pass error.Ended refused = refused
  fault_passed can fault other needs entry pass error.Memory refused = refused
  fault_passed can fault other needs entry pass error.Full refused = record {
    runs = refused.runs;
    keeps = refused.keeps;
    none_free = refused.none_free;
    few = λ document has tidy counted. absurd (let less = (refused.few document has tidy counted).1 in omega (arith, less));
  }
  fault_passed can fault other needs entry pass error.NoNode refused = (refused.0, refused.1, λ document has tidy counted. pass (tree_of document) error.NoNode (refused.2 document has tidy counted))
  fault_passed can fault other needs entry pass error.BadPlace refused = (refused.0, refused.1, λ document has tidy counted. pass (tree_of document) error.BadPlace (refused.2 document has tidy counted))
  fault_passed can fault other needs entry pass error.Twice refused = (refused.0, refused.1, λ document has tidy counted. pass (tree_of document) error.Twice (refused.2 document has tidy counted))
  fault_passed can fault other needs entry pass error.NoContent refused = (refused.0, refused.1, λ document has tidy counted. pass (tree_of document) error.NoContent (refused.2 document has tidy counted))
  fault_passed can fault other needs entry pass error.TooLong refused = (refused.0, refused.1, λ document has tidy counted. pass (tree_of document) error.TooLong (refused.2 document has tidy counted))
  fault_passed can fault other needs entry pass error.TooDeep refused = (refused.0, refused.1, λ document has tidy counted. pass (tree_of document) error.TooDeep (refused.2 document has tidy counted))
  fault_passed can fault other needs entry pass error.TooMany refused = (refused.0, refused.1, λ document has tidy counted. pass (tree_of document) error.TooMany (refused.2 document has tidy counted))
  fault_passed can fault other needs entry pass (error.TooHeavy heavy) refused = (refused.0, refused.1, λ document has tidy counted. pass (tree_of document) (error.TooHeavy heavy) (refused.2 document has tidy counted))

  -- an edit that writes a content, makes a change and frees what it dropped
  module _ (can : EditError → Bool) (fault : OrderedTree → Option EditError) (edit : OrderedTree → OrderedTree) (entry : DocEntry) (runs : has_ended r0 ≡ false) (leaves : LeavesRecords r0 r1)
      (free : OfEntry d r0 x0 entry (λ now document layout. fault (tree_of document) ≡ None)) (rules : List Rule) (put : Put) (pages : ℕ) (path : List ℕ)
      (fits : OfEntry d r0 x0 entry (λ now document layout. IsFitting (now.settings).k rules put path edit document)) where
    abbrev pub NotChanged : EditError → Records → D → Type 0
    NotChanged e r x = NotEdited d can fault (edit_needs edit (kept_by_put put path) pages) entry e r0 r x0 x

    -- the content wasn't written
    pub write_refused : (r2 : Records) (x2 : D) → IsStill d x1 x2 → (e : StoreError) → NotStored d (λ was. pages) (λ was. ⊥) 0 e r1 r2 x1 x2 → IsSomeAnd (edit_error e) (λ told. NotChanged told r2 x2)
    write_refused r2 x2 second store.Disk refused = (later_rose (d.faults x0) (d.faults x1) (d.faults x2) still.faults_later refused.0, ends_behind {r0 = r0} {r1 = r1} {r2 = r2} (left_there runs leaves).0 refused.1)
    write_refused r2 x2 second store.Full refused = record {
      runs = runs_then {r0 = r0} {r1 = r1} {r2 = r2} (left_there runs leaves).0 refused.runs;
      keeps = saved_then {d = d} {r0 = r0} {r1 = r1} {r2 = r2} {x0 = x0} {x1 = x1} {x2 = x2} (left_there runs leaves).1 refused.keeps;
      none_free = refused.none_free;
      few = λ document has tidy counted. (
        free document has tidy counted,
        (let few : (has.now).free < pages = refused.few has.saved has.now (leaves_stand {d = d} {r0 = r0} {r1 = r1} leaves still has.stands) in
            let all = top_needs has.now has.pieces entry document (has.laid).layout (has.laid).laid rules put path edit (fits document has tidy counted) pages in
            omega (arith, few, all)),
      );
    }
    write_refused r2 x2 second (store.Damaged page) refused = (
      ends_behind {r0 = r0} {r1 = r1} {r2 = r2} (left_there runs leaves).0 refused.ends,
      λ document has tidy counted own. refused.lacks has.saved has.now (leaves_stand {d = d} {r0 = r0} {r1 = r1} leaves still has.stands),
    )
    write_refused r2 x2 second store.Ended refused = absurd (false≢true (sym ((left_there runs leaves).0).after ∙ refused.0))
    write_refused r2 x2 second store.Memory refused = (
      runs_then {r0 = r0} {r1 = r1} {r2 = r2} (left_there runs leaves).0 refused.0,
      saved_then {d = d} {r0 = r0} {r1 = r1} {r2 = r2} {x0 = x0} {x1 = x1} {x2 = x2} (left_there runs leaves).1 refused.1,
    )
    write_refused r2 x2 second store.Exists refused = absurd refused
    write_refused r2 x2 second store.NotAStore refused = absurd refused

    -- it was
    module _ (r2 : Records) (x2 : D) (wrote : RunsOn r1 r2) (kept : KeepsSaved d r1 r2 x1 x2) (second : IsStill d x1 x2)
        (writes : (saved was : Held) → StandsFor d r1 x1 saved was → IsTidy was → (now : Held) × StandsFor d r2 x2 saved now × WritesPut put pages was now) (passed : List PassedRecord) (last : Piece)
        (route : (document : CutTree) (has : HasDocument d r0 x0 (place_of entry.root) document) → HasRoute has.now (place_of entry.root) 0 path passed last) where
      run : RunsOn r0 r2
      run = runs_then {r0 = r0} {r1 = r1} {r2 = r2} (left_there runs leaves).0 wrote

      keep : KeepsSaved d r0 r2 x0 x2
      keep = saved_then {d = d} {r0 = r0} {r1 = r1} {r2 = r2} {x0 = x0} {x1 = x1} {x2 = x2} (left_there runs leaves).1 kept

      -- the document in between, and what the path passes
      pub record IsBetween (document : CutTree) (has : HasDocument d r0 x0 (place_of entry.root) document) : Type 0 where
        pub mid : Held
        pub stands : StandsFor d r2 x2 has.saved mid
        pub written : WritesPut put pages has.now mid
        pub laid : IsLaidOutAs (held_by (piece_map mid)) (place_of entry.root) document (has.laid).layout
        pub fitting : IsFitting (mid.settings).k rules put path edit document
        pub may : MayChangeAlong mid put (place_of entry.root) 0 path passed last

      between : (document : CutTree) (has : HasDocument d r0 x0 (place_of entry.root) document) → IsTidy has.now → entry.nodes ≡ document_size document → IsBetween document has
      between document has tidy counted =
          let wrote = writes has.saved has.now (leaves_stand {d = d} {r0 = r0} {r1 = r1} leaves still has.stands) tidy in
          let put_there = wrote.2 in
          record {
            mid = wrote.0;
            stands = wrote.1;
            written = put_there;
            laid = laid_then has.now wrote.0 tidy put_there.moves put_there.tidy has.pieces entry document (has.laid).layout (has.laid).laid (piece_map wrote.0);
            fitting = subst (λ (s : Settings). IsFitting s.k rules put path edit document) (sym (put_there.moves).settings) (fits document has tidy counted);
            may = (route_stays has.now wrote.0 tidy put_there.moves (place_of entry.root) 0 path passed last (route document has), put_there.may);
          }

      pub change_refused : (r3 : Records) (x3 : D) (e : StoreError) → NotChangedAlong d passed last rules put (place_of entry.root) 0 path e r2 r3 x2 x3 → IsSomeAnd (edit_error e) (λ told. NotChanged told r3 x3)
      change_refused r3 x3 store.Disk refused = (later_rose (d.faults x0) (d.faults x2) (d.faults x3) (still_then still second).faults_later refused.0, ends_behind {r0 = r0} {r1 = r2} {r2 = r3} run refused.1)
      change_refused r3 x3 store.Full refused = record {
        runs = runs_then {r0 = r0} {r1 = r2} {r2 = r3} run refused.runs;
        keeps = saved_then {d = d} {r0 = r0} {r1 = r2} {r2 = r3} {x0 = x0} {x1 = x2} {x2 = x3} keep refused.keeps;
        none_free = refused.none_free;
        few = λ document has tidy counted. (
          free document has tidy counted,
          (let b = between document has tidy counted in
              let few = refused.few has.saved b.mid (piece_map b.mid) (Grown (laid_near document.node) (has.laid).layout Bare) b.stands (b.written).tidy (top_interval b.mid (piece_map b.mid) entry document (has.laid).layout b.laid rules put path edit b.fitting)
              (top_possible b.mid (piece_map b.mid) entry document (has.laid).layout b.laid rules put path edit b.fitting) (b.written).may (b.may).0 in
              let less : (has.now).free ≤ b.mid.free + pages = ((b.written).moves).free in
              let all = top_needs b.mid (piece_map b.mid) entry document (has.laid).layout b.laid rules put path edit b.fitting pages in
              omega (arith, few, less, all)),
        );
      }
      change_refused r3 x3 (store.Damaged page) refused = (
        ends_behind {r0 = r0} {r1 = r2} {r2 = r3} run refused.0,
        λ document has tidy counted own.
            let b = between document has tidy counted in
            refused.1 has.saved b.mid (piece_map b.mid) (Grown (laid_near document.node) (has.laid).layout Bare) b.stands (b.written).tidy (top_interval b.mid (piece_map b.mid) entry document (has.laid).layout b.laid rules put path edit b.fitting)
            (top_possible b.mid (piece_map b.mid) entry document (has.laid).layout b.laid rules put path edit b.fitting) (b.written).may (b.may).0,
      )
      change_refused r3 x3 store.Memory refused = (
        runs_then {r0 = r0} {r1 = r2} {r2 = r3} run refused.0,
        saved_then {d = d} {r0 = r0} {r1 = r2} {r2 = r3} {x0 = x0} {x1 = x2} {x2 = x3} keep refused.1,
      )
      change_refused r3 x3 store.Ended refused = absurd refused
      change_refused r3 x3 store.Exists refused = absurd refused
      change_refused r3 x3 store.NotAStore refused = absurd refused

      module _ (r3 : Records) (x3 : D) (row : Row) (gone : List Far)
          (comes : ComesTidyWhere d r2 r3 x2 x3 (λ was. MayChangeAlong was put (place_of entry.root) 0 path passed last) (ChangesKnown rules None 0 None put (place_of entry.root) 0 path row gone)) where
        -- what the change made of a document of the entry
        pub record IsMade (document : CutTree) (has : HasDocument d r0 x0 (place_of entry.root) document) : Type 0 where
          pub b : IsBetween document has
          pub now : Held
          pub stands : StandsFor d r3 x3 has.saved now
          pub tidy : IsTidy now
          pub replaced : IsReplaced (b.mid.settings).k (AreSplitOf b.mid.settings rules 0 None (changed_interval rules put 0 path (Grown (laid_near document.node) (has.laid).layout Bare))) (place_of entry.root)
              (Grown (laid_near document.node) (has.laid).layout Bare) (kept_around put 0 path (Grown (laid_near document.node) (has.laid).layout Bare)) (put_lists put)
              (places_off true (0 ∷ way_of put path) (Grown (laid_near document.node) (has.laid).layout Bare)) row.proxies gone b.mid now

        made_of : (document : CutTree) (has : HasDocument d r0 x0 (place_of entry.root) document) → IsTidy has.now → entry.nodes ≡ document_size document → IsMade document has
        made_of document has tidy counted =
            let b = between document has tidy counted in
            let next = comes has.saved b.mid b.stands (b.written).tidy b.may in
            record {
              b = b;
              now = next.0;
              stands = next.1;
              tidy = next.2;
              replaced = (((next.3).1 (piece_map b.mid) (Grown (laid_near document.node) (has.laid).layout Bare) (top_interval b.mid (piece_map b.mid) entry document (has.laid).layout b.laid rules put path edit b.fitting)
                  (top_possible b.mid (piece_map b.mid) entry document (has.laid).layout b.laid rules put path edit b.fitting)).0).0;
            }

        -- no proxy comes for no document of the entry
        pub none_came : row.proxies ≡ [] → HasNone d r0 x0 entry
        none_came none document has tidy counted own =
            let m = made_of document has tidy counted in
            some_proxy (m.b).mid (piece_map (m.b).mid) entry document (has.laid).layout (m.b).laid rules put path edit (m.b).fitting row.proxies gone m.now m.replaced none

        -- none is dropped where all nodes are kept
        pub all_kept : ((members : Layout) → kept_around put 0 path members ≡ nodes_in members) → (document : CutTree) (has : HasDocument d r0 x0 (place_of entry.root) document) → IsTidy has.now → entry.nodes ≡ document_size document → gone ≡ []
        all_kept kept document has tidy counted =
            let top : Layout = Grown (laid_near document.node) (has.laid).layout Bare in
            none_more (fars_of (nodes_in top)) gone (subst (λ (ns : List LaidNode). IsPermutation (fars_of ns ++ gone) (fars_of (nodes_in top))) (kept top) ((made_of document has tidy counted).replaced).contents_went)

        -- in between no record names what was dropped
        dropped : (document : CutTree) (has : HasDocument d r0 x0 (place_of entry.root) document) → (tidy : IsTidy has.now) → (counted : entry.nodes ≡ document_size document) → AreOwn has.now (document_places entry document (has.laid).layout) (contents_of (has.laid).layout)
            → AreUnnamed (made_of document has tidy counted).now gone
        dropped document has tidy counted own =
            let m = made_of document has tidy counted in
            let b = m.b in
            let one = one_row b.mid (piece_map b.mid) entry document (has.laid).layout b.laid rules put path edit b.fitting row.proxies gone m.now m.replaced in
            gone_unnamed has.now b.mid tidy (b.written).moves (b.written).tidy has.pieces entry document (has.laid).layout (has.laid).laid own m.tidy m.replaced (kept_by_put put path (has.laid).layout)
            (top_kept b.mid (piece_map b.mid) entry document (has.laid).layout b.laid rules put path edit b.fitting) (listed_once put) (λ first among. (_, ((b.written).may first (listed_as put first among)).0)) (λ first among. ((b.written).may first (listed_as put first among)).1)
            one.place one.root.node one.below (row_is b.mid (piece_map b.mid) entry document (has.laid).layout b.laid rules put path edit b.fitting row.proxies gone m.now m.replaced)

        module _ (on : RunsOn r2 r3) (then : KeepsSaved d r2 r3 x2 x3) (third : IsStill d x2 x3) (r4 : Records) (x4 : D) where
          pub run_on : RunsOn r0 r3
          run_on = runs_then {r0 = r0} {r1 = r2} {r2 = r3} run on

          pub keep_on : KeepsSaved d r0 r3 x0 x3
          keep_on = saved_then {d = d} {r0 = r0} {r1 = r2} {r2 = r3} {x0 = x0} {x1 = x2} {x2 = x3} keep then

          pub free_refused : (e : StoreError) → NotFreed d gone e r3 r4 x3 x4 → IsSomeAnd (edit_error e) (λ told. NotChanged told r4 x4)
          free_refused store.Disk refused = (later_rose (d.faults x0) (d.faults x3) (d.faults x4) (still_then (still_then still second) third).faults_later refused.0, ends_behind {r0 = r0} {r1 = r3} {r2 = r4} run_on refused.1)
          free_refused (store.Damaged page) refused = (
            ends_behind {r0 = r0} {r1 = r3} {r2 = r4} run_on refused.0,
            λ document has tidy counted own. let m = made_of document has tidy counted in refused.1 has.saved m.now m.stands m.tidy (dropped document has tidy counted own),
          )
          free_refused store.Memory refused = (
            runs_then {r0 = r0} {r1 = r3} {r2 = r4} run_on refused.0,
            saved_then {d = d} {r0 = r0} {r1 = r3} {r2 = r4} {x0 = x0} {x1 = x3} {x2 = x4} keep_on refused.1,
          )
          free_refused store.Ended refused = absurd refused
          free_refused store.Exists refused = absurd refused
          free_refused store.NotAStore refused = absurd refused
          free_refused store.Full refused = absurd refused

          pub came : ComesTidyWhere d r3 r4 x3 x4 (λ was. AreUnnamed was gone) (λ was now. MovesRecords [] [] (firsts gone) [] 0 was now) → (proxy : Proxy) (rest : List Proxy) (new : DocEntry) → row.proxies ≡ proxy ∷ rest → place_of new.root ≡ place_named proxy
              → ((document : CutTree) → HasDocument d r0 x0 (place_of entry.root) document → entry.nodes ≡ document_size document → new.nodes ≡ 1 + nodes (edit (tree_of document)).below)
              → EditsDocument d r0 r4 x0 x4 (λ settings document. Splits settings rules (changed rules put path document)) true (way_of put path) (kept_by_put put path) pages entry new
          came frees proxy rest new one place count saved was pieces document layout stands tidy laid counted own =
              let has : HasDocument d r0 x0 (place_of entry.root) document = record { saved = saved; now = was; stands = stands; pieces = pieces; laid = record { layout = layout; laid = laid } } in
              let m = made_of document has tidy counted in
              let b = m.b in
              let now = frees saved m.now m.stands m.tidy (dropped document has tidy counted own) in
              let single = one_row b.mid (piece_map b.mid) entry document layout b.laid rules put path edit b.fitting row.proxies gone m.now m.replaced in
              let splits = splits_now b.mid (piece_map b.mid) entry document layout b.laid rules put path edit b.fitting row.proxies gone m.now m.replaced in
              let size = now_size b.mid (piece_map b.mid) entry document layout b.laid rules put path edit b.fitting row.proxies gone m.now m.replaced in
              let top = top_is b.mid (piece_map b.mid) entry document layout b.laid rules put path edit b.fitting row.proxies gone m.now m.replaced proxy rest one in (
                now.0,
                now.1,
                now.2,
                finished was b.mid tidy (b.written).moves (b.written).tidy pieces entry document layout laid own m.tidy m.replaced (kept_by_put put path layout)
                    (top_kept b.mid (piece_map b.mid) entry document layout b.laid rules put path edit b.fitting) (listed_once put) (λ first among. (_, ((b.written).may first (listed_as put first among)).0)) (λ first among. ((b.written).may first (listed_as put first among)).1)
                    single.place single.root.node single.below (row_is b.mid (piece_map b.mid) entry document layout b.laid rules put path edit b.fitting row.proxies gone m.now m.replaced) now.3
                    (λ edited. Splits was.settings rules (changed rules put path document) edited) (kept_by_put put path) refl (places_off true (way_of put path) layout) (λ other among. Contains-append_left (places_off true (way_of put path) layout) [] other among)
                    (record { node = single.root.node; below = without_places single.below }) (subst (λ (s : Settings). Splits s rules (changed rules put path document) (record { node = single.root.node; below = without_places single.below })) ((b.written).moves).settings splits)
                    (is_document_now b.mid (piece_map b.mid) entry document layout b.laid rules put path edit b.fitting row.proxies gone m.now m.replaced) refl refl new (place ∙ ap place_named top) (count document has counted ∙ sym size),
              )

          pub keeps_on : RunsOn r3 r4 → KeepsSaved d r3 r4 x3 x4 → RunsOn r0 r4 × KeepsSaved d r0 r4 x0 x4
          keeps_on more keeps = (runs_then {r0 = r0} {r1 = r3} {r2 = r4} run_on more, saved_then {d = d} {r0 = r0} {r1 = r3} {r2 = r4} {x0 = x0} {x1 = x3} {x2 = x4} keep_on keeps)
