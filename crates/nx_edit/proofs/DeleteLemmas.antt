-- A tree taken out of a document, by the row of its root's interval.
use Rattle.std.proofs.Common.{◌≡◌, ℕ, ◌-◌, ◌<◌, List, [], ◌∷◌, ◌++◌, length, Option, None, Some, refl, sym, ap, ap₂, ◌∙◌, subst, arith, append-nil}
use Rattle.std.specs.Prelude.{◌==◌, ◌&&◌, true, false, Bool, if◌then◌else◌, IsSome, is_some, option_and_then, Result, Err, IfErr}
use Rattle.std.specs.Option.{option_map_or, option_or, IsSomeAnd}
use Rattle.std.proofs.lemmas.List.Elements.{Contains-append_left}
use Rattle.std.proofs.lemmas.List.Sums.{sum_by-cons}
use Rattle.nx_host.specs.declared.disk.Disk.{Ghosts}
use Rattle.nx_host.specs.Still.{IsStill}
use Rattle.nx_host.proofs.DiskLemmas.{still_then as later_still}
use Rattle.nx_tree.specs.declared.node.Kind.{Kind}
use Rattle.nx_tree.specs.declared.node.Node.{Node}
use Rattle.nx_tree.specs.declared.error.TreeError.{TreeError}
use Rattle.nx_tree.specs.declared.error.TreeError.TheVariants as tree
use Rattle.nx_tree.specs.Forest.{OrderedTree, nodes}
use Rattle.nx_tree.specs.Document.{IsDocument, is_element}
use Rattle.nx_tree.specs.Edit.{at, cut_at, delete_refusal}
use Rattle.nx_tree.proofs.KeptLemmas.{document_cut}
use Rattle.nx_holdings.specs.Holdings.{Held}
use Rattle.nx_records.specs.declared.records.Records.{Records}
use Rattle.nx_records.specs.declared.error.StoreError.{StoreError}
use Rattle.nx_records.specs.declared.error.StoreError.TheVariants as store
use Rattle.nx_records.specs.Records.{has_ended, KeepsSaved, LeavesRecords}
use Rattle.nx_records.proofs.LeaveLemmas.{leaves_stand}
use Rattle.nx_records.specs.Refusals.{RunsOn}
use Rattle.nx_piece.specs.declared.piece.Far.{Far}
use Rattle.nx_piece.specs.declared.piece.Piece.{Piece}
use Rattle.nx_piece.specs.declared.piece.Proxy.{Proxy}
use Rattle.nx_cuts.specs.Cut.{CutForest, CutTree, Bare, Grown, Kept, forest, tree_of, AreParts}
use Rattle.nx_layouts.specs.Layout.{RecordPlace, LaidNode, Layout, AreHeld, laid_near, piece_of, contents_of, proxies_of, proxy_of, without_places, whole, IsLaidOutAs}
use Rattle.nx_layouts.proofs.PlaceLemmas.{no_place}
use Rattle.nx_hold.specs.declared.entry.DocEntry.{DocEntry}
use Rattle.nx_hold.specs.Changes.{place_of, place_named, ComesTidyWhere}
use Rattle.nx_hold.specs.Contents.{AreOwn, near_pages, content_pages, bytes_pages}
use Rattle.nx_hold.specs.Pieces.{IsTidy, PieceMap, held_by}
use Rattle.nx_hold.specs.Documents.{HasDocument, MovesRecords}
use Rattle.nx_hold.proofs.MapLemmas.{piece_map, held_at}
use Rattle.nx_hold.proofs.MoveLemmas.{moves_none}
use Rattle.nx_hold.proofs.RefusalLemmas.{runs_then, saved_then}
use Rattle.nx_nav.specs.declared.error.NavError.{NavError}
use Rattle.nx_nav.specs.declared.finding.Outlined.{Outlined}
use Rattle.nx_nav.specs.declared.routing.PassedRecord.{PassedRecord}
use Rattle.nx_nav.specs.Route.{HasRoute}
use Rattle.nx_nav.specs.Refusals.{OfEach, HoldsNoDocument, IsRefused}
use Rattle.nx_nav.specs.Shows.{OutlinesNode}
use Rattle.nx_state.specs.State.{document_size}
use Rattle.nx_drawn.specs.Edits.{deleted}
use Rattle.nx_drawn.specs.Splits.{whole_document as whole_row}
use Rattle.nx_drawn.proofs.EditLemmas.{tree-deleted}
use Rattle.nx_edit.specs.declared.error.EditError.{EditError}
use Rattle.nx_edit.specs.declared.error.EditError.TheVariants as error
use Rattle.nx_edit.specs.Removing.{document_places, OfEntry, HasNone, AreUnnamed, NotFreed}
use Rattle.nx_edit.specs.Editing.{places_off, nodes_off, IsEdited, EditsDocument}
use Rattle.nx_edit.specs.Refusals.{refused_by, deletion_fault, is_of_path, edit_needs, edit_error, seen_error, NotEdited}
use Rattle.nx_edit.specs.Rows.{row_nodes, deleted_row, IsHeldInterval, IsReplaced, left_of, left_needs, IsLeftOf, TreeGoes, DeletesAlong, NotDeletedAlong}
use Rattle.nx_edit.proofs.RemoveLemmas.{later_rose, ends_behind}
use Rattle.nx_edit.proofs.FreeLemmas.{firsts}
use Rattle.nx_edit.proofs.FinishLemmas.{root_near, gone_unnamed, finished}
use Rattle.nx_edit.proofs.DocumentLemmas.{left_there, seen_refused}

-- the error that a `?` hands on
pub handed_on : {T E : Type 0} (r : Result T E) (P : E → Type 0) (e : E) → (y : E) × (r ≡ Err y) × (y ≡ e) → P e → IfErr r P
handed_on r P e p h = subst (λ x. IfErr x P) (sym p.1) (subst P (sym p.2) h)

-- What goes from a document goes from the row of its root's interval.
deleted_is_row : (path : List ℕ) (document : CutTree) → (path ≡ [] → ⊥) → deleted_row (0 ∷ path) (whole_row document) ≡ whole_row (deleted path document)
deleted_is_row [] document some = absurd (some refl)
deleted_is_row (position ∷ path) document some = refl

-- Why the tree at a path can't go:

pub fault_nowhere : (path : List ℕ) (t : OrderedTree) → (path ≡ [] → ⊥) → at t path ≡ None → deletion_fault path t ≡ Some error.NoNode
fault_nowhere [] t some none = absurd (some refl)
fault_nowhere (p ∷ path) t some none =
    subst (λ (o : Option OrderedTree). option_and_then refused_by (option_or (if is_some o then None else Some tree.NoNode) (if (length (p ∷ path) == 1) && option_map_or (λ x. is_element x.node.kind) o false then Some tree.BadPlace else None)) ≡ Some error.NoNode)
    (sym none) refl

-- a test of the node there says whether it can
pub refusal_there : (path : List ℕ) (t x : OrderedTree) → (path ≡ [] → ⊥) → at t path ≡ Some x → delete_refusal path t ≡ (if (length path == 1) && is_element x.node.kind then Some tree.BadPlace else None)
refusal_there [] t x some there = absurd (some refl)
refusal_there (p ∷ path) t x some there =
    subst (λ (o : Option OrderedTree). option_or (if is_some o then None else Some tree.NoNode) (if (length (p ∷ path) == 1) && option_map_or (λ y. is_element y.node.kind) o false then Some tree.BadPlace else None)
    ≡ (if (length (p ∷ path) == 1) && is_element x.node.kind then Some tree.BadPlace else None))
    (sym there) refl

pub chosen : (b : Bool) (e : Option TreeError) → b ≡ true → (if b then e else None) ≡ e
chosen b e is = subst (λ (c : Bool). (if c then e else None) ≡ e) (sym is) refl

pub not_chosen : (b : Bool) (e : Option TreeError) → b ≡ false → (if b then e else None) ≡ None
not_chosen b e is = subst (λ (c : Bool). (if c then e else None) ≡ None) (sym is) refl

-- Whole documents as rows:

abbrev first_of : Proxy → List Proxy → Proxy
first_of other [] = other
first_of other (p ∷ ps) = p

head_same : (a b : Proxy) → a ∷ [] ≡ b ∷ [] → a ≡ b
head_same a b e = ap (first_of a) e

-- The layout of a row that is a whole document's, but for where the root's content stands.
pub record IsWhole (row : Layout) (document : CutTree) : Type 0 where
  pub place : RecordPlace
  pub root : LaidNode
  pub below : Layout
  pub is : row ≡ Kept place (Grown root below Bare) Bare
  pub node : root.node ≡ document.node
  pub same : without_places below ≡ document.below

abbrev kept_members : CutForest → CutForest
kept_members Bare = Bare
kept_members (Grown node below beside) = Bare
kept_members (Kept mark members beside) = members

abbrev kept_beside : CutForest → CutForest
kept_beside Bare = Bare
kept_beside (Grown node below beside) = Bare
kept_beside (Kept mark members beside) = beside

abbrev grown_below : CutForest → CutForest
grown_below Bare = Bare
grown_below (Grown node below beside) = below
grown_below (Kept mark members beside) = Bare

abbrev grown_beside : CutForest → CutForest
grown_beside Bare = Bare
grown_beside (Grown node below beside) = beside
grown_beside (Kept mark members beside) = Bare

abbrev grown_node : Node → CutForest → Node
grown_node other Bare = other
grown_node other (Grown node below beside) = node
grown_node other (Kept mark members beside) = other

bare_without : (a : Layout) → without_places a ≡ Bare → a ≡ Bare
bare_without Bare e = refl
bare_without (Grown node below beside) e = absurd (cc)
bare_without (Kept place members beside) e = absurd (cc)

grown_without : (a : Layout) (node : Node) (below : CutForest) → without_places a ≡ Grown node below Bare → (n : LaidNode) × (b : Layout) × (a ≡ Grown n b Bare) × (n.node ≡ node) × (without_places b ≡ below)
grown_without Bare node below e = absurd (cc)
grown_without (Grown n b s) node below e =
    let bare : s ≡ Bare = bare_without s (ap grown_beside e) in
    (n, b, ap (λ (r : Layout). Grown n b r) bare, ap (grown_node node) e, ap grown_below e)
grown_without (Kept p m s) node below e = absurd (cc)

pub is_whole : (row : Layout) (document : CutTree) → without_places row ≡ whole_row document → IsWhole row document
is_whole Bare document e = absurd (cc)
is_whole (Grown n b s) document e = absurd (cc)
is_whole (Kept p m s) document e =
    let inner = grown_without m document.node document.below (ap kept_members e) in
    record {
      place = p;
      root = inner.0;
      below = inner.1;
      is = ap₂ (λ (a b : Layout). Kept p a b) inner.2 (bare_without s (ap kept_beside e));
      node = inner.3;
      same = inner.4;
    }

-- a document laid out in records, with a path that leads somewhere
module _ (was : Held) (pieces : PieceMap was) (entry : DocEntry) (path : List ℕ) (document : CutTree) (layout : Layout) (laid : IsLaidOutAs (held_by pieces) (place_of entry.root) document layout) (counted : entry.nodes ≡ document_size document) where
  abbrev root_row : Layout
  root_row = Grown (laid_near document.node) layout Bare

  root_nodes : row_nodes (without_places root_row) ≡ document_size document
  root_nodes =
      let e : nodes (forest (without_places layout)) ≡ nodes (forest document.below) = ap (λ (c : CutForest). nodes (forest c)) laid.same in
      omega (arith, e)

  pub root_interval : (x : OrderedTree) → at (tree_of document) path ≡ Some x → IsHeldInterval was pieces None (place_of entry.root) 0 path entry.nodes root_row
  root_interval x there = record {
    is = tt;
    held = laid.held;
    once = laid.once;
    light = laid.light;
    leads = subst (λ (c : CutForest). IsSome (at (record { node = document.node; below = forest c }) path)) (sym laid.same) (subst IsSome (sym there) refl);
    few = omega (arith, root_nodes, counted);
  }

  parts_below : AreParts (was.settings).k document.below
  parts_below = subst (AreParts (was.settings).k) laid.same laid.light.3.0

  tree_left : tree_of (deleted path document) ≡ cut_at path (tree_of document)
  tree_left = tree-deleted (was.settings).k path document parts_below

  row_left : (path ≡ [] → ⊥) → left_of 0 path root_row ≡ whole_row (deleted path document)
  row_left some =
      subst (λ (c : CutForest). deleted_row (0 ∷ path) (Kept tt (Grown document.node c Bare) Bare) ≡ whole_row (deleted path document)) (sym laid.same) (deleted_is_row path document some)

  whole_nodes : (t : CutTree) → row_nodes (whole_row t) ≡ document_size t
  whole_nodes t = omega arith

  -- the nodes off the path, and the root
  pub root_kept : (path ≡ [] → ⊥) → nodes_off false (0 ∷ path) root_row ≡ laid_near document.node ∷ nodes_off false path layout ++ []
  root_kept some = by_path path some
    where
      by_path : (p : List ℕ) → (p ≡ [] → ⊥) → nodes_off false (0 ∷ p) root_row ≡ laid_near document.node ∷ nodes_off false p layout ++ []
      by_path [] none = absurd (none refl)
      by_path (next ∷ p) none = refl

  kept_near : (path ≡ [] → ⊥) → near_pages (nodes_off false (0 ∷ path) root_row) ≡ near_pages (nodes_off false path layout)
  kept_near some =
      let same = ap (λ (ns : List LaidNode). near_pages ns) (root_kept some ∙ ap (λ (ns : List LaidNode). laid_near document.node ∷ ns) (append-nil (nodes_off false path layout))) in
      let sum = sum_by-cons (λ (n : LaidNode). option_map_or (λ first. 0) n.list (content_pages n.node)) (laid_near document.node) (nodes_off false path layout) in
      let bare = ap bytes_pages (laid.is_document).bare in
      omega (arith, same, sum, bare)

  pub root_needs : (path ≡ [] → ⊥) → left_needs 0 path root_row ≡ edit_needs (cut_at path) (nodes_off false path) 0 document layout
  root_needs some =
      let left : row_nodes (left_of 0 path root_row) ≡ document_size (deleted path document) = ap row_nodes (row_left some) ∙ whole_nodes (deleted path document) in
      let cut : nodes (forest (deleted path document).below) ≡ nodes (cut_at path (tree_of document)).below = ap (λ (t : OrderedTree). nodes t.below) tree_left in
      let near = kept_near some in
      omega (arith, left, cut, root_nodes, near)

  module _ (some : path ≡ [] → ⊥) (free : delete_refusal path (tree_of document) ≡ None) (went : ℕ) (proxies : List Proxy) (gone : List Far) (mid : Held)
      (r : IsReplaced (was.settings).k (IsLeftOf 0 path went root_row) (place_of entry.root) root_row (nodes_off false (0 ∷ path) root_row) [] (places_off false (0 ∷ path) root_row) proxies gone was mid) where
    row_whole : IsWhole r.row (deleted path document)
    row_whole = is_whole r.row (deleted path document) ((r.becomes).0 ∙ row_left some)

    is_document : IsDocument (tree_of (deleted path document))
    is_document = subst IsDocument (sym tree_left) (document_cut path (tree_of document) laid.is_document free)

    -- the root has no content, so it has no list
    root_is : row_whole.root ≡ laid_near (deleted path document).node
    root_is =
        let held = subst (λ (l : Layout). AreHeld (held_by (piece_map mid)) l) row_whole.is (r.held (piece_map mid)) in
        root_near mid row_whole.place row_whole.root row_whole.below Bare (held_at mid (piece_map mid) row_whole.place (piece_of (Grown row_whole.root row_whole.below Bare)) (held.0).there) (ap (λ (n : Node). n.content) row_whole.node ∙ is_document.bare)
        ∙ ap (λ (n : Node). laid_near n) row_whole.node

    row_is : r.row ≡ whole row_whole.place (deleted path document).node row_whole.below
    row_is = row_whole.is ∙ ap (λ (n : LaidNode). Kept row_whole.place (Grown n row_whole.below Bare) Bare) root_is

    proxies_whole : proxies ≡ proxy_of row_whole.place 1 ∷ []
    proxies_whole = r.proxies_are ∙ ap (λ (l : Layout). proxies_of l) row_whole.is

    pub not_none : proxies ≡ [] → ⊥
    not_none none = let e : proxy_of row_whole.place 1 ∷ [] ≡ [] = sym proxies_whole ∙ none in absurd (cc)

    module _ (tidy : IsTidy was) (tidier : IsTidy mid) (own : AreOwn was (document_places entry document layout) (contents_of layout)) where
      pub unnamed_then : AreUnnamed mid gone
      unnamed_then =
          gone_unnamed was was tidy (moves_none was) tidy pieces entry document layout laid own tidier r (nodes_off false path layout) (root_kept some) tt (λ list none. absurd (no_place list none)) (λ list none. absurd (no_place list none)) row_whole.place
          (deleted path document).node row_whole.below row_is

      pub edited_to : (now : Held) → MovesRecords [] [] (firsts gone) [] 0 mid now → (proxy : Proxy) (new : DocEntry) → proxies ≡ proxy ∷ [] → place_of new.root ≡ place_named proxy → new.nodes ≡ entry.nodes - went
          → IsEdited (λ edited. edited ≡ deleted path document) (nodes_off false path) 0 (document_size document) (document_places entry document layout) (places_off false path layout) layout new was now
      edited_to now frees proxy new one place count =
          let top : proxy ≡ proxy_of row_whole.place 1 = head_same proxy (proxy_of row_whole.place 1) (sym one ∙ proxies_whole) in
          let nodes_left : row_nodes (without_places r.row) ≡ document_size (deleted path document) = ap row_nodes ((r.becomes).0 ∙ row_left some) ∙ whole_nodes (deleted path document) in
          let counted_now : new.nodes ≡ document_size (deleted path document) = omega (arith, count, (r.becomes).1, nodes_left, root_nodes, counted) in
          finished was was tidy (moves_none was) tidy pieces entry document layout laid own tidier r (nodes_off false path layout) (root_kept some) tt (λ list none. absurd (no_place list none)) (λ list none. absurd (no_place list none)) row_whole.place
          (deleted path document).node row_whole.below row_is frees (λ edited. edited ≡ deleted path document) (nodes_off false path) refl (places_off false path layout) (λ other among. Contains-append_left (places_off false path layout) [] other among)
          (deleted path document) refl is_document refl row_whole.same new (place ∙ ap place_named top) counted_now

-- the call of delete, behind the look at the document
module _ {D : Type 0} (d : Ghosts D) (entry : DocEntry) (path : List ℕ) (some : path ≡ [] → ⊥) (r0 r1 : Records) (x0 x1 : D) (still : IsStill d x0 x1) where
  abbrev pub NotDeleted : EditError → Records → D → Type 0
  NotDeleted e r x = NotEdited d is_of_path (deletion_fault path) (edit_needs (cut_at path) (nodes_off false path) 0) entry e r0 r x0 x

  pub look_refused : (e : NavError) → IsRefused d (OfEach d r0 x0 (place_of entry.root) (λ document. at (tree_of document) path ≡ None)) ⊥ (HoldsNoDocument d r0 x0 (place_of entry.root)) e r0 r1 x0 x1
      → IsSomeAnd (seen_error e) (λ told. NotDeleted told r1 x1)
  look_refused e refused =
      seen_refused d r0 r1 x0 x1 still is_of_path (deletion_fault path) (edit_needs (cut_at path) (nodes_off false path) 0) entry refl (OfEach d r0 x0 (place_of entry.root) (λ document. at (tree_of document) path ≡ None))
      (λ none document has. fault_nowhere path (tree_of document) some (none document has)) e refused

  module _ (runs : has_ended r0 ≡ false) (leaves : LeavesRecords r0 r1) (shown : Outlined) (shows : OfEach d r0 x0 (place_of entry.root) (λ document. OutlinesNode (tree_of document) path shown)) where
    refusal_shown : (document : CutTree) → HasDocument d r0 x0 (place_of entry.root) document → delete_refusal path (tree_of document) ≡ (if (length path == 1) && is_element shown.kind then Some tree.BadPlace else None)
    refusal_shown document has =
        let there = shows document has in
        refusal_there path (tree_of document) there.0 some there.1
        ∙ ap (λ (k : Kind). if (length path == 1) && is_element k then Some tree.BadPlace else None) (sym there.2)

    pub root_refused : ((length path == 1) && is_element shown.kind) ≡ true → NotDeleted error.BadPlace r1 x1
    root_refused is = (refl, left_there d r0 r1 x0 x1 still runs leaves, λ document has tidy counted. ap (option_and_then refused_by) (refusal_shown document has ∙ chosen _ (Some tree.BadPlace) is))

    module _ (not : ((length path == 1) && is_element shown.kind) ≡ false) where
      refusal_none : (document : CutTree) → HasDocument d r0 x0 (place_of entry.root) document → delete_refusal path (tree_of document) ≡ None
      refusal_none document has = refusal_shown document has ∙ not_chosen _ (Some tree.BadPlace) not

      pub delete_allowed : OfEntry d r0 x0 entry (λ now document layout. deletion_fault path (tree_of document) ≡ None)
      delete_allowed document has tidy counted = ap (option_and_then refused_by) (refusal_none document has)

      interval_of : (document : CutTree) (has : HasDocument d r0 x0 (place_of entry.root) document) → entry.nodes ≡ document_size document
          → IsHeldInterval has.now has.pieces None (place_of entry.root) 0 path entry.nodes (Grown (laid_near document.node) (has.laid).layout Bare)
      interval_of document has counted =
          let there = shows document has in
          root_interval has.now has.pieces entry path document (has.laid).layout (has.laid).laid counted there.0 there.1

      module _ (passed : List PassedRecord) (last : Piece) (route : (document : CutTree) (has : HasDocument d r0 x0 (place_of entry.root) document) → HasRoute has.now (place_of entry.root) 0 path passed last) (r2 : Records) (x2 : D) where
        pub in_refused : (e : StoreError) → NotDeletedAlong d passed last (place_of entry.root) 0 path entry.nodes e r1 r2 x1 x2 → IsSomeAnd (edit_error e) (λ told. NotDeleted told r2 x2)
        in_refused store.Disk refused = (later_rose (d.faults x0) (d.faults x1) (d.faults x2) still.faults_later refused.0, ends_behind {r0 = r0} {r1 = r1} {r2 = r2} (left_there d r0 r1 x0 x1 still runs leaves).0 refused.1)
        in_refused store.Full refused = record {
          runs = runs_then {r0 = r0} {r1 = r1} {r2 = r2} (left_there d r0 r1 x0 x1 still runs leaves).0 refused.runs;
          keeps = saved_then {d = d} {r0 = r0} {r1 = r1} {r2 = r2} {x0 = x0} {x1 = x1} {x2 = x2} (left_there d r0 r1 x0 x1 still runs leaves).1 refused.keeps;
          none_free = refused.none_free;
          few = λ document has tidy counted. (
            delete_allowed document has tidy counted,
            subst (λ (n : ℕ). (has.now).free < n) (root_needs has.now has.pieces entry path document (has.laid).layout (has.laid).laid counted some)
                (refused.few has.saved has.now has.pieces (Grown (laid_near document.node) (has.laid).layout Bare) (leaves_stand {d = d} {r0 = r0} {r1 = r1} leaves still has.stands) tidy (interval_of document has counted) (route document has)),
          );
        }
        in_refused (store.Damaged page) refused = (
          ends_behind {r0 = r0} {r1 = r1} {r2 = r2} (left_there d r0 r1 x0 x1 still runs leaves).0 refused.0,
          λ document has tidy counted own.
              refused.1 has.saved has.now has.pieces (Grown (laid_near document.node) (has.laid).layout Bare) (leaves_stand {d = d} {r0 = r0} {r1 = r1} leaves still has.stands) tidy (interval_of document has counted) (route document has),
        )
        in_refused store.Memory refused = (
          runs_then {r0 = r0} {r1 = r1} {r2 = r2} (left_there d r0 r1 x0 x1 still runs leaves).0 refused.0,
          saved_then {d = d} {r0 = r0} {r1 = r1} {r2 = r2} {x0 = x0} {x1 = x1} {x2 = x2} (left_there d r0 r1 x0 x1 still runs leaves).1 refused.1,
        )
        in_refused store.Ended refused = absurd refused
        in_refused store.Exists refused = absurd refused
        in_refused store.NotAStore refused = absurd refused

        module _ (went : ℕ) (proxies : List Proxy) (gone : List Far) (goes : DeletesAlong d r1 r2 x1 x2 passed last (place_of entry.root) 0 path entry.nodes went proxies gone) where
          -- what became of a document of the entry
          replaced : (document : CutTree) (has : HasDocument d r0 x0 (place_of entry.root) document) → IsTidy has.now → entry.nodes ≡ document_size document
              → TreeGoes d r2 x2 has.saved (place_of entry.root) 0 path went proxies gone has.now (Grown (laid_near document.node) (has.laid).layout Bare)
          replaced document has tidy counted =
              goes has.saved has.now has.pieces (Grown (laid_near document.node) (has.laid).layout Bare) (leaves_stand {d = d} {r0 = r0} {r1 = r1} leaves still has.stands) tidy (interval_of document has counted) (route document has)

          -- nothing is left of no document of the entry
          pub in_none : proxies ≡ [] → HasNone d r0 x0 entry
          in_none none document has tidy counted own =
              let next = replaced document has tidy counted in
              not_none has.now has.pieces entry path document (has.laid).layout (has.laid).laid counted some (refusal_none document has) went proxies gone next.0 next.3 none

          -- in between no record names what was dropped
          dropped : (document : CutTree) (has : HasDocument d r0 x0 (place_of entry.root) document) (tidy : IsTidy has.now) (counted : entry.nodes ≡ document_size document) → AreOwn has.now (document_places entry document (has.laid).layout) (contents_of (has.laid).layout)
              → AreUnnamed (replaced document has tidy counted).0 gone
          dropped document has tidy counted own =
              let next = replaced document has tidy counted in
              unnamed_then has.now has.pieces entry path document (has.laid).layout (has.laid).laid counted some (refusal_none document has) went proxies gone next.0 next.3 tidy next.2 own

          module _ (on : RunsOn r1 r2) (kept : KeepsSaved d r1 r2 x1 x2) (still_then : IsStill d x1 x2) (r3 : Records) (x3 : D) where
            pub free_refused : (e : StoreError) → NotFreed d gone e r2 r3 x2 x3 → IsSomeAnd (edit_error e) (λ told. NotDeleted told r3 x3)
            free_refused store.Disk refused = (
              later_rose (d.faults x0) (d.faults x2) (d.faults x3) (later_still still still_then).faults_later refused.0,
              ends_behind {r0 = r0} {r1 = r2} {r2 = r3} (runs_then {r0 = r0} {r1 = r1} {r2 = r2} (left_there d r0 r1 x0 x1 still runs leaves).0 on) refused.1,
            )
            free_refused (store.Damaged page) refused = (
              ends_behind {r0 = r0} {r1 = r2} {r2 = r3} (runs_then {r0 = r0} {r1 = r1} {r2 = r2} (left_there d r0 r1 x0 x1 still runs leaves).0 on) refused.0,
              λ document has tidy counted own. let next = replaced document has tidy counted in refused.1 has.saved next.0 next.1 next.2 (dropped document has tidy counted own),
            )
            free_refused store.Memory refused = (
              runs_then {r0 = r0} {r1 = r2} {r2 = r3} (runs_then {r0 = r0} {r1 = r1} {r2 = r2} (left_there d r0 r1 x0 x1 still runs leaves).0 on) refused.0,
              saved_then {d = d} {r0 = r0} {r1 = r2} {r2 = r3} {x0 = x0} {x1 = x2} {x2 = x3}
                  (saved_then {d = d} {r0 = r0} {r1 = r1} {r2 = r2} {x0 = x0} {x1 = x1} {x2 = x2} (left_there d r0 r1 x0 x1 still runs leaves).1 kept) refused.1,
            )
            free_refused store.Ended refused = absurd refused
            free_refused store.Exists refused = absurd refused
            free_refused store.NotAStore refused = absurd refused
            free_refused store.Full refused = absurd refused

            pub in_done : ComesTidyWhere d r2 r3 x2 x3 (λ was. AreUnnamed was gone) (λ was now. MovesRecords [] [] (firsts gone) [] 0 was now) → (proxy : Proxy) (new : DocEntry) → proxies ≡ proxy ∷ [] → place_of new.root ≡ place_named proxy
                → new.nodes ≡ entry.nodes - went → EditsDocument d r0 r3 x0 x3 (λ settings document edited. edited ≡ deleted path document) false path (nodes_off false path) 0 entry new
            in_done frees proxy new one place count saved was pieces document layout stands tidy laid counted own =
                let has : HasDocument d r0 x0 (place_of entry.root) document = record { saved = saved; now = was; stands = stands; pieces = pieces; laid = record { layout = layout; laid = laid } } in
                let next = replaced document has tidy counted in
                let now = frees saved next.0 next.1 next.2 (dropped document has tidy counted own) in (
                  now.0,
                  now.1,
                  now.2,
                  edited_to was pieces entry path document layout laid counted some (refusal_none document has) went proxies gone next.0 next.3 tidy next.2 own now.0 now.3 proxy new one place count,
                )

            pub in_keeps : RunsOn r2 r3 → KeepsSaved d r2 r3 x2 x3 → RunsOn r0 r3 × KeepsSaved d r0 r3 x0 x3
            in_keeps more keeps = (
              runs_then {r0 = r0} {r1 = r2} {r2 = r3} (runs_then {r0 = r0} {r1 = r1} {r2 = r2} (left_there d r0 r1 x0 x1 still runs leaves).0 on) more,
              saved_then {d = d} {r0 = r0} {r1 = r2} {r2 = r3} {x0 = x0} {x1 = x2} {x2 = x3}
                  (saved_then {d = d} {r0 = r0} {r1 = r1} {r2 = r2} {x0 = x0} {x1 = x1} {x2 = x2} (left_there d r0 r1 x0 x1 still runs leaves).1 kept) keeps,
            )
