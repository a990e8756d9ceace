-- A node put into a document, behind the looks: its content is written, and the change made of the node above.
use Rattle.std.proofs.Common.{◌≡◌, ℕ, ◌+◌, ◌<◌, ◌≤◌, true, false, List, [], ◌∷◌, ◌++◌, length, Option, None, Some, refl, ap, ◌∙◌, subst, arith}
use Rattle.std.specs.Option.{IsSomeAnd, option_to_list}
use Rattle.nx_host.specs.declared.disk.Disk.{Ghosts}
use Rattle.nx_host.specs.Still.{IsStill}
use Rattle.nx_tree.specs.declared.node.Node.{Node}
use Rattle.nx_tree.specs.Forest.{OrderedTree, nodes}
use Rattle.nx_tree.specs.Document.{IsNode, deepest, most_nodes}
use Rattle.nx_tree.specs.Edit.{at, put as put_node, parent_path, last_position, place_refusal}
use Rattle.nx_weights.specs.Weight.{weight}
use Rattle.nx_records.specs.declared.records.Records.{Records}
use Rattle.nx_records.specs.declared.error.StoreError.{StoreError}
use Rattle.nx_records.specs.Records.{has_ended, ComesTo, KeepsSaved, LeavesRecords, StandsFor, settings_of}
use Rattle.nx_records.specs.Refusals.{RunsOn, NotStored}
use Rattle.nx_holdings.specs.Holdings.{Held}
use Rattle.nx_matrix.specs.declared.rule.Rule.{Rule}
use Rattle.nx_piece.specs.declared.piece.Far.{Far}
use Rattle.nx_piece.specs.declared.piece.Piece.{Piece}
use Rattle.nx_piece.specs.declared.piece.Proxy.{Proxy}
use Rattle.nx_piece.specs.PieceNode.{PieceNode}
use Rattle.nx_cuts.specs.Cut.{CutTree, tree_of}
use Rattle.nx_layouts.specs.Layout.{nodes_in, in_record}
use Rattle.nx_hold.specs.declared.entry.DocEntry.{DocEntry}
use Rattle.nx_hold.specs.Changes.{place_of, place_named, ComesTidyWhere}
use Rattle.nx_hold.specs.Contents.{content_pages, IsNodeHeld}
use Rattle.nx_hold.specs.Documents.{HasDocument, MovesRecords}
use Rattle.nx_hold.specs.Pieces.{IsTidy}
use Rattle.nx_hold.proofs.MoveLemmas.{moves_none}
use Rattle.nx_nav.specs.declared.routing.PassedRecord.{PassedRecord}
use Rattle.nx_nav.specs.Refusals.{OfEach}
use Rattle.nx_nav.specs.Route.{HasRoute}
use Rattle.nx_state.specs.State.{document_size}
use Rattle.nx_drawn.specs.Edits.{inserted}
use Rattle.nx_divide.specs.declared.dividing.Row.{Row}
use Rattle.nx_drawn.specs.Splits.{Splits}
use Rattle.nx_edit.specs.declared.error.EditError.{EditError}
use Rattle.nx_edit.specs.Removing.{AreUnnamed, HasNone, OfEntry}
use Rattle.nx_edit.specs.Editing.{EditsDocument}
use Rattle.nx_edit.specs.Refusals.{edit_error, edit_needs, NotEdited}
use Rattle.nx_edit.specs.Inserting.{insertion_fault, is_of_insertion}
use Rattle.nx_edit.specs.Changing.{Put, Child, ChangesKnown, MayChangeAlong, NotChangedAlong}
use Rattle.nx_edit.proofs.FreeLemmas.{firsts}
use Rattle.nx_edit.proofs.DocumentLemmas.{IsFitting, WritesPut, write_refused, change_refused, none_came, all_kept, came, run_on, keep_on}
use Rattle.nx_edit.proofs.InsertLemmas.{path_is, insert_allowed, insert_fits, insert_counts}
use Rattle.nx_edit.proofs.WriteLemmas.{writes_held}

no_path : (path : List ℕ) → 1 ≤ length path → path ≡ [] → ⊥
no_path path some none = let same = ap length none in omega (arith, some, same)

-- nothing is freed
pub frees_none : {D : Type 0} (d : Ghosts D) (r : Records) (x : D) → ComesTidyWhere d r r x x (λ was. AreUnnamed was []) (λ was now. MovesRecords [] [] (firsts []) [] 0 was now)
frees_none d r x saved was stands tidy unnamed = (was, stands, tidy, moves_none was)

module _ {D : Type 0} (d : Ghosts D) (entry : DocEntry) (node : Node) (path : List ℕ) (some : 1 ≤ length path) (r0 r1 : Records) (x0 x1 : D) (still : IsStill d x0 x1) (runs : has_ended r0 ≡ false) (leaves : LeavesRecords r0 r1)
    (placed : OfEach d r0 x0 (place_of entry.root) (λ document. (t : OrderedTree) × (at (tree_of document) (parent_path path) ≡ Some t) × (place_refusal node (last_position path) t ≡ None)))
    (shallow : length path ≤ deepest) (few : entry.nodes < most_nodes) (light : weight node ≤ (settings_of r0).k) (is_node : IsNode node) (rules : List Rule) where
  abbrev NotPut : EditError → Records → D → Type 0
  NotPut e r x = NotEdited d is_of_insertion (insertion_fault node path (settings_of r0).k) (edit_needs (put_node node path) nodes_in (content_pages node)) entry e r0 r x0 x

  abbrev put_of : Option ℕ → Put
  put_of list = Child (last_position path) (record { node = node; list = list })

  pub allowed : OfEntry d r0 x0 entry (λ now document layout. insertion_fault node path (settings_of r0).k (tree_of document) ≡ None)
  allowed = insert_allowed d entry node path (no_path path some) r0 r1 x0 x1 still runs leaves (last_position path) (parent_path path) refl refl placed shallow few light

  fits : (list : Option ℕ) → OfEntry d r0 x0 entry (λ now document layout. IsFitting (now.settings).k rules (put_of list) (parent_path path) (put_node node path) document)
  fits list = insert_fits d entry node path (no_path path some) r0 r1 x0 x1 still runs leaves (last_position path) (parent_path path) refl refl placed shallow few light is_node rules list

  pub hold_refused : (r2 : Records) (x2 : D) → IsStill d x1 x2 → (e : StoreError) → NotStored d (λ was. content_pages node) (λ was. ⊥) 0 e r1 r2 x1 x2 → IsSomeAnd (edit_error e) (λ told. NotPut told r2 x2)
  hold_refused r2 x2 second e refused =
      write_refused d r0 r1 x0 x1 still is_of_insertion (insertion_fault node path (settings_of r0).k) (put_node node path) entry runs leaves allowed rules (put_of None) (content_pages node) (parent_path path) (fits None) r2 x2 second e refused

  -- the node was held
  module _ (made : PieceNode) (list : Option ℕ) (is : made ≡ in_record (record { node = node; list = list })) (r2 : Records) (x2 : D) (second : IsStill d x1 x2) (wrote : RunsOn r1 r2) (kept : KeepsSaved d r1 r2 x1 x2)
      (comes : ComesTo d r1 r2 x1 x2 (λ was now. IsNodeHeld node made was now)) (passed : List PassedRecord) (last : Piece)
      (route : (document : CutTree) (has : HasDocument d r0 x0 (place_of entry.root) document) → HasRoute has.now (place_of entry.root) 0 (parent_path path) passed last) where
    writes : (saved was : Held) → StandsFor d r1 x1 saved was → IsTidy was → (now : Held) × StandsFor d r2 x2 saved now × WritesPut (put_of list) (content_pages node) was now
    writes = writes_held node made list is (put_of list) refl refl refl d r1 r2 x1 x2 comes

    pub put_refused : (r3 : Records) (x3 : D) (e : StoreError) → NotChangedAlong d passed last rules (put_of list) (place_of entry.root) 0 (parent_path path) e r2 r3 x2 x3 → IsSomeAnd (edit_error e) (λ told. NotPut told r3 x3)
    put_refused r3 x3 e refused =
        change_refused d r0 r1 x0 x1 still is_of_insertion (insertion_fault node path (settings_of r0).k) (put_node node path) entry runs leaves allowed rules (put_of list) (content_pages node) (parent_path path) (fits list) r2 x2 wrote kept second writes passed last route r3 x3 e refused

    -- and the change was made
    abbrev Puts : (r3 : Records) (x3 : D) (row : Row) (gone : List Far) → Type 0
    Puts r3 x3 row gone = ComesTidyWhere d r2 r3 x2 x3 (λ was. MayChangeAlong was (put_of list) (place_of entry.root) 0 (parent_path path) passed last) (ChangesKnown rules None 0 None (put_of list) (place_of entry.root) 0 (parent_path path) row gone)

    pub put_none : (r3 : Records) (x3 : D) (row : Row) (gone : List Far) → Puts r3 x3 row gone → row.proxies ≡ [] → HasNone d r0 x0 entry
    put_none r3 x3 row gone puts none =
        none_came d r0 r1 x0 x1 still is_of_insertion (insertion_fault node path (settings_of r0).k) (put_node node path) entry runs leaves allowed rules (put_of list) (content_pages node) (parent_path path) (fits list) r2 x2 wrote kept second writes passed last route r3 x3 row gone puts none

    module _ (r3 : Records) (x3 : D) (on : RunsOn r2 r3) (then : KeepsSaved d r2 r3 x2 x3) (third : IsStill d x2 x3) (row : Row) (proxy : Proxy) (rest : List Proxy) (one : row.proxies ≡ proxy ∷ rest) (new : DocEntry) (root : place_of new.root ≡ place_named proxy)
        (count : new.nodes ≡ entry.nodes + 1) where
      put_counts : (document : CutTree) → HasDocument d r0 x0 (place_of entry.root) document → entry.nodes ≡ document_size document → new.nodes ≡ 1 + nodes (put_node node path (tree_of document)).below
      put_counts document has counted = count ∙ insert_counts d entry node path (no_path path some) r0 r1 x0 x1 still runs leaves (last_position path) (parent_path path) refl refl placed shallow few light document has counted

      -- no content goes
      none_dropped : (far : Far) → Puts r3 x3 row (far ∷ [])
          → EditsDocument d r0 r3 x0 x3 (λ settings document. Splits settings rules (inserted rules node (parent_path path ++ last_position path ∷ []) document)) true (parent_path path ++ last_position path ∷ []) nodes_in (content_pages node) entry new
      none_dropped far puts saved was pieces document layout stands tidy laid counted own =
          let none : far ∷ [] ≡ [] =
          all_kept d r0 r1 x0 x1 still is_of_insertion (insertion_fault node path (settings_of r0).k) (put_node node path) entry runs leaves allowed rules (put_of list) (content_pages node) (parent_path path) (fits list) r2 x2 wrote kept second writes passed last route r3 x3 row (far ∷ []) puts
          (λ members. refl) document (record { saved = saved; now = was; stands = stands; pieces = pieces; laid = record { layout = layout; laid = laid } }) tidy counted in
          absurd (cc)

      by_gone : (gone : Option Far) → Puts r3 x3 row (option_to_list gone)
          → EditsDocument d r0 r3 x0 x3 (λ settings document. Splits settings rules (inserted rules node (parent_path path ++ last_position path ∷ []) document)) true (parent_path path ++ last_position path ∷ []) nodes_in (content_pages node) entry new
      by_gone None puts =
          came d r0 r1 x0 x1 still is_of_insertion (insertion_fault node path (settings_of r0).k) (put_node node path) entry runs leaves allowed rules (put_of list) (content_pages node) (parent_path path) (fits list) r2 x2 wrote kept second writes passed last route r3 x3 row [] puts
          on then third r3 x3 (frees_none d r3 x3) proxy rest new one root put_counts
      by_gone (Some far) puts = none_dropped far puts

      pub put_came : (gone : Option Far) → Puts r3 x3 row (option_to_list gone) → EditsDocument d r0 r3 x0 x3 (λ settings document. Splits settings rules (inserted rules node path document)) true path nodes_in (content_pages node) entry new
      put_came gone puts =
          subst (λ (q : List ℕ). EditsDocument d r0 r3 x0 x3 (λ settings document. Splits settings rules (inserted rules node q document)) true q nodes_in (content_pages node) entry new)
          (path_is d entry node path (no_path path some) r0 r1 x0 x1 still runs leaves (last_position path) (parent_path path) refl refl placed) (by_gone gone puts)

    pub put_keeps : (r3 : Records) (x3 : D) (row : Row) (gone : List Far) → Puts r3 x3 row gone → RunsOn r2 r3 → KeepsSaved d r2 r3 x2 x3 → IsStill d x2 x3 → RunsOn r0 r3 × KeepsSaved d r0 r3 x0 x3
    put_keeps r3 x3 row gone puts on then third = (
      run_on d r0 r1 x0 x1 still is_of_insertion (insertion_fault node path (settings_of r0).k) (put_node node path) entry runs leaves allowed rules (put_of list) (content_pages node) (parent_path path) (fits list) r2 x2 wrote kept second writes passed last route r3 x3 row gone puts on then third r3 x3,
      keep_on d r0 r1 x0 x1 still is_of_insertion (insertion_fault node path (settings_of r0).k) (put_node node path) entry runs leaves allowed rules (put_of list) (content_pages node) (parent_path path) (fits list) r2 x2 wrote kept second writes passed last route r3 x3 row gone puts on then third r3 x3,
    )
