-- Another content in a document, behind the look at the node: it is written, the change made of the node, and the list of the old content goes.
use Rattle.std.proofs.Common.{◌≡◌, ℕ, ◌+◌, ◌≤◌, List, [], ◌∷◌, length, Option, None, Some, refl, ap, ◌∙◌, subst, arith}
use Rattle.std.specs.Prelude.{nat_le, true, false}
use Rattle.std.specs.Option.{IsSomeAnd}
use Rattle.std.proofs.lemmas.Bool.Decides.{nat_tests}
use Rattle.nx_host.specs.declared.disk.Disk.{Ghosts}
use Rattle.nx_host.specs.Still.{IsStill}
use Rattle.nx_tree.specs.declared.node.Node.{Node}
use Rattle.nx_tree.specs.Forest.{OrderedTree, nodes}
use Rattle.nx_tree.specs.Document.{longest_node}
use Rattle.nx_tree.specs.Edit.{at, has_children, retext}
use Rattle.nx_weights.specs.Weight.{weight}
use Rattle.nx_records.specs.declared.records.Records.{Records}
use Rattle.nx_records.specs.declared.error.StoreError.{StoreError}
use Rattle.nx_records.specs.Records.{has_ended, ComesTo, KeepsSaved, LeavesRecords, StandsFor, settings_of}
use Rattle.nx_records.specs.Refusals.{RunsOn, NotStored}
use Rattle.nx_holdings.specs.Holdings.{Held}
use Rattle.nx_matrix.specs.declared.rule.Rule.{Rule}
use Rattle.nx_piece.specs.declared.piece.Far.{Far}
use Rattle.nx_piece.specs.declared.piece.Piece.{Piece}
use Rattle.nx_piece.specs.declared.piece.Proxy.{Proxy}
use Rattle.nx_piece.specs.PieceNode.{PieceNode}
use Rattle.nx_cuts.specs.Cut.{CutTree, tree_of}
use Rattle.nx_layouts.specs.Layout.{in_record}
use Rattle.nx_layouts.specs.Setting.{near_part, far_part}
use Rattle.nx_hold.specs.declared.entry.DocEntry.{DocEntry}
use Rattle.nx_hold.specs.Changes.{place_of, place_named, ComesTidyWhere}
use Rattle.nx_hold.specs.Contents.{bytes_pages, content_pages, IsNodeHeld}
use Rattle.nx_hold.specs.Documents.{HasDocument, MovesRecords}
use Rattle.nx_hold.specs.Pieces.{IsTidy}
use Rattle.nx_nav.specs.declared.routing.PassedRecord.{PassedRecord}
use Rattle.nx_nav.specs.Refusals.{OfEach}
use Rattle.nx_nav.specs.Route.{HasRoute}
use Rattle.nx_state.specs.State.{document_size}
use Rattle.nx_drawn.specs.Edits.{retexted}
use Rattle.nx_divide.specs.declared.dividing.Row.{Row}
use Rattle.nx_drawn.specs.Splits.{Splits}
use Rattle.nx_edit.specs.declared.error.EditError.{EditError}
use Rattle.nx_edit.specs.Removing.{AreUnnamed, HasNone, OfEntry, NotFreed}
use Rattle.nx_edit.specs.Editing.{EditsDocument, nodes_off}
use Rattle.nx_edit.specs.Refusals.{edit_error, edit_needs, NotEdited}
use Rattle.nx_edit.specs.Retexting.{content_fault, is_of_content, other_content}
use Rattle.nx_edit.specs.Changing.{Content, ChangesKnown, MayChangeAlong, NotChangedAlong}
use Rattle.nx_edit.proofs.FreeLemmas.{firsts}
use Rattle.nx_edit.proofs.DocumentLemmas.{IsFitting, WritesPut, write_refused, change_refused, none_came, free_refused, came, keeps_on, run_on}
use Rattle.nx_edit.proofs.RetextLemmas.{retext_allowed, retext_fits, retext_counts}
use Rattle.nx_edit.proofs.WriteLemmas.{writes_held, near_own, far_own}

few_bytes : (a b : ℕ) → a ≤ b → nat_le a b ≡ true
few_bytes a b few = grind (arith, nat_tests, few)

module _ {D : Type 0} (d : Ghosts D) (entry : DocEntry) (content path : List ℕ) (r0 r1 : Records) (x0 x1 : D) (still : IsStill d x0 x1) (runs : has_ended r0 ≡ false) (leaves : LeavesRecords r0 r1) (node : Node)
    (there : OfEach d r0 x0 (place_of entry.root) (λ document. (t : OrderedTree) × (at (tree_of document) path ≡ Some t) × (node ≡ other_content content t))) (same : node.content ≡ content)
    (short : length node.name + length node.content ≤ longest_node) (leaf : has_children node.kind ≡ false) (light : weight node ≤ (settings_of r0).k) (rules : List Rule) where
  abbrev NotSet : EditError → Records → D → Type 0
  NotSet e r x = NotEdited d is_of_content (content_fault content path (settings_of r0).k) (edit_needs (retext content path) (nodes_off true path) (bytes_pages content)) entry e r0 r x0 x

  pub allowed : OfEntry d r0 x0 entry (λ now document layout. content_fault content path (settings_of r0).k (tree_of document) ≡ None)
  allowed = retext_allowed d entry content path r0 r1 x0 x1 still runs leaves node there (few_bytes (length node.name + length node.content) longest_node short) leaf light

  fits : (list : Option ℕ) → OfEntry d r0 x0 entry (λ now document layout. IsFitting (now.settings).k rules (Content content list) path (retext content path) document)
  fits list = retext_fits d entry content path r0 r1 x0 x1 still runs leaves node there (few_bytes (length node.name + length node.content) longest_node short) leaf light rules list

  pub hold_refused : (r2 : Records) (x2 : D) → IsStill d x1 x2 → (e : StoreError) → NotStored d (λ was. content_pages node) (λ was. ⊥) 0 e r1 r2 x1 x2 → IsSomeAnd (edit_error e) (λ told. NotSet told r2 x2)
  hold_refused r2 x2 second e refused =
      write_refused d r0 r1 x0 x1 still is_of_content (content_fault content path (settings_of r0).k) (retext content path) entry runs leaves allowed rules (Content content None) (bytes_pages content) path (fits None) r2 x2 second e
      (subst (λ (c : List ℕ). NotStored d (λ was. bytes_pages c) (λ was. ⊥) 0 e r1 r2 x1 x2) same refused)

  -- the node was held
  module _ (made : PieceNode) (list : Option ℕ) (is : made ≡ in_record (record { node = node; list = list })) where
    -- what is put
    pub set_near : made.node.content ≡ near_part content list
    set_near = ap (λ (n : PieceNode). n.node.content) is ∙ near_own node list ∙ ap (λ (c : List ℕ). near_part c list) same

    pub set_far : made.far ≡ far_part content list
    set_far = ap (λ (n : PieceNode). n.far) is ∙ far_own node list ∙ ap (λ (c : List ℕ). far_part c list) same

    module _ (r2 : Records) (x2 : D) (second : IsStill d x1 x2) (wrote : RunsOn r1 r2) (kept : KeepsSaved d r1 r2 x1 x2) (comes : ComesTo d r1 r2 x1 x2 (λ was now. IsNodeHeld node made was now)) (passed : List PassedRecord) (last : Piece)
        (route : (document : CutTree) (has : HasDocument d r0 x0 (place_of entry.root) document) → HasRoute has.now (place_of entry.root) 0 path passed last) where
      writes : (saved was : Held) → StandsFor d r1 x1 saved was → IsTidy was → (now : Held) × StandsFor d r2 x2 saved now × WritesPut (Content content list) (bytes_pages content) was now
      writes saved was stands tidy =
          let next = writes_held node made list is (Content node.content list) refl refl refl d r1 r2 x1 x2 comes saved was stands tidy in
          (next.0, next.1, subst (λ (c : List ℕ). WritesPut (Content c list) (bytes_pages c) was next.0) same next.2)

      pub set_refused : (r3 : Records) (x3 : D) (e : StoreError) → NotChangedAlong d passed last rules (Content content list) (place_of entry.root) 0 path e r2 r3 x2 x3 → IsSomeAnd (edit_error e) (λ told. NotSet told r3 x3)
      set_refused r3 x3 e refused =
          change_refused d r0 r1 x0 x1 still is_of_content (content_fault content path (settings_of r0).k) (retext content path) entry runs leaves allowed rules (Content content list) (bytes_pages content) path (fits list) r2 x2 wrote kept second writes passed last route r3 x3 e refused

      -- the change was made
      module _ (r3 : Records) (x3 : D) (row : Row) (gone : List Far)
          (sets : ComesTidyWhere d r2 r3 x2 x3 (λ was. MayChangeAlong was (Content content list) (place_of entry.root) 0 path passed last) (ChangesKnown rules None 0 None (Content content list) (place_of entry.root) 0 path row gone)) where
        pub set_none : row.proxies ≡ [] → HasNone d r0 x0 entry
        set_none none =
            none_came d r0 r1 x0 x1 still is_of_content (content_fault content path (settings_of r0).k) (retext content path) entry runs leaves allowed rules (Content content list) (bytes_pages content) path (fits list) r2 x2 wrote kept second writes passed last route r3 x3 row gone sets none

        -- and then the list of the old content went
        module _ (on : RunsOn r2 r3) (then : KeepsSaved d r2 r3 x2 x3) (third : IsStill d x2 x3) (r4 : Records) (x4 : D) where
          pub set_runs : RunsOn r0 r3
          set_runs =
              run_on d r0 r1 x0 x1 still is_of_content (content_fault content path (settings_of r0).k) (retext content path) entry runs leaves allowed rules (Content content list) (bytes_pages content) path (fits list) r2 x2 wrote kept second writes passed last route r3 x3 row gone sets
              on then third r4 x4

          pub unfreed : (e : StoreError) → NotFreed d gone e r3 r4 x3 x4 → IsSomeAnd (edit_error e) (λ told. NotSet told r4 x4)
          unfreed e refused =
              free_refused d r0 r1 x0 x1 still is_of_content (content_fault content path (settings_of r0).k) (retext content path) entry runs leaves allowed rules (Content content list) (bytes_pages content) path (fits list) r2 x2 wrote kept second writes passed last route r3 x3 row gone sets
              on then third r4 x4 e refused

          pub set_came : ComesTidyWhere d r3 r4 x3 x4 (λ was. AreUnnamed was gone) (λ was now. MovesRecords [] [] (firsts gone) [] 0 was now) → (proxy : Proxy) (rest : List Proxy) (new : DocEntry) → row.proxies ≡ proxy ∷ rest → place_of new.root ≡ place_named proxy
              → new.nodes ≡ entry.nodes → EditsDocument d r0 r4 x0 x4 (λ settings document. Splits settings rules (retexted content path document)) true path (nodes_off true path) (bytes_pages content) entry new
          set_came frees proxy rest new one root count =
              came d r0 r1 x0 x1 still is_of_content (content_fault content path (settings_of r0).k) (retext content path) entry runs leaves allowed rules (Content content list) (bytes_pages content) path (fits list) r2 x2 wrote kept second writes passed last route r3 x3 row gone sets
              on then third r4 x4 frees proxy rest new one root set_counts
            where
              set_counts : (document : CutTree) → HasDocument d r0 x0 (place_of entry.root) document → entry.nodes ≡ document_size document → new.nodes ≡ 1 + nodes (retext content path (tree_of document)).below
              set_counts document has counted = count ∙ retext_counts d entry content path r0 r1 x0 x1 still runs leaves node there (few_bytes (length node.name + length node.content) longest_node short) leaf light document has counted

          pub set_keeps : RunsOn r3 r4 → KeepsSaved d r3 r4 x3 x4 → RunsOn r0 r4 × KeepsSaved d r0 r4 x0 x4
          set_keeps more keeps =
              keeps_on d r0 r1 x0 x1 still is_of_content (content_fault content path (settings_of r0).k) (retext content path) entry runs leaves allowed rules (Content content list) (bytes_pages content) path (fits list) r2 x2 wrote kept second writes passed last route r3 x3 row gone sets
              on then third r4 x4 more keeps
