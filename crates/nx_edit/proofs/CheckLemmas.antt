-- The looks at a place of a document behind each other, and what they tell of a node that may come there.
use Rattle.std.proofs.Common.{◌≡◌, ℕ, Bool, true, false, List, length, Option, None, Some, refl, sym, ◌∙◌}
use Rattle.std.specs.Option.{IsSomeAnd, option_map_or}
use Rattle.nx_host.specs.declared.disk.Disk.{Ghosts}
use Rattle.nx_host.specs.Still.{IsStill}
use Rattle.nx_host.proofs.DiskLemmas.{still_then}
use Rattle.nx_tree.specs.declared.node.Kind.{Kind}
use Rattle.nx_tree.specs.declared.node.Node.{Node}
use Rattle.nx_tree.specs.Document.{is_attribute}
use Rattle.nx_tree.specs.Forest.{OrderedTree, trees_of}
use Rattle.nx_tree.specs.Edit.{at, is_unordered, is_repeated, place_refusal}
use Rattle.nx_records.specs.declared.records.Records.{Records}
use Rattle.nx_records.specs.Records.{has_ended, LeavesRecords}
use Rattle.nx_records.proofs.LeaveLemmas.{leaves_add_up}
use Rattle.nx_cuts.specs.Cut.{CutTree, tree_of}
use Rattle.nx_hold.specs.declared.entry.DocEntry.{DocEntry}
use Rattle.nx_hold.specs.Changes.{place_of}
use Rattle.nx_hold.specs.Documents.{HasDocument}
use Rattle.nx_nav.specs.declared.error.NavError.{NavError}
use Rattle.nx_nav.specs.declared.finding.Outlined.{Outlined}
use Rattle.nx_nav.specs.Refusals.{OfEach, HoldsNoDocument, IsRefused}
use Rattle.nx_nav.specs.Shows.{OutlinesNode, kind_below}
use Rattle.nx_edit.specs.declared.error.EditError.{EditError}
use Rattle.nx_edit.specs.declared.error.EditError.TheVariants as error
use Rattle.nx_edit.specs.Refusals.{seen_error, NotEdited}
use Rattle.nx_edit.specs.Inserting.{is_of_insertion, place_fault, OfParent}
use Rattle.nx_edit.proofs.DocumentLemmas.{left_there, seen_refused}
use Rattle.nx_edit.proofs.PlaceLemmas.{outside, fault_outside, fault_unordered, fault_repeated, no_refusal, first_repeated, fault_nowhere, each_before, refused_before}

module _ {D : Type 0} (d : Ghosts D) (entry : DocEntry) (node : Node) (position : ℕ) (parent : List ℕ) (r0 : Records) (x0 : D) where
  abbrev NotPlaced : EditError → Records → D → Type 0
  NotPlaced e r x = NotEdited d is_of_insertion (place_fault node position parent) (λ document layout. 0) entry e r0 r x0 x

  pub parent_refused : (r1 : Records) (x1 : D) → IsStill d x0 x1 → (e : NavError)
      → IsRefused d (OfEach d r0 x0 (place_of entry.root) (λ document. at (tree_of document) parent ≡ None)) ⊥ (HoldsNoDocument d r0 x0 (place_of entry.root)) e r0 r1 x0 x1 → IsSomeAnd (seen_error e) (λ told. NotPlaced told r1 x1)
  parent_refused r1 x1 still e refused =
      seen_refused d r0 r1 x0 x1 still is_of_insertion (place_fault node position parent) (λ document layout. 0) entry refl (OfEach d r0 x0 (place_of entry.root) (λ document. at (tree_of document) parent ≡ None))
      (λ none document has. fault_nowhere node position parent (tree_of document) (none document has)) e refused

  -- behind the look at the parent, and maybe others
  module _ (runs : has_ended r0 ≡ false) (shown : Outlined) (shows : OfEach d r0 x0 (place_of entry.root) (λ document. OutlinesNode (tree_of document) parent shown)) (r1 : Records) (x1 : D) (leaves : LeavesRecords r0 r1) (still : IsStill d x0 x1) where
    pub outside_refused : outside node.kind position shown.kind shown.children ≡ true → NotPlaced error.BadPlace r1 x1
    outside_refused out = (
      refl,
      left_there d r0 r1 x0 x1 still runs leaves,
      λ document has tidy counted. let s = shows document has in fault_outside node position parent (tree_of document) s.0 s.1 shown.kind s.2 shown.children s.5 out,
    )

    -- what a further look tells of the node at the path
    told_before : (P : OrderedTree → Type 0) → OfEach d r1 x1 (place_of entry.root) (λ document. OfParent (tree_of document) parent shown.children P)
        → (document : CutTree) → HasDocument d r0 x0 (place_of entry.root) document → (t : OrderedTree) × (at (tree_of document) parent ≡ Some t) × (shown.kind ≡ t.node.kind) × (shown.children ≡ length (trees_of t.below)) × P t
    told_before P each document has =
        let s = shows document has in
        (s.0, s.1, s.2, s.5, each_before {d = d} {r0 = r0} {r1 = r1} leaves still (place_of entry.root) (λ document. OfParent (tree_of document) parent shown.children P) each document has s.0 s.1 s.5)

    pub look_refused : (r2 : Records) (x2 : D) → IsStill d x1 x2 → (e : NavError)
        → IsRefused d (OfEach d r1 x1 (place_of entry.root) (λ document. OfParent (tree_of document) parent shown.children (λ t. ⊥))) ⊥ (HoldsNoDocument d r1 x1 (place_of entry.root)) e r1 r2 x1 x2 → IsSomeAnd (seen_error e) (λ told. NotPlaced told r2 x2)
    look_refused r2 x2 second e refused =
        seen_refused d r0 r2 x0 x2 (still_then still second) is_of_insertion (place_fault node position parent) (λ document layout. 0) entry refl
        (OfEach d r1 x1 (place_of entry.root) (λ document. OfParent (tree_of document) parent shown.children (λ t. ⊥))) (λ none document has. absurd ((told_before (λ t. ⊥) none document has).4)) e
        (refused_before {d = d} {r0 = r0} {r1 = r1} leaves still (place_of entry.root) r2 x2 runs (OfEach d r1 x1 (place_of entry.root) (λ document. OfParent (tree_of document) parent shown.children (λ t. ⊥)))
        (OfEach d r1 x1 (place_of entry.root) (λ document. OfParent (tree_of document) parent shown.children (λ t. ⊥))) (λ none. none) e refused)

    module _ (inside : outside node.kind position shown.kind shown.children ≡ false) (unordered : Bool)
        (tells : OfEach d r0 x0 (place_of entry.root) (λ document. OfParent (tree_of document) parent shown.children (λ t. unordered ≡ is_unordered node.kind position (trees_of t.below)))) where
      pub unordered_refused : unordered ≡ true → NotPlaced error.BadPlace r1 x1
      unordered_refused is = (
        refl,
        left_there d r0 r1 x0 x1 still runs leaves,
        λ document has tidy counted.
            let s = shows document has in
            fault_unordered node position parent (tree_of document) s.0 s.1 shown.kind s.2 shown.children s.5 inside (sym is ∙ tells document has s.0 s.1 s.5),
      )

      pub ordered_there : unordered ≡ false → (document : CutTree) → HasDocument d r0 x0 (place_of entry.root) document → OfParent (tree_of document) parent shown.children (λ t. false ≡ is_unordered node.kind position (trees_of t.below))
      ordered_there is document has t there counted = sym is ∙ tells document has t there counted

    -- behind the look whether the order forbids it
    module _ (inside : outside node.kind position shown.kind shown.children ≡ false)
        (ordered : (document : CutTree) → HasDocument d r0 x0 (place_of entry.root) document → OfParent (tree_of document) parent shown.children (λ t. false ≡ is_unordered node.kind position (trees_of t.below))) where
      -- no attribute is there
      pub first_free : is_attribute node.kind ≡ true → (beside : Option Kind) → OfEach d r0 x0 (place_of entry.root) (λ document. beside ≡ kind_below (tree_of document) parent 0) → option_map_or is_attribute beside false ≡ false
          → LeavesRecords r0 r1 × OfEach d r0 x0 (place_of entry.root) (λ document. (t : OrderedTree) × (at (tree_of document) parent ≡ Some t) × (place_refusal node position t ≡ None))
      first_free is beside told other = (
        leaves,
        λ document has.
            let s = shows document has in
            let alone = first_repeated node (tree_of document) parent shown.children is ((has.laid).laid).is_document beside (told document has) other s.0 s.1 s.5 in
            (s.0, s.1, no_refusal node position parent (tree_of document) s.0 s.1 shown.kind s.2 shown.children s.5 inside (ordered document has s.0 s.1 s.5) alone),
      )

      -- behind the looks at the attributes
      module _ (r2 : Records) (x2 : D) (more : LeavesRecords r1 r2) (second : IsStill d x1 x2) (repeated : Bool) (tells : OfEach d r1 x1 (place_of entry.root) (λ document. OfParent (tree_of document) parent shown.children (λ t. repeated ≡ is_repeated node t))) where
        pub repeated_refused : repeated ≡ true → NotPlaced error.Twice r2 x2
        repeated_refused is = (
          refl,
          left_there d r0 r2 x0 x2 (still_then still second) runs (leaves_add_up {r0 = r0} {r1 = r1} {r2 = r2} leaves more),
          λ document has tidy counted.
              let s = told_before (λ t. repeated ≡ is_repeated node t) tells document has in
              fault_repeated node position parent (tree_of document) s.0 s.1 shown.kind s.2 shown.children s.3 inside (ordered document has s.0 s.1 s.3) (sym is ∙ s.4),
        )

        pub place_free : repeated ≡ false → LeavesRecords r0 r2 × OfEach d r0 x0 (place_of entry.root) (λ document. (t : OrderedTree) × (at (tree_of document) parent ≡ Some t) × (place_refusal node position t ≡ None))
        place_free is = (
          leaves_add_up {r0 = r0} {r1 = r1} {r2 = r2} leaves more,
          λ document has.
              let s = told_before (λ t. repeated ≡ is_repeated node t) tells document has in
              (s.0, s.1, no_refusal node position parent (tree_of document) s.0 s.1 shown.kind s.2 shown.children s.3 inside (ordered document has s.0 s.1 s.3) (sym is ∙ s.4)),
        )
