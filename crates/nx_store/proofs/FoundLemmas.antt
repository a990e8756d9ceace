-- The documents of a store at a state, found by their names.
use Rattle.std.proofs.Common.{◌≡◌, ℕ, Bool, true, false, cond, List, [], ◌∷◌, map, refl, sym, ap, subst, ◌∙◌, Option, None, Some}
use Rattle.std.specs.Prelude.{option_map}
use Rattle.std.specs.Option.{unwrap_or}
use Rattle.std.specs.List.{AllByRecursion}
use Rattle.std.specs.Ordering.{eq_by_cmp}
use Rattle.std.specs.FinMap.{FinMap, find, get, entries, get-entries}
use Rattle.std.proofs.lemmas.List.Elements.{recursion_from_All}
use Rattle.nx_host.specs.declared.disk.Disk.{Ghosts}
use Rattle.nx_host.proofs.DiskLemmas.{untold}
use Rattle.nx_cuts.specs.Cut.{CutTree}
use Rattle.nx_pyx.specs.DocumentName.{name_order}
use Rattle.nx_hold.specs.declared.entry.DocEntry.{DocEntry}
use Rattle.nx_hold.specs.Changes.{place_of}
use Rattle.nx_hold.specs.Pieces.{held_by}
use Rattle.nx_hold.specs.Documents.{HasDocument}
use Rattle.nx_catalog.specs.Catalog.{Contents}
use Rattle.nx_state.specs.State.{State, document_size}
use Rattle.nx_state.specs.Stands.{StoredDocument, IsStoredIn}
use Rattle.nx_steps.specs.Answers.{cut_document_line}
use Rattle.nx_store.specs.Told.{line_of}
use Rattle.nx_store.specs.Store.{IsAt}
use Rattle.nx_store.specs.declared.store.Store.{Store}
use Rattle.nx_catalog.proofs.CatalogLemmas.{one_contents}

pub same_some : {A : Type 0} {x y : A} → ◌≡◌ {A = Option A} (Some x) (Some y) → x ≡ y
same_some {x = x} e = ap (λ o. unwrap_or o x) e

-- what becomes of nothing is nothing, and something came of something
pub map_some : {A B : Type 0} (f : A → B) (o : Option A) (y : B) → option_map f o ≡ Some y → (x : A) × (o ≡ Some x) × (f x ≡ y)
map_some f None y e = untold y e
map_some f (Some x) y e = (x, refl, same_some e)

pub map_none : {A B : Type 0} (f : A → B) (o : Option A) → option_map f o ≡ None → o ≡ None
map_none f None e = refl
map_none f (Some x) e = untold (f x) (sym e)

-- the first of these documents with that name
abbrev pub found : List ℕ → List StoredDocument → Option StoredDocument
found name [] = None
found name (s ∷ stored) = cond (eq_by_cmp name_order name s.name) (Some s) (found name stored)

mapped : {A B : Type 0} (f : A → B) (b : Bool) (x : A) (o : Option A) → cond b (Some (f x)) (option_map f o) ≡ option_map f (cond b (Some x) o)
mapped f true x o = refl
mapped f false x o = refl

-- a map whose entries come of a list, by the same names, has what comes of the document that is found
pub find_found : {X : Type 0} (f : StoredDocument → X) (name : List ℕ) (stored : List StoredDocument) → find name_order name (map (λ (s : StoredDocument). (s.name, f s)) stored) ≡ option_map f (found name stored)
find_found f name [] = refl
find_found f name (s ∷ stored) = ap (cond (eq_by_cmp name_order name s.name) (Some (f s))) (find_found f name stored) ∙ mapped f (eq_by_cmp name_order name s.name) s (found name stored)

pub get_found : {X : Type 0} (m : FinMap name_order X) (f : StoredDocument → X) (name : List ℕ) (stored : List StoredDocument) → entries m ≡ map (λ (s : StoredDocument). (s.name, f s)) stored
    → get m name ≡ option_map f (found name stored)
get_found m f name stored are = get-entries m name ∙ ap (find name_order name) are ∙ find_found f name stored

of_one : (P : StoredDocument → Type 0) (b : Bool) (s x : StoredDocument) (o : Option StoredDocument) → P s → (o ≡ Some x → P x) → cond b (Some s) o ≡ Some x → P x
of_one P true s x o here later e = subst P (same_some e) here
of_one P false s x o here later e = later e

-- what holds of all holds of the one that is found
pub found_has : (P : StoredDocument → Type 0) (name : List ℕ) (stored : List StoredDocument) → AllByRecursion P stored → (x : StoredDocument) → found name stored ≡ Some x → P x
found_has P name [] all x e = untold x e
found_has P name (s ∷ stored) all x e = of_one P (eq_by_cmp name_order name s.name) s x (found name stored) all.0 (found_has P name stored all.1 x) e

same_lines : (stored : List StoredDocument) → AllByRecursion (λ (s : StoredDocument). s.entry.nodes ≡ document_size s.document) stored
    → map line_of (map (λ (s : StoredDocument). (s.name, s.entry)) stored) ≡ map cut_document_line (map (λ (s : StoredDocument). (s.name, s.document)) stored)
same_lines [] all = refl
same_lines (s ∷ stored) all =
    ap (λ (n : ℕ). record { name = s.name; nodes = n } ∷ map line_of (map (λ (x : StoredDocument). (x.name, x.entry)) stored)) all.0
    ∙ ap (λ ls. cut_document_line (s.name, s.document) ∷ ls) (same_lines stored all.1)

-- of all their sizes
counted_all : (P Q : StoredDocument → Type 0) (stored : List StoredDocument) → ((s : StoredDocument) → P s → Q s) → AllByRecursion P stored → AllByRecursion Q stored
counted_all P Q [] weaker all = tt
counted_all P Q (s ∷ stored) weaker all = (weaker s all.0, counted_all P Q stored weaker all.1)

-- The document of that name is in the state, and the records hold it from its entry's place on.
pub record IsFound {D : Type 0} (d : Ghosts D) (store : Store) (disk : D) (state : State) (name : List ℕ) (entry : DocEntry) : Type 0 where
  pub document : CutTree
  pub there : get state.documents name ≡ Some document
  pub has : HasDocument d store.records disk (place_of entry.root) document
  pub counted : entry.nodes ≡ document_size document

module _ {D : Type 0} {d : Ghosts D} where
  -- the catalog in memory has an entry for each document
  pub at_entries : {store : Store} {x : D} {state : State} (at : IsAt d store x state) → entries (store.catalog).documents ≡ map (λ (s : StoredDocument). (s.name, s.entry)) (at.state_is).stored
  at_entries {store = store} at =
      ap (λ (c : Contents). entries c.documents) (sym (one_contents (at.held).catalog.bytes (at.state_is).contents store.catalog (at.state_is).catalog at.catalog)) ∙ (at.state_is).names

  -- the catalog has no such name, and no document has it
  pub at_none : {store : Store} {x : D} {state : State} (name : List ℕ) → IsAt d store x state → get (store.catalog).documents name ≡ None → get state.documents name ≡ None
  at_none {store = store} {state = state} name at none =
      let stored = (at.state_is).stored in
      let lacks : found name stored ≡ None =
      map_none (λ (s : StoredDocument). s.entry) (found name stored) (sym (get_found (store.catalog).documents (λ (s : StoredDocument). s.entry) name stored (at_entries at)) ∙ none) in
      get_found state.documents (λ (s : StoredDocument). s.document) name stored (at.state_is).documents ∙ ap (option_map (λ (s : StoredDocument). s.document)) lacks

  -- the catalog has the name, and so has a document that is stored
  pub at_stored : {store : Store} {x : D} {state : State} (name : List ℕ) (entry : DocEntry) (at : IsAt d store x state) → get (store.catalog).documents name ≡ Some entry
      → (s : StoredDocument) × (s.entry ≡ entry) × IsStoredIn (held_by ((at.state_is).holds).pieces) s × (get state.documents name ≡ Some s.document)
  at_stored {store = store} {state = state} name entry at is =
      let stored = (at.state_is).stored in
      let holds = (at.state_is).holds in
      let there = map_some (λ (s : StoredDocument). s.entry) (found name stored) entry
      (sym (get_found (store.catalog).documents (λ (s : StoredDocument). s.entry) name stored (at_entries at)) ∙ is) in (
        there.0,
        there.2,
        found_has (IsStoredIn (held_by holds.pieces)) name stored (recursion_from_All _ stored holds.each) there.0 there.1,
        get_found state.documents (λ (s : StoredDocument). s.document) name stored (at.state_is).documents ∙ ap (option_map (λ (s : StoredDocument). s.document)) there.1,
      )

  -- ... which the records hold
  pub at_found : {store : Store} {x : D} {state : State} (name : List ℕ) (entry : DocEntry) → IsAt d store x state → get (store.catalog).documents name ≡ Some entry → IsFound d store x state name entry
  at_found {store = store} {x = x} {state = state} name entry at is =
      let (s, same, one, there) = at_stored name entry at is in
      let holds = (at.state_is).holds in
      record {
        document = s.document;
        there = there;
        has = subst (λ (e : DocEntry). HasDocument d store.records x (place_of e.root) s.document) same
            (record { saved = at.held; now = at.held; stands = at.stands; pieces = holds.pieces; laid = record { layout = s.layout; laid = one.laid } });
        counted = ap (λ (e : DocEntry). e.nodes) (sym same) ∙ one.counted;
      }

  -- the lines of the catalog are those of the documents
  pub at_lines : {store : Store} {x : D} {state : State} → IsAt d store x state → map line_of (entries (store.catalog).documents) ≡ map cut_document_line (entries state.documents)
  at_lines {store = store} {state = state} at =
      let stored = (at.state_is).stored in
      let holds = (at.state_is).holds in
      ap (map line_of) (at_entries at)
      ∙ same_lines stored (counted_all (IsStoredIn (held_by holds.pieces)) (λ (s : StoredDocument). s.entry.nodes ≡ document_size s.document) stored (λ s one. one.counted) (recursion_from_All _ stored holds.each))
      ∙ ap (map cut_document_line) (sym (at.state_is).documents)
