-- What a search for nodes by name says of the document of a name, at a store that is at a state.
use Rattle.std.proofs.Common.{◌≡◌, ◌≤◌, ◌+◌, true, false, ℕ, List, Option, None, Some, refl, sym, ap, ◌∙◌, subst, arith}
use Rattle.std.specs.Prelude.{IsSome}
use Rattle.std.proofs.lemmas.Bool.{false≢true}
use Rattle.std.specs.FinMap.{get}
use Rattle.nx_host.specs.declared.disk.Disk.{Ghosts}
use Rattle.nx_cuts.specs.Cut.{CutTree, tree_of}
use Rattle.nx_layouts.specs.Layout.{Layout, IsLaidOutAs, whole, places_of}
use Rattle.nx_hold.specs.declared.entry.DocEntry.{DocEntry}
use Rattle.nx_hold.specs.Changes.{place_of}
use Rattle.nx_hold.specs.Pieces.{PieceMap, held_by}
use Rattle.nx_nav.specs.Refusals.{node_count}
use Rattle.nx_catalog.specs.Catalog.{Contents}
use Rattle.nx_catalog.proofs.CatalogLemmas.{one_contents}
use Rattle.nx_state.specs.State.{State}
use Rattle.nx_reach.specs.declared.step.Step.{Step}
use Rattle.nx_reach.specs.Reach.{Found}
use Rattle.nx_find.specs.declared.names.Names.{Names}
use Rattle.nx_find.specs.declared.error.FindError.{FindError}
use Rattle.nx_find.specs.declared.error.FindError.TheVariants as below
use Rattle.nx_find.specs.Over.{OfEachLaid, OfEachMapped, IsMapOf, ReadsOf, IsGivenUp, holds_of, last_label, records_for}
use Rattle.nx_store.specs.Reads.{IsEntryOf}
use Rattle.nx_store.specs.Store.{is_ended, IsAt, LeavesStore, IsNowhere, NotApplied}
use Rattle.nx_store.specs.Naming.{OfStored, MapsStored, AreNamesOf, FindsIn, IsKeptAs, NamesReads, FindReads, ReadsNames, ReadsFinding, NotSearched, told_find}
use Rattle.nx_store.specs.declared.store.Store.{Store}
use Rattle.nx_store.proofs.AtLemmas.{at_runs}
use Rattle.nx_store.proofs.FoundLemmas.{same_some, at_none, at_stored}

-- The document of a name lies in records from its entry's place on.
pub record IsLaidAt {D : Type 0} {d : Ghosts D} {store : Store} {x : D} {state : State} (at : IsAt d store x state) (name : List ℕ) (entry : DocEntry) : Type 0 where
  pub document : CutTree
  pub layout : Layout
  pub there : get state.documents name ≡ Some document
  pub counted : node_count document ≡ entry.nodes
  pub laid : IsLaidOutAs (held_by ((at.state_is).holds).pieces) (place_of entry.root) document layout

module _ {D : Type 0} {d : Ghosts D} {store : Store} {x : D} {state : State} (name : List ℕ) (entry : DocEntry) (at : IsAt d store x state) (is : get (store.catalog).documents name ≡ Some entry) where
  pub at_laid : IsLaidAt at name entry
  at_laid =
      let (s, same, stored, there) = at_stored name entry at is in
      record {
        document = s.document;
        layout = s.layout;
        there = there;
        counted = sym (ap (λ (e : DocEntry). e.nodes) (sym same) ∙ stored.counted);
        laid = subst (λ (e : DocEntry). IsLaidOutAs (held_by ((at.state_is).holds).pieces) (place_of e.root) s.document s.layout) same stored.laid;
      }

  -- the catalog that is held has this entry under the name, and no other
  pub at_entry : IsEntryOf at.held name entry
  at_entry = (store.catalog, at.catalog, is)

  one_entry : (other : DocEntry) → IsEntryOf at.held name other → entry ≡ other
  one_entry other (contents, catalog, there) =
      same_some (sym is ∙ ap (λ (c : Contents). get c.documents name) (one_contents (at.held).catalog.bytes store.catalog contents at.catalog catalog) ∙ there)

  -- what is said of each layout from the entry's place on is said of those of the document of the name
  of_entry : (P : DocEntry → CutTree → Layout → Type 0)
      → ((pieces : PieceMap at.held) (document : CutTree) (layout : Layout) → get state.documents name ≡ Some document → IsLaidOutAs (held_by pieces) (place_of entry.root) document layout → P entry document layout)
      → OfStored at.held state name P
  of_entry P each other document of_it there pieces layout laid =
      let same = one_entry other of_it in
      subst (λ (e : DocEntry). P e document layout) same (each pieces document layout there (subst (λ (e : DocEntry). IsLaidOutAs (held_by pieces) (place_of e.root) document layout) (sym same) laid))

  -- so it is kept
  kept_so : IsKeptAs at.held name (at_laid).document entry (at_laid).layout
  kept_so = record { of_it = at_entry; pieces = ((at.state_is).holds).pieces; laid = (at_laid).laid }

  -- names of it are the map of its layout
  map_of : (names : Names) → MapsStored at.held state name names → IsMapOf (holds_of names) (place_of entry.root) (at_laid).document (at_laid).layout
  map_of names are = let one = at_laid in are entry one.document at_entry one.there ((at.state_is).holds).pieces one.layout one.laid

  -- what a map of each document that is laid out there is of
  pub map_at : (names : Names) → OfEachLaid d store.records x (place_of entry.root) (λ now document layout. (node_count document ≡ entry.nodes) × IsMapOf (holds_of names) (place_of entry.root) document layout) →
      AreNamesOf at.held state name (Some names)
  map_at names each = (
    subst (λ (o : Option CutTree). IsSome o) (sym (at_laid).there) refl,
    of_entry (λ e document layout. IsMapOf (holds_of names) (place_of e.root) document layout) (λ pieces document layout there laid. (each at.held at.held at.stands pieces document layout laid).1),
  )

  -- how many pages are read for it
  pub names_read_at : (before after : ℕ) → OfEachLaid d store.records x (place_of entry.root) (λ now document layout. ReadsOf now (places_of (whole (place_of entry.root) document.node layout)) before after) →
      (pages : ℕ) × (after ≤ before + pages) × NamesReads at.held name (get state.documents name) pages
  names_read_at before after each =
      let one = at_laid in
      let (pages, few, take) = each at.held at.held at.stands ((at.state_is).holds).pieces one.document one.layout one.laid in
      (pages, few, subst (λ (o : Option CutTree). NamesReads at.held name o pages) (sym one.there) (entry, one.layout, kept_so, take))

  -- the paths that steps reach in each document that is laid out there, by its names
  pub found_at : (names : Names) (steps : List Step) (paths : List (List ℕ)) → MapsStored at.held state name names →
      OfEachMapped d store.records x (place_of entry.root) entry.nodes (holds_of names) (λ now document layout. Found (tree_of document) steps paths) → FindsIn state name steps (Some paths)
  found_at names steps paths are each =
      let one = at_laid in
      let pieces = ((at.state_is).holds).pieces in
      (one.document, one.there, each at.held at.held at.stands pieces one.document one.layout one.laid one.counted (map_of names are))

  pub finding_read_at : (names : Names) (steps : List Step) (before after : ℕ) → MapsStored at.held state name names →
      OfEachMapped d store.records x (place_of entry.root) entry.nodes (holds_of names) (λ now document layout. ReadsOf now (records_for (holds_of names) (last_label steps) (place_of entry.root) layout) before after) →
      (pages : ℕ) × (after ≤ before + pages) × FindReads at.held name steps (get state.documents name) pages
  finding_read_at names steps before after are each =
      let one = at_laid in
      let map = map_of names are in
      let (pages, few, take) = each at.held at.held at.stands ((at.state_is).holds).pieces one.document one.layout one.laid one.counted map in
      (pages, few, subst (λ (o : Option CutTree). FindReads at.held name steps o pages) (sym one.there) (entry, one.layout, holds_of names, kept_so, map, take))

  -- there is such a document, so that there is none is false
  pub none_of_so_many : OfEachLaid d store.records x (place_of entry.root) (λ now document layout. node_count document ≡ entry.nodes → ⊥) → ⊥
  none_of_so_many each = let one = at_laid in each at.held at.held at.stands ((at.state_is).holds).pieces one.document one.layout one.laid one.counted

  pub none_of_these : (names : Names) → MapsStored at.held state name names → OfEachMapped d store.records x (place_of entry.root) entry.nodes (holds_of names) (λ now document layout. ⊥) → ⊥
  none_of_these names are each =
      let one = at_laid in
      let pieces = ((at.state_is).holds).pieces in
      each at.held at.held at.stands pieces one.document one.layout one.laid one.counted (map_of names are)

module _ {D : Type 0} {d : Ghosts D} {store : Store} {x : D} (name : List ℕ) where
  -- The catalog has no such name, so nothing is read.

  pub absent_names_read : get (store.catalog).documents name ≡ None → ReadsNames d store name x x
  absent_names_read none state at = (0, (let e : d.reads x ≤ d.reads x + 0 = omega arith in e), subst (λ (o : Option CutTree). NamesReads at.held name o 0) (sym (at_none name at none)) refl)

  pub absent_finding_read : (names : Names) (steps : List Step) → get (store.catalog).documents name ≡ None → ReadsFinding d store names name steps x x
  absent_finding_read names steps none state at are =
      (0, (let e : d.reads x ≤ d.reads x + 0 = omega arith in e), subst (λ (o : Option CutTree). FindReads at.held name steps o 0) (sym (at_none name at none)) refl)

  -- The store has ended, so it is at no state.

  pub ended_names_read : is_ended store ≡ true → ReadsNames d store name x x
  ended_names_read ended state at = absurd (false≢true (sym (at_runs at) ∙ ended))

  pub ended_finding_read : (names : Names) (steps : List Step) → is_ended store ≡ true → ReadsFinding d store names name steps x x
  ended_finding_read names steps ended state at = absurd (false≢true (sym (at_runs at) ∙ ended))

-- the records hold no document of the entry
abbrev pub LacksEntry : {D : Type 0} → Ghosts D → Store → D → DocEntry → Type 0
LacksEntry d store x entry = OfEachLaid d store.records x (place_of entry.root) (λ now document layout. node_count document ≡ entry.nodes → ⊥)

-- ... that these names are the map of
abbrev pub LacksMapped : {D : Type 0} → Ghosts D → Store → D → DocEntry → Names → Type 0
LacksMapped d store x entry names = OfEachMapped d store.records x (place_of entry.root) entry.nodes (holds_of names) (λ now document layout. ⊥)

module _ {D : Type 0} (d : Ghosts D) (s0 s1 : Store) (x0 x1 : D) (Lacks : Type 0) where
  -- Why it gave up:

  pub names_refused : (e : FindError) → (Lacks → IsNowhere d s0 x0) → s1.catalog ≡ s0.catalog → IsGivenUp d Lacks e s0.records s1.records x0 x1 → NotApplied d (told_find e) s0 s1 x0 x1
  names_refused below.Disk lacks catalog h = (h.0, (h.1.before, h.1.after))
  names_refused (below.Damaged page) lacks catalog h = ((h.1.before, h.1.after), λ told. lacks h.0)
  names_refused below.Ended lacks catalog h = (h.0, record { records = h.1; catalog = catalog }, h.2)
  names_refused below.Memory lacks catalog h = (h.0, (h.1).ended_stays ∙ h.0)

  pub finding_refused : (name : List ℕ) (names : Names) (e : FindError) → (Lacks → (state : State) (at : IsAt d s0 x0 state) → MapsStored at.held state name names → ⊥) → s1.catalog ≡ s0.catalog →
      IsGivenUp d Lacks e s0.records s1.records x0 x1 → NotSearched d (told_find e) name names s0 s1 x0 x1
  finding_refused name names below.Disk lacks catalog h = (h.0, (h.1.before, h.1.after))
  finding_refused name names (below.Damaged page) lacks catalog h = ((h.1.before, h.1.after), lacks h.0)
  finding_refused name names below.Ended lacks catalog h = (h.0, record { records = h.1; catalog = catalog }, h.2)
  finding_refused name names below.Memory lacks catalog h = (h.0, (h.1).ended_stays ∙ h.0)

  -- The store is as it was where it goes on.
  pub search_same : (e : FindError) → s1.catalog ≡ s0.catalog → IsGivenUp d Lacks e s0.records s1.records x0 x1 → is_ended s1 ≡ false → LeavesStore s0 s1
  search_same below.Disk catalog h runs = absurd (false≢true (sym runs ∙ h.1.after))
  search_same (below.Damaged page) catalog h runs = absurd (false≢true (sym runs ∙ h.1.after))
  search_same below.Ended catalog h runs = record { records = h.1; catalog = catalog }
  search_same below.Memory catalog h runs = record { records = h.1; catalog = catalog }
