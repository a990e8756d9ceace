-- What the steps of a load make of a store that is at a state.
use Rattle.std.proofs.Common.{◌≡◌, ℕ, ◌+◌, ◌*◌, ◌<◌, ◌≤◌, List, [], ◌∷◌, ◌++◌, length, map, None, refl, sym, ap, ◌∙◌, subst, arith, append-nil, inl, inr}
use Rattle.std.specs.Prelude.{Contains}
use Rattle.std.specs.List.{sum}
use Rattle.std.specs.FinMap.{FinMap, entries, values, get, insert, find}
use Rattle.std.proofs.lemmas.List.{length-map}
use Rattle.std.proofs.lemmas.List.Elements.{Contains-append_left, Contains-append_right, Contains-append_cases}
use Rattle.nx_tree.specs.Forest.{OrderedTree, nodes}
use Rattle.nx_parts.specs.declared.interval.Interval.{Interval}
use Rattle.nx_parts.specs.Order.{AreInOrder}
use Rattle.nx_replay.specs.Log.{Pages}
use Rattle.nx_holdings.specs.declared.header.Settings.{Settings}
use Rattle.nx_holdings.specs.Holdings.{Held, Holds, chain_count}
use Rattle.nx_records.specs.Changes.{SetsCatalog, catalog_needs}
use Rattle.nx_cuts.specs.Cut.{CutTree, tree_of, parts_of}
use Rattle.nx_layouts.specs.Layout.{RecordPlace, contents_of}
use Rattle.nx_pyx.specs.DocumentName.{name_order}
use Rattle.nx_hold.specs.declared.entry.DocEntry.{DocEntry}
use Rattle.nx_hold.specs.Contents.{tree_pages}
use Rattle.nx_hold.specs.Documents.{MovesRecords}
use Rattle.nx_hold.specs.Pieces.{IsTidy, held_by}
use Rattle.nx_hold.proofs.MapLemmas.{piece_map}
use Rattle.nx_catalog.specs.Catalog.{Contents, IsCatalog, catalog_bytes}
use Rattle.nx_catalog.proofs.CatalogLemmas.{one_contents}
use Rattle.nx_catalog.proofs.LengthLemmas.{most_bytes}
use Rattle.nx_state.specs.State.{State, document_size, all_nodes, all_pages}
use Rattle.nx_state.specs.Stands.{StoredDocument, HoldsDocuments, HoldsState, record_places}
use Rattle.nx_build.specs.Storing.{StoresDocument, store_needs}
use Rattle.nx_steps.specs.Answers.{with_document}
use Rattle.nx_state.proofs.ChangeLemmas.{document_comes, catalog_comes}
use Rattle.nx_state.proofs.FreeLemmas.{documents_leave_free}
use Rattle.nx_state.proofs.NodeLemmas.{all_two}
use Rattle.nx_store.specs.Loading.{MayNotFit}
use Rattle.nx_store.specs.Staying.{RecordStays, RecordsStay, AllStay}
use Rattle.nx_store.proofs.StayingLemmas.{come_leaves}
use Rattle.nx_store.proofs.NameLemmas.{front, behind, front-behind, none_either, none_listed, inserted_between}
use Rattle.nx_store.proofs.PlanLemmas.{parts_are_planned}
use Rattle.nx_store.proofs.RoomLemmas.{store_room, save_room, count_room, sum_between, length_between, sum_stored, nodes_stored, pages_stored}

abbrev entry_in : StoredDocument → DocEntry
entry_in s = s.entry

abbrev document_in : StoredDocument → CutTree
document_in s = s.document

abbrev name_in : StoredDocument → List ℕ
name_in s = s.name

module _ (saved : Held) (state : State) (contents : Contents) (at : HoldsState saved state) (catalog : IsCatalog saved.catalog.bytes contents) (name : List ℕ) (none : get contents.documents name ≡ None) where
  -- the catalog is that of the documents
  contents_are : at.contents ≡ contents
  contents_are = one_contents saved.catalog.bytes at.contents contents at.catalog catalog

  entries_are : entries contents.documents ≡ map (λ (s : StoredDocument). (s.name, s.entry)) at.stored
  entries_are = ap (λ (c : Contents). entries c.documents) (sym contents_are) ∙ at.names

  none_entered : find name_order name (map (λ (s : StoredDocument). (s.name, s.entry)) at.stored) ≡ None
  none_entered = none_listed name_in entry_in contents.documents at.stored entries_are name none

  none_shown : find name_order name (map (λ (s : StoredDocument). (s.name, s.document)) at.stored) ≡ None
  none_shown = none_either name_order name_in name entry_in document_in at.stored none_entered

  -- those before the new name, and those behind it
  abbrev before : List StoredDocument
  before = front name_order name_in name at.stored

  abbrev after : List StoredDocument
  after = behind name_order name_in name at.stored

  all_are : before ++ after ≡ at.stored
  all_are = front-behind name_order name_in name at.stored

  -- how many documents and nodes there are
  number_is : length (entries contents.documents) ≡ length at.stored
  number_is = ap length entries_are ∙ length-map at.stored (λ (s : StoredDocument). (s.name, s.entry))

  two_each : 2 * length at.stored ≤ all_nodes state
  two_each =
      let all = all_two (held_by (at.holds).pieces) at.stored (at.holds).each in
      let nodes = nodes_stored state at.stored at.documents in
      omega (arith, all, nodes)

  rules_are : length contents.rules ≡ length state.rules
  rules_are = ap (λ (c : Contents). length c.rules) (sym contents_are) ∙ ap length at.rules

  -- the bytes of the catalog are few
  catalog_short : length saved.catalog.bytes ≤ 8 + 267 * length at.stored + 2053 * length state.rules
  catalog_short =
      let short = most_bytes saved.catalog.bytes at.contents at.catalog in
      let number : length (entries (at.contents).documents) ≡ length at.stored = ap length at.names ∙ length-map at.stored (λ (s : StoredDocument). (s.name, s.entry)) in
      let rules : length (at.contents).rules ≡ length state.rules = ap length at.rules in
      omega (arith, short, number, rules)

-- The records have the document besides.
pub record IsBrought (saved now : Held) (state : State) (contents : Contents) (at : HoldsState saved state) (name : List ℕ) (tree : OrderedTree) (parts : List Interval) (entry : DocEntry) : Type 0 where
  pub document : CutTree
  pub tree_is : tree_of document ≡ tree
  pub parts_are : parts_of document ≡ parts
  pub stored : List StoredDocument
  pub holds : HoldsDocuments now stored
  pub settings : now.settings ≡ saved.settings
  pub catalog : now.catalog ≡ saved.catalog
  pub names : entries (insert contents.documents name entry) ≡ map (λ (s : StoredDocument). (s.name, s.entry)) stored
  pub documents : entries (insert state.documents name document) ≡ map (λ (s : StoredDocument). (s.name, s.document)) stored
  pub number : length stored ≡ length at.stored + 1
  pub sizes : sum (map (λ (s : StoredDocument). document_size s.document) stored) ≡ all_nodes state + (1 + nodes tree.below)
  pub pages : sum (map (λ (s : StoredDocument). tree_pages (tree_of s.document)) stored) ≡ all_pages state + tree_pages tree
  pub stay : (s : StoredDocument) (place : RecordPlace) → Contains at.stored s → Contains (record_places s) place → RecordStays saved now place
  pub all_stay : AllStay at.stored stored

module _ (saved now : Held) (state : State) (contents : Contents) (at : HoldsState saved state) (catalog : IsCatalog saved.catalog.bytes contents) (name : List ℕ) (none : get contents.documents name ≡ None) (tree : OrderedTree) (parts : List Interval)
    (page slot count : ℕ) (stores : StoresDocument tree parts (record { page = page; slot = slot }) saved now) where
  abbrev new_document : StoredDocument
  new_document = record { name = name; entry = record { root = record { page = page; slot = slot }; nodes = count }; document = stores.document; layout = stores.layout }

  -- what is counted of all documents is counted of the new one too
  counted_more : (count : CutTree → ℕ) → sum (map (λ (s : StoredDocument). count s.document) (before saved state contents at catalog name none ++ new_document ∷ after saved state contents at catalog name none))
      ≡ sum (map count (values state.documents)) + count stores.document
  counted_more count =
      let between = sum_between (λ (s : StoredDocument). count s.document) (before saved state contents at catalog name none) new_document (after saved state contents at catalog name none) in
      let all = ap (λ (l : List StoredDocument). sum (map (λ (s : StoredDocument). count s.document) l)) (all_are saved state contents at catalog name none) in
      let whole = sum_stored count state at.stored at.documents in
      omega (arith, between, all, whole)

  pub brought : IsTidy now → count ≡ 1 + nodes tree.below → AreInOrder parts → IsBrought saved now state contents at name tree parts (record { root = record { page = page; slot = slot }; nodes = count })
  brought tidy counted in_order =
      let laid = stores.laid (piece_map now) in
      let size : document_size stores.document ≡ 1 + nodes tree.below = ap (λ (t : OrderedTree). 1 + nodes t.below) stores.tree_is in
      let front = before saved state contents at catalog name none in
      let rest = after saved state contents at catalog name none in
      let holds = subst (HoldsDocuments saved) (sym (all_are saved state contents at catalog name none)) at.holds in
      record {
        document = stores.document;
        tree_is = stores.tree_is;
        parts_are = parts_are_planned (now.settings).k (record { page = page; slot = slot }) stores.document stores.layout parts laid.same laid.light in_order stores.parts_are;
        stored = front ++ new_document ∷ rest;
        holds = document_comes (store_needs tree) saved now front rest new_document holds stores.adds tidy stores.contents_once (λ pieces. record { laid = stores.laid pieces; counted = counted ∙ sym size });
        settings = (stores.adds).settings;
        catalog = (stores.adds).catalog;
        names = inserted_between name_in entry_in contents.documents at.stored (entries_are saved state contents at catalog name none) name new_document refl
            (none_entered saved state contents at catalog name none);
        documents = inserted_between name_in document_in state.documents at.stored at.documents name new_document refl (none_shown saved state contents at catalog name none);
        number = length_between front new_document rest ∙ ap (λ (l : List StoredDocument). length l + 1) (all_are saved state contents at catalog name none);
        sizes = counted_more document_size ∙ ap (λ (n : ℕ). all_nodes state + n) size;
        pages = counted_more (λ (document : CutTree). tree_pages (tree_of document)) ∙ ap (λ (t : OrderedTree). all_pages state + tree_pages t) stores.tree_is;
        stay = subst (λ (l : List StoredDocument). RecordsStay (λ s place. Contains (record_places s) place) l saved now) (all_are saved state contents at catalog name none)
            (come_leaves (λ s place. Contains (record_places s) place) (contents_of stores.layout) (store_needs tree) saved now front (new_document ∷ []) rest holds
            (subst (λ (ps : List RecordPlace). MovesRecords [] ps [] (contents_of stores.layout) (store_needs tree) saved now) (sym (append-nil (record_places new_document))) stores.adds) (λ s place among. among));
        all_stay = λ s among. elim (Contains-append_cases front rest s (subst (λ (l : List StoredDocument). Contains l s) (sym (all_are saved state contents at catalog name none)) among)) [
          | inl early ↦ Contains-append_left front (new_document ∷ rest) s early
          | inr late ↦ Contains-append_right front (new_document ∷ rest) s (Contains-append_right (new_document ∷ []) rest s late)
        ];
      }

-- With the catalog set, they hold the state with the document.
module _ (saved mid now : Held) (state : State) (contents changed : Contents) (at : HoldsState saved state) (name : List ℕ) (tree : OrderedTree) (parts : List Interval) (entry : DocEntry)
    (catalog : IsCatalog saved.catalog.bytes contents) (b : IsBrought saved mid state contents at name tree parts entry) (documents : changed.documents ≡ insert contents.documents name entry) (rules : changed.rules ≡ contents.rules)
    (form : IsCatalog (catalog_bytes changed) changed) where
  abbrev pub set_state : SetsCatalog (catalog_bytes changed) mid now → HoldsState now (with_document state name b.document)
  set_state sets = record {
    settings = sets.settings ∙ b.settings ∙ at.settings;
    stored = b.stored;
    holds = catalog_comes (catalog_bytes changed) mid now b.stored b.holds sets;
    contents = changed;
    catalog = subst (λ (bytes : List ℕ). IsCatalog bytes changed) (sym sets.catalog) form;
    names = ap (λ (m : FinMap name_order DocEntry). entries m) documents ∙ b.names;
    documents = b.documents;
    rules = rules ∙ ap (λ (c : Contents). c.rules) (sym (one_contents saved.catalog.bytes at.contents contents at.catalog catalog)) ∙ at.rules;
  }

  -- there were too few pages for the catalog
  pub save_full : (pages : Pages) → Holds pages mid → mid.free < catalog_needs (catalog_bytes changed) mid → MayNotFit state tree
  save_full pages holds few =
      let free = documents_leave_free pages mid b.stored holds b.holds in
      let all = free.few_records in
      let sizes = b.sizes in
      let chains = free.few_chains in
      let listed = free.few_contents in
      let long = b.pages in
      let whole : (mid.settings).limit ≤ mid.free + (1 + free.records + free.chains + free.contents + chain_count (length mid.catalog.bytes)) = free.free in
      let two = all_two (held_by (at.holds).pieces) at.stored (at.holds).each in
      let total = nodes_stored state at.stored at.documents in
      let short = most_bytes (catalog_bytes changed) changed form in
      let number : length (entries changed.documents) ≡ length at.stored + 1 =
      ap (λ (m : FinMap name_order DocEntry). length (entries m)) documents ∙ ap length b.names ∙ length-map b.stored (λ (s : StoredDocument). (s.name, s.entry)) ∙ b.number in
      let ruled : length changed.rules ≡ length state.rules =
      ap length rules ∙ ap (λ (c : Contents). length c.rules) (sym (one_contents saved.catalog.bytes at.contents contents at.catalog catalog)) ∙ ap length at.rules in
      let limit : (mid.settings).limit ≡ (state.settings).limit = ap (λ (t : Settings). t.limit) (b.settings ∙ at.settings) in
      save_room (all_nodes state) (1 + nodes tree.below) (all_pages state) (tree_pages tree) free.records free.chains free.contents (length at.stored) (length (catalog_bytes changed)) (length mid.catalog.bytes) (length state.rules) mid.free
      (state.settings).limit (omega (arith, whole, limit)) (omega (arith, all, sizes)) chains (omega (arith, listed, long)) (omega (arith, two, total)) (omega (arith, short, number, ruled)) few

module _ (saved : Held) (state : State) (contents : Contents) (at : HoldsState saved state) (catalog : IsCatalog saved.catalog.bytes contents) (name : List ℕ) (none : get contents.documents name ≡ None) (tree : OrderedTree) where
  -- there were too few pages for the records and the contents
  pub store_full : (pages : Pages) → Holds pages saved → saved.free < store_needs tree → MayNotFit state tree
  store_full pages holds few =
      let free = documents_leave_free pages saved at.stored holds at.holds in
      let all = free.few_records in
      let chains = free.few_chains in
      let listed = free.few_contents in
      let whole : (saved.settings).limit ≤ saved.free + (1 + free.records + free.chains + free.contents + chain_count (length saved.catalog.bytes)) = free.free in
      let total = nodes_stored state at.stored at.documents in
      let long = pages_stored state at.stored at.documents in
      let limit : (saved.settings).limit ≡ (state.settings).limit = ap (λ (t : Settings). t.limit) at.settings in
      store_room (all_nodes state) (1 + nodes tree.below) (all_pages state) (tree_pages tree) free.records free.chains free.contents (length at.stored) (length saved.catalog.bytes) (length state.rules) saved.free (state.settings).limit
      (omega (arith, whole, limit)) (omega (arith, all, total)) chains (omega (arith, listed, long)) (two_each saved state contents at catalog name none) (catalog_short saved state contents at catalog name none) few

  -- there were as many documents as a catalog has
  pub many_full : (saved.settings).limit ≤ 16777216 → 4294967295 ≤ length (entries contents.documents) → MayNotFit state tree
  many_full low many =
      let number = number_is saved state contents at catalog name none in
      let limit : (saved.settings).limit ≡ (state.settings).limit = ap (λ (t : Settings). t.limit) at.settings in
      count_room (all_nodes state) (1 + nodes tree.below) (all_pages state) (tree_pages tree) (length at.stored) (length state.rules) (state.settings).limit
      (omega (arith, low, limit)) (two_each saved state contents at catalog name none) (omega (arith, many, number))
