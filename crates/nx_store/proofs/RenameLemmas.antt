-- A document of a store under another name, before the commit.
use Rattle.std.proofs.Common.{◌≡◌, ℕ, ◌+◌, ◌-◌, ◌<◌, ◌≤◌, cond, List, [], ◌∷◌, ◌++◌, length, map, Bool, true, false, None, Some, inl, inr, refl, sym, ap, ◌∙◌, subst, arith, length-append}
use Rattle.std.specs.Prelude.{◌≢◌, All, Contains, Option, IsSome, IsTrue, if◌then◌else◌}
use Rattle.std.specs.Option.{is_some, option_map_or}
use Rattle.std.specs.FinMap.{entries, get, insert, remove, find, get-remove}
use Rattle.std.specs.Ordering.{eq_by_cmp}
use Rattle.std.specs.Cmp.Lexicographic.{nat_list_cmp_total}
use Rattle.std.proofs.lemmas.List.{length-map}
use Rattle.std.proofs.lemmas.List.Elements.{All-head, All-tail, All-cons, All-nil, All-map, Contains-append_left, Contains-append_right, Contains-append_cases}
use Rattle.nx_host.specs.declared.disk.Disk.{Ghosts}
use Rattle.nx_tree.specs.Forest.{nodes, OrderedTree}
use Rattle.nx_wal.specs.Wal.{current}
use Rattle.nx_holdings.specs.declared.header.Settings.{Settings}
use Rattle.nx_holdings.specs.Holdings.{Held, chain_count}
use Rattle.nx_records.specs.declared.error.StoreError.{StoreError}
use Rattle.nx_records.specs.declared.error.StoreError.TheVariants as below
use Rattle.nx_records.specs.Records.{has_ended, ComesTo}
use Rattle.nx_records.specs.Changes.{SetsCatalog, catalog_needs}
use Rattle.nx_records.specs.Refusals.{NotStored}
use Rattle.nx_cuts.specs.Cut.{CutTree, tree_of}
use Rattle.nx_layouts.specs.Layout.{RecordPlace, AreOnce, ArePlacedOnce, contents_of}
use Rattle.nx_layouts.proofs.PlaceLemmas.{AreDisjoint, once-left, once-right, once-between, once-around, once-apart}
use Rattle.nx_pyx.specs.DocumentName.{name_order, is_document_name}
use Rattle.nx_script.specs.declared.command.Command.TheVariants.{Rename}
use Rattle.nx_script.specs.declared.reply.Reply.TheVariants as reply
use Rattle.nx_script.specs.declared.reply.ReplyError.{ReplyError}
use Rattle.nx_script.specs.declared.reply.ReplyError.TheVariants.{NoDocument, Exists, Full}
use Rattle.nx_hold.specs.declared.entry.DocEntry.{DocEntry}
use Rattle.nx_hold.specs.Contents.{tree_pages}
use Rattle.nx_hold.specs.Pieces.{held_by}
use Rattle.nx_catalog.specs.Catalog.{Contents, Entries, CanBeKept, IsCatalog, catalog_bytes, entries_renamed}
use Rattle.nx_catalog.proofs.LengthLemmas.{most_bytes}
use Rattle.nx_state.specs.State.{State, all_nodes, all_pages}
use Rattle.nx_state.specs.Stands.{StoredDocument, IsStoredIn, HoldsDocuments, record_places, all_places, all_contents}
use Rattle.nx_state.proofs.ChangeLemmas.{catalog_comes}
use Rattle.nx_state.proofs.FreeLemmas.{documents_leave_free}
use Rattle.nx_state.proofs.PlaceLemmas.{all_places-append, all_contents-append}
use Rattle.nx_steps.specs.Answers.{MayBeFull}
use Rattle.nx_steps.specs.Refusal.{refusal}
use Rattle.nx_steps.specs.Step.{nodes_after, pages_after, Step}
use Rattle.nx_steps.proofs.CountLemmas.{room_counted}
use Rattle.nx_store.specs.Store.{is_ended, IsNow}
use Rattle.nx_store.specs.Staying.{IsLeftBy, RecordsStay, BothStay}
use Rattle.nx_store.specs.Changing.{PreparesNow, IsStoreLeft, StepsRefused, RenameNotPrepared}
use Rattle.nx_store.specs.declared.store.Store.{Store}
use Rattle.nx_store.proofs.EditLemmas.{now_none}
use Rattle.nx_store.proofs.GoneLemmas.{one_of, others_left, place, the_one, shown_there, entries_at, contents_at}
use Rattle.nx_store.proofs.KeepLemmas.{no_end}
use Rattle.nx_store.proofs.LogLemmas.{some_value}
use Rattle.nx_store.proofs.NameLemmas.{front, behind, front-behind, none_listed, none_either, inserted_between}
use Rattle.nx_store.proofs.OrderedLemmas.{removed_between}
use Rattle.nx_store.proofs.PrepareLemmas.{store_left}
use Rattle.nx_store.proofs.RoomLemmas.{nodes_stored, pages_stored, rule_room}
use Rattle.nx_store.proofs.StayingLemmas.{catalog_alone}
use Rattle.nx_store.proofs.StepsLemmas.{refused_step, done_step, full_step}

-- the document under another name
abbrev pub renamed : List ℕ → StoredDocument → StoredDocument
renamed name s = record { name = name; entry = s.entry; document = s.document; layout = s.layout }

-- ---- one among others, that stands elsewhere among them then

module _ {T : Type 0} (A X B C E : List T) (same : A ++ B ≡ C ++ E) where
  once_moved : AreOnce (A ++ (X ++ B)) → AreOnce (C ++ (X ++ E))
  once_moved once =
      once-between C X E (subst (λ (l : List T). AreOnce l) same (once-around A X B once)) (once-left X B (once-right A (X ++ B) once)) (subst (λ (l : List T). AreDisjoint X l) same (once-apart A X B once))

  rest_moved : (x : T) → Contains (A ++ B) x → Contains (C ++ (X ++ E)) x
  rest_moved x among = elim (Contains-append_cases C E x (subst (λ (l : List T). Contains l x) same among)) [
    | inl early ↦ Contains-append_left C (X ++ E) x early
    | inr late ↦ Contains-append_right C (X ++ E) x (Contains-append_right X E x late)
  ]

  there_moved : (x : T) → Contains (A ++ (X ++ B)) x → Contains (C ++ (X ++ E)) x
  there_moved x among = elim (Contains-append_cases A (X ++ B) x among) [
    | inl early ↦ rest_moved x (Contains-append_left A B x early)
    | inr later ↦ elim (Contains-append_cases X B x later) [
      | inl own ↦ Contains-append_right C (X ++ E) x (Contains-append_left X E x own)
      | inr late ↦ rest_moved x (Contains-append_right A B x late)
    ]
  ]

module _ {T : Type 0} (P : T → Type 0) where
  all_without : (a : List T) (s : T) (b : List T) → All P (a ++ s ∷ b) → All P (a ++ b)
  all_without [] s b h = All-tail P s b h
  all_without (x ∷ a) s b h = All-cons P x (a ++ b) (All-head P x (a ++ s ∷ b) h) (all_without a s b (All-tail P x (a ++ s ∷ b) h))

  all_with : (c : List T) (t : T) (e : List T) → P t → All P (c ++ e) → All P (c ++ t ∷ e)
  all_with [] t e own h = All-cons P t e own h
  all_with (x ∷ c) t e own h = All-cons P x (c ++ t ∷ e) (All-head P x (c ++ e) h) (all_with c t e own (All-tail P x (c ++ e) h))

all_unmapped : {S T : Type 0} (P : T → Type 0) (f : S → T) (xs : List S) → All P (map f xs) → All (λ x. P (f x)) xs
all_unmapped P f [] h = All-nil (λ x. P (f x))
all_unmapped P f (x ∷ xs) h = All-cons (λ y. P (f y)) x xs (All-head P (f x) (map f xs) h) (all_unmapped P f xs (All-tail P (f x) (map f xs) h))

-- ---- the records hold the documents

module _ (held : Held) (name : List ℕ) (a : List StoredDocument) (s : StoredDocument) (b c e : List StoredDocument) (same : a ++ b ≡ c ++ e) (h : HoldsDocuments held (a ++ s ∷ b)) where
  places_move : all_places a ++ all_places b ≡ all_places c ++ all_places e
  places_move = sym (all_places-append a b) ∙ ap all_places same ∙ all_places-append c e

  contents_move : all_contents a ++ all_contents b ≡ all_contents c ++ all_contents e
  contents_move = sym (all_contents-append a b) ∙ ap all_contents same ∙ all_contents-append c e

  holds_renamed : HoldsDocuments held (c ++ renamed name s ∷ e)
  holds_renamed =
      let were = all_places-append a (s ∷ b) in
      let are = all_places-append c (renamed name s ∷ e) in
      let had = all_contents-append a (s ∷ b) in
      let have = all_contents-append c (renamed name s ∷ e) in
      record {
        tidy = h.tidy;
        pieces = h.pieces;
        each =
            let own = one_of (IsStoredIn (held_by h.pieces)) a s b h.each in
            all_with (IsStoredIn (held_by h.pieces)) c (renamed name s) e (record { laid = own.laid; counted = own.counted })
            (subst (λ (l : List StoredDocument). All (IsStoredIn (held_by h.pieces)) l) same (all_without (IsStoredIn (held_by h.pieces)) a s b h.each));
        once = subst ArePlacedOnce (sym are) (once_moved (all_places a) (record_places s) (all_places b) (all_places c) (all_places e) places_move (subst ArePlacedOnce were h.once));
        contents_once = subst (λ (l : List ℕ). AreOnce l) (sym have) (once_moved (all_contents a) (contents_of s.layout) (all_contents b) (all_contents c) (all_contents e) contents_move (subst (λ (l : List ℕ). AreOnce l) had h.contents_once));
        no_others = λ at is. subst (λ (l : List RecordPlace). Contains l at) (sym are)
            (there_moved (all_places a) (record_places s) (all_places b) (all_places c) (all_places e) places_move at (subst (λ (l : List RecordPlace). Contains l at) were (h.no_others at is)));
        no_other_lists = λ chain is. elim (h.no_other_lists chain is) [
          | inl named ↦ inl named
          | inr among ↦ inr (subst (λ (l : List ℕ). Contains l chain) (sym have)
              (there_moved (all_contents a) (contents_of s.layout) (all_contents b) (all_contents c) (all_contents e) contents_move chain (subst (λ (l : List ℕ). Contains l chain) had among)))
        ];
      }

-- ---- what a `rename` is answered

-- a document has the new name
abbrev exists_fault : State → List ℕ → CutTree → Option ReplyError
exists_fault state new document = if is_some (get state.documents new) then Some Exists else None

pub rename_absent : (state : State) (old new : List ℕ) → get state.documents old ≡ None → Step state (Rename old new) (reply.Refused NoDocument) state
rename_absent state old new none = refused_step state (Rename old new) NoDocument (ap (λ o. option_map_or (exists_fault state new) o (Some NoDocument)) none)

pub rename_taken : (state : State) (old new : List ℕ) (document other : CutTree) → get state.documents old ≡ Some document → get state.documents new ≡ Some other → Step state (Rename old new) (reply.Refused Exists) state
rename_taken state old new document other there taken =
    refused_step state (Rename old new) Exists (ap (λ o. option_map_or (exists_fault state new) o (Some NoDocument)) there ∙ ap (λ o. if is_some o then Some Exists else None) taken)

rename_free : (state : State) (old new : List ℕ) (document : CutTree) → get state.documents old ≡ Some document → get state.documents new ≡ None → refusal state (Rename old new) ≡ None
rename_free state old new document there none = ap (λ o. option_map_or (exists_fault state new) o (Some NoDocument)) there ∙ ap (λ o. if is_some o then Some Exists else None) none

module _ {D : Type 0} (d : Ghosts D) (s : Store) (x : D) (running : is_ended s ≡ false) (old new : List ℕ) where
  -- no document has the old name
  pub old_absent : get (s.catalog).documents old ≡ None → IsStoreLeft d s s x x × StepsRefused d (Rename old new) NoDocument s x
  old_absent none = (store_left d s x running, λ saved state at. rename_absent state old new (now_none old at none))

  -- a document has the new name
  pub new_taken : (entry : DocEntry) → get (s.catalog).documents old ≡ Some entry → IsSome (get (s.catalog).documents new) → IsStoreLeft d s s x x × StepsRefused d (Rename old new) Exists s x
  new_taken entry there taken = (
    store_left d s x running,
    λ saved state at.
        let other = some_value (get (s.catalog).documents new) taken in
        rename_taken state old new ((the_one d s x state at old entry there).0).document ((the_one d s x state at new other.0 other.1).0).document (shown_there d s x state at old entry there) (shown_there d s x state at new other.0 other.1),
  )

-- ---- the state with it

none_either_way : {T : Type 0} (b : Bool) → let none : Option T = None in cond b none none ≡ none
none_either_way true = refl
none_either_way false = refl

module _ {D : Type 0} (d : Ghosts D) (s0 : Store) (x0 : D) {saved : Held} (state : State) (at : IsNow d s0 x0 saved state) (old new : List ℕ) (entry : DocEntry) (there : get (s0.catalog).documents old ≡ Some entry)
    (none : get (s0.catalog).documents new ≡ None) where
  abbrev the_old : StoredDocument
  the_old = (the_one d s0 x0 state at old entry there).0

  abbrev before : List StoredDocument
  before = (place d s0 x0 state at old entry there).before

  abbrev after : List StoredDocument
  after = (place d s0 x0 state at old entry there).after

  are : (at.state_is).stored ≡ before ++ the_old ∷ after
  are = (place d s0 x0 state at old entry there).are

  named : the_old.name ≡ old
  named = (place d s0 x0 state at old entry there).named

  names_rest : entries (remove (s0.catalog).documents old) ≡ map (λ (s : StoredDocument). (s.name, s.entry)) (before ++ after)
  names_rest = subst (λ (n : List ℕ). entries (remove (s0.catalog).documents n) ≡ map (λ (s : StoredDocument). (s.name, s.entry)) (before ++ after)) named
      (removed_between (λ (s : StoredDocument). s.name) (λ (s : StoredDocument). s.entry) (s0.catalog).documents before the_old after (entries_at d s0 x0 state at old entry there ∙ ap (map (λ (s : StoredDocument). (s.name, s.entry))) are))

  documents_rest : entries (remove state.documents old) ≡ map (λ (s : StoredDocument). (s.name, s.document)) (before ++ after)
  documents_rest = subst (λ (n : List ℕ). entries (remove state.documents n) ≡ map (λ (s : StoredDocument). (s.name, s.document)) (before ++ after)) named
      (removed_between (λ (s : StoredDocument). s.name) (λ (s : StoredDocument). s.document) state.documents before the_old after ((at.state_is).documents ∙ ap (map (λ (s : StoredDocument). (s.name, s.document))) are))

  none_rest : find name_order new (map (λ (s : StoredDocument). (s.name, s.entry)) (before ++ after)) ≡ None
  none_rest = none_listed (λ (s : StoredDocument). s.name) (λ (s : StoredDocument). s.entry) (remove (s0.catalog).documents old) (before ++ after) names_rest new
      (get-remove nat_list_cmp_total (s0.catalog).documents old new ∙ ap (cond (eq_by_cmp name_order new old) None) none ∙ none_either_way (eq_by_cmp name_order new old))

  none_shown : find name_order new (map (λ (s : StoredDocument). (s.name, s.document)) (before ++ after)) ≡ None
  none_shown = none_either name_order (λ (s : StoredDocument). s.name) new (λ (s : StoredDocument). s.entry) (λ (s : StoredDocument). s.document) (before ++ after) none_rest

  abbrev first : List StoredDocument
  first = front name_order (λ (s : StoredDocument). s.name) new (before ++ after)

  abbrev last : List StoredDocument
  last = behind name_order (λ (s : StoredDocument). s.name) new (before ++ after)

  same : before ++ after ≡ first ++ last
  same = sym (front-behind name_order (λ (s : StoredDocument). s.name) new (before ++ after))

  abbrev all_renamed : List StoredDocument
  all_renamed = first ++ renamed new the_old ∷ last

  names_renamed : entries (entries_renamed (s0.catalog).documents old new) ≡ map (λ (s : StoredDocument). (s.name, s.entry)) all_renamed
  names_renamed =
      ap (λ o. entries (option_map_or (λ (e : DocEntry). insert (remove (s0.catalog).documents old) new e) o (s0.catalog).documents)) there
      ∙ ap (λ (e : DocEntry). entries (insert (remove (s0.catalog).documents old) new e)) (sym (the_one d s0 x0 state at old entry there).2)
      ∙ inserted_between (λ (s : StoredDocument). s.name) (λ (s : StoredDocument). s.entry) (remove (s0.catalog).documents old) (before ++ after) names_rest new (renamed new the_old) refl none_rest

  documents_renamed : entries (insert (remove state.documents old) new the_old.document) ≡ map (λ (s : StoredDocument). (s.name, s.document)) all_renamed
  documents_renamed = inserted_between (λ (s : StoredDocument). s.name) (λ (s : StoredDocument). s.document) (remove state.documents old) (before ++ after) documents_rest new (renamed new the_old) refl none_shown

  others_renamed : (t : StoredDocument) → Contains (at.state_is).stored t → t.name ≢ old → Contains all_renamed t
  others_renamed t among other =
      rest_moved before (renamed new the_old ∷ []) after first last same t (others_left old before the_old after t named (subst (λ (l : List StoredDocument). Contains l t) are among) other)

  free : refusal state (Rename old new) ≡ None
  free = rename_free state old new the_old.document (shown_there d s0 x0 state at old entry there) (now_none new at none)

  pub rename_prepared : (s2 : Store) (x2 : D) → (s2.catalog).documents ≡ entries_renamed (s0.catalog).documents old new → (s2.catalog).rules ≡ (s0.catalog).rules → IsCatalog (catalog_bytes s2.catalog) s2.catalog
      → ComesTo d s0.records s2.records x0 x2 (λ was now. SetsCatalog (catalog_bytes s2.catalog) was now)
      → (made : PreparesNow d saved state (Rename old new) reply.Done s2 x2) × RecordsStay (IsLeftBy (Rename old new)) (at.state_is).stored at.held (made.now).held
      × BothStay old new (at.state_is).stored ((made.now).state_is).stored
  rename_prepared s2 x2 documents rules formed saves =
      let now = saves saved at.held at.stands in
      let next = record state { documents = insert (remove state.documents old) new the_old.document } in (
        record {
          next = next;
          step = done_step state (Rename old new) next free (refl, record { document = the_old.document; there = shown_there d s0 x0 state at old entry there; next_is = refl });
          now = record {
            held = now.0;
            stands = now.1;
            state_is = record {
              settings = (now.2).settings ∙ (at.state_is).settings;
              stored = all_renamed;
              holds = catalog_comes (catalog_bytes s2.catalog) at.held now.0 all_renamed (holds_renamed at.held new before the_old after first last same (subst (HoldsDocuments at.held) are (at.state_is).holds)) now.2;
              contents = s2.catalog;
              catalog = subst (λ (bytes : List ℕ). IsCatalog bytes s2.catalog) (sym (now.2).catalog) formed;
              names = ap (λ (m : Entries). entries m) documents ∙ names_renamed;
              documents = documents_renamed;
              rules = rules ∙ ap (λ (c : Contents). c.rules) (sym (contents_at d s0 x0 state at old entry there)) ∙ (at.state_is).rules;
            };
            catalog = subst (λ (bytes : List ℕ). IsCatalog bytes s2.catalog) (sym (now.2).catalog) formed;
          };
        },
        catalog_alone (IsLeftBy (Rename old new)) (catalog_bytes s2.catalog) at.held now.0 (at.state_is).stored now.2,
        λ t among beside. others_renamed t among beside.0,
      )

  -- ---- there were too few pages

  -- the catalog with the new name is one
  abbrev new_contents : Contents
  new_contents = record { documents = entries_renamed (s0.catalog).documents old new; rules = (s0.catalog).rules }

  as_many : length all_renamed ≡ length (at.state_is).stored
  as_many =
      let now = length-append first (renamed new the_old ∷ last) in
      let was = length-append before (the_old ∷ after) in
      let rest : length (before ++ after) ≡ length (first ++ last) = ap (λ (l : List StoredDocument). length l) same in
      let left = length-append before after in
      let right = length-append first last in
      let all : length (at.state_is).stored ≡ length (before ++ the_old ∷ after) = ap (λ (l : List StoredDocument). length l) are in
      omega (arith, now, was, rest, left, right, all)

  with_name : IsTrue (is_document_name new) → IsCatalog (catalog_bytes new_contents) new_contents
  with_name new_named = record {
    few =
        let number : length (entries new_contents.documents) ≡ length all_renamed = ap length names_renamed ∙ length-map all_renamed (λ (s : StoredDocument). (s.name, s.entry)) in
        let was : length (entries (s0.catalog).documents) ≡ length (at.state_is).stored = ap length (entries_at d s0 x0 state at old entry there) ∙ length-map (at.state_is).stored (λ (s : StoredDocument). (s.name, s.entry)) in
        let low = (at.catalog).few in
        let many = as_many in
        omega (arith, number, was, low, many);
    kept =
        let f : StoredDocument → List ℕ × DocEntry = λ s. (s.name, s.entry) in
        let listed = subst (λ (l : List (List ℕ × DocEntry)). All CanBeKept l) (entries_at d s0 x0 state at old entry there ∙ ap (map f) are) (at.catalog).kept in
        let each = all_unmapped CanBeKept f (before ++ the_old ∷ after) listed in
        let own = one_of (λ s. CanBeKept (f s)) before the_old after each in
        subst (λ (l : List (List ℕ × DocEntry)). All CanBeKept l) (sym names_renamed) (All-map CanBeKept f all_renamed (all_with (λ s. CanBeKept (f s)) first (renamed new the_old) last
        (record { named = new_named; page = own.page; slot = own.slot; nodes = own.nodes })
        (subst (λ (l : List StoredDocument). All (λ s. CanBeKept (f s)) l) same (all_without (λ s. CanBeKept (f s)) before the_old after each))));
    rules = (at.catalog).rules;
    labels = (at.catalog).labels;
    spelled = refl;
  }

  rename_full : IsTrue (is_document_name new) → (at.held).free < catalog_needs (catalog_bytes new_contents) at.held → Step state (Rename old new) (reply.Refused Full) state
  rename_full new_named few =
      let counted : nodes_after state (Rename old new) ≡ all_nodes state = room_counted (λ t. 1 + nodes t.below) state (Rename old new) free in
      let told : pages_after state (Rename old new) ≡ all_pages state = room_counted tree_pages state (Rename old new) free in
      full_step state (Rename old new) free (record { needs = refl; full = room (nodes_after state (Rename old new)) (pages_after state (Rename old new)) counted told; refused = (refl, refl) })
    where
      room : (behind pages_behind : ℕ) → behind ≡ all_nodes state → pages_behind ≡ all_pages state → MayBeFull state behind pages_behind
      room behind pages_behind same alike =
          let state_is = at.state_is in
          let leaves = documents_leave_free (current (s0.records).wal ((at.stands).keeps).image) at.held state_is.stored ((s0.records).head, (at.stands).holds) state_is.holds in
          let all = leaves.few_records in
          let chains = leaves.few_chains in
          let listed = leaves.few_contents in
          let whole : ((at.held).settings).limit ≤ (at.held).free + (1 + leaves.records + leaves.chains + leaves.contents + chain_count (length (at.held).catalog.bytes)) = leaves.free in
          let two = leaves.few_documents in
          let total = nodes_stored state state_is.stored state_is.documents in
          let long = pages_stored state state_is.stored state_is.documents in
          let limit : ((at.held).settings).limit ≡ (state.settings).limit = ap (λ (t : Settings). t.limit) state_is.settings in
          let short = most_bytes (catalog_bytes new_contents) new_contents (with_name new_named) in
          let number : length (entries new_contents.documents) ≡ length all_renamed = ap length names_renamed ∙ length-map all_renamed (λ (s : StoredDocument). (s.name, s.entry)) in
          let many = as_many in
          let ruled : length (s0.catalog).rules ≡ length state.rules = ap (λ (c : Contents). length c.rules) (sym (contents_at d s0 x0 state at old entry there)) ∙ ap length (at.state_is).rules in
          rule_room (all_nodes state) behind (all_pages state) pages_behind leaves.records leaves.chains leaves.contents (length state_is.stored) (length (catalog_bytes new_contents)) (length (at.held).catalog.bytes) (length state.rules)
          (length (s0.catalog).rules) (at.held).free (state.settings).limit (omega (arith, whole, limit)) (omega (arith, all, total)) chains (omega (arith, listed, long)) (omega (arith, two, total)) (omega (arith, short, number, many))
          (omega (arith, ruled)) same alike few

-- ---- why it wasn't renamed

module _ {D : Type 0} (d : Ghosts D) (s0 s1 : Store) (x0 x1 : D) (old new : List ℕ) (entry : DocEntry) (there : get (s0.catalog).documents old ≡ Some entry) (none : get (s0.catalog).documents new ≡ None) where
  pub rename_unprepared : IsTrue (is_document_name new) → has_ended s0.records ≡ false → s1.catalog ≡ s0.catalog → (e : StoreError)
      → NotStored d (λ was. catalog_needs (catalog_bytes (record { documents = entries_renamed (s0.catalog).documents old new; rules = (s0.catalog).rules })) was) (λ was. ⊥) 0 e s0.records s1.records x0 x1
      → RenameNotPrepared d (Rename old new) e s0 s1 x0 x1
  rename_unprepared named runs catalog below.Full refused = (record { runs = refused.runs; saved = refused.keeps; catalog = catalog }, λ saved state at. rename_full d s0 x0 state at old new entry there none named (refused.few saved at.held at.stands))
  rename_unprepared named runs catalog below.Disk refused = (refused.0, ((refused.1).before, (refused.1).after))
  rename_unprepared named runs catalog (below.Damaged page) refused = (((refused.ends).before, (refused.ends).after), λ saved state at. refused.lacks saved at.held at.stands)
  rename_unprepared named runs catalog below.Memory refused = record { runs = refused.0; saved = refused.1; catalog = catalog }
  rename_unprepared named runs catalog below.Ended refused = absurd (no_end s0.records runs refused.0)
  rename_unprepared named runs catalog below.Exists refused = absurd refused
  rename_unprepared named runs catalog below.NotAStore refused = absurd refused
