-- A document of a store taken away, before the commit.
use Rattle.std.proofs.Common.{◌≡◌, ℕ, ◌+◌, ◌<◌, ◌≤◌, cond, List, [], ◌∷◌, ◌++◌, length, map, Option, None, Some, false, Less, Equal, Greater, is_eq, refl, sym, ap, ◌∙◌, subst, arith, append-nil, inl, inr}
use Rattle.std.specs.Prelude.{All, Contains, ◌≢◌, option_map}
use Rattle.std.specs.Option.{is_some, option_map_or, IsSomeAnd}
use Rattle.std.specs.FinMap.{entries, get, remove}
use Rattle.std.proofs.Math.Nat.{mul-div-le}
use Rattle.std.proofs.lemmas.Nat.{le-div}
use Rattle.std.proofs.lemmas.List.Elements.{All-head, All-tail, Contains-append_left, Contains-append_right, Contains-append_cases}
use Rattle.std.proofs.lemmas.List.Sorted.{Contains-permutation, IsPermutation-sym}
use Rattle.nx_host.specs.declared.disk.Disk.{Ghosts}
use Rattle.nx_host.specs.Still.{IsStill}
use Rattle.nx_host.proofs.DiskLemmas.{untold}
use Rattle.nx_holdings.specs.Holdings.{Held, OnPages, chain_count}
use Rattle.nx_records.specs.declared.records.Records.{Records}
use Rattle.nx_records.specs.declared.error.StoreError.{StoreError}
use Rattle.nx_records.specs.declared.error.StoreError.TheVariants as below
use Rattle.nx_records.specs.Records.{has_ended, StandsFor, KeepsSaved, ComesTo}
use Rattle.nx_records.specs.Changes.{SetsCatalog, catalog_needs}
use Rattle.nx_records.specs.Refusals.{RunsOn, NotChanged}
use Rattle.nx_cuts.specs.Cut.{CutTree}
use Rattle.nx_pyx.specs.DocumentName.{name_order}
use Rattle.nx_matrix.specs.RuleLabels.{HasLabels}
use Rattle.nx_script.specs.declared.command.Command.TheVariants.{Discard}
use Rattle.nx_script.specs.declared.reply.Reply.TheVariants as reply
use Rattle.nx_script.specs.declared.reply.ReplyError.{ReplyError}
use Rattle.nx_script.specs.declared.reply.ReplyError.TheVariants.{NoDocument}
use Rattle.nx_hold.specs.declared.entry.DocEntry.{DocEntry}
use Rattle.nx_layouts.specs.Layout.{RecordPlace, Layout, contents_of}
use Rattle.nx_hold.specs.Contents.{AreOwn}
use Rattle.nx_hold.specs.Documents.{MovesRecords}
use Rattle.nx_hold.specs.Pieces.{IsTidy, held_by}
use Rattle.nx_hold.proofs.RefusalLemmas.{runs_then, saved_then}
use Rattle.nx_catalog.specs.Catalog.{Contents, Entries, IsCatalog, catalog_bytes}
use Rattle.nx_catalog.proofs.CatalogLemmas.{one_contents}
use Rattle.nx_catalog.proofs.LengthLemmas.{length_less}
use Rattle.nx_state.specs.State.{State}
use Rattle.nx_state.specs.Stands.{StoredDocument, IsStoredIn, HoldsDocuments, record_places}
use Rattle.nx_state.proofs.ChangeLemmas.{document_goes, documents_own_contents, catalog_comes}
use Rattle.nx_steps.specs.Step.{Step}
use Rattle.nx_edit.specs.declared.error.EditError.{EditError}
use Rattle.nx_edit.specs.declared.error.EditError.TheVariants as edit
use Rattle.nx_edit.specs.Removing.{document_places, RemovesDocument, OfEntry, HasNone, OwnComes, NotRemoved}
use Rattle.nx_store.specs.Store.{IsNow}
use Rattle.nx_store.specs.Staying.{IsLeftBy, RecordsStay, OthersStay}
use Rattle.nx_store.specs.Changing.{PreparesNow, NotPrepared}
use Rattle.nx_store.specs.Told.{told_error, told_removal}
use Rattle.nx_store.specs.declared.store.Store.{Store}
use Rattle.nx_store.proofs.FoundLemmas.{found, get_found, map_some, same_some}
use Rattle.nx_store.proofs.StayingLemmas.{alone_there, change_leaves, catalog_leaves}
use Rattle.nx_store.proofs.KeepLemmas.{later_rose, no_end}
use Rattle.nx_store.proofs.StepsLemmas.{refused_step, done_step}
use Rattle.nx_store.proofs.OrderedLemmas.{name_same, removed_between}

-- The document that is found under a name, among the others.
pub record IsAmong (name : List ℕ) (stored : List StoredDocument) (s : StoredDocument) : Type 0 where
  pub before : List StoredDocument
  pub after : List StoredDocument
  pub are : stored ≡ before ++ s ∷ after
  pub named : s.name ≡ name

among : (name : List ℕ) (stored : List StoredDocument) (s : StoredDocument) → found name stored ≡ Some s → IsAmong name stored s
among name [] s e = untold s e
among name (t ∷ stored) s e =
    let further : found name stored ≡ Some s → IsAmong name (t ∷ stored) s =
    λ h. let rest = among name stored s h in record { before = t ∷ rest.before; after = rest.after; are = ap (λ l. t ∷ l) rest.are; named = rest.named } in
    elim (name_order name t.name) as (λ o. name_order name t.name ≡ o → cond (is_eq o) (Some t) (found name stored) ≡ Some s → IsAmong name (t ∷ stored) s) [
      | Less ↦ λ q h. further h
      | Equal ↦ λ q h. subst (λ x. IsAmong name (t ∷ stored) x) (same_some h) (record { before = []; after = stored; are = refl; named = sym (name_same name t.name q) })
      | Greater ↦ λ q h. further h
    ] refl e

pub one_of : (P : StoredDocument → Type 0) (before : List StoredDocument) (s : StoredDocument) (after : List StoredDocument) → All P (before ++ s ∷ after) → P s
one_of P [] s after h = All-head P s after h
one_of P (t ∷ before) s after h = one_of P before s after (All-tail P t (before ++ s ∷ after) h)

-- the others are there still
pub others_left : (name : List ℕ) (before : List StoredDocument) (old : StoredDocument) (after : List StoredDocument) (s : StoredDocument) → old.name ≡ name → Contains (before ++ old ∷ after) s → s.name ≢ name → Contains (before ++ after) s
others_left name before old after s named there other = elim (Contains-append_cases before (old ∷ after) s there) [
  | inl early ↦ Contains-append_left before after s early
  | inr later ↦ elim (Contains-append_cases (old ∷ []) after s later) [
    | inl one ↦ absurd (other (ap (λ (x : StoredDocument). x.name) (sym (alone_there old s one)) ∙ named))
    | inr late ↦ Contains-append_right before after s late
  ]
]

-- a catalog that is no longer needs no page
pub none_needed : (mid : Held) (bytes : List ℕ) → length bytes ≤ length mid.catalog.bytes → mid.free < catalog_needs bytes mid → ⊥
none_needed mid bytes short few = let less = fewer (length bytes) (length mid.catalog.bytes) short in omega (arith, few, less)
  where
    fewer : (m n : ℕ) → m ≤ n → chain_count m ≤ chain_count n
    fewer m n le = let f = mul-div-le (m + 8183) 8184 in le-div (chain_count m) (n + 8183) 8184 (omega arith) (omega (arith, f, le))

-- no tree is refused
abbrev no_fault : CutTree → Option ReplyError
no_fault document = None

-- what a `drop` is answered
pub absent_gone : (state : State) (name : List ℕ) → get state.documents name ≡ None → Step state (Discard name) (reply.Refused NoDocument) state
absent_gone state name none = refused_step state (Discard name) NoDocument (ap (λ o. option_map_or no_fault o (Some NoDocument)) none)

found_gone : (state : State) (name : List ℕ) (document : CutTree) → get state.documents name ≡ Some document → Step state (Discard name) reply.Done (record state { documents = remove state.documents name })
found_gone state name document there =
    done_step state (Discard name) (record state { documents = remove state.documents name }) (ap (λ o. option_map_or no_fault o (Some NoDocument)) there) (refl, refl)

-- The records are those of a state without a document, whose catalog is not set yet.
record IsGone (saved mid : Held) (state : State) (contents : Contents) (name : List ℕ) : Type 0 where
  pub stored : List StoredDocument
  pub holds : HoldsDocuments mid stored
  pub catalog : mid.catalog ≡ saved.catalog
  pub names : entries (remove contents.documents name) ≡ map (λ (s : StoredDocument). (s.name, s.entry)) stored
  pub documents : entries (remove state.documents name) ≡ map (λ (s : StoredDocument). (s.name, s.document)) stored
  pub settings : mid.settings ≡ saved.settings

module _ {D : Type 0} (d : Ghosts D) (s0 : Store) (x0 : D) {saved : Held} (state : State) (at : IsNow d s0 x0 saved state) (name : List ℕ) (entry : DocEntry) (there : get (s0.catalog).documents name ≡ Some entry) where
  pub contents_at : (at.state_is).contents ≡ s0.catalog
  contents_at = one_contents (at.held).catalog.bytes (at.state_is).contents s0.catalog (at.state_is).catalog at.catalog

  pub entries_at : entries (s0.catalog).documents ≡ map (λ (s : StoredDocument). (s.name, s.entry)) (at.state_is).stored
  entries_at = ap (λ (c : Contents). entries c.documents) (sym contents_at) ∙ (at.state_is).names

  pub the_one : (s : StoredDocument) × (found name (at.state_is).stored ≡ Some s) × (s.entry ≡ entry)
  the_one = map_some (λ (s : StoredDocument). s.entry) (found name (at.state_is).stored) entry (sym (get_found (s0.catalog).documents (λ (s : StoredDocument). s.entry) name (at.state_is).stored entries_at) ∙ there)

  pub place : IsAmong name (at.state_is).stored the_one.0
  place = among name (at.state_is).stored the_one.0 the_one.1

  pub shown_there : get state.documents name ≡ Some (the_one.0).document
  shown_there = get_found state.documents (λ (s : StoredDocument). s.document) name (at.state_is).stored (at.state_is).documents ∙ ap (option_map (λ (s : StoredDocument). s.document)) the_one.1

  pub holds_between : HoldsDocuments at.held (place.before ++ the_one.0 ∷ place.after)
  holds_between = subst (HoldsDocuments at.held) place.are (at.state_is).holds

  pub stored_one : IsStoredIn (held_by holds_between.pieces) the_one.0
  stored_one = one_of (IsStoredIn (held_by holds_between.pieces)) place.before the_one.0 place.after holds_between.each

  -- its contents are its own
  pub own_contents : AreOwn at.held (record_places the_one.0) (contents_of (the_one.0).layout)
  own_contents = documents_own_contents at.held place.before place.after the_one.0 holds_between

  -- what is said of each document of the entry is said of that one
  pub told_entry : (P : Held → CutTree → Layout → Type 0) → OfEntry d s0.records x0 entry P → P at.held (the_one.0).document (the_one.0).layout
  told_entry P each =
      subst (λ (e : DocEntry). OfEntry d s0.records x0 e P) (sym the_one.2) each (the_one.0).document
      (record { saved = saved; now = at.held; stands = at.stands; pieces = holds_between.pieces; laid = record { layout = (the_one.0).layout; laid = stored_one.laid } }) holds_between.tidy stored_one.counted

  -- so it isn't one that none is
  pub none_entry : HasNone d s0.records x0 entry → ⊥
  none_entry none =
      subst (λ (e : DocEntry). AreOwn at.held (document_places e (the_one.0).document (the_one.0).layout) (contents_of (the_one.0).layout) → ⊥) (sym the_one.2)
      (told_entry (λ now document layout. AreOwn now (document_places entry document layout) (contents_of layout) → ⊥) none) own_contents

  -- it went, with its contents
  gone_one : (r1 : Records) (x1 : D) → OwnComes d s0.records r1 x0 x1 entry (RemovesDocument entry) → (mid : Held) × StandsFor d r1 x1 saved mid × IsTidy mid × RemovesDocument (the_one.0).entry (the_one.0).document (the_one.0).layout at.held mid
  gone_one r1 x1 comes =
      subst (λ (e : DocEntry). OwnComes d s0.records r1 x0 x1 e (RemovesDocument e)) (sym the_one.2) comes saved at.held holds_between.pieces (the_one.0).document (the_one.0).layout at.stands holds_between.tidy stored_one.laid
      stored_one.counted own_contents

  gone : (r1 : Records) (x1 : D) → OwnComes d s0.records r1 x0 x1 entry (RemovesDocument entry)
      → (mid : Held) × StandsFor d r1 x1 saved mid × (m : IsGone at.held mid state s0.catalog name) × RecordsStay (IsLeftBy (Discard name)) (at.state_is).stored at.held mid × OthersStay name (at.state_is).stored m.stored
  gone r1 x1 comes =
      let mid = gone_one r1 x1 comes in
      let s = the_one.0 in
      let went = mid.3 in
      let lost : List ℕ = went.0 in
      let moves : MovesRecords (record_places s) [] lost [] 0 at.held mid.0 = went.2 in (
        mid.0,
        mid.1,
        record {
          stored = place.before ++ place.after;
          holds = document_goes lost 0 at.held mid.0 place.before place.after s holds_between moves
              (λ first among. Contains-permutation (contents_of s.layout) lost first (IsPermutation-sym lost (contents_of s.layout) went.1) among) mid.2;
          settings = moves.settings;
          catalog = moves.catalog;
          names = subst (λ (n : List ℕ). entries (remove (s0.catalog).documents n) ≡ map (λ (s : StoredDocument). (s.name, s.entry)) (place.before ++ place.after)) place.named
              (removed_between (λ (s : StoredDocument). s.name) (λ (s : StoredDocument). s.entry) (s0.catalog).documents place.before s place.after
              (entries_at ∙ ap (map (λ (s : StoredDocument). (s.name, s.entry))) place.are));
          documents = subst (λ (n : List ℕ). entries (remove state.documents n) ≡ map (λ (s : StoredDocument). (s.name, s.document)) (place.before ++ place.after)) place.named
              (removed_between (λ (s : StoredDocument). s.name) (λ (s : StoredDocument). s.document) state.documents place.before s place.after
              ((at.state_is).documents ∙ ap (map (λ (s : StoredDocument). (s.name, s.document))) place.are));
        },
        subst (λ (l : List StoredDocument). RecordsStay (IsLeftBy (Discard name)) l at.held mid.0) (sym place.are)
            (change_leaves (IsLeftBy (Discard name)) lost [] 0 at.held mid.0 place.before s [] place.after holds_between
            (subst (λ (ps : List RecordPlace). MovesRecords ps [] lost [] 0 at.held mid.0) (sym (append-nil (record_places s))) moves) (λ t p left. left.1) (λ p left. absurd (left.0 place.named))),
        λ t there other. others_left name place.before s place.after t place.named (subst (λ (l : List StoredDocument). Contains l t) place.are there) other,
      )

  -- the document is no longer entered
  pub gone_prepared : (r1 : Records) (s2 : Store) (x1 x2 : D) → OwnComes d s0.records r1 x0 x1 entry (RemovesDocument entry) → (s2.catalog).documents ≡ remove (s0.catalog).documents name → (s2.catalog).rules ≡ (s0.catalog).rules
      → (All HasLabels (s0.catalog).rules → IsCatalog (catalog_bytes s2.catalog) s2.catalog) → ComesTo d r1 s2.records x1 x2 (λ was now. SetsCatalog (catalog_bytes s2.catalog) was now)
      → (made : PreparesNow d saved state (Discard name) reply.Done s2 x2) × RecordsStay (IsLeftBy (Discard name)) (at.state_is).stored at.held (made.now).held × OthersStay name (at.state_is).stored ((made.now).state_is).stored
  gone_prepared r1 s2 x1 x2 comes documents rules form saves =
      let mid = gone r1 x1 comes in
      let m = mid.2 in
      let now = saves saved mid.0 mid.1 in
      let formed = form (at.catalog).labels in (
        record {
          next = record state { documents = remove state.documents name };
          step = found_gone state name (the_one.0).document shown_there;
          now = record {
            held = now.0;
            stands = now.1;
            state_is = record {
              settings = (now.2).settings ∙ m.settings ∙ (at.state_is).settings;
              stored = m.stored;
              holds = catalog_comes (catalog_bytes s2.catalog) mid.0 now.0 m.stored m.holds now.2;
              contents = s2.catalog;
              catalog = subst (λ (bytes : List ℕ). IsCatalog bytes s2.catalog) (sym (now.2).catalog) formed;
              names = ap (λ (es : Entries). entries es) documents ∙ m.names;
              documents = m.documents;
              rules = rules ∙ ap (λ (c : Contents). c.rules) (sym contents_at) ∙ (at.state_is).rules;
            };
            catalog = subst (λ (bytes : List ℕ). IsCatalog bytes s2.catalog) (sym (now.2).catalog) formed;
          };
        },
        catalog_leaves (IsLeftBy (Discard name)) (catalog_bytes s2.catalog) at.held mid.0 now.0 (at.state_is).stored now.2 mid.3,
        mid.4,
      )

  -- the shorter catalog needs no page
  pub room_behind : (r1 : Records) (x1 : D) (comes : OwnComes d s0.records r1 x0 x1 entry (RemovesDocument entry))
      → ((saved now : Held) → StandsFor d r1 x1 saved now → now.free < catalog_needs (catalog_bytes (record { documents = remove (s0.catalog).documents name; rules = (s0.catalog).rules })) now) → ⊥
  room_behind r1 x1 comes lacks =
      let mid = gone r1 x1 comes in
      let less = length_less (s0.catalog).documents (s0.catalog).rules name (ap is_some there) in
      let was : length (mid.0).catalog.bytes ≡ length (catalog_bytes s0.catalog) = ap (λ (c : OnPages). length c.bytes) (mid.2).catalog ∙ ap (λ (b : List ℕ). length b) (at.catalog).spelled in
      none_needed mid.0 (catalog_bytes (record { documents = remove (s0.catalog).documents name; rules = (s0.catalog).rules })) (omega (arith, less, was)) (lacks saved mid.0 mid.1)

-- Why a document wasn't taken away.
module _ {D : Type 0} (d : Ghosts D) (s0 s1 : Store) (x0 x1 : D) (name : List ℕ) (entry : DocEntry) (runs : has_ended s0.records ≡ false) (there : get (s0.catalog).documents name ≡ Some entry) where
  pub stays_there : s1.catalog ≡ s0.catalog → (e : EditError) → NotRemoved d entry e s0.records s1.records x0 x1 → IsSomeAnd (told_removal e) (λ told. NotPrepared d told s0 s1 x0 x1)
  stays_there catalog edit.Disk refused = (refused.0, ((refused.1).before, (refused.1).after))
  stays_there catalog (edit.Damaged page) refused = (((refused.0).before, (refused.0).after), λ saved state at. none_entry d s0 x0 state at name entry there refused.1)
  stays_there catalog edit.Memory refused = record { runs = refused.0; saved = refused.1; catalog = catalog }
  stays_there catalog edit.Ended refused = absurd (no_end s0.records runs refused.0)
  stays_there catalog edit.NoNode refused = absurd refused
  stays_there catalog edit.BadPlace refused = absurd refused
  stays_there catalog edit.Twice refused = absurd refused
  stays_there catalog edit.NoContent refused = absurd refused
  stays_there catalog edit.TooLong refused = absurd refused
  stays_there catalog edit.TooDeep refused = absurd refused
  stays_there catalog edit.TooMany refused = absurd refused
  stays_there catalog (edit.TooHeavy weight) refused = absurd refused
  stays_there catalog edit.Full refused = absurd refused

  -- ... or the catalog without it not saved
  pub stays_entered : (s2 : Store) (x2 : D) → IsStill d x0 x1 → RunsOn s0.records s1.records → KeepsSaved d s0.records s1.records x0 x1 → OwnComes d s0.records s1.records x0 x1 entry (RemovesDocument entry) → s2.catalog ≡ s0.catalog → (e : StoreError)
      → NotChanged d (λ was. was.free < catalog_needs (catalog_bytes (record { documents = remove (s0.catalog).documents name; rules = (s0.catalog).rules })) was) 0 e s1.records s2.records x1 x2 → IsSomeAnd (told_error e) (λ told. NotPrepared d told s0 s2 x0 x2)
  stays_entered s2 x2 still goes keeps comes same below.Disk refused = (later_rose (d.faults x0) (d.faults x1) (d.faults x2) still.faults_later refused.0, (goes.before, (refused.1).after))
  stays_entered s2 x2 still goes keeps comes same (below.Damaged page) refused = ((goes.before, (refused.ends).after), λ saved state at. room_behind d s0 x0 state at name entry there s1.records x1 comes refused.lacks)
  stays_entered s2 x2 still goes keeps comes same below.Memory refused = record {
    runs = runs_then {r0 = s0.records} {r1 = s1.records} {r2 = s2.records} goes refused.0;
    saved = saved_then {d = d} {r0 = s0.records} {r1 = s1.records} {r2 = s2.records} {x0 = x0} {x1 = x1} {x2 = x2} keeps refused.1;
    catalog = same;
  }
  stays_entered s2 x2 still goes keeps comes same below.Ended refused = absurd (no_end s1.records goes.after refused.0)
  stays_entered s2 x2 still goes keeps comes same below.Full refused = absurd refused
  stays_entered s2 x2 still goes keeps comes same below.Exists refused = absurd refused
  stays_entered s2 x2 still goes keeps comes same below.NotAStore refused = absurd refused
