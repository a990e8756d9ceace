-- Which records of a store stay where a command is carried out.
use Rattle.std.proofs.Common.{◌≡◌, ℕ, List, [], ◌∷◌, ◌++◌, Option, Some, Bool, true, false, refl, sym, ap, ◌∙◌, subst, arith, inl, inr}
use Rattle.std.specs.Prelude.{◌⊎◌, ◌<◌, Contains, IsSome}
use Rattle.std.proofs.lemmas.Bool.{false≢true}
use Rattle.std.proofs.lemmas.List.Elements.{Contains-append_left, Contains-append_right, Contains-append_cases, Contains-push_cases}
use Rattle.nx_host.specs.Disk.{Image}
use Rattle.nx_host.specs.declared.disk.Disk.{Ghosts}
use Rattle.nx_host.specs.Phase.{LeavesAreas}
use Rattle.nx_host.specs.Still.{IsStill}
use Rattle.nx_host.proofs.DiskLemmas.{told_same, none_still}
use Rattle.nx_replay.specs.Log.{replay}
use Rattle.nx_holdings.specs.Holdings.{Held, HoldsBy}
use Rattle.nx_holdings.proofs.OneLemmas.{hold_one}
use Rattle.nx_records.specs.Records.{has_ended, StandsFor, HasNoChanges}
use Rattle.nx_records.specs.Changes.{SetsCatalog}
use Rattle.nx_records.proofs.LeaveLemmas.{leaves_stand}
use Rattle.nx_layouts.specs.Layout.{RecordPlace, places_of}
use Rattle.nx_layouts.proofs.PlaceLemmas.{later_among}
use Rattle.nx_hold.specs.Changes.{place_of}
use Rattle.nx_hold.specs.Documents.{MovesRecords}
use Rattle.nx_nav.specs.Given.{AsksAndGives}
use Rattle.nx_nav.proofs.PartLemmas.{stands_kept}
use Rattle.nx_edit.proofs.OffLemmas.{off_among}
use Rattle.nx_catalog.specs.Catalog.{Contents, IsCatalog}
use Rattle.nx_state.specs.State.{State}
use Rattle.nx_state.specs.Stands.{StoredDocument, HoldsDocuments, record_places, all_places}
use Rattle.nx_state.proofs.ChangeLemmas.{rest_stays}
use Rattle.nx_store.specs.Store.{is_ended, HoldsOn, LeavesStore, IsAt, IsNow}
use Rattle.nx_store.specs.Staying.{RecordStays, IsOffPath, RecordsStay, IsLeftByRequest, LeavesOthers}
use Rattle.nx_script.specs.declared.request.Request.{Request}
use Rattle.nx_store.specs.declared.store.Store.{Store}
use Rattle.nx_store.proofs.AtLemmas.{at_runs, committed_at}
use Rattle.nx_store.proofs.FoundLemmas.{same_some}
use Rattle.nx_store.proofs.LogLemmas.{some_value}

-- ---- places and documents among others

none_there : {A : Type 0} (x : A) → Contains [] x → ⊥
none_there x h = let low : h.0 < 0 = h.1 in omega (arith, low)

pub alone_there : {A : Type 0} (x y : A) → Contains (x ∷ []) y → x ≡ y
alone_there x y h = elim (Contains-push_cases [] x y h) [ inl none ↦ absurd (none_there y none) | inr same ↦ same ]

-- a document's records are among those of all
place_there : (stored : List StoredDocument) (s : StoredDocument) (place : RecordPlace) → Contains stored s → Contains (record_places s) place → Contains (all_places stored) place
place_there [] s place there among = absurd (none_there s there)
place_there (t ∷ stored) s place there among = elim (Contains-append_cases (t ∷ []) stored s there) [
  | inl one ↦ Contains-append_left (record_places t) (all_places stored) place (subst (λ (x : StoredDocument). Contains (record_places x) place) (sym (alone_there t s one)) among)
  | inr rest ↦ Contains-append_right (record_places t) (all_places stored) place (place_there stored s place rest among)
]

-- those off a path are of the document
pub off_within : (name : List ℕ) (stays : Bool) (path : List ℕ) (s : StoredDocument) (place : RecordPlace) → IsOffPath name stays path s place → Contains (record_places s) place
off_within name stays path s place (inl of) =
    later_among (place_of s.entry.root) ((places_of s.layout ++ []) ++ []) place
    (Contains-append_left (places_of s.layout ++ []) [] place (Contains-append_left (places_of s.layout) [] place (off_among stays path s.layout place of.1)))
off_within name stays path s place (inr of) = of.1

-- ---- records that stay

same_record : (was : Held) (place : RecordPlace) → RecordStays was was place
same_record was place = record { itself = refl; list = λ count chain names. refl }

along_catalog : (bytes : List ℕ) (was mid now : Held) (place : RecordPlace) → SetsCatalog bytes mid now → RecordStays was mid place → RecordStays was now place
along_catalog bytes was mid now place sets stays = record {
  itself = ap (λ (r : ℕ → ℕ → Option (List ℕ)). r place.page place.slot) sets.records ∙ stays.itself;
  list = λ count chain names. ap (λ (l : ℕ → Option (List ℕ)). l chain) sets.lists ∙ stays.list count chain names;
}

module _ (Left : StoredDocument → RecordPlace → Type 0) where
  same_rest : (was : Held) (stored : List StoredDocument) → RecordsStay Left stored was was
  same_rest was stored s place there left = same_record was place

  -- where the catalog is set then
  pub catalog_leaves : (bytes : List ℕ) (was mid now : Held) (stored : List StoredDocument) → SetsCatalog bytes mid now → RecordsStay Left stored was mid → RecordsStay Left stored was now
  catalog_leaves bytes was mid now stored sets rest s place there left = along_catalog bytes was mid now place sets (rest s place there left)

  -- where it alone is set
  pub catalog_alone : (bytes : List ℕ) (was now : Held) (stored : List StoredDocument) → SetsCatalog bytes was now → RecordsStay Left stored was now
  catalog_alone bytes was now stored sets = catalog_leaves bytes was was now stored sets (same_rest was stored)

  module _ (lost brought : List ℕ) (needs : ℕ) (was now : Held) (before old new after : List StoredDocument) (h : HoldsDocuments was (before ++ (old ++ after)))
      (moves : MovesRecords (all_places old) (all_places new) lost brought needs was now)
      (within : (s : StoredDocument) (place : RecordPlace) → Left s place → Contains (record_places s) place) where
    beside_stay : (s : StoredDocument) (place : RecordPlace) → Contains before s ⊎ Contains after s → Left s place → RecordStays was now place
    beside_stay s place beside left =
        let among = within s place left in
        let there : Contains (all_places before ++ all_places after) place = elim beside [
          | inl early ↦ Contains-append_left (all_places before) (all_places after) place (place_there before s place early among)
          | inr late ↦ Contains-append_right (all_places before) (all_places after) place (place_there after s place late among)
        ] in
        let stays = rest_stays before old new after h moves place there in
        record { itself = stays.0; list = λ count chain names. stays.1 chain (inl (count, names)) }

  -- where the records of a document became others, the rest stays
  pub change_leaves : (lost brought : List ℕ) (needs : ℕ) (was now : Held) (before : List StoredDocument) (old : StoredDocument) (new after : List StoredDocument) → HoldsDocuments was (before ++ old ∷ after)
      → MovesRecords (all_places (old ∷ [])) (all_places new) lost brought needs was now → ((s : StoredDocument) (place : RecordPlace) → Left s place → Contains (record_places s) place)
      → ((place : RecordPlace) → Left old place → RecordStays was now place) → RecordsStay Left (before ++ old ∷ after) was now
  change_leaves lost brought needs was now before old new after h moves within kept s place there left = elim (Contains-append_cases before (old ∷ after) s there) [
    | inl early ↦ beside_stay lost brought needs was now before (old ∷ []) new after h moves within s place (inl early) left
    | inr later ↦ elim (Contains-append_cases (old ∷ []) after s later) [
      | inl one ↦ kept place (subst (λ (x : StoredDocument). Left x place) (sym (alone_there old s one)) left)
      | inr late ↦ beside_stay lost brought needs was now before (old ∷ []) new after h moves within s place (inr late) left
    ]
  ]

  -- where those of one more came, all stay
  pub come_leaves : (brought : List ℕ) (needs : ℕ) (was now : Held) (before new after : List StoredDocument) → HoldsDocuments was (before ++ after) → MovesRecords [] (all_places new) [] brought needs was now
      → ((s : StoredDocument) (place : RecordPlace) → Left s place → Contains (record_places s) place) → RecordsStay Left (before ++ after) was now
  come_leaves brought needs was now before new after h moves within s place there left = beside_stay [] brought needs was now before [] new after h moves within s place (Contains-append_cases before after s there) left

-- ---- a store that stands for what it held

module _ {D : Type 0} (d : Ghosts D) where
  -- what a store at a state holds is one thing
  one_held : (s : Store) (x : D) (state next : State) (at : IsAt d s x state) (then : IsAt d s x next) → at.held ≡ then.held
  one_held s x state next at then =
      let a = (at.stands).keeps in
      let b = (then.stands).keeps in
      let same : a.image ≡ b.image = same_some (sym ((a.step).settled).here ∙ ((b.step).settled).here) in
      hold_one (replay b.image) at.held then.held ((s.records).saved, subst (λ (i : Image). HoldsBy (replay i) (s.records).saved at.held) same a.holds) ((s.records).saved, b.holds)

  told_at : (s : Store) (x : D) (state : State) → IsAt d s x state → IsSome (d.contents x)
  told_at s x state at = subst (λ (o : Option Image). IsSome o) (sym ((((at.stands).keeps).step).settled).here) refl

  -- a store that stands for what it held is at its state
  abbrev pub held_on : (s0 s1 : Store) (x0 x1 : D) → HoldsOn d s0 s1 x0 x1 → (state : State) (at : IsAt d s0 x0 state) → IsSome (d.contents x1) → IsAt d s1 x1 state
  held_on s0 s1 x0 x1 holds state at told = record {
    held = at.held;
    stands = (holds state at told).0;
    none_waits = (holds state at told).1;
    state_is = at.state_is;
    catalog = subst (λ (c : Contents). IsCatalog (at.held).catalog.bytes c) (sym (holds state at told).2) at.catalog;
  }

  -- a store was at a state before something was given where it is at it then
  abbrev at_before : (s : Store) (x0 x1 : D) (P : Option (List ℕ) → Type 0) (state : State) → LeavesAreas d x0 x1 P → IsAt d s x1 state → IsAt d s x0 state
  at_before s x0 x1 P state gives then =
      let settled = (((then.stands).keeps).step).settled in
      record {
        held = then.held;
        stands = record {
          keeps = record {
            runs = ((then.stands).keeps).runs;
            image = ((then.stands).keeps).image;
            step = record {
              settled = record {
                here = sym (told_same (d.contents x0) (d.contents x1) gives.contents_stay (told_at s x1 state then)) ∙ settled.here;
                only = λ i may. settled.only i ((gives.images_stay i).1 may);
              };
              follows = (((then.stands).keeps).step).follows;
            };
            holds = ((then.stands).keeps).holds;
          };
          holds = (then.stands).holds;
          known = (then.stands).known;
        };
        none_waits = then.none_waits;
        state_is = then.state_is;
        catalog = then.catalog;
      }

  -- ... also behind another call
  pub holds_later : (s0 s1 s2 : Store) (x0 x1 x2 : D) → HoldsOn d s0 s1 x0 x1 → (IsSome (d.contents x2) → IsSome (d.contents x1)) → HoldsOn d s1 s2 x1 x2 → HoldsOn d s0 s2 x0 x2
  holds_later s0 s1 s2 x0 x1 x2 first before second state at told =
      let told1 = before told in
      let then = second state (held_on s0 s1 x0 x1 first state at told1) told in (then.0, then.1, then.2 ∙ (first state at told1).2)

  -- the store was looked at, and output was given
  pub gave_holds : (s0 s1 : Store) (x0 x1 : D) → AsksAndGives d x0 x1 → LeavesStore s0 s1 → HoldsOn d s0 s1 x0 x1
  gave_holds s0 s1 x0 x1 gives left state at told = (
    leaves_stand {r0 = s0.records} {r1 = s1.records} left.records none_still (stands_kept gives.contents_stay told (λ i. (gives.images_stay i).0) at.stands),
    (left.records).changes_stay ∙ at.none_waits,
    left.catalog,
  )

  module _ (request : Request) where
    -- it is enough to say it of one state that the store is at then
    one_leaves : (s0 s1 : Store) (x0 x1 : D)
        → ((state : State) (at : IsAt d s0 x0 state) → is_ended s1 ≡ false → IsSome (d.contents x1) → (next : State) × (then : IsAt d s1 x1 next) × RecordsStay (IsLeftByRequest request) (at.state_is).stored at.held then.held)
        → LeavesOthers d request s0 s1 x0 x1
    one_leaves s0 s1 x0 x1 makes state next at then =
        let made = makes state at (at_runs then) (told_at s1 x1 next then) in
        subst (λ (now : Held). RecordsStay (IsLeftByRequest request) (at.state_is).stored at.held now) (one_held s1 x1 made.0 next made.1 then) made.2

    pub held_leaves : (s0 s1 : Store) (x0 x1 : D) → (is_ended s1 ≡ false → HoldsOn d s0 s1 x0 x1) → LeavesOthers d request s0 s1 x0 x1
    held_leaves s0 s1 x0 x1 holds = one_leaves s0 s1 x0 x1 (λ state at runs told. (state, held_on s0 s1 x0 x1 (holds runs) state at told, same_rest (IsLeftByRequest request) at.held (at.state_is).stored))

    -- nothing was done
    pub unasked_leaves : (s : Store) (x : D) → LeavesOthers d request s s x x
    unasked_leaves s x = held_leaves s s x x (λ runs state at told. (at.stands, at.none_waits, refl))

    -- the store was looked at
    pub looked_leaves : (s0 s1 : Store) (x0 x1 : D) → IsStill d x0 x1 → (is_ended s1 ≡ false → LeavesStore s0 s1) → LeavesOthers d request s0 s1 x0 x1
    looked_leaves s0 s1 x0 x1 still same =
        held_leaves s0 s1 x0 x1 (λ runs state at told. let left = same runs in (leaves_stand {r0 = s0.records} {r1 = s1.records} left.records still at.stands, (left.records).changes_stay ∙ at.none_waits, left.catalog))

    -- ... and output was given
    pub gave_leaves : (s0 s1 : Store) (x0 x1 : D) → AsksAndGives d x0 x1 → (is_ended s1 ≡ false → LeavesStore s0 s1) → LeavesOthers d request s0 s1 x0 x1
    gave_leaves s0 s1 x0 x1 gives same = held_leaves s0 s1 x0 x1 (λ runs. gave_holds s0 s1 x0 x1 gives (same runs))

    pub ended_leaves : (s0 s1 : Store) (x0 x1 : D) → is_ended s1 ≡ true → LeavesOthers d request s0 s1 x0 x1
    ended_leaves s0 s1 x0 x1 ended state next at then = absurd (false≢true (sym (at_runs then) ∙ ended))

    -- behind a step that left what is held
    pub later_leaves : (s0 s1 s2 : Store) (x0 x1 x2 : D) → HoldsOn d s0 s1 x0 x1 → (IsSome (d.contents x2) → IsSome (d.contents x1)) → LeavesOthers d request s1 s2 x1 x2 → LeavesOthers d request s0 s2 x0 x2
    later_leaves s0 s1 s2 x0 x1 x2 holds before leaves state next at then = leaves state next (held_on s0 s1 x0 x1 holds state at (before (told_at s2 x2 next then))) then

    -- behind the commit of what was prepared
    pub committed_leaves : (s0 s1 s2 : Store) (x0 x1 x2 : D)
        → ((state : State) (at : IsAt d s0 x0 state) → (next : State) × (now : IsNow d s1 x1 at.held next) × RecordsStay (IsLeftByRequest request) (at.state_is).stored at.held now.held)
        → ((saved now : Held) (image : Image) → StandsFor d s1.records x1 saved now → d.contents x2 ≡ Some image → StandsFor d s2.records x2 now now) → HasNoChanges s2.records → s2.catalog ≡ s1.catalog
        → LeavesOthers d request s0 s2 x0 x2
    committed_leaves s0 s1 s2 x0 x1 x2 makes stands none catalog =
        one_leaves s0 s2 x0 x2 (λ state at runs told.
        let made = makes state at in
        let image = some_value (d.contents x2) told in (
          made.0,
          committed_at {d = d} s1 s2 x1 x2 at.held made.0 made.1 image.0 image.1 stands none catalog,
          made.2,
        ))

    -- whatever is given behind it
    pub given_leaves : (s0 s1 : Store) (x0 x1 x2 : D) (P : Option (List ℕ) → Type 0) → LeavesAreas d x1 x2 P → LeavesOthers d request s0 s1 x0 x1 → LeavesOthers d request s0 s1 x0 x2
    given_leaves s0 s1 x0 x1 x2 P gives leaves state next at then = leaves state next at (at_before s1 x1 x2 P next gives then)
