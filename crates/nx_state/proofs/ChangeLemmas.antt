-- The documents of a store after its records or its catalog changed.
use Rattle.std.proofs.Common.{◌≡◌, ℕ, List, [], ◌∷◌, ◌++◌, Option, None, Some, inl, inr, refl, sym, ap, ◌∙◌, subst, append-nil}
use Rattle.std.specs.Prelude.{◌⊎◌, IsSome, All, Contains}
use Rattle.std.specs.Option.{is_some}
use Rattle.std.proofs.lemmas.List.Elements.{All-nil, All-cons, All-head, All-tail, All-weaker, Contains-append_left, Contains-append_right, Contains-append_cases}
use Rattle.nx_holdings.specs.Holdings.{Held}
use Rattle.nx_holdings.specs.declared.header.Settings.{Settings}
use Rattle.nx_records.specs.Changes.{SetsCatalog}
use Rattle.nx_piece.specs.declared.piece.Piece.{Piece}
use Rattle.nx_piece.specs.declared.piece.Far.{Far}
use Rattle.nx_layouts.specs.Layout.{RecordPlace, Stock, AreOnce, ArePlacedOnce, contents_of}
use Rattle.nx_layouts.specs.Nodes.{StayAt}
use Rattle.nx_layouts.proofs.PlaceLemmas.{AreDisjoint, is_among, no_place, once-left, once-right, once-between, once-around, once-apart, between_cases, among_between, out_of_between}
use Rattle.nx_layouts.proofs.HeldLemmas.{HasAll}
use Rattle.nx_hold.specs.Pieces.{record_at, HoldsPiece, NamesList, NamesContent, NamesAny, IsNoProxies, IsTidy, held_by}
use Rattle.nx_hold.specs.Documents.{NamesAmong, MovesRecords}
use Rattle.nx_hold.proofs.PieceLemmas.{no_value, pieces_stay}
use Rattle.nx_hold.proofs.MapLemmas.{piece_map, held_at, told_some}
use Rattle.nx_hold.proofs.TidyLemmas.{content_along}
use Rattle.nx_hold.proofs.RecordsLemmas.{not_none, record_there, names_along}
use Rattle.nx_hold.proofs.MoveLemmas.{pieces_stay_around, contents_stay_around}
use Rattle.nx_state.specs.Laws.{ContentsChange, DocumentsChange, DocumentComes, DocumentGoes, DocumentsOwnContents, CatalogComes}
use Rattle.nx_state.specs.Stands.{StoredDocument, IsStoredIn, HoldsDocuments, record_places, all_places, all_contents}
use Rattle.nx_state.proofs.PlaceLemmas.{all_places-append, all_contents-append}
use Rattle.nx_state.proofs.ContentLemmas.{NamesFar, row_list, contents_named, named_contents}
use Rattle.nx_state.proofs.StayLemmas.{record_row, stored_there, stored_along, places_held}

-- what is there
some_there : {A : Type 0} (o : Option A) → IsSome o → (x : A) × (o ≡ Some x)
some_there None h = cc
some_there (Some x) h = (x, refl)

all_left : {A : Type 0} (P : A → Type 0) (a b : List A) → All P (a ++ b) → All P a
all_left P [] b h = All-nil P
all_left P (x ∷ a) b h = All-cons P x a (All-head P x (a ++ b) h) (all_left P a b (All-tail P x (a ++ b) h))

all_right : {A : Type 0} (P : A → Type 0) (a b : List A) → All P (a ++ b) → All P b
all_right P [] b h = h
all_right P (x ∷ a) b h = all_right P a b (All-tail P x (a ++ b) h)

pub all_joined : {A : Type 0} (P : A → Type 0) (a b : List A) → All P a → All P b → All P (a ++ b)
all_joined P [] b h k = k
all_joined P (x ∷ a) b h k = All-cons P x (a ++ b) (All-head P x a h) (all_joined P a b (All-tail P x a h) k)

-- All that these documents have in the one is in the other.
record HaveStay (one other : Stock) (stored : List StoredDocument) : Type 0 where
  pieces : (place : RecordPlace) (piece : Piece) → Contains (all_places stored) place → one.piece_at place ≡ Some piece → other.piece_at place ≡ Some piece
  lists : (first : ℕ) (bytes : List ℕ) → Contains (all_contents stored) first → one.list_at first ≡ Some bytes → other.list_at first ≡ Some bytes
  most : other.most ≡ one.most

stay_first : {one other : Stock} (s : StoredDocument) (stored : List StoredDocument) → HaveStay one other (s ∷ stored) → StayAt one other (record_row s)
stay_first s stored stay = record {
  pieces = λ place piece among. stay.pieces place piece (Contains-append_left (record_places s) (all_places stored) place among);
  lists = λ n among read first far. stay.lists first n.node.content (Contains-append_left (contents_of s.layout) (all_contents stored) first (row_list s n first among far)) (read first far);
  most = stay.most;
}

stay_rest : {one other : Stock} (s : StoredDocument) (stored : List StoredDocument) → HaveStay one other (s ∷ stored) → HaveStay one other stored
stay_rest s stored stay = record {
  pieces = λ place piece among. stay.pieces place piece (Contains-append_right (record_places s) (all_places stored) place among);
  lists = λ first bytes among. stay.lists first bytes (Contains-append_right (contents_of s.layout) (all_contents stored) first among);
  most = stay.most;
}

-- documents stay where the pieces of their records and their contents stay
all_there : (one other : Stock) (stored : List StoredDocument) → HaveStay one other stored → All (IsStoredIn one) stored → All (IsStoredIn other) stored
all_there one other [] stay h = All-nil (IsStoredIn other)
all_there one other (s ∷ stored) stay h =
    All-cons (IsStoredIn other) s stored (stored_there one other s (stay_first s stored stay) (All-head (IsStoredIn one) s stored h)) (all_there one other stored (stay_rest s stored stay) (All-tail (IsStoredIn one) s stored h))

-- a content that a record names is there, and holds no proxies
far_there : (held : Held) → IsTidy held → (places : List RecordPlace) (first : ℕ) → NamesFar held places first → ((bytes : List ℕ) × (held.lists first ≡ Some bytes)) × IsNoProxies held first
far_there held tidy places first named =
    let far : Far = named.1 in
    let list = tidy.contents named.0 far named.4 in (
      (list.0, ap held.lists (sym named.3) ∙ list.1),
      subst (λ (l : ℕ). IsNoProxies held l) named.3 (tidy.apart named.0 far named.4),
    )

module _ {lost brought : List ℕ} {needs : ℕ} {was now : Held} (before old new after : List StoredDocument) (h : HoldsDocuments was (before ++ (old ++ after)))
    (moves : MovesRecords (all_places old) (all_places new) lost brought needs was now) where
  -- the places of the documents that stay
  abbrev stays : List RecordPlace
  stays = all_places before ++ all_places after

  was_places : all_places (before ++ (old ++ after)) ≡ all_places before ++ (all_places old ++ all_places after)
  was_places = all_places-append before (old ++ after) ∙ ap (λ (ps : List RecordPlace). all_places before ++ ps) (all_places-append old after)

  now_places : all_places (before ++ (new ++ after)) ≡ all_places before ++ (all_places new ++ all_places after)
  now_places = all_places-append before (new ++ after) ∙ ap (λ (ps : List RecordPlace). all_places before ++ ps) (all_places-append new after)

  was_once : ArePlacedOnce (all_places before ++ (all_places old ++ all_places after))
  was_once = subst ArePlacedOnce was_places h.once

  gone_apart : AreDisjoint (all_places old) stays
  gone_apart = once-apart (all_places before) (all_places old) (all_places after) was_once

  rest_each : All (IsStoredIn (held_by h.pieces)) (before ++ after)
  rest_each =
      let P : StoredDocument → Type 0 = IsStoredIn (held_by h.pieces) in
      all_joined P before after (all_left P before (old ++ after) h.each) (all_right P old after (all_right P before (old ++ after) h.each))

  stays_are : stays ≡ all_places (before ++ after)
  stays_are = sym (all_places-append before after)

  stays_there : (place : RecordPlace) → Contains stays place → (piece : Piece) × HoldsPiece was place piece
  stays_there place among =
      let held = places_held (held_by h.pieces) (before ++ after) place rest_each (subst (λ (ps : List RecordPlace). Contains ps place) stays_are among) in
      (held.0, held_at was h.pieces place held.0 held.1)

  came_apart : AreDisjoint (all_places new) stays
  came_apart place came among =
      elim (is_among (all_places old) place) [
        | inl gone ↦ gone_apart place gone among
        | inr apart ↦ let there = stays_there place among in not_none (record_at was place) (record_there was place there.0 there.1) (moves.fresh place came apart)
      ]

  same_record : (place : RecordPlace) → Contains stays place → record_at now place ≡ record_at was place
  same_record place among = moves.kept place (λ gone. gone_apart place gone among) (λ came. came_apart place came among)

  -- ... with the lists that it names
  pub rest_stays : (place : RecordPlace) → Contains stays place → (record_at now place ≡ record_at was place) × ((chain : ℕ) → NamesAny was place chain → now.lists chain ≡ was.lists chain)
  rest_stays place among =
      let there = stays_there place among in
      let around = pieces_stay_around (all_places old) (all_places new) lost brought needs was now h.tidy moves place there.0 there.1 (λ gone. gone_apart place gone among) in
      (around.0, around.2)

  pieces_stay_there : (place : RecordPlace) (piece : Piece) → Contains stays place → (h.pieces).piece_at place ≡ Some piece → (piece_map now).piece_at place ≡ Some piece
  pieces_stay_there place piece among e =
      told_some now place piece ((piece_map now).piece_at place) ((piece_map now).are place)
      (pieces_stay_around (all_places old) (all_places new) lost brought needs was now h.tidy moves place piece (held_at was h.pieces place piece e) (λ gone. gone_apart place gone among)).1

  -- the contents of the documents that stay
  abbrev kept_contents : List ℕ
  kept_contents = all_contents before ++ all_contents after

  was_contents : all_contents (before ++ (old ++ after)) ≡ all_contents before ++ (all_contents old ++ all_contents after)
  was_contents = all_contents-append before (old ++ after) ∙ ap (λ (ls : List ℕ). all_contents before ++ ls) (all_contents-append old after)

  now_contents : all_contents (before ++ (new ++ after)) ≡ all_contents before ++ (all_contents new ++ all_contents after)
  now_contents = all_contents-append before (new ++ after) ∙ ap (λ (ls : List ℕ). all_contents before ++ ls) (all_contents-append new after)

  kept_are : kept_contents ≡ all_contents (before ++ after)
  kept_are = sym (all_contents-append before after)

  was_contents_once : AreOnce (all_contents before ++ (all_contents old ++ all_contents after))
  was_contents_once = subst (λ (ls : List ℕ). AreOnce ls) was_contents h.contents_once

  -- they are named by records that stay
  kept_named : (first : ℕ) → Contains kept_contents first → NamesFar was stays first
  kept_named first among =
      let named = contents_named was h.pieces (before ++ after) rest_each first (subst (λ (ls : List ℕ). Contains ls first) kept_are among) in
      (named.0, named.1, subst (λ (ps : List RecordPlace). Contains ps named.0) (sym stays_are) named.2, named.3, named.4)

  kept_there : (first : ℕ) → Contains kept_contents first → ((bytes : List ℕ) × (was.lists first ≡ Some bytes)) × IsNoProxies was first
  kept_there first among = far_there was h.tidy stays first (kept_named first among)

  kept_not_lost : (first : ℕ) → Contains kept_contents first → Contains lost first → ⊥
  kept_not_lost first among gone =
      let named = kept_named first among in
      moves.lost_alone first gone named.0 (λ went. gone_apart named.0 went named.2) (inr (named.1, named.3, named.4))

  kept_list : (first : ℕ) (bytes : List ℕ) → Contains kept_contents first → was.lists first ≡ Some bytes → now.lists first ≡ Some bytes
  kept_list first bytes among there =
      (contents_stay_around (all_places old) (all_places new) lost brought needs was now h.tidy moves first bytes there (kept_there first among).1 (kept_not_lost first among)).0

  kept_not_gone : (first : ℕ) → Contains kept_contents first → NamesAmong was (all_places old) lost first → ⊥
  kept_not_gone first among (inl named) = (kept_there first among).1 named.0 named.1 named.3
  kept_not_gone first among (inr gone) = kept_not_lost first among gone

  now_rest : All (IsStoredIn (held_by (piece_map now))) (before ++ after)
  now_rest =
      all_there (held_by h.pieces) (held_by (piece_map now)) (before ++ after)
      (record {
        pieces = λ place piece among. pieces_stay_there place piece (subst (λ (ps : List RecordPlace). Contains ps place) (sym stays_are) among);
        lists = λ first bytes among. kept_list first bytes (subst (λ (ls : List ℕ). Contains ls first) (sym kept_are) among);
        most = ap (λ (t : Settings). t.k) moves.settings;
      })
      rest_each

  stays_once : ArePlacedOnce stays
  stays_once = once-around (all_places before) (all_places old) (all_places after) was_once

  now_once : ArePlacedOnce (all_places new) → ArePlacedOnce (all_places (before ++ (new ++ after)))
  now_once once = subst ArePlacedOnce (sym now_places) (once-between (all_places before) (all_places new) (all_places after) stays_once once came_apart)

  -- an earlier place is that of a document that stays, or of one whose records changed
  was_among : (place : RecordPlace) → IsSome (record_at was place) → (Contains (all_places old) place → ⊥) → Contains stays place
  was_among place there apart =
      elim (out_of_between (all_places before) (all_places old) (all_places after) place (subst (λ (ps : List RecordPlace). Contains ps place) was_places (h.no_others place there))) [
        | inl gone ↦ absurd (apart gone)
        | inr beside ↦ beside
      ]

  stays_among : (place : RecordPlace) → Contains stays place → Contains (all_places (before ++ (new ++ after))) place
  stays_among place among =
      subst (λ (ps : List RecordPlace). Contains ps place) (sym now_places) (between_cases (all_places before) (all_places new) (all_places after) place among)

  now_covered : (place : RecordPlace) → IsSome (record_at now place) → Contains (all_places (before ++ (new ++ after))) place
  now_covered place there =
      elim (is_among (all_places new) place) [
        | inl came ↦ subst (λ (ps : List RecordPlace). Contains ps place) (sym now_places) (among_between (all_places before) (all_places new) (all_places after) place came)
        | inr apart ↦ elim (is_among (all_places old) place) [
          | inl gone ↦ let bytes = some_there (record_at now place) there in absurd (no_value (sym bytes.1 ∙ moves.went place gone apart))
          | inr other ↦ stays_among place (was_among place (subst (λ (o : Option (List ℕ)). IsSome o) (moves.kept place other apart) there) other)
        ]
      ]

  module _ (change : ContentsChange (all_contents old) (all_contents new) lost brought) where
    -- a content that came is none of those that stay
    contents_apart : AreDisjoint (all_contents new) kept_contents
    contents_apart first came among =
        elim (change.from first came) [
          | inl earlier ↦ once-apart (all_contents before) (all_contents old) (all_contents after) was_contents_once first earlier among
          | inr fresh ↦ no_value (sym (kept_there first among).0.1 ∙ moves.lists_fresh first (inr fresh) (kept_not_gone first among))
        ]

    now_contents_once : AreOnce (all_contents new) → AreOnce (all_contents (before ++ (new ++ after)))
    now_contents_once once =
        subst (λ (ls : List ℕ). AreOnce ls) (sym now_contents)
        (once-between (all_contents before) (all_contents new) (all_contents after) (once-around (all_contents before) (all_contents old) (all_contents after) was_contents_once) once contents_apart)

    -- a record names the list for its proxies, or it is a content
    abbrev IsAccounted : ℕ → Type 0
    IsAccounted chain = ((place : RecordPlace) × (count : ℕ) × NamesList now place count chain) ⊎ Contains (all_contents (before ++ (new ++ after))) chain

    new_accounted : (chain : ℕ) → Contains (all_contents new) chain → IsAccounted chain
    new_accounted chain came = inr (subst (λ (ls : List ℕ). Contains ls chain) (sym now_contents) (among_between (all_contents before) (all_contents new) (all_contents after) chain came))

    come_accounted : (chain : ℕ) → NamesAmong now (all_places new) brought chain → IsAccounted chain
    come_accounted chain (inl named) = inl (named.0, named.1, named.3)
    come_accounted chain (inr fresh) = new_accounted chain (change.came chain fresh)

    now_listed : (chain : ℕ) → IsSome (now.lists chain) → IsAccounted chain
    now_listed chain there = by_cause (moves.lists_come chain list.0 list.1)
      where
        list : (bytes : List ℕ) × (now.lists chain ≡ Some bytes)
        list = some_there (now.lists chain) there

        by_place : (place : RecordPlace) (count : ℕ) → NamesList was place count chain → Contains (all_places old) place ⊎ (Contains (all_places old) place → ⊥) → IsAccounted chain
        by_place place count names (inl gone) = come_accounted chain (moves.lists_go chain list.0 list.1 (inl (place, count, gone, names)))
        by_place place count names (inr apart) = inl (
          place,
          count,
          names_along was now place count chain (same_record place (was_among place (ap is_some (names.1).bytes) apart)) names,
        )

        by_old : Contains (all_contents old) chain → IsAccounted chain
        by_old among = elim (change.went chain among) [
          | inl still ↦ new_accounted chain still
          | inr gone ↦ come_accounted chain (moves.lists_go chain list.0 list.1 (inr gone))
        ]

        by_content : Contains (all_contents (before ++ (old ++ after))) chain → IsAccounted chain
        by_content among =
            elim (out_of_between (all_contents before) (all_contents old) (all_contents after) chain (subst (λ (ls : List ℕ). Contains ls chain) was_contents among)) [
              | inl earlier ↦ by_old earlier
              | inr beside ↦ inr (subst (λ (ls : List ℕ). Contains ls chain) (sym now_contents) (between_cases (all_contents before) (all_contents new) (all_contents after) chain beside))
            ]

        by_earlier : ((place : RecordPlace) × (count : ℕ) × NamesList was place count chain) ⊎ Contains (all_contents (before ++ (old ++ after))) chain → IsAccounted chain
        by_earlier (inl named) = by_place named.0 named.1 named.2 (is_among (all_places old) named.0)
        by_earlier (inr content) = by_content content

        by_cause : (was.lists chain ≡ Some list.0) ⊎ NamesAmong now (all_places new) brought chain → IsAccounted chain
        by_cause (inl earlier) = by_earlier (h.no_other_lists chain (ap is_some earlier))
        by_cause (inr named) = come_accounted chain named

  now_each : All (IsStoredIn (held_by (piece_map now))) new → All (IsStoredIn (held_by (piece_map now))) (before ++ (new ++ after))
  now_each came =
      let P : StoredDocument → Type 0 = IsStoredIn (held_by (piece_map now)) in
      all_joined P before (new ++ after) (all_left P before after now_rest) (all_joined P new after came (all_right P before after now_rest))

pub documents_change : DocumentsChange
documents_change lost brought needs was now before old new after h moves tidy once contents_once change stored = record {
  tidy = tidy;
  pieces = piece_map now;
  each = now_each before old new after h moves (stored (piece_map now));
  once = now_once before old new after h moves once;
  contents_once = now_contents_once before old new after h moves change contents_once;
  no_others = now_covered before old new after h moves;
  no_other_lists = now_listed before old new after h moves change;
}

-- the places and the contents of one document
alone : (s : StoredDocument) → all_places (s ∷ []) ≡ record_places s
alone s = append-nil (record_places s)

alone_contents : (s : StoredDocument) → all_contents (s ∷ []) ≡ contents_of s.layout
alone_contents s = append-nil (contents_of s.layout)

pub document_comes : DocumentComes
document_comes needs was now before after s h adds tidy contents_once stored =
    documents_change [] (contents_of s.layout) needs was now before [] (s ∷ []) after h (subst (λ (ps : List RecordPlace). MovesRecords [] ps [] (contents_of s.layout) needs was now) (sym (alone s)) adds) tidy
    (subst ArePlacedOnce (sym (alone s)) ((stored (piece_map now)).laid).once)
    (subst (λ (ls : List ℕ). AreOnce ls) (sym (alone_contents s)) contents_once)
    (record {
      from = λ first among. inr (subst (λ (ls : List ℕ). Contains ls first) (alone_contents s) among);
      went = λ first among. absurd (no_place first among);
      came = λ first among. subst (λ (ls : List ℕ). Contains ls first) (sym (alone_contents s)) among;
    })
    (λ pieces. All-cons (IsStoredIn (held_by pieces)) s [] (stored pieces) (All-nil (IsStoredIn (held_by pieces))))

pub document_goes : DocumentGoes
document_goes lost needs was now before after s h moves all tidy =
    documents_change lost [] needs was now before (s ∷ []) [] after h (subst (λ (ps : List RecordPlace). MovesRecords ps [] lost [] needs was now) (sym (alone s)) moves) tidy tt tt
    (record {
      from = λ first among. absurd (no_place first among);
      went = λ first among. inr (all first (subst (λ (ls : List ℕ). Contains ls first) (alone_contents s) among));
      came = λ first among. absurd (no_place first among);
    })
    (λ pieces. All-nil (IsStoredIn (held_by pieces)))

-- The contents of one document:

module _ (held : Held) (before after : List StoredDocument) (s : StoredDocument) (h : HoldsDocuments held (before ++ s ∷ after)) where
  own_contents : all_contents (before ++ s ∷ after) ≡ all_contents before ++ (contents_of s.layout ++ all_contents after)
  own_contents = all_contents-append before (s ∷ after)

  own_once : AreOnce (all_contents before ++ (contents_of s.layout ++ all_contents after))
  own_once = subst (λ (ls : List ℕ). AreOnce ls) own_contents h.contents_once

  own_apart : (first : ℕ) → Contains (contents_of s.layout) first → IsNoProxies held first
  own_apart first among =
      (far_there held h.tidy (all_places (before ++ s ∷ after)) first (contents_named held h.pieces (before ++ s ∷ after) h.each first
      (subst (λ (ls : List ℕ). Contains ls first) (sym own_contents) (among_between (all_contents before) (contents_of s.layout) (all_contents after) first among)))).1

  -- a record that names one of them is one of the document's
  own_named : (place : RecordPlace) (far : Far) → Contains (contents_of s.layout) far.first → NamesContent held place far → Contains (record_places s) place
  own_named place far among names =
      let P : StoredDocument → Type 0 = IsStoredIn (held_by h.pieces) in
      let apart = once-apart (all_contents before) (contents_of s.layout) (all_contents after) own_once far.first among in
      elim (Contains-append_cases (all_places before) (all_places (s ∷ after)) place
      (subst (λ (ps : List RecordPlace). Contains ps place) (all_places-append before (s ∷ after)) (h.no_others place (ap is_some (names.1).bytes)))) [
        | inl front ↦ absurd (apart (Contains-append_left (all_contents before) (all_contents after) far.first (named_contents held h.pieces before (all_left P before (s ∷ after) h.each) place far front names)))
        | inr rest ↦ elim (Contains-append_cases (record_places s) (all_places after) place rest) [
          | inl own ↦ own
          | inr back ↦ absurd (apart (Contains-append_right (all_contents before) (all_contents after) far.first
              (named_contents held h.pieces after (All-tail P s after (all_right P before (s ∷ after) h.each)) place far back names)))
        ]
      ]

  own_alone : (first : ℕ) → Contains (contents_of s.layout) first → (place : RecordPlace) → NamesAny held place first → Contains (record_places s) place
  own_alone first among place (inl named) = absurd (own_apart first among place named.0 named.1)
  own_alone first among place (inr named) = own_named place named.0 (subst (λ (l : ℕ). Contains (contents_of s.layout) l) (sym named.1) among) named.2

pub documents_own_contents : DocumentsOwnContents
documents_own_contents held before after s h = record {
  once = once-left (contents_of s.layout) (all_contents after) (once-right (all_contents before) (contents_of s.layout ++ all_contents after) (own_once held before after s h));
  alone = own_alone held before after s h;
  apart = own_apart held before after s h;
}

-- Another catalog:

module _ {bytes : List ℕ} {was now : Held} (stored : List StoredDocument) (h : HoldsDocuments was stored) (sets : SetsCatalog bytes was now) where
  still_record : (place : RecordPlace) → record_at now place ≡ record_at was place
  still_record place = ap (λ (r : ℕ → ℕ → Option (List ℕ)). r place.page place.slot) sets.records

  still_list : (chain : ℕ) → now.lists chain ≡ was.lists chain
  still_list chain = ap (λ (l : ℕ → Option (List ℕ)). l chain) sets.lists

  named_before : (place : RecordPlace) (count chain : ℕ) → NamesList now place count chain → NamesList was place count chain
  named_before place count chain names = names_along now was place count chain (sym (still_record place)) names

  content_before : (place : RecordPlace) (far : Far) → NamesContent now place far → NamesContent was place far
  content_before place far names = content_along now was place far (sym (still_record place)) names

  still_tidy : IsTidy now
  still_tidy = record {
    there = λ place count chain names.
        let there = (h.tidy).there place count chain (named_before place count chain names) in
        (there.0, still_list chain ∙ there.1, there.2);
    once = λ place other count more chain names others. (h.tidy).once place other count more chain (named_before place count chain names) (named_before other more chain others);
    contents = λ place far names.
        let there = (h.tidy).contents place far (content_before place far names) in
        (there.0, still_list far.first ∙ there.1, there.2);
    apart = λ place far names other count named. (h.tidy).apart place far (content_before place far names) other count (named_before other count far.first named);
  }

  still_all : HasAll (held_by h.pieces) (held_by (piece_map now))
  still_all = record {
    pieces = λ place piece e.
        told_some now place piece ((piece_map now).piece_at place) ((piece_map now).are place)
        (pieces_stay was now place piece (still_record place) (λ count chain names. still_list chain) (held_at was h.pieces place piece e));
    lists = λ first list there. still_list first ∙ there;
    most = ap (λ (t : Settings). t.k) sets.settings;
  }

  still_listed : (chain : ℕ) → IsSome (now.lists chain) → ((place : RecordPlace) × (count : ℕ) × NamesList now place count chain) ⊎ Contains (all_contents stored) chain
  still_listed chain there =
      elim (h.no_other_lists chain (subst (λ (o : Option (List ℕ)). IsSome o) (still_list chain) there)) [
        | inl named ↦ inl (named.0, named.1, names_along was now named.0 named.1 chain (still_record named.0) named.2)
        | inr content ↦ inr content
      ]

  catalog_set : HoldsDocuments now stored
  catalog_set = record {
    tidy = still_tidy;
    pieces = piece_map now;
    each = All-weaker (IsStoredIn (held_by h.pieces)) (IsStoredIn (held_by (piece_map now))) (λ x was_stored. stored_along (held_by h.pieces) (held_by (piece_map now)) x still_all was_stored) stored h.each;
    once = h.once;
    contents_once = h.contents_once;
    no_others = λ place there. h.no_others place (subst (λ (o : Option (List ℕ)). IsSome o) (still_record place) there);
    no_other_lists = still_listed;
  }

pub catalog_comes : CatalogComes
catalog_comes bytes was now stored h sets = catalog_set stored h sets
