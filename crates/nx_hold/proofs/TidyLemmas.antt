-- Lists stay in order where one record changes.
use Rattle.std.proofs.Common.{◌≡◌, ℕ, ◌*◌, List, length, Option, None, Some, inl, inr, sym, ap, ◌∙◌, subst}
use Rattle.std.specs.Prelude.{◌⊎◌}
use Rattle.std.specs.Option.{is_some}
use Rattle.nx_holdings.specs.Holdings.{Held}
use Rattle.nx_piece.specs.declared.piece.Far.{Far}
use Rattle.nx_piece.specs.declared.piece.Piece.{Piece}
use Rattle.nx_piece.specs.declared.piece.Stored.{Stored}
use Rattle.nx_piece.specs.declared.piece.Stored.TheVariants.{Inline, Chained}
use Rattle.nx_piece.specs.Gapped.{Gapped}
use Rattle.nx_piece.specs.Encoding.{proxies_bytes}
use Rattle.nx_piece.proofs.BodyLemmas.{proxies_length}
use Rattle.nx_layouts.specs.Layout.{RecordPlace}
use Rattle.nx_layouts.proofs.PlaceLemmas.{same_place}
use Rattle.nx_hold.specs.Pieces.{record_at, IsStored, HoldsPiece, NamesList, NamesNot, NamesContent, HasNamedList, HasContent, IsNoProxies, MayName, MayCome, IsTidy, ChangesOneRecord, ComesPiece, roots_stored, TidyStays, ContentsStay}
use Rattle.nx_hold.specs.Changes.{AddsPiece, IsAdded, piece_needs}
use Rattle.nx_hold.proofs.PieceLemmas.{one_piece, some_same, no_value, one_at, no_both, chain_same, count_same, stays_stored, lists_stay, others_stay}
use Rattle.nx_hold.proofs.MapLemmas.{no_record}

is_place : (place : RecordPlace) (o : Option RecordPlace) → (Some place ≡ o) ⊎ (Some place ≡ o → ⊥)
is_place place None = inr (λ e. no_value e)
is_place place (Some other) = elim (same_place place other) [ inl e ↦ inl (ap Some e) | inr n ↦ inr (λ e. n (some_same e)) ]

-- the list that the record of a piece names
pub listed : (held : Held) (place : RecordPlace) (piece : Piece) (count chain : ℕ) → HoldsPiece held place piece → NamesList held place count chain
    → (bytes : List ℕ) × (held.lists chain ≡ Some bytes) × (length bytes ≡ 8 * count)
listed held place piece count chain (inl h) names = absurd (no_both piece names.0 count chain (one_at held place (Inline piece) (Chained names.0 count chain) h names.1))
listed held place piece count chain (inr h) names =
    let e = one_at held place (Chained piece.body (length piece.proxies) h.chain) (Chained names.0 count chain) h.stored names.1 in
    let c : h.chain ≡ chain = chain_same piece.body names.0 (length piece.proxies) count h.chain chain e in
    let n : length piece.proxies ≡ count = count_same piece.body names.0 (length piece.proxies) count h.chain chain e in
    (proxies_bytes piece.proxies, ap held.lists (sym c) ∙ h.list, proxies_length piece.proxies ∙ ap (λ (k : ℕ). 8 * k) n)

-- a list that a record names is there where lists are in order,
pub tidy_named : (held : Held) (place : RecordPlace) → IsTidy held → HasNamedList held place
tidy_named held place tidy count chain names = ap is_some (tidy.there place count chain names).1

-- ... and where the record holds a piece
pub held_named : (held : Held) (place : RecordPlace) (piece : Piece) → HoldsPiece held place piece → HasNamedList held place
held_named held place piece holds count chain names = ap is_some (listed held place piece count chain holds names).1

-- so what the record would hold with the list that it names is what it holds
pub read_one : (held : Held) (place : RecordPlace) {piece : Piece} → (HasNamedList held place → HoldsPiece held place piece) → (other : Piece) → HoldsPiece held place other → piece ≡ other
read_one held place {piece} reads other holds = one_piece held place piece other (reads (held_named held place other holds)) holds

-- the nodes of a record's piece
pub roots_are : (held : Held) (place : RecordPlace) (piece : Piece) (stored : Stored) → HoldsPiece held place piece → IsStored held place stored → piece.body.roots ≡ roots_stored stored
roots_are held place piece stored (inl h) is = ap roots_stored (one_at held place (Inline piece) stored h is)
roots_are held place piece stored (inr h) is = ap roots_stored (one_at held place (Chained piece.body (length piece.proxies) h.chain) stored h.stored is)

-- the contents that a record names may be named
pub may_name_own : (held : Held) (place : RecordPlace) (piece : Piece) → IsTidy held → HoldsPiece held place piece → MayName held piece.body.roots
may_name_own held place piece tidy holds far among = (tidy.contents place far (names_own holds), tidy.apart place far (names_own holds))
  where
    names_own : HoldsPiece held place piece → NamesContent held place far
    names_own (inl h) = (Inline piece, h, among)
    names_own (inr h) = (Chained piece.body (length piece.proxies) h.chain, h.stored, among)

-- a record names its contents still where it stays
pub content_along : (was now : Held) (place : RecordPlace) (far : Far) → record_at now place ≡ record_at was place → NamesContent was place far → NamesContent now place far
content_along was now place far same names = (names.0, stays_stored was now place names.0 same names.1, names.2)

-- Lists of contents, where one record changes:

module _ {old new : Option RecordPlace} {needs : ℕ} {was now : Held} (h : ChangesOneRecord old new needs was now) where
  -- a list that holds no record's proxies isn't the new record's
  not_new_list : (first : ℕ) (bytes : List ℕ) → was.lists first ≡ Some bytes → IsNoProxies was first → NamesNot now new first
  not_new_list first bytes there none at count e names = no_value (sym there ∙ h.fresh at count first e names (λ p n f named. none p n named))

  no_proxies_still : (first : ℕ) (bytes : List ℕ) → was.lists first ≡ Some bytes → IsNoProxies was first → IsNoProxies now first
  no_proxies_still first bytes there none place count names =
      elim (is_place place new) [
        | inl is ↦ not_new_list first bytes there none place count is names
        | inr isnt ↦ elim (is_place place old) [
          | inl gone ↦ no_value (sym (names.1).bytes ∙ h.went place gone isnt)
          | inr other ↦ none place count (names.0, stays_stored now was place (Chained names.0 count first) (sym (h.beside place other isnt)) names.1)
        ]
      ]

  content_stays : (first : ℕ) (bytes : List ℕ) → was.lists first ≡ Some bytes → IsNoProxies was first → (now.lists first ≡ Some bytes) × IsNoProxies now first
  content_stays first bytes there none =
      (h.lists first (λ at count e names. none at count names) (not_new_list first bytes there none) ∙ there, no_proxies_still first bytes there none)

  -- what is there for a content stays so
  has_still : (far : Far) → HasContent was far → IsNoProxies was far.first → HasContent now far × IsNoProxies now far.first
  has_still far has none = let s = content_stays far.first has.0 has.1 none in ((has.0, s.0, has.2), s.1)

  contents_still : IsTidy was → MayCome was now new → (place : RecordPlace) (far : Far) → NamesContent now place far → HasContent now far × IsNoProxies now far.first
  contents_still tidy may place far names =
      elim (is_place place new) [
        | inl is ↦ let m = may place is names.0 names.1 far names.2 in has_still far m.0 m.1
        | inr isnt ↦ elim (is_place place old) [
          | inl gone ↦ absurd (no_value (sym (names.1).bytes ∙ h.went place gone isnt))
          | inr other ↦
              let earlier : NamesContent was place far = content_along now was place far (sym (h.beside place other isnt)) names in
              has_still far (tidy.contents place far earlier) (tidy.apart place far earlier)
        ]
      ]

pub contents_stay : ContentsStay
contents_stay old new needs was now tidy h = content_stays h

-- All lists, where one record changes:

module _ {old new : Option RecordPlace} {needs : ℕ} {was now : Held} (tidy : IsTidy was) (h : ChangesOneRecord old new needs was now) where
  -- a record that isn't the new one was there before, and isn't the old one
  earlier : (place : RecordPlace) (count chain : ℕ) → (Some place ≡ new → ⊥) → NamesList now place count chain → (Some place ≡ old → ⊥) × NamesList was place count chain
  earlier place count chain not_new names = (not_old, (names.0, stays_stored now was place (Chained names.0 count chain) (sym (h.beside place not_old not_new)) names.1))
    where
      not_old : Some place ≡ old → ⊥
      not_old e = no_value (sym (names.1).bytes ∙ h.went place e not_new)

  -- the new record names no list that another one names
  clash : (at other : RecordPlace) (count more chain : ℕ) → Some at ≡ new → (Some other ≡ new → ⊥) → NamesList now at count chain → NamesList now other more chain → ⊥
  clash at other count more chain is isnt names others =
      let was_named = earlier other more chain isnt others in
      let free_of_old : NamesNot was old chain = λ p n e named. was_named.0 (ap Some (tidy.once other p more n chain was_named.1 named) ∙ e) in
      let some = (tidy.there other more chain was_named.1).1 in
      no_value (sym some ∙ h.fresh at count chain is names free_of_old)

  there_still : (place : RecordPlace) (count chain : ℕ) → (Some place ≡ new → ⊥) → NamesList now place count chain → (bytes : List ℕ) × (now.lists chain ≡ Some bytes) × (length bytes ≡ 8 * count)
  there_still place count chain isnt names =
      let was_named = earlier place count chain isnt names in
      let there = tidy.there place count chain was_named.1 in
      (there.0, lists_stay tidy h was_named.0 count chain was_named.1 ∙ there.1, there.2)

  once_still : (place other : RecordPlace) (count more chain : ℕ) → NamesList now place count chain → NamesList now other more chain → place ≡ other
  once_still place other count more chain names others =
      elim (is_place place new) [
        | inl e ↦ elim (is_place other new) [ inl f ↦ some_same (e ∙ sym f) | inr g ↦ absurd (clash place other count more chain e g names others) ]
        | inr g ↦ elim (is_place other new) [
          | inl f ↦ absurd (clash other place more count chain f g others names)
          | inr k ↦ tidy.once place other count more chain (earlier place count chain g names).1 (earlier other more chain k others).1
        ]
      ]

  pub tidy_still : ComesPiece now new → MayCome was now new → IsTidy now
  tidy_still comes may = record {
    there = λ place count chain names.
        elim (is_place place new) [
          | inl e ↦ listed now place (comes place e).0 count chain (comes place e).1 names
          | inr g ↦ there_still place count chain g names
        ];
    once = once_still;
    contents = λ place far names. (contents_still h tidy may place far names).0;
    apart = λ place far names. (contents_still h tidy may place far names).1;
  }

pub comes_at : (now : Held) (place : RecordPlace) (piece : Piece) → HoldsPiece now place piece → ComesPiece now (Some place)
comes_at now place piece holds p e = (piece, subst (λ (q : RecordPlace). HoldsPiece now q piece) (sym (some_same e)) holds)

-- where a record holds the piece, its contents might be named before if the piece's might
pub may_come : (was now : Held) (place : RecordPlace) (piece : Piece) → HoldsPiece now place piece → MayName was piece.body.roots → MayCome was now (Some place)
may_come was now place piece holds may at e stored is =
    let here : IsStored now place stored = subst (λ (p : RecordPlace). IsStored now p stored) (some_same e) is in
    subst (λ (g : Gapped). MayName was g) (roots_are now place piece stored holds here) may

pub tidy_stays : TidyStays
tidy_stays old new needs was now tidy h = tidy_still tidy h

pub adds_stay : (place : RecordPlace) (piece : Piece) (was now : Held) → IsTidy was → MayName was piece.body.roots → AddsPiece place piece was now → IsAdded place piece was now
adds_stay place piece was now tidy may h = record {
  was_none = no_record h.was_free;
  there = h.holds;
  stay = λ other earlier held.
      (others_stay None (Some place) (piece_needs piece) was now tidy h.alone other (λ e. no_value e)
      (λ e. no_record h.was_free earlier (subst (λ (p : RecordPlace). HoldsPiece was p earlier) (some_same e) held)) earlier).0 held;
  tidy = tidy_still tidy h.alone (comes_at now place piece h.holds) (may_come was now place piece h.holds may);
}
