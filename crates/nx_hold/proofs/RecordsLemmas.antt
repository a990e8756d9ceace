-- What the record at a place is, and which list it names.
use Rattle.std.proofs.Common.{◌≡◌, ℕ, List, [], ◌∷◌, length, Option, None, Some, inl, inr, sym, ap, ◌∙◌, subst}
use Rattle.std.specs.Prelude.{◌⊎◌, IsSome}
use Rattle.std.specs.Option.{is_some}
use Rattle.std.proofs.lemmas.Bool.Decides.{eqb_tells}
use Rattle.std.proofs.lemmas.List.Elements.{Contains-push}
use Rattle.nx_holdings.specs.Holdings.{Held}
use Rattle.nx_piece.specs.declared.piece.Piece.{Piece}
use Rattle.nx_piece.specs.declared.piece.Stored.{Stored}
use Rattle.nx_piece.specs.declared.piece.Stored.TheVariants.{Inline, Chained}
use Rattle.nx_layouts.specs.Layout.{RecordPlace}
use Rattle.nx_layouts.proofs.PlaceLemmas.{no_place, one_place}
use Rattle.nx_hold.specs.Pieces.{record_at, IsStored, HoldsPiece, NamesList, NamesAny, NamesNot, IsTidy}
use Rattle.nx_hold.specs.Documents.{NamesAmong}
use Rattle.nx_hold.proofs.TidyLemmas.{content_along}
use Rattle.nx_hold.proofs.PieceLemmas.{some_same, no_value, one_at, no_both, chain_same, stays_stored}

-- what is there isn't none
pub not_none : {A : Type 0} (o : Option A) → IsSome o → o ≡ None → ⊥
not_none {A} o some none = let h : IsSome {T = A} None = subst IsSome none some in cc

-- the record of a piece
pub piece_record : (held : Held) (place : RecordPlace) (piece : Piece) → HoldsPiece held place piece → (stored : Stored) × IsStored held place stored
piece_record held place piece (inl h) = (Inline piece, h)
piece_record held place piece (inr h) = (Chained piece.body (length piece.proxies) h.chain, h.stored)

pub record_there : (held : Held) (place : RecordPlace) (piece : Piece) → HoldsPiece held place piece → IsSome (record_at held place)
record_there held place piece h = let found = piece_record held place piece h in ap is_some (found.1).bytes

-- a record names its list still where it stays
pub names_along : (was now : Held) (place : RecordPlace) (count chain : ℕ) → record_at now place ≡ record_at was place → NamesList was place count chain → NamesList now place count chain
names_along was now place count chain same names = (names.0, stays_stored was now place (Chained names.0 count chain) same names.1)

-- ... and so any list
pub any_along : (was now : Held) (place : RecordPlace) (chain : ℕ) → record_at now place ≡ record_at was place → NamesAny was place chain → NamesAny now place chain
any_along was now place chain same (inl h) = inl (h.0, names_along was now place h.0 chain same h.1)
any_along was now place chain same (inr h) = inr (h.0, h.1, content_along was now place h.0 same h.2)

-- a record that names a list is there
pub any_there : (held : Held) (place : RecordPlace) (chain : ℕ) → NamesAny held place chain → record_at held place ≡ None → ⊥
any_there held place chain (inl h) none = no_value (sym ((h.1).1).bytes ∙ none)
any_there held place chain (inr h) none = no_value (sym ((h.2).1).bytes ∙ none)

-- ... and so is the list, where lists are in order
pub any_listed : (held : Held) → IsTidy held → (place : RecordPlace) (chain : ℕ) → NamesAny held place chain → (bytes : List ℕ) × (held.lists chain ≡ Some bytes)
any_listed held tidy place chain (inl h) = let list = tidy.there place h.0 chain h.1 in (list.0, list.1)
any_listed held tidy place chain (inr h) = let list = tidy.contents place h.0 h.2 in (list.0, ap held.lists (sym h.1) ∙ list.1)

-- whether a record names a list
pub names_or_not : (held : Held) (place : RecordPlace) (stored : Stored) (chain : ℕ) → IsStored held place stored → NamesNot held (Some place) chain ⊎ NamesAmong held (place ∷ []) [] chain
names_or_not held place (Inline piece) chain h = inl (λ at count e names.
    let here : NamesList held place count chain = subst (λ (p : RecordPlace). NamesList held p count chain) (some_same e) names in
    no_both piece here.0 count chain (one_at held place (Inline piece) (Chained here.0 count chain) h here.1))
names_or_not held place (Chained body many named) chain h =
    elim (eqb_tells named chain) [
      | inl same ↦ inr (inl (place, many, Contains-push [] place, (body, subst (λ (c : ℕ). IsStored held place (Chained body many c)) same.1 h)))
      | inr apart ↦ inl (λ at count e names.
          let here : NamesList held place count chain = subst (λ (p : RecordPlace). NamesList held p count chain) (some_same e) names in
          apart.1 (chain_same body here.0 many count named chain (one_at held place (Chained body many named) (Chained here.0 count chain) h here.1)))
    ]

-- one place names no list where no record there does
pub not_at : (held : Held) (place : RecordPlace) (chain : ℕ) → (NamesAmong held (place ∷ []) [] chain → ⊥) → NamesNot held (Some place) chain
not_at held place chain not at count e names = not (inl (place, count, Contains-push [] place, subst (λ (p : RecordPlace). NamesList held p count chain) (some_same e) names))

pub named_at : (held : Held) (place : RecordPlace) (chain : ℕ) → NamesAmong held (place ∷ []) [] chain → (count : ℕ) × NamesList held place count chain
named_at held place chain (inl named) = (named.1, subst (λ (p : RecordPlace). NamesList held p named.1 chain) (one_place place named.0 named.2) named.3)
named_at held place chain (inr none) = absurd (no_place chain none)

-- no place names no list
pub none_names : (held : Held) (chain : ℕ) → NamesNot held None chain
none_names held chain at count e names = no_value e

pub none_named : (held : Held) (chain : ℕ) → NamesAmong held [] [] chain → ⊥
none_named held chain (inl named) = no_place named.0 named.2
none_named held chain (inr none) = no_place chain none
