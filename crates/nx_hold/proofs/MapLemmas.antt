-- The piece at a place, as a function of what is held.
use Rattle.std.proofs.Common.{◌≡◌, ℕ, List, length, Option, None, Some, inl, inr, refl, sym, ap, ◌∙◌, subst}
use Rattle.std.specs.Option.{MatchOption}
use Rattle.nx_holdings.specs.Holdings.{Held}
use Rattle.nx_piece.specs.declared.piece.Body.{Body}
use Rattle.nx_piece.specs.declared.piece.Piece.{Piece}
use Rattle.nx_piece.specs.declared.piece.Proxy.{Proxy}
use Rattle.nx_piece.specs.declared.piece.Stored.{Stored}
use Rattle.nx_piece.specs.declared.piece.Stored.TheVariants.{Inline, Chained}
use Rattle.nx_piece.specs.Decoded.{IsDecoded}
use Rattle.nx_piece.specs.Encoding.{proxies_bytes}
use Rattle.nx_piece.proofs.StoredOf.{stored_of, decoded_is, is_stored_of, AreListed, list_of, is_list_of, list_is}
use Rattle.nx_layouts.specs.Layout.{RecordPlace}
use Rattle.nx_hold.specs.Pieces.{record_at, IsStored, HoldsPiece, HoldsNone, PieceMap}
use Rattle.nx_hold.specs.Changes.{IsAdded, HasGrown}
use Rattle.nx_hold.proofs.PieceLemmas.{one_piece, some_same, no_value, chain_same, count_same, no_both}

with_proxies : Body → Option (List Proxy) → Option Piece
with_proxies body None = None
with_proxies body (Some ps) = Some (record { body = body; proxies = ps })

by_list : Body → ℕ → Option (List ℕ) → Option Piece
by_list body count None = None
by_list body count (Some bytes) = with_proxies body (list_of count bytes)

by_stored : Held → Option Stored → Option Piece
by_stored held None = None
by_stored held (Some (Inline piece)) = Some piece
by_stored held (Some (Chained body count chain)) = by_list body count (held.lists chain)

by_record : Held → Option (List ℕ) → Option Piece
by_record held None = None
by_record held (Some bytes) = by_stored held (stored_of bytes)

-- this is the piece at the place, or none is there
abbrev IsAt : Held → RecordPlace → Option Piece → Type 0
IsAt held place piece = MatchOption piece (HoldsNone held place) (λ p. HoldsPiece held place p)

-- what the record at a place is decoded to
told : {held : Held} {place : RecordPlace} {bytes : List ℕ} (s : Stored) → record_at held place ≡ Some bytes → IsStored held place s → stored_of bytes ≡ Some s
told {held} {place} {bytes} s there h = decoded_is bytes (Some s) (h.valid, h.numbers, some_same (sym there ∙ h.bytes))

none_decoded : {held : Held} {place : RecordPlace} {bytes : List ℕ} → record_at held place ≡ Some bytes → stored_of bytes ≡ None → HoldsNone held place
none_decoded there e piece (inl h) = no_value (sym (told (Inline piece) there h) ∙ e)
none_decoded there e piece (inr h) = no_value (sym (told (Chained piece.body (length piece.proxies) h.chain) there h.stored) ∙ e)

pub undecoded : {held : Held} {place : RecordPlace} {bytes : List ℕ} → record_at held place ≡ Some bytes → IsDecoded bytes None → HoldsNone held place
undecoded {bytes = bytes} there none = none_decoded there (decoded_is bytes None none)

-- where the record names a list, a piece is only one whose proxies that list has
none_listed : {held : Held} {place : RecordPlace} {bytes : List ℕ} {body : Body} {count chain : ℕ} → record_at held place ≡ Some bytes → stored_of bytes ≡ Some (Chained body count chain)
    → ((ps : List Proxy) → length ps ≡ count → held.lists chain ≡ Some (proxies_bytes ps) → AreListed (proxies_bytes ps) count ps → ⊥) → HoldsNone held place
none_listed {held} {place} {bytes} {body} {count} {chain} there e none piece (inl h) = no_both piece body count chain (some_same (sym (told (Inline piece) there h) ∙ e))
none_listed {held} {place} {bytes} {body} {count} {chain} there e none piece (inr h) =
    let same = some_same (sym (told (Chained piece.body (length piece.proxies) h.chain) there h.stored) ∙ e) in
    let n : length piece.proxies ≡ count = count_same piece.body body (length piece.proxies) count h.chain chain same in
    let c : h.chain ≡ chain = chain_same piece.body body (length piece.proxies) count h.chain chain same in
    none piece.proxies n (ap held.lists (sym c) ∙ h.list) (record { counted = n; rooted = h.rooted; numbers = h.numbers; same = refl })

at_proxies : {place : RecordPlace} {bytes list : List ℕ} (held : Held) (body : Body) (count chain : ℕ) (o : Option (List Proxy)) → record_at held place ≡ Some bytes → stored_of bytes ≡ Some (Chained body count chain)
    → held.lists chain ≡ Some list → list_of count list ≡ o → IsAt held place (with_proxies body o)
unfolding with_proxies
at_proxies {place} {bytes} {list} held body count chain None there e l o =
    none_listed there e (λ ps n named listed. no_value (sym (list_is (proxies_bytes ps) count ps listed) ∙ ap (list_of count) (some_same (sym named ∙ l)) ∙ o))
at_proxies {place} {bytes} {list} held body count chain (Some ps) there e l o =
    let got = is_stored_of bytes (Chained body count chain) e in
    let all = is_list_of list count ps o in
    inr (record {
      chain = chain;
      stored = subst (λ (n : ℕ). IsStored held place (Chained body n chain)) (sym all.counted) (record { bytes = there ∙ ap Some got.2; valid = got.0; numbers = got.1 });
      list = l ∙ ap Some all.same;
      rooted = all.rooted;
      numbers = all.numbers;
    })

at_list : {place : RecordPlace} {bytes : List ℕ} (held : Held) (body : Body) (count chain : ℕ) (o : Option (List ℕ)) → record_at held place ≡ Some bytes → stored_of bytes ≡ Some (Chained body count chain)
    → held.lists chain ≡ o → IsAt held place (by_list body count o)
unfolding by_list
at_list held body count chain None there e l = none_listed there e (λ ps n named listed. no_value (sym named ∙ l))
at_list held body count chain (Some list) there e l = at_proxies held body count chain (list_of count list) there e l refl

at_stored : {place : RecordPlace} {bytes : List ℕ} (held : Held) (s : Option Stored) → record_at held place ≡ Some bytes → stored_of bytes ≡ s → IsAt held place (by_stored held s)
unfolding by_stored
at_stored held None there e = none_decoded there e
at_stored {place} {bytes} held (Some (Inline piece)) there e =
    let got = is_stored_of bytes (Inline piece) e in
    inl (record { bytes = there ∙ ap Some got.2; valid = got.0; numbers = got.1 })
at_stored held (Some (Chained body count chain)) there e = at_list held body count chain (held.lists chain) there e refl

pub no_record : {held : Held} {place : RecordPlace} → record_at held place ≡ None → HoldsNone held place
no_record e piece (inl h) = no_value (sym h.bytes ∙ e)
no_record e piece (inr h) = no_value (sym h.stored.bytes ∙ e)

at_record : (held : Held) (place : RecordPlace) (o : Option (List ℕ)) → record_at held place ≡ o → IsAt held place (by_record held o)
unfolding by_record
at_record held place None e = no_record e
at_record held place (Some bytes) e = at_stored held (stored_of bytes) e refl

pub piece_map : (held : Held) → PieceMap held
piece_map held = record {
  piece_at = λ place. by_record held (record_at held place);
  are = λ place. at_record held place (record_at held place) refl;
}

pub told_some : (held : Held) (place : RecordPlace) (piece : Piece) (o : Option Piece) → IsAt held place o → HoldsPiece held place piece → o ≡ Some piece
told_some held place piece None none holds = absurd (none piece holds)
told_some held place piece (Some other) there holds = ap Some (one_piece held place other piece there holds)

told_none : (held : Held) (place : RecordPlace) (o : Option Piece) → IsAt held place o → HoldsNone held place → o ≡ None
told_none held place None at none = refl
told_none held place (Some piece) there none = absurd (none piece there)

-- what a map of pieces has at a place is held there
pub held_at : (held : Held) (pieces : PieceMap held) (place : RecordPlace) (piece : Piece) → pieces.piece_at place ≡ Some piece → HoldsPiece held place piece
held_at held pieces place piece e = let there : IsAt held place (Some piece) = subst (λ (o : Option Piece). IsAt held place o) e (pieces.are place) in there

pub map_grows : (place : RecordPlace) (piece : Piece) (was now : Held) (before : PieceMap was) (after : PieceMap now) → IsAdded place piece was now → HasGrown place piece before.piece_at after.piece_at
map_grows place piece was now before after added = record {
  none = told_none was place (before.piece_at place) (before.are place) added.was_none;
  there = told_some now place piece (after.piece_at place) (after.are place) added.there;
  stay = λ other earlier e. told_some now other earlier (after.piece_at other) (after.are other) (added.stay other earlier (held_at was before other earlier e));
}
