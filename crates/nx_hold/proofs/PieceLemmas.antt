-- A record holds one piece at most, and keeps it where nothing of it changes.
use Rattle.std.proofs.Common.{◌≡◌, ℕ, List, length, Option, None, Some, inl, inr, sym, ap, ◌∙◌}
use Rattle.nx_holdings.specs.Holdings.{Held}
use Rattle.nx_piece.specs.declared.piece.Body.{Body}
use Rattle.nx_piece.specs.declared.piece.Piece.{Piece}
use Rattle.nx_piece.specs.declared.piece.Proxy.{Proxy}
use Rattle.nx_piece.specs.declared.piece.Stored.{Stored}
use Rattle.nx_piece.specs.declared.piece.Stored.TheVariants.{Inline, Chained}
use Rattle.nx_piece.specs.Encoding.{proxies_bytes}
use Rattle.nx_piece.proofs.Laws.{one_stored, proxies_unique}
use Rattle.nx_layouts.specs.Layout.{RecordPlace}
use Rattle.nx_hold.specs.Pieces.{record_at, IsStored, HoldsPiece, NamesList, NamesNot, IsTidy, ChangesOneRecord}

pub some_same : {A : Type 0} {x y : A} → Some x ≡ Some y → x ≡ y
some_same e = cc

pub one_at : (held : Held) (place : RecordPlace) (a b : Stored) → IsStored held place a → IsStored held place b → a ≡ b
one_at held place a b h k = one_stored a b h.valid k.valid h.numbers k.numbers (some_same (sym h.bytes ∙ k.bytes))

inline_same : (a b : Piece) → Inline a ≡ Inline b → a ≡ b
inline_same a b e = cc

pub chain_same : (a b : Body) (m n c d : ℕ) → Chained a m c ≡ Chained b n d → c ≡ d
chain_same a b m n c d e = cc

pub count_same : (a b : Body) (m n c d : ℕ) → Chained a m c ≡ Chained b n d → m ≡ n
count_same a b m n c d e = cc

body_same : (a b : Body) (m n c d : ℕ) → Chained a m c ≡ Chained b n d → a ≡ b
body_same a b m n c d e = cc

pub no_both : (piece : Piece) (body : Body) (count chain : ℕ) → Inline piece ≡ Chained body count chain → ⊥
no_both piece body count chain e = cc

piece_is : (a b : Piece) → a.body ≡ b.body → a.proxies ≡ b.proxies → a ≡ b
piece_is a b e f =
    ap (λ (x : Body). let p : Piece = record { body = x; proxies = a.proxies } in p) e
    ∙ ap (λ (x : List Proxy). let p : Piece = record { body = b.body; proxies = x } in p) f

pub one_piece : (held : Held) (place : RecordPlace) (piece other : Piece) → HoldsPiece held place piece → HoldsPiece held place other → piece ≡ other
one_piece held place piece other (inl h) (inl k) = inline_same piece other (one_at held place (Inline piece) (Inline other) h k)
one_piece held place piece other (inl h) (inr k) = absurd (no_both piece other.body (length other.proxies) k.chain (one_at held place (Inline piece) (Chained other.body (length other.proxies) k.chain) h k.stored))
one_piece held place piece other (inr h) (inl k) = absurd (no_both other piece.body (length piece.proxies) h.chain (one_at held place (Inline other) (Chained piece.body (length piece.proxies) h.chain) k h.stored))
one_piece held place piece other (inr h) (inr k) =
    let e = one_at held place (Chained piece.body (length piece.proxies) h.chain) (Chained other.body (length other.proxies) k.chain) h.stored k.stored in
    let chain : h.chain ≡ k.chain = chain_same piece.body other.body (length piece.proxies) (length other.proxies) h.chain k.chain e in
    let bytes : proxies_bytes piece.proxies ≡ proxies_bytes other.proxies = some_same (sym h.list ∙ ap held.lists chain ∙ k.list) in
    piece_is piece other (body_same piece.body other.body (length piece.proxies) (length other.proxies) h.chain k.chain e)
    (proxies_unique piece.proxies other.proxies h.rooted k.rooted h.numbers k.numbers bytes)

pub no_value : {A : Type 0} {x : A} → Some x ≡ None → ⊥
no_value e = cc

pub stays_stored : (was now : Held) (place : RecordPlace) (stored : Stored) → record_at now place ≡ record_at was place → IsStored was place stored → IsStored now place stored
stays_stored was now place stored same h = record { bytes = same ∙ h.bytes; valid = h.valid; numbers = h.numbers }

pub pieces_stay : (was now : Held) (place : RecordPlace) (piece : Piece) → record_at now place ≡ record_at was place
    → ((count chain : ℕ) → NamesList was place count chain → now.lists chain ≡ was.lists chain) → HoldsPiece was place piece → HoldsPiece now place piece
pieces_stay was now place piece same lists (inl h) = inl (stays_stored was now place (Inline piece) same h)
pieces_stay was now place piece same lists (inr h) = inr (record {
  chain = h.chain;
  stored = stays_stored was now place (Chained piece.body (length piece.proxies) h.chain) same h.stored;
  list = lists (length piece.proxies) h.chain (piece.body, h.stored) ∙ h.list;
  rooted = h.rooted;
  numbers = h.numbers;
})

-- a list that another record names stays
pub lists_stay : {old new : Option RecordPlace} {needs : ℕ} {was now : Held} {place : RecordPlace} → IsTidy was → ChangesOneRecord old new needs was now → (Some place ≡ old → ⊥)
    → (count chain : ℕ) → NamesList was place count chain → now.lists chain ≡ was.lists chain
lists_stay {old} {new} {needs} {was} {now} {place} tidy h not_old count chain names = h.lists chain free_of_old free_of_new
  where
    free_of_old : NamesNot was old chain
    free_of_old at n e other = not_old (ap Some (tidy.once place at count n chain names other) ∙ e)

    free_of_new : NamesNot now new chain
    free_of_new at n e other =
        let none : was.lists chain ≡ None = h.fresh at n chain e other free_of_old in
        let some = (tidy.there place count chain names).1 in
        no_value (sym some ∙ none)

pub others_stay : (old new : Option RecordPlace) (needs : ℕ) (was now : Held) → IsTidy was → ChangesOneRecord old new needs was now
    → (place : RecordPlace) → (Some place ≡ old → ⊥) → (Some place ≡ new → ⊥)
    → (piece : Piece) → (HoldsPiece was place piece → HoldsPiece now place piece) × (HoldsPiece now place piece → HoldsPiece was place piece)
others_stay old new needs was now tidy h place not_old not_new piece =
    let same = h.beside place not_old not_new in (
      pieces_stay was now place piece same (lists_stay tidy h not_old),
      pieces_stay now was place piece (sym same)
          (λ count chain names. sym (lists_stay tidy h not_old count chain (names.0, stays_stored now was place (Chained names.0 count chain) (sym same) names.1))),
    )
