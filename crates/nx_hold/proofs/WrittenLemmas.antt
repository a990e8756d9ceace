-- The bytes of a piece as they are read, before anybody looks whether they are those of one.
use Rattle.std.proofs.Common.{◌≡◌, ℕ, ◌+◌, ◌*◌, ◌<◌, ◌≤◌, List, [], ◌∷◌, ◌++◌, length, take, drop, get_or, Some, refl, sym, ap, ◌∙◌, subst, arith, append_assoc, append-nil, inl, inr}
use Rattle.nx_records.specs.Words.{Held, chain_count}
use Rattle.nx_piece.specs.declared.piece.Body.{Body}
use Rattle.nx_piece.specs.declared.piece.Piece.{Piece}
use Rattle.nx_piece.specs.declared.piece.Stored.{Stored}
use Rattle.nx_piece.specs.declared.piece.Stored.TheVariants.{Inline, Chained}
use Rattle.nx_piece.specs.declared.reading.Head.{Head}
use Rattle.nx_piece.specs.Gapped.{item_count, gapped_width}
use Rattle.nx_piece.specs.Encoding.{items_bytes, proxies_bytes, head_bytes}
use Rattle.nx_piece.specs.Reading.{IsHeadRead, BeginsNoHead}
use Rattle.nx_piece.proofs.ApartLemmas.{four_unique}
use Rattle.nx_layouts.specs.Layout.{RecordPlace}
use Rattle.nx_seek.specs.Written.{IsRecord, IsWrittenApart, IsWrittenAs, IsInline}
use Rattle.nx_hold.specs.Pieces.{record_at, IsStored, HoldsPiece, HoldsNone}
use Rattle.nx_hold.specs.Changes.{TakesPages}
use Rattle.nx_hold.specs.Putting.{LacksProxies}
use Rattle.nx_hold.proofs.PieceLemmas.{some_same, no_both, chain_same, count_same}

-- what a head says of the list
abbrev pub IsHeadFor : Head → Stored → Type 0
IsHeadFor head (Inline piece) = head.form ≡ 1
IsHeadFor head (Chained body count chain) = (head.form ≡ 2) × (head.proxies ≡ count) × (head.chain ≡ chain)

pub head_for : (bytes behind : List ℕ) (head : Head) (stored : Stored) → IsRecord bytes stored → IsHeadRead bytes head behind → IsHeadFor head stored
head_for bytes behind head (Inline piece) is read = ap (λ (l : List ℕ). get_or l 0 0) (sym read.0 ∙ is.same)
head_for bytes behind head (Chained body count chain) is read =
    let e = sym read.0 ∙ is.same in
    let few : count ≤ 524288 = is.valid.body.few_proxies in (
      ap (λ (l : List ℕ). get_or l 0 0) e,
      four_unique head.proxies count read.3 (omega arith) (ap (λ (l : List ℕ). take 4 (drop 8 l)) e),
      four_unique head.chain chain read.4 is.numbers.0 (ap (λ (l : List ℕ). take 4 (drop 12 l)) e),
    )

-- each record of a piece has a head
pub headless : (bytes : List ℕ) (stored : Stored) → IsRecord bytes stored → BeginsNoHead bytes → ⊥
headless bytes (Inline piece) is none =
    let f = piece.body.roots in
    none 1 (gapped_width f) (item_count f) (length piece.proxies) 0 (items_bytes f ++ proxies_bytes piece.proxies)
    (is.same ∙ append_assoc (head_bytes 1 (gapped_width f) (item_count f) (length piece.proxies) 0) (items_bytes f) (proxies_bytes piece.proxies))
headless bytes (Chained body count chain) is none = none 2 (gapped_width body.roots) (item_count body.roots) count chain (items_bytes body.roots) is.same

pub inline_for : (head : Head) (stored : Stored) → IsHeadFor head stored → (head.form ≡ 2 → ⊥) → IsInline stored
inline_for head (Inline piece) is other = tt
inline_for head (Chained body count chain) is other = other is.0

pub chained_for : (head : Head) (stored : Stored) → IsHeadFor head stored → head.form ≡ 2 → (body : Body) × (stored ≡ Chained body head.proxies head.chain)
chained_for head (Inline piece) is two = absurd (omega arith)
chained_for head (Chained body count chain) is two = (body, ap (λ (n : ℕ). Chained body n chain) (sym is.1) ∙ ap (λ (n : ℕ). Chained body head.proxies n) (sym is.2))

-- the bytes at a place are those of the record that stands there
pub record_is : {held : Held} {place : RecordPlace} {bytes : List ℕ} (stored : Stored) → record_at held place ≡ Some bytes → IsStored held place stored → IsRecord bytes stored
record_is stored there is = record { same = some_same (sym there ∙ is.bytes); valid = is.valid; numbers = is.numbers }

-- where they name no list the piece is in them
pub written_inline : {held : Held} {place : RecordPlace} {bytes : List ℕ} (piece : Piece) (list : List ℕ) → record_at held place ≡ Some bytes → HoldsPiece held place piece → ((stored : Stored) → IsRecord bytes stored → IsInline stored) → IsWrittenAs piece bytes list
written_inline piece list there (inl h) inline = inl (record_is (Inline piece) there h)
written_inline piece list there (inr h) inline = absurd (inline (Chained piece.body (length piece.proxies) h.chain) (record_is (Chained piece.body (length piece.proxies) h.chain) there h.stored))

-- what a record's bytes name
abbrev pub Names : List ℕ → (count chain : ℕ) → Type 0
Names bytes count chain = (stored : Stored) → IsRecord bytes stored → (body : Body) × (stored ≡ Chained body count chain)

-- ... and else in the list
pub written_listed : {held : Held} {place : RecordPlace} {bytes : List ℕ} (piece : Piece) (count chain : ℕ) (list : List ℕ) → record_at held place ≡ Some bytes → HoldsPiece held place piece → Names bytes count chain
    → ((all : List ℕ) → held.lists chain ≡ Some all → list ≡ all) → IsWrittenAs piece bytes list
written_listed piece count chain list there (inl h) names read =
    let named = names (Inline piece) (record_is (Inline piece) there h) in absurd (no_both piece named.0 count chain named.1)
written_listed {held} piece count chain list there (inr h) names read =
    let own = record_is (Chained piece.body (length piece.proxies) h.chain) there h.stored in
    let named = names (Chained piece.body (length piece.proxies) h.chain) own in
    let c : h.chain ≡ chain = chain_same piece.body named.0 (length piece.proxies) count h.chain chain named.1 in
    inr (record { chain = h.chain; nodes = own; same = read (proxies_bytes piece.proxies) (ap held.lists (sym c) ∙ h.list); ranged = h.rooted; numbers = h.numbers })

-- a list that doesn't hold the proxies leaves no piece
pub unlisted : {held : Held} {place : RecordPlace} {bytes : List ℕ} (count chain : ℕ) → record_at held place ≡ Some bytes → Names bytes count chain → LacksProxies held count chain → HoldsNone held place
unlisted count chain there names lacks piece (inl h) =
    let named = names (Inline piece) (record_is (Inline piece) there h) in no_both piece named.0 count chain named.1
unlisted {held} count chain there names lacks piece (inr h) =
    let named = names (Chained piece.body (length piece.proxies) h.chain) (record_is (Chained piece.body (length piece.proxies) h.chain) there h.stored) in
    let c : h.chain ≡ chain = chain_same piece.body named.0 (length piece.proxies) count h.chain chain named.1 in
    let n : length piece.proxies ≡ count = count_same piece.body named.0 (length piece.proxies) count h.chain chain named.1 in
    lacks piece.proxies n h.rooted (ap held.lists (sym c) ∙ h.list)

-- the pages of a piece whose list is named
pub pages_named : {held : Held} {place : RecordPlace} {bytes : List ℕ} (piece : Piece) (count chain : ℕ) → record_at held place ≡ Some bytes → HoldsPiece held place piece → Names bytes count chain → TakesPages held place (1 + chain_count (8 * count))
pages_named piece count chain there (inl h) names =
    let named = names (Inline piece) (record_is (Inline piece) there h) in absurd (no_both piece named.0 count chain named.1)
pages_named {held} {place} piece count chain there (inr h) names =
    let named = names (Chained piece.body (length piece.proxies) h.chain) (record_is (Chained piece.body (length piece.proxies) h.chain) there h.stored) in
    inr (count, chain, (named.0, subst (λ (s : Stored). IsStored held place s) named.1 h.stored), refl)
