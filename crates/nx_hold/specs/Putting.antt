-- What the inner functions of a call on a piece read of what records hold, and make of it.
use Rattle.std.specs.Prelude.{◌≡◌, ℕ, ◌+◌, ◌*◌, ◌≤◌, List, length, Option, None, Some}
use Rattle.nx_records.specs.Words.{Held}
use Rattle.nx_records.specs.Changes.{ChangesLists, lists_with}
use Rattle.nx_records.specs.declared.error.StoreError.{StoreError}
use Rattle.nx_records.specs.declared.error.StoreError.TheVariants as error
use Rattle.nx_piece.specs.declared.piece.Piece.{Piece}
use Rattle.nx_piece.specs.declared.piece.Proxy.{Proxy}
use Rattle.nx_piece.specs.declared.piece.Stored.{Stored}
use Rattle.nx_piece.specs.declared.piece.Stored.TheVariants.{Inline, Chained}
use Rattle.nx_piece.specs.Encoding.{encoding, proxies_bytes}
use Rattle.nx_piece.specs.Valid.{IsValid, HaveRoots, HaveNumbers, HasNumbers}
use Rattle.nx_hold.specs.Changes.{chain_pages}

-- the same refusal, told of this page
abbrev pub told_at : ℕ → StoreError → StoreError
told_at page error.Disk = error.Disk
told_at page error.Exists = error.Exists
told_at page error.NotAStore = error.NotAStore
told_at page error.Full = error.Full
told_at page (error.Damaged other) = error.Damaged page
told_at page error.Ended = error.Ended
told_at page error.Memory = error.Memory

-- the list doesn't hold so many proxies
abbrev pub LacksProxies : Held → (count chain : ℕ) → Type 0
LacksProxies held count chain = (proxies : List Proxy) → length proxies ≡ count → HaveRoots proxies → held.lists chain ≡ Some (proxies_bytes proxies) → ⊥

-- the list that a record names
abbrev pub chain_of : Stored → Option ℕ
chain_of (Inline piece) = None
chain_of (Chained body count chain) = Some chain

-- the piece that is stored so, where the list that it names has these proxies
abbrev pub piece_with : Stored → List Proxy → Piece
piece_with (Inline piece) listed = piece
piece_with (Chained body count chain) listed = record { body = body; proxies = listed }

-- it is there, as long as its proxies need
abbrev pub HasList : Held → Stored → Type 0
HasList held (Inline piece) = Unit {0}
HasList held (Chained body count chain) = (list : List ℕ) × (held.lists chain ≡ Some list) × (length list ≡ 8 * count)

-- the lists without that at a first page, where there is one
abbrev pub without_list : (ℕ → Option (List ℕ)) → Option ℕ → ℕ → Option (List ℕ)
without_list lists None = lists
without_list lists (Some chain) = lists_with lists chain None

-- the lists with one at a first page, where there is one
abbrev pub with_list : (ℕ → Option (List ℕ)) → Option ℕ → List ℕ → ℕ → Option (List ℕ)
with_list lists None bytes = lists
with_list lists (Some chain) bytes = lists_with lists chain (Some bytes)

-- The list that a record names was taken away.
pub record FreesChain (stored : Stored) (was now : Held) : Type 0 where
  pub changes : ChangesLists was now (without_list was.lists (chain_of stored))
  pub free : was.free ≤ now.free

-- this is a form of the piece
abbrev pub IsFormOf : Piece → Stored → Type 0
IsFormOf piece (Inline other) = other ≡ piece
IsFormOf piece (Chained body count chain) = (body ≡ piece.body) × (count ≡ length piece.proxies)

-- The bytes are those of a record of the piece, and the list that it names was put.
pub record PutsProxies (piece : Piece) (bytes : List ℕ) (was now : Held) : Type 0 where
  pub stored : Stored
  pub form : IsFormOf piece stored
  pub are : bytes ≡ encoding stored
  pub valid : IsValid stored
  pub numbers : HasNumbers stored
  pub proxies_fit : HaveNumbers piece.proxies
  pub was_none : (chain : ℕ) → chain_of stored ≡ Some chain → was.lists chain ≡ None
  pub changes : ChangesLists was now (with_list was.lists (chain_of stored) (proxies_bytes piece.proxies))
  pub free : was.free ≤ now.free + chain_pages piece
