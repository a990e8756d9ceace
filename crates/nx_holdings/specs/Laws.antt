-- The laws of what pages hold.
use Rattle.std.specs.Prelude.{◌≡◌, ◌⊎◌, ℕ, ◌+◌, ◌≤◌, List, [], ◌∷◌, length, Option, Some, None, IsSome}
use Rattle.nx_replay.specs.Log.{Pages, IsDense}
use Rattle.nx_holdings.specs.Holdings.{Held, Holds, chain_count}

-- Pages hold one thing at most.
abbrev pub HoldOne : Type 0
HoldOne = (pages : Pages) (one other : Held) → Holds pages one → Holds pages other → one ≡ other

-- this place or first page is among these
abbrev pub IsAmong : {T : Type 0} → T → List T → Type 0
IsAmong x [] = ⊥
IsAmong x (y ∷ ys) = (x ≡ y) ⊎ IsAmong x ys

-- how many chain pages a list takes, none where it isn't there
abbrev pub pages_of_list : Option (List ℕ) → ℕ
pages_of_list None = 0
pages_of_list (Some bytes) = chain_count (length bytes)

-- how many chain pages the lists at these first pages take
abbrev pub pages_of_lists : (ℕ → Option (List ℕ)) → List ℕ → ℕ
pages_of_lists lists [] = 0
pages_of_lists lists (first ∷ firsts) = pages_of_list (lists first) + pages_of_lists lists firsts

-- Where these are the places of all records and the first pages of all lists, at least so many pages are free: the limit, less the header, the records, and
-- the chain pages of the lists and of the catalog.
abbrev pub HaveFree : Type 0
HaveFree = (pages : Pages) (held : Held) (places : List (ℕ × ℕ)) (firsts : List ℕ) → Holds pages held
    → ((page slot : ℕ) → IsSome (held.records page slot) → IsAmong (page, slot) places) → ((first : ℕ) → IsSome (held.lists first) → IsAmong first firsts)
    → held.settings.limit ≤ held.free + (1 + length places + pages_of_lists held.lists firsts + chain_count (length held.catalog.bytes))

-- No page below one that is there is missing.
abbrev pub AreDense : Type 0
AreDense = (pages : Pages) (held : Held) → Holds pages held → IsDense pages
