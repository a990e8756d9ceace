-- The pages that a cache keeps.
use Rattle.std.specs.Prelude.{if◌then◌else◌, ◌≡◌, ℕ, List, [], ◌∷◌, Option, None, Some, Box}
use Rattle.std.specs.Option.{option_map_or}
use Rattle.std.proofs.Common.{Global}
use Rattle.nx_slots.specs.declared.page.PageBytes.{PageBytes}
use Rattle.nx_cache.specs.declared.address.Address.{Address}
use Rattle.nx_cache.specs.Addresses.{same_address}

-- the pages with their bytes, the most recently used first, and how many there may be
pub record Cached : Type 0 where
  pub pages : List (Address × PageBytes)
  pub capacity : ℕ

-- a page with these bytes
abbrev pub page_with : List ℕ → PageBytes
page_with bytes = record { bytes = bytes }

-- what is listed of a page
abbrev pub bytes_listed : Address → List (Address × PageBytes) → Option PageBytes
bytes_listed address [] = None
bytes_listed address (listed ∷ others) = if same_address address listed.0 then Some listed.1 else bytes_listed address others

-- each page that is listed has this with its bytes
abbrev pub EachListed : (Address → PageBytes → Type 0) → List (Address × PageBytes) → Type 0
EachListed P pages = (address : Address) (bytes : PageBytes) → bytes_listed address pages ≡ Some bytes → P address bytes

-- the list without that page
abbrev pub without_page : Address → List (Address × PageBytes) → List (Address × PageBytes)
without_page address [] = []
without_page address (listed ∷ others) = if same_address address listed.0 then without_page address others else listed ∷ without_page address others

-- the list with that page as its first, where it is listed
abbrev pub brought_to_front : Address → List (Address × PageBytes) → List (Address × PageBytes)
brought_to_front address pages = option_map_or (λ bytes. (address, bytes) ∷ without_page address pages) (bytes_listed address pages) pages

-- a frame: room of its own for a page
abbrev pub Frame : Type 0
Frame = Box PageBytes Global

-- the pages that stand in frames
abbrev pub in_frames : List (Address × Frame) → List (Address × PageBytes)
in_frames [] = []
in_frames (kept ∷ others) = (kept.0, kept.1.value) ∷ in_frames others
