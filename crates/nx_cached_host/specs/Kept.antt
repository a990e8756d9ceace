-- The pages that are kept of a disk.
use Rattle.std.specs.Prelude.{◌≡◌, ℕ, ◌+◌, ◌≤◌, List, length, take, drop, Option, Some}
use Rattle.nx_numbers.specs.Sizes.{page_size}
use Rattle.nx_host.specs.Disk.{Image, area_of, given_at}
use Rattle.nx_host.specs.declared.disk.Area.{Area}
use Rattle.nx_host.specs.declared.disk.Area.TheVariants.{Pages, Log}
use Rattle.nx_slots.specs.declared.page.PageBytes.{PageBytes}
use Rattle.nx_cache.specs.declared.address.Address.{Address}
use Rattle.nx_cache.specs.declared.address.Address.TheVariants.{InPages, InLog}
use Rattle.nx_cache.specs.Cached.{EachListed}

abbrev pub address_in : Area → ℕ → Address
address_in Pages at = InPages at
address_in Log at = InLog at

abbrev pub area_with : Address → Area
area_with (InPages at) = Pages
area_with (InLog at) = Log

abbrev pub offset : Address → ℕ
offset (InPages at) = at
offset (InLog at) = at

-- of two ends, that of an area
abbrev pub end_in : ℕ → ℕ → Area → ℕ
end_in pages log Pages = pages
end_in pages log Log = log

-- a page at this address ends there or before, by the ends of both areas
abbrev pub EndsBy : ℕ → ℕ → Address → PageBytes → Type 0
EndsBy pages log address page = offset address + page_size ≤ end_in pages log (area_with address)

-- where it stands in this area, it ends at this offset or before
abbrev pub LiesBefore : Area → ℕ → Address → PageBytes → Type 0
LiesBefore area at address page = area_with address ≡ area → offset address + page_size ≤ at

-- the image has the page at this address, whole
abbrev pub StandsWhole : Image → Address → PageBytes → Type 0
StandsWhole image address page = (offset address + page_size ≤ length (area_of (area_with address) image))
    × (take page_size (drop (offset address) (area_of (area_with address) image)) ≡ page.bytes)

-- where the contents are told, each page that is kept stands in them
abbrev pub KeptStand : Option Image → List (Address × PageBytes) → Type 0
KeptStand contents pages = (image : Image) → contents ≡ Some image → EachListed (StandsWhole image) pages

-- the image has these bytes there, a whole page
pub record GivesPage (area : Area) (at : ℕ) (page : List ℕ) (image : Image) : Type 0 where
  pub whole : length (given_at at page_size (area_of area image)) ≡ page_size
  pub bytes : page ≡ given_at at page_size (area_of area image)
