-- What the steps of a call read of chains, and make of them.
use Rattle.std.specs.Prelude.{◌≡◌, ◌≢◌, ◌⊎◌, ℕ, ◌+◌, ◌*◌, ◌<◌, ◌≤◌, false, List, ◌∷◌, ◌++◌, length, drop, Some}
use Rattle.nx_numbers.specs.Sizes.{page_room}
use Rattle.nx_host.specs.Disk.{Image, Rose}
use Rattle.nx_host.specs.declared.disk.Disk.{Ghosts}
use Rattle.nx_replay.specs.Log.{Pages}
use Rattle.nx_chain.specs.Chain.{chain_bytes}
use Rattle.nx_wal.specs.Wal.{IsInStep, current}
use Rattle.nx_holdings.specs.declared.header.Header.{Header}
use Rattle.nx_holdings.specs.Holdings.{Link, next_of, content_of, pages_of_links, times, chain_count, Held, HoldsBehind}
use Rattle.nx_links.specs.Lists.{IsLinkAt, IsListFrom}
use Rattle.nx_links.specs.Beside.{HeldBeside, HoldsBeside, KeepsCatalog, KeepsBeside}
use Rattle.nx_records.specs.Records.{has_ended, has_free, current_pages, waiting, KeepsLog, PutsChangedAlone}
use Rattle.nx_records.specs.Changes.{FreesList}
use Rattle.nx_records.specs.Refusals.{EndNow}
use Rattle.nx_records.specs.Pages.{SeesSo, PutsPage}
use Rattle.nx_records.specs.declared.records.Records.{Records}
use Rattle.nx_records.specs.declared.error.StoreError.{StoreError}
use Rattle.nx_records.specs.declared.error.StoreError.TheVariants as error

-- The page is the chain page with this next page and this content, full where another page follows.
pub record HasLink (pages : Pages) (page next : ℕ) (content : List ℕ) : Type 0 where
  pub link : IsLinkAt pages page next content
  pub full : next ≢ 0 → length content ≡ page_room

-- the page is no such page below the limit
abbrev pub NoLink : (limit page : ℕ) → Pages → Type 0
NoLink limit page pages = page < limit → (next : ℕ) (content : List ℕ) → HasLink pages page next content → ⊥

-- each chain page was one before
abbrev pub AddsNoLink : (was now : Pages) → Type 0
AddsNoLink was now = (page next : ℕ) (content : List ℕ) → HasLink now page next content → HasLink was page next content

-- each chain page was one before with the same next page, and had as many bytes
abbrev pub KeepsLinks : (was now : Pages) → Type 0
KeepsLinks was now = (page next : ℕ) (content : List ℕ) → HasLink now page next content → (had : List ℕ) × HasLink was page next had × (length had ≡ length content)

-- no list of so many bytes begins at the page
abbrev pub NoListFrom : (limit page len : ℕ) → Pages → Type 0
NoListFrom limit page len pages = (bytes : List ℕ) → IsListFrom limit pages page bytes → length bytes ≡ len → ⊥

-- Why what was asked for wasn't read of chain pages: a call failed, memory was wanting, or the pages aren't so.
abbrev pub NotListed : {D : Type 0} → Ghosts D → (Pages → Type 0) → ℕ → StoreError → Records → Records → D → D → Type 0
NotListed d P named error.Disk old new before after = Rose (d.faults before) (d.faults after) × EndNow old new
NotListed d P named (error.Damaged page) old new before after = (page ≡ named) × EndNow old new × SeesSo d old before P
NotListed d P named error.Memory old new before after = (has_ended old ≡ false) × (new ≡ old)
NotListed d P named error.Ended old new before after = ⊥
NotListed d P named error.Exists old new before after = ⊥
NotListed d P named error.NotAStore old new before after = ⊥
NotListed d P named error.Full old new before after = ⊥

-- this page with this content in front of a chain
abbrev pub link_before : (page : ℕ) → (content : List ℕ) → List Link → List Link
link_before page content links = record { page = page; content = content } ∷ links

-- a page of this content may come in front of the chain, which begins at this page
abbrev pub MayLead : (next : ℕ) → (content : List ℕ) → List Link → Type 0
MayLead next content links = (next_of links ≡ next) × (1 ≤ length links → length content ≡ page_room)

-- what stands on the chain page with this index
pub record IsContentAt (bytes : List ℕ) (index : ℕ) (content : List ℕ) : Type 0 where
  pub some : 1 ≤ length content
  pub few : length content ≤ page_room
  pub full : index + 1 < chain_count (length bytes) → length content ≡ page_room
  pub are : content ++ drop ((index + 1) * page_room) bytes ≡ drop (index * page_room) bytes

-- The chain begins at the page, and has the bytes behind those that are left for so many pages.
pub record IsWritten (next left : ℕ) (bytes : List ℕ) (more : List Link) : Type 0 where
  pub first : next_of more ≡ next
  pub are : content_of more ≡ drop (left * page_room) bytes
  pub count : length more + left ≡ chain_count (length bytes)

-- Of a chain there is left what begins at the page. Where the whole has this length, that has so many bytes.
pub record IsChainLeft (page left len : ℕ) (links more : List Link) : Type 0 where
  pub first : next_of more ≡ page
  pub count : length (content_of links) + left ≡ len + length (content_of more)

-- A step has made another chain of one, and beside it the same is held.
pub record ChainLeads (pages : Pages) (was now : Header) (links : List Link) (held : HeldBeside) (Comes : List Link → Type 0) : Type 0 where
  pub more : List Link
  pub next : HeldBeside
  pub holds : HoldsBeside pages now more next
  pub catalog : KeepsCatalog was now
  pub keeps : KeepsBeside links held more next
  pub comes : Comes more

-- Of a chain that is so the steps have made one that came of it so over the image, and beside it the same is held. The header's page may be older.
abbrev pub LinksStepTo : {D : Type 0} → Ghosts D → Records → Records → D → (List Link → Type 0) → (Image → List Link → List Link → Type 0) → Type 0
LinksStepTo d old new before Starts Comes = (was : Image) (links : List Link) (held : HeldBeside) → IsInStep d old.wal before was → HoldsBeside (current old.wal was) old.head links held → Starts links
    → ChainLeads (current new.wal was) old.head new.head links held (Comes was links)

-- ... whatever the image is
abbrev pub ChainStepsTo : {D : Type 0} → Ghosts D → Records → Records → D → (List Link → Type 0) → (List Link → List Link → Type 0) → Type 0
ChainStepsTo d old new before Starts Comes = LinksStepTo d old new before Starts (λ was. Comes)

-- Where a list is at the first page, it has this length, and the steps have made what is held without it of what is held behind the header.
abbrev pub FreesTo : {D : Type 0} → Ghosts D → Records → Records → D → (first len : ℕ) → Type 0
FreesTo d old new before first len = (was : Image) (held : Held) (list : List ℕ) → IsInStep d old.wal before was → HoldsBehind (current old.wal was) old.head held → held.lists first ≡ Some list
    → (length list ≡ len) × ((next : Held) × HoldsBehind (current new.wal was) new.head next × FreesList first held next)

-- Where the chain is so, this holds of it and of what the pages hold beside it.
abbrev pub BesideSo : {D : Type 0} → Ghosts D → Records → D → (List Link → Type 0) → (List Link → HeldBeside → Type 0) → Type 0
BesideSo d records disk Starts P = (was : Image) (links : List Link) (held : HeldBeside) → IsInStep d records.wal disk was → HoldsBeside (current records.wal was) records.head links held → Starts links → P links held

-- there are no pages with such a chain
abbrev pub Nowhere : List Link → HeldBeside → Type 0
Nowhere links held = ⊥

-- Why pages weren't put in front of a chain that is so. Where no page is free, this says how few were free.
abbrev pub NotLed : {D : Type 0} → Ghosts D → (List Link → Type 0) → (List Link → HeldBeside → Type 0) → ℕ → StoreError → Records → Records → D → D → Type 0
NotLed d Starts Few named error.Disk old new before after = Rose (d.faults before) (d.faults after) × EndNow old new
NotLed d Starts Few named (error.Damaged page) old new before after = (page ≡ named) × EndNow old new × BesideSo d old before Starts Nowhere
NotLed d Starts Few named error.Full old new before after = KeepsLog old new × (has_free new ≡ false) × BesideSo d old before Starts Few
NotLed d Starts Few named error.Memory old new before after = KeepsLog old new
NotLed d Starts Few named error.Ended old new before after = ⊥
NotLed d Starts Few named error.Exists old new before after = ⊥
NotLed d Starts Few named error.NotAStore old new before after = ⊥

-- Why pages of a chain that is so weren't given back. No page was wanting.
abbrev pub NotGivenBack : {D : Type 0} → Ghosts D → (List Link → Type 0) → ℕ → StoreError → Records → Records → D → D → Type 0
NotGivenBack d Starts named e old new before after = NotLed d Starts Nowhere named e old new before after × (e ≡ error.Full → ⊥)

-- the header with another catalog
abbrev pub with_catalog : (first len : ℕ) → Header → Header
with_catalog first len h = record h { catalog = first; catalog_length = len }

-- The chain page that had other content was put with this, and left alone where that is what it had.
abbrev pub SetsLink : (page next : ℕ) → (had content : List ℕ) → Records → Records → Type 0
SetsLink page next had content old new = ((content ≡ had) × (new ≡ old)) ⊎ ((content ≡ had → ⊥) × PutsPage page (chain_bytes next content) old new)

-- The page is one of the chain, and this content may stand there.
pub record MayChange (page : ℕ) (content : List ℕ) (links : List Link) : Type 0 where
  pub done : List Link
  pub rest : List Link
  pub are : links ≡ done ++ rest
  pub here : next_of rest ≡ page
  pub full : 2 ≤ length rest → length content ≡ page_room

-- A chain that begins at the page, of so many bytes on as many pages as they take.
pub record IsChainOf (first len : ℕ) (links : List Link) : Type 0 where
  pub begins : next_of links ≡ first
  pub long : length (content_of links) ≡ len
  pub count : length links ≡ chain_count len

-- The first pages of a chain have the bytes that stand there, the rest of them begins at the page, and so many bytes of the old ones are left.
pub record IsPassed (bytes : List ℕ) (index page left len : ℕ) (links more : List Link) : Type 0 where
  pub passed : List Link
  pub done : List Link
  pub rest : List Link
  pub were : links ≡ passed ++ rest
  pub now : more ≡ done ++ rest
  pub pages : pages_of_links done ≡ pages_of_links passed
  pub here : next_of rest ≡ page
  pub count : length passed ≡ index
  pub are : content_of done ++ drop (index * page_room) bytes ≡ bytes
  pub counted : length (content_of passed) + left ≡ len

-- ... and each page has other bytes than before and is one of those, or waits as it did.
pub record IsOver (old new : Records) (was : Image) (bytes : List ℕ) (index page left len : ℕ) (links more : List Link) : Type 0 where
  pub passed : IsPassed bytes index page left len links more
  pub waits : (p : ℕ) → (waiting new p ≡ waiting old p) ⊎ ((1 ≤ times p (pages_of_links passed.done)) × (current_pages new was p ≡ current_pages old was p → ⊥))

-- In the place of a chain of so many bytes stands one of these, which begins at the page. Where it takes as many pages, those alone were put whose bytes changed.
pub record IsRewritten (old new : Records) (was : Image) (first len : ℕ) (bytes : List ℕ) (links more : List Link) : Type 0 where
  pub begins : next_of more ≡ first
  pub are : content_of more ≡ bytes
  pub long : length (content_of links) ≡ len
  pub alone : chain_count len ≡ chain_count (length bytes) → PutsChangedAlone old new was
