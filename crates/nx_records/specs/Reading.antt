-- Reading byte lists page by page.
use Rattle.std.specs.Prelude.{◌≡◌, ◌≢◌, ℕ, ◌+◌, ◌≤◌, false, List, ◌++◌, length}
use Rattle.nx_numbers.specs.Sizes.{page_room}
use Rattle.nx_host.specs.Disk.{Image, Rose}
use Rattle.nx_host.specs.declared.disk.Disk.{Ghosts}
use Rattle.nx_replay.specs.Log.{Pages}
use Rattle.nx_holdings.specs.declared.header.Header.{Header}
use Rattle.nx_links.specs.Lists.{IsListStep, IsReadTo}
use Rattle.nx_records.specs.Records.{has_ended, page_count_of, current_pages, IsInStepWith, LeavesRecords}
use Rattle.nx_records.specs.Changes.{HasListFrom}
use Rattle.nx_records.specs.Refusals.{EndNow, HadEnded}
use Rattle.nx_records.specs.declared.records.Records.{Records}
use Rattle.nx_records.specs.declared.reading.ListReader.{ListReader}
use Rattle.nx_records.specs.declared.error.StoreError.{StoreError}
use Rattle.nx_records.specs.declared.error.StoreError.TheVariants as error

-- nothing was read yet of a list of this length at the first page
pub record Opens (reader : ListReader) (first len : ℕ) : Type 0 where
  pub here : reader.first ≡ first
  pub next : reader.next ≡ first
  pub left : reader.left ≡ len

-- The bytes stand on one chain page, which is full where bytes are left behind them.
pub record IsBlock (was now : ListReader) (block : List ℕ) : Type 0 where
  pub some : 1 ≤ length block
  pub few : length block ≤ page_room
  pub full : now.left ≢ 0 → length block ≡ page_room
  pub left : length block + now.left ≡ was.left
  pub first : now.first ≡ was.first

-- The bytes on the next page of a chain, as the records see it, were put behind others.
pub record AppendsBlock {D : Type 0} (d : Ghosts D) (records : Records) (disk : D) (was now : ListReader) (before after : List ℕ) : Type 0 where
  pub block : List ℕ
  pub appended : after ≡ before ++ block
  pub is : IsBlock was now block
  pub step : (image : Image) → IsInStepWith d records disk image → IsListStep (page_count_of records) (current_pages records image) was.next now.next block

-- These bytes were read of a list of this length, which isn't the catalog: they are its first, and what is left of it stands from the reader's page on.
pub record AreReadBy (head : Header) (pages : Pages) (reader : ListReader) (len : ℕ) (bytes : List ℕ) : Type 0 where
  pub begins : (len ≢ 0) × (reader.first ≢ head.catalog)
  pub to : IsReadTo head.pages pages reader.first bytes reader.next
  pub left : length bytes + reader.left ≡ len

-- Why a list wasn't read on. Where the page is damaged, no chain pages from the reader's page on hold what is left.
abbrev pub NotReadOn : {D : Type 0} → Ghosts D → ListReader → StoreError → Records → Records → D → D → Type 0
NotReadOn d reader error.Disk old new before after = Rose (d.faults before) (d.faults after) × EndNow old new
NotReadOn d reader (error.Damaged page) old new before after = (page ≡ reader.first) × EndNow old new
    × ((was : Image) → IsInStepWith d old before was → HasListFrom (page_count_of old) (current_pages old was) reader.next reader.left → ⊥)
NotReadOn d reader error.Ended old new before after = HadEnded old new before after
NotReadOn d reader error.Memory old new before after = (has_ended old ≡ false) × LeavesRecords old new
NotReadOn d reader error.Exists old new before after = ⊥
NotReadOn d reader error.NotAStore old new before after = ⊥
NotReadOn d reader error.Full old new before after = ⊥
