-- Where a new record finds room.
use Rattle.std.specs.Prelude.{◌≡◌, ◌≢◌, ◌⊎◌, ℕ, ◌≤◌, true, List, Some}
use Rattle.nx_slots.specs.Slots.{IsSlotted, slots_of}
use Rattle.nx_slots.specs.Edits.{free_in, needed_for}
use Rattle.nx_replay.specs.Log.{Pages}
use Rattle.nx_holdings.specs.declared.header.Header.{Header}
use Rattle.nx_records.specs.Records.{has_free, page_count_of}
use Rattle.nx_records.specs.declared.records.Records.{Records}

-- The header names a room page, which is slotted and has room for a record of these bytes.
pub record FitsRoom (pages : Pages) (head : Header) (bytes : List ℕ) : Type 0 where
  pub some : head.room ≢ 0
  pub page : List ℕ
  pub there : pages head.room ≡ Some page
  pub slotted : IsSlotted page
  pub fits : needed_for (slots_of page) bytes ≤ free_in (slots_of page)

-- a record of these bytes fits on the room page, or a page is free
abbrev pub HasRoomFor : Records → Pages → List ℕ → Type 0
HasRoomFor records pages bytes = FitsRoom pages records.head bytes ⊎ (has_free records ≡ true)

-- no page was taken and none given back: the free list begins where it began, and no page more was used
abbrev pub TakesNoPage : Records → Records → Type 0
TakesNoPage old new = ((new.head).free ≡ (old.head).free) × (page_count_of new ≡ page_count_of old)
