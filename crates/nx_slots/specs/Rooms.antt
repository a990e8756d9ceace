-- What room a slotted page has.
use Rattle.std.specs.Prelude.{◌≡◌, ℕ, ◌<◌, ◌≤◌, List}
use Rattle.nx_numbers.specs.Sizes.{page_size}
use Rattle.nx_slots.specs.Slots.{at_of, count_of, size_of, slots_of, IsSlotted}
use Rattle.nx_slots.specs.Edits.{first_empty, free_in}
use Rattle.nx_slots.specs.declared.room.Room.{Room}

-- the page is slotted, with so many slots, this first empty slot and so many free bytes, and no record lies in front of the start
pub record HasRoom (page : List ℕ) (room : Room) : Type 0 where
  pub slotted : IsSlotted page
  pub count : room.count ≡ count_of page
  pub slot : room.slot ≡ first_empty (slots_of page)
  pub free : room.free ≡ free_in (slots_of page)
  pub within : room.start ≤ page_size
  pub behind : (slot : ℕ) → slot < count_of page → 1 ≤ size_of page slot → room.start ≤ at_of page slot
