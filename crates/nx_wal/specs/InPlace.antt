-- A record that is put into a page that waits, or taken out of it, in place.
use Rattle.std.specs.Prelude.{◌≡◌, ℕ, ◌≤◌, List, Some}
use Rattle.std.specs.BTreeMap.{BTreeMap, get, keys, btree_map_len, Updates}
use Rattle.std.specs.Ordering.{nat_cmp}
use Rattle.nx_slots.specs.declared.room.Room.{Room}
use Rattle.nx_slots.specs.Edits.{free_in, needed_for, without_record, IsOneOfSeveral, IsPut}
use Rattle.nx_slots.specs.Rooms.{HasRoom}
use Rattle.nx_slots.specs.Slots.{slots_of, IsSlotted}
use Rattle.nx_wal.specs.Places.{Kept}

-- A record went into a slot of a slotted page.
pub record PutsInto (was : List ℕ) (bytes : List ℕ) (slot : ℕ) (now : List ℕ) : Type 0 where
  pub slotted_before : IsSlotted was
  pub slotted : IsSlotted now
  pub put : IsPut (slots_of was) bytes slot (slots_of now)

-- A record went out of a slot of a slotted page, which has another one.
pub record TakesOut (was : List ℕ) (slot : ℕ) (now : List ℕ) : Type 0 where
  pub slotted_before : IsSlotted was
  pub slotted : IsSlotted now
  pub several : IsOneOfSeveral (slots_of was) slot
  pub clear : slots_of now ≡ without_record (slots_of was) slot

-- A page with this room waits, which takes these bytes.
pub record WaitsWith (pages : BTreeMap ℕ Kept) (page : ℕ) (room : Room) (bytes : List ℕ) : Type 0 where
  pub kept : Kept
  pub there : get nat_cmp pages page ≡ Some kept
  pub has : HasRoom kept.value.bytes room
  pub fits : needed_for (slots_of kept.value.bytes) bytes ≤ free_in (slots_of kept.value.bytes)

-- A slotted page waits, with a record in a slot and another one besides.
pub record WaitsBeside (pages : BTreeMap ℕ Kept) (page slot : ℕ) : Type 0 where
  pub kept : Kept
  pub there : get nat_cmp pages page ≡ Some kept
  pub slotted : IsSlotted kept.value.bytes
  pub several : IsOneOfSeveral (slots_of kept.value.bytes) slot

-- Of the pages that wait this one alone changed, and its bytes so.
pub record ChangesOnePage (old new : BTreeMap ℕ Kept) (page : ℕ) (Changes : List ℕ → List ℕ → Type 0) : Type 0 where
  pub was : Kept
  pub now : Kept
  pub there : get nat_cmp old page ≡ Some was
  pub changes : Changes was.value.bytes now.value.bytes
  pub updates : Updates nat_cmp old new page (Some now)
  pub keys_stay : keys new ≡ keys old
  pub count : btree_map_len new ≡ btree_map_len old
