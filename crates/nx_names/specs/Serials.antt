-- Records by their serial numbers, and which of them hold a label.
use Rattle.std.specs.Prelude.{◌≡◌, ℕ, ◌+◌, ◌*◌, ◌<◌, ◌==◌, ◌&&◌, Bool, List, [], ◌∷◌, length, get_or, Option, Vec}
use Rattle.std.specs.Global.{Global}
use Rattle.std.specs.List.{list_any, slice_get, AllAdjacentBelow}
use Rattle.std.specs.Option.{option_map_or}
use Rattle.std.specs.Ordering.{nat_cmp}
use Rattle.std.specs.Cmp.Lexicographic.{slice_cmp}
use Rattle.std.specs.BTreeMap.{BTreeMap, get_by}
use Rattle.nx_layouts.specs.Layout.{RecordPlace}
use Rattle.nx_names.specs.declared.noted.Noted.{Noted}
use Rattle.nx_names.specs.declared.serials.Serials.{Serials}

-- a number is in the list
abbrev pub is_in : List ℕ → ℕ → Bool
is_in xs x = list_any (λ y. y == x) xs

-- labels with their own numbers
abbrev pub LabelNumbers : Type 0
LabelNumbers = BTreeMap (Vec ℕ Global) ℕ

abbrev pub label_number : LabelNumbers → List ℕ → Option ℕ
label_number numbers name = get_by (λ key. slice_cmp nat_cmp name key.items) numbers

-- the list of a number, or nothing
abbrev pub numbered_list : List (Vec ℕ Global) → ℕ → List ℕ
numbered_list lists number = option_map_or (λ list. list.items) (slice_get lists number) []

-- what stands at a label, or nothing
abbrev pub serials_at : Serials → List ℕ → List ℕ
serials_at serials name = option_map_or (numbered_list serials.lists.items) (label_number serials.numbers name) []

-- the record stands at this place
abbrev pub is_noted_at : RecordPlace → Noted → Bool
is_noted_at place noted = noted.page == place.page && noted.slot == place.slot

-- a record stands at this place whose number passes the test
abbrev pub has_noted : List Noted → RecordPlace → (ℕ → Bool) → Bool
has_noted records place test = list_any (λ noted. is_noted_at place noted && test noted.serial) records

-- these places, numbered from n on
abbrev pub noted_from : ℕ → List RecordPlace → List Noted
noted_from n [] = []
noted_from n (place ∷ places) = record { page = place.page; serial = n; slot = place.slot } ∷ noted_from (n + 1) places

-- by this number records stand in the order of their pages, and on a page of their slots
abbrev pub noted_key : Noted → ℕ
noted_key noted = noted.page * 65536 + noted.slot

-- each stands before the next one
abbrev pub PlacesRise : List Noted → Type 0
PlacesRise records = AllAdjacentBelow (λ a b. noted_key a < noted_key b) records (length records)

-- these records have the numbers from n on, in order
abbrev pub AreNumbered : ℕ → List Noted → Type 0
AreNumbered n records = (k : ℕ) (d : Noted) → k < length records → (get_or records k d).serial ≡ n + k

-- their slots are those of pages
abbrev pub HaveSmallSlots : List Noted → Type 0
HaveSmallSlots records = (k : ℕ) (d : Noted) → k < length records → (get_or records k d).slot < 65536

-- the records of these numbers
abbrev pub those_noted : List Noted → List ℕ → List Noted
those_noted records [] = []
those_noted records (serial ∷ serials) = get_or records serial (record { page = 0; serial = 0; slot = 0 }) ∷ those_noted records serials
