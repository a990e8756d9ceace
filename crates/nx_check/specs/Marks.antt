-- What the marks of a walk say, where these pages are free, lists use these, and these records were reached.
use Rattle.std.specs.Prelude.{◌≡◌, ◌≢◌, ◌⊎◌, ℕ, ◌+◌, ◌*◌, ◌<◌, ◌≤◌, ◌==◌, ◌&&◌, ◌||◌, Bool, not, false, List, [], ◌∷◌, length, Some, is_some, IsSome, Contains}
use Rattle.nx_slots.specs.Slots.{count_of, slots_of}
use Rattle.nx_replay.specs.Log.{Pages}
use Rattle.nx_holdings.specs.Holdings.{times, record_in, Link}
use Rattle.nx_layouts.specs.Layout.{RecordPlace}
use Rattle.nx_rules.specs.Listed.{IsSlottedPage, IsFreePageAt, IsLinkTo}
use Rattle.nx_check.specs.declared.left.Left.{Left}
use Rattle.nx_check.specs.declared.uses.PageUse.{PageUse}
use Rattle.nx_check.specs.declared.uses.PageUse.TheVariants.{Unseen, Free, Chain, Slotted}
use Rattle.nx_check.specs.declared.uses.Uses.{Uses}
use Rattle.nx_check.specs.Words.{is_bit_set, words_for}
use Rattle.nx_check.specs.Uses.{use_of}

-- whether the record of a slot of a page is among these
abbrev pub is_reached : (page slot : ℕ) → List RecordPlace → Bool
is_reached page slot [] = false
is_reached page slot (place ∷ places) = (place.page == page && place.slot == slot) || is_reached page slot places

-- The words from the first on are this page's, as many as its slots need.
pub record HasWords (owner : ℕ → ℕ) (left : Left) (page first count : ℕ) : Type 0 where
  pub within : first + words_for count ≤ length left.words.items
  pub own : (i : ℕ) → first ≤ i → i < first + words_for count → owner i ≡ page

-- The page is slotted, in no list, has a record, and a mark for each record that wasn't reached.
pub record MarksSlotted (left : Left) (pages : Pages) (free used : List ℕ) (reached : List RecordPlace) (page first count : ℕ) : Type 0 where
  pub in_none : (times page free ≡ 0) × (times page used ≡ 0)
  pub bytes : List ℕ
  pub slotted : IsSlottedPage pages page bytes
  pub some : slots_of bytes ≢ []
  pub counted : count ≡ count_of bytes
  pub each : (slot : ℕ) → slot < count → is_bit_set left.words.items (8 * first + slot) ≡ (is_some (record_in (Some bytes) slot) && not (is_reached page slot reached))

-- the page has this use
abbrev pub IsUsedSo : Left → Pages → (free used : List ℕ) → List RecordPlace → ℕ → PageUse → Type 0
IsUsedSo left pages free used reached page Unseen = (times page free ≡ 0) × (times page used ≡ 0) × ((slot : ℕ) → is_reached page slot reached ≡ false)
IsUsedSo left pages free used reached page Free = (1 ≤ times page free) × ((next : ℕ) × IsFreePageAt pages page next)
IsUsedSo left pages free used reached page Chain = (1 ≤ times page used) × ((link : Link) × (next : ℕ) × IsLinkTo pages link next × (link.page ≡ page))
IsUsedSo left pages free used reached page (Slotted count first) = MarksSlotted left pages free used reached page first count

-- Each page has the use that its mark says, and no two pages share a word.
pub record AreMarked (uses : Uses) (left : Left) (pages : Pages) (free used : List ℕ) (reached : List RecordPlace) : Type 0 where
  pub owner : ℕ → ℕ
  pub words : (page first count : ℕ) → use_of uses page ≡ Slotted count first → HasWords owner left page first count
  pub each : (page : ℕ) → IsUsedSo left pages free used reached page (use_of uses page)

-- The page is a free page, a chain page that a list uses, or a slotted page with records, all of which were reached.
abbrev pub HasUse : Pages → (free used : List ℕ) → List RecordPlace → ℕ → Type 0
HasUse pages free used reached page =
    (1 ≤ times page free) ⊎ (1 ≤ times page used)
    ⊎ ((bytes : List ℕ) × IsSlottedPage pages page bytes × (slots_of bytes ≢ []) × ((slot : ℕ) → IsSome (record_in (Some bytes) slot) → Contains reached (record { page = page; slot = slot })))
