-- Where the pages of a log stand.
use Rattle.std.specs.Prelude.{ℕ, ◌+◌, ◌≡◌, ◌<◌, ◌≤◌, List, [], ◌∷◌, length, take, drop, Option, Some, None, IsSome, Box}
use Rattle.std.specs.Option.{option_or}
use Rattle.std.specs.BTreeMap.{BTreeMap, get}
use Rattle.std.specs.Ordering.{nat_cmp}
use Rattle.std.specs.declared.alloc.Global.{Global}
use Rattle.nx_numbers.specs.Sizes.{page_size, most_pages}
use Rattle.nx_slots.specs.declared.page.PageBytes.{PageBytes}
use Rattle.nx_replay.specs.Log.{Entry, Group, group_size, entry_pages, logged}

-- where the log has a page, or none where it is only pending
abbrev pub Places : Type 0
Places = BTreeMap ℕ (Option ℕ)

-- the page that stands there
abbrev pub page_at_place : Option (Option ℕ) → List ℕ → Option (List ℕ)
page_at_place (Some (Some at)) log = Some (take page_size (drop at log))
page_at_place (Some None) log = None
page_at_place None log = None

-- The places lead to the pages of these groups.
abbrev pub LeadsTo : List Group → Places → List ℕ → Type 0
LeadsTo gs places log = (p : ℕ) → logged gs p ≡ page_at_place (get nat_cmp places p) log

-- where groups begin, the first at an offset
abbrev pub starts_from : ℕ → List Group → List ℕ
starts_from at [] = []
starts_from at (g ∷ gs) = at ∷ starts_from (at + group_size (length g.entries)) gs

-- These pages of a group were noted.
abbrev pub Notes : List Entry → List ℕ → Places → Places → Type 0
Notes es log old new = (p : ℕ) → page_at_place (get nat_cmp new p) log ≡ option_or (entry_pages es p) (page_at_place (get nat_cmp old p) log)

-- Each place has a page's bytes below the limit.
abbrev pub AreWithin : ℕ → Places → Type 0
AreWithin limit places = (p at : ℕ) → get nat_cmp places p ≡ Some (Some at) → at + page_size ≤ limit

-- A page with this number may wait for a commit: its place has an entry already, so that the commit takes no memory.
abbrev pub MayWait : Places → ℕ → Type 0
MayWait places page = (page < most_pages) × IsSome (get nat_cmp places page)

-- a page in room of its own
abbrev pub Kept : Type 0
Kept = Box PageBytes Global

-- all bytes of a page are there
abbrev pub IsWholePage : Kept → Type 0
IsWholePage kept = length kept.value.bytes ≡ page_size
