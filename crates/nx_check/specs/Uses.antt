-- What the marks of a walk say of pages.
use Rattle.std.specs.Prelude.{◌≡◌, ℕ, zero, suc, ◌+◌, nat_lt, if◌then◌else◌, List, length, get_or}
use Rattle.std.specs.Option.{option_map_or}
use Rattle.std.specs.Ordering.{nat_cmp}
use Rattle.std.specs.BTreeMap.{get}
use Rattle.nx_holdings.specs.Holdings.{times}
use Rattle.nx_check.specs.declared.uses.PageUse.{PageUse}
use Rattle.nx_check.specs.declared.uses.PageUse.TheVariants.{Unseen, Free}
use Rattle.nx_check.specs.declared.uses.Uses.{Uses}

-- what a page is used for
abbrev pub use_of : Uses → ℕ → PageUse
use_of uses p = if nat_lt p (length uses.area.items) then get_or uses.area.items p Unseen else option_map_or (λ u. u) (get nat_cmp uses.beyond p) Unseen

abbrev pub count_unseen : PageUse → ℕ
count_unseen Unseen = 1
count_unseen _ = 0

-- so many pages below a number have not been seen
abbrev pub unseen_in : Uses → ℕ → ℕ
unseen_in uses zero = 0
unseen_in uses (suc n) = count_unseen (use_of uses n) + unseen_in uses n

-- what a page is used for that comes so often in the free list
abbrev pub free_use : ℕ → PageUse
free_use zero = Unseen
free_use (suc n) = Free

-- these pages are free, and no other page was seen
abbrev pub MarksFree : Uses → List ℕ → Type 0
MarksFree uses free = (p : ℕ) → use_of uses p ≡ free_use (times p free)
