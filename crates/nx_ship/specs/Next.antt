-- Which group may come next to a store, by the pages that it stands for.
use Rattle.std.specs.Prelude.{◌≡◌, ◌⊎◌, ◌↔◌, ◌==◌, if◌then◌else◌, ℕ, ◌+◌, ◌<◌, List, [], ◌∷◌, Some, None, IsSome}
use Rattle.nx_replay.specs.Log.{Pages, Group, over, entry_pages, IsDense}
use Rattle.nx_holdings.specs.declared.header.Header.{Header}
use Rattle.nx_holdings.specs.Header.{IsHeader}

-- the number of the group behind one with this number
abbrev pub number_following : ℕ → ℕ
number_following number = if number == 18446744073709551615 then 0 else number + 1

-- page 0 is this header
pub record IsHeadedBy (pages : Pages) (header : Header) : Type 0 where
  pub bytes : List ℕ
  pub there : pages 0 ≡ Some bytes
  pub is : IsHeader bytes header

-- Page 0 is a header, which says that the last group has this number.
abbrev pub IsAtNumber : Pages → ℕ → Type 0
IsAtNumber pages number = (header : Header) × IsHeadedBy pages header × (header.number ≡ number)

-- no page is there
abbrev pub AreNone : Pages → Type 0
AreNone pages = (p : ℕ) → pages p ≡ None

-- groups may be applied to a store with these pages: it has a header, or no page
abbrev pub IsOpenFor : Pages → Type 0
IsOpenFor pages = ((last : ℕ) × IsAtNumber pages last) ⊎ AreNone pages

-- Its first page is a header, and the group holds exactly the pages from 0 on that there are by it.
abbrev pub IsBase : Group → Type 0
IsBase g = (header : Header) × IsHeadedBy (entry_pages g.entries) header × ((p : ℕ) → IsSome (entry_pages g.entries p) ↔ (p < header.pages))

-- The group may come to these pages: it has the number behind the last one; or there is no page, and it holds all pages of its own.
abbrev pub MayComeTo : Pages → Group → Type 0
MayComeTo pages g = ((last : ℕ) × IsAtNumber pages last × (g.number ≡ number_following last)) ⊎ (AreNone pages × IsBase g)

-- Each of the groups may come to the pages that those before it leave.
abbrev pub ComeInTurn : Pages → List Group → Type 0
ComeInTurn pages [] = Unit {0}
ComeInTurn pages (g ∷ gs) = MayComeTo pages g × ComeInTurn (over (entry_pages g.entries) pages) gs

-- No page is missing below the greatest, before the groups, between them and behind them.
abbrev pub StayDense : Pages → List Group → Type 0
StayDense pages [] = IsDense pages
StayDense pages (g ∷ gs) = IsDense pages × StayDense (over (entry_pages g.entries) pages) gs
