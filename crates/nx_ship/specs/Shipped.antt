-- What a receiver stands for to which groups of a log are applied.
use Rattle.std.specs.Prelude.{◌≡◌, ℕ, zero, suc, ◌+◌, ◌^◌, ◌<◌, ◌≤◌, List, [], ◌∷◌, ◌++◌, None, IsSome}
use Rattle.std.specs.Option.{unwrap_or}
use Rattle.nx_numbers.specs.Sizes.{most_pages}
use Rattle.nx_host.specs.Disk.{Image}
use Rattle.nx_replay.specs.Log.{Pages, Entry, Group, IsWhole, groups, pages_of, replay, HasGroup, HasSame, IsDense, Stays}
use Rattle.nx_replay.specs.Laws.{over_all}

-- The second image stands for the groups' pages over those of the first.
abbrev pub Applies : List Group → Image → Image → Type 0
Applies gs was now = replay now ≡ over_all (replay was) gs

-- Nothing changes by none; a commit adds its group; a checkpoint adds none; one after the other adds both.
pub record AppliesInSteps : Type 0 where
  pub none : (i : Image) → Applies [] i i
  pub same : (was now : Image) → HasSame was now → Applies [] was now
  pub commit : (g : Group) (was now : Image) → HasGroup g was now → Applies (g ∷ []) was now
  pub checkpoint : (was now : Image) → IsDense (replay was) → Stays (replay was) (replay now) → Applies [] was now
  pub «then» : (gs hs : List Group) (a b c : Image) → Applies gs a b → Applies hs b c → Applies (gs ++ hs) a c

-- what the sender stood for when its log had these groups
abbrev pub sent_to : Image → List Group → Pages
sent_to sender gs = over_all (pages_of sender.pages) gs

-- Where the receiver stood for what the sender did before a group of its log, and the next groups are applied, it stands for what the sender did after them.
abbrev pub ComesAlong : Type 0
ComesAlong = (sender was now : Image) (before next later : List Group) → groups sender.log ≡ before ++ (next ++ later)
    → replay was ≡ sent_to sender before → Applies next was now → replay now ≡ sent_to sender (before ++ next)

-- ... and where these are the last ones, it stands for what the sender does.
abbrev pub CatchesUp : Type 0
CatchesUp = (sender was now : Image) (before next : List Group) → groups sender.log ≡ before ++ next
    → replay was ≡ sent_to sender before → Applies next was now → replay now ≡ replay sender

-- Where the sender's image grew by groups while the receiver's had them applied, equal images stay equal.
abbrev pub StaysAlong : Type 0
StaysAlong = (sender grown was now : Image) (next : List Group) → replay was ≡ replay sender
    → Applies next sender grown → Applies next was now → replay now ≡ replay grown

-- the bytes of a page, none where it isn't there
abbrev pub bytes_of : Pages → ℕ → List ℕ
bytes_of pages p = unwrap_or (pages p) []

-- so many pages from a number on, as the entries of a group
abbrev pub pages_from : Pages → ℕ → ℕ → List Entry
pages_from pages at zero = []
pages_from pages at (suc n) = record { page = at; bytes = bytes_of pages at } ∷ pages_from pages (at + 1) n

-- the group of all pages
abbrev pub all_pages_group : ℕ → Pages → ℕ → Group
all_pages_group number pages count = record { number = number; entries = pages_from pages 0 count }

-- The pages below this number are there, and no others.
pub record AreAllBelow (pages : Pages) (count : ℕ) : Type 0 where
  pub there : (p : ℕ) → p < count → IsSome (pages p)
  pub none_from : (p : ℕ) → count ≤ p → pages p ≡ None

-- Where the receiver had no page and the group of all pages of the sender is applied, it stands for what the sender does.
abbrev pub StartsAlong : Type 0
StartsAlong = (sender was now : Image) (number count : ℕ) → AreAllBelow (replay sender) count → ((p : ℕ) → replay was p ≡ None)
    → Applies (all_pages_group number (replay sender) count ∷ []) was now → replay now ≡ replay sender

-- A group of all pages can be written, where there are some and not too many.
abbrev pub IsAllWhole : Type 0
IsAllWhole = (sender : Image) (number count : ℕ) → AreAllBelow (replay sender) count → number < 2 ^ 64 → 1 ≤ count → count ≤ most_pages
    → IsWhole (all_pages_group number (replay sender) count)
