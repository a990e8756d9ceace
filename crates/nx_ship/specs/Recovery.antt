-- What the images of a sender and of a receiver recover to.
use Rattle.std.specs.Prelude.{◌≡◌, ℕ, List, [], ◌∷◌, ◌++◌, Option, Some, None}
use Rattle.nx_host.specs.Disk.{Image}
use Rattle.nx_replay.specs.Log.{Pages, Group, groups, replay, IsDense, HasMark}
use Rattle.nx_replay.specs.Laws.{over_all}
use Rattle.nx_holdings.specs.declared.header.Header.{Header}
use Rattle.nx_state.specs.State.{State}
use Rattle.nx_state.specs.Stands.{Recovers, Stands}
use Rattle.nx_ship.specs.Shipped.{Applies, sent_to, all_pages_group, AreAllBelow}
use Rattle.nx_ship.specs.Next.{IsHeadedBy, IsOpenFor, StayDense}
use Rattle.nx_ship.specs.Sending.{IsMissing, HasWrongHeader}
use Rattle.nx_ship.specs.Lost.{IsFirstLacked}

-- Where the receiver stood for what the sender did before a group of its log, and the next groups are applied, it recovers to whatever the sender did when its log had these groups, and not yet the later ones.
abbrev pub RecoversAlong : Type 0
RecoversAlong = (sender earlier was now : Image) (before next later : List Group) → groups sender.log ≡ before ++ (next ++ later) → earlier.pages ≡ sender.pages → groups earlier.log ≡ before ++ next
    → replay was ≡ sent_to sender before → Applies next was now → (state : Option State) → Recovers earlier state → Recovers now state

-- ... and where all groups from that one on are applied, to whatever the sender recovers to.
abbrev pub RecoversAfter : Type 0
RecoversAfter = (sender was now : Image) (before next : List Group) → groups sender.log ≡ before ++ next → replay was ≡ sent_to sender before → Applies next was now
    → (state : Option State) → Recovers sender state → Recovers now state

-- So it does where it had no page, and all pages of the sender were applied as one group.
abbrev pub RecoversWhole : Type 0
RecoversWhole = (sender was now : Image) (number count : ℕ) → AreAllBelow (replay sender) count → ((p : ℕ) → replay was p ≡ None)
    → Applies (all_pages_group number (replay sender) count ∷ []) was now → (state : Option State) → Recovers sender state → Recovers now state

-- Pages with a header begin as a store does. An image that recovers to a state has a header, and exactly the pages that it says; so it isn't refused as damaged.
pub record StatesAreWhole : Type 0 where
  pub headed : (pages : Pages) (header : Header) → IsHeadedBy pages header → HasMark pages
  pub open_for : (image : Image) (state : Option State) → Recovers image state → IsOpenFor (replay image)
  pub mark : (image : Image) (state : State) → Recovers image (Some state) → HasMark (replay image)
  pub header : (image : Image) (state : State) (page : ℕ) → Recovers image (Some state) → HasWrongHeader (replay image) page → ⊥
  pub lost : (image : Image) (state : State) (page : ℕ) → Recovers image (Some state) → IsFirstLacked page image → ⊥
  pub all : (image : Image) (state : State) (header : Header) → Recovers image (Some state) → IsHeadedBy (replay image) header → AreAllBelow (replay image) header.pages
  pub page : (image : Image) (state : State) (header : Header) (page : ℕ) → Recovers image (Some state) → IsHeadedBy (replay image) header → IsMissing (replay image) header page → ⊥
  pub dense : (image : Image) (state : Option State) → Recovers image state → IsDense (replay image)

-- Where no page was there or a state stood, and the pages behind each of the groups stand for a state, none is ever missing below the greatest.
abbrev pub StatesStayDense : Type 0
StatesStayDense = (start : Pages) (gs : List Group) → IsDense start → ((before : List Group) (g : Group) (behind : List Group) → gs ≡ before ++ g ∷ behind → (state : State) × Stands (over_all start (before ++ g ∷ [])) state)
    → StayDense start gs
