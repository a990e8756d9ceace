-- What stands at a moment while groups are applied, by how many lines are out whole; and that a stream of groups in turn is refused nowhere.
use Rattle.std.specs.Prelude.{◌≡◌, ◌⊎◌, ℕ, ◌<◌, List, [], ◌∷◌, ◌++◌, length, Some}
use Rattle.nx_host.specs.Disk.{Image}
use Rattle.nx_replay.specs.Log.{Pages, Group, replay}
use Rattle.nx_replay.specs.Laws.{over_all}
use Rattle.nx_ship.specs.Stream.{Begins, IsStream}
use Rattle.nx_ship.specs.Next.{ComeInTurn}
use Rattle.nx_ship.specs.Applying.{applied_line, applied_text, IsAppliedBy, IsOutOfTurn, IsNoBase, IsNoGroup}

-- less than the line of the next of these groups
abbrev pub IsShortOf : List ℕ → List Group → Type 0
IsShortOf part [] = part ≡ []
IsShortOf part (g ∷ gs) = length part < length (applied_line g)

-- The lines of the first of these groups are out whole, and less than the next line; and the image stands for the pages with these first groups laid over, or with one more.
pub record IsAppliedMoment (start : Pages) (gs : List Group) (out : List ℕ) (image : Image) : Type 0 where
  pub before : List Group
  pub after : List Group
  pub split : gs ≡ before ++ after
  pub part : List ℕ
  pub is : out ≡ applied_text before ++ part
  pub short : IsShortOf part after
  pub stands : (replay image ≡ over_all start before) ⊎ ((g : Group) × (behind : List Group) × (after ≡ g ∷ behind) × (replay image ≡ over_all start (before ++ g ∷ [])))

abbrev pub EveryAppliedMoment : Type 0
EveryAppliedMoment = (start : Pages) (gs : List Group) (out : List ℕ) (image : Image) → IsAppliedBy start gs out image → IsAppliedMoment start gs out image

-- Where all of an input says groups that come in turn, and these of them were applied, nothing behind them is refused.
pub record RefusesNothing (start : Pages) (groups : List Group) (rest left : List ℕ) : Type 0 where
  pub turn : (number last : ℕ) → IsOutOfTurn (over_all start groups) rest number last → ⊥
  pub base : (number : ℕ) → IsNoBase (over_all start groups) rest number → ⊥
  pub stream : (offset : ℕ) → IsNoGroup groups rest offset (Some left) → ⊥

abbrev pub GroupsInTurnPass : Type 0
GroupsInTurnPass = (start : Pages) (taken left : List ℕ) (all groups : List Group) (rest : List ℕ) → IsStream (taken ++ left) all [] → ComeInTurn start all → Begins groups taken rest → RefusesNothing start groups rest left
