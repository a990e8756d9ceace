-- What `apply` does: it takes a stream of groups and commits each to a store.
use Rattle.std.specs.Prelude.{◌≡◌, ◌≢◌, ◌⊎◌, ℕ, ◌+◌, ◌<◌, ◌≤◌, nat_lt, if◌then◌else◌, List, [], ◌∷◌, ◌++◌, length, take, Option, IfSome, IsSome, Result, Ok, Err, codes, decimal}
use Rattle.nx_host.specs.declared.disk.Disk.{Ghosts}
use Rattle.nx_host.specs.Disk.{Image, Rose}
use Rattle.nx_host.specs.Host.{Takes, IsAtEnd, Appends}
use Rattle.nx_host.specs.Input.{most_input}
use Rattle.nx_host.specs.Time.{Stood, Elapses}
use Rattle.nx_host.specs.Still.{IsStill, IsSettled}
use Rattle.nx_replay.specs.Log.{Pages, Group, groups, end_of, over, entry_pages, replay, HasMark}
use Rattle.nx_replay.specs.Laws.{over_all}
use Rattle.nx_ship.specs.Stream.{group_in, IsGood, IsPartOfGroup, Begins, stream_length}
use Rattle.nx_ship.specs.Next.{number_following, IsAtNumber, AreNone, IsOpenFor, IsBase, ComeInTurn, StayDense}
use Rattle.nx_ship.specs.Lost.{LacksNone, ShowsNoState}
use Rattle.nx_ship.specs.declared.error.ShipError.{ShipError}
use Rattle.nx_ship.specs.declared.error.ShipError.TheVariants as error

-- the line for a group with this number that is in, the line for a group, and the lines for several
abbrev pub line_for : ℕ → List ℕ
line_for number = codes "ok " ++ decimal number ++ codes "\n"

abbrev pub applied_line : Group → List ℕ
applied_line g = line_for g.number

abbrev pub applied_text : List Group → List ℕ
applied_text [] = []
applied_text (g ∷ gs) = applied_line g ++ applied_text gs

-- What is out, and an image, at a moment while groups are applied to pages: nothing is out, and the image stands for these pages; or it stands for the first group's pages over them,
-- and a first part of its line is out; or its line is out whole, and the rest is so of the groups behind it.
abbrev pub IsAppliedBy : Pages → List Group → List ℕ → Image → Type 0
IsAppliedBy pages [] out image = (out ≡ []) × (replay image ≡ pages)
IsAppliedBy pages (g ∷ gs) out image =
    ((out ≡ []) × (replay image ≡ pages))
    ⊎ ((n : ℕ) × (out ≡ take n (applied_line g)) × (replay image ≡ over (entry_pages g.entries) pages))
    ⊎ ((more : List ℕ) × (out ≡ applied_line g ++ more) × IsAppliedBy (over (entry_pages g.entries) pages) gs more image)

-- a moment of a run, as far as the output is told
abbrev pub ShowsApplied : Option (List ℕ) → Pages → List Group → Stood → Type 0
ShowsApplied output pages gs s = (out : List ℕ) × IsAppliedBy pages gs out s.image × Appends out output s.output

-- the length of a log, in bytes, above which it is emptied before a group comes to it
abbrev pub most_log : ℕ
most_log = 67108864

abbrev pub groups_in : Image → List Group
groups_in image = groups image.log

-- what a log of these groups has before another one comes to it
abbrev pub log_before : List Group → List Group
log_before log = if nat_lt most_log (end_of log) then [] else log

-- the groups of a log that had the first ones, and to which the others came, each by one commit
abbrev pub log_after : List Group → List Group → List Group
log_after log [] = log
log_after log (g ∷ gs) = log_after (log_before log ++ g ∷ []) gs

-- The image's log had the first ones, and the others came to it, each by one commit; and it may have been emptied for one more.
abbrev pub HasLogged : List Group → List Group → Image → Type 0
HasLogged log gs image = (groups_in image ≡ log_after log gs) ⊎ (groups_in image ≡ log_before (log_after log gs))

-- All of the groups are in, and their lines are out.
pub record AreIn {D : Type 0} (d : Ghosts D) (start : Pages) (groups : List Group) (old new : D) : Type 0 where
  pub out : Appends (applied_text groups) (d.beside old).output (d.beside new).output
  pub image : Image
  pub settled : IsSettled d new image
  pub is : replay image ≡ over_all start groups
  pub logged : (was : Image) → IsSettled d old was → HasLogged (groups_in was) groups image

-- Behind the groups stands a good one, which has this number, while the last one has that number; and it isn't the next.
pub record IsOutOfTurn (pages : Pages) (rest : List ℕ) (number last : ℕ) : Type 0 where
  pub good : IsGood rest
  pub is : number ≡ (group_in rest).number
  pub at : IsAtNumber pages last
  pub not_next : number ≢ number_following last

-- Behind the groups stands a good one with this number. There is no page, and it doesn't hold all pages of its own.
pub record IsNoBase (pages : Pages) (rest : List ℕ) (number : ℕ) : Type 0 where
  pub good : IsGood rest
  pub is : number ≡ (group_in rest).number
  pub none : AreNone pages
  pub no_base : IsBase (group_in rest) → ⊥

-- Behind the groups, from this offset on, some bytes stand, and no good group, whatever comes of the input that is left; or whatever else came, where no more bytes are taken.
pub record IsNoGroup (groups : List Group) (rest : List ℕ) (offset : ℕ) (left : Option (List ℕ)) : Type 0 where
  pub is : offset ≡ stream_length groups
  pub some : 0 < length rest
  pub none : IfSome left (λ more. IsGood (rest ++ more) → ⊥)
  pub certain : (offset + length rest < most_input) ⊎ ((more : List ℕ) → IsGood (rest ++ more) → ⊥)

-- how a run ends that took these bytes, which begin with these groups, and with this rest behind them, and that left this input: nothing is behind them, and the input has ended; or what is
-- there isn't good or isn't the next; or it is a part of a group; or the run was cut short
abbrev pub EndsApplying : Pages → List ℕ → List Group → List ℕ → Option (List ℕ) → Result (Unit {0}) ShipError → Type 0
EndsApplying start taken groups rest left (Ok _) = (rest ≡ []) × IsAtEnd left × (length taken < most_input)
EndsApplying start taken groups rest left (Err (error.Repeat number last)) = IsOutOfTurn (over_all start groups) rest number last × (number ≤ last)
EndsApplying start taken groups rest left (Err (error.Gap number last)) = IsOutOfTurn (over_all start groups) rest number last × (last < number)
EndsApplying start taken groups rest left (Err (error.Base number)) = IsNoBase (over_all start groups) rest number
EndsApplying start taken groups rest left (Err (error.Stream offset)) = IsNoGroup groups rest offset left
EndsApplying start taken groups rest left (Err error.Read) = IsPartOfGroup rest × (length taken < most_input)
EndsApplying start taken groups rest left (Err error.TooMuch) = IsPartOfGroup rest × (length taken ≡ most_input)
EndsApplying start taken groups rest left (Err error.Disk) = Unit {0}
EndsApplying start taken groups rest left (Err error.Write) = Unit {0}
EndsApplying start taken groups rest left (Err error.Memory) = Unit {0}
EndsApplying start taken groups rest left (Err error.NotAStore) = ⊥
EndsApplying start taken groups rest left (Err (error.Damaged page)) = ⊥
EndsApplying start taken groups rest left (Err (error.NoGroup from last)) = ⊥

-- so it is, unless the run was cut short by the disk or the output, or for want of memory
abbrev pub UnlessCut : Result (Unit {0}) ShipError → Type 0 → Type 0
UnlessCut (Err error.Disk) Said = Unit {0}
UnlessCut (Err error.Write) Said = Unit {0}
UnlessCut (Err error.Memory) Said = Unit {0}
UnlessCut _ Said = Said

-- At every moment what is out, and each image, is so as while the groups are applied to these pages; and at the end they are all in.
pub record ShowsEnd {D : Type 0} (d : Ghosts D) (start : Pages) (groups : List Group) (result : Result (Unit {0}) ShipError) (old new : D) : Type 0 where
  pub time : Elapses d.moment d.stood_since old new (ShowsApplied (d.beside old).output start groups)
  pub all_in : UnlessCut result (AreIn d start groups old new)

-- From these pages on the groups were applied, each the next one, with which the bytes begin that were taken; and why no others were. What is said of images and of what is out holds where
-- the groups, laid over the pages in order, never leave a page missing below the greatest.
pub record AppliesTo {D : Type 0} (d : Ghosts D) (start : Pages) (taken : List ℕ) (result : Result (Unit {0}) ShipError) (old new : D) : Type 0 where
  pub groups : List Group
  pub rest : List ℕ
  pub begins : Begins groups taken rest
  pub in_turn : ComeInTurn start groups
  pub why : EndsApplying start taken groups rest (d.beside new).input result
  pub shows : StayDense start groups → IsSome (d.contents new) → ShowsEnd d start groups result old new

-- The store has a header and lost no page, or there is no page; and groups were applied to it.
pub record AppliesFrom {D : Type 0} (d : Ghosts D) (was : Image) (result : Result (Unit {0}) ShipError) (old new : D) : Type 0 where
  pub opened : IsOpenFor (replay was)
  pub whole : LacksNone was
  pub taken : List ℕ
  pub takes : Takes taken (d.beside old).input (d.beside new).input
  pub few : length taken ≤ most_input
  pub applies : AppliesTo d (replay was) taken result old new

-- why nothing was taken: there are pages, and no header; or page 0, which begins as one, is none, or pages are lost; or a call of the disk failed, or there was no memory
abbrev pub IsUnapplied : Image → Result (Unit {0}) ShipError → Type 0
IsUnapplied was (Err error.NotAStore) = (HasMark (replay was) → ⊥) × ((p : ℕ) × IsSome (replay was p))
IsUnapplied was (Err (error.Damaged page)) = HasMark (replay was) × ShowsNoState page was
IsUnapplied was (Err error.Disk) = Unit {0}
IsUnapplied was (Err error.Memory) = Unit {0}
IsUnapplied was _ = ⊥

-- No more bytes were taken of the input than a run takes.
pub record TakesAtMost (first now : Option (List ℕ)) : Type 0 where
  pub taken : List ℕ
  pub few : length taken ≤ most_input
  pub takes : Takes taken first now

-- why it ended so, whatever the disk tells
abbrev pub IsApplyCause : {D : Type 0} → Ghosts D → Result (Unit {0}) ShipError → D → D → Type 0
IsApplyCause d (Ok _) old new = (taken : List ℕ) × (length taken < most_input) × Takes taken (d.beside old).input (d.beside new).input × IsAtEnd (d.beside new).input
IsApplyCause d (Err error.Disk) old new = Rose (d.faults old) (d.faults new)
IsApplyCause d (Err error.Write) old new = Rose (d.beside old).out_faults (d.beside new).out_faults
IsApplyCause d (Err error.Read) old new =
    Rose (d.beside old).in_faults (d.beside new).in_faults × (taken : List ℕ) × (length taken < most_input) × Takes taken (d.beside old).input (d.beside new).input
IsApplyCause d (Err error.TooMuch) old new = (taken : List ℕ) × (length taken ≡ most_input) × Takes taken (d.beside old).input (d.beside new).input
IsApplyCause d (Err error.Memory) old new = Unit {0}
IsApplyCause d (Err error.NotAStore) old new = (was : Image) → IsSettled d old was → (HasMark (replay was) → ⊥) × ((p : ℕ) × IsSome (replay was p))
IsApplyCause d (Err (error.Damaged page)) old new = (was : Image) → IsSettled d old was → HasMark (replay was) × ShowsNoState page was
IsApplyCause d (Err (error.Repeat number last)) old new = Unit {0}
IsApplyCause d (Err (error.Gap number last)) old new = Unit {0}
IsApplyCause d (Err (error.Base number)) old new = Unit {0}
IsApplyCause d (Err (error.Stream offset)) old new = Unit {0}
IsApplyCause d (Err (error.NoGroup from last)) old new = ⊥

-- How `apply` is carried out: over a disk with one image; and what it leaves in any case.
pub record ReceivesStream {D : Type 0} (d : Ghosts D) (result : Result (Unit {0}) ShipError) (old new : D) : Type 0 where
  pub from : (was : Image) → IsSettled d old was → IsSome (d.contents new) → AppliesFrom d was result old new ⊎ (IsUnapplied was result × IsStill d old new)
  pub cause : IsApplyCause d result old new
  pub told : IsSome (d.contents new) → IsSome (d.contents old)
  pub bounded : TakesAtMost (d.beside old).input (d.beside new).input
  pub in_faults_later : (d.beside old).in_faults ≤ (d.beside new).in_faults
  pub out_faults_later : (d.beside old).out_faults ≤ (d.beside new).out_faults
  pub faults_later : d.faults old ≤ d.faults new
