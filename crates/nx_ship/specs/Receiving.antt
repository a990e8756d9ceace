-- What a receiver stands for, of a stream that comes in pieces, and of the store to which its groups are applied.
use Rattle.std.specs.Prelude.{◌≡◌, ◌≢◌, ◌==◌, ℕ, ◌+◌, ◌<◌, ◌≤◌, Bool, true, List, [], ◌∷◌, ◌++◌, length, Option, None, Some, IsSome, Result, Ok, Err}
use Rattle.nx_host.specs.declared.disk.Disk.{Ghosts}
use Rattle.nx_host.specs.Disk.{Image, Keeps, Rose}
use Rattle.nx_host.specs.Host.{Takes, Appends}
use Rattle.nx_host.specs.Input.{most_input}
use Rattle.nx_host.specs.Time.{Elapses}
use Rattle.nx_host.specs.Still.{IsSettled}
use Rattle.nx_replay.specs.Log.{Pages, Entry, Group, entry_pages, replay}
use Rattle.nx_replay.specs.Laws.{over_all}
use Rattle.nx_wal.specs.Wal.{IsInStep, pending}
use Rattle.nx_wal.specs.declared.wal.Wal.{Wal}
use Rattle.nx_ship.specs.Stream.{stream_length, BeginsWithHeader, IsStream}
use Rattle.nx_ship.specs.Reading.{HasFed, AreUnderWay, least_behind}
use Rattle.nx_ship.specs.Next.{number_following, IsAtNumber, AreNone, IsBase, IsOpenFor, ComeInTurn, StayDense, MayComeTo}
use Rattle.nx_ship.specs.Lost.{LacksNone}
use Rattle.nx_ship.specs.Applying.{applied_text, groups_in, log_before, log_after, HasLogged, ShowsApplied, AppliesTo, TakesAtMost}
use Rattle.nx_ship.specs.declared.receiver.Receiver.{Receiver}
use Rattle.nx_ship.specs.declared.error.ShipError.{ShipError}
use Rattle.nx_ship.specs.declared.error.ShipError.TheVariants as error

-- why applying stops: a call of the disk or of the output failed, or there was no memory, or a group is refused
abbrev pub IsTakeFault : {D : Type 0} → Ghosts D → ShipError → D → D → Type 0
IsTakeFault d error.Disk old new = Rose (d.faults old) (d.faults new)
IsTakeFault d error.Write old new = Rose (d.beside old).out_faults (d.beside new).out_faults
IsTakeFault d error.Memory old new = Unit {0}
IsTakeFault d (error.Repeat number last) old new = Unit {0}
IsTakeFault d (error.Gap number last) old new = Unit {0}
IsTakeFault d (error.Base number) old new = Unit {0}
IsTakeFault d (error.Stream offset) old new = Unit {0}
IsTakeFault d _ old new = ⊥

-- From old to new no input was taken, and no count fell.
pub record LeavesInput {D : Type 0} (d : Ghosts D) (old new : D) : Type 0 where
  pub told : IsSome (d.contents new) → IsSome (d.contents old)
  pub input_stays : Keeps (d.beside old).input (d.beside new).input
  pub in_faults_stay : (d.beside new).in_faults ≡ (d.beside old).in_faults
  pub out_faults_later : (d.beside old).out_faults ≤ (d.beside new).out_faults
  pub faults_later : d.faults old ≤ d.faults new

-- the number of the last group, or none where there is no page
abbrev pub IsLast : Option ℕ → Pages → Type 0
IsLast None pages = AreNone pages
IsLast (Some last) pages = IsAtNumber pages last

-- the group with this number may be the next, by its number
abbrev pub is_next_number : Option ℕ → ℕ → Bool
is_next_number None number = true
is_next_number (Some last) number = number == number_following last

-- The receiver knows of the groups that were applied to these pages, each the next one; and these pages of the group under way wait, where it may be the next.
pub record KnowsGroups (start : Pages) (r : Receiver) (groups : List Group) (es : List Entry) : Type 0 where
  pub in_turn : ComeInTurn start groups
  pub last : IsLast r.last (over_all start groups)
  pub none : es ≡ [] → pending r.wal ≡ []
  pub waits : 0 < length es → is_next_number r.last r.reader.number ≡ true → entry_pages (pending r.wal) ≡ entry_pages es

-- From these pages on the groups were applied, and their lines given.
pub record HasApplied {D : Type 0} (d : Ghosts D) (start : Pages) (first : D) (groups : List Group) (now : D) : Type 0 where
  pub out : Appends (applied_text groups) (d.beside first).output (d.beside now).output
  pub time : Elapses d.moment d.stood_since first now (ShowsApplied (d.beside first).output start groups)

-- The log is in step with the disk, which stands for the groups over the pages, and has the groups; and it has what it is to have before another one comes, where that is to be.
pub record KeepsUp {D : Type 0} (d : Ghosts D) (start : Pages) (first : D) (groups : List Group) (wal : Wal) (Ready : Type 0) (now : D) : Type 0 where
  pub image : Image
  pub step : IsInStep d wal now image
  pub is : replay image ≡ over_all start groups
  pub logged : (was : Image) → IsSettled d first was → HasLogged (groups_in was) groups image
  pub ready : Ready → (was : Image) → IsSettled d first was → groups_in image ≡ log_before (log_after (groups_in was) groups)

-- The receiver was opened over this image, at the beginning of a stream.
pub record HasOpened {D : Type 0} (d : Ghosts D) (was : Image) (r : Receiver) (now : D) : Type 0 where
  pub read : HasFed r.reader [] [] []
  pub offset : r.offset ≡ 0
  pub none : pending r.wal ≡ []
  pub step : IsInStep d r.wal now was
  pub last : IsLast r.last (replay was)
  pub open_for : IsOpenFor (replay was)
  pub whole : LacksNone was

-- Groups were applied, and these pages of the one under way are there. What is said of the disk holds where the pages stay dense and the contents are told.
pub record IsApplyingBy {D : Type 0} (d : Ghosts D) (start : Pages) (first : D) (r : Receiver) (groups : List Group) (es : List Entry) (Ready : Type 0) (now : D) : Type 0 where
  pub knows : KnowsGroups start r groups es
  pub shows : StayDense start groups → IsSome (d.contents now) → HasApplied d start first groups now × KeepsUp d start first groups r.wal Ready now

-- The group of which these pages are there may be the next.
abbrev pub IsNextUnderWay : Receiver → List Entry → Type 0
IsNextUnderWay r es = (0 < length es) × (is_next_number r.last r.reader.number ≡ true)

-- ... for which the log has room then
abbrev pub IsApplying : {D : Type 0} → Ghosts D → Pages → D → Receiver → List Group → List Entry → D → Type 0
IsApplying d start first r groups es now = IsApplyingBy d start first r groups es (IsNextUnderWay r es) now

-- Of these bytes, which aren't too many, the groups with which they begin were applied.
pub record Receives {D : Type 0} (d : Ghosts D) (start : Pages) (first : D) (r : Receiver) (taken : List ℕ) (groups : List Group) (es : List Entry) (now : D) : Type 0 where
  pub read : HasFed r.reader taken groups es
  pub offset : r.offset ≡ stream_length groups
  pub few : length taken ≤ most_input
  pub applying : IsApplying d start first r groups es now

-- The last page of a group was read, and isn't kept yet.
pub record HasLast {D : Type 0} (d : Ghosts D) (start : Pages) (first : D) (r : Receiver) (page : Entry) (taken : List ℕ) (groups : List Group) (es : List Entry) (now : D) : Type 0 where
  pub read : HasFed r.reader taken (groups ++ record { number = r.reader.number; entries = es ++ page ∷ [] } ∷ []) []
  pub under_way : AreUnderWay r.reader.number (es ++ page ∷ [])
  pub many : length (es ++ page ∷ []) ≡ r.reader.taken
  pub offset : r.offset ≡ stream_length groups
  pub few : length taken ≤ most_input
  pub applying : IsApplying d start first r groups es now

-- it was received so far, with some groups
abbrev pub ReceivesSome : {D : Type 0} → Ghosts D → Pages → D → Receiver → List ℕ → D → Type 0
ReceivesSome d start first r taken now = (groups : List Group) × (es : List Entry) × Receives d start first r taken groups es now

-- Whatever was received before, these bytes are received behind it.
abbrev pub ReceivesMore : {D : Type 0} → Ghosts D → List ℕ → Receiver → Receiver → D → D → Type 0
ReceivesMore {D} d piece old new before after = (start : Pages) (first : D) (taken : List ℕ) → length (taken ++ piece) ≤ most_input → ReceivesSome d start first old taken before
    → ReceivesSome d start first new (taken ++ piece) after

-- ... or the call ends with this error.
abbrev pub StopsReceiving : {D : Type 0} → Ghosts D → List ℕ → ShipError → Receiver → D → D → Type 0
StopsReceiving {D} d piece e old before after = (start : Pages) (first : D) (taken : List ℕ) → length (taken ++ piece) ≤ most_input → ReceivesSome d start first old taken before
    → AppliesTo d start (taken ++ piece) (Err e) first after

-- A page more of the group under way waits, where the group may be the next.
abbrev pub KeepsPage : {D : Type 0} → Ghosts D → Entry → Receiver → Receiver → D → D → Type 0
KeepsPage {D} d page old new before after = (start : Pages) (first : D) (groups : List Group) (es : List Entry) → AreUnderWay old.reader.number (es ++ page ∷ [])
    → IsApplying d start first old groups es before → IsApplying d start first new groups (es ++ page ∷ []) after

-- ... where the log is ready for it
abbrev pub WaitsPage : {D : Type 0} → Ghosts D → Entry → Receiver → Receiver → D → D → Type 0
WaitsPage {D} d page old new before after = (start : Pages) (first : D) (groups : List Group) (es : List Entry) → AreUnderWay old.reader.number (es ++ page ∷ [])
    → IsApplyingBy d start first old groups es (Unit {0}) before → IsApplying d start first new groups (es ++ page ∷ []) after

-- the groups were applied, and no others, whatever became of this call
abbrev pub AppliesNone : {D : Type 0} → Ghosts D → Receiver → D → D → Type 0
AppliesNone {D} d old before after = (start : Pages) (first : D) (groups : List Group) (es : List Entry) → IsApplying d start first old groups es before
    → StayDense start groups → IsSome (d.contents after) → Elapses d.moment d.stood_since first after (ShowsApplied (d.beside first).output start groups)

-- The group that waits was committed, and its line given;
abbrev pub CommitsGroup : {D : Type 0} → Ghosts D → Receiver → Receiver → D → D → Type 0
CommitsGroup {D} d old new before after = (start : Pages) (first : D) (groups : List Group) (es : List Entry) → 0 < length es → AreUnderWay old.reader.number es
    → MayComeTo (over_all start groups) (record { number = old.reader.number; entries = es }) → is_next_number old.last old.reader.number ≡ true
    → IsApplying d start first old groups es before → IsApplying d start first new (groups ++ record { number = old.reader.number; entries = es } ∷ []) [] after

-- ... or it was cut short.
abbrev pub StopsCommitting : {D : Type 0} → Ghosts D → Receiver → D → D → Type 0
StopsCommitting {D} d old before after = (start : Pages) (first : D) (groups : List Group) (es : List Entry) → 0 < length es
    → MayComeTo (over_all start groups) (record { number = old.reader.number; entries = es }) → is_next_number old.last old.reader.number ≡ true
    → IsApplying d start first old groups es before
    → StayDense start groups → IsSome (d.contents after) → Elapses d.moment d.stood_since first after (ShowsApplied (d.beside first).output start (groups ++ record { number = old.reader.number; entries = es } ∷ []))

-- why the number of a group isn't the next
abbrev pub RefusesNumber : Option ℕ → ℕ → ShipError → Type 0
RefusesNumber (Some last) number (error.Repeat n l) = (n ≡ number) × (l ≡ last) × (number ≢ number_following last) × (number ≤ last)
RefusesNumber (Some last) number (error.Gap n l) = (n ≡ number) × (l ≡ last) × (number ≢ number_following last) × (last < number)
RefusesNumber last number e = ⊥

-- Of a piece with some bytes some were taken.
abbrev pub TakesSome : {D : Type 0} → Ghosts D → ℕ → List ℕ → Receiver → D → Type 0
TakesSome {D} d n piece r now = (start : Pages) (first : D) (taken : List ℕ) → ReceivesSome d start first r taken now → 0 < length piece → 0 < n

-- The group under way, which may be the next, goes on, or begins.
abbrev pub BeginsGroup : {D : Type 0} → Ghosts D → Receiver → Receiver → D → D → Type 0
BeginsGroup {D} d old new before after = (start : Pages) (first : D) (groups : List Group) (es : List Entry) → (0 < length es → BeginsWithHeader old.reader.number es)
    → is_next_number old.last old.reader.number ≡ true → IsApplying d start first old groups es before → IsApplyingBy d start first new groups es (Unit {0}) after

-- The receiver has the same stream before it, and the same last group.
pub record LeavesStream (old new : Receiver) : Type 0 where
  pub reader : new.reader ≡ old.reader
  pub last : new.last ≡ old.last
  pub offset : new.offset ≡ old.offset

-- The last page of a group was taken, and the group applied;
abbrev pub AppliesLast : {D : Type 0} → Ghosts D → Entry → Receiver → Receiver → D → D → Type 0
AppliesLast {D} d page old new before after = (start : Pages) (first : D) (taken : List ℕ) (groups : List Group) (es : List Entry) → HasLast d start first old page taken groups es before
    → Receives d start first new taken (groups ++ record { number = old.reader.number; entries = es ++ page ∷ [] } ∷ []) [] after

-- ... or the call ends with this error, whatever stands behind the group.
abbrev pub StopsAtLast : {D : Type 0} → Ghosts D → Entry → ShipError → Receiver → D → D → Type 0
StopsAtLast {D} d page e old before after = (start : Pages) (first : D) (taken : List ℕ) (groups : List Group) (es : List Entry) → HasLast d start first old page taken groups es before
    → (behind : List ℕ) → AppliesTo d start (taken ++ behind) (Err e) first after

-- These are the pages that wait, of a group that is whole, the last of which has this number.
pub record IsGroupKept (r : Receiver) (last_page : ℕ) (es : List Entry) : Type 0 where
  pub waits : entry_pages (pending r.wal) ≡ entry_pages es
  pub under_way : AreUnderWay r.reader.number es
  pub last : least_behind 0 es ≡ last_page + 1
  pub many : length es ≡ r.reader.taken

-- The group that waits holds no store, or it needs none.
pub record IsBaseless (r : Receiver) (last_page : ℕ) : Type 0 where
  pub none : r.last ≡ None
  pub no_base : (es : List Entry) → IsGroupKept r last_page es → IsBase (record { number = r.reader.number; entries = es }) → ⊥

abbrev pub IsBased : Receiver → ℕ → Type 0
IsBased r last_page = r.last ≡ None → (es : List Entry) → IsGroupKept r last_page es → IsBase (record { number = r.reader.number; entries = es })

-- where the input ends, and this is left of what was taken
abbrev pub EndsAt : Receiver → List ℕ → Result (Unit {0}) ShipError → Type 0
EndsAt r rest (Ok _) = rest ≡ []
EndsAt r rest (Err (error.Stream offset)) = (offset ≡ r.offset) × (0 < length rest)
EndsAt r rest (Err _) = ⊥

-- no reason but that no group stands there
abbrev pub IsStreamError : ShipError → Type 0
IsStreamError (error.Stream offset) = Unit {0}
IsStreamError _ = ⊥

abbrev pub EndsStream : Receiver → Result (Unit {0}) ShipError → Type 0
EndsStream r result = (bytes : List ℕ) (groups : List Group) (es : List Entry) → HasFed r.reader bytes groups es → (rest : List ℕ) × IsStream bytes groups rest × EndsAt r rest result

-- These bytes were taken, and the groups applied with which they begin.
pub record EndsTaken {D : Type 0} (d : Ghosts D) (start : Pages) (first : D) (result : Result (Unit {0}) ShipError) (before after : D) : Type 0 where
  pub taken : List ℕ
  pub takes : Takes taken (d.beside before).input (d.beside after).input
  pub few : length taken ≤ most_input
  pub applies : AppliesTo d start taken result first after

abbrev pub EndsReceiving : {D : Type 0} → Ghosts D → Receiver → Result (Unit {0}) ShipError → D → D → Type 0
EndsReceiving {D} d r result before after = (start : Pages) (first : D) → Receives d start first r [] [] [] before → EndsTaken d start first result before after

-- From old to new input was taken, no more than a run takes, and no count fell.
pub record TakesInput {D : Type 0} (d : Ghosts D) (old new : D) : Type 0 where
  pub told : IsSome (d.contents new) → IsSome (d.contents old)
  pub bounded : TakesAtMost (d.beside old).input (d.beside new).input
  pub in_faults_later : (d.beside old).in_faults ≤ (d.beside new).in_faults
  pub out_faults_later : (d.beside old).out_faults ≤ (d.beside new).out_faults
  pub faults_later : d.faults old ≤ d.faults new
