-- What the turns of a run leave of the log, one after the other, and how the store was opened for them.
use Rattle.std.specs.Prelude.{◌≡◌, ◌⊎◌, ◌≤◌, List, [], ◌∷◌, ◌++◌, length, Some}
use Rattle.nx_host.specs.Disk.{Image}
use Rattle.nx_host.specs.declared.disk.Disk.{Ghosts}
use Rattle.nx_host.specs.Still.{IsStill, IsSettled}
use Rattle.nx_records.specs.Words.{IsRenewed}
use Rattle.nx_state.specs.State.{State}
use Rattle.nx_state.specs.Stands.{Recovers}
use Rattle.nx_store.specs.Store.{KeepsImage, LeavesLog}
use Rattle.nx_filters.specs.declared.status.Status.{Status}
use Rattle.nx_filters.specs.declared.status.Status.TheVariants.{Done, ReadFault, TooMuch}
use Rattle.nx_filters.specs.Outcome.{CountsGrow}
use Rattle.nx_front.specs.Turns.{Turn}

-- The disk has the image that it had, and time goes on.
abbrev pub Rests : {D : Type 0} → Ghosts D → D → D → Type 0
Rests d before after = KeepsImage d before after × (d.moment before ≤ d.moment after)

-- A turn left a disk with one image, which is of the state after it, and of the log what its request leaves.
pub record LeavesTurn {D : Type 0} (d : Ghosts D) (state : State) (turn : Turn) (before after : D) : Type 0 where
  pub image : Image
  pub settled : IsSettled d after image
  pub stands : Recovers image (Some turn.next)
  pub log : LeavesLog d turn.request turn.reply state turn.next before after
  pub later : d.moment before ≤ d.moment after

-- From one disk to the other each of these turns left its disk, one after the other, and the last of these disks rests.
abbrev pub LogsFollow : {D : Type 0} → Ghosts D → State → List Turn → D → D → Type 0
LogsFollow {D} d state [] before after = Rests d before after
LogsFollow {D} d state (turn ∷ turns) before after =
    (between : D) × LeavesTurn d state turn before between × LogsFollow d turn.next turns between after

-- ... but for the last of these turns, which may have been begun alone
pub record LogsFollowBut {D : Type 0} (d : Ghosts D) (state : State) (turns : List Turn) (before after : D) : Type 0 where
  pub answered : List Turn
  pub begun : List Turn
  pub parts : answered ++ begun ≡ turns
  pub few : length begun ≤ 1
  pub follow : LogsFollow d state answered before after

-- with one of these a run ends behind an answer
abbrev pub EndsAnswered : Status → Type 0
EndsAnswered Done = Unit {0}
EndsAnswered ReadFault = Unit {0}
EndsAnswered TooMuch = Unit {0}
EndsAnswered _ = ⊥

-- What a run leaves of the log that had these turns.
pub record LeavesLogs {D : Type 0} (d : Ghosts D) (state : State) (turns : List Turn) (status : Status) (old new : D) : Type 0 where
  pub between : D
  pub answered : LogsFollowBut d state turns old between
  pub whole : EndsAnswered status → LogsFollow d state turns old new

-- The store was opened, and nothing else was done yet: what a sync that failed may have lost was given to the disk once more. No count fell since.
pub record OpensRenewed {D : Type 0} (d : Ghosts D) (old new : D) : Type 0 where
  pub opened : D
  pub still : IsStill d old opened
  pub renewed : IsRenewed d old opened
  pub counts : CountsGrow (d.beside opened) (d.beside new)
  pub faults_later : d.faults opened ≤ d.faults new

-- ... or nothing came of the run: the disk was asked alone
abbrev pub IsOpenedOrStill : {D : Type 0} → Ghosts D → D → D → Type 0
IsOpenedOrStill d old new = IsStill d old new ⊎ OpensRenewed d old new
