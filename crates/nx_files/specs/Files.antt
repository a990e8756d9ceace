-- The two files of a store, and what was done to them.
use Rattle.std.specs.Prelude.{◌≡◌, ◌≢◌, ◌≤◌, ◌++◌, ◌⊎◌, ℕ, List, [], Option, None, Some, length, slice_get, ⊤, IsTrue, IfSome, IsSome, IsNone, codes, eqb, string_bytes}
use Rattle.std.specs.List.{ends_with}
use Rattle.nx_host.specs.declared.disk.Area.{Area}
use Rattle.nx_host.specs.declared.disk.Area.TheVariants.{Pages, Log}
use Rattle.nx_files.specs.Made.{with_made}
use Rattle.nx_files.specs.Own.{MayBeOwn}
use Rattle.nx_files.specs.Sight.{MayBeStream}
use Rattle.nx_files.specs.Writes.{LastWrite}
use Rattle.nx_files.specs.declared.file.StoreFile.{Ghosts}
use Rattle.nx_files.specs.declared.opening.OpenStore.{OpenStore}
use Rattle.nx_files.specs.declared.settled.SettledFile.{SettledFile}
use Rattle.nx_files.specs.declared.sight.Sight.{Sight}
use Rattle.nx_files.specs.declared.sight.Streams.{Streams}
use Rattle.nx_files.specs.declared.store.State.{State}
use Rattle.nx_files.specs.declared.store.State.TheVariants.{Unopened, Open, Broken}
use Rattle.nx_files.specs.declared.store.Store.{Store}

-- The store is at a path for which its name stands and that no log of a store has, with its log beside, and its files weren't touched. Or it can't be
-- opened.
pub record IsStoreNamed {T : Type 0} {t : Ghosts T} (stands_for : List ℕ → Type 0) (store : Store T t) : Type 0 where
  pub pages : store.state ≢ Broken → stands_for (string_bytes store.pages)
  pub no_log : store.state ≢ Broken → ¬ IsTrue (ends_with eqb (string_bytes store.pages) (codes ".log"))
  pub log : store.state ≢ Broken → string_bytes store.log ≡ string_bytes store.pages ++ codes ".log"
  pub state : (store.state ≡ Unopened) ⊎ (store.state ≡ Broken)

-- the bytes of an area whose file may be missing, where they are told
abbrev pub file_bytes : {T : Type 0} (t : Ghosts T) → Option (SettledFile T t) → Option (List ℕ)
file_bytes t None = Some []
file_bytes t (Some file) = t.holds file.file

-- the farthest end that was seen or made of it
abbrev pub file_end : {T : Type 0} {t : Ghosts T} → Option (SettledFile T t) → ℕ
file_end None = 0
file_end (Some file) = file.end

-- the last write to the file of an area, where it is told
abbrev pub file_write : {T : Type 0} (t : Ghosts T) → Option (SettledFile T t) → Option LastWrite
file_write t None = None
file_write t (Some file) = t.last_write file.file

-- The file was opened at this path, stands behind no stream, and all that it holds is durable.
pub record IsFileTaken {T : Type 0} (t : Ghosts T) (streams : Streams) (path : List ℕ) (file : SettledFile T t) : Type 0 where
  pub at_path : IfSome (t.path file.file) (λ told. told ≡ path)
  pub no_stream : IfSome (t.identity file.file) (λ told. ¬ MayBeStream streams told)
  pub durable : IsTrue (t.is_durable file.file)

-- The file was opened or made at this path, and stands behind no stream.
pub record IsFileAt {T : Type 0} (t : Ghosts T) (streams : Streams) (path : List ℕ) (file : SettledFile T t) : Type 0 where
  pub at_path : IfSome (t.path file.file) (λ told. told ≡ path)
  pub no_stream : IfSome (t.identity file.file) (λ told. ¬ MayBeStream streams told)

-- The files that are there are those at these paths.
pub record AreFilesAt {T : Type 0} (t : Ghosts T) (streams : Streams) (pages log : List ℕ) (store : OpenStore T t) : Type 0 where
  pub pages_at : IfSome store.pages (IsFileAt t streams pages)
  pub log_at : IfSome store.log (IsFileAt t streams log)

-- The files that are there were taken so.
pub record AreTaken {T : Type 0} (t : Ghosts T) (streams : Streams) (pages log : List ℕ) (store : OpenStore T t) : Type 0 where
  pub pages_taken : IfSome store.pages (IsFileTaken t streams pages)
  pub log_taken : IfSome store.log (IsFileTaken t streams log)

-- these paths, where they are told, and behind them that of a file where it is missing
abbrev pub with_missing : {T : Type 0} {t : Ghosts T} → List ℕ → Option (SettledFile T t) → Option (List (List ℕ)) → Option (List (List ℕ))
with_missing path None made = with_made path made
with_missing path (Some file) made = made

-- what stands at a path is this file, as long as this session saw or made it at least; or the file is missing, and nothing stands there
abbrev pub IsStillThere : {T : Type 0} {t : Ghosts T} → Option (SettledFile T t) → Option Sight → Type 0
IsStillThere None None = ⊤
IsStillThere None (Some sight) = ⊥
IsStillThere (Some file) None = ⊥
IsStillThere (Some file) (Some sight) = (sight.identity ≡ file.identity) × (file.end ≤ sight.length)

-- where both tell their bytes, these may be the pages and the log of one store
abbrev pub IsOwnStore : {T : Type 0} (t : Ghosts T) → OpenStore T t → Type 0
IsOwnStore t store =
    IfSome (file_bytes t store.pages) (λ pages. IfSome (file_bytes t store.log) (λ log. MayBeOwn (length pages) (slice_get log 0)))

abbrev pub file_of : {T : Type 0} {t : Ghosts T} → Area → OpenStore T t → Option (SettledFile T t)
file_of Pages store = store.pages
file_of Log store = store.log

abbrev pub other_file_of : {T : Type 0} {t : Ghosts T} → Area → OpenStore T t → Option (SettledFile T t)
other_file_of Pages store = store.log
other_file_of Log store = store.pages

-- opening was tried: the files that are at these paths were taken, and may be a store's; or the host's disk has ended
abbrev pub HasTriedOpening : {T : Type 0} (t : Ghosts T) → Streams → List ℕ → List ℕ → State T t → Type 0
HasTriedOpening t streams pages log Unopened = ⊥
HasTriedOpening t streams pages log (Open store) = AreTaken t streams pages log store × IsOwnStore t store
HasTriedOpening t streams pages log Broken = ⊤

-- where the store is open, the files that are there are those at these paths
abbrev pub AreAllAt : {T : Type 0} (t : Ghosts T) → Streams → List ℕ → List ℕ → State T t → Type 0
AreAllAt t streams pages log Unopened = ⊤
AreAllAt t streams pages log (Open store) = AreFilesAt t streams pages log store
AreAllAt t streams pages log Broken = ⊤

-- each file of a store that is open is the one at the store's own path for it, and stands behind no stream of the store
abbrev pub HasItsFiles : {T : Type 0} (t : Ghosts T) → Store T t → Type 0
HasItsFiles t store = AreAllAt t store.streams (string_bytes store.pages) (string_bytes store.log) store.state

-- the store is open
abbrev pub IsOpen : {T : Type 0} {t : Ghosts T} → State T t → Type 0
IsOpen Unopened = ⊥
IsOpen (Open store) = ⊤
IsOpen Broken = ⊥

-- no call of the disk answers Ok any more
abbrev pub HasEnded : {T : Type 0} {t : Ghosts T} → State T t → Type 0
HasEnded Unopened = ⊥
HasEnded (Open store) = ⊥
HasEnded Broken = ⊤

-- the store is open, and all that the area's file holds is durable
abbrev pub IsSynced : {T : Type 0} (t : Ghosts T) → Area → State T t → Type 0
IsSynced t area Unopened = ⊥
IsSynced t area (Open store) = IfSome (file_of area store) (λ file. IsTrue (t.is_durable file.file))
IsSynced t area Broken = ⊥

-- the bytes of an area of a store that is open, where they are told
abbrev pub area_bytes : {T : Type 0} (t : Ghosts T) → Area → State T t → Option (List ℕ)
area_bytes t area Unopened = None
area_bytes t area (Open store) = file_bytes t (file_of area store)
area_bytes t area Broken = None

-- the farthest end that was seen or made of an area's file
abbrev pub area_end : {T : Type 0} {t : Ghosts T} → Area → State T t → ℕ
area_end area Unopened = 0
area_end area (Open store) = file_end (file_of area store)
area_end area Broken = 0

-- the last write to the file of an area of a store that is open, where it is told
abbrev pub area_write : {T : Type 0} (t : Ghosts T) → Area → State T t → Option LastWrite
area_write t area Unopened = None
area_write t area (Open store) = file_write t (file_of area store)
area_write t area Broken = None

-- the file that isn't the area's, where the store is open
abbrev pub other_file : {T : Type 0} {t : Ghosts T} → Area → State T t → Option (Option (SettledFile T t))
other_file area Unopened = None
other_file area (Open store) = Some (other_file_of area store)
other_file area Broken = None

-- the store is open, and the area's file isn't missing
abbrev pub HasFile : {T : Type 0} {t : Ghosts T} → Area → State T t → Type 0
HasFile area Unopened = ⊥
HasFile area (Open store) = IsSome (file_of area store)
HasFile area Broken = ⊥

-- the store is open, and its log is missing
abbrev pub LacksLog : {T : Type 0} {t : Ghosts T} → State T t → Type 0
LacksLog Unopened = ⊥
LacksLog (Open store) = IsNone store.log
LacksLog Broken = ⊥

-- where opening was tried before, the other area's file wasn't touched
abbrev pub LeavesOther : {T : Type 0} {t : Ghosts T} → Area → State T t → State T t → Type 0
LeavesOther area old new = old ≢ Unopened → other_file area new ≡ other_file area old

-- the files that are at these paths, and no others, are open, or nothing stands there, where it is told what stands; both as `IsStillThere` has it
abbrev pub StandAt : {T : Type 0} {t : Ghosts T} → (List ℕ → Option (Option Sight)) → List ℕ → List ℕ → State T t → Type 0
StandAt standing pages log Unopened = ⊤
StandAt standing pages log (Open store) = IfSome (standing pages) (IsStillThere store.pages) × IfSome (standing log) (IsStillThere store.log)
StandAt standing pages log Broken = ⊤
