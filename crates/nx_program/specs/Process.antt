-- What the program does over the files of the system.
use Rattle.std.specs.Prelude.{◌≡◌, ◌⊎◌, ◌↔◌, ◌≤◌, ℕ, Bool, List, Option, None, Some, IsTrue}
use Rattle.std.specs.Borrow.{Bor}
use Rattle.std.specs.Fn.{Once, FnOnceReturns}
use Rattle.nx_host.specs.declared.disk.Disk.{Ghosts}
use Rattle.nx_host.specs.Disk.{Beside, Rose}
use Rattle.nx_host.specs.Host.{Appends, AppendsPrefix}
use Rattle.nx_files.specs.declared.file.StoreFile.{Ghosts as Files}
use Rattle.nx_files.specs.declared.store.Store.{Store}
use Rattle.nx_files.specs.declared.sight.Streams.{Streams}
use Rattle.nx_files.specs.Files.{HasEnded, IsStoreNamed}
use Rattle.nx_filters.specs.Outcome.{TakesFew, CountsGrow}
use Rattle.nx_filters.specs.declared.status.Status.{Status}
use Rattle.nx_filters.specs.declared.status.Status.TheVariants.{Done, Usage, WriteFault, NoMemory as WantOfMemory}
use Rattle.nx_front.specs.declared.words.CommandLine.{CommandLine}
use Rattle.nx_front.specs.CommandLine.{command_line, named_store}
use Rattle.nx_front.specs.Run.{IsCarriedOut, IsCompleted}
use Rattle.nx_program.specs.declared.help.Question.{Question}
use Rattle.nx_program.specs.Command.{makes_log}
use Rattle.nx_program.specs.Help.{question_of}

-- Words were carried out over this host as `run` promises.
pub record Ran {D : Type 0} (d : Ghosts D) (words : List (List ℕ)) (status : Status) (old new : D) : Type 0 where
  pub carried : (line : CommandLine) → command_line words ≡ Some line → IsCarriedOut d line status old new
  pub completed : (line : CommandLine) → command_line words ≡ Some line → IsCompleted d line status old new
  pub usage : (status ≡ Usage) ↔ (command_line words ≡ None)
  pub untouched : status ≡ Usage → new ≡ old
  pub bounded : TakesFew (d.beside old).input (d.beside new).input
  pub counts : CountsGrow (d.beside old) (d.beside new)
  pub faults : d.faults old ≤ d.faults new

-- They were, over a host that keeps pages in front of this one, or there was no memory to keep any.
abbrev pub RanKept : {H K : Type 0} → Ghosts K → (K → H) → List (List ℕ) → H → Status → Type 0
RanKept {H} {K} k behind words host status =
    (status ≡ WantOfMemory) ⊎ ((kept : K) × (left : K) × (behind kept ≡ host) × Ran k words status kept left)

-- a call of f at references to x and y may give r
abbrev pub GivesAt : {F X Y R : Type 0} → Once F (Bor X × (Bor Y × Unit {0})) R → F → X → Y → R → Type 0
GivesAt {F} {X} {Y} g f x y r =
    (p : Bor X) × (q : Bor Y) × FnOnceReturns g f (p, (q, tt)) r × (p.now ≡ x) × (q.now ≡ y)

-- no call of the disk answers Ok where there is no store; and where there is one, no file is one of the streams that were seen, and its path is
-- its name, unless that was a link, which was followed
abbrev pub HasStore : {T : Type 0} {t : Files T} → (Streams → Type 0) → Bool → Option (List ℕ) → Store T t → Type 0
HasStore seen followed None store = HasEnded store.state
HasStore seen followed (Some name) store = seen store.streams × IsStoreNamed (λ path. ¬ IsTrue followed → path ≡ name) store

-- The host is one of the store that the words use, or of none, over this reader and this writer. It makes a log that is missing only for a
-- command that may begin a store.
pub record IsHostOf {T R W : Type 0} {t : Files T} (seen : Streams → Type 0) (words : List (List ℕ)) (reader : R) (writer : W) (its_reader : R) (its_writer : W) (followed : Bool) (store : Store T t) : Type 0 where
  pub has : HasStore seen followed (named_store words) store
  pub makes : IsTrue store.makes_log → IsTrue (makes_log words)
  pub reads : its_reader ≡ reader
  pub writes : its_writer ≡ writer

-- A text was given, or not all of it.
abbrev pub AnswersQuestion : Status → Beside → Beside → Type 0
AnswersQuestion status old new = (text : List ℕ)
    × (((status ≡ Done) × Appends text old.output new.output) ⊎ ((status ≡ WriteFault) × AppendsPrefix text old.output new.output × Rose old.out_faults new.out_faults))

-- How words end over a host: what they ask of natix itself is answered, and `run` carries out all others.
pub record EndsOver {H K : Type 0} (h : Ghosts H) (k : Ghosts K) (behind : K → H) (words : List (List ℕ)) (host : H) (status : Status) : Type 0 where
  pub ran : question_of words ≡ None → RanKept k behind words host status
  pub answered : (question : Question) → question_of words ≡ Some question → (left : H) × AnswersQuestion status (h.beside host) (h.beside left)
