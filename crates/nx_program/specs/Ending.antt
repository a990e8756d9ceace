-- What the program tells of how a command ended.
use Rattle.std.specs.Prelude.{◌≡◌, ℕ, Bool, if◌then◌else◌, List, ◌++◌, Option, None, Some, codes, decimal}
use Rattle.std.specs.Option.{option_map}
use Rattle.std.specs.Process.{exit_status}
use Rattle.nx_filters.specs.declared.status.Status.{Status}
use Rattle.nx_filters.specs.declared.status.Status.TheVariants.{Done, Usage, Refused, DiskFault, ReadFault, WriteFault, NoMemory, NotAStore, Damaged, TooMuch}
use Rattle.nx_program.specs.declared.ending.Ending.{Ending}

-- the exit status
abbrev pub exit_number : Status → ℕ
exit_number Done = 0
exit_number Usage = 1
exit_number Refused = 2
exit_number DiskFault = 3
exit_number ReadFault = 4
exit_number WriteFault = 5
exit_number NoMemory = 6
exit_number NotAStore = 7
exit_number (Damaged page) = 8
exit_number TooMuch = 9

-- the line for pages that stand for no state
abbrev pub damaged_line : ℕ → List ℕ
damaged_line page = codes "damaged page " ++ decimal page

-- the line on standard error, if there is one
abbrev pub error_line : Status → Option (List ℕ)
error_line Done = None
error_line Usage = Some (codes "usage: natix STORE COMMAND [ARG]...")
error_line Refused = None
error_line DiskFault = Some (codes "disk fault")
error_line ReadFault = Some (codes "read fault")
error_line WriteFault = Some (codes "write fault")
error_line NoMemory = Some (codes "out of memory")
error_line NotAStore = Some (codes "not a store")
error_line (Damaged page) = Some (damaged_line page)
error_line TooMuch = Some (codes "too much input")

-- the same, where standard error may be written to, and none where it may not
abbrev pub heard_line : Bool → Status → Option (List ℕ)
heard_line heard status = if heard then error_line status else None

-- The program ends with the number of a status that is P, and with the line of that status, whole, or with none where it has none.
abbrev pub EndsAs : Ending → Bool → (Status → Type 0) → Type 0
EndsAs ending heard P =
    (status : Status) × P status × (exit_status ending.code ≡ exit_number status) × (option_map (λ line. line.bytes) ending.line ≡ heard_line heard status)
