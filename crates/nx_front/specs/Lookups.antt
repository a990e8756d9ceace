-- Requests that look up a node or what the catalog says, and how many pages they read.
use Rattle.std.specs.Prelude.{◌≡◌, ◌+◌, ◌≤◌, ℕ, Bool, true, false, List, [], ◌∷◌, All}
use Rattle.nx_host.specs.declared.disk.Disk.{Ghosts}
use Rattle.nx_records.specs.Words.{Held}
use Rattle.nx_script.specs.declared.request.Request.{Request}
use Rattle.nx_script.specs.declared.request.Request.TheVariants.{Single, Transaction}
use Rattle.nx_state.specs.State.{State}
use Rattle.nx_store.specs.declared.store.Store.{Store}
use Rattle.nx_store.specs.Reads.{is_lookup, ReadsFor}
use Rattle.nx_store.specs.Store.{IsAt}

-- a lookup: `get`, `names`, `rules`, a line that is no command, or a transaction without commands
abbrev pub is_lookup_request : Request → Bool
is_lookup_request (Single command) = is_lookup command
is_lookup_request (Transaction []) = true
is_lookup_request (Transaction (command ∷ commands)) = false

-- each of these requests is one
abbrev pub AreLookups : List Request → Type 0
AreLookups requests = All (λ request. is_lookup_request request ≡ true) requests

-- A request reads so many pages at most of what is held, which is this state. Of those that are no lookups nothing is said.
abbrev pub ReadsForRequest : Held → State → Request → ℕ → Type 0
ReadsForRequest held state (Single command) pages = ReadsFor held state command pages
ReadsForRequest held state (Transaction []) pages = pages ≡ 0
ReadsForRequest held state (Transaction (command ∷ commands)) pages = Unit {0}

-- From each state that the store was at, the request read no more pages than that.
abbrev pub ReadsRequestWithin : {D : Type 0} → Ghosts D → Request → Store → D → D → Type 0
ReadsRequestWithin d request store before after =
    (state : State) (at : IsAt d store before state) → (pages : ℕ) × (d.reads after ≤ d.reads before + pages) × ReadsForRequest at.held state request pages

-- So many pages at most these requests read, one after the other, of what is held, which is this state: the sum of what each of them reads.
abbrev pub ReadForAll : Held → State → List Request → ℕ → Type 0
ReadForAll held state [] pages = pages ≡ 0
ReadForAll held state (request ∷ requests) pages = (own rest : ℕ) × ReadsForRequest held state request own × ReadForAll held state requests rest × (pages ≡ own + rest)
