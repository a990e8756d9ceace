-- How many pages the calls of a store read, at most.
use Rattle.std.specs.Prelude.{◌≡◌, ◌≤◌, ◌+◌, ◌*◌, ◌/◌, ℕ, Bool, true, false, List, [], ◌∷◌, length, Option, None, Some}
use Rattle.std.specs.FinMap.{get}
use Rattle.nx_host.specs.Disk.{Image}
use Rattle.nx_host.specs.declared.disk.Disk.{Ghosts}
use Rattle.nx_numbers.specs.Sizes.{entry_size}
use Rattle.nx_records.specs.Words.{replay, Held, Holds, chain_count}
use Rattle.nx_records.specs.Records.{HasHeader}
use Rattle.nx_tree.specs.Edit.{at}
use Rattle.nx_cuts.specs.Cut.{CutTree, tree_of}
use Rattle.nx_hold.specs.declared.entry.DocEntry.{DocEntry}
use Rattle.nx_hold.specs.Changes.{place_of}
use Rattle.nx_catalog.specs.Catalog.{Contents, IsCatalog}
use Rattle.nx_nav.specs.Along.{ReadsShown}
use Rattle.nx_nav.specs.Early.{LeavesOutput}
use Rattle.nx_script.specs.declared.command.Command.{Command}
use Rattle.nx_script.specs.declared.command.Command.TheVariants.{Get, Names, Rules, Begin, Commit, Bad}
use Rattle.nx_script.specs.declared.request.Request.{Request}
use Rattle.nx_script.specs.declared.request.Request.TheVariants.{Single, Transaction}
use Rattle.nx_state.specs.State.{State}
use Rattle.nx_store.specs.Store.{IsAt}
use Rattle.nx_store.specs.declared.store.Store.{Store}

-- Opening a store reads so often at most: three times for each page with its number that the area of the log has room for, and five times besides, for the log and page 0; and the chain
-- pages of a catalog of these bytes. How large the documents are says nothing.
abbrev pub opening_reads : Image → (catalog : List ℕ) → ℕ
opening_reads image catalog = 3 * (length image.log / entry_size + 1) + 2 + chain_count (length catalog)

-- From a count of reads to another no more was read than that, where the pages of this image are sound, and where it has no header, and so no catalog.
pub record ReadsOpening (image : Image) (old new : ℕ) : Type 0 where
  pub sound : (held : Held) → Holds (replay image) held → new ≤ old + opening_reads image held.catalog.bytes
  pub no_header : (HasHeader image → ⊥) → new ≤ old + opening_reads image []

-- a command that asks for one node, or for what the catalog says, or for nothing
abbrev pub is_lookup : Command → Bool
is_lookup (Get name path) = true
is_lookup Names = true
is_lookup Rules = true
is_lookup (Begin bare) = true
is_lookup Commit = true
is_lookup Bad = true
is_lookup _ = false

-- ... but for the first of these: its answer needs no page
abbrev pub needs_no_page : Command → Bool
needs_no_page Names = true
needs_no_page Rules = true
needs_no_page (Begin bare) = true
needs_no_page Commit = true
needs_no_page Bad = true
needs_no_page _ = false

-- ... nor does that to a transaction without commands
abbrev pub needs_no_page_request : Request → Bool
needs_no_page_request (Single command) = needs_no_page command
needs_no_page_request (Transaction []) = true
needs_no_page_request (Transaction (command ∷ commands)) = false

-- the catalog of what is held has this entry under the name
abbrev pub IsEntryOf : Held → List ℕ → DocEntry → Type 0
IsEntryOf held name entry = (contents : Contents) × IsCatalog held.catalog.bytes contents × (get contents.documents name ≡ Some entry)

-- So many pages at most are read for the node at a path, where this document has the name, or none has it: those of the records that the path leads through from the root's on and of the
-- node's content, or none.
abbrev pub GetReads : Held → (name path : List ℕ) → Option CutTree → ℕ → Type 0
GetReads held name path None pages = pages ≡ 0
GetReads held name path (Some document) pages = (entry : DocEntry) × IsEntryOf held name entry × ReadsShown held (place_of entry.root) path (at (tree_of document) path) 0 pages

-- A command reads so many pages at most of what is held, which is this state. Of those that are no lookups nothing is said.
abbrev pub ReadsFor : Held → State → Command → ℕ → Type 0
ReadsFor held state (Get name path) pages = GetReads held name path (get state.documents name) pages
ReadsFor held state Names pages = pages ≡ 0
ReadsFor held state Rules pages = pages ≡ 0
ReadsFor held state (Begin bare) pages = pages ≡ 0
ReadsFor held state Commit pages = pages ≡ 0
ReadsFor held state Bad pages = pages ≡ 0
ReadsFor held state _ pages = Unit {0}

-- From each state that the store was at, the command read no more pages than that.
abbrev pub ReadsWithin : {D : Type 0} → Ghosts D → Command → Store → D → D → Type 0
ReadsWithin d command store before after =
    (state : State) (at : IsAt d store before state) → (pages : ℕ) × (d.reads after ≤ d.reads before + pages) × ReadsFor at.held state command pages

-- Where the contents are told at the end and the output is told and as it was, an export read no more pages than a `get` of the document's first child may.
abbrev pub ReadsToFirst : {D : Type 0} → Ghosts D → (name : List ℕ) → Store → D → D → Type 0
ReadsToFirst d name store before after = LeavesOutput d before after → ReadsWithin d (Get name (0 ∷ [])) store before after
