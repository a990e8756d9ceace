-- What a store says of what the crates below it say.
use Rattle.std.specs.Prelude.{ℕ, List, Option, None, Some, Bool, true, false}
use Rattle.nx_records.specs.declared.error.StoreError.{StoreError}
use Rattle.nx_records.specs.declared.error.StoreError.TheVariants as below
use Rattle.nx_nav.specs.declared.error.NavError.{NavError}
use Rattle.nx_nav.specs.declared.error.NavError.TheVariants as nav
use Rattle.nx_edit.specs.declared.error.EditError.{EditError}
use Rattle.nx_edit.specs.declared.error.EditError.TheVariants as edit
use Rattle.nx_hold.specs.declared.entry.DocEntry.{DocEntry}
use Rattle.nx_script.specs.declared.reply.DocLine.{DocLine}
use Rattle.nx_store.specs.declared.error.EngineError.{EngineError}
use Rattle.nx_store.specs.declared.error.EngineError.TheVariants as error

-- why a call of the store gives up whose call of records gave up so; that no page is free is a reply, or doesn't come
abbrev pub told_error : StoreError → Option EngineError
told_error below.Disk = Some error.Disk
told_error below.Exists = Some error.Exists
told_error below.NotAStore = Some error.NotAStore
told_error below.Full = None
told_error (below.Damaged page) = Some (error.Damaged page)
told_error below.Ended = Some error.Ended
told_error below.Memory = Some error.Memory

-- ... and whose look at a document gave up so; that there is no node is a reply
abbrev pub told_by : NavError → Option EngineError
told_by nav.NoNode = None
told_by nav.Disk = Some error.Disk
told_by nav.Write = Some error.Write
told_by (nav.Damaged page) = Some (error.Damaged page)
told_by nav.Ended = Some error.Ended
told_by nav.Memory = Some error.Memory

abbrev pub is_no_node : NavError → Bool
is_no_node nav.NoNode = true
is_no_node _ = false

-- ... and whose call that takes a document away gave up so; why an edit is refused is a reply
abbrev pub told_removal : EditError → Option EngineError
told_removal edit.Disk = Some error.Disk
told_removal (edit.Damaged page) = Some (error.Damaged page)
told_removal edit.Ended = Some error.Ended
told_removal edit.Memory = Some error.Memory
told_removal _ = None

-- the line of a document in the list of all, by its entry in the catalog
abbrev pub line_of : List ℕ × DocEntry → DocLine
line_of named = record { name = named.0; nodes = named.1.nodes }
