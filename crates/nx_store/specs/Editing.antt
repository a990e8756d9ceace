-- Edits of documents as commands, why one wasn't prepared, and what is answered then.
use Rattle.std.specs.Prelude.{◌≡◌, ◌≤◌, ℕ, Bool, true, false, List, length, Option, Result, Ok, Err}
use Rattle.nx_host.specs.Disk.{Rose}
use Rattle.nx_host.specs.declared.disk.Disk.{Ghosts}
use Rattle.nx_tree.specs.Forest.{OrderedTree}
use Rattle.nx_tree.specs.Document.{IsNode, longest_node}
use Rattle.nx_tree.specs.Edit.{cut_at, put, retext}
use Rattle.nx_records.specs.Words.{Settings}
use Rattle.nx_records.specs.declared.records.Records.{Records}
use Rattle.nx_cuts.specs.Cut.{CutTree}
use Rattle.nx_layouts.specs.Layout.{LaidNode, Layout, nodes_in}
use Rattle.nx_hold.specs.declared.entry.DocEntry.{DocEntry}
use Rattle.nx_hold.specs.Contents.{bytes_pages, content_pages}
use Rattle.nx_matrix.specs.declared.rule.Rule.{Rule}
use Rattle.nx_script.specs.declared.command.Command.{Command}
use Rattle.nx_script.specs.declared.command.Command.TheVariants as command
use Rattle.nx_script.specs.declared.command.LineBody.TheVariants as line
use Rattle.nx_script.specs.declared.command.TextBody.TheVariants as said
use Rattle.nx_pyx.specs.declared.error.PyxError.{PyxError}
use Rattle.nx_pyx.specs.declared.error.PyxFault.TheVariants.{LongLine}
use Rattle.nx_pyx.specs.Fault.{fault_at}
use Rattle.nx_drawn.specs.Edits.{deleted, inserted, retexted}
use Rattle.nx_drawn.specs.Splits.{Splits}
use Rattle.nx_edit.specs.Editing.{nodes_off, EditsDocument}
use Rattle.nx_edit.specs.Refusals.{deletion_fault, is_of_path, edit_needs, NotEdited}
use Rattle.nx_edit.specs.Inserting.{insertion_fault, is_of_insertion}
use Rattle.nx_edit.specs.Retexting.{content_fault, is_of_content}
use Rattle.nx_script.specs.declared.reply.Reply.{Reply}
use Rattle.nx_script.specs.declared.reply.ReplyError.{ReplyError}
use Rattle.nx_script.specs.declared.reply.ReplyError.TheVariants as refused
use Rattle.nx_edit.specs.declared.error.EditError.{EditError}
use Rattle.nx_edit.specs.declared.error.EditError.TheVariants as edit
use Rattle.nx_store.specs.Store.{HoldsNoState, EndsNow}
use Rattle.nx_store.specs.Changing.{IsStoreLeft, StepsRefused}
use Rattle.nx_store.specs.declared.editing.Edit.{Edit}
use Rattle.nx_store.specs.declared.editing.Edit.TheVariants as made
use Rattle.nx_store.specs.declared.edits.EditBody.{EditBody}
use Rattle.nx_store.specs.declared.edits.EditBody.TheVariants as body
use Rattle.nx_store.specs.declared.store.Store.{Store}
use Rattle.nx_store.specs.declared.error.EngineError.{EngineError}
use Rattle.nx_store.specs.declared.error.EngineError.TheVariants as told

-- the command of an edit
abbrev pub edit_command : (name path : List ℕ) → Edit → Command
edit_command name path made.Delete = command.Delete name path
edit_command name path (made.Retext content) = command.Retext name path (said.Read content)
edit_command name path (made.Insert node) = command.Insert name path (line.Read node)

-- the command that says an edit so
abbrev pub said_command : (name path : List ℕ) → EditBody → Command
said_command name path body.Delete = command.Delete name path
said_command name path (body.Retext text) = command.Retext name path text
said_command name path (body.Insert said) = command.Insert name path said

-- the edit that is said, or the fault of the line that says none
abbrev pub said_edit : EditBody → Result Edit PyxError
said_edit body.Delete = Ok made.Delete
said_edit (body.Retext (said.Read content)) = Ok (made.Retext content)
said_edit (body.Retext (said.Wrong error)) = Err error
said_edit (body.Insert (line.Read node)) = Ok (made.Insert node)
said_edit (body.Insert (line.Wrong error)) = Err error

-- the content is no longer than one of a node may be, and the node may stand in a document
abbrev pub CanBeMade : Edit → Type 0
CanBeMade made.Delete = Unit {0}
CanBeMade (made.Retext content) = length content ≤ longest_node
CanBeMade (made.Insert node) = IsNode node

-- why the edit at the path of a document is refused, whose parts weigh k at most; and whether it can be for this reason
abbrev pub edit_fault : Edit → List ℕ → (k : ℕ) → OrderedTree → Option EditError
edit_fault made.Delete path k = deletion_fault path
edit_fault (made.Retext content) path k = content_fault content path k
edit_fault (made.Insert node) path k = insertion_fault node path k

abbrev pub is_of_edit : Edit → EditError → Bool
is_of_edit made.Delete = is_of_path
is_of_edit (made.Retext content) = is_of_content
is_of_edit (made.Insert node) = is_of_insertion

-- the edit of the document's tree
abbrev pub tree_edit : Edit → List ℕ → OrderedTree → OrderedTree
tree_edit made.Delete path = cut_at path
tree_edit (made.Retext content) path = retext content path
tree_edit (made.Insert node) path = put node path

-- what the document with its intervals becomes
abbrev pub EditBecomes : Settings → List Rule → Edit → List ℕ → CutTree → CutTree → Type 0
EditBecomes settings rules made.Delete path old new = new ≡ deleted path old
EditBecomes settings rules (made.Retext content) path old new = Splits settings rules (retexted content path old) new
EditBecomes settings rules (made.Insert node) path old new = Splits settings rules (inserted rules node path old) new

-- what stands below the path's end stays
abbrev pub stays_below : Edit → Bool
stays_below made.Delete = false
stays_below (made.Retext content) = true
stays_below (made.Insert node) = true

-- the nodes of a layout that the edit at a path keeps with their contents, and how many chain pages the content takes that it puts
abbrev pub edit_kept : Edit → List ℕ → Layout → List LaidNode
edit_kept made.Delete path = nodes_off false path
edit_kept (made.Retext content) path = nodes_off true path
edit_kept (made.Insert node) path = nodes_in

abbrev pub edit_pages : Edit → ℕ
edit_pages made.Delete = 0
edit_pages (made.Retext content) = bytes_pages content
edit_pages (made.Insert node) = content_pages node

-- The document of an entry was edited so, and has another entry.
abbrev pub MakesEdit : {D : Type 0} → Ghosts D → Records → Records → D → D → List Rule → Edit → List ℕ → (old new : DocEntry) → Type 0
MakesEdit d old new before after rules edit path = EditsDocument d old new before after (λ settings. EditBecomes settings rules edit path) (stays_below edit) path (edit_kept edit path) (edit_pages edit)

-- why it wasn't edited, where its parts weigh k at most, and what that leaves
abbrev pub NotMade : {D : Type 0} → Ghosts D → Edit → List ℕ → (k : ℕ) → DocEntry → EditError → Records → Records → D → D → Type 0
NotMade d edit path k = NotEdited d (is_of_edit edit) (edit_fault edit path k) (edit_needs (tree_edit edit path) (edit_kept edit path) (edit_pages edit))

-- how a script words why an edit at a path is refused; the others are no refusals
abbrev pub edit_reply : List ℕ → EditError → ReplyError
edit_reply path edit.NoNode = refused.NoNode
edit_reply path edit.BadPlace = refused.BadPlace
edit_reply path edit.Twice = refused.Twice
edit_reply path edit.NoContent = refused.NoContent
edit_reply path edit.TooLong = refused.Pyx (fault_at 1 LongLine)
edit_reply path edit.TooDeep = refused.TooDeep
edit_reply path edit.TooMany = refused.TooMany
edit_reply path (edit.TooHeavy weight) = refused.TooHeavy path weight
edit_reply path edit.Full = refused.Full
edit_reply path _ = refused.Syntax

-- Why an edit at a path wasn't prepared, and what that leaves.
abbrev pub EditNotPrepared : {D : Type 0} → Ghosts D → Command → List ℕ → EditError → Store → Store → D → D → Type 0
EditNotPrepared d command path edit.Disk old new before after = Rose (d.faults before) (d.faults after) × EndsNow old new
EditNotPrepared d command path (edit.Damaged page) old new before after = EndsNow old new × HoldsNoState d old before
EditNotPrepared d command path edit.Ended old new before after = ⊥
EditNotPrepared d command path edit.Memory old new before after = IsStoreLeft d old new before after
EditNotPrepared d command path e old new before after = IsStoreLeft d old new before after × StepsRefused d command (edit_reply path e) old before

-- what is told of an edit at a path that wasn't prepared
abbrev pub IsEditCause : List ℕ → EditError → Result (Result Reply ReplyError) EngineError → Type 0
IsEditCause path edit.Disk result = result ≡ Err told.Disk
IsEditCause path (edit.Damaged page) result = result ≡ Err (told.Damaged page)
IsEditCause path edit.Ended result = result ≡ Err told.Ended
IsEditCause path edit.Memory result = result ≡ Err told.Memory
IsEditCause path e result = result ≡ Ok (Err (edit_reply path e))
