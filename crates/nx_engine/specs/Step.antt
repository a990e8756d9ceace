-- What a command is answered, and what it leaves.
use Rattle.std.specs.Prelude.{ℕ, ◌+◌, nat_lt, if◌then◌else◌, List, [], ◌∷◌, length, map, fold, Option, None, Some, option_and_then}
use Rattle.std.specs.Option.{option_map_or, option_or, is_none}
use Rattle.std.specs.FinMap.{get, contains_key, insert, remove, entries}
use Rattle.nx_tree.specs.declared.error.TreeError.{TreeError}
use Rattle.nx_tree.specs.declared.error.TreeError.TheVariants as tree_error
use Rattle.nx_tree.specs.Forest.{OrderedTree, nodes, trees_of}
use Rattle.nx_tree.specs.Document.{longest_node}
use Rattle.nx_tree.specs.Edit.{at, put, cut_at, retext, insert_refusal, delete_refusal, retext_refusal}
use Rattle.nx_pyx.specs.declared.error.PyxFault.TheVariants.{LongLine}
use Rattle.nx_pyx.specs.Fault.{fault_at}
use Rattle.nx_pyx.specs.Text.{text}
use Rattle.nx_script.specs.declared.command.LoadBody.{LoadBody}
use Rattle.nx_script.specs.declared.command.LoadBody.TheVariants as load
use Rattle.nx_script.specs.declared.command.LineBody.{LineBody}
use Rattle.nx_script.specs.declared.command.LineBody.TheVariants as line
use Rattle.nx_script.specs.declared.command.TextBody.{TextBody}
use Rattle.nx_script.specs.declared.command.TextBody.TheVariants as content
use Rattle.nx_script.specs.declared.command.Command.{Command}
use Rattle.nx_script.specs.declared.command.Command.TheVariants.{Load, Discard, Rename, Names, Export, Insert, Delete, Retext, Get, Layout, SetRule, Rules, Checkpoint, Begin, Commit, Bad}
use Rattle.nx_script.specs.declared.reply.DocLine.{DocLine}
use Rattle.nx_script.specs.declared.reply.Reply.{Reply}
use Rattle.nx_script.specs.declared.reply.Reply.TheVariants as reply
use Rattle.nx_script.specs.declared.reply.ReplyError.{ReplyError}
use Rattle.nx_script.specs.declared.reply.ReplyError.TheVariants.{Syntax, NoDocument, Exists, Pyx, NoNode, BadPlace, Twice, NoContent, TooDeep, TooMany}
use Rattle.nx_engine.specs.Documents.{Documents}

-- a refusal of an edit, as a script words it; want of memory is none
abbrev pub worded : TreeError → Option ReplyError
worded tree_error.NoNode = Some NoNode
worded tree_error.BadPlace = Some BadPlace
worded tree_error.Twice = Some Twice
worded tree_error.NoContent = Some NoContent
worded tree_error.TooDeep = Some TooDeep
worded tree_error.TooMany = Some TooMany
worded tree_error.Memory = None

-- why a line can't be put at a path: it is no node, or the place refuses it
abbrev pub insert_fault : List ℕ → LineBody → OrderedTree → Option ReplyError
insert_fault path (line.Wrong error) tree = Some (Pyx error)
insert_fault path (line.Read node) tree = option_and_then worded (insert_refusal node path tree)

abbrev pub delete_fault : List ℕ → OrderedTree → Option ReplyError
delete_fault path tree = option_and_then worded (delete_refusal path tree)

-- the name of the node at a path, and no bytes where there is no node
abbrev pub name_at : List ℕ → OrderedTree → List ℕ
name_at path tree = option_map_or (λ t. t.node.name) (at tree path) []

-- a content with which the node at a path would have too many bytes
abbrev pub long_fault : List ℕ → List ℕ → OrderedTree → Option ReplyError
long_fault path bytes tree = if nat_lt longest_node (length (name_at path tree) + length bytes) then Some (Pyx (fault_at 1 LongLine)) else None

-- why a node's content can't become this one
abbrev pub retext_fault : List ℕ → TextBody → OrderedTree → Option ReplyError
retext_fault path (content.Wrong error) tree = Some (Pyx error)
retext_fault path (content.Read bytes) tree = option_or (long_fault path bytes tree) (option_and_then worded (retext_refusal path tree))

-- an edit is done, or refused for this reason
abbrev pub done_unless : Option ReplyError → Reply
done_unless fault = option_map_or (λ error. reply.Refused error) fault reply.Done

-- the answer of the document of that name, where there is one
abbrev pub by_document : Documents → List ℕ → (OrderedTree → Reply) → Reply
by_document documents name answer_of = option_map_or answer_of (get documents name) (reply.Refused NoDocument)

abbrev pub loaded : LoadBody → Reply
loaded (load.Read tree) = reply.Loaded (1 + nodes tree.below) 0
loaded (load.Wrong error) = reply.Refused (Pyx error)

abbrev pub shown : OrderedTree → Reply
shown tree = reply.Shown tree.node (length (trees_of tree.below))

-- a document's name and its number of nodes
abbrev pub document_line : List ℕ × OrderedTree → DocLine
document_line entry = record { name = entry.0; nodes = 1 + nodes entry.1.below }

-- What a command is answered. Trees in memory have no intervals, no rules and no log, so lines that ask for them are none.
abbrev pub reply_to : Documents → Command → Reply
reply_to documents (Load name body) = if contains_key documents name then reply.Refused Exists else loaded body
reply_to documents (Discard name) = by_document documents name (λ _. reply.Done)
reply_to documents (Rename old new) = by_document documents old (λ _. if contains_key documents new then reply.Refused Exists else reply.Done)
reply_to documents Names = reply.Names (map document_line (entries documents))
reply_to documents (Export name) = by_document documents name (λ tree. reply.Exported (text tree))
reply_to documents (Insert name path body) = by_document documents name (λ tree. done_unless (insert_fault path body tree))
reply_to documents (Delete name path) = by_document documents name (λ tree. done_unless (delete_fault path tree))
reply_to documents (Retext name path body) = by_document documents name (λ tree. done_unless (retext_fault path body tree))
reply_to documents (Get name path) = by_document documents name (λ tree. option_map_or shown (at tree path) (reply.Refused NoNode))
reply_to documents (Layout name) = reply.Refused Syntax
reply_to documents (SetRule rule) = reply.Refused Syntax
reply_to documents Rules = reply.Refused Syntax
reply_to documents Checkpoint = reply.Refused Syntax
reply_to documents (Begin bare) = reply.Refused Syntax
reply_to documents Commit = reply.Refused Syntax
reply_to documents Bad = reply.Refused Syntax

-- the documents after an edit of one, unless there is none of that name or it is refused
abbrev pub documents_edited : Documents → List ℕ → (OrderedTree → Option ReplyError) → (OrderedTree → OrderedTree) → Documents
documents_edited documents name fault change =
    option_map_or (λ tree. if is_none (fault tree) then insert documents name (change tree) else documents) (get documents name) documents

-- the documents with that of the old name under the new one, where there is one
abbrev pub documents_renamed : Documents → List ℕ → List ℕ → Documents
documents_renamed documents old new = option_map_or (insert (remove documents old) new) (get documents old) documents

-- the documents after a command
abbrev pub documents_after : Documents → Command → Documents
documents_after documents (Load name (load.Read tree)) = if contains_key documents name then documents else insert documents name tree
documents_after documents (Load name (load.Wrong error)) = documents
documents_after documents (Discard name) = remove documents name
documents_after documents (Rename old new) = if contains_key documents new then documents else documents_renamed documents old new
documents_after documents (Insert name path (line.Read node)) = documents_edited documents name (insert_fault path (line.Read node)) (put node path)
documents_after documents (Insert name path (line.Wrong error)) = documents
documents_after documents (Delete name path) = documents_edited documents name (delete_fault path) (cut_at path)
documents_after documents (Retext name path (content.Read bytes)) = documents_edited documents name (retext_fault path (content.Read bytes)) (retext bytes path)
documents_after documents (Retext name path (content.Wrong error)) = documents
documents_after documents _ = documents

-- the replies to commands, one after the other
abbrev pub replies : Documents → List Command → List Reply
replies documents [] = []
replies documents (command ∷ commands) = reply_to documents command ∷ replies (documents_after documents command) commands

-- the documents after commands
abbrev pub after_all : Documents → List Command → Documents
after_all documents commands = fold documents_after documents commands
