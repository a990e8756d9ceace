-- Laws of the plain step.
use Rattle.std.proofs.Common.{◌≡◌, ℕ, Bool, true, false, cond, List, length, ◌+◌, nat_lt, refl, sym, ap, ◌∙◌, Option, None, Some}
use Rattle.std.specs.Prelude.{option_and_then, Result, Ok, Err, IfOk, OnOk}
use Rattle.std.specs.Option.{option_map_or, option_or, is_none}
use Rattle.std.specs.Result.{result_err}
use Rattle.std.proofs.lemmas.Bool.{cond-false}
use Rattle.std.specs.FinMap.{get, insert, remove, contains_key}
use Rattle.nx_lists.specs.declared.memory.NoMemory.{NoMemory}
use Rattle.nx_tree.specs.Forest.{OrderedTree, trees_of}
use Rattle.nx_tree.specs.declared.node.Node.{Node}
use Rattle.nx_tree.specs.declared.error.TreeError.{TreeError}
use Rattle.nx_tree.specs.declared.error.TreeError.TheVariants as tree_error
use Rattle.nx_tree.specs.Edit.{at, refusal_in, retext_refusal}
use Rattle.nx_tree.specs.Document.{longest_node}
use Rattle.nx_pyx.specs.declared.error.PyxFault.TheVariants.{LongLine}
use Rattle.nx_pyx.specs.Fault.{fault_at}
use Rattle.nx_script.specs.declared.command.LoadBody.{LoadBody}
use Rattle.nx_script.specs.declared.command.LoadBody.TheVariants as load
use Rattle.nx_script.specs.declared.command.LineBody.TheVariants as line
use Rattle.nx_script.specs.declared.command.TextBody.TheVariants as content
use Rattle.nx_script.specs.declared.command.Command.{Command}
use Rattle.nx_script.specs.declared.command.Command.TheVariants.{Load, Discard, Rename, Names, Export, Insert, Delete, Retext, Get, Layout, SetRule, Rules, Checkpoint, Begin, Commit, Bad}
use Rattle.nx_script.specs.declared.reply.Reply.{Reply}
use Rattle.nx_script.specs.declared.reply.Reply.TheVariants as reply
use Rattle.nx_script.specs.declared.reply.ReplyError.{ReplyError}
use Rattle.nx_script.specs.declared.reply.ReplyError.TheVariants.{NoDocument, Exists, Pyx, NoNode}
use Rattle.nx_engine.specs.Documents.{Documents}
use Rattle.nx_engine.specs.Step.{worded, done_unless, by_document, loaded, shown, reply_to, documents_edited, documents_after, name_at, insert_fault, delete_fault, retext_fault}
use Rattle.nx_engine.proofs.MapLemmas.{remove_absent}

-- an answer that may be a refusal is worded as one without want of memory
pub worded-refusal_in : {T : Type 0} (result : Result T TreeError) → option_and_then worded (refusal_in result) ≡ option_and_then worded (result_err result)
worded-refusal_in (Ok x) = refl
worded-refusal_in (Err tree_error.NoNode) = refl
worded-refusal_in (Err tree_error.BadPlace) = refl
worded-refusal_in (Err tree_error.Twice) = refl
worded-refusal_in (Err tree_error.NoContent) = refl
worded-refusal_in (Err tree_error.TooDeep) = refl
worded-refusal_in (Err tree_error.TooMany) = refl
worded-refusal_in (Err tree_error.Memory) = refl

-- an edit that is refused leaves the documents
refused_edit : (documents : Documents) (name : List ℕ) (fault : OrderedTree → Option ReplyError) (change : OrderedTree → OrderedTree) (e : ReplyError) →
    by_document documents name (λ tree. done_unless (fault tree)) ≡ reply.Refused e → documents_edited documents name fault change ≡ documents
refused_edit documents name fault change e = at_tree (get documents name)
  where
    at_fault : (tree : OrderedTree) (f : Option ReplyError) → done_unless f ≡ reply.Refused e → cond (is_none f) (insert documents name (change tree)) documents ≡ documents
    at_fault tree None r = cc
    at_fault tree (Some x) r = refl

    at_tree : (found : Option OrderedTree) → option_map_or (λ tree. done_unless (fault tree)) found (reply.Refused NoDocument) ≡ reply.Refused e →
        option_map_or (λ tree. cond (is_none (fault tree)) (insert documents name (change tree)) documents) found documents ≡ documents
    at_tree None r = refl
    at_tree (Some tree) r = at_fault tree (fault tree) r

refused_discard : (documents : Documents) (name : List ℕ) (e : ReplyError) → by_document documents name (λ _. reply.Done) ≡ reply.Refused e → remove documents name ≡ documents
refused_discard documents name e = at_found (get documents name) refl
  where
    at_found : (found : Option OrderedTree) → get documents name ≡ found → option_map_or (λ _. reply.Done) found (reply.Refused NoDocument) ≡ reply.Refused e → remove documents name ≡ documents
    at_found None is r = remove_absent documents name is
    at_found (Some tree) is r = cc

refused_load : (documents : Documents) (name : List ℕ) (tree : OrderedTree) (there : Bool) (e : ReplyError) →
    cond there (reply.Refused Exists) (loaded (load.Read tree)) ≡ reply.Refused e → cond there documents (insert documents name tree) ≡ documents
refused_load documents name tree true e r = refl
refused_load documents name tree false e r = cc

refused_rename : (documents : Documents) (old new : List ℕ) (there : Bool) (found : Option OrderedTree) (e : ReplyError) →
    option_map_or (λ _. cond there (reply.Refused Exists) reply.Done) found (reply.Refused NoDocument) ≡ reply.Refused e →
    cond there documents (option_map_or (insert (remove documents old) new) found documents) ≡ documents
refused_rename documents old new true found e r = refl
refused_rename documents old new false None e r = refl
refused_rename documents old new false (Some tree) e r = cc

-- a command that is refused changes nothing
pub refused_after : (documents : Documents) (command : Command) (e : ReplyError) → reply_to documents command ≡ reply.Refused e → documents_after documents command ≡ documents
refused_after documents (Load name (load.Read tree)) e r = refused_load documents name tree (contains_key documents name) e r
refused_after documents (Load name (load.Wrong error)) e r = refl
refused_after documents (Discard name) e r = refused_discard documents name e r
refused_after documents (Rename old new) e r = refused_rename documents old new (contains_key documents new) (get documents old) e r
refused_after documents Names e r = refl
refused_after documents (Export name) e r = refl
refused_after documents (Insert name path (line.Read node)) e r = refused_edit documents name (insert_fault path (line.Read node)) _ e r
refused_after documents (Insert name path (line.Wrong error)) e r = refl
refused_after documents (Delete name path) e r = refused_edit documents name (delete_fault path) _ e r
refused_after documents (Retext name path (content.Read bytes)) e r = refused_edit documents name (retext_fault path (content.Read bytes)) _ e r
refused_after documents (Retext name path (content.Wrong error)) e r = refl
refused_after documents (Get name path) e r = refl
refused_after documents (Layout name) e r = refl
refused_after documents (SetRule rule) e r = refl
refused_after documents Rules e r = refl
refused_after documents Checkpoint e r = refl
refused_after documents (Begin bare) e r = refl
refused_after documents Commit e r = refl
refused_after documents Bad e r = refl

-- the same, of what a call may not end
pub refused_leaves : (documents left : Documents) (command : Command) (r : Result Reply NoMemory) → IfOk r (λ said. said ≡ reply_to documents command) →
    OnOk r (left ≡ documents_after documents command) → IfOk r (λ said. (e : ReplyError) → said ≡ reply.Refused e → left ≡ documents)
refused_leaves documents left command (Ok x) is leaves = λ e r. leaves ∙ refused_after documents command e (sym is ∙ r)
refused_leaves documents left command (Err e) is leaves = tt

pub by_found : (documents : Documents) (name : List ℕ) (tree : OrderedTree) (answer_of : OrderedTree → Reply) → get documents name ≡ Some tree → by_document documents name answer_of ≡ answer_of tree
by_found documents name tree answer_of e = ap (λ o. option_map_or answer_of o (reply.Refused NoDocument)) e

pub by_absent : (documents : Documents) (name : List ℕ) (answer_of : OrderedTree → Reply) → get documents name ≡ None → by_document documents name answer_of ≡ reply.Refused NoDocument
by_absent documents name answer_of e = ap (λ o. option_map_or answer_of o (reply.Refused NoDocument)) e

pub load_present : (documents : Documents) (name : List ℕ) (body : LoadBody) → contains_key documents name ≡ true → documents_after documents (Load name body) ≡ documents
load_present documents name (load.Read tree) e = rw e refl
load_present documents name (load.Wrong error) e = refl

pub load_absent : (documents : Documents) (name : List ℕ) (body : LoadBody) (tree : OrderedTree) → contains_key documents name ≡ false → body ≡ load.Read tree → documents_after documents (Load name body) ≡ insert documents name tree
load_absent documents name body tree e is = ap (λ b. documents_after documents (Load name b)) is ∙ cond-false _ documents (insert documents name tree) e

pub shown_there : (documents : Documents) (name path : List ℕ) (tree found : OrderedTree) (node : Node) (n : ℕ) → get documents name ≡ Some tree → at tree path ≡ Some found →
    node ≡ found.node → n ≡ length (trees_of found.below) → reply.Shown node n ≡ reply_to documents (Get name path)
shown_there documents name path tree found node n g a e f =
    sym (by_found documents name tree _ g ∙ ap (λ o. option_map_or shown o (reply.Refused NoNode)) a ∙ ap (λ x. reply.Shown x (length (trees_of found.below))) (sym e) ∙ ap (reply.Shown node) (sym f))

pub shown_nowhere : (documents : Documents) (name path : List ℕ) (tree : OrderedTree) → get documents name ≡ Some tree → at tree path ≡ None → reply.Refused NoNode ≡ reply_to documents (Get name path)
shown_nowhere documents name path tree g a = sym (by_found documents name tree _ g ∙ ap (λ o. option_map_or shown o (reply.Refused NoNode)) a)

-- a content that is too long is refused so, whatever stands at the path
pub long_refused : (path bytes : List ℕ) (tree : OrderedTree) → nat_lt longest_node (length (name_at path tree) + length bytes) ≡ true → retext_fault path (content.Read bytes) tree ≡ Some (Pyx (fault_at 1 LongLine))
long_refused path bytes tree e = ap (λ b. option_or (cond b (Some (Pyx (fault_at 1 LongLine))) None) (option_and_then worded (retext_refusal path tree))) e

pub short_refused : (path bytes : List ℕ) (tree : OrderedTree) → nat_lt longest_node (length (name_at path tree) + length bytes) ≡ false → retext_fault path (content.Read bytes) tree ≡ option_and_then worded (retext_refusal path tree)
short_refused path bytes tree e = ap (λ b. option_or (cond b (Some (Pyx (fault_at 1 LongLine))) None) (option_and_then worded (retext_refusal path tree))) e

-- a document that gets another name
pub rename_nowhere : (documents : Documents) (old new : List ℕ) → get documents old ≡ None → documents_after documents (Rename old new) ≡ documents
rename_nowhere documents old new none = ap (λ o. cond (contains_key documents new) documents (option_map_or (insert (remove documents old) new) o documents)) none ∙ same (contains_key documents new)
  where
    same : (b : Bool) → cond b documents documents ≡ documents
    same true = refl
    same false = refl

pub rename_present : (documents : Documents) (old new : List ℕ) → contains_key documents new ≡ true → documents_after documents (Rename old new) ≡ documents
rename_present documents old new e = ap (λ b. cond b documents (option_map_or (insert (remove documents old) new) (get documents old) documents)) e

pub rename_done : (documents : Documents) (old new : List ℕ) (tree : OrderedTree) → get documents old ≡ Some tree → contains_key documents new ≡ false →
    documents_after documents (Rename old new) ≡ insert (remove documents old) new tree
rename_done documents old new tree there absent =
    ap (λ b. cond b documents (option_map_or (insert (remove documents old) new) (get documents old) documents)) absent
    ∙ ap (λ o. option_map_or (insert (remove documents old) new) o documents) there

pub rename_reply : (documents : Documents) (old new : List ℕ) (tree : OrderedTree) → get documents old ≡ Some tree →
    reply_to documents (Rename old new) ≡ cond (contains_key documents new) (reply.Refused Exists) reply.Done
rename_reply documents old new tree there = by_found documents old tree (λ _. cond (contains_key documents new) (reply.Refused Exists) reply.Done) there
