-- Why a command is refused, want of room aside.
use Rattle.std.specs.Prelude.{ℕ, not, ◌&&◌, ◌==◌, nat_lt, if◌then◌else◌, List, length, Option, None, Some, is_some}
use Rattle.std.specs.Option.{option_map_or, option_or}
use Rattle.std.specs.FinMap.{get, contains_key}
use Rattle.nx_tree.specs.declared.node.Node.{Node}
use Rattle.nx_tree.specs.Forest.{OrderedTree}
use Rattle.nx_tree.specs.Edit.{at}
use Rattle.nx_weights.specs.Weight.{weight}
use Rattle.nx_cuts.specs.Cut.{tree_of}
use Rattle.nx_matrix.specs.declared.rule.Rule.{Rule}
use Rattle.nx_matrix.specs.Rules.{has_rule, most_rules, is_free}
use Rattle.nx_script.specs.declared.command.LoadBody.{LoadBody}
use Rattle.nx_script.specs.declared.command.LoadBody.TheVariants as load
use Rattle.nx_script.specs.declared.command.LineBody.{LineBody}
use Rattle.nx_script.specs.declared.command.LineBody.TheVariants as line
use Rattle.nx_script.specs.declared.command.TextBody.{TextBody}
use Rattle.nx_script.specs.declared.command.TextBody.TheVariants as content
use Rattle.nx_script.specs.declared.command.Command.{Command}
use Rattle.nx_script.specs.declared.command.Command.TheVariants.{Load, Discard, Rename, Names, Export, Insert, Delete, Retext, Get, Layout, SetRule, Rules, Checkpoint, Begin, Commit, Bad}
use Rattle.nx_script.specs.declared.reply.ReplyError.{ReplyError}
use Rattle.nx_script.specs.declared.reply.ReplyError.TheVariants.{Syntax, NoDocument, Exists, Pyx, NoNode, TooManyRules, TooHeavy}
use Rattle.nx_engine.specs.Step.{insert_fault, delete_fault, retext_fault}
use Rattle.nx_state.specs.State.{State}
use Rattle.nx_steps.specs.Answers.{heavy_fault}

-- there is no document of that name, or its tree has this fault
abbrev pub document_fault : State → List ℕ → (OrderedTree → Option ReplyError) → Option ReplyError
document_fault state name fault = option_map_or (λ document. fault (tree_of document)) (get state.documents name) (Some NoDocument)

-- the lines say no document, or a node of it outweighs the parts
abbrev pub load_fault : ℕ → LoadBody → Option ReplyError
load_fault k (load.Wrong error) = Some (Pyx error)
load_fault k (load.Read tree) = heavy_fault k tree

-- the node, which is to stand at the path, outweighs the parts
abbrev pub weight_fault : ℕ → List ℕ → Node → Option ReplyError
weight_fault k path node = if nat_lt k (weight node) then Some (TooHeavy path (weight node)) else None

-- the new node would outweigh the parts
abbrev pub inserted_fault : ℕ → List ℕ → LineBody → Option ReplyError
inserted_fault k path (line.Wrong error) = None
inserted_fault k path (line.Read node) = weight_fault k path node

-- the node at the path would outweigh the parts with its new content
abbrev pub retexted_fault : ℕ → List ℕ → TextBody → OrderedTree → Option ReplyError
retexted_fault k path (content.Wrong error) tree = None
retexted_fault k path (content.Read bytes) tree = option_map_or (λ t. weight_fault k path (record t.node { content = bytes })) (at tree path) None

-- no node stands at the path
abbrev pub node_fault : List ℕ → OrderedTree → Option ReplyError
node_fault path tree = if is_some (at tree path) then None else Some NoNode

-- the pair has no rule, it is to get one, and no more fit
abbrev pub rule_fault : List Rule → Rule → Option ReplyError
rule_fault rules rule = if not (is_free rule.entry) && not (has_rule rules rule.parent rule.child) && (length rules == most_rules) then Some TooManyRules else None

-- Why the command is refused: the first reason that applies, want of room aside.
abbrev pub refusal : State → Command → Option ReplyError
refusal state (Load name body) = if contains_key state.documents name then Some Exists else load_fault (state.settings).k body
refusal state (Discard name) = document_fault state name (λ tree. None)
refusal state (Rename old new) = document_fault state old (λ tree. if contains_key state.documents new then Some Exists else None)
refusal state Names = None
refusal state (Export name) = document_fault state name (λ tree. None)
refusal state (Insert name path said) = document_fault state name (λ tree. option_or (insert_fault path said tree) (inserted_fault (state.settings).k path said))
refusal state (Delete name path) = document_fault state name (delete_fault path)
refusal state (Retext name path said) = document_fault state name (λ tree. option_or (retext_fault path said tree) (retexted_fault (state.settings).k path said tree))
refusal state (Get name path) = document_fault state name (node_fault path)
refusal state (Layout name) = document_fault state name (λ tree. None)
refusal state (SetRule rule) = rule_fault state.rules rule
refusal state Rules = None
refusal state Checkpoint = None
refusal state (Begin bare) = Some Syntax
refusal state Commit = Some Syntax
refusal state Bad = Some Syntax
