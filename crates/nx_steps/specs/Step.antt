-- What a command does to a store, and what it is answered.
use Rattle.std.specs.Prelude.{◌≡◌, ◌⊎◌, ℕ, ◌+◌, Bool, true, false, IsTrue, List, [], ◌∷◌, map, Some}
use Rattle.std.specs.Option.{option_map_or, MatchOption}
use Rattle.std.specs.List.{sum}
use Rattle.std.specs.FinMap.{get, insert, remove, entries, values, from_sorted}
use Rattle.nx_tree.specs.Forest.{OrderedTree, nodes}
use Rattle.nx_tree.specs.Edit.{at}
use Rattle.nx_pyx.specs.Text.{text}
use Rattle.nx_cuts.specs.Cut.{CutTree, tree_of}
use Rattle.nx_matrix.specs.declared.rule.Rule.{Rule}
use Rattle.nx_matrix.specs.Rules.{AreRules, SetsEntry}
use Rattle.nx_script.specs.declared.command.LoadBody.TheVariants as load
use Rattle.nx_script.specs.declared.command.LineBody.TheVariants as line
use Rattle.nx_script.specs.declared.command.TextBody.TheVariants as content
use Rattle.nx_script.specs.declared.command.Command.{Command}
use Rattle.nx_script.specs.declared.command.Command.TheVariants.{Load, Discard, Rename, Names, Export, Insert, Delete, Retext, Get, Layout, SetRule, Rules, Checkpoint}
use Rattle.nx_script.specs.declared.reply.Reply.{Reply}
use Rattle.nx_script.specs.declared.reply.Reply.TheVariants as reply
use Rattle.nx_script.specs.declared.reply.ReplyError.TheVariants.{NoNode, Full}
use Rattle.nx_engine.specs.Documents.{Documents}
use Rattle.nx_engine.specs.Step.{shown, documents_after}
use Rattle.nx_hold.specs.Contents.{tree_pages}
use Rattle.nx_state.specs.State.{State}
use Rattle.nx_steps.specs.Answers.{Answers, Refuses, by_stored_document, cut_document_line, laid, with_document, Loads, MayBeFull}
use Rattle.nx_drawn.specs.Edits.{inserted, deleted, retexted}
use Rattle.nx_drawn.specs.Splits.{Splits}
use Rattle.nx_steps.specs.Refusal.{refusal}

-- the trees of a state, without their intervals
abbrev pub trees : State → Documents
trees state = from_sorted (map (λ entry. (entry.0, tree_of entry.1)) (entries state.documents))

-- a sum over all of these
abbrev pub sum_over : (OrderedTree → ℕ) → Documents → ℕ
sum_over count documents = sum (map count (values documents))

-- ... and over those after the command, as if it had its effect: of their nodes, and of the chain pages that their long contents take
abbrev pub sum_after : (OrderedTree → ℕ) → State → Command → ℕ
sum_after count state command = sum_over count (documents_after (trees state) command)

abbrev pub nodes_after : State → Command → ℕ
nodes_after state command = sum_after (λ tree. 1 + nodes tree.below) state command

abbrev pub pages_after : State → Command → ℕ
pages_after state command = sum_after tree_pages state command

-- The document of that name becomes one that `Becomes` allows.
pub record Edits (state : State) (name : List ℕ) (Becomes : CutTree → CutTree → Type 0) (next : State) : Type 0 where
  pub old : CutTree
  pub new : CutTree
  pub there : get state.documents name ≡ Some old
  pub becomes : Becomes old new
  pub next_is : next ≡ with_document state name new

-- The document of the old name is that of the new one.
pub record Renames (state : State) (old new : List ℕ) (next : State) : Type 0 where
  pub document : CutTree
  pub there : get state.documents old ≡ Some document
  pub next_is : next ≡ record state { documents = insert (remove state.documents old) new document }

-- The rules say of a pair what this one says, and of each other pair what they said.
pub record Sets (state : State) (rule : Rule) (next : State) : Type 0 where
  pub rules : List Rule
  pub are_rules : AreRules rules
  pub sets : SetsEntry state.rules rules rule.parent rule.child rule.entry
  pub next_is : next ≡ record state { rules = rules }

-- The command has its effect, and this is its reply. None that is refused has one.
abbrev pub Effect : State → Command → Reply → State → Type 0
Effect state (Load name (load.Read tree)) r next = Loads state name tree r next
Effect state (Discard name) r next = (r ≡ reply.Done) × (next ≡ record state { documents = remove state.documents name })
Effect state (Rename old new) r next = (r ≡ reply.Done) × Renames state old new next
Effect state Names r next = Answers state (reply.Names (map cut_document_line (entries state.documents))) r next
Effect state (Export name) r next = Answers state (by_stored_document state name (λ document. reply.Exported (text (tree_of document)))) r next
Effect state (Insert name path (line.Read node)) r next = (r ≡ reply.Done) × Edits state name (λ old. Splits state.settings state.rules (inserted state.rules node path old)) next
Effect state (Delete name path) r next = (r ≡ reply.Done) × Edits state name (λ old new. new ≡ deleted path old) next
Effect state (Retext name path (content.Read bytes)) r next = (r ≡ reply.Done) × Edits state name (λ old. Splits state.settings state.rules (retexted bytes path old)) next
Effect state (Get name path) r next = Answers state (by_stored_document state name (λ document. option_map_or shown (at (tree_of document) path) (reply.Refused NoNode))) r next
Effect state (Layout name) r next = Answers state (by_stored_document state name laid) r next
Effect state (SetRule rule) r next = (r ≡ reply.Done) × Sets state rule next
Effect state Rules r next = Answers state (reply.Rules state.rules) r next
Effect state Checkpoint r next = Answers state reply.Done r next
Effect state _ r next = ⊥

-- the command may change what is stored
abbrev pub may_change : Command → Bool
may_change (Load name body) = true
may_change (Discard name) = true
may_change (Rename old new) = true
may_change (Insert name path said) = true
may_change (Delete name path) = true
may_change (Retext name path said) = true
may_change (SetRule rule) = true
may_change _ = false

-- the command may need pages
abbrev pub may_need_room : Command → Bool
may_need_room (Load name body) = true
may_need_room (Rename old new) = true
may_need_room (Insert name path said) = true
may_need_room (Delete name path) = true
may_need_room (Retext name path said) = true
may_need_room (SetRule rule) = true
may_need_room _ = false

-- there may not be room for what the command would leave, and so it is refused
pub record FindsNoRoom (state : State) (command : Command) (r : Reply) (next : State) : Type 0 where
  pub needs : IsTrue (may_need_room command)
  pub full : MayBeFull state (nodes_after state command) (pages_after state command)
  pub refused : Refuses state Full r next

-- A command is answered so in a state, and leaves the next: it is refused for the first reason that applies, or has its effect, or there may be no room for it.
abbrev pub Step : State → Command → Reply → State → Type 0
Step state command r next =
    MatchOption (refusal state command) (Effect state command r next ⊎ FindsNoRoom state command r next) (λ error. Refuses state error r next)

-- The commands are answered so, one after the other, from the state on, and leave the last state.
abbrev pub RunsTo : State → List Command → List Reply → State → Type 0
RunsTo state [] [] last = last ≡ state
RunsTo state (command ∷ commands) (r ∷ replies) last = (next : State) × Step state command r next × RunsTo next commands replies last
RunsTo state commands replies last = ⊥
