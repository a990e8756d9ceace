-- What commands are answered, and what a load leaves.
use Rattle.std.specs.Prelude.{◌≡◌, ℕ, ◌+◌, ◌*◌, ◌≤◌, List, length, Option}
use Rattle.std.specs.Option.{option_map, option_map_or}
use Rattle.std.specs.FinMap.{get, insert}
use Rattle.nx_tree.specs.Forest.{OrderedTree, nodes}
use Rattle.nx_weights.specs.Weight.{first_heavy, weighed}
use Rattle.nx_parts.specs.Partitioning.{part_weights}
use Rattle.nx_parts.specs.Minima.{IsLeanOptimal}
use Rattle.nx_cuts.specs.Cut.{CutTree, AreParts, tree_of, parts_of}
use Rattle.nx_drawn.specs.Splits.{whole_document}
use Rattle.nx_script.specs.declared.reply.DocLine.{DocLine}
use Rattle.nx_script.specs.declared.reply.Reply.{Reply}
use Rattle.nx_script.specs.declared.reply.Reply.TheVariants as reply
use Rattle.nx_script.specs.declared.reply.ReplyError.{ReplyError}
use Rattle.nx_script.specs.declared.reply.ReplyError.TheVariants.{NoDocument, TooHeavy}
use Rattle.nx_state.specs.State.{State, document_size, all_nodes, all_pages}

-- the command is answered so, and changes nothing
abbrev pub Answers : State → Reply → Reply → State → Type 0
Answers state answer r next = (r ≡ answer) × (next ≡ state)

-- it is refused for this reason, and changes nothing
abbrev pub Refuses : State → ReplyError → Reply → State → Type 0
Refuses state error r next = Answers state (reply.Refused error) r next

-- the answer of the document of that name, where there is one
abbrev pub by_stored_document : State → List ℕ → (CutTree → Reply) → Reply
by_stored_document state name answer_of = option_map_or answer_of (get state.documents name) (reply.Refused NoDocument)

-- a document's name and its number of nodes
abbrev pub cut_document_line : List ℕ × CutTree → DocLine
cut_document_line entry = record { name = entry.0; nodes = document_size entry.1 }

-- its intervals, with the weights of their parts
abbrev pub laid : CutTree → Reply
laid document = reply.Laid (parts_of document) (part_weights (tree_of document) (parts_of document))

-- the state with one document more
abbrev pub with_document : State → List ℕ → CutTree → State
with_document state name document = record state { documents = insert state.documents name document }

-- A document was loaded, in a lean optimal partitioning, each of whose intervals is drawn with members of its own.
pub record Loads (state : State) (name : List ℕ) (tree : OrderedTree) (r : Reply) (next : State) : Type 0 where
  pub document : CutTree
  pub tree_is : tree_of document ≡ tree
  pub drawn : AreParts (state.settings).k (whole_document document)
  pub lean : IsLeanOptimal (state.settings).k tree (parts_of document)
  pub answered : r ≡ reply.Loaded (1 + nodes tree.below) (length (parts_of document))
  pub next_is : next ≡ with_document state name document

-- There may not be room for what the command would leave, by the nodes of all documents before and after it, and by the chain pages that their long contents take.
abbrev pub MayBeFull : State → (nodes_after pages_after : ℕ) → Type 0
MayBeFull state nodes_after pages_after = (state.settings).limit ≤ 3 * (all_nodes state + nodes_after) + (all_pages state + pages_after) + length state.rules + 8

-- a node of the document outweighs the parts, the first in document order
abbrev pub heavy_fault : ℕ → OrderedTree → Option ReplyError
heavy_fault k tree = option_map (λ heavy. TooHeavy heavy.0 heavy.1) (option_map weighed (first_heavy k tree))
