-- Why a node of a document can't get another content.
use Rattle.std.specs.Prelude.{ℕ, ◌+◌, nat_lt, if◌then◌else◌, length, true, false, Bool, List, Option, None, Some, option_and_then}
use Rattle.std.specs.Option.{option_map_or, option_or}
use Rattle.nx_tree.specs.declared.node.Node.{Node}
use Rattle.nx_tree.specs.Forest.{OrderedTree}
use Rattle.nx_tree.specs.Document.{longest_node}
use Rattle.nx_tree.specs.Edit.{at, retext_refusal}
use Rattle.nx_weights.specs.Weight.{weight}
use Rattle.nx_edit.specs.declared.error.EditError.{EditError}
use Rattle.nx_edit.specs.declared.error.EditError.TheVariants as error
use Rattle.nx_edit.specs.Refusals.{refused_by}

-- the node with another content
abbrev pub other_content : List ℕ → OrderedTree → Node
other_content content tree = record tree.node { content = content }

-- why the node outweighs k, if it does
abbrev pub outweighs : ℕ → Node → Option EditError
outweighs k node = if nat_lt k (weight node) then Some (error.TooHeavy (weight node)) else None

-- why the node's name and its content are too long together, if they are
abbrev pub outgrows : Node → Option EditError
outgrows node = if nat_lt longest_node (length node.name + length node.content) then Some error.TooLong else None

-- why the node at the path of a document can't get this content, the first reason that applies
abbrev pub content_fault : (content path : List ℕ) (k : ℕ) → OrderedTree → Option EditError
content_fault content path k t =
    option_or (option_or (option_map_or (λ there. outgrows (other_content content there)) (at t path) None) (option_and_then refused_by (retext_refusal path t)))
    (option_map_or (λ there. outweighs k (other_content content there)) (at t path) None)

-- whether `retext` refuses a path or a content for this reason
abbrev pub is_of_content : EditError → Bool
is_of_content error.NoNode = true
is_of_content error.TooLong = true
is_of_content error.NoContent = true
is_of_content (error.TooHeavy heavy) = true
is_of_content _ = false
