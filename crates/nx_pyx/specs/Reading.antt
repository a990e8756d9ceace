-- The bytes that stand for a document.
use Rattle.std.specs.Prelude.{◌≡◌, ℕ, List, map, Some}
use Rattle.nx_tree.specs.Forest.{OrderedTree}
use Rattle.nx_tree.specs.Document.{IsDocument}
use Rattle.nx_pyx.specs.Lines.{lines}
use Rattle.nx_pyx.specs.Event.{event_of, events}

-- the tree is a document, and the events of the lines are its events
pub record Reads (stream : List ℕ) (tree : OrderedTree) : Type 0 where
  pub document : IsDocument tree
  pub lines_say : map event_of (lines stream) ≡ map (λ e. Some e) (events tree.below)
