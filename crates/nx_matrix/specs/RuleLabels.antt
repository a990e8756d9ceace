-- The labels that rules may be for.
use Rattle.std.specs.Prelude.{ℕ, Bool, false, IsTrue, ◌&&◌, ◌||◌, ◌==◌, nat_le, List, [], ◌∷◌, length, codes}
use Rattle.std.specs.Str.{bytes_eq}
use Rattle.nx_tree.specs.Document.{is_name}
use Rattle.nx_matrix.specs.declared.rule.Rule.{Rule}
use Rattle.nx_matrix.specs.Rules.{longest_label}

-- a name behind @ or ?
abbrev pub is_marked_name : List ℕ → Bool
is_marked_name [] = false
is_marked_name (mark ∷ name) = (mark == 64 || mark == 63) && is_name name

-- the label of a node that may have children: #doc or a name, of at most so many bytes
abbrev pub is_parent_label : List ℕ → Bool
is_parent_label label = nat_le (length label) longest_label && (bytes_eq label (codes "#doc") || is_name label)

-- the label of a child: #text, a name, or one behind @ or ?, of at most so many bytes
abbrev pub is_child_label : List ℕ → Bool
is_child_label label = nat_le (length label) longest_label && (bytes_eq label (codes "#text") || is_name label || is_marked_name label)

-- the rule is for labels of a parent and a child
abbrev pub HasLabels : Rule → Type 0
HasLabels rule = IsTrue (is_parent_label rule.parent) × IsTrue (is_child_label rule.child)
