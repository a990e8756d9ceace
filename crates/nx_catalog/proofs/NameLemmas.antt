-- Names and labels have so many bytes.
use Rattle.std.proofs.Common.{◌≡◌, ℕ, ◌≤◌, Bool, true, false, ◌&&◌, List, [], ◌∷◌, length, refl, arith}
use Rattle.std.specs.Prelude.{IsTrue, nat_le, ◌||◌, codes}
use Rattle.std.specs.Str.{bytes_eq}
use Rattle.nx_tree.specs.Document.{is_name}
use Rattle.std.proofs.lemmas.Bool.{leb-true}
use Rattle.std.specs.declared.cmp.Ordering.TheVariants.{Less}
use Rattle.nx_pyx.specs.DocumentName.{name_order, is_document_name}
use Rattle.nx_matrix.specs.RuleLabels.{is_parent_label, is_child_label, is_marked_name, HasLabels}
use Rattle.nx_matrix.specs.declared.rule.Rule.{Rule}
use Rattle.nx_matrix.specs.Rules.{IsLabel, longest_label, pair_cmp}

pub both_true : (a b : Bool) → a && b ≡ true → (a ≡ true) × (b ≡ true)
both_true true b e = (refl, e)
both_true false b e = absurd (cc)

pub name_short : (name : List ℕ) → IsTrue (is_document_name name) → length name ≤ 255
name_short name h = let front = both_true _ _ (both_true _ _ h).0 in leb-true (length name) 255 (both_true _ _ front.0).1

-- a name comes behind no bytes
pub name_first : (name : List ℕ) → IsTrue (is_document_name name) → name_order [] name ≡ Less
name_first [] h = absurd (cc)
name_first (b ∷ bs) h = refl

parent_parts : (label : List ℕ) → IsTrue (is_parent_label label) → (nat_le (length label) longest_label ≡ true) × (bytes_eq label (codes "#doc") || is_name label ≡ true)
parent_parts label h = both_true _ _ h

child_parts : (label : List ℕ) → IsTrue (is_child_label label) → (nat_le (length label) longest_label ≡ true) × (bytes_eq label (codes "#text") || is_name label || is_marked_name label ≡ true)
child_parts label h = both_true _ _ h

parent_label : (label : List ℕ) → IsTrue (is_parent_label label) → IsLabel label
parent_label [] h = let none : false ≡ true = (parent_parts [] h).1 in absurd (cc)
parent_label (b ∷ bs) h = (omega arith, leb-true (length (b ∷ bs)) longest_label (parent_parts (b ∷ bs) h).0)

child_label : (label : List ℕ) → IsTrue (is_child_label label) → IsLabel label
child_label [] h = let none : false ≡ true = (child_parts [] h).1 in absurd (cc)
child_label (b ∷ bs) h = (omega arith, leb-true (length (b ∷ bs)) longest_label (child_parts (b ∷ bs) h).0)

-- labels of a rule have 1 to 1,024 bytes
pub labelled : (rule : Rule) → HasLabels rule → IsLabel rule.parent × IsLabel rule.child
labelled rule h = (parent_label rule.parent h.0, child_label rule.child h.1)

-- a pair of labels comes behind two empty ones
pub pair_first : (parent child : List ℕ) → IsLabel parent → pair_cmp ([], []) (parent, child) ≡ Less
pair_first [] child h = let some = h.0 in absurd (omega (arith, some))
pair_first (b ∷ bs) child h = refl
