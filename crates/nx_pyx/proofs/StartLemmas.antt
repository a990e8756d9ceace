-- A node's line in parts.
use Rattle.std.proofs.Common.{◌≡◌, ℕ, ◌≤◌, false, List, [], ◌∷◌, ◌++◌, length, take, refl, sym, arith, append_assoc}
use Rattle.std.specs.Prelude.{Result, Ok, Err, OnOk, OnErr}
use Rattle.std.proofs.lemmas.List.Concat.{flat_map-append}
use Rattle.nx_tree.specs.declared.node.Kind.{Kind}
use Rattle.nx_tree.specs.declared.node.Kind.TheVariants.{Doc, Element, Attribute, Text, Instruction}
use Rattle.nx_tree.specs.Edit.{has_children}
use Rattle.nx_pyx.specs.Text.{escape, escaped, node_line}
use Rattle.nx_pyx.specs.LineStart.{line_start}
use Rattle.nx_pyx.proofs.PrefixLemmas.{prefix-all, prefix-none}

pub escaped-append : (front back : List ℕ) → escaped (front ++ back) ≡ escaped front ++ escaped back
escaped-append front back = flat_map-append escape front back

pub line_by_start : (kind : Kind) (name content : List ℕ) → has_children kind ≡ false → 1 ≤ length content → node_line kind name content ≡ line_start kind name ++ escaped content
line_by_start Doc name content none some = cc
line_by_start Element name content none some = cc
line_by_start Attribute name content none some = sym (append_assoc (65 ∷ name) (32 ∷ []) (escaped content))
line_by_start Text name content none some = refl
line_by_start Instruction name [] none some = absurd (omega arith)
line_by_start Instruction name (byte ∷ content) none some = sym (append_assoc (63 ∷ name) (32 ∷ []) (escaped (byte ∷ content)))

-- what was added is there, or for want of memory none of it
pub prefix-added : {T E : Type 0} (r : Result T E) (old new all : List ℕ) → OnOk r (new ≡ old ++ all) → OnErr r (new ≡ old) → (n : ℕ) × (new ≡ old ++ take n all)
prefix-added (Ok done) old new all ok err = prefix-all old new all ok
prefix-added (Err error) old new all ok err = prefix-none old new all err
