-- The canonical text of a document reads as that document.
use Rattle.std.proofs.Common.{◌≡◌, ℕ, ◌+◌, ◌==◌, ◌||◌, not, if◌then◌else◌, Bool, true, false, IsTrue, List, [], ◌∷◌, ◌++◌, length, take, drop, Some, map, refl, ap, sym, ◌∙◌, arith, append_assoc, append-nil, subst}
use Rattle.std.specs.List.{list_any, list_all, before_first, after_first, position_or_len}
use Rattle.std.proofs.Math.Seq.{take-append_seam, drop-append-add}
use Rattle.std.proofs.lemmas.Bool.{eqb-true, or_parts, and_parts}
use Rattle.std.proofs.lemmas.Bool.Decides.{nat_tests}
use Rattle.std.proofs.lemmas.List.Folds.{list_any-append}
use Rattle.nx_tree.specs.declared.node.Kind.{Kind}
use Rattle.nx_tree.specs.declared.node.Kind.TheVariants.{Doc, Element, Attribute, Text, Instruction}
use Rattle.nx_tree.specs.declared.node.Node.{Node}
use Rattle.nx_tree.specs.Forest as forest
use Rattle.nx_tree.specs.Forest.{OrderedTree, Forest, Plant}
use Rattle.nx_tree.specs.Document.{is_empty, is_name_byte, is_name, is_element, HasParts, IsForest, IsDocument}
use Rattle.nx_pyx.specs.Lines.{Pieces, prepend, cut, without_cr, last_line, lines}
use Rattle.nx_pyx.specs.Event.{Event, Start, End, Single, unescape, is_space, named_node, event_of, events}
use Rattle.nx_pyx.specs.Reading.{Reads}
use Rattle.nx_pyx.specs.Text.{escape, escaped, canonical_line, text_of, text}

-- a byte that may end a line or stand before its end
abbrev is_break : ℕ → Bool
is_break b = b == 10 || b == 13

-- a byte that no pair begins with stands for itself
unescape-other : (b : ℕ) (bytes : List ℕ) → (b == 92) ≡ false → unescape (b ∷ bytes) ≡ b ∷ unescape bytes
unescape-other b [] other = refl
unescape-other b (c ∷ bytes) other = rw other

-- an escaped byte stands for that byte
unescape-escape : (b : ℕ) (bytes : List ℕ) → unescape (escape b ++ bytes) ≡ b ∷ unescape bytes
unescape-escape b bytes = by_tests (b == 10) (b == 9) (b == 13) (b == 92) refl refl refl refl
  where
    by_tests : (lf tab cr backslash : Bool) → (b == 10) ≡ lf → (b == 9) ≡ tab → (b == 13) ≡ cr → (b == 92) ≡ backslash →
        unescape ((if lf then 92 ∷ 110 ∷ [] else if tab then 92 ∷ 116 ∷ [] else if cr then 92 ∷ 114 ∷ [] else if backslash then 92 ∷ 92 ∷ [] else b ∷ []) ++ bytes)
        ≡ b ∷ unescape bytes
    by_tests true tab cr backslash is h i j = ap (λ n. n ∷ unescape bytes) (sym (eqb-true b 10 is))
    by_tests false true cr backslash h is i j = ap (λ n. n ∷ unescape bytes) (sym (eqb-true b 9 is))
    by_tests false false true backslash h i is j = ap (λ n. n ∷ unescape bytes) (sym (eqb-true b 13 is))
    by_tests false false false true h i j is = ap (λ n. n ∷ unescape bytes) (sym (eqb-true b 92 is))
    by_tests false false false false h i j other = unescape-other b bytes other

-- an escaped content stands for that content
pub unescape-escaped : (content : List ℕ) → unescape (escaped content) ≡ content
unescape-escaped [] = refl
unescape-escaped (b ∷ content) = unescape-escape b (escaped content) ∙ ap (λ bytes. b ∷ bytes) (unescape-escaped content)

-- an escaped byte breaks no line
escape-unbroken : (b : ℕ) → list_any is_break (escape b) ≡ false
escape-unbroken b = by_tests (b == 10) (b == 9) (b == 13) (b == 92) refl refl
  where
    by_tests : (lf tab cr backslash : Bool) → (b == 10) ≡ lf → (b == 13) ≡ cr →
        list_any is_break (if lf then 92 ∷ 110 ∷ [] else if tab then 92 ∷ 116 ∷ [] else if cr then 92 ∷ 114 ∷ [] else if backslash then 92 ∷ 92 ∷ [] else b ∷ []) ≡ false
    by_tests true tab cr backslash h i = refl
    by_tests false true cr backslash h i = refl
    by_tests false false true backslash h i = refl
    by_tests false false false true h i = refl
    by_tests false false false false h i = rw (h, i)

-- an escaped content breaks no line
escaped-unbroken : (content : List ℕ) → list_any is_break (escaped content) ≡ false
escaped-unbroken [] = refl
escaped-unbroken (b ∷ content) = rw (list_any-append is_break (escape b) (escaped content), escape-unbroken b) (escaped-unbroken content)

-- what no byte of names is, no byte of a name is
name_without : (p : ℕ → Bool) → ((b : ℕ) → is_name_byte b ≡ true → p b ≡ false) → (name : List ℕ) → IsTrue (is_name name) → list_any p name ≡ false
name_without p none name named = each name (and_parts (not (is_empty name)) (list_all is_name_byte name) named).1
  where
    each : (bytes : List ℕ) → list_all is_name_byte bytes ≡ true → list_any p bytes ≡ false
    each [] all = refl
    each (b ∷ bytes) all = let parts = and_parts (is_name_byte b) (list_all is_name_byte bytes) all in rw (none b parts.0) (each bytes parts.1)

-- a name breaks no line
name-unbroken : (name : List ℕ) → IsTrue (is_name name) → list_any is_break name ≡ false
name-unbroken name named = name_without is_break (λ b h. grind (arith, nat_tests)) name named

-- a name has no space
name-unspaced : (name : List ℕ) → IsTrue (is_name name) → list_any is_space name ≡ false
name-unspaced name named = name_without is_space (λ b h. grind (arith, nat_tests)) name named

-- the first space behind bytes without one, where what follows them is empty or begins with it
first_space : (name rest : List ℕ) → list_any is_space name ≡ false → position_or_len is_space rest ≡ 0 → position_or_len is_space (name ++ rest) ≡ length name
first_space [] rest none at = at
first_space (b ∷ name) rest none at =
    let parts = or_parts (is_space b) (list_any is_space name) none in rw (parts.0, first_space name rest parts.1 at) (omega arith)

-- a name and what follows it
named_node-parts : (kind : Kind) (name rest content : List ℕ) → IsTrue (is_name name) → position_or_len is_space rest ≡ 0 → unescape (drop 1 rest) ≡ content →
    named_node kind (name ++ rest) ≡ record { kind = kind; name = name; content = content }
named_node-parts kind name rest content named at is =
    let first : position_or_len is_space (name ++ rest) ≡ length name = first_space name rest (name-unspaced name named) at in
    let before : before_first is_space (name ++ rest) ≡ name = ap (λ n. take n (name ++ rest)) first ∙ take-append_seam name rest in
    let behind : after_first is_space (name ++ rest) ≡ drop 1 rest = ap (λ n. drop (n + 1) (name ++ rest)) first ∙ drop-append-add name rest 1 in
    let node : List ℕ → List ℕ → Node = λ m c. record { kind = kind; name = m; content = c } in
    ap (λ m. node m (unescape (after_first is_space (name ++ rest)))) before ∙ ap (node name) (ap unescape behind ∙ is)

-- an event whose canonical line is one line and says that event
record IsWritable (e : Event) : Type 0 where
  unbroken : list_any is_break (canonical_line e) ≡ false
  says : event_of (canonical_line e) ≡ Some e

-- a start can be written
start-writable : (name : List ℕ) → IsTrue (is_name name) → IsWritable (Start name)
start-writable name named = record { unbroken = name-unbroken name named; says = refl }

-- an end can be written
end-writable : (name : List ℕ) → IsTrue (is_name name) → IsWritable (End name)
end-writable name named = record { unbroken = name-unbroken name named; says = refl }

-- an attribute can be written
attribute-writable : (name content : List ℕ) → IsTrue (is_name name) → IsWritable (Single (record { kind = Attribute; name = name; content = content }))
attribute-writable name content named =
    record {
      unbroken = list_any-append is_break name (32 ∷ escaped content) ∙ rw (name-unbroken name named) (escaped-unbroken content);
      says = ap (λ n. Some (Single n)) (named_node-parts Attribute name (32 ∷ escaped content) content named refl (unescape-escaped content));
    }

-- a text can be written
text-writable : (content : List ℕ) → IsWritable (Single (record { kind = Text; name = []; content = content }))
text-writable content = record {
  unbroken = escaped-unbroken content;
  says = ap (λ (c : List ℕ). Some (Single (record { kind = Text; name = []; content = c }))) (unescape-escaped content);
}

-- an instruction can be written, with a content or without one
instruction-writable : (name content : List ℕ) → IsTrue (is_name name) → IsWritable (Single (record { kind = Instruction; name = name; content = content }))
instruction-writable name [] named =
    record {
      unbroken = list_any-append is_break name [] ∙ rw (name-unbroken name named) refl;
      says = ap (λ n. Some (Single n)) (named_node-parts Instruction name [] [] named refl refl);
    }
instruction-writable name (b ∷ content) named =
    record {
      unbroken = list_any-append is_break name (32 ∷ escaped (b ∷ content)) ∙ rw (name-unbroken name named) (escaped-unbroken (b ∷ content));
      says = ap (λ n. Some (Single n)) (named_node-parts Instruction name (32 ∷ escaped (b ∷ content)) (b ∷ content) named refl (unescape-escaped (b ∷ content)));
    }

-- a stream that begins with a line is cut behind that line
cut-line : (line more : List ℕ) → list_any is_break line ≡ false → cut (line ++ 10 ∷ more) ≡ record { ended = line ∷ (cut more).ended; rest = (cut more).rest }
cut-line [] more unbroken = refl
cut-line (b ∷ line) more unbroken =
    let parts = or_parts (is_break b) (list_any is_break line) unbroken in
    let tests = or_parts (b == 10) (b == 13) parts.0 in
    rw tests.0 (ap (prepend b) (cut-line line more parts.1))

-- a line without a CR is left as it is
without_cr-line : (line : List ℕ) → list_any is_break line ≡ false → without_cr line ≡ line
without_cr-line [] unbroken = refl
without_cr-line (b ∷ []) unbroken =
    let parts = or_parts (is_break b) false unbroken in rw (or_parts (b == 10) (b == 13) parts.0).1
without_cr-line (b ∷ c ∷ bytes) unbroken =
    let parts = or_parts (is_break b) (list_any is_break (c ∷ bytes)) unbroken in ap (λ bs. b ∷ bs) (without_cr-line (c ∷ bytes) parts.1)

-- a line and the lines behind it
lines-line : (line more : List ℕ) → list_any is_break line ≡ false → lines (line ++ 10 ∷ more) ≡ line ∷ lines more
lines-line line more unbroken =
    ap (λ (p : Pieces). map without_cr p.ended ++ last_line p.rest) (cut-line line more unbroken)
    ∙ ap (λ first. first ∷ lines more) (without_cr-line line unbroken)

-- the text of these events says them
abbrev Says : List Event → Type 0
Says es = map event_of (lines (text_of es)) ≡ map (λ e. Some e) es

-- one event more in front
says_more : (e : Event) (es : List Event) → IsWritable e → Says es → Says (e ∷ es)
says_more e es written said =
    ap (λ s. map event_of (lines s)) (append_assoc (canonical_line e) (10 ∷ []) (text_of es))
    ∙ ap (map event_of) (lines-line (canonical_line e) (text_of es) written.unbroken)
    ∙ ap (λ first. first ∷ map event_of (lines (text_of es))) written.says ∙ ap (λ others. Some e ∷ others) said

-- the events of a tree, from those of what is below its node
abbrev tree_events : Node → List Event → List Event
tree_events node below = if is_element node.kind then Start node.name ∷ below ++ End node.name ∷ [] else Single node ∷ []

-- the events of a tree in front
says_tree : (kind : Kind) (name content : List ℕ) (below others : List Event) → HasParts kind name content →
    ((rest : List Event) → Says rest → Says (below ++ rest)) → Says others →
    Says (tree_events (record { kind = kind; name = name; content = content }) below ++ others)
says_tree Doc name content below others parts inside said = absurd parts
says_tree Element name content below others parts inside said =
    says_more (Start name) ((below ++ End name ∷ []) ++ others) (start-writable name parts.0)
    (subst Says (sym (append_assoc below (End name ∷ []) others)) (inside (End name ∷ others) (says_more (End name) others (end-writable name parts.0) said)))
says_tree Attribute name content below others parts inside said = says_more _ others (attribute-writable name content parts) said
says_tree Text name content below others parts inside said =
    subst (λ (n : List ℕ). Says (Single (record { kind = Text; name = n; content = content }) ∷ others)) (sym parts) (says_more _ others (text-writable content) said)
says_tree Instruction name content below others parts inside said = says_more _ others (instruction-writable name content parts) said

-- the events of a forest in front
says_forest : (f : Forest) (others : List Event) → IsForest f → Says others → Says (events f ++ others)
says_forest forest.Empty others is said = said
says_forest (Plant node below beside) others (here, may, inside, aside) said =
    subst Says (sym (append_assoc (tree_events node (events below)) (events beside) others))
    (says_tree node.kind node.name node.content (events below) (events beside ++ others) here.parts
    (λ rest h. says_forest below rest inside h) (says_forest beside others aside said))

-- the canonical text of a document reads as that document
pub writing : (tree : OrderedTree) → IsDocument tree → Reads (text tree) tree
writing tree is = record {
  document = is;
  lines_say = subst Says (append-nil (events tree.below)) (says_forest tree.below [] is.forest refl);
}
