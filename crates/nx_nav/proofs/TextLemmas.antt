-- What is told of a document is its canonical text.
use Rattle.std.proofs.Common.{◌≡◌, ◌*◌, ◌≤◌, ℕ, zero, suc, Bool, true, false, if◌then◌else◌, List, [], ◌∷◌, ◌++◌, length, map, take, drop, refl, sym, ap, ◌∙◌, arith, append_assoc}
use Rattle.std.specs.Prelude.{nat_le}
use Rattle.std.proofs.lemmas.Bool.Decides.{nat_tests}
use Rattle.std.proofs.lemmas.List.{append-nil, length-drop, take-append-drop}
use Rattle.std.proofs.lemmas.List.Concat.{flat_map-append}
use Rattle.nx_host.specs.declared.disk.Disk.{Ghosts}
use Rattle.nx_numbers.specs.Sizes.{page_room}
use Rattle.nx_records.specs.Words.{chain_count}
use Rattle.nx_records.specs.declared.records.Records.{Records}
use Rattle.nx_weights.specs.Weight.{longest_near}
use Rattle.nx_tree.specs.declared.node.Kind.{Kind}
use Rattle.nx_tree.specs.declared.node.Kind.TheVariants.{Doc, Element, Attribute, Text, Instruction}
use Rattle.nx_tree.specs.declared.node.Node.{Node}
use Rattle.nx_tree.specs.Forest.{Forest, Empty, Plant, OrderedTree}
use Rattle.nx_tree.specs.Document.{is_doc, is_element, HasParts, MayHave, IsForest}
use Rattle.nx_cuts.specs.Cut.{Cut, Bare, Grown, Kept, CutForest, CutTree, joined, forest, tree_of}
use Rattle.nx_layouts.specs.Layout.{RecordPlace}
use Rattle.nx_hold.specs.Documents.{HasDocument}
use Rattle.nx_pyx.specs.Event.{Event, Start, End, Single, events}
use Rattle.nx_pyx.specs.Text.{canonical_line, node_line, escape, escaped, text_of, text, tree_text}
use Rattle.nx_pyx.specs.LineStart.{line_start}
use Rattle.nx_pyx.proofs.StartLemmas.{line_by_start}
use Rattle.nx_pyx.specs.Writer.{forest_text, end_line}
use Rattle.nx_nav.specs.Steps.{WalkStep, Open, Head, Block, Tail, Close, blocks_within, content_blocks, content_steps, begun_steps, walk_steps, steps_of}
use Rattle.nx_nav.specs.Told.{walk_step_text, told_text}
use Rattle.nx_nav.specs.Nodes.{CanStand}

told-append : (s t : List WalkStep) → told_text (s ++ t) ≡ told_text s ++ told_text t
told-append s t = flat_map-append walk_step_text s t

text-append : (es fs : List Event) → text_of (es ++ fs) ≡ text_of es ++ text_of fs
text-append es fs = flat_map-append (λ (e : Event). canonical_line e ++ 10 ∷ []) es fs

events-joined : (f g : Forest) → events (joined f g) ≡ events f ++ events g
events-joined Empty g = refl
events-joined (Plant n b s) g =
    let own = if is_element n.kind then Start n.name ∷ events b ++ End n.name ∷ [] else Single n ∷ [] in
    ap (λ es. own ++ es) (events-joined s g) ∙ sym (append_assoc own (events s) (events g))

pub joined_forests : (f g : Forest) → IsForest (joined f g) → IsForest f × IsForest g
joined_forests Empty g h = (tt, h)
joined_forests (Plant n b s) g h = let r = joined_forests s g h.3 in ((h.0, h.1, h.2, r.0), r.1)

-- a node with what is below it, as it is told and as its lines say it
abbrev pub IsLined : Kind → (name content below : List ℕ) → List Event → Type 0
IsLined kind name content below inner =
    (if is_doc kind then [] else node_line kind name content ++ 10 ∷ []) ++ (below ++ (if is_element kind then end_line name else []))
    ≡ text_of (if is_element kind then Start name ∷ inner ++ End name ∷ [] else Single (record { kind = kind; name = name; content = content }) ∷ [])

lined : (kind : Kind) (name content below : List ℕ) (f : Forest) → HasParts kind name content → MayHave kind f → below ≡ text_of (events f) → IsLined kind name content below (events f)
lined Doc name content below f parts may e = absurd parts
lined Element name content below f parts may e =
    let front : List ℕ = 40 ∷ name ++ 10 ∷ [] in
    let end : text_of (End name ∷ []) ≡ end_line name = append-nil (end_line name) in
    ap (λ x. front ++ x) (ap (λ x. x ++ end_line name) e ∙ ap (λ x. text_of (events f) ++ x) (sym end) ∙ sym (text-append (events f) (End name ∷ [])))
lined Attribute name content below f parts may e = ap (λ x. (node_line Attribute name content ++ 10 ∷ []) ++ (x ++ [])) (e ∙ ap (λ (g : Forest). text_of (events g)) may)
lined Text name content below f parts may e = ap (λ x. (node_line Text name content ++ 10 ∷ []) ++ (x ++ [])) (e ∙ ap (λ (g : Forest). text_of (events g)) may)
lined Instruction name content below f parts may e = ap (λ x. (node_line Instruction name content ++ 10 ∷ []) ++ (x ++ [])) (e ∙ ap (λ (g : Forest). text_of (events g)) may)

-- Contents in blocks:

-- they are the whole, one behind the other
blocks_whole : (count : ℕ) (bytes : List ℕ) → length bytes ≤ page_room * count → told_text (map Block (blocks_within count bytes)) ≡ escaped bytes
blocks_whole zero [] few = refl
blocks_whole zero (b ∷ bytes) few = absurd (omega (arith, few))
blocks_whole (suc count) bytes few =
    let left = length-drop page_room bytes in
    ap (λ x. escaped (take page_room bytes) ++ x) (blocks_whole count (drop page_room bytes) (omega (arith, few, left)))
    ∙ sym (flat_map-append escape (take page_room bytes) (drop page_room bytes)) ∙ ap escaped (take-append-drop page_room bytes)

blocks_told : (bytes : List ℕ) → told_text (map Block (content_blocks bytes)) ≡ escaped bytes
blocks_told bytes = blocks_whole (chain_count (length bytes)) bytes (omega arith)

-- the line of a node below a root, however its content is told
abbrev pub line_of : Node → List ℕ
line_of node = if is_doc node.kind then [] else node_line node.kind node.name node.content ++ 10 ∷ []

long_line : (kind : Kind) (name content : List ℕ) → HasParts kind name content → 1 ≤ length content → line_start kind name ++ (escaped content ++ 10 ∷ []) ≡ (if is_doc kind then [] else node_line kind name content ++ 10 ∷ [])
long_line Doc name content parts some = absurd parts
long_line Element name content parts some = absurd (let none = ap length parts.1 in omega (arith, none, some))
long_line Attribute name content parts some = sym (append_assoc (line_start Attribute name) (escaped content) (10 ∷ [])) ∙ ap (λ x. x ++ 10 ∷ []) (sym (line_by_start Attribute name content refl some))
long_line Text name content parts some = sym (append_assoc (line_start Text name) (escaped content) (10 ∷ [])) ∙ ap (λ x. x ++ 10 ∷ []) (sym (line_by_start Text name content refl some))
long_line Instruction name content parts some = sym (append_assoc (line_start Instruction name) (escaped content) (10 ∷ [])) ∙ ap (λ x. x ++ 10 ∷ []) (sym (line_by_start Instruction name content refl some))

begun_line : (node : Node) → HasParts node.kind node.name node.content → told_text (begun_steps true node) ≡ line_of node
begun_line node parts =
    elim (nat_le (length node.content) longest_near) as (λ b. nat_le (length node.content) longest_near ≡ b
    → told_text (if b then Open node ∷ [] else Head node.kind node.name ∷ (content_steps true node.content ++ Tail ∷ [])) ≡ line_of node) [
      | true ↦ λ short. append-nil (line_of node)
      | false ↦ λ long.
          let some : 1 ≤ length node.content = grind (arith, nat_tests) in
          ap (λ x. line_start node.kind node.name ++ x)
          (told-append (map Block (content_blocks node.content)) (Tail ∷ []) ∙ ap (λ x. x ++ 10 ∷ []) (blocks_told node.content))
          ∙ long_line node.kind node.name node.content parts some
    ] refl

pub told_forest : {P : Type 0} (l : Cut Node P) → IsForest (forest l) → told_text (walk_steps true l) ≡ forest_text (forest l)
told_forest Bare h = refl
told_forest (Grown n b s) h =
    let inner = walk_steps true b in
    let outer = walk_steps true s in
    let end = Close n.kind n.name in
    let first = line_of n in
    let last = walk_step_text end in
    let own = lined n.kind n.name n.content (told_text inner) (forest b) h.0.parts h.1 (told_forest b h.2) in
    let said = if is_element n.kind then Start n.name ∷ events (forest b) ++ End n.name ∷ [] else Single n ∷ [] in
    told-append (begun_steps true n) (inner ++ end ∷ outer)
    ∙ ap (λ x. x ++ told_text (inner ++ end ∷ outer)) (begun_line n h.0.parts)
    ∙ ap (λ x. first ++ x) (told-append inner (end ∷ outer) ∙ sym (append_assoc (told_text inner) last (told_text outer)))
    ∙ sym (append_assoc first (told_text inner ++ last) (told_text outer))
    ∙ ap (λ x. x ++ told_text outer) own
    ∙ ap (λ x. text_of said ++ x) (told_forest s h.3)
    ∙ sym (text-append said (events (forest s)))
told_forest (Kept p m s) h =
    let parts = joined_forests (forest m) (forest s) h in
    told-append (walk_steps true m) (walk_steps true s) ∙ ap (λ x. x ++ told_text (walk_steps true s)) (told_forest m parts.0) ∙ ap (λ x. forest_text (forest m) ++ x) (told_forest s parts.1)
    ∙ sym (text-append (events (forest m)) (events (forest s))) ∙ ap text_of (sym (events-joined (forest m) (forest s)))

-- a node below a root isn't one
below_no_doc : (kind : Kind) (name content : List ℕ) → HasParts kind name content → is_doc kind ≡ false
below_no_doc Doc name content parts = absurd parts
below_no_doc Element name content parts = refl
below_no_doc Attribute name content parts = refl
below_no_doc Text name content parts = refl
below_no_doc Instruction name content parts = refl

-- a root has no content, and no line
begun_root : (node : Node) → node.kind ≡ Doc → node.content ≡ [] → begun_steps true node ≡ Open node ∷ []
begun_root node root bare = ap (λ (b : Bool). if b then Open node ∷ [] else Head node.kind node.name ∷ (content_steps true node.content ++ Tail ∷ [])) (ap (λ (x : List ℕ). nat_le (length x) longest_near) bare)

pub document_text : (t : CutTree) → t.node.kind ≡ Doc → t.node.content ≡ [] → IsForest (forest t.below) → told_text (steps_of true t) ≡ text (tree_of t)
document_text t root bare h =
    let inner = walk_steps true t.below in
    let end = Close t.node.kind t.node.name in
    let first : walk_step_text (Open t.node) ≡ [] = ap (λ (k : Kind). if is_doc k then [] else node_line k t.node.name t.node.content ++ 10 ∷ []) root in
    let last : walk_step_text end ≡ [] = ap (λ (k : Kind). if is_element k then end_line t.node.name else []) root in
    ap told_text (append-nil (begun_steps true t.node ++ (inner ++ end ∷ [])))
    ∙ ap (λ s. told_text (s ++ (inner ++ end ∷ []))) (begun_root t.node root bare)
    ∙ ap (λ x. x ++ told_text (inner ++ end ∷ [])) first
    ∙ told-append inner (end ∷ [])
    ∙ ap (λ x. told_text inner ++ (x ++ [])) last
    ∙ append-nil (told_text inner)
    ∙ told_forest t.below h

pub has_text : {D : Type 0} {d : Ghosts D} {records : Records} {disk : D} {root : RecordPlace} {document : CutTree} → HasDocument d records disk root document → told_text (steps_of true document) ≡ text (tree_of document)
has_text {document = document} h = document_text document h.laid.laid.is_document.root h.laid.laid.is_document.bare h.laid.laid.is_document.forest

-- what is told of a node with all below it is its lines, wherever it stands
pub below_text : (depth : ℕ) (node : Node) (below : CutForest) → CanStand depth (Plant node (forest below) Empty) → told_text (walk_steps true (Grown node below Bare)) ≡ tree_text (record { node = node; below = forest below })
below_text zero node below stands =
    let rooted = stands.rooted refl in
    let root : node.kind ≡ Doc = (rooted.0).0 in
    let tree : OrderedTree = record { node = node; below = forest below } in
    let steps = walk_steps true (Grown node below Bare) in
    ap told_text (sym (append-nil steps)) ∙ document_text (record { node = node; below = below }) root (rooted.0).2 rooted.2
    ∙ ap (λ (k : Kind). if is_doc k then text tree else text_of (events (Plant node (forest below) Empty))) (sym root)
below_text (suc depth) node below stands =
    let inner = stands.forest (omega arith) in
    let tree : OrderedTree = record { node = node; below = forest below } in
    told_forest (Grown node below Bare) inner
    ∙ ap (λ (b : Bool). if b then text tree else text_of (events (Plant node (forest below) Empty))) (sym (below_no_doc node.kind node.name node.content (inner.0).parts))
