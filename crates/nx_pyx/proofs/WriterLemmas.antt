-- The text that a writer has still to write, before and after one line.
use Rattle.std.proofs.Common.{◌≡◌, ℕ, ◌+◌, ◌-◌, ◌<◌, List, [], ◌∷◌, ◌++◌, length, take, Some, ap, ◌∙◌, sym, arith, append_assoc}
use Rattle.std.specs.List.{slice_get}
use Rattle.std.proofs.lemmas.List.{append-nil, nil_from_length, take_more, take_all}
use Rattle.std.proofs.lemmas.List.Concat.{flat_map-append}
use Rattle.std.proofs.lemmas.Option.{slice_get_within, get_or_from_slice_get}
use Rattle.nx_tree.specs.declared.node.Kind.TheVariants.{Element}
use Rattle.nx_tree.specs.declared.node.Node.{Node}
use Rattle.nx_tree.specs.Forest.{OrderedTree, Forest, Plant, forest_of}
use Rattle.nx_pyx.specs.Event.{Event, Start, End, events}
use Rattle.nx_pyx.specs.Text.{text_of, node_line, canonical_line}
use Rattle.nx_pyx.specs.Writer.{forest_text, end_line, text_after}
use Rattle.nx_pyx.specs.declared.writer.OpenElement.{OpenElement}

text_of-around : (name : List ℕ) (es fs : List Event) → text_of (Start name ∷ es ++ End name ∷ [] ++ fs) ≡ (40 ∷ name ++ 10 ∷ []) ++ (text_of es ++ (end_line name ++ text_of fs))
text_of-around name es fs =
    ap (λ r. (40 ∷ name ++ 10 ∷ []) ++ r)
    (flat_map-append _ (es ++ End name ∷ []) fs
    ∙ ap (λ r. r ++ text_of fs) (flat_map-append _ es (End name ∷ []))
    ∙ append_assoc (text_of es) (end_line name ++ []) (text_of fs)
    ∙ ap (λ r. text_of es ++ (r ++ text_of fs)) (append-nil (end_line name)))

-- an element: its line, the text below it, its end line and the text of the trees beside it
forest_text-element : (node : Node) (below beside : Forest) → node.kind ≡ Element → forest_text (Plant node below beside) ≡ (node_line node.kind node.name node.content ++ 10 ∷ []) ++ (forest_text below ++ (end_line node.name ++ forest_text beside))
forest_text-element node below beside h = rw h (text_of-around node.name (events below) (events beside))

-- one more open element
text_after-push : (elements : List OpenElement) (element : OpenElement) → text_after (elements ++ element ∷ []) ≡ (end_line element.name.now ++ forest_text (forest_of element.after.now)) ++ text_after elements
text_after-push [] element = sym (append-nil _)
text_after-push (x ∷ elements) element =
    rw (text_after-push elements element)
    (append_assoc (end_line element.name.now ++ forest_text (forest_of element.after.now)) (text_after elements) (end_line x.name.now ++ forest_text (forest_of x.after.now)))

split_last : {X : Type 0} (xs : List X) (x : X) → slice_get xs (length xs - 1) ≡ Some x → xs ≡ take (length xs - 1) xs ++ x ∷ []
split_last xs x h =
    let within : length xs - 1 < length xs = slice_get_within xs _ x h in
    sym (take_all (length xs - 1 + 1) xs (omega arith)) ∙ take_more xs (length xs - 1) x within ∙ ap (λ y. take (length xs - 1) xs ++ y ∷ []) (get_or_from_slice_get xs _ x x h)

regroup : (old named ended below end after : List ℕ) → ((old ++ named) ++ ended) ++ (below ++ (end ++ after)) ≡ old ++ (((named ++ ended) ++ (below ++ end)) ++ after)
regroup old named ended below end after = simp append_assoc

regroup_end : (old named ended after fewer : List ℕ) → ((old ++ named) ++ ended) ++ (after ++ fewer) ≡ old ++ (((named ++ ended) ++ after) ++ fewer)
regroup_end old named ended after fewer = simp append_assoc

-- the line of an element, whose children come next
pub written-element : (old named ended left : List ℕ) (node : Node) (below : Forest) (tree : OrderedTree) (rest others children : List OrderedTree) (elements more : List OpenElement) (element : OpenElement) → record { node = node; below = below } ≡ tree → rest ≡ tree ∷ others → node.kind ≡ Element → named ≡ old ++ node_line node.kind node.name node.content → ended ≡ named ++ 10 ∷ [] → element.name.now ≡ node.name → element.after.now ≡ others → forest_of children ≡ below → more ≡ elements ++ element ∷ [] → forest_text (forest_of rest) ++ text_after elements ≡ left → ended ++ (forest_text (forest_of children) ++ text_after more) ≡ old ++ left
written-element old named ended left node below tree rest others children elements more element t r k n e name after c m l =
    let was : forest_text (forest_of rest) ≡ (node_line node.kind node.name node.content ++ 10 ∷ []) ++ (forest_text below ++ (end_line node.name ++ forest_text (forest_of others))) =
    ap (λ ts. forest_text (forest_of ts)) (r ∙ ap (λ x. x ∷ others) (sym t)) ∙ forest_text-element node below (forest_of others) k in
    let is : text_after more ≡ (end_line node.name ++ forest_text (forest_of others)) ++ text_after elements =
    ap text_after m ∙ text_after-push elements element ∙ ap (λ r. r ++ text_after elements) (ap (λ x. end_line x ++ forest_text (forest_of element.after.now)) name ∙ ap (λ x. end_line node.name ++ forest_text (forest_of x)) after) in
    ap (λ x. x ++ (forest_text (forest_of children) ++ text_after more)) (e ∙ ap (λ x. x ++ 10 ∷ []) n)
    ∙ ap (λ x. ((old ++ node_line node.kind node.name node.content) ++ 10 ∷ []) ++ (forest_text x ++ text_after more)) c
    ∙ ap (λ x. ((old ++ node_line node.kind node.name node.content) ++ 10 ∷ []) ++ (forest_text below ++ x)) is
    ∙ regroup old (node_line node.kind node.name node.content) (10 ∷ []) (forest_text below) (end_line node.name ++ forest_text (forest_of others)) (text_after elements)
    ∙ ap (λ x. old ++ (x ++ text_after elements)) (sym was)
    ∙ ap (λ x. old ++ x) l

-- the end line of the innermost open element
pub written-end : (old named ended left : List ℕ) (rest : List OrderedTree) (elements fewer : List OpenElement) (element : OpenElement) → length rest ≡ 0 → slice_get elements (length elements - 1) ≡ Some element → fewer ≡ take (length elements - 1) elements → named ≡ old ++ 41 ∷ element.name.now → ended ≡ named ++ 10 ∷ [] → forest_text (forest_of rest) ++ text_after elements ≡ left → ended ++ (forest_text (forest_of element.after.now) ++ text_after fewer) ≡ old ++ left
written-end old named ended left rest elements fewer element r s f n e l =
    let whole : elements ≡ fewer ++ element ∷ [] = split_last elements element s ∙ ap (λ x. x ++ element ∷ []) (sym f) in
    ap (λ x. x ++ (forest_text (forest_of element.after.now) ++ text_after fewer)) (e ∙ ap (λ x. x ++ 10 ∷ []) n)
    ∙ regroup_end old (41 ∷ element.name.now) (10 ∷ []) (forest_text (forest_of element.after.now)) (text_after fewer)
    ∙ ap (λ x. old ++ x) (sym (text_after-push fewer element) ∙ ap text_after (sym whole) ∙ ap (λ x. forest_text (forest_of x) ++ text_after elements) (sym (nil_from_length rest r)) ∙ l)

-- the line of an event is added
pub one_line : (old said ended line : List ℕ) (e : Event) → canonical_line e ≡ line → said ≡ old ++ line → ended ≡ said ++ 10 ∷ [] → (es : List Event) × (ended ≡ old ++ text_of es)
one_line old said ended line e is s n = (
  e ∷ [],
  n ∙ ap (λ x. x ++ 10 ∷ []) (s ∙ ap (λ x. old ++ x) (sym is))
      ∙ append_assoc old (canonical_line e) (10 ∷ [])
      ∙ ap (λ x. old ++ x) (sym (append-nil (canonical_line e ++ 10 ∷ []))),
)

-- lines are added behind others
pub more_lines : (old mid new : List ℕ) → (es : List Event) × (mid ≡ old ++ text_of es) → (es : List Event) × (new ≡ mid ++ text_of es) → (es : List Event) × (new ≡ old ++ text_of es)
more_lines old mid new some more = (
  some.0 ++ more.0,
  more.1 ∙ ap (λ x. x ++ text_of more.0) some.1 ∙ append_assoc old (text_of some.0) (text_of more.0) ∙ ap (λ x. old ++ x) (sym (flat_map-append _ some.0 more.0)),
)
