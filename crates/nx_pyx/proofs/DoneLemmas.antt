-- Nothing is left exactly where there is no tree and no open element.
use Rattle.std.proofs.Common.{◌≡◌, ℕ, Bool, true, false, cond, List, [], ◌∷◌, ◌++◌, length, refl, ap, arith, length-append}
use Rattle.nx_tree.specs.Document.{is_element}
use Rattle.nx_tree.specs.Forest.{OrderedTree, forest_of}
use Rattle.nx_pyx.specs.Event.{Event, Start, End, Single, events}
use Rattle.nx_pyx.specs.Text.{text_of, canonical_line}
use Rattle.nx_pyx.specs.Writer.{forest_text, end_line, text_after}
use Rattle.nx_pyx.specs.declared.writer.OpenElement.{OpenElement}

line-nonempty : (e : Event) (es : List Event) → text_of (e ∷ es) ≡ [] → ⊥
line-nonempty e es h =
    omega (arith, length-append (canonical_line e ++ 10 ∷ []) (text_of es), length-append (canonical_line e) (10 ∷ []), ap length h)

events-nonempty : (element : Bool) (start single : Event) (es fs : List Event) → text_of (cond element (start ∷ es) (single ∷ []) ++ fs) ≡ [] → ⊥
events-nonempty true start single es fs h = line-nonempty start (es ++ fs) h
events-nonempty false start single es fs h = line-nonempty single fs h

ends-nonempty : (before after name : List ℕ) → before ++ (end_line name ++ after) ≡ [] → ⊥
ends-nonempty before after name h = omega (arith, length-append before (end_line name ++ after), ap length h)

prefix_nil : (xs ys : List ℕ) → xs ++ ys ≡ [] → xs ≡ []
prefix_nil [] ys h = refl
prefix_nil (x ∷ xs) ys h = cc

rest_nil : (xs ys : List ℕ) → xs ++ ys ≡ [] → ys ≡ []
rest_nil [] ys h = h
rest_nil (x ∷ xs) ys h = cc

trees_nil : (rest : List OrderedTree) → forest_text (forest_of rest) ≡ [] → rest ≡ []
trees_nil [] h = refl
trees_nil (t ∷ ts) h = absurd (events-nonempty (is_element t.node.kind) (Start t.node.name) (Single t.node) (events t.below ++ End t.node.name ∷ []) (events (forest_of ts)) h)

elements_nil : (elements : List OpenElement) → text_after elements ≡ [] → elements ≡ []
elements_nil [] h = refl
elements_nil (element ∷ elements) h = absurd (ends-nonempty (text_after elements) _ element.name.now h)

pub left_nil : (rest : List OrderedTree) (elements : List OpenElement) → forest_text (forest_of rest) ++ text_after elements ≡ [] → (rest ≡ []) × (elements ≡ [])
left_nil rest elements h = (trees_nil rest (prefix_nil _ _ h), elements_nil elements (rest_nil _ _ h))
