-- Of all that was reached of a document: its nodes, and the elements right below its root.
use Rattle.std.proofs.Common.{◌≡◌, ℕ, ◌+◌, List, Option, None, Some, refl, sym, ap, ◌∙◌, subst, arith}
use Rattle.nx_tree.specs.declared.node.Kind.{Kind}
use Rattle.nx_tree.specs.declared.node.Kind.TheVariants.{Doc, Element, Attribute, Text, Instruction}
use Rattle.nx_tree.specs.declared.node.Node.{Node}
use Rattle.nx_tree.specs.Forest.{Forest, Empty, Plant, nodes}
use Rattle.nx_tree.specs.Document.{HasParts, element_count}
use Rattle.nx_cuts.specs.Cut.{Grown, Kept, joined}
use Rattle.nx_cuts.specs.Rows.{joined_row}
use Rattle.nx_cuts.proofs.RowLemmas.{joined_nothing}
use Rattle.nx_layouts.proofs.WithoutLemmas.{nodes_joined}
use Rattle.nx_rules.specs.Walked.{Reached, Walked, walked_forest, IsSoFar}
use Rattle.nx_rules.specs.Tour.{top_elements}
use Rattle.nx_rules.specs.Places.{Around, Top, Below, Behind, Inside, filled_around, before_there, behind_there, siblings_with, kind_above, level_of, MayBeBelow, MayBeThere}
use Rattle.nx_rules.proofs.PlaceLemmas.{same_below, same_elements, below_forest, forest_parts, joined_some, forest_row, behind_same, inside_same, may_be_there}

-- a row at a place brings its nodes
pub nodes_around : (around : Around) → (outside : ℕ) × ((row : Walked) → nodes (walked_forest (filled_around around row)) ≡ outside + nodes (walked_forest row))
nodes_around Top = (0, λ row. omega arith)
nodes_around (Below n s outer) =
    let r = nodes_around outer in
    (r.0 + (1 + nodes (walked_forest s)), λ row. let e = r.1 (Grown n row s) in omega (arith, e))
nodes_around (Behind done outer) =
    let r = nodes_around outer in
    (r.0 + nodes (walked_forest done), λ row. let e = r.1 (joined_row done row) in let f = ap nodes (forest_row done row) ∙ nodes_joined (walked_forest done) (walked_forest row) in omega (arith, e, f))
nodes_around (Inside p cs s outer) =
    let r = nodes_around outer in
    (r.0 + nodes (walked_forest s), λ row. let e = r.1 (Kept (Reached p cs) row s) in let f = nodes_joined (walked_forest row) (walked_forest s) in omega (arith, e, f))

-- what a row at a place is to the elements right below the root
abbrev pub TopIs : Option Kind → (all siblings : Forest) → ℕ → Type 0
TopIs None all siblings was = all ≡ siblings
TopIs (Some Doc) all siblings was = top_elements all ≡ element_count siblings
TopIs (Some Element) all siblings was = top_elements all ≡ was
TopIs (Some Attribute) all siblings was = top_elements all ≡ was
TopIs (Some Text) all siblings was = top_elements all ≡ was
TopIs (Some Instruction) all siblings was = top_elements all ≡ was

of_parts : (k : Kind) (name content : List ℕ) (all siblings : Forest) (was : ℕ) → HasParts k name content → top_elements all ≡ was → TopIs (Some k) all siblings was
of_parts Doc name content all siblings was h e = absurd h
of_parts Element name content all siblings was h e = e
of_parts Attribute name content all siblings was h e = e
of_parts Text name content all siblings was h e = e
of_parts Instruction name content all siblings was h e = e

-- a node below the root
node_below : (k : Kind) (level : ℕ) (b : Forest) (n : Node) (x s : Forest) → MayBeBelow k level (joined b (Plant n x s)) → HasParts n.kind n.name n.content
node_below k level b n x s h = let parts = forest_parts b (Plant n x s) (below_forest k level (joined b (Plant n x s)) h).0 in let there = parts.1 in there.0.parts

below_is : (above : Option Kind) (level : ℕ) (b : Forest) (n : Node) (x y s all same : Forest) (was : ℕ) → MayBeThere above level (joined b (Plant n x s)) → TopIs above all (joined b (Plant n y s)) was
    → TopIs above same (joined b (Plant n x s)) was → was ≡ top_elements same → TopIs (Some n.kind) all (joined Empty (joined y Empty)) was
below_is None level Empty n x y s all same was h e f g =
    let top : top_elements all ≡ element_count (joined Empty (joined y Empty)) = ap top_elements e ∙ ap element_count (sym (joined_nothing y)) in
    subst (λ (k : Kind). TopIs (Some k) all (joined Empty (joined y Empty)) was) (sym h.0) top
below_is None level (Plant m d t) n x y s all same was h e f g = absurd (joined_some t n x s h.3)
below_is (Some Doc) level b n x y s all same was h e f g =
    of_parts n.kind n.name n.content all (joined Empty (joined y Empty)) was (node_below Doc level b n x s h)
    (e ∙ same_elements (joined b (Plant n y s)) (joined b (Plant n x s)) (same_below b n y x s) ∙ sym f ∙ sym g)
below_is (Some Element) level b n x y s all same was h e f g = of_parts n.kind n.name n.content all (joined Empty (joined y Empty)) was (node_below Element level b n x s h) e
below_is (Some Attribute) level b n x y s all same was h e f g = of_parts n.kind n.name n.content all (joined Empty (joined y Empty)) was (node_below Attribute level b n x s h) e
below_is (Some Text) level b n x y s all same was h e f g = of_parts n.kind n.name n.content all (joined Empty (joined y Empty)) was (node_below Text level b n x s h) e
below_is (Some Instruction) level b n x y s all same was h e f g = of_parts n.kind n.name n.content all (joined Empty (joined y Empty)) was (node_below Instruction level b n x s h) e

-- with another row at the place
pub top_is : (around : Around) (row other : Walked) → IsSoFar (walked_forest (filled_around around row))
    → TopIs (kind_above around) (walked_forest (filled_around around other)) (siblings_with around (walked_forest other)) (top_elements (walked_forest (filled_around around row)))
top_is Top row other h = sym (joined_nothing (walked_forest other))
top_is (Below n s outer) row other h =
    below_is (kind_above outer) (level_of outer) (before_there outer) n.node (walked_forest row) (walked_forest other) (joined (walked_forest s) (behind_there outer))
    (walked_forest (filled_around outer (Grown n other s))) (walked_forest (filled_around outer (Grown n row s))) (top_elements (walked_forest (filled_around outer (Grown n row s)))) (may_be_there outer (Grown n row s) h)
    (top_is outer (Grown n row s) (Grown n other s) h) (top_is outer (Grown n row s) (Grown n row s) h) refl
top_is (Behind done outer) row other h =
    let was = top_elements (walked_forest (filled_around outer (joined_row done row))) in
    let all = walked_forest (filled_around outer (joined_row done other)) in
    subst (λ (f : Forest). TopIs (kind_above outer) all f was) (behind_same done outer other) (top_is outer (joined_row done row) (joined_row done other) h)
top_is (Inside p cs s outer) row other h =
    let was = top_elements (walked_forest (filled_around outer (Kept (Reached p cs) row s))) in
    let all = walked_forest (filled_around outer (Kept (Reached p cs) other s)) in
    subst (λ (f : Forest). TopIs (kind_above outer) all f was) (inside_same p cs s outer other) (top_is outer (Kept (Reached p cs) row s) (Kept (Reached p cs) other s) h)

-- where the node above is the root, and where it is another
pub top_at_doc : (k : Kind) (all siblings : Forest) (was : ℕ) → k ≡ Doc → TopIs (Some k) all siblings was → top_elements all ≡ element_count siblings
top_at_doc k all siblings was e h = subst (λ (x : Kind). TopIs (Some x) all siblings was) e h

pub top_elsewhere : (k : Kind) (all siblings : Forest) (was : ℕ) → (k ≡ Doc → ⊥) → TopIs (Some k) all siblings was → top_elements all ≡ was
top_elsewhere Doc all siblings was e h = absurd (e refl)
top_elsewhere Element all siblings was e h = h
top_elsewhere Attribute all siblings was e h = h
top_elsewhere Text all siblings was e h = h
top_elsewhere Instruction all siblings was e h = h
