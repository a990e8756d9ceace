-- Nodes whose contents stand in lists, as one record has them.
use Rattle.std.proofs.Common.{◌≡◌, ℕ, List, ◌∷◌, ◌++◌, length, length-append, Option, None, Some, refl, sym, ap, ◌∙◌, arith}
use Rattle.std.specs.Option.{option_to_list}
use Rattle.nx_tree.specs.declared.node.Node.{Node}
use Rattle.nx_piece.specs.declared.piece.Far.{Far}
use Rattle.nx_piece.specs.Contents.{fars_in}
use Rattle.nx_piece.specs.PieceNode.{PieceNode}
use Rattle.nx_cuts.specs.Cut.{Bare, Grown, Kept}
use Rattle.nx_layouts.specs.Layout.{LaidNode, shown_with, in_record}
use Rattle.nx_layouts.proofs.FillLemmas.{fars-gap_more}
use Rattle.nx_rules.specs.Walked.{Walked, walked_body, content_in, contents_apart}

abbrev far_of : PieceNode → Option Far
far_of n = n.far

none_some : {A B : Type 0} {x : A} → None ≡ Some x → B
none_some e = absurd (cc)

some_same : {A : Type 0} {x y : A} → Some x ≡ Some y → x ≡ y
some_same e = cc

first_same : {A : Type 0} {x y : A} {xs ys : List A} → x ∷ xs ≡ y ∷ ys → x ≡ y
first_same e = cc

same_node : (n m : Node) → n.kind ≡ m.kind → n.name ≡ m.name → n.content ≡ m.content → n ≡ m
same_node n m kind name content = λ i. record { kind = kind i; name = name i; content = content i }

shown_same : (n m : Node) (l k : Option ℕ) → shown_with n l ≡ shown_with m k → content_in n.content l ≡ content_in m.content k → (n ≡ m) × (l ≡ k)
shown_same n m None None e f = (ap (λ (p : PieceNode). p.node) e, refl)
shown_same n m None (Some k) e f = none_some (ap far_of e)
shown_same n m (Some l) None e f = none_some (sym (ap far_of e))
shown_same n m (Some l) (Some k) e f =
    let far : Some (record { first = l; length = length n.content }) ≡ Some (record { first = k; length = length m.content }) = ap far_of e in
    let first : l ≡ k = ap (λ (f : Far). f.first) (some_same far) in
    let kind : n.kind ≡ m.kind = ap (λ (p : PieceNode). p.node.kind) e in
    let name : n.name ≡ m.name = ap (λ (p : PieceNode). p.node.name) e in
    (same_node n m kind name (first_same f), ap Some first)

-- a node is known by its item and its content
pub node_same : (n m : LaidNode) → in_record n ≡ in_record m → content_in n.node.content n.list ≡ content_in m.node.content m.list → n ≡ m
node_same n m e f =
    let h = shown_same n.node m.node n.list m.list e f in
    let node : n.node ≡ m.node = h.0 in
    let list : n.list ≡ m.list = h.1 in
    λ i. record { node = node i; list = list i }

pub one_apart : (n : Node) (list : Option ℕ) → length (content_in n.content list) ≡ length (option_to_list (shown_with n list).far)
one_apart n None = refl
one_apart n (Some first) = refl

-- a record has as many contents in lists as its items say
pub contents_counted : (w : Walked) → length (contents_apart w) ≡ length (fars_in (walked_body w))
contents_counted Bare = refl
contents_counted (Grown n b s) =
    let here = one_apart n.node n.list in
    let below = contents_counted b in
    let beside = contents_counted s in
    let a = length-append (content_in n.node.content n.list) (contents_apart b ++ contents_apart s) in
    let c = length-append (contents_apart b) (contents_apart s) in
    let d = length-append (option_to_list (in_record n).far) (fars_in (walked_body b) ++ fars_in (walked_body s)) in
    let e = length-append (fars_in (walked_body b)) (fars_in (walked_body s)) in
    omega (arith, here, below, beside, a, c, d, e)
contents_counted (Kept mark m s) = contents_counted s ∙ ap length (sym (fars-gap_more (walked_body s)))

pub content_counted : (n m : LaidNode) → in_record n ≡ in_record m → length (content_in n.node.content n.list) ≡ length (content_in m.node.content m.list)
content_counted n m e = one_apart n.node n.list ∙ ap (λ (p : PieceNode). length (option_to_list p.far)) e ∙ sym (one_apart m.node m.list)
