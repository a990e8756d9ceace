-- What a record has of a row.
use Rattle.std.proofs.Common.{◌≡◌, ℕ, List, [], ◌∷◌, ◌++◌, map, length, Some, inl, inr, refl, sym, ap, ap₂, ◌∙◌, subst, arith, length-append, append_assoc}
use Rattle.std.specs.Prelude.{◌⊎◌, Contains, Option, None}
use Rattle.std.specs.Option.{option_to_list}
use Rattle.std.proofs.lemmas.List.{map-append}
use Rattle.std.proofs.lemmas.List.Elements.{Contains-append_left, Contains-append_right, Contains-append_cases}
use Rattle.nx_tree.specs.declared.node.Node.{Node}
use Rattle.nx_tree.specs.Forest.{Forest, Empty, Plant, nodes}
use Rattle.nx_weights.specs.Weight.{in_order}
use Rattle.nx_piece.specs.declared.piece.Far.{Far}
use Rattle.nx_piece.specs.declared.piece.Piece.{Piece}
use Rattle.nx_piece.specs.Contents.{fars_in}
use Rattle.nx_piece.proofs.SizeLemmas.{size_is_weight}
use Rattle.nx_cuts.specs.Cut.{Bare, Grown, Kept, joined}
use Rattle.nx_layouts.specs.Layout.{RecordPlace, LaidNode, Layout, Stock, laid_forest, shown_with, in_record, piece_body, piece_of, places_of, nodes_in, AreHeld}
use Rattle.nx_layouts.specs.Drawn.{BodiesAreOfRows}
use Rattle.nx_layouts.proofs.PlaceLemmas.{no_place, one_place, first_among}
use Rattle.nx_layouts.proofs.SizeLemmas.{body_weight}
use Rattle.nx_layouts.proofs.FillLemmas.{fars-gap_more}
use Rattle.nx_layouts.proofs.DrawnLemmas.{drawn_wide, drawn_free, free_drawn}
use Rattle.nx_layouts.proofs.WithoutLemmas.{nodes_joined}

-- The lists that items name:

-- the far content that an item names is its node's
shown_names : (node : Node) (list : Option ℕ) (far : Far) → Contains (option_to_list (shown_with node list).far) far → (list ≡ Some far.first) × (length node.content ≡ far.length)
shown_names node None far among = absurd (no_place far among)
shown_names node (Some first) far among =
    let same : far ≡ record { first = first; length = length node.content } = one_place (record { first = first; length = length node.content }) far among in
    (ap (λ (f : Far). Some f.first) (sym same), ap (λ (f : Far). f.length) (sym same))

-- some of these nodes has the far content
abbrev pub HasFar : List LaidNode → Far → Type 0
HasFar ns far = (n : LaidNode) × Contains ns n × (n.list ≡ Some far.first) × (length n.node.content ≡ far.length)

-- ... and so has one of more nodes
has_left : (a b : List LaidNode) (far : Far) → HasFar a far → HasFar (a ++ b) far
has_left a b far h = (h.0, Contains-append_left a b h.0 h.1, h.2, h.3)

has_right : (a b : List LaidNode) (far : Far) → HasFar b far → HasFar (a ++ b) far
has_right a b far h = (h.0, Contains-append_right a b h.0 h.1, h.2, h.3)

named_in : (row : Layout) (far : Far) → Contains (fars_in (piece_body row)) far → HasFar (nodes_in row) far
named_in Bare far among = absurd (no_place far among)
named_in (Grown n b s) far among =
    elim (Contains-append_cases (option_to_list (in_record n).far) (fars_in (piece_body b) ++ fars_in (piece_body s)) far among) [
      | inl own ↦ let h = shown_names n.node n.list far own in (n, first_among n (nodes_in b ++ nodes_in s), h.0, h.1)
      | inr deeper ↦ elim (Contains-append_cases (fars_in (piece_body b)) (fars_in (piece_body s)) far deeper) [
        | inl one ↦ has_left (n ∷ nodes_in b) (nodes_in s) far (has_right (n ∷ []) (nodes_in b) far (named_in b far one))
        | inr other ↦ has_right (n ∷ nodes_in b) (nodes_in s) far (named_in s far other)
      ]
    ]
named_in (Kept p m s) far among =
    has_right (nodes_in m) (nodes_in s) far (named_in s far (subst (λ (fs : List Far). Contains fs far) (fars-gap_more (piece_body s)) among))

-- the piece of each record of a layout that is held names lists of its nodes
pub record_named : (stock : Stock) (row : Layout) (place : RecordPlace) → AreHeld stock row → Contains (places_of row) place
    → (piece : Piece) × (stock.piece_at place ≡ Some piece) × ((far : Far) → Contains (fars_in piece.body.roots) far → HasFar (nodes_in row) far)
record_named stock Bare place h among = absurd (no_place place among)
record_named stock (Grown n b s) place h among =
    elim (Contains-append_cases (places_of b) (places_of s) place among) [
      | inl one ↦ let r = record_named stock b place h.1 one in (r.0, r.1, λ far names. has_left (n ∷ nodes_in b) (nodes_in s) far (has_right (n ∷ []) (nodes_in b) far (r.2 far names)))
      | inr other ↦ let r = record_named stock s place h.2 other in (r.0, r.1, λ far names. has_right (n ∷ nodes_in b) (nodes_in s) far (r.2 far names))
    ]
record_named stock (Kept p m s) place h among =
    elim (Contains-append_cases (p ∷ []) (places_of m ++ places_of s) place among) [
      | inl here ↦ (piece_of m, ap stock.piece_at (one_place p place here) ∙ (h.0).there, λ far names. has_left (nodes_in m) (nodes_in s) far (named_in m far names))
      | inr deeper ↦ elim (Contains-append_cases (places_of m) (places_of s) place deeper) [
        | inl one ↦ let r = record_named stock m place h.1 one in (r.0, r.1, λ far names. has_left (nodes_in m) (nodes_in s) far (r.2 far names))
        | inr other ↦ let r = record_named stock s place h.2 other in (r.0, r.1, λ far names. has_right (nodes_in m) (nodes_in s) far (r.2 far names))
      ]
    ]

-- Far contents are named:

abbrev pub far_at : LaidNode → ℕ → Far
far_at n first = record { first = first; length = length n.node.content }

own_far : (node : Node) (list : Option ℕ) (first : ℕ) → list ≡ Some first → Contains (option_to_list (shown_with node list).far) (record { first = first; length = length node.content })
own_far node None first e = absurd (cc)
own_far node (Some other) first e = subst (λ (f : ℕ). Contains (option_to_list (shown_with node (Some other)).far) (record { first = f; length = length node.content })) (cc) (first_among (record { first = other; length = length node.content }) [])

-- the piece of some record of these places names the far content
abbrev pub IsNamedAt : Stock → List RecordPlace → Far → Type 0
IsNamedAt stock places far = (place : RecordPlace) × (piece : Piece) × Contains places place × (stock.piece_at place ≡ Some piece) × Contains (fars_in piece.body.roots) far

named_left : (stock : Stock) (a b : List RecordPlace) (far : Far) → IsNamedAt stock a far → IsNamedAt stock (a ++ b) far
named_left stock a b far h = (h.0, h.1, Contains-append_left a b h.0 h.2, h.3, h.4)

named_right : (stock : Stock) (a b : List RecordPlace) (far : Far) → IsNamedAt stock b far → IsNamedAt stock (a ++ b) far
named_right stock a b far h = (h.0, h.1, Contains-append_right a b h.0 h.2, h.3, h.4)

-- each far content of a layout that is held is named by an item of the row, or by the piece of a record below
pub node_named : (stock : Stock) (row : Layout) (n : LaidNode) (first : ℕ) → AreHeld stock row → Contains (nodes_in row) n → n.list ≡ Some first
    → Contains (fars_in (piece_body row)) (far_at n first) ⊎ IsNamedAt stock (places_of row) (far_at n first)
node_named stock Bare n first h among e = absurd (no_place n among)
node_named stock (Grown m b s) n first h among e =
    let far : Far = far_at n first in
    let own : List Far = option_to_list (in_record m).far in
    elim (Contains-append_cases (m ∷ []) (nodes_in b ++ nodes_in s) n among) [
      | inl here ↦ inl (Contains-append_left own (fars_in (piece_body b) ++ fars_in (piece_body s)) far
          (subst (λ (x : LaidNode). Contains (option_to_list (in_record x).far) far) (one_place m n here) (own_far n.node n.list first e)))
      | inr deeper ↦ elim (Contains-append_cases (nodes_in b) (nodes_in s) n deeper) [
        | inl one ↦ elim (node_named stock b n first h.1 one e) [
          | inl item ↦ inl (Contains-append_right own (fars_in (piece_body b) ++ fars_in (piece_body s)) far (Contains-append_left (fars_in (piece_body b)) (fars_in (piece_body s)) far item))
          | inr record_names ↦ inr (named_left stock (places_of b) (places_of s) far record_names)
        ]
        | inr other ↦ elim (node_named stock s n first h.2 other e) [
          | inl item ↦ inl (Contains-append_right own (fars_in (piece_body b) ++ fars_in (piece_body s)) far (Contains-append_right (fars_in (piece_body b)) (fars_in (piece_body s)) far item))
          | inr record_names ↦ inr (named_right stock (places_of b) (places_of s) far record_names)
        ]
      ]
    ]
node_named stock (Kept p m s) n first h among e =
    let far : Far = far_at n first in
    elim (Contains-append_cases (nodes_in m) (nodes_in s) n among) [
      | inl one ↦ elim (node_named stock m n first h.1 one e) [
        | inl item ↦ inr (p, piece_of m, first_among p (places_of m ++ places_of s), (h.0).there, item)
        | inr record_names ↦ inr (named_right stock (p ∷ []) (places_of m ++ places_of s) far (named_left stock (places_of m) (places_of s) far record_names))
      ]
      | inr other ↦ elim (node_named stock s n first h.2 other e) [
        | inl item ↦ inl (subst (λ (fs : List Far). Contains fs far) (sym (fars-gap_more (piece_body s))) item)
        | inr record_names ↦ inr (named_right stock (p ∷ []) (places_of m ++ places_of s) far (named_right stock (places_of m) (places_of s) far record_names))
      ]
    ]

-- The nodes of what is drawn:

counted_in : (row : Layout) → nodes (laid_forest row) ≡ length (nodes_in row)
counted_in Bare = refl
counted_in (Grown n b s) = omega (arith, counted_in b, counted_in s, length-append (nodes_in b) (nodes_in s))
counted_in (Kept p m s) = omega (arith, nodes_joined (laid_forest m) (laid_forest s), counted_in m, counted_in s, length-append (nodes_in m) (nodes_in s))

order_joined : (a b : Forest) → in_order (joined a b) ≡ in_order a ++ in_order b
order_joined Empty b = refl
order_joined (Plant n d s) b = ap (λ (ns : List Node). n ∷ (in_order d ++ ns)) (order_joined s b) ∙ ap (λ (ns : List Node). n ∷ ns) (sym (append_assoc (in_order d) (in_order s) (in_order b)))

in_document : (row : Layout) → in_order (laid_forest row) ≡ map (λ n. n.node) (nodes_in row)
in_document Bare = refl
in_document (Grown n b s) =
    ap₂ (λ (xs ys : List Node). n.node ∷ (xs ++ ys)) (in_document b) (in_document s) ∙ ap (λ (ns : List Node). n.node ∷ ns) (sym (map-append (λ (m : LaidNode). m.node) (nodes_in b) (nodes_in s)))
in_document (Kept p m s) =
    order_joined (laid_forest m) (laid_forest s)
    ∙ ap₂ (λ (xs ys : List Node). xs ++ ys) (in_document m) (in_document s)
    ∙ sym (map-append (λ (n : LaidNode). n.node) (nodes_in m) (nodes_in s))

pub bodies_are_of_rows : BodiesAreOfRows
bodies_are_of_rows row = record {
  weighs = body_weight row;
  sized = λ near far. omega (arith, size_is_weight (piece_body row) near far);
  named = named_in row;
  counted = counted_in row;
  in_document = in_document row;
  wide = drawn_wide row;
  free = (drawn_free row, free_drawn row);
}
