-- The places of a draft whose records have come, and what it has of a piece.
use Rattle.std.proofs.Common.{◌≡◌, List, [], ◌∷◌, ◌++◌, length, refl, sym, ap, subst, ◌∙◌, arith, append_assoc, length-append, IsPermutation}
use Rattle.std.proofs.lemmas.List.Sorted.{IsPermutation-refl, IsPermutation-trans, IsPermutation-cons, IsPermutation-append_left, IsPermutation-append_right, IsPermutation-middle}
use Rattle.nx_piece.specs.Gapped.{Gapped, Grow}
use Rattle.nx_cuts.specs.Cut.{CutForest, Bare, Grown, Kept}
use Rattle.nx_layouts.specs.Layout.{RecordPlace, LaidNode, Layout, in_record, gap_more, piece_body, proxies_of, places_of, nodes_in, without_places}
use Rattle.nx_layouts.specs.Replace.{joined_layout}
use Rattle.nx_layouts.proofs.ReplaceLemmas.{nodes-joined_layout}
use Rattle.nx_drafts.specs.Draft.{Draft, Ends, Grows, Stands, Comes, drawn_forest, layout_before, layout_after, came, draft_body, draft_count}
use Rattle.nx_drafts.specs.Laws.{NodesStayInOrder, PlacesAreBoth}

places-joined : (a b : Layout) → places_of (joined_layout a b) ≡ places_of a ++ places_of b
places-joined Bare b = refl
places-joined (Grown n d s) b = ap (λ (l : List RecordPlace). places_of d ++ l) (places-joined s b) ∙ sym (append_assoc (places_of d) (places_of s) (places_of b))
places-joined (Kept r m s) b = ap (λ (l : List RecordPlace). r ∷ places_of m ++ l) (places-joined s b) ∙ ap (λ (l : List RecordPlace). r ∷ l) (sym (append_assoc (places_of m) (places_of s) (places_of b)))

swapped : {A : Type 0} (b c : List A) → IsPermutation (b ++ c) (c ++ b)
swapped {A} [] c = subst (λ l. IsPermutation c l) (sym (nothing c)) (IsPermutation-refl c)
  where
    nothing : (l : List A) → l ++ [] ≡ l
    nothing [] = refl
    nothing (x ∷ l) = ap (λ (r : List A). x ∷ r) (nothing l)
swapped {A} (x ∷ b) c = IsPermutation-trans (x ∷ b ++ c) (x ∷ (c ++ b)) (c ++ x ∷ b) (IsPermutation-cons x (b ++ c) (c ++ b) (swapped b c)) (turned x c b)
  where
    turned : (x : A) (c b : List A) → IsPermutation (x ∷ (c ++ b)) (c ++ x ∷ b)
    turned x [] b = IsPermutation-refl (x ∷ b)
    turned x (y ∷ c) b = IsPermutation-trans (x ∷ y ∷ (c ++ b)) (y ∷ x ∷ (c ++ b)) (y ∷ c ++ x ∷ b) (IsPermutation-middle (x ∷ []) y (c ++ b)) (IsPermutation-cons y (x ∷ (c ++ b)) (c ++ x ∷ b) (turned x c b))

-- (a ++ b) ++ (c ++ d) as (a ++ c) ++ (b ++ d)
crossed : {A : Type 0} (a b c d : List A) → IsPermutation ((a ++ b) ++ (c ++ d)) ((a ++ c) ++ (b ++ d))
crossed a b c d =
    subst (λ l. IsPermutation l ((a ++ c) ++ (b ++ d))) (ap (λ l. a ++ l) (append_assoc b c d) ∙ sym (append_assoc a b (c ++ d)))
    (subst (λ l. IsPermutation (a ++ ((b ++ c) ++ d)) l) (ap (λ l. a ++ l) (append_assoc c b d) ∙ sym (append_assoc a c (b ++ d)))
    (IsPermutation-append_right a ((b ++ c) ++ d) ((c ++ b) ++ d) (IsPermutation-append_left d (b ++ c) (c ++ b) (swapped b c))))

both_permuted : {A : Type 0} (a b c d : List A) → IsPermutation a c → IsPermutation b d → IsPermutation (a ++ b) (c ++ d)
both_permuted a b c d p q = IsPermutation-trans (a ++ b) (c ++ b) (c ++ d) (IsPermutation-append_left b a c p) (IsPermutation-append_right c b d q)

pub places_are_both : PlacesAreBoth
places_are_both Ends = IsPermutation-refl []
places_are_both (Grows n b s) =
    IsPermutation-trans (places_of (layout_after b) ++ places_of (layout_after s)) ((came b ++ places_of (layout_before b)) ++ (came s ++ places_of (layout_before s))) ((came b ++ came s) ++ (places_of (layout_before b) ++ places_of (layout_before s)))
    (both_permuted (places_of (layout_after b)) (places_of (layout_after s)) (came b ++ places_of (layout_before b)) (came s ++ places_of (layout_before s)) (places_are_both b) (places_are_both s))
    (crossed (came b) (places_of (layout_before b)) (came s) (places_of (layout_before s)))
places_are_both (Stands r m s) =
    IsPermutation-trans (r ∷ places_of m ++ places_of (layout_after s)) ((r ∷ places_of m) ++ (came s ++ places_of (layout_before s))) (came s ++ (r ∷ places_of m ++ places_of (layout_before s)))
    (IsPermutation-append_right (r ∷ places_of m) (places_of (layout_after s)) (came s ++ places_of (layout_before s)) (places_are_both s))
    (crossed [] (r ∷ places_of m) (came s) (places_of (layout_before s)))
places_are_both (Comes r m s) =
    subst (λ l. IsPermutation (r ∷ places_of (layout_after m) ++ places_of (layout_after s)) (r ∷ (came m ++ came s) ++ l)) (sym (places-joined (layout_before m) (layout_before s)))
    (IsPermutation-cons r (places_of (layout_after m) ++ places_of (layout_after s)) ((came m ++ came s) ++ (places_of (layout_before m) ++ places_of (layout_before s)))
    (IsPermutation-trans (places_of (layout_after m) ++ places_of (layout_after s)) ((came m ++ places_of (layout_before m)) ++ (came s ++ places_of (layout_before s))) ((came m ++ came s) ++ (places_of (layout_before m) ++ places_of (layout_before s)))
    (both_permuted (places_of (layout_after m)) (places_of (layout_after s)) (came m ++ places_of (layout_before m)) (came s ++ places_of (layout_before s)) (places_are_both m) (places_are_both s))
    (crossed (came m) (places_of (layout_before m)) (came s) (places_of (layout_before s)))))

-- what a record has of a draft whose records have come
pub body-layout_after : (c : Draft RecordPlace) → piece_body (layout_after c) ≡ draft_body c
body-layout_after Ends = refl
body-layout_after (Grows n b s) = ap (λ (g : Gapped). Grow (in_record n) g (piece_body (layout_after s))) (body-layout_after b) ∙ ap (Grow (in_record n) (draft_body b)) (body-layout_after s)
body-layout_after (Stands r m s) = ap gap_more (body-layout_after s)
body-layout_after (Comes r m s) = ap gap_more (body-layout_after s)

pub count-layout_after : (c : Draft RecordPlace) → length (proxies_of (layout_after c)) ≡ draft_count c
count-layout_after Ends = refl
count-layout_after (Grows n b s) = omega (arith, length-append (proxies_of (layout_after b)) (proxies_of (layout_after s)), count-layout_after b, count-layout_after s)
count-layout_after (Stands r m s) = omega (arith, count-layout_after s)
count-layout_after (Comes r m s) = omega (arith, count-layout_after s)

pub drawn_forest-layout_after : (c : Draft RecordPlace) → without_places (layout_after c) ≡ drawn_forest c
drawn_forest-layout_after Ends = refl
drawn_forest-layout_after (Grows n b s) = ap (λ (l : CutForest). Grown n.node l (without_places (layout_after s))) (drawn_forest-layout_after b) ∙ ap (Grown n.node (drawn_forest b)) (drawn_forest-layout_after s)
drawn_forest-layout_after (Stands r m s) = ap (Kept tt (without_places m)) (drawn_forest-layout_after s)
drawn_forest-layout_after (Comes r m s) = ap (λ (l : CutForest). Kept tt l (without_places (layout_after s))) (drawn_forest-layout_after m) ∙ ap (Kept tt (drawn_forest m)) (drawn_forest-layout_after s)

-- records that come leave the nodes
pub nodes_stay : NodesStayInOrder
nodes_stay Ends = refl
nodes_stay (Grows n b s) = ap (λ (l : List LaidNode). n ∷ l ++ nodes_in (layout_after s)) (nodes_stay b) ∙ ap (λ (l : List LaidNode). n ∷ nodes_in (layout_before b) ++ l) (nodes_stay s)
nodes_stay (Stands r m s) = ap (λ (l : List LaidNode). nodes_in m ++ l) (nodes_stay s)
nodes_stay (Comes r m s) =
    ap (λ (l : List LaidNode). l ++ nodes_in (layout_after s)) (nodes_stay m) ∙ ap (λ (l : List LaidNode). nodes_in (layout_before m) ++ l) (nodes_stay s)
    ∙ sym (nodes-joined_layout (layout_before m) (layout_before s))
