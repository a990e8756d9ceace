-- The forest that a flat list says: its first item, lists behind each other, and what stands in the runs.
use Rattle.std.proofs.Common.{◌≡◌, ℕ, zero, suc, ◌+◌, ◌≤◌, List, [], ◌∷◌, length, take, drop, refl, sym, ap, ◌∙◌, arith}
use Rattle.std.proofs.lemmas.List.{length-drop}
use Rattle.nx_piece.specs.declared.viewing.NodeView.{NodeView}
use Rattle.nx_piece.specs.declared.viewing.Flat.{Flat}
use Rattle.nx_piece.specs.declared.viewing.Flat.TheVariants.{Tree, Run}
use Rattle.nx_piece.specs.PieceNode.{PieceNode, node_weight, item_slots, MayBeFar}
use Rattle.nx_piece.specs.Gapped.{Gapped, Grow, Gap, gapped_width, gapped_nodes, gapped_size, gapped_weight, proxies_in}
use Rattle.nx_piece.specs.Flat.{seen_node, forest_within, unflattened}
use Rattle.nx_piece.specs.Valid.{AreFar}
use Rattle.nx_piece.proofs.SizeLemmas.{gapped_sum, one_each, sum_is_weight, sum_is_size, sum_is_nodes}

take_few : (n : ℕ) (items : List Flat) → length (take n items) ≤ length items
take_few zero items = omega arith
take_few (suc n) [] = omega arith
take_few (suc n) (item ∷ items) = omega (arith, take_few n items)

-- room for more items than there are changes nothing
within_same : (n m : ℕ) (items : List Flat) → length items ≤ n → length items ≤ m → forest_within n items ≡ forest_within m items
within_same zero zero items h k = refl
within_same zero (suc m) [] h k = refl
within_same zero (suc m) (item ∷ items) h k = absurd (omega arith)
within_same (suc n) zero [] h k = refl
within_same (suc n) zero (item ∷ items) h k = absurd (omega arith)
within_same (suc n) (suc m) [] h k = refl
within_same (suc n) (suc m) (Run count ∷ items) h k = ap (Gap count) (within_same n m items (omega arith) (omega arith))
within_same (suc n) (suc m) (Tree node below ∷ items) h k =
    let t = take_few below items in let d = length-drop below items in
    ap (λ (f : Gapped). Grow (seen_node node) f (forest_within n (drop below items))) (within_same n m (take below items) (omega arith) (omega arith))
    ∙ ap (λ (f : Gapped). Grow (seen_node node) (forest_within m (take below items)) f) (within_same n m (drop below items) (omega arith) (omega arith))

-- a node before others has so many of them below it
pub first_tree : (node : NodeView) (below : ℕ) (items : List Flat) → unflattened (Tree node below ∷ items) ≡ Grow (seen_node node) (unflattened (take below items)) (unflattened (drop below items))
first_tree node below items =
    let t = take_few below items in let d = length-drop below items in
    ap (λ (f : Gapped). Grow (seen_node node) f (forest_within (length items) (drop below items))) (within_same (length items) (length (take below items)) (take below items) (omega arith) (omega arith))
    ∙ ap (λ (f : Gapped). Grow (seen_node node) (unflattened (take below items)) f) (within_same (length items) (length (drop below items)) (drop below items) (omega arith) (omega arith))

take_none : (n : ℕ) → take {A = Flat} n [] ≡ []
take_none zero = refl
take_none (suc n) = refl

drop_none : (n : ℕ) → drop {A = Flat} n [] ≡ []
drop_none zero = refl
drop_none (suc n) = refl

-- a list that is cut somewhere else behind its end is cut there
pub cut_within : (below : ℕ) (items : List Flat) (cut : ℕ) → (below ≤ length items → cut ≡ below) → (length items ≤ below → cut ≡ length items) → (take cut items ≡ take below items) × (drop cut items ≡ drop below items)
cut_within below [] cut h k = (take_none cut ∙ sym (take_none below), drop_none cut ∙ sym (drop_none below))
cut_within zero (item ∷ items) cut h k = let e : cut ≡ 0 = h (omega arith) in (ap (λ n. take n (item ∷ items)) e, ap (λ n. drop n (item ∷ items)) e)
cut_within (suc below) (item ∷ items) zero h k = absurd (grind arith)
cut_within (suc below) (item ∷ items) (suc cut) h k =
    let r = cut_within below items cut (λ e. omega arith) (λ e. omega arith) in
    (ap (λ l. item ∷ l) r.0, r.1)

-- a list that begins with a node, cut behind what stands below it
pub split_tree : {all rest children beside : List Flat} {first : Flat} {node : NodeView} {below : ℕ} (cut : ℕ) → all ≡ first ∷ rest → first ≡ Tree node below → children ≡ take cut rest → beside ≡ drop cut rest
    → (below ≤ length rest → cut ≡ below) → (length rest ≤ below → cut ≡ length rest) → unflattened all ≡ Grow (seen_node node) (unflattened children) (unflattened beside)
split_tree {all} {rest} {children} {beside} {first} {node} {below} cut is tree front back short long =
    let same = cut_within below rest cut short long in
    ap unflattened (is ∙ ap (λ (x : Flat). x ∷ rest) tree)
    ∙ first_tree node below rest
    ∙ ap (λ (l : List Flat). Grow (seen_node node) (unflattened l) (unflattened (drop below rest))) (sym (front ∙ same.0))
    ∙ ap (λ (l : List Flat). Grow (seen_node node) (unflattened children) (unflattened l)) (sym (back ∙ same.1))

pub split_run : {all rest : List Flat} {first : Flat} {count : ℕ} → all ≡ first ∷ rest → first ≡ Run count → unflattened all ≡ Gap count (unflattened rest)
split_run {all} {rest} {first} {count} is run = ap unflattened (is ∙ ap (λ (x : Flat). x ∷ rest) run)

width_within : (n : ℕ) (items : List Flat) → length items ≤ n → gapped_width (forest_within n items) ≤ length items
width_within zero items h = omega arith
width_within (suc n) [] h = omega arith
width_within (suc n) (Run count ∷ items) h = let r = width_within n items (omega arith) in omega (arith, r)
width_within (suc n) (Tree node below ∷ items) h =
    let d = length-drop below items in let r = width_within n (drop below items) (omega arith) in omega arith

-- no more items stand beside each other than there are
pub width_flat : (items : List Flat) → gapped_width (unflattened items) ≤ length items
width_flat items = width_within (length items) items (omega arith)

-- how many proxies the runs of a flat list stand for
abbrev pub runs_sum : List Flat → ℕ
runs_sum [] = 0
runs_sum (Tree node below ∷ items) = runs_sum items
runs_sum (Run count ∷ items) = count + runs_sum items

runs_cut : (n : ℕ) (items : List Flat) → runs_sum (take n items) + runs_sum (drop n items) ≡ runs_sum items
runs_cut zero items = omega arith
runs_cut (suc n) [] = omega arith
runs_cut (suc n) (Tree node below ∷ items) = runs_cut n items
runs_cut (suc n) (Run count ∷ items) = let h = runs_cut n items in omega (arith, h)

runs_within : (n : ℕ) (items : List Flat) → length items ≤ n → proxies_in (forest_within n items) ≡ runs_sum items
runs_within zero [] h = refl
runs_within zero (item ∷ items) h = absurd (omega arith)
runs_within (suc n) [] h = refl
runs_within (suc n) (Run count ∷ items) h = let r = runs_within n items (omega arith) in omega (arith, r)
runs_within (suc n) (Tree node below ∷ items) h =
    let t = take_few below items in let d = length-drop below items in
    let a = runs_within n (take below items) (omega arith) in
    let b = runs_within n (drop below items) (omega arith) in
    let c = runs_cut below items in
    omega arith

pub runs_in : (items : List Flat) → proxies_in (unflattened items) ≡ runs_sum items
runs_in items = runs_within (length items) items (omega arith)

-- the sum of a measure of the nodes of a flat list
abbrev pub flat_sum : (PieceNode → ℕ) → List Flat → ℕ
flat_sum measure [] = 0
flat_sum measure (Tree node below ∷ items) = measure (seen_node node) + flat_sum measure items
flat_sum measure (Run count ∷ items) = flat_sum measure items

sum_cut : (measure : PieceNode → ℕ) (n : ℕ) (items : List Flat) → flat_sum measure (take n items) + flat_sum measure (drop n items) ≡ flat_sum measure items
sum_cut measure zero items = omega arith
sum_cut measure (suc n) [] = omega arith
sum_cut measure (suc n) (Tree node below ∷ items) = let h = sum_cut measure n items in omega (arith, h)
sum_cut measure (suc n) (Run count ∷ items) = sum_cut measure n items

sum_within : (measure : PieceNode → ℕ) (n : ℕ) (items : List Flat) → length items ≤ n → gapped_sum measure (forest_within n items) ≡ flat_sum measure items
sum_within measure zero [] h = refl
sum_within measure zero (item ∷ items) h = absurd (omega arith)
sum_within measure (suc n) [] h = refl
sum_within measure (suc n) (Run count ∷ items) h = sum_within measure n items (omega arith)
sum_within measure (suc n) (Tree node below ∷ items) h =
    let t = take_few below items in let d = length-drop below items in
    let a = sum_within measure n (take below items) (omega arith) in
    let b = sum_within measure n (drop below items) (omega arith) in
    let c = sum_cut measure below items in
    omega arith

pub weights_in : (items : List Flat) → flat_sum node_weight items ≡ gapped_weight (unflattened items)
weights_in items = sym (sum_within node_weight (length items) items (omega arith)) ∙ sum_is_weight (unflattened items)

pub sizes_in : (items : List Flat) → flat_sum item_slots items ≡ gapped_size (unflattened items)
sizes_in items = sym (sum_within item_slots (length items) items (omega arith)) ∙ sum_is_size (unflattened items)

-- each far node of a flat list is as one may be
abbrev pub AreFlatFar : List Flat → Type 0
AreFlatFar [] = Unit {0}
AreFlatFar (Tree node below ∷ items) = MayBeFar (seen_node node) × AreFlatFar items
AreFlatFar (Run count ∷ items) = AreFlatFar items

far_joined : (n : ℕ) (items : List Flat) → AreFlatFar (take n items) → AreFlatFar (drop n items) → AreFlatFar items
far_joined zero items h k = k
far_joined (suc n) [] h k = tt
far_joined (suc n) (Tree node below ∷ items) h k = (h.0, far_joined n items h.1 k)
far_joined (suc n) (Run count ∷ items) h k = far_joined n items h k

far_within : (n : ℕ) (items : List Flat) → length items ≤ n → AreFar (forest_within n items) → AreFlatFar items
far_within zero [] h k = tt
far_within zero (item ∷ items) h k = absurd (omega arith)
far_within (suc n) [] h k = tt
far_within (suc n) (Run count ∷ items) h k = far_within n items (omega arith) k
far_within (suc n) (Tree node below ∷ items) h k =
    let t = take_few below items in let d = length-drop below items in
    (k.0, far_joined below items (far_within n (take below items) (omega arith) k.1) (far_within n (drop below items) (omega arith) k.2))

pub far_in : (items : List Flat) → AreFar (unflattened items) → AreFlatFar items
far_in items h = far_within (length items) items (omega arith) h

pub nodes_in : (items : List Flat) → flat_sum one_each items ≡ gapped_nodes (unflattened items)
nodes_in items = sym (sum_within one_each (length items) items (omega arith)) ∙ sum_is_nodes (unflattened items)
