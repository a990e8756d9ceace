-- Trees taken out of items.
use Rattle.std.proofs.Common.{◌≡◌, ℕ, zero, suc, ◌+◌, ◌-◌, ◌<◌, ◌≤◌, List, [], ◌∷◌, ◌++◌, Option, None, Some, length, take, drop, get_or, set, refl, sym, ap, ap₂, ◌∙◌, subst, arith, append_assoc}
use Rattle.std.specs.List.{slice_get}
use Rattle.std.proofs.lemmas.List.{drop-drop, drop_all, length-drop, get_or-drop, take-append-drop, take_more_set, drop-set-lt, set_split}
use Rattle.nx_piece.specs.PieceNode.{PieceNode}
use Rattle.nx_piece.specs.declared.piece.Item.{Item}
use Rattle.nx_piece.specs.declared.piece.Item.TheVariants.{Tree, Run}
use Rattle.nx_piece.specs.declared.piece.Proxy.{Proxy}
use Rattle.nx_piece.specs.Gapped.{Gapped, GappedTree, End, Grow, Gap, proxies_in, with_gap}
use Rattle.nx_piece.specs.Items.{gapped_of, with_items}
use Rattle.nx_piece.specs.Valid.{AreApart, BeginsNoGap}
use Rattle.nx_piece.specs.Locate.{Own, Kept, Inside, roots_of, children_of, reached}
use Rattle.nx_piece_edits.specs.Cutting.{without_tree}
use Rattle.nx_piece.specs.Found.{children_in, StandsAmong}
use Rattle.nx_piece_edits.specs.Taking.{led, IsTakenOut}
use Rattle.nx_piece_edits.specs.Setting.{with_tree}
use Rattle.nx_piece_edits.specs.Shortening.{items_before}
use Rattle.nx_piece.proofs.FoundLemmas.{take_next, proxies_of_items}

pub items_append : (items more : List Item) (f : Gapped) → items_before (items ++ more) f ≡ items_before items (items_before more f)
items_append [] more f = refl
items_append (Tree t ∷ items) more f = ap (Grow t.node t.below) (items_append items more f)
items_append (Run c ∷ items) more f = ap (Gap c) (items_append items more f)

-- Behind items, a path takes out of what stands there what it takes out of all, and replaces there what it replaces:

cut_behind : (items : List Item) (f : Gapped) (proxies : List Proxy) (left : ℕ) (path : List ℕ)
    → without_tree (children_in items proxies + left) path (items_before items f) proxies ≡ with_items items (without_tree left path f (drop (proxies_in (gapped_of items)) proxies))
cut_behind [] f proxies left path = ap (λ (n : ℕ). without_tree n path f proxies) (let q : 0 + left ≡ left = omega arith in q)
cut_behind (Tree t ∷ items) f proxies left path =
    let own : ℕ = proxies_in t.below in
    let place : 1 + children_in items (drop own proxies) + left ≡ suc (children_in items (drop own proxies) + left) = omega arith in
    ap (λ (n : ℕ). without_tree n path (Grow t.node t.below (items_before items f)) proxies) place
    ∙ ap (Grow t.node t.below) (cut_behind items f (drop own proxies) left path ∙ ap (λ (ps : List Proxy). with_items items (without_tree left path f ps)) (drop-drop (proxies_in (gapped_of items)) own proxies))
cut_behind (Run c ∷ items) f proxies left path =
    let place : roots_of (take c proxies) + children_in items (drop c proxies) + left - roots_of (take c proxies) ≡ children_in items (drop c proxies) + left = omega arith in
    ap (λ (n : ℕ). with_gap c (without_tree n path (items_before items f) (drop c proxies))) place
    ∙ ap (with_gap c) (cut_behind items f (drop c proxies) left path ∙ ap (λ (ps : List Proxy). with_items items (without_tree left path f ps)) (drop-drop (proxies_in (gapped_of items)) c proxies))

set_behind : (items : List Item) (f : Gapped) (proxies : List Proxy) (left : ℕ) (path : List ℕ) (new : GappedTree)
    → with_tree (children_in items proxies + left) path new (items_before items f) proxies ≡ items_before items (with_tree left path new f (drop (proxies_in (gapped_of items)) proxies))
set_behind [] f proxies left path new = ap (λ (n : ℕ). with_tree n path new f proxies) (let q : 0 + left ≡ left = omega arith in q)
set_behind (Tree t ∷ items) f proxies left path new =
    let own : ℕ = proxies_in t.below in
    let place : 1 + children_in items (drop own proxies) + left ≡ suc (children_in items (drop own proxies) + left) = omega arith in
    ap (λ (n : ℕ). with_tree n path new (Grow t.node t.below (items_before items f)) proxies) place
    ∙ ap (Grow t.node t.below) (set_behind items f (drop own proxies) left path new ∙ ap (λ (ps : List Proxy). items_before items (with_tree left path new f ps)) (drop-drop (proxies_in (gapped_of items)) own proxies))
set_behind (Run c ∷ items) f proxies left path new =
    let place : roots_of (take c proxies) + children_in items (drop c proxies) + left - roots_of (take c proxies) ≡ children_in items (drop c proxies) + left = omega arith in
    ap (λ (n : ℕ). Gap c (with_tree n path new (items_before items f) (drop c proxies))) place
    ∙ ap (Gap c) (set_behind items f (drop c proxies) left path new ∙ ap (λ (ps : List Proxy). items_before items (with_tree left path new f ps)) (drop-drop (proxies_in (gapped_of items)) c proxies))

pub gapped_append : (items more : List Item) → gapped_of (items ++ more) ≡ items_before items (gapped_of more)
gapped_append [] more = refl
gapped_append (Tree t ∷ items) more = ap (Grow t.node t.below) (gapped_append items more)
gapped_append (Run c ∷ items) more = ap (Gap c) (gapped_append items more)

pub gapped_parts : (items : List Item) (i : ℕ) → gapped_of items ≡ items_before (take i items) (gapped_of (drop i items))
gapped_parts items i = ap gapped_of (sym (take-append-drop i items)) ∙ gapped_append (take i items) (drop i items)

pub behind_proxies : {items : List Item} {proxies : List Proxy} {first position before index : ℕ} {t : GappedTree} → StandsAmong items proxies first position t before index
    → drop (proxies_in (gapped_of (take index items))) (drop first proxies) ≡ drop before proxies
behind_proxies {items} {proxies} {first} {position} {before} {index} {t} h =
    drop-drop (proxies_in (gapped_of (take index items))) first proxies ∙ ap (λ (n : ℕ). drop n proxies) (sym h.behind)

pub behind_children : {items : List Item} {proxies : List Proxy} {first position before index : ℕ} {t : GappedTree} → StandsAmong items proxies first position t before index
    → position ≡ children_in (take index items) (drop first proxies) + 0
behind_children {items} {proxies} {first} {position} {before} {index} {t} h = let a = h.counted in omega (arith, a)

pub stands_cut : {items : List Item} {proxies : List Proxy} {first position before index : ℕ} {t : GappedTree} (path : List ℕ) → StandsAmong items proxies first position t before index
    → without_tree position path (gapped_of items) (drop first proxies) ≡ with_items (take index items) (without_tree 0 path (gapped_of (drop index items)) (drop before proxies))
stands_cut {items} {proxies} {first} {position} {before} {index} {t} path h =
    ap₂ (λ (n : ℕ) (f : Gapped). without_tree n path f (drop first proxies)) (behind_children h) (gapped_parts items index)
    ∙ cut_behind (take index items) (gapped_of (drop index items)) (drop first proxies) 0 path
    ∙ ap (λ (ps : List Proxy). with_items (take index items) (without_tree 0 path (gapped_of (drop index items)) ps)) (behind_proxies h)

pub stands_set : {items : List Item} {proxies : List Proxy} {first position before index : ℕ} {t : GappedTree} (path : List ℕ) (new : GappedTree) → StandsAmong items proxies first position t before index
    → with_tree position path new (gapped_of items) (drop first proxies) ≡ items_before (take index items) (with_tree 0 path new (gapped_of (drop index items)) (drop before proxies))
stands_set {items} {proxies} {first} {position} {before} {index} {t} path new h =
    ap₂ (λ (n : ℕ) (f : Gapped). with_tree n path new f (drop first proxies)) (behind_children h) (gapped_parts items index)
    ∙ set_behind (take index items) (gapped_of (drop index items)) (drop first proxies) 0 path new
    ∙ ap (λ (ps : List Proxy). items_before (take index items) (with_tree 0 path new (gapped_of (drop index items)) ps)) (behind_proxies h)

-- Runs beside each other:

-- gaps beside these items would stay apart
abbrev pub EndsApart : List Item → Gapped → Type 0
EndsApart [] f = Unit {0}
EndsApart (Tree t ∷ items) f = EndsApart items f
EndsApart (Run c ∷ []) f = BeginsNoGap f
EndsApart (Run c ∷ x ∷ items) f = EndsApart (x ∷ items) f

pub tree_behind : (items : List Item) (f : Gapped) → BeginsNoGap f → EndsApart items f
tree_behind [] f h = tt
tree_behind (Tree t ∷ items) f h = tree_behind items f h
tree_behind (Run c ∷ []) f h = h
tree_behind (Run c ∷ x ∷ items) f h = tree_behind (x ∷ items) f h

pub tree_last : (items : List Item) (t : GappedTree) (f : Gapped) → EndsApart (items ++ Tree t ∷ []) f
tree_last [] t f = tt
tree_last (Tree u ∷ items) t f = tree_last items t f
tree_last (Run c ∷ []) t f = tt
tree_last (Run c ∷ x ∷ items) t f = tree_last (x ∷ items) t f

pub gap_apart : (count : ℕ) (f : Gapped) → BeginsNoGap f → with_gap count f ≡ Gap count f
gap_apart count End h = refl
gap_apart count (Grow n b s) h = refl
gap_apart count (Gap c s) h = absurd h

first_item : (x : Item) (items : List Item) (f : Gapped) → BeginsNoGap (gapped_of (x ∷ items)) → BeginsNoGap (with_items (x ∷ items) f)
first_item (Tree t) items f h = tt
first_item (Run c) items f h = absurd h

-- items that stay apart from those behind them
pub with_items_apart : (items more : List Item) → AreApart (gapped_of items) → EndsApart items (gapped_of more) → with_items items (gapped_of more) ≡ gapped_of (items ++ more)
with_items_apart [] more h e = refl
with_items_apart (Tree t ∷ items) more h e = ap (Grow t.node t.below) (with_items_apart items more h.1 e)
with_items_apart (Run c ∷ []) more h e = gap_apart c (gapped_of more) e
with_items_apart (Run c ∷ x ∷ items) more h e =
    gap_apart c (with_items (x ∷ items) (gapped_of more)) (first_item x items (gapped_of more) h.1) ∙ ap (Gap c) (with_items_apart (x ∷ items) more h.2 e)

-- a run at their end and one behind it are one
pub with_items_join : (items more : List Item) (a b : ℕ) → AreApart (gapped_of (items ++ Run a ∷ [])) → with_items (items ++ Run a ∷ []) (Gap b (gapped_of more)) ≡ gapped_of (items ++ Run (a + b) ∷ more)
with_items_join [] more a b h = refl
with_items_join (Tree t ∷ items) more a b h = ap (Grow t.node t.below) (with_items_join items more a b h.1)
with_items_join (Run c ∷ []) more a b h = absurd (h.1)
with_items_join (Run c ∷ x ∷ items) more a b h =
    gap_apart c (with_items (x ∷ items ++ Run a ∷ []) (Gap b (gapped_of more))) (first_item x (items ++ Run a ∷ []) (Gap b (gapped_of more)) h.1) ∙ ap (Gap c) (with_items_join (x ∷ items) more a b h.2)

pub apart_front : (items more : List Item) → AreApart (gapped_of (items ++ more)) → AreApart (gapped_of items)
apart_front [] more h = tt
apart_front (Tree t ∷ items) more h = (h.0, apart_front items more h.1)
apart_front (Run c ∷ []) more h = (h.0, tt, tt)
apart_front (Run c ∷ Tree t ∷ items) more h = (h.0, tt, apart_front (Tree t ∷ items) more h.2)
apart_front (Run c ∷ Run d ∷ items) more h = absurd (h.1)

pub apart_behind : (items more : List Item) → AreApart (gapped_of (items ++ more)) → AreApart (gapped_of more)
apart_behind [] more h = h
apart_behind (Tree t ∷ items) more h = apart_behind items more h.1
apart_behind (Run c ∷ items) more h = apart_behind items more h.2

-- What stands at an index:

pub there_within : {A : Type 0} (xs : List A) (i : ℕ) (x : A) → drop i xs ≡ x ∷ drop (i + 1) xs → i < length xs
there_within xs i x d = let a = ap length d in let b = length-drop i xs in omega arith

pub there_is : {A : Type 0} (xs : List A) (i : ℕ) (x other : A) → drop i xs ≡ x ∷ drop (i + 1) xs → get_or xs i other ≡ x
there_is xs i x other d =
    ap (λ (n : ℕ). get_or xs n other) (let e : i ≡ i + 0 = omega arith in e) ∙ sym (get_or-drop i xs 0 other) ∙ ap (λ ys. get_or ys 0 other) d

split_at : (items : List Item) (i : ℕ) (x : Item) → drop i items ≡ x ∷ drop (i + 1) items → items ≡ take i items ++ x ∷ drop (i + 1) items
split_at items i x d = sym (take-append-drop i items) ∙ ap (λ ys. take i items ++ ys) d

pub apart_there : (items : List Item) (i : ℕ) (t : GappedTree) → drop i items ≡ Tree t ∷ drop (i + 1) items → AreApart (gapped_of items) → AreApart t.below
apart_there items i t d h = (apart_behind (take i items) (Tree t ∷ drop (i + 1) items) (subst (λ xs. AreApart (gapped_of xs)) (split_at items i (Tree t) d) h)).0

pub proxies_there : (items : List Item) (i : ℕ) (x : Item) → drop i items ≡ x ∷ drop (i + 1) items → proxies_in (gapped_of items) ≡ proxies_in (gapped_of (take i items)) + proxies_in (gapped_of (x ∷ drop (i + 1) items))
proxies_there items i x d = ap (λ xs. proxies_in (gapped_of xs)) (split_at items i x d) ∙ proxies_of_items (take i items) (x ∷ drop (i + 1) items)

-- what is put where it stood leaves the list
pub set_there : {A : Type 0} (xs : List A) (i : ℕ) (x : A) → drop i xs ≡ x ∷ drop (i + 1) xs → set xs i x ≡ xs
set_there xs i x d =
    let next : suc i ≡ i + 1 = omega arith in
    set_split xs i x (there_within xs i x d) ∙ ap (λ (n : ℕ). take i xs ++ x ∷ drop n xs) next ∙ ap (λ ys. take i xs ++ ys) (sym d) ∙ take-append-drop i xs

-- where one item is taken out no more proxies stand
fewer_behind : (items : List Item) (i : ℕ) → proxies_in (gapped_of (take i items ++ drop (suc i) items)) ≤ proxies_in (gapped_of items)
fewer_behind [] zero = omega arith
fewer_behind [] (suc i) = omega arith
fewer_behind (Tree t ∷ items) zero = omega arith
fewer_behind (Run c ∷ items) zero = omega arith
fewer_behind (Tree t ∷ items) (suc i) = let h = fewer_behind items i in omega (arith, h)
fewer_behind (Run c ∷ items) (suc i) = let h = fewer_behind items i in omega (arith, h)

pub fewer_without : (items : List Item) (i : ℕ) → proxies_in (gapped_of (take i items ++ drop (i + 1) items)) ≤ proxies_in (gapped_of items)
fewer_without items i =
    let one : suc i ≡ i + 1 = omega arith in
    subst (λ (n : ℕ). proxies_in (gapped_of (take i items ++ drop n items)) ≤ proxies_in (gapped_of items)) one (fewer_behind items i)

-- Neighbours that stay, and two runs that become one:

pub stays_apart : (items : List Item) (i : ℕ) → AreApart (gapped_of (take i items)) → EndsApart (take i items) (gapped_of (drop i items)) → gapped_of items ≡ with_items (take i items) (gapped_of (drop i items))
stays_apart items i h e = ap gapped_of (sym (take-append-drop i items)) ∙ sym (with_items_apart (take i items) (drop i items) h e)

pub none_before : (items : List Item) (i : ℕ) → i ≡ 0 → gapped_of items ≡ with_items (take i items) (gapped_of (drop i items))
none_before items i e = subst (λ (n : ℕ). gapped_of items ≡ with_items (take n items) (gapped_of (drop n items))) (sym e) refl

pub none_after : (items : List Item) (i : ℕ) → length items ≤ i → AreApart (gapped_of (take i items)) → gapped_of items ≡ with_items (take i items) (gapped_of (drop i items))
none_after items i end h = stays_apart items i h (subst (λ xs. EndsApart (take i items) (gapped_of xs)) (sym (drop_all i items end)) (tree_behind (take i items) End tt))

pub tree_after : (items : List Item) (i : ℕ) (t : GappedTree) → drop i items ≡ Tree t ∷ drop (i + 1) items → AreApart (gapped_of (take i items)) → gapped_of items ≡ with_items (take i items) (gapped_of (drop i items))
tree_after items i t d h = stays_apart items i h (subst (λ xs. EndsApart (take i items) (gapped_of xs)) (sym d) (tree_behind (take i items) (gapped_of (Tree t ∷ drop (i + 1) items)) tt))

pub tree_before : (items : List Item) (i index : ℕ) (t : GappedTree) → index ≡ i + 1 → drop i items ≡ Tree t ∷ drop (i + 1) items → AreApart (gapped_of (take index items)) → gapped_of items ≡ with_items (take index items) (gapped_of (drop index items))
tree_before items i index t e d h =
    stays_apart items index h
    (subst (λ xs. EndsApart xs (gapped_of (drop index items))) (sym (ap (λ (n : ℕ). take n items) e ∙ take_next items i (Tree t) d)) (tree_last (take i items) t (gapped_of (drop index items))))

pub run_joined : (items : List Item) (i index a b : ℕ) → index ≡ i + 1 → drop i items ≡ Run a ∷ drop (i + 1) items → drop index items ≡ Run b ∷ drop (index + 1) items → AreApart (gapped_of (take index items))
    → gapped_of (take index (set items i (Run (a + b))) ++ drop (index + 1) (set items i (Run (a + b)))) ≡ with_items (take index items) (gapped_of (drop index items))
run_joined items i index a b e d k h =
    let within = there_within items i (Run a) d in
    let last : take index items ≡ take i items ++ Run a ∷ [] = ap (λ (n : ℕ). take n items) e ∙ take_next items i (Run a) d in
    let front : take index (set items i (Run (a + b))) ≡ take i items ++ Run (a + b) ∷ [] = ap (λ (n : ℕ). take n (set items i (Run (a + b)))) e ∙ take_more_set items i (Run (a + b)) within in
    let back : drop (index + 1) (set items i (Run (a + b))) ≡ drop (index + 1) items = drop-set-lt (index + 1) items i (Run (a + b)) (omega arith) in
    ap gapped_of (ap₂ (λ (xs ys : List Item). xs ++ ys) front back ∙ append_assoc (take i items) (Run (a + b) ∷ []) (drop (index + 1) items))
    ∙ sym (with_items_join (take i items) (drop (index + 1) items) a b (subst (λ xs. AreApart (gapped_of xs)) last h))
    ∙ ap₂ (λ (xs ys : List Item). with_items xs (gapped_of ys)) (sym last) (sym k)

-- What is taken out of what stands at an index:

pub tree_goes : {items : List Item} {proxies : List Proxy} {first position before index : ℕ} {t : GappedTree} → StandsAmong items proxies first position t before index
    → with_items (take index items) (gapped_of (drop (index + 1) items)) ≡ without_tree position [] (gapped_of items) (drop first proxies)
tree_goes {items} {proxies} {first} {position} {before} {index} {t} h =
    sym (stands_cut [] h ∙ ap (λ (xs : List Item). with_items (take index items) (without_tree 0 [] (gapped_of xs) (drop before proxies))) h.there)

pub tree_changes : {items : List Item} {proxies : List Proxy} {first position before index : ℕ} {t new : GappedTree} (next : ℕ) (path : List ℕ) → StandsAmong items proxies first position t before index → AreApart (gapped_of items)
    → new.node ≡ t.node → new.below ≡ without_tree next path t.below (drop before proxies)
    → gapped_of (set items index (Tree new)) ≡ without_tree position (next ∷ path) (gapped_of items) (drop first proxies)
tree_changes {items} {proxies} {first} {position} {before} {index} {t} {new} next path h apart node below =
    let within = there_within items index (Tree t) h.there in
    let one : suc index ≡ index + 1 = omega arith in
    let beside : List Item = drop (index + 1) items in
    let front : AreApart (gapped_of (take index items)) = apart_front (take index items) (drop index items) (subst (λ xs. AreApart (gapped_of xs)) (sym (take-append-drop index items)) apart) in
    ap gapped_of (set_split items index (Tree new) within ∙ ap (λ (n : ℕ). take index items ++ Tree new ∷ drop n items) one)
    ∙ sym (with_items_apart (take index items) (Tree new ∷ beside) front (tree_behind (take index items) (gapped_of (Tree new ∷ beside)) tt))
    ∙ ap₂ (λ (n : PieceNode) (b : Gapped). with_items (take index items) (Grow n b (gapped_of beside))) node below
    ∙ sym (stands_cut (next ∷ path) h ∙ ap (λ (xs : List Item). with_items (take index items) (without_tree 0 (next ∷ path) (gapped_of xs) (drop before proxies))) h.there)

-- Where a path leads that leads to a tree first:

pub led_here : (proxies : List Proxy) (first position before used : ℕ) (f : Gapped) (t : GappedTree) → slice_get (children_of proxies first f) position ≡ Some (Own t before) → led proxies first f used position [] ≡ Inside t before
led_here proxies first position before used f t e = ap (reached proxies used []) e

pub led_on : (proxies : List Proxy) (first position before used next : ℕ) (path : List ℕ) (f : Gapped) (t : GappedTree) → slice_get (children_of proxies first f) position ≡ Some (Own t before)
    → led proxies first f used position (next ∷ path) ≡ led proxies before t.below (used + 1) next path
led_on proxies first position before used next path f t e = ap (reached proxies used (next ∷ path)) e

pub led_nowhere : (proxies : List Proxy) (used : ℕ) (path : List ℕ) (t : GappedTree) (before : ℕ) → reached proxies used path None ≡ Inside t before → ⊥
led_nowhere proxies used [] t before e = absurd (cc)
led_nowhere proxies used (next ∷ path) t before e = absurd (cc)

pub led_away : (proxies : List Proxy) (used : ℕ) (path : List ℕ) (index member : ℕ) (t : GappedTree) (before : ℕ) → reached proxies used path (Some (Kept index member)) ≡ Inside t before → ⊥
led_away proxies used [] index member t before e = absurd (cc)
led_away proxies used (next ∷ path) index member t before e = absurd (cc)

pub led_to_none : (proxies : List Proxy) (first position : ℕ) (f new : Gapped) (path : List ℕ) → slice_get (children_of proxies first f) position ≡ None → IsTakenOut proxies first position path f None new
led_to_none proxies first position f new path e used t before h = led_nowhere proxies used path t before (sym (ap (reached proxies used path) e) ∙ h)

pub led_to_proxy : (proxies : List Proxy) (first position : ℕ) (f new : Gapped) (path : List ℕ) (index member : ℕ) → slice_get (children_of proxies first f) position ≡ Some (Kept index member) → IsTakenOut proxies first position path f None new
led_to_proxy proxies first position f new path index member e used t before h = led_away proxies used path index member t before (sym (ap (reached proxies used path) e) ∙ h)

-- what is taken out of the child that the position leads to is taken out of the items
pub taken_on : {items : List Item} {proxies : List Proxy} {first position before index : ℕ} {t : GappedTree} (next : ℕ) (path : List ℕ) (cut : Option GappedTree) (new : GappedTree) → StandsAmong items proxies first position t before index
    → AreApart (gapped_of items) → slice_get (children_of proxies first (gapped_of items)) position ≡ Some (Own t before) → new.node ≡ t.node → IsTakenOut proxies before next path t.below cut new.below
    → IsTakenOut proxies first position (next ∷ path) (gapped_of items) cut (gapped_of (set items index (Tree new)))
taken_on {items} {proxies} {first} {position} {before} {index} {t} next path None new h apart e node below =
    λ used u at is. below (used + 1) u at (sym (led_on proxies first position before used next path (gapped_of items) t e) ∙ is)
taken_on {items} {proxies} {first} {position} {before} {index} {t} next path (Some cut) new h apart e node below =
    (below.0, (λ used. led_on proxies first position before used next path (gapped_of items) t e ∙ below.1 (used + 1)), tree_changes next path h apart node below.2)

pub taken_here : {items : List Item} {proxies : List Proxy} {first position before index : ℕ} {t : GappedTree} → StandsAmong items proxies first position t before index → slice_get (children_of proxies first (gapped_of items)) position ≡ Some (Own t before)
    → IsTakenOut proxies first position [] (gapped_of items) (Some t) (with_items (take index items) (gapped_of (drop (index + 1) items)))
taken_here {items} {proxies} {first} {position} {before} {index} {t} h e = (before, (λ used. led_here proxies first position before used (gapped_of items) t e), tree_goes h)

-- The items are told by the forest:

abbrev items_in : Gapped → List Item
items_in End = []
items_in (Grow node below beside) = Tree (record { node = node; below = below }) ∷ items_in beside
items_in (Gap count beside) = Run count ∷ items_in beside

items_back : (items : List Item) → items_in (gapped_of items) ≡ items
items_back [] = refl
items_back (Tree t ∷ items) = ap (λ xs. Tree t ∷ xs) (items_back items)
items_back (Run c ∷ items) = ap (λ xs. Run c ∷ xs) (items_back items)

pub same_items : (items others : List Item) → gapped_of items ≡ gapped_of others → items ≡ others
same_items items others e = sym (items_back items) ∙ ap items_in e ∙ items_back others

abbrev tree_in : GappedTree → Item → GappedTree
tree_in t (Tree u) = u
tree_in t (Run c) = t

pub same_tree : (t u : GappedTree) → Tree t ≡ Tree u → t ≡ u
same_tree t u e = ap (tree_in t) e

pub not_tree : (count : ℕ) (t : GappedTree) → Run count ≡ Tree t → ⊥
not_tree count t e = absurd (cc)

-- the room for the proxies of what stands at an index
pub there_fits : {items : List Item} {proxies : List Proxy} {first position before index : ℕ} {t : GappedTree} → StandsAmong items proxies first position t before index → first + proxies_in (gapped_of items) ≤ length proxies → before + proxies_in t.below ≤ length proxies
there_fits {items} {proxies} {first} {position} {before} {index} {t} h fits = let a = h.behind in let b = proxies_there items index (Tree t) h.there in omega (arith, a, b, fits)

pub none_left : (xs : List ℕ) → length xs ≡ 0 → xs ≡ []
none_left [] e = refl
none_left (x ∷ xs) e = absurd (omega arith)
