-- Runs that get one proxy shorter, or that items come into.
use Rattle.std.proofs.Common.{◌≡◌, ℕ, zero, suc, ◌+◌, ◌-◌, ◌<◌, ◌≤◌, List, [], ◌∷◌, ◌++◌, length, take, drop, set, refl, sym, ap, ap₂, ◌∙◌, subst, arith}
use Rattle.std.proofs.lemmas.List.{drop_all, set_split, take-append-drop}
use Rattle.nx_piece.specs.PieceNode.{PieceNode}
use Rattle.nx_piece.specs.declared.piece.Item.{Item}
use Rattle.nx_piece.specs.declared.piece.Item.TheVariants.{Tree, Run}
use Rattle.nx_piece.specs.Gapped.{Gapped, GappedTree, End, Grow, Gap, proxies_in, grown_of}
use Rattle.nx_piece.specs.Items.{gapped_of}
use Rattle.nx_piece.specs.Valid.{AreApart, BeginsNoGap}
use Rattle.nx_piece_edits.specs.Cutting.{smaller_gap, without_proxy, gap_before, joined_items, with_items_at}
use Rattle.nx_piece_edits.specs.Shortening.{grown_before, items_before, IsRootOf, IsItemOf, WithoutRun}
use Rattle.nx_piece.proofs.FoundLemmas.{take_next}
use Rattle.nx_piece_edits.proofs.TakeLemmas.{there_within, items_append, gapped_append, apart_behind}
use Rattle.nx_piece_edits.proofs.RootLemmas.{grown_set}
use Rattle.nx_piece_edits.proofs.LeftLemmas.{less_is, not_less}
use Rattle.nx_piece_edits.proofs.JoinedLemmas.{closed_joined, apart_joined, apart_before, both_apart}

-- with another item in the place of one
pub item_set : (items : List Item) (i : ℕ) (x : Item) → i < length items → gapped_of (set items i x) ≡ items_before (take i items) (gapped_of (x ∷ drop (i + 1) items))
item_set items i x within =
    ap gapped_of (set_split items i x within ∙ ap (λ (n : ℕ). take i items ++ x ∷ drop n items) (let e : suc i ≡ i + 1 = omega arith in e)) ∙ gapped_append (take i items) (x ∷ drop (i + 1) items)

-- Items passed on the way to a proxy:

-- the proxy is among those of the items that are left
pub record IsOnItems (items : List Item) (index left place : ℕ) : Type 0 where
  pub within : left < proxies_in (gapped_of (drop place items))
  pub same : without_proxy index (gapped_of items) ≡ items_before (take place items) (without_proxy left (gapped_of (drop place items)))
  pub grows : (row : Gapped) → with_items_at index row (gapped_of items) ≡ items_before (take place items) (with_items_at left row (gapped_of (drop place items)))

pub on_items : (items : List Item) (index : ℕ) → index < proxies_in (gapped_of items) → IsOnItems items index index 0
on_items items index there = record { within = there; same = refl; grows = λ row. refl }

passed_item : (x : Item) (items : List Item) (left own : ℕ) → own ≡ proxies_in (gapped_of (x ∷ [])) → own ≤ left → without_proxy left (gapped_of (x ∷ items)) ≡ items_before (x ∷ []) (without_proxy (left - own) (gapped_of items))
passed_item (Tree t) items left own is most =
    let e : proxies_in t.below ≡ own = omega arith in
    not_less left (proxies_in t.below) (Grow t.node (without_proxy left t.below) (gapped_of items)) (Grow t.node t.below (without_proxy (left - proxies_in t.below) (gapped_of items))) (omega arith)
    ∙ ap (λ (n : ℕ). Grow t.node t.below (without_proxy (left - n) (gapped_of items))) e
passed_item (Run c) items left own is most =
    let e : c ≡ own = omega arith in
    not_less left c (smaller_gap c (gapped_of items)) (Gap c (without_proxy (left - c) (gapped_of items))) (omega arith)
    ∙ ap (λ (n : ℕ). Gap c (without_proxy (left - n) (gapped_of items))) e

passed_row : (x : Item) (items : List Item) (left own : ℕ) (row : Gapped) → own ≡ proxies_in (gapped_of (x ∷ [])) → own ≤ left → with_items_at left row (gapped_of (x ∷ items)) ≡ items_before (x ∷ []) (with_items_at (left - own) row (gapped_of items))
passed_row (Tree t) items left own row is most =
    let e : proxies_in t.below ≡ own = omega arith in
    not_less left (proxies_in t.below) (Grow t.node (with_items_at left row t.below) (gapped_of items)) (Grow t.node t.below (with_items_at (left - proxies_in t.below) row (gapped_of items))) (omega arith)
    ∙ ap (λ (n : ℕ). Grow t.node t.below (with_items_at (left - n) row (gapped_of items))) e
passed_row (Run c) items left own row is most =
    let e : c ≡ own = omega arith in
    not_less left c (gap_before left (joined_items row (gap_before (c - 1 - left) (gapped_of items)))) (Gap c (with_items_at (left - c) row (gapped_of items))) (omega arith)
    ∙ ap (λ (n : ℕ). Gap c (with_items_at (left - n) row (gapped_of items))) e

count_item : (x : Item) (items : List Item) → proxies_in (gapped_of (x ∷ items)) ≡ proxies_in (gapped_of (x ∷ [])) + proxies_in (gapped_of items)
count_item (Tree t) items = omega arith
count_item (Run c) items = omega arith

-- an item that comes next has no more proxies than all
count_next : (items : List Item) (place : ℕ) → proxies_in (gapped_of (drop place items)) ≤ proxies_in (gapped_of items)
count_next items zero = omega arith
count_next [] (suc place) = omega arith
count_next (Tree t ∷ items) (suc place) = let h = count_next items place in omega (arith, h)
count_next (Run c ∷ items) (suc place) = let h = count_next items place in omega (arith, h)

pub next_few : (items : List Item) (place : ℕ) (x : Item) → drop place items ≡ x ∷ drop (place + 1) items → proxies_in (gapped_of items) ≤ 524288 → proxies_in (gapped_of (x ∷ [])) ≤ 524288
next_few items place x d few =
    let a = ap (λ (xs : List Item). proxies_in (gapped_of xs)) d in let b = count_item x (drop (place + 1) items) in let c = count_next items place in omega (arith, a, b, c, few)

pub item_passed : {items : List Item} {index left place own : ℕ} (x : Item) → IsOnItems items index left place → drop place items ≡ x ∷ drop (place + 1) items → own ≡ proxies_in (gapped_of (x ∷ [])) → own ≤ left → IsOnItems items index (left - own) (place + 1)
item_passed {items} {index} {left} {place} {own} x h d is most =
    let rest : List Item = drop (place + 1) items in
    record {
      within = let w = h.within in let a = ap (λ (xs : List Item). proxies_in (gapped_of xs)) d in let b = count_item x rest in omega arith;
      same = h.same
          ∙ ap (λ (xs : List Item). items_before (take place items) (without_proxy left (gapped_of xs))) d
          ∙ ap (λ (f : Gapped). items_before (take place items) f) (passed_item x rest left own is most)
          ∙ sym (items_append (take place items) (x ∷ []) (without_proxy (left - own) (gapped_of rest)))
          ∙ ap (λ (xs : List Item). items_before xs (without_proxy (left - own) (gapped_of rest))) (sym (take_next items place x d));
      grows = λ row.
          h.grows row
          ∙ ap (λ (xs : List Item). items_before (take place items) (with_items_at left row (gapped_of xs))) d
          ∙ ap (λ (f : Gapped). items_before (take place items) f) (passed_row x rest left own row is most)
          ∙ sym (items_append (take place items) (x ∷ []) (with_items_at (left - own) row (gapped_of rest)))
          ∙ ap (λ (xs : List Item). items_before xs (with_items_at (left - own) row (gapped_of rest))) (sym (take_next items place x d));
    }

pub item_found : {items : List Item} {index left place own : ℕ} (x : Item) → IsOnItems items index left place → drop place items ≡ x ∷ drop (place + 1) items → own ≡ proxies_in (gapped_of (x ∷ [])) → left < own → IsItemOf items index (place, left)
item_found {items} {index} {left} {place} {own} x h d is less = record { item = x; there = d; within = omega arith; same = h.same; grows = h.grows }

pub none_on : {items : List Item} {index left place : ℕ} → IsOnItems items index left place → length items ≤ place → ⊥
none_on {items} {index} {left} {place} h end = let w = h.within in let e = ap (λ (xs : List Item). proxies_in (gapped_of xs)) (drop_all place items end) in omega (arith, w, e)

-- The run of the proxy, or the tree that it stands below:

pub tree_shorter : {items : List Item} {index : ℕ} {found : ℕ × ℕ} (t new : GappedTree) → IsItemOf items index found → drop found.0 items ≡ Tree t ∷ drop (found.0 + 1) items → found.1 < proxies_in t.below
    → new.node ≡ t.node → new.below ≡ without_proxy found.1 t.below → gapped_of (set items found.0 (Tree new)) ≡ without_proxy index (gapped_of items)
tree_shorter {items} {index} {found} t new h d less node below =
    let rest : Gapped = gapped_of (drop (found.0 + 1) items) in
    item_set items found.0 (Tree new) (there_within items found.0 (Tree t) d)
    ∙ ap₂ (λ (n : PieceNode) (b : Gapped). items_before (take found.0 items) (Grow n b rest)) node below
    ∙ ap (λ (f : Gapped). items_before (take found.0 items) f) (sym (less_is found.1 (proxies_in t.below) (Grow t.node (without_proxy found.1 t.below) rest) (Grow t.node t.below (without_proxy (found.1 - proxies_in t.below) rest)) less))
    ∙ ap (λ (xs : List Item). items_before (take found.0 items) (without_proxy found.1 (gapped_of xs))) (sym d)
    ∙ sym h.same

pub run_shorter : {items : List Item} {index : ℕ} {found : ℕ × ℕ} (count : ℕ) (new : List Item) → IsItemOf items index found → drop found.0 items ≡ Run count ∷ drop (found.0 + 1) items → found.1 < count
    → WithoutRun items found.0 count new → gapped_of new ≡ without_proxy index (gapped_of items)
run_shorter {items} {index} {found} count new h d less is =
    let rest : Gapped = gapped_of (drop (found.0 + 1) items) in
    is
    ∙ ap (λ (f : Gapped). items_before (take found.0 items) f) (sym (less_is found.1 count (smaller_gap count rest) (Gap count (without_proxy (found.1 - count) rest)) less))
    ∙ ap (λ (xs : List Item). items_before (take found.0 items) (without_proxy found.1 (gapped_of xs))) (sym d)
    ∙ sym h.same

-- its own proxies are those that are counted
pub tree_within : {items : List Item} {index : ℕ} {found : ℕ × ℕ} (t : GappedTree) → IsItemOf items index found → drop found.0 items ≡ Tree t ∷ drop (found.0 + 1) items → found.1 < proxies_in t.below
tree_within {items} {index} {found} t h d =
    let is : h.item ≡ Tree t = ap (λ (xs : List Item). first_of (Tree t) xs) (sym h.there ∙ d) in
    let e = ap (λ (x : Item). proxies_in (gapped_of (x ∷ []))) is in let w = h.within in omega arith
  where
    first_of : Item → List Item → Item
    first_of x [] = x
    first_of x (y ∷ ys) = y

pub run_within : {items : List Item} {index : ℕ} {found : ℕ × ℕ} (count : ℕ) → IsItemOf items index found → drop found.0 items ≡ Run count ∷ drop (found.0 + 1) items → found.1 < count
run_within {items} {index} {found} count h d =
    let is : h.item ≡ Run count = ap (λ (xs : List Item). first_of (Run count) xs) (sym h.there ∙ d) in
    let e = ap (λ (x : Item). proxies_in (gapped_of (x ∷ []))) is in let w = h.within in omega arith
  where
    first_of : Item → List Item → Item
    first_of x [] = x
    first_of x (y ∷ ys) = y

pub run_smaller : (items new : List Item) (place count : ℕ) → place < length items → 1 < count → new ≡ set items place (Run (count - 1)) → WithoutRun items place count new
run_smaller items new place count within more is =
    ap gapped_of is ∙ item_set items place (Run (count - 1)) within
    ∙ ap (λ (f : Gapped). items_before (take place items) f) (sym (less_is 1 count (Gap (count - 1) (gapped_of (drop (place + 1) items))) (gapped_of (drop (place + 1) items)) more))

pub run_gone : (items new : List Item) (place count : ℕ) → count ≤ 1 → new ≡ take place items ++ drop (place + 1) items → WithoutRun items place count new
run_gone items new place count one is =
    ap gapped_of is ∙ gapped_append (take place items) (drop (place + 1) items)
    ∙ ap (λ (f : Gapped). items_before (take place items) f) (sym (not_less 1 count (Gap (count - 1) (gapped_of (drop (place + 1) items))) (gapped_of (drop (place + 1) items)) one))

-- Roots:

grown_append : (roots more : List GappedTree) (f : Gapped) → grown_before (roots ++ more) f ≡ grown_before roots (grown_before more f)
grown_append [] more f = refl
grown_append (t ∷ roots) more f = ap (Grow t.node t.below) (grown_append roots more f)

take_root : (roots : List GappedTree) (i : ℕ) (t : GappedTree) → drop i roots ≡ t ∷ drop (i + 1) roots → take (i + 1) roots ≡ take i roots ++ t ∷ []
take_root [] zero t e = absurd (cc)
take_root [] (suc i) t e = absurd (cc)
take_root (y ∷ roots) zero t e = ap (λ (xs : List GappedTree). take 1 xs) e
take_root (y ∷ roots) (suc i) t e =
    let more : suc i + 1 ≡ suc (i + 1) = omega arith in
    ap (λ (n : ℕ). take n (y ∷ roots)) more ∙ ap (λ xs. y ∷ xs) (take_root roots i t (e ∙ ap (λ (n : ℕ). t ∷ drop n (y ∷ roots)) more))

-- the proxy is among those of the roots that are left
pub record IsOnRoots (roots : List GappedTree) (index left place : ℕ) : Type 0 where
  pub within : left < proxies_in (grown_of (drop place roots))
  pub same : without_proxy index (grown_of roots) ≡ grown_before (take place roots) (without_proxy left (grown_of (drop place roots)))
  pub grows : (row : Gapped) → with_items_at index row (grown_of roots) ≡ grown_before (take place roots) (with_items_at left row (grown_of (drop place roots)))

pub on_roots : (roots : List GappedTree) (index : ℕ) → index < proxies_in (grown_of roots) → IsOnRoots roots index index 0
on_roots roots index there = record { within = there; same = refl; grows = λ row. refl }

count_roots : (roots : List GappedTree) (place : ℕ) → proxies_in (grown_of (drop place roots)) ≤ proxies_in (grown_of roots)
count_roots roots zero = omega arith
count_roots [] (suc place) = omega arith
count_roots (t ∷ roots) (suc place) = let h = count_roots roots place in omega (arith, h)

pub root_few : (roots : List GappedTree) (place : ℕ) (t : GappedTree) → drop place roots ≡ t ∷ drop (place + 1) roots → proxies_in (grown_of roots) ≤ 524288 → proxies_in t.below ≤ 524288
root_few roots place t d few = let a = ap (λ (xs : List GappedTree). proxies_in (grown_of xs)) d in let c = count_roots roots place in omega (arith, a, c, few)

pub root_passed : {roots : List GappedTree} {index left place own : ℕ} (t : GappedTree) → IsOnRoots roots index left place → drop place roots ≡ t ∷ drop (place + 1) roots → own ≡ proxies_in t.below → own ≤ left → IsOnRoots roots index (left - own) (place + 1)
root_passed {roots} {index} {left} {place} {own} t h d is most =
    let rest : Gapped = grown_of (drop (place + 1) roots) in
    record {
      within = let w = h.within in let a = ap (λ (xs : List GappedTree). proxies_in (grown_of xs)) d in omega arith;
      same = h.same
          ∙ ap (λ (xs : List GappedTree). grown_before (take place roots) (without_proxy left (grown_of xs))) d
          ∙ ap (λ (f : Gapped). grown_before (take place roots) f) (not_less left (proxies_in t.below) (Grow t.node (without_proxy left t.below) rest) (Grow t.node t.below (without_proxy (left - proxies_in t.below) rest)) (omega arith))
          ∙ ap (λ (n : ℕ). grown_before (take place roots) (Grow t.node t.below (without_proxy (left - n) rest))) (sym is)
          ∙ sym (grown_append (take place roots) (t ∷ []) (without_proxy (left - own) rest))
          ∙ ap (λ (xs : List GappedTree). grown_before xs (without_proxy (left - own) rest)) (sym (take_root roots place t d));
      grows = λ row.
          h.grows row
          ∙ ap (λ (xs : List GappedTree). grown_before (take place roots) (with_items_at left row (grown_of xs))) d
          ∙ ap (λ (f : Gapped). grown_before (take place roots) f) (not_less left (proxies_in t.below) (Grow t.node (with_items_at left row t.below) rest) (Grow t.node t.below (with_items_at (left - proxies_in t.below) row rest)) (omega arith))
          ∙ ap (λ (n : ℕ). grown_before (take place roots) (Grow t.node t.below (with_items_at (left - n) row rest))) (sym is)
          ∙ sym (grown_append (take place roots) (t ∷ []) (with_items_at (left - own) row rest))
          ∙ ap (λ (xs : List GappedTree). grown_before xs (with_items_at (left - own) row rest)) (sym (take_root roots place t d));
    }

pub root_found : {roots : List GappedTree} {index left place own : ℕ} (t : GappedTree) → IsOnRoots roots index left place → drop place roots ≡ t ∷ drop (place + 1) roots → own ≡ proxies_in t.below → left < own → IsRootOf roots index (place, left)
root_found {roots} {index} {left} {place} {own} t h d is less = record { root = t; there = d; within = omega arith; same = h.same; grows = h.grows }

pub none_on_roots : {roots : List GappedTree} {index left place : ℕ} → IsOnRoots roots index left place → length roots ≤ place → ⊥
none_on_roots {roots} {index} {left} {place} h end = let w = h.within in let e = ap (λ (xs : List GappedTree). proxies_in (grown_of xs)) (drop_all place roots end) in omega (arith, w, e)

pub root_shorter : {roots : List GappedTree} {index : ℕ} {found : ℕ × ℕ} (new : GappedTree) (h : IsRootOf roots index found) → new.node ≡ h.root.node → new.below ≡ without_proxy found.1 h.root.below
    → grown_of (set roots found.0 new) ≡ without_proxy index (grown_of roots)
root_shorter {roots} {index} {found} new h node below =
    let t : GappedTree = h.root in
    let rest : Gapped = grown_of (drop (found.0 + 1) roots) in
    let next : suc found.0 ≡ found.0 + 1 = omega arith in
    grown_set roots found.0 new (there_within roots found.0 t h.there)
    ∙ ap (λ (n : ℕ). grown_before (take found.0 roots) (Grow new.node new.below (grown_of (drop n roots)))) next
    ∙ ap₂ (λ (n : PieceNode) (b : Gapped). grown_before (take found.0 roots) (Grow n b rest)) node below
    ∙ ap (λ (f : Gapped). grown_before (take found.0 roots) f) (sym (less_is found.1 (proxies_in t.below) (Grow t.node (without_proxy found.1 t.below) rest) (Grow t.node t.below (without_proxy (found.1 - proxies_in t.below) rest)) h.within))
    ∙ ap (λ (xs : List GappedTree). grown_before (take found.0 roots) (without_proxy found.1 (grown_of xs))) (sym h.there)
    ∙ sym h.same

-- Items in the place of the proxy:

pub tree_wider : {items : List Item} {index : ℕ} {found : ℕ × ℕ} (row : Gapped) (t new : GappedTree) → IsItemOf items index found → drop found.0 items ≡ Tree t ∷ drop (found.0 + 1) items → found.1 < proxies_in t.below
    → new.node ≡ t.node → new.below ≡ with_items_at found.1 row t.below → gapped_of (set items found.0 (Tree new)) ≡ with_items_at index row (gapped_of items)
tree_wider {items} {index} {found} row t new h d less node below =
    let rest : Gapped = gapped_of (drop (found.0 + 1) items) in
    item_set items found.0 (Tree new) (there_within items found.0 (Tree t) d)
    ∙ ap₂ (λ (n : PieceNode) (b : Gapped). items_before (take found.0 items) (Grow n b rest)) node below
    ∙ ap (λ (f : Gapped). items_before (take found.0 items) f)
    (sym (less_is found.1 (proxies_in t.below) (Grow t.node (with_items_at found.1 row t.below) rest) (Grow t.node t.below (with_items_at (found.1 - proxies_in t.below) row rest)) less))
    ∙ ap (λ (xs : List Item). items_before (take found.0 items) (with_items_at found.1 row (gapped_of xs))) (sym d)
    ∙ sym (h.grows row)

-- a run stays apart from what is behind it
pub apart_behind_run : (items : List Item) (place had : ℕ) → drop place items ≡ Run had ∷ drop (place + 1) items → AreApart (gapped_of items) → BeginsNoGap (gapped_of (drop (place + 1) items))
apart_behind_run items place had d apart =
    (apart_behind (take place items) (Run had ∷ drop (place + 1) items) (subst (λ xs. AreApart (gapped_of xs)) (sym (take-append-drop place items) ∙ ap (λ (xs : List Item). take place items ++ xs) d) apart)).1

pub run_wider : {items : List Item} {index : ℕ} {found : ℕ × ℕ} (row : Gapped) (had : ℕ) (all new : List Item) → IsItemOf items index found → drop found.0 items ≡ Run had ∷ drop (found.0 + 1) items → found.1 < had
    → AreApart (gapped_of items) → AreApart row → gapped_of all ≡ gap_before found.1 (joined_items row (gap_before (had - 1 - found.1) End)) → new ≡ take found.0 items ++ (all ++ drop (found.0 + 1) items)
    → gapped_of new ≡ with_items_at index row (gapped_of items)
run_wider {items} {index} {found} row had all new h d less apart own all_is is =
    let behind : ℕ = had - 1 - found.1 in
    let rest : Gapped = gapped_of (drop (found.0 + 1) items) in
    let all_apart : AreApart (gapped_of all) =
    subst AreApart (sym all_is) (apart_before found.1 (joined_items row (gap_before behind End)) (both_apart row (gap_before behind End) own (apart_before behind End tt))) in
    ap gapped_of is
    ∙ gapped_append (take found.0 items) (all ++ drop (found.0 + 1) items)
    ∙ ap (λ (f : Gapped). items_before (take found.0 items) f)
    (gapped_append all (drop (found.0 + 1) items)
    ∙ apart_joined all rest all_apart (apart_behind_run items found.0 had d apart)
    ∙ ap (λ (f : Gapped). joined_items f rest) all_is
    ∙ closed_joined found.1 behind row rest
    ∙ sym (less_is found.1 had (gap_before found.1 (joined_items row (gap_before behind rest))) (Gap had (with_items_at (found.1 - had) row rest)) less))
    ∙ ap (λ (xs : List Item). items_before (take found.0 items) (with_items_at found.1 row (gapped_of xs))) (sym d)
    ∙ sym (h.grows row)

pub root_wider : {roots : List GappedTree} {index : ℕ} {found : ℕ × ℕ} (row : Gapped) (new : GappedTree) (h : IsRootOf roots index found) → new.node ≡ h.root.node → new.below ≡ with_items_at found.1 row h.root.below
    → grown_of (set roots found.0 new) ≡ with_items_at index row (grown_of roots)
root_wider {roots} {index} {found} row new h node below =
    let t : GappedTree = h.root in
    let rest : Gapped = grown_of (drop (found.0 + 1) roots) in
    let next : suc found.0 ≡ found.0 + 1 = omega arith in
    grown_set roots found.0 new (there_within roots found.0 t h.there)
    ∙ ap (λ (n : ℕ). grown_before (take found.0 roots) (Grow new.node new.below (grown_of (drop n roots)))) next
    ∙ ap₂ (λ (n : PieceNode) (b : Gapped). grown_before (take found.0 roots) (Grow n b rest)) node below
    ∙ ap (λ (f : Gapped). grown_before (take found.0 roots) f)
    (sym (less_is found.1 (proxies_in t.below) (Grow t.node (with_items_at found.1 row t.below) rest) (Grow t.node t.below (with_items_at (found.1 - proxies_in t.below) row rest)) h.within))
    ∙ ap (λ (xs : List GappedTree). grown_before (take found.0 roots) (with_items_at found.1 row (grown_of xs))) (sym h.there)
    ∙ sym (h.grows row)

-- the roots are apart where all is
pub apart_root : (roots : List GappedTree) (place : ℕ) (t : GappedTree) → drop place roots ≡ t ∷ drop (place + 1) roots → AreApart (grown_of roots) → AreApart t.below
apart_root [] zero t d h = absurd (cc)
apart_root [] (suc place) t d h = absurd (cc)
apart_root (u ∷ roots) zero t d h = subst (λ (v : GappedTree). AreApart v.below) (ap (λ (xs : List GappedTree). first_of t xs) d) h.0
  where
    first_of : GappedTree → List GappedTree → GappedTree
    first_of x [] = x
    first_of x (y ∷ ys) = y
apart_root (u ∷ roots) (suc place) t d h = apart_root roots place t (d ∙ ap (λ (n : ℕ). t ∷ drop n (u ∷ roots)) (let e : suc place + 1 ≡ suc (place + 1) = omega arith in e)) h.1
