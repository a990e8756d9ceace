-- What is left of a piece without one of its trees, or without one of its proxies, may be stored.
use Rattle.std.proofs.Common.{◌≡◌, ℕ, zero, suc, ◌+◌, ◌-◌, ◌<◌, ◌≤◌, nat_lt, Bool, true, false, if◌then◌else◌, List, [], ◌∷◌, ◌++◌, Some, length, take, drop, set, refl, sym, ap, ap₂, ◌∙◌, subst, arith, inl, inr, length-append}
use Rattle.std.specs.List.{slice_get}
use Rattle.std.proofs.lemmas.Bool.{cases_lt}
use Rattle.std.proofs.lemmas.Bool.Decides.{nat_tests}
use Rattle.std.proofs.lemmas.List.{drop-drop, length-drop, length-set, length-take-le, set_split}
use Rattle.nx_piece.specs.PieceNode.{PieceNode, item_slots}
use Rattle.nx_piece.specs.declared.piece.Piece.{Piece}
use Rattle.nx_piece.specs.declared.piece.Proxy.{Proxy}
use Rattle.nx_piece.specs.Gapped.{Gapped, GappedTree, End, Grow, Gap, gapped_width, gapped_size, proxies_in, with_gap}
use Rattle.nx_piece.specs.Valid.{AreApart, AreFar, AreTrees, BeginsNoGap, HaveRoots, IsBodyWithin}
use Rattle.nx_piece.specs.Locate.{PieceChild, Own, Kept, Reached, Inside, Outside, Missing, roots_of, roots_from, kept_from, children_of, reached, reached_in, IsPartOf}
use Rattle.nx_piece_edits.specs.Cutting.{without_tree, smaller_gap, without_proxy, IsWithoutTree, IsWithoutProxy, IsWithProxy}
use Rattle.nx_piece_edits.specs.Taking.{led, IsTakenOut}
use Rattle.nx_piece.proofs.SizeLemmas.{gapped_sum}
use Rattle.nx_piece.proofs.LocateLemmas.{kept_length, ranged_take, ranged_drop}
use Rattle.nx_piece_edits.proofs.TakeLemmas.{led_nowhere, led_away}

-- One gap more in front:

width_gap : (count : ℕ) (f : Gapped) → gapped_width (with_gap count f) ≤ 1 + gapped_width f
width_gap count End = omega arith
width_gap count (Grow n b s) = omega arith
width_gap count (Gap c s) = omega arith

size_gap : (count : ℕ) (f : Gapped) → gapped_size (with_gap count f) ≡ gapped_size f
size_gap count End = refl
size_gap count (Grow n b s) = refl
size_gap count (Gap c s) = refl

pub sum_gap : (measure : PieceNode → ℕ) (count : ℕ) (f : Gapped) → gapped_sum measure (with_gap count f) ≡ gapped_sum measure f
sum_gap measure count End = refl
sum_gap measure count (Grow n b s) = refl
sum_gap measure count (Gap c s) = refl

pub proxies_gap : (count : ℕ) (f : Gapped) → proxies_in (with_gap count f) ≡ count + proxies_in f
proxies_gap count End = refl
proxies_gap count (Grow n b s) = refl
proxies_gap count (Gap c s) = omega arith

pub apart_gap : (count : ℕ) (f : Gapped) → 1 ≤ count → AreApart f → AreApart (with_gap count f)
apart_gap count End some h = (some, tt, tt)
apart_gap count (Grow n b s) some h = (some, tt, h)
apart_gap count (Gap c s) some h = (omega arith, h.1, h.2)

pub far_gap : (count : ℕ) (f : Gapped) → AreFar f → AreFar (with_gap count f)
far_gap count End h = tt
far_gap count (Grow n b s) h = h
far_gap count (Gap c s) h = h

-- Without a tree:

trees_left : (position : ℕ) (path : List ℕ) (f : Gapped) (proxies : List Proxy) → AreTrees f → AreTrees (without_tree position path f proxies)
trees_left position path End proxies h = tt
trees_left zero [] (Grow n b s) proxies h = h
trees_left zero (next ∷ path) (Grow n b s) proxies h = h
trees_left (suc position) path (Grow n b s) proxies h = trees_left position path s (drop (proxies_in b) proxies) h
trees_left position path (Gap c s) proxies h = absurd h

width_left : (position : ℕ) (path : List ℕ) (f : Gapped) (proxies : List Proxy) → gapped_width (without_tree position path f proxies) ≤ gapped_width f
width_left position path End proxies = omega arith
width_left zero [] (Grow n b s) proxies = omega arith
width_left zero (next ∷ path) (Grow n b s) proxies = omega arith
width_left (suc position) path (Grow n b s) proxies = let h = width_left position path s (drop (proxies_in b) proxies) in omega (arith, h)
width_left position path (Gap c s) proxies =
    let rest = without_tree (position - roots_of (take c proxies)) path s (drop c proxies) in
    let h = width_left (position - roots_of (take c proxies)) path s (drop c proxies) in
    let g = width_gap c rest in
    omega (arith, h, g)

size_left : (position : ℕ) (path : List ℕ) (f : Gapped) (proxies : List Proxy) → gapped_size (without_tree position path f proxies) ≤ gapped_size f
size_left position path End proxies = omega arith
size_left zero [] (Grow n b s) proxies = omega arith
size_left zero (next ∷ path) (Grow n b s) proxies = let h = size_left next path b proxies in omega (arith, h)
size_left (suc position) path (Grow n b s) proxies = let h = size_left position path s (drop (proxies_in b) proxies) in omega (arith, h)
size_left position path (Gap c s) proxies =
    let h = size_left (position - roots_of (take c proxies)) path s (drop c proxies) in
    let g = size_gap c (without_tree (position - roots_of (take c proxies)) path s (drop c proxies)) in
    omega (arith, h, g)

far_left : (position : ℕ) (path : List ℕ) (f : Gapped) (proxies : List Proxy) → AreFar f → AreFar (without_tree position path f proxies)
far_left position path End proxies h = tt
far_left zero [] (Grow n b s) proxies h = h.2
far_left zero (next ∷ path) (Grow n b s) proxies h = (h.0, far_left next path b proxies h.1, h.2)
far_left (suc position) path (Grow n b s) proxies h = (h.0, h.1, far_left position path s (drop (proxies_in b) proxies) h.2)
far_left position path (Gap c s) proxies h = far_gap c (without_tree (position - roots_of (take c proxies)) path s (drop c proxies)) (far_left (position - roots_of (take c proxies)) path s (drop c proxies) h)

apart_left : (position : ℕ) (path : List ℕ) (f : Gapped) (proxies : List Proxy) → AreApart f → AreApart (without_tree position path f proxies)
apart_left position path End proxies h = tt
apart_left zero [] (Grow n b s) proxies h = h.1
apart_left zero (next ∷ path) (Grow n b s) proxies h = (apart_left next path b proxies h.0, h.1)
apart_left (suc position) path (Grow n b s) proxies h = (h.0, apart_left position path s (drop (proxies_in b) proxies) h.1)
apart_left position path (Gap c s) proxies h = apart_gap c (without_tree (position - roots_of (take c proxies)) path s (drop c proxies)) h.0 (apart_left (position - roots_of (take c proxies)) path s (drop c proxies) h.2)

-- all of them are roots of other records
abbrev pub AllKept : List PieceChild → Type 0
AllKept [] = Unit {0}
AllKept (Own t first ∷ rest) = ⊥
AllKept (Kept index member ∷ rest) = AllKept rest

all_append : (xs ys : List PieceChild) → AllKept xs → AllKept ys → AllKept (xs ++ ys)
all_append [] ys h k = k
all_append (Own t first ∷ xs) ys h k = absurd h
all_append (Kept index member ∷ xs) ys h k = all_append xs ys h k

pub all_roots : (index member count : ℕ) → AllKept (roots_from index member count)
all_roots index member zero = tt
all_roots index member (suc count) = all_roots index (member + 1) count

pub all_kept : (index : ℕ) (proxies : List Proxy) → AllKept (kept_from index proxies)
all_kept index [] = tt
all_kept index (proxy ∷ proxies) = all_append (roots_from index 0 proxy.roots) (kept_from (index + 1) proxies) (all_roots index 0 proxy.roots) (all_kept (index + 1) proxies)

-- a path that leads to a tree passes them
abbrev pub Passes : List Proxy → ℕ → List ℕ → List PieceChild → List PieceChild → ℕ → GappedTree → ℕ → Type 0
Passes proxies used path kept rest position t before = (n : ℕ) × (position ≡ length kept + n) × (reached proxies used path (slice_get rest n) ≡ Inside t before)

pub passes_kept : (proxies : List Proxy) (used : ℕ) (path : List ℕ) (kept rest : List PieceChild) (position : ℕ) (t : GappedTree) (before : ℕ) → AllKept kept → reached proxies used path (slice_get (kept ++ rest) position) ≡ Inside t before
    → Passes proxies used path kept rest position t before
passes_kept proxies used path [] rest position t before h e = (position, (omega arith), e)
passes_kept proxies used path (Own u first ∷ kept) rest position t before h e = absurd h
passes_kept proxies used path (Kept index member ∷ kept) rest zero t before h e = absurd (led_away proxies used path index member t before e)
passes_kept proxies used path (Kept index member ∷ kept) rest (suc position) t before h e =
    let p = passes_kept proxies used path kept rest position t before h e in
    let q : position ≡ length kept + p.0 = p.1 in
    (p.0, (omega arith), p.2)

abbrev pub tree_reached : GappedTree → Reached → GappedTree
tree_reached t (Inside u first) = u
tree_reached t (Outside index member used) = t
tree_reached t Missing = t

-- the proxies of the tree that goes go with it
pub counted_left : (proxies : List Proxy) (first used position : ℕ) (path : List ℕ) (f : Gapped) (t : GappedTree) (before : ℕ) → led proxies first f used position path ≡ Inside t before
    → proxies_in (without_tree position path f (drop first proxies)) + proxies_in t.below ≡ proxies_in f
counted_left proxies first used position path End t before e = absurd (led_nowhere proxies used path t before e)
counted_left proxies first used zero [] (Grow n b s) t before e =
    let same : record { node = n; below = b } ≡ t = ap (tree_reached (record { node = n; below = b })) e in
    let below : proxies_in b ≡ proxies_in t.below = ap (λ (u : GappedTree). proxies_in u.below) same in
    omega arith
counted_left proxies first used zero (next ∷ path) (Grow n b s) t before e = let h = counted_left proxies first (used + 1) next path b t before e in omega (arith, h)
counted_left proxies first used (suc position) path (Grow n b s) t before e =
    let h = counted_left proxies (first + proxies_in b) used position path s t before e in
    let d = ap (λ (ps : List Proxy). proxies_in (without_tree position path s ps)) (drop-drop (proxies_in b) first proxies) in
    omega (arith, h, d)
counted_left proxies first used position path (Gap c s) t before e =
    let kept : List PieceChild = kept_from first (take c (drop first proxies)) in
    let p = passes_kept proxies used path kept (children_of proxies (first + c) s) position t before (all_kept first (take c (drop first proxies))) e in
    let long : length kept ≡ roots_of (take c (drop first proxies)) = kept_length first (take c (drop first proxies)) in
    let q : position ≡ length kept + p.0 = p.1 in
    let left : position - roots_of (take c (drop first proxies)) ≡ p.0 = omega arith in
    let h = counted_left proxies (first + c) used p.0 path s t before p.2 in
    let d = ap₂ (λ (n : ℕ) (ps : List Proxy). proxies_in (without_tree n path s ps)) left (drop-drop c first proxies) in
    let g = proxies_gap c (without_tree (position - roots_of (take c (drop first proxies))) path s (drop c (drop first proxies))) in
    omega (arith, h, d, g)

pub within_left : {most_roots most_slots : ℕ} {roots : Gapped} {n m : ℕ} (position : ℕ) (path : List ℕ) (proxies : List Proxy) (t : GappedTree) (before : ℕ) → IsBodyWithin most_roots most_slots roots n → led proxies 0 roots 0 position path ≡ Inside t before
    → m + proxies_in t.below ≡ n → 1 ≤ gapped_width (without_tree position path roots proxies) → IsBodyWithin most_roots most_slots (without_tree position path roots proxies) m
within_left {most_roots} {most_slots} {roots} {n} {m} position path proxies t before h led_is sum some =
    let few = h.few in
    let small = h.small in
    let counted = h.counted in
    let few_proxies = h.few_proxies in
    let w = width_left position path roots proxies in
    let l = size_left position path roots proxies in
    let c = counted_left proxies 0 0 position path roots t before led_is in
    record {
      trees = trees_left position path roots proxies h.trees;
      some = some;
      few = omega arith;
      small = omega arith;
      apart = apart_left position path roots proxies h.apart;
      far = far_left position path roots proxies h.far;
      counted = omega arith;
      few_proxies = omega arith;
    }

pub ranged_append : (xs ys : List Proxy) → HaveRoots xs → HaveRoots ys → HaveRoots (xs ++ ys)
ranged_append [] ys h k = k
ranged_append (p ∷ xs) ys h k = (h.0, h.1, ranged_append xs ys h.2 k)

pub ranged_around : (first behind : ℕ) (proxies : List Proxy) → HaveRoots proxies → HaveRoots (take first proxies ++ drop behind proxies)
ranged_around first behind proxies h = ranged_append (take first proxies) (drop behind proxies) (ranged_take first proxies h) (ranged_drop behind proxies h)

pub length_around : (first count : ℕ) (proxies : List Proxy) → first + count ≤ length proxies → length (take first proxies ++ drop (first + count) proxies) + count ≡ length proxies
length_around first count proxies fits =
    let a = length-append (take first proxies) (drop (first + count) proxies) in
    let b = length-take-le first proxies (omega arith) in
    let c = length-drop (first + count) proxies in
    omega arith

abbrev pub first_reached : Reached → ℕ
first_reached (Inside t first) = first
first_reached (Outside index member used) = 0
first_reached Missing = 0

-- the tree that was located is the one that was taken out
pub removed_is : (piece : Piece) (member : ℕ) (path : List ℕ) (roots : Gapped) (own left : List Proxy) (here cut : GappedTree) (first below : ℕ) → reached_in piece member path ≡ Inside here first → IsPartOf piece here first
    → IsTakenOut piece.proxies 0 member path piece.body.roots (Some cut) roots → below ≡ proxies_in here.below → own ≡ take (first + below - first) (drop first piece.proxies) → left ≡ take first piece.proxies ++ drop (first + below) piece.proxies
    → IsWithoutTree piece member path (record { rest = record { body = record { roots = roots }; proxies = left }; tree = cut; proxies = own })
removed_is piece member path roots own left here cut first below reached_is part taken count own_is left_is =
    let both : Inside here first ≡ Inside cut taken.0 = sym reached_is ∙ taken.1 0 in
    let tree : here ≡ cut = ap (tree_reached here) both in
    let span : first + below - first ≡ proxies_in cut.below = let c = ap (λ (t : GappedTree). proxies_in t.below) tree in omega arith in
    let most : first + below ≡ first + proxies_in cut.below = omega arith in
    let fits : first + proxies_in here.below ≤ length piece.proxies = part.fits in
    let room : first + proxies_in cut.below ≤ length piece.proxies = omega arith in
    let left_as : left ≡ take first piece.proxies ++ drop (first + proxies_in cut.below) piece.proxies = left_is ∙ ap (λ (n : ℕ). take first piece.proxies ++ drop n piece.proxies) most in
    record {
      first = first;
      leads = reached_is ∙ ap (λ (t : GappedTree). Inside t first) tree;
      part = subst (λ (t : GappedTree). IsPartOf piece t first) tree part;
      body = taken.2;
      taken = own_is ∙ ap (λ (n : ℕ). take n (drop first piece.proxies)) span;
      left = left_as;
      valid = λ v some.
          let sum : length left + proxies_in cut.below ≡ length piece.proxies = ap (λ (xs : List Proxy). length xs + proxies_in cut.below) left_as ∙ length_around first (proxies_in cut.below) piece.proxies room in
          record {
            body = subst (λ (f : Gapped). IsBodyWithin 256 256 f (length left)) (sym taken.2)
                (within_left member path piece.proxies cut taken.0 v.body (taken.1 0) sum (subst (λ (f : Gapped). 1 ≤ gapped_width f) taken.2 some));
            ranged = subst HaveRoots (sym left_as) (ranged_around first (first + proxies_in cut.below) piece.proxies v.ranged);
          };
    }

-- Without a proxy:

trees_fewer : (index : ℕ) (f : Gapped) → AreTrees f → AreTrees (without_proxy index f)
trees_fewer index End h = tt
trees_fewer index (Grow n b s) h =
    elim (nat_lt index (proxies_in b)) as (λ t. AreTrees (if t then Grow n (without_proxy index b) s else Grow n b (without_proxy (index - proxies_in b) s))) [
      | true ↦ h
      | false ↦ trees_fewer (index - proxies_in b) s h
    ]
trees_fewer index (Gap c s) h = absurd h

width_fewer : (index : ℕ) (f : Gapped) → AreTrees f → gapped_width (without_proxy index f) ≡ gapped_width f
width_fewer index End h = refl
width_fewer index (Grow n b s) h =
    elim (nat_lt index (proxies_in b)) as (λ t. gapped_width (if t then Grow n (without_proxy index b) s else Grow n b (without_proxy (index - proxies_in b) s)) ≡ 1 + gapped_width s) [
      | true ↦ refl
      | false ↦ ap (λ (w : ℕ). 1 + w) (width_fewer (index - proxies_in b) s h)
    ]
width_fewer index (Gap c s) h = absurd h

size_smaller : (count : ℕ) (f : Gapped) → gapped_size (smaller_gap count f) ≡ gapped_size f
size_smaller count f = elim (nat_lt 1 count) as (λ t. gapped_size (if t then Gap (count - 1) f else f) ≡ gapped_size f) [ true ↦ refl | false ↦ refl ]

size_fewer : (index : ℕ) (f : Gapped) → gapped_size (without_proxy index f) ≡ gapped_size f
size_fewer index End = refl
size_fewer index (Grow n b s) =
    elim (nat_lt index (proxies_in b)) as (λ t. gapped_size (if t then Grow n (without_proxy index b) s else Grow n b (without_proxy (index - proxies_in b) s)) ≡ item_slots n + gapped_size b + gapped_size s) [
      | true ↦ ap (λ (w : ℕ). item_slots n + w + gapped_size s) (size_fewer index b)
      | false ↦ ap (λ (w : ℕ). item_slots n + gapped_size b + w) (size_fewer (index - proxies_in b) s)
    ]
size_fewer index (Gap c s) =
    elim (nat_lt index c) as (λ t. gapped_size (if t then smaller_gap c s else Gap c (without_proxy (index - c) s)) ≡ gapped_size s) [
      | true ↦ size_smaller c s
      | false ↦ size_fewer (index - c) s
    ]

begins_fewer : (index : ℕ) (f : Gapped) → BeginsNoGap f → BeginsNoGap (without_proxy index f)
begins_fewer index End h = tt
begins_fewer index (Grow n b s) h =
    elim (nat_lt index (proxies_in b)) as (λ t. BeginsNoGap (if t then Grow n (without_proxy index b) s else Grow n b (without_proxy (index - proxies_in b) s))) [ true ↦ tt | false ↦ tt ]
begins_fewer index (Gap c s) h = absurd h

pub less_is : {T : Type 0} (a b : ℕ) (x y : T) → a < b → (if nat_lt a b then x else y) ≡ x
less_is a b x y less = let e : nat_lt a b ≡ true = grind (arith, nat_tests) in subst (λ (t : Bool). (if t then x else y) ≡ x) (sym e) refl

pub not_less : {T : Type 0} (a b : ℕ) (x y : T) → b ≤ a → (if nat_lt a b then x else y) ≡ y
not_less a b x y most = let e : nat_lt a b ≡ false = grind (arith, nat_tests) in subst (λ (t : Bool). (if t then x else y) ≡ y) (sym e) refl

apart_smaller : (count : ℕ) (f : Gapped) → BeginsNoGap f → AreApart f → AreApart (smaller_gap count f)
apart_smaller count f b h =
    elim (cases_lt 1 count) [
      | inl more ↦ subst AreApart (sym (less_is 1 count (Gap (count - 1) f) f more)) ((omega (arith, more)), b, h)
      | inr one ↦ subst AreApart (sym (not_less 1 count (Gap (count - 1) f) f one)) h
    ]

far_smaller : (count : ℕ) (f : Gapped) → AreFar f → AreFar (smaller_gap count f)
far_smaller count f h = elim (nat_lt 1 count) as (λ t. AreFar (if t then Gap (count - 1) f else f)) [ true ↦ h | false ↦ h ]

apart_fewer : (index : ℕ) (f : Gapped) → AreApart f → AreApart (without_proxy index f)
apart_fewer index End h = tt
apart_fewer index (Grow n b s) h =
    elim (nat_lt index (proxies_in b)) as (λ t. AreApart (if t then Grow n (without_proxy index b) s else Grow n b (without_proxy (index - proxies_in b) s))) [
      | true ↦ (apart_fewer index b h.0, h.1)
      | false ↦ (h.0, apart_fewer (index - proxies_in b) s h.1)
    ]
apart_fewer index (Gap c s) h =
    elim (nat_lt index c) as (λ t. AreApart (if t then smaller_gap c s else Gap c (without_proxy (index - c) s))) [
      | true ↦ apart_smaller c s h.1 h.2
      | false ↦ (h.0, begins_fewer (index - c) s h.1, apart_fewer (index - c) s h.2)
    ]

far_fewer : (index : ℕ) (f : Gapped) → AreFar f → AreFar (without_proxy index f)
far_fewer index End h = tt
far_fewer index (Grow n b s) h =
    elim (nat_lt index (proxies_in b)) as (λ t. AreFar (if t then Grow n (without_proxy index b) s else Grow n b (without_proxy (index - proxies_in b) s))) [
      | true ↦ (h.0, far_fewer index b h.1, h.2)
      | false ↦ (h.0, h.1, far_fewer (index - proxies_in b) s h.2)
    ]
far_fewer index (Gap c s) h =
    elim (nat_lt index c) as (λ t. AreFar (if t then smaller_gap c s else Gap c (without_proxy (index - c) s))) [
      | true ↦ far_smaller c s h
      | false ↦ far_fewer (index - c) s h
    ]

counted_smaller : (count : ℕ) (f : Gapped) → 1 ≤ count → proxies_in (smaller_gap count f) + 1 ≡ count + proxies_in f
counted_smaller count f some =
    elim (cases_lt 1 count) [
      | inl more ↦ let e = ap proxies_in (less_is 1 count (Gap (count - 1) f) f more) in omega (arith, e, more)
      | inr one ↦ let e = ap proxies_in (not_less 1 count (Gap (count - 1) f) f one) in omega (arith, e, one, some)
    ]

counted_fewer : (index : ℕ) (f : Gapped) → index < proxies_in f → proxies_in (without_proxy index f) + 1 ≡ proxies_in f
counted_fewer index End less = absurd (omega arith)
counted_fewer index (Grow n b s) less =
    elim (cases_lt index (proxies_in b)) [
      | inl here ↦
          let e = ap proxies_in (less_is index (proxies_in b) (Grow n (without_proxy index b) s) (Grow n b (without_proxy (index - proxies_in b) s)) here) in
          let h = counted_fewer index b here in omega (arith, e, h)
      | inr behind ↦
          let e = ap proxies_in (not_less index (proxies_in b) (Grow n (without_proxy index b) s) (Grow n b (without_proxy (index - proxies_in b) s)) behind) in
          let h = counted_fewer (index - proxies_in b) s (omega (arith, less, behind)) in omega (arith, e, h)
    ]
counted_fewer index (Gap c s) less =
    elim (cases_lt index c) [
      | inl here ↦
          let e = ap proxies_in (less_is index c (smaller_gap c s) (Gap c (without_proxy (index - c) s)) here) in
          let h = counted_smaller c s (omega (arith, here)) in omega (arith, e, h)
      | inr behind ↦
          let e = ap proxies_in (not_less index c (smaller_gap c s) (Gap c (without_proxy (index - c) s)) behind) in
          let h = counted_fewer (index - c) s (omega (arith, less, behind)) in omega (arith, e, h)
    ]

pub within_fewer : {most_roots most_slots : ℕ} {roots : Gapped} {n m : ℕ} (index : ℕ) → IsBodyWithin most_roots most_slots roots n → index < n → m + 1 ≡ n → IsBodyWithin most_roots most_slots (without_proxy index roots) m
within_fewer {most_roots} {most_slots} {roots} {n} {m} index h less sum =
    let some = h.some in
    let few = h.few in
    let small = h.small in
    let counted = h.counted in
    let few_proxies = h.few_proxies in
    let w = width_fewer index roots h.trees in
    let l = size_fewer index roots in
    let c = counted_fewer index roots (omega arith) in
    record {
      trees = trees_fewer index roots h.trees;
      some = omega arith;
      few = omega arith;
      small = omega arith;
      apart = apart_fewer index roots h.apart;
      far = far_fewer index roots h.far;
      counted = omega arith;
      few_proxies = omega arith;
    }

pub proxy_gone : (piece : Piece) (index : ℕ) (roots : Gapped) (proxies : List Proxy) → index < length piece.proxies → roots ≡ without_proxy index piece.body.roots → proxies ≡ take index piece.proxies ++ drop (index + 1) piece.proxies
    → IsWithoutProxy piece index (record { body = record { roots = roots }; proxies = proxies })
proxy_gone piece index roots proxies within body is = record {
  body = body;
  proxies = is;
  valid = λ v.
      let sum : length proxies + 1 ≡ length piece.proxies = ap (λ (xs : List Proxy). length xs + 1) is ∙ length_around index 1 piece.proxies (omega arith) in
      record {
        body = subst (λ (f : Gapped). IsBodyWithin 256 256 f (length proxies)) (sym body) (within_fewer index v.body within sum);
        ranged = subst HaveRoots (sym is) (ranged_around index (index + 1) piece.proxies v.ranged);
      };
}

pub replaced_is : (piece : Piece) (index : ℕ) (proxy : Proxy) (proxies : List Proxy) → index < length piece.proxies → proxies ≡ set piece.proxies index proxy → IsWithProxy piece index proxy (record { body = piece.body; proxies = proxies })
replaced_is piece index proxy proxies within is =
    let next : suc index ≡ index + 1 = omega arith in
    let now : proxies ≡ take index piece.proxies ++ proxy ∷ drop (index + 1) piece.proxies =
    is ∙ set_split piece.proxies index proxy within ∙ ap (λ (n : ℕ). take index piece.proxies ++ proxy ∷ drop n piece.proxies) next in
    let long : length proxies ≡ length piece.proxies = ap length is ∙ length-set piece.proxies index proxy in
    record {
      body = refl;
      proxies = now;
      valid = λ v some most. record {
        body = subst (λ (n : ℕ). IsBodyWithin 256 256 piece.body.roots n) (sym long) v.body;
        ranged = subst HaveRoots (sym now) (ranged_append (take index piece.proxies) (proxy ∷ drop (index + 1) piece.proxies) (ranged_take index piece.proxies v.ranged) (some, most, ranged_drop (index + 1) piece.proxies v.ranged));
      };
    }
