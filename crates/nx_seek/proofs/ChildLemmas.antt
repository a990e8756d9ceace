-- Children that a walk over bytes looks for: those that are passed, and the one that is found.
use Rattle.std.proofs.Common.{◌≡◌, ℕ, zero, suc, ◌+◌, ◌-◌, ◌*◌, ◌<◌, ◌≤◌, List, [], ◌∷◌, ◌++◌, length, take, drop, None, Some, refl, sym, ap, ◌∙◌, subst, arith, append-nil}
use Rattle.std.specs.List.{slice_get}
use Rattle.std.proofs.Math.Seq.{drop-append-add}
use Rattle.std.proofs.lemmas.List.{length-append, length-drop}
use Rattle.nx_piece.specs.declared.piece.Proxy.{Proxy}
use Rattle.nx_piece.specs.PieceNode.{PieceNode}
use Rattle.nx_piece.specs.Gapped.{Gapped, GappedTree, End, Grow, Gap, gapped_width, gapped_size, proxies_in}
use Rattle.nx_piece.specs.Encoding.{items_bytes, proxy_bytes, proxies_bytes}
use Rattle.nx_piece.specs.Locate.{PieceChild, Own, Kept, roots_from, kept_from, children_of}
use Rattle.nx_piece.specs.Valid.{HaveRoots, HaveNumbers}
use Rattle.nx_piece.proofs.BodyLemmas.{proxies_length}
use Rattle.nx_piece.proofs.ApartLemmas.{two_unique}
use Rattle.nx_piece.proofs.Laws.{proxy_unique}
use Rattle.nx_piece.specs.Flat.{seen_node}
use Rattle.nx_piece.proofs.LocateLemmas.{get_in_front, get_behind, roots_length, root_there, children_most}
use Rattle.nx_seek.specs.Items.{ItemsStandIn, BeginsWithRun, BeginsWithNode}
use Rattle.nx_seek.specs.Children.{AreProxies, IsSpotOf, IsChildFound, ChildrenGoOn, IsOneOn}
use Rattle.nx_seek.specs.declared.children.Child.{Child}
use Rattle.nx_seek.specs.declared.children.Child.TheVariants as child
use Rattle.nx_seek.specs.declared.children.Spot.{Spot}

-- behind some proxies the others stand
pub proxies_drop : (n : ℕ) (proxies : List Proxy) → drop (8 * n) (proxies_bytes proxies) ≡ proxies_bytes (drop n proxies)
proxies_drop zero proxies = refl
proxies_drop (suc n) [] = none (8 * suc n)
  where
    none : (k : ℕ) → drop k (proxies_bytes []) ≡ []
    none zero = refl
    none (suc k) = refl
proxies_drop (suc n) (p ∷ proxies) =
    let e : 8 * suc n ≡ length (proxy_bytes p) + 8 * n = omega arith in
    ap (λ (k : ℕ). drop k (proxy_bytes p ++ proxies_bytes proxies)) e ∙ drop-append-add (proxy_bytes p) (proxies_bytes proxies) (8 * n) ∙ proxies_drop n proxies

-- bytes that are too short
pub proxies_missing : (bytes : List ℕ) (first count : ℕ) (all : List Proxy) → length bytes < 8 * first → AreProxies bytes all → first + count ≤ length all → ⊥
proxies_missing bytes first count all short are fits = let l = ap length are.same in omega (arith, proxies_length all)

-- the position is among the roots of so many proxies from one on, or so far behind them
pub record IsAmong (all : List Proxy) (first count position : ℕ) (here left more : ℕ) : Type 0 where
  pub same : slice_get (kept_from first (take count (drop first all))) position ≡ slice_get (kept_from here (take more (drop here all))) left
  pub sum : position + length (kept_from here (take more (drop here all))) ≡ length (kept_from first (take count (drop first all))) + left

-- ... and their bytes come next
pub record WalksProxies (all : List Proxy) (first count position : ℕ) (here left more : ℕ) (rest : List ℕ) : Type 0 where
  pub among : IsAmong all first count position here left more
  pub same : rest ≡ proxies_bytes (drop here all)

pub walk_begins : (bytes rest : List ℕ) (first count position more here : ℕ) (all : List Proxy) → AreProxies bytes all → rest ≡ drop (8 * first) bytes → more ≡ count → here ≡ first → WalksProxies all first count position here position more rest
walk_begins bytes rest first count position more here all are is same at =
    subst (λ (m : ℕ). WalksProxies all first count position here position m rest) (sym same)
    (subst (λ (k : ℕ). WalksProxies all first count position k position count rest) (sym at)
    (record {
      among = record { same = refl; sum = omega arith };
      same = is ∙ ap (drop (8 * first)) are.same ∙ proxies_drop first all;
    }))

-- the next proxy is the one that is read
pub record IsNextProxy (all : List Proxy) (here : ℕ) (proxy : Proxy) (behind : List ℕ) : Type 0 where
  pub is : drop here all ≡ proxy ∷ drop (here + 1) all
  pub there : slice_get all here ≡ Some proxy
  pub behind_is : behind ≡ proxies_bytes (drop (here + 1) all)

pub next_proxy : (all : List Proxy) (here : ℕ) (proxy : Proxy) (rest behind : List ℕ) → HaveRoots all → HaveNumbers all → here < length all → rest ≡ proxies_bytes (drop here all)
    → (rest ≡ proxy_bytes proxy ++ behind) × (proxy.page < 4294967296) × (proxy.slot < 65536) × (proxy.roots < 65536) → IsNextProxy all here proxy behind
next_proxy [] here proxy rest behind ranged numbers within same read = absurd (omega arith)
next_proxy (p ∷ all) zero proxy rest behind ranged numbers within same read =
    let e = sym read.0 ∙ same in
    let most : p.roots ≤ 256 = ranged.1 in
    let as_many : p.roots ≡ proxy.roots = two_unique p.roots proxy.roots (omega arith) read.3 (ap (λ (l : List ℕ). take 2 (drop 6 l)) (sym e)) in
    let is = proxy_unique p proxy (proxies_bytes all) behind (numbers.0, numbers.1, most) (read.1, read.2, omega arith) (sym e) in
    record { is = ap (λ (q : Proxy). q ∷ all) is; there = ap (λ (q : Proxy). Some q) is; behind_is = ap (drop 8) e }
next_proxy (p ∷ all) (suc here) proxy rest behind ranged numbers within same read =
    let n = next_proxy all here proxy rest behind ranged.2 numbers.2 (omega arith) same read in
    let on : drop (here + 1) all ≡ drop (suc here + 1) (p ∷ all) = ap (λ (k : ℕ). drop k (p ∷ all)) (let e : suc (here + 1) ≡ suc here + 1 = omega arith in e) in
    record { is = n.is ∙ ap (λ (l : List Proxy). proxy ∷ l) on; there = n.there; behind_is = n.behind_is ∙ ap proxies_bytes on }

-- nor is one missing
pub no_proxy : (all : List Proxy) (here : ℕ) (rest : List ℕ) → here < length all → rest ≡ proxies_bytes (drop here all) → length rest < 8 → ⊥
no_proxy all here rest within same short = let l = ap length same in let m = proxies_length (drop here all) in let n = length-drop here all in omega arith

pub one_passed : {all : List Proxy} {first count position here left more : ℕ} {rest : List ℕ} (proxy : Proxy) (behind : List ℕ) → WalksProxies all first count position here left (suc more) rest → IsNextProxy all here proxy behind → proxy.roots ≤ left
    → WalksProxies all first count position (here + 1) (left - proxy.roots) more behind
one_passed {all} {first} {count} {position} {here} {left} {more} proxy behind walk next beyond =
    let front = roots_from here 0 proxy.roots in
    let back = kept_from (here + 1) (take more (drop (here + 1) all)) in
    let cut : kept_from here (take (suc more) (drop here all)) ≡ front ++ back = ap (λ (ps : List Proxy). kept_from here (take (suc more) ps)) next.is in
    let long = roots_length here 0 proxy.roots in
    let place : left ≡ length front + (left - proxy.roots) = omega arith in
    record {
      among = record {
        same = (walk.among).same
            ∙ ap (λ (cs : List PieceChild). slice_get cs left) cut
            ∙ ap (slice_get (front ++ back)) place
            ∙ get_behind front back (left - proxy.roots);
        sum = let a = (walk.among).sum in let b = ap length cut in let c = length-append front back in omega arith;
      };
      same = next.behind_is;
    }

pub is_root : {all : List Proxy} {first count position here left more : ℕ} {rest : List ℕ} (proxy : Proxy) (behind : List ℕ) → WalksProxies all first count position here left (suc more) rest → IsNextProxy all here proxy behind → left < proxy.roots
    → (slice_get (kept_from first (take count (drop first all))) position ≡ Some (Kept here left)) × (slice_get all here ≡ Some proxy)
is_root {all} {first} {count} {position} {here} {left} {more} proxy behind walk next within =
    let front = roots_from here 0 proxy.roots in
    let back = kept_from (here + 1) (take more (drop (here + 1) all)) in
    let cut : kept_from here (take (suc more) (drop here all)) ≡ front ++ back = ap (λ (ps : List Proxy). kept_from here (take (suc more) ps)) next.is in (
      (walk.among).same
          ∙ ap (λ (cs : List PieceChild). slice_get cs left) cut
          ∙ get_in_front front back left (Kept here left)
          (root_there here 0 proxy.roots left within ∙ ap (λ (m : ℕ). Some (Kept here m)) (let q : 0 + left ≡ left = omega arith in q)),
      next.there,
    )

pub proxies_walked : {all : List Proxy} {first count position here left : ℕ} {rest : List ℕ} → WalksProxies all first count position here left 0 rest → position ≡ length (kept_from first (take count (drop first all))) + left
proxies_walked {all} {first} {count} {position} {here} {left} walk = let a = (walk.among).sum in omega arith

-- nothing is passed
pub goes_nowhere : (all : List Proxy) (first position : ℕ) (f : Gapped) → ChildrenGoOn all first position f first position f
goes_nowhere all first position f = record { same = refl; sum = omega arith; fits = omega arith }

pub goes_then : {all : List Proxy} {first position before left after over : ℕ} {f g h : Gapped} → ChildrenGoOn all first position f before left g → ChildrenGoOn all before left g after over h → ChildrenGoOn all first position f after over h
goes_then {all} {first} {position} {before} {left} {after} {over} {f} {g} {h} one two = record {
  same = one.same ∙ two.same;
  sum = let a = one.sum in let b = two.sum in omega arith;
  fits = let a = one.fits in let b = two.fits in omega arith;
}

-- what is found further on is found
pub child_then : {all : List Proxy} {first position before left : ℕ} {f g : Gapped} (found : Child) → ChildrenGoOn all first position f before left g → IsChildFound all before g left found → IsChildFound all first f position found
child_then (child.Tree spot) on is = (is.0, on.same ∙ is.1, is.2)
child_then (child.Root proxy index root) on is = (on.same ∙ is.0, is.1)
child_then (child.Behind over) on is = let a = on.sum in omega arith

-- the item is a run: its proxies' roots come, and then the other items
pub run_fits : (first most : ℕ) (behind tail : List ℕ) (count : ℕ) (f : Gapped) → 1 ≤ gapped_width f → first + proxies_in f ≤ most → BeginsWithRun f tail count behind → first + count ≤ most
run_fits first most behind tail count End some fits run = absurd (omega arith)
run_fits first most behind tail count (Grow n b s) some fits run = absurd run
run_fits first most behind tail count (Gap c s) some fits run = let is = run.0 in omega arith

pub in_run : (all : List Proxy) (first position index root : ℕ) (behind tail : List ℕ) (count : ℕ) (f : Gapped) → 1 ≤ gapped_width f → BeginsWithRun f tail count behind
    → slice_get (kept_from first (take count (drop first all))) position ≡ Some (Kept index root) → slice_get (children_of all first f) position ≡ Some (Kept index root)
in_run all first position index root behind tail count End some run there = absurd (omega arith)
in_run all first position index root behind tail count (Grow n b s) some run there = absurd run
in_run all first position index root behind tail count (Gap c s) some run there =
    get_in_front (kept_from first (take c (drop first all))) (children_of all (first + c) s) position (Kept index root)
    (ap (λ (k : ℕ). slice_get (kept_from first (take k (drop first all))) position) (sym run.0) ∙ there)

pub behind_run : {all : List Proxy} {first position left : ℕ} {bytes behind tail : List ℕ} (count : ℕ) (f : Gapped) → ItemsStandIn bytes f tail → 1 ≤ gapped_width f → BeginsWithRun f tail count behind
    → position ≡ length (kept_from first (take count (drop first all))) + left → IsOneOn all first position f tail (first + count) left behind
behind_run count End stands some run far = absurd (omega arith)
behind_run count (Grow n b s) stands some run far = absurd run
behind_run {all} {first} {position} {left} {behind = behind} {tail = tail} count (Gap c s) stands some run far =
    let few = stands.few in let sum = stands.few_proxies in
    let front = kept_from first (take c (drop first all)) in
    let back = children_of all (first + c) s in
    let long = ap (λ (k : ℕ). length (kept_from first (take k (drop first all)))) run.0 in
    let place : position ≡ length front + left = omega arith in
    let is : count ≡ c = run.0 in
    subst (λ (k : ℕ). IsOneOn all first position (Gap c s) tail (first + k) left behind) (sym is)
    (record {
      rest = s;
      stands = record { same = run.1; readable = stands.readable.1; few = omega arith; small = stands.small; few_proxies = omega arith };
      on = record {
        same = ap (slice_get (front ++ back)) place ∙ get_behind front back left;
        sum = let d = length-append front back in omega arith;
        fits = omega arith;
      };
      wide = omega arith;
    })

-- the item is a node: the first child, and behind it and all below it the others
pub below_stands : {bytes behind tail : List ℕ} (node : PieceNode) {items : ℕ} (f : Gapped) → ItemsStandIn bytes f tail → 1 ≤ gapped_width f → BeginsWithNode f tail node items behind → (b : Gapped) × (rest : List ℕ) × ItemsStandIn behind b rest × (gapped_width b ≡ items)
below_stands node End stands some first = absurd (omega arith)
below_stands node (Gap c s) stands some first = absurd first
below_stands {tail = tail} node (Grow n b s) stands some first =
    let few = stands.few in let small = stands.small in let sum = stands.few_proxies in
    (b, items_bytes s ++ tail, record { same = first.2; readable = stands.readable.2; few = omega arith; small = omega arith; few_proxies = omega arith }, sym first.1)

pub is_node : (all : List Proxy) (position : ℕ) {bytes tail : List ℕ} (spot : Spot) (f : Gapped) → ItemsStandIn bytes f tail → 1 ≤ gapped_width f → BeginsWithNode f tail (seen_node spot.node) spot.items spot.behind.now → position ≡ 0
    → (tree : GappedTree) × (slice_get (children_of all spot.first f) position ≡ Some (Own tree spot.first)) × IsSpotOf spot tree
is_node all position spot End stands some first none = absurd (omega arith)
is_node all position spot (Gap c s) stands some first none = absurd first
is_node all position {tail = tail} spot (Grow n b s) stands some first none =
    let few = stands.few in let small = stands.small in let sum = stands.few_proxies in (
      record { node = n; below = b },
      ap (slice_get (children_of all spot.first (Grow n b s))) none,
      record {
        node = first.0;
        wide = sym first.1;
        tail = items_bytes s ++ tail;
        stands = record { same = first.2; readable = stands.readable.2; few = omega arith; small = omega arith; few_proxies = omega arith };
      },
    )

-- what passing all below the node has told
abbrev pub HasPassedBelow : (behind : List ℕ) (items : ℕ) (rest : List ℕ) (count : ℕ) → Type 0
HasPassedBelow behind items rest count = (f : Gapped) (tail : List ℕ) → ItemsStandIn behind f tail → gapped_width f ≡ items → (rest ≡ tail) × (count ≡ proxies_in f)

pub node_fits : (first most : ℕ) {bytes tail : List ℕ} (behind rest : List ℕ) (node : PieceNode) (items : ℕ) (count : ℕ) (f : Gapped) → ItemsStandIn bytes f tail → 1 ≤ gapped_width f → first + proxies_in f ≤ most → BeginsWithNode f tail node items behind
    → HasPassedBelow behind items rest count → first + count ≤ most
node_fits first most behind rest node items count End stands some fits node_is passed = absurd (omega arith)
node_fits first most behind rest node items count (Gap c s) stands some fits node_is passed = absurd node_is
node_fits first most {tail = tail} behind rest node items count (Grow n b s) stands some fits node_is passed =
    let few = stands.few in let small = stands.small in let sum = stands.few_proxies in
    let is : count ≡ proxies_in b = (passed b (items_bytes s ++ tail) (record { same = node_is.2; readable = stands.readable.2; few = omega arith; small = omega arith; few_proxies = omega arith }) (sym node_is.1)).1 in
    omega arith

pub behind_node : {all : List Proxy} {first position : ℕ} {bytes tail rest : List ℕ} (behind : List ℕ) (node : PieceNode) (items : ℕ) (count : ℕ) (f : Gapped) → ItemsStandIn bytes f tail → 1 ≤ gapped_width f → BeginsWithNode f tail node items behind
    → HasPassedBelow behind items rest count → 1 ≤ position → IsOneOn all first position f tail (first + count) (position - 1) rest
behind_node behind node items count End stands some node_is passed far = absurd (omega arith)
behind_node behind node items count (Gap c s) stands some node_is passed far = absurd node_is
behind_node {all} {first} {position} {tail = tail} {rest} behind node items count (Grow n b s) stands some node_is passed far =
    let few = stands.few in let small = stands.small in let sum = stands.few_proxies in
    let below = passed b (items_bytes s ++ tail) (record { same = node_is.2; readable = stands.readable.2; few = omega arith; small = omega arith; few_proxies = omega arith }) (sym node_is.1) in
    let is : count ≡ proxies_in b = below.1 in
    let place : position ≡ suc (position - 1) = omega arith in
    subst (λ (k : ℕ). IsOneOn all first position (Grow n b s) tail (first + k) (position - 1) rest) (sym is)
    (record {
      rest = s;
      stands = record { same = below.0; readable = stands.readable.3; few = omega arith; small = omega arith; few_proxies = omega arith };
      on = record {
        same = ap (slice_get (children_of all first (Grow n b s))) place;
        sum = omega arith;
        fits = omega arith;
      };
      wide = omega arith;
    })

-- so many items are left, among which the position is
pub record IsOnChildren (all : List Proxy) (first position : ℕ) (f : Gapped) (tail : List ℕ) (before left : ℕ) (rest : List ℕ) (passed : ℕ) : Type 0 where
  pub last : Gapped
  pub stands : ItemsStandIn rest last tail
  pub on : ChildrenGoOn all first position f before left last
  pub wide : gapped_width f ≡ passed + gapped_width last

pub children_begin : (bytes : List ℕ) (all : List Proxy) (first position : ℕ) (f : Gapped) (tail : List ℕ) → ItemsStandIn bytes f tail → IsOnChildren all first position f tail first position bytes 0
children_begin bytes all first position f tail stands = record { last = f; stands = stands; on = goes_nowhere all first position f; wide = omega arith }

pub still_fits : {all : List Proxy} {first position before left passed most : ℕ} {f : Gapped} {tail rest : List ℕ} (h : IsOnChildren all first position f tail before left rest passed) → first + proxies_in f ≤ most → before + proxies_in h.last ≤ most
still_fits h fits = let a = (h.on).fits in omega arith

pub children_go_on : {all : List Proxy} {first position before left passed after over : ℕ} {f : Gapped} {tail rest behind : List ℕ} (h : IsOnChildren all first position f tail before left rest passed) → IsOneOn all before left h.last tail after over behind
    → IsOnChildren all first position f tail after over behind (passed + 1)
children_go_on h one = record { last = one.rest; stands = one.stands; on = goes_then h.on one.on; wide = let a = h.wide in let b = one.wide in omega arith }

pub children_end : {all : List Proxy} {first position before left passed : ℕ} {f : Gapped} {tail rest : List ℕ} (h : IsOnChildren all first position f tail before left rest passed) → gapped_width f ≤ passed → position ≡ length (children_of all first f) + left
children_end {all} {before = before} h end = let a = h.wide in let b = (h.on).sum in let none = empty h.last (omega arith) in omega arith
  where
    empty : (g : Gapped) → gapped_width g ≡ 0 → length (children_of all before g) ≡ 0
    empty End w = refl
    empty (Grow n b s) w = absurd (omega arith)
    empty (Gap c s) w = absurd (omega arith)

-- no node has so many children that a position of 32 bits could be the last one's
pub beyond_all : (all : List Proxy) (first : ℕ) (f : Gapped) (x : PieceChild) → HaveRoots all → gapped_size f ≤ 256 → proxies_in f ≤ 524288 → slice_get (children_of all first f) 4294967295 ≡ Some x → ⊥
beyond_all all first f x ranged small few there =
    let most = children_most all first f ranged in
    let cs = children_of all first f in
    let place : 4294967295 ≡ length cs + (4294967295 - length cs) = omega arith in
    let none : slice_get cs 4294967295 ≡ None = ap (λ (l : List PieceChild). slice_get l 4294967295) (sym (append-nil cs)) ∙ ap (slice_get (cs ++ [])) place ∙ get_behind cs [] (4294967295 - length cs) in
    absurd (cc)
