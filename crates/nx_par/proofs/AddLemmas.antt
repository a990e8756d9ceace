-- How a list of minima grows, by one tree after the other or by all at once.
use Rattle.std.proofs.Common.{◌≡◌, ℕ, zero, suc, ◌+◌, ◌-◌, ◌<◌, ◌≤◌, List, [], ◌∷◌, ◌++◌, length, take, drop, get_or, refl, sym, ap, subst, ◌∙◌, arith, append_assoc, length-append, length-take, length-drop, map, All, IfOk, OnOk, Ok, Err, Option, None, Some, IfSome}
use Rattle.std.specs.Prelude.{Result}
use Rattle.std.specs.List.{AllZip}
use Rattle.std.specs.Option.{option_map}
use Rattle.std.proofs.lemmas.List.{take-append-drop}
use Rattle.nx_tree.specs.Forest.{OrderedTree, Forest, Empty, forest_of, nodes}
use Rattle.nx_weights.specs.Weight.{IsWithinLimits}
use Rattle.nx_weights.proofs.LimitLemmas.{item_within, length_nodes}
use Rattle.nx_parts.specs.declared.bounds.Bound.{Bound}
use Rattle.nx_parts.specs.Minima.{AreMinimaIn}
use Rattle.nx_partition.specs.Bounding.{Extends}
use Rattle.nx_partition.proofs.BoundsLemmas.{longer, drop_prefix}
use Rattle.nx_partition.proofs.GrowLemmas.{IsGrown, grown_end, grown_all, behind_place}
use Rattle.nx_par.specs.declared.cut.Share.{Share}
use Rattle.nx_par.specs.declared.cut.TwoRows.{TwoRows}
use Rattle.nx_par.specs.Adding.{AreAll, ExtendsByAll, Settles, CanBound, AreTwoToBound}
use Rattle.nx_par.specs.Rows.{AreTwo}

same_at : {X : Type 0} (xs : List X) (i : ℕ) (d e : X) → i < length xs → get_or xs i d ≡ get_or xs i e
same_at [] i d e lt = absurd (omega arith)
same_at (x ∷ xs) zero d e lt = refl
same_at (x ∷ xs) (suc i) d e lt = same_at xs i d e (omega arith)

-- the children of a tree within the limits are within them
pub all_within : (tree : OrderedTree) (ts : List OrderedTree) → forest_of ts ≡ tree.below → IsWithinLimits tree → All IsWithinLimits ts
all_within tree ts forest limits = λ i d lt. item_within tree ts i (get_or ts i d) forest lt (same_at ts i d (get_or ts i d) lt) limits

-- a part of a list has what all of it has
pub all_take : {X : Type 0} (P : X → Type 0) (xs : List X) (n : ℕ) → All P xs → All P (take n xs)
all_take P xs n all = λ i d lt. front P xs n all i d lt
  where
    front : {X : Type 0} (P : X → Type 0) (xs : List X) (n : ℕ) → All P xs → (i : ℕ) (d : X) → i < length (take n xs) → P (get_or (take n xs) i d)
    front P xs zero all i d lt = absurd (omega arith)
    front P [] (suc n) all i d lt = absurd (omega arith)
    front P (x ∷ xs) (suc n) all zero d lt = all 0 d (omega arith)
    front P (x ∷ xs) (suc n) all (suc i) d lt = front P xs n (λ j e l. all (suc j) e (omega arith)) i d (omega arith)

pub all_drop : {X : Type 0} (P : X → Type 0) (xs : List X) (n : ℕ) → All P xs → All P (drop n xs)
all_drop P xs zero all = all
all_drop P [] (suc n) all = all
all_drop P (x ∷ xs) (suc n) all = all_drop P xs n (λ j e l. all (suc j) e (omega arith))

-- an answer that is good for more
pub on_ok : {T E : Type 0} (r : Result T E) (P Q : Type 0) → OnOk r P → (P → Q) → OnOk r Q
on_ok (Ok x) P Q h f = f h
on_ok (Err x) P Q h f = tt

-- where each answer was good, all are
pub all_ok : {Z Y : Type 0} (E : Type 0) (P : Z → Y → Type 0) (zs : List Z) (ys : List Y) → AllZip (λ z (r : Result Y E). IfOk r (P z)) zs (map Ok ys) → AllZip P zs ys
all_ok E P [] [] h = tt
all_ok E P [] (y ∷ ys) h = absurd h
all_ok E P (z ∷ zs) [] h = absurd h
all_ok E P (z ∷ zs) (y ∷ ys) h = (h.0, all_ok E P zs ys h.1)

-- how many nodes there are from a tree on
pub nodes_from : (ts : List OrderedTree) (n : ℕ) → nodes (forest_of (drop n ts)) ≤ nodes (forest_of ts)
nodes_from ts zero = omega arith
nodes_from [] (suc n) = omega arith
nodes_from (t ∷ ts) (suc n) = omega (arith, nodes_from ts n)

pub nodes_cut : (ts : List OrderedTree) (n : ℕ) → nodes (forest_of (take n ts)) + nodes (forest_of (drop n ts)) ≡ nodes (forest_of ts)
nodes_cut ts zero = omega arith
nodes_cut [] (suc n) = omega arith
nodes_cut (t ∷ ts) (suc n) = omega (arith, nodes_cut ts n)

-- the nodes of the trees from a place on are those of the tree there and of those behind it
pub nodes_next : (ts : List OrderedTree) (i : ℕ) (t : OrderedTree) → i < length ts → t ≡ get_or ts i t → nodes (forest_of (drop i ts)) ≡ 1 + nodes t.below + nodes (forest_of (drop (suc i) ts))
nodes_next [] i t lt is = absurd (omega arith)
nodes_next (x ∷ ts) zero t lt is = ap (λ (u : OrderedTree). 1 + nodes u.below + nodes (forest_of ts)) (sym is)
nodes_next (x ∷ ts) (suc i) t lt is = nodes_next ts i t (omega arith) is

-- where no tree has nodes below its root
pub nodes_alone : (ts : List OrderedTree) (n : ℕ) → length ts ≡ nodes (forest_of ts) → n ≤ length ts → nodes (forest_of (drop n ts)) ≡ length ts - n
nodes_alone ts n same le = omega (arith, same, le, nodes_cut ts n, length_nodes (take n ts), length_nodes (drop n ts), length-take n ts, length-drop n ts)

pub nodes_any : (ts : List OrderedTree) (n : ℕ) → n < length ts → 1 ≤ nodes (forest_of (drop n ts))
nodes_any [] n h = absurd (omega arith)
nodes_any (t ∷ ts) zero h = omega arith
nodes_any (t ∷ ts) (suc n) h = nodes_any ts n (omega arith)

-- where some trees are cut off, fewer nodes are left
pub fewer_front : (ts front : List OrderedTree) (n : ℕ) → front ≡ take n ts → n < length ts → nodes (forest_of front) < nodes (forest_of ts)
fewer_front ts front n f h = omega (arith, ap (λ l. nodes (forest_of l)) f, nodes_cut ts n, nodes_any ts n h)

pub fewer_back : (ts back : List OrderedTree) (n : ℕ) → back ≡ drop n ts → 1 ≤ n → n < length ts → nodes (forest_of back) < nodes (forest_of ts)
fewer_back [] back n f some h = absurd (omega arith)
fewer_back (t ∷ ts) back zero f some h = absurd (omega arith)
fewer_back (t ∷ ts) back (suc n) f some h = omega (arith, ap (λ l. nodes (forest_of l)) f, nodes_from ts n)

-- two rows of trees may be bounded where all may
pub two_to_bound : {k : ℕ} {share : Share} {ts : List OrderedTree} {two : TwoRows} → CanBound k share ts → AreTwo share ts two → AreTwoToBound k ts two
two_to_bound {k} {share} {ts} {two} can are =
    let n = two.at in
    record {
      some = are.some;
      more = are.more;
      front = record {
        row = record {
          some = can.row.some;
          bound = can.row.bound;
          numbers = subst (λ m. IfSome m (λ number. number + length (take n ts) ≤ 524288)) (sym are.front_first) (fewer share.first (length (take n ts)) (length ts) (omega (arith, length-take n ts, are.more)) can.row.numbers);
          limits = all_take IsWithinLimits ts n can.row.limits;
        };
        enough = are.front_workers;
        counted = omega (arith, can.counted, are.all_nodes, are.back_nodes, nodes_cut ts n);
        few = omega (arith, can.few, are.all_nodes);
      };
      back = record {
        row = record {
          some = can.row.some;
          bound = can.row.bound;
          numbers = subst (λ m. IfSome m (λ number. number + length (drop n ts) ≤ 524288)) (sym are.back_first) (further share.first n (length (drop n ts)) (length ts) (omega (arith, length-drop n ts, are.more)) can.row.numbers);
          limits = all_drop IsWithinLimits ts n can.row.limits;
        };
        enough = are.back_workers;
        counted = are.back_nodes;
        few = omega (arith, can.few, are.all_nodes);
      };
    }
  where
    fewer : (first : Option ℕ) (n m : ℕ) → n ≤ m → IfSome first (λ number. number + m ≤ 524288) → IfSome first (λ number. number + n ≤ 524288)
    fewer None n m le h = tt
    fewer (Some x) n m le h = omega (arith, le, h)

    further : (first : Option ℕ) (n back all : ℕ) → n + back ≤ all → IfSome first (λ number. number + all ≤ 524288) → IfSome (option_map (λ number. number + n) first) (λ number. number + back ≤ 524288)
    further None n back all le h = tt
    further (Some x) n back all le h = omega (arith, le, h)

-- the children of a tree may be bounded where it may
pub can_bound_children : (k : ℕ) (share : Share) (tree : OrderedTree) (ts : List OrderedTree) → forest_of ts ≡ tree.below → 1 ≤ k → k ≤ 256 → 1 ≤ share.workers → share.nodes ≡ nodes tree.below → IfSome share.first (λ number. number ≡ 0) → IsWithinLimits tree → CanBound k share ts
can_bound_children k share tree ts forest some bound enough counted none limits =
    let same : nodes (forest_of ts) ≡ nodes tree.below = ap nodes forest in
    let few : nodes (forest_of ts) ≤ 524288 = omega (arith, limits.few, same) in
    record {
      row = record {
        some = some;
        bound = bound;
        numbers = numbers share.first (length ts) none (omega (arith, length_nodes ts, few));
        limits = all_within tree ts forest limits;
      };
      enough = enough;
      counted = counted ∙ sym same;
      few = omega (arith, counted, same, few);
    }
  where
    numbers : (first : Option ℕ) (n : ℕ) → IfSome first (λ number. number ≡ 0) → n ≤ 524288 → IfSome first (λ number. number + n ≤ 524288)
    numbers None n none few = tt
    numbers (Some x) n none few = omega (arith, none, few)

-- a tree's minima, found by themselves
pub alone : {k : ℕ} {t : OrderedTree} {old new : List Bound} → Extends k t old new → ExtendsByAll k (t ∷ []) old new
alone e = record { bounds = e.bounds; added = e.added; minima = record { one_each = (let n = e.minima.one_each in omega arith); each = e.minima.each } }

-- the minima of all trees are those of the forest that they are
pub grown_at_once : {k : ℕ} {below : Forest} {ts : List OrderedTree} {old start new : List Bound} → forest_of ts ≡ below → start ≡ old → ExtendsByAll k ts start new → IsGrown k below Empty old new
grown_at_once {k} {below} {ts} {old} {start} {new} forest same a =
    record {
      bounds = a.bounds;
      added = a.added ∙ ap (λ l. l ++ a.bounds) same;
      all = λ others m. longer k below a.bounds others (subst (λ f. AreMinimaIn k f a.bounds) forest a.minima.each);
      count = omega (arith, a.minima.one_each, ap nodes forest);
    }

-- at the end there are those of all trees
pub grown_to_all : (k : ℕ) (ts : List OrderedTree) (old new : List Bound) → IsGrown k (forest_of ts) Empty old new → ExtendsByAll k ts old new
grown_to_all k ts old new g =
    let x = grown_end g in
    record { bounds = g.bounds; added = g.added; minima = record { one_each = x.1; each = x.0 } }

-- what a list that had nothing has grown by is all that it has
pub all_of_none : {k : ℕ} {ts : List OrderedTree} {new : List Bound} → ExtendsByAll k ts [] new → AreAll k ts new
all_of_none {k} {ts} e = subst (AreAll k ts) (sym e.added) e.minima

-- the place that is kept for the root's own is there, and behind it stands what was added
pub place_there : {k : ℕ} {forest : Forest} {now : List Bound} (old : List Bound) (none : Bound) (place : ℕ) → IsGrown k forest Empty (old ++ none ∷ []) now → place ≡ length old → place < length now
place_there old none place g e = omega (arith, ap length g.added, length-append (old ++ none ∷ []) g.bounds, length-append old (none ∷ []))

pub minima_behind : {k : ℕ} {forest : Forest} {now : List Bound} (old : List Bound) (none : Bound) (place : ℕ) → IsGrown k forest Empty (old ++ none ∷ []) now → place ≡ length old → AreMinimaIn k forest (drop (place + 1) now)
minima_behind {k} {forest} old none place g e = subst (AreMinimaIn k forest) (sym (behind_place old none place g e)) (grown_end g).0

pub settled : {k : ℕ} {tree : OrderedTree} {now new : List Bound} (old : List Bound) (none : Bound) (place : ℕ) → IsGrown k tree.below Empty (old ++ none ∷ []) now → place ≡ length old → Settles k tree place now new → Extends k tree old new
settled {k} {tree} old none place g e s = subst (Extends k tree old) (sym s.is) (grown_all old none place s.bound g e s.minima)

-- the minima of some trees, and then those of the others
pub all_append : (k : ℕ) (ts us : List OrderedTree) (bs cs : List Bound) → AreAll k ts bs → AreAll k us cs → AreAll k (ts ++ us) (bs ++ cs)
all_append k ts us bs cs a b =
    record {
      one_each = omega (arith, a.one_each, b.one_each, length-append bs cs, nodes_append ts us);
      each = each_append k ts us bs cs a.one_each a.each b.each;
    }
  where
    nodes_append : (ts us : List OrderedTree) → nodes (forest_of (ts ++ us)) ≡ nodes (forest_of ts) + nodes (forest_of us)
    nodes_append [] us = omega arith
    nodes_append (t ∷ ts) us = omega (arith, nodes_append ts us)

    drop_count : {X : Type 0} (n m : ℕ) (xs : List X) → length xs ≡ n + m → length (drop n xs) ≡ m
    drop_count zero m xs h = omega arith
    drop_count (suc n) m [] h = absurd (omega arith)
    drop_count (suc n) m (x ∷ xs) h = drop_count n m xs (omega arith)

    each_append : (k : ℕ) (ts us : List OrderedTree) (bs cs : List Bound) → length bs ≡ nodes (forest_of ts) → AreMinimaIn k (forest_of ts) bs → AreMinimaIn k (forest_of us) cs → AreMinimaIn k (forest_of (ts ++ us)) (bs ++ cs)
    each_append k [] us [] cs n a b = b
    each_append k [] us (x ∷ bs) cs n a b = absurd (omega arith)
    each_append k (t ∷ ts) us [] cs n a b = absurd a
    each_append k (t ∷ ts) us (x ∷ bs) cs n a b =
        let enough : nodes t.below ≤ length bs = omega (arith, n) in
        let same = drop_prefix (nodes t.below) bs cs enough in
        let left : length (drop (nodes t.below) bs) ≡ nodes (forest_of ts) = drop_count (nodes t.below) (nodes (forest_of ts)) bs (omega (arith, n)) in (
          a.0,
          longer k t.below bs cs a.1,
          subst (AreMinimaIn k (forest_of (ts ++ us))) (sym same) (each_append k ts us (drop (nodes t.below) bs) cs left a.2 b),
        )

-- the list has grown by the minima of some trees, and then by those of the others
pub extends_joined : {k : ℕ} {old now new : List Bound} (ts : List OrderedTree) (cut : ℕ) {front back : List OrderedTree} → front ≡ take cut ts → back ≡ drop cut ts → ExtendsByAll k front old now → ExtendsByAll k back now new → ExtendsByAll k ts old new
extends_joined {k} {old} {now} {new} ts cut {front} {back} f g a b =
    let whole : front ++ back ≡ ts = ap (λ l. l ++ back) f ∙ ap (λ l. take cut ts ++ l) g ∙ take-append-drop cut ts in
    subst (λ l. ExtendsByAll k l old new) whole (record {
      bounds = a.bounds ++ b.bounds;
      added = b.added ∙ ap (λ l. l ++ b.bounds) a.added ∙ append_assoc old a.bounds b.bounds;
      minima = all_append k front back a.bounds b.bounds a.minima b.minima;
    })

pub all_behind : {k : ℕ} {ts us : List OrderedTree} {old now new : List Bound} (more : List Bound) → ExtendsByAll k ts old now → AreAll k us more → new ≡ now ++ more → ExtendsByAll k (ts ++ us) old new
all_behind {k} {ts} {us} {old} {now} {new} more a b e =
    record {
      bounds = a.bounds ++ more;
      added = e ∙ ap (λ l. l ++ more) a.added ∙ append_assoc old a.bounds more;
      minima = all_append k ts us a.bounds more a.minima b;
    }

pub rows_joined : {k : ℕ} {old low new : List Bound} (ts : List OrderedTree) (cut : ℕ) {front back : List OrderedTree} (high : List Bound) → front ≡ take cut ts → back ≡ drop cut ts → ExtendsByAll k front old low → ExtendsByAll k back [] high → new ≡ low ++ high → ExtendsByAll k ts old new
rows_joined {k} {old} {low} {new} ts cut {front} {back} high f g a b e =
    let whole : front ++ back ≡ ts = ap (λ l. l ++ back) f ∙ ap (λ l. take cut ts ++ l) g ∙ take-append-drop cut ts in
    subst (λ l. ExtendsByAll k l old new) whole (all_behind high a (all_of_none b) e)
