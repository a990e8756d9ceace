-- A walk over the children that follows a choice, and what it has written so far.
use Rattle.std.proofs.Common.{◌≡◌, ℕ, suc, ◌+◌, ◌-◌, ◌≤◌, Bool, false, List, [], ◌∷◌, ◌++◌, length, take, drop, refl, sym, ap, subst, ◌∙◌, arith, append_assoc, length-append}
use Rattle.std.proofs.lemmas.List.{append-nil, drop-drop, take_at}
use Rattle.nx_tree.specs.Forest.{OrderedTree, Forest, Empty, Plant, forest_of, nodes}
use Rattle.nx_weights.specs.Weight.{weight}
use Rattle.nx_parts.specs.declared.bounds.Bound.{Bound}
use Rattle.nx_parts.specs.declared.interval.Interval.{Interval}
use Rattle.nx_parts.specs.Minima.{IsMinima, AreMinimaIn}
use Rattle.nx_choices.specs.declared.child.Stand.{Stand}
use Rattle.nx_choices.specs.Stand.{takes_second, IsChoice}
use Rattle.nx_cuts.specs.Cut.{CutTree, intervals}
use Rattle.nx_cuts.proofs.NumberLemmas.{same_drawn}
use Rattle.nx_cuts.proofs.FeasibleLemmas.{length-intervals}
use Rattle.nx_minima.specs.Drawing.{forest_under}
use Rattle.nx_minima.specs.Seen.{seen, tops}
use Rattle.nx_minima.proofs.ReachLemmas.{same_reaches}
use Rattle.nx_partition.specs.Planning.{first_bound, number_in, weight_in, interval_begun, AddsDrawing}
use Rattle.nx_partition.proofs.Formed.{AreFormed, listed}
use Rattle.nx_partition.proofs.PlanLemmas.{planned}

nothing_cut : (l : List Interval) → length l ≡ 0 → l ≡ []
nothing_cut [] e = refl
nothing_cut (x ∷ l) e = absurd (omega arith)

-- where one interval is enough, none stands below the root
pub uncut : (k : ℕ) (tree : OrderedTree) (bound : Bound) (path : List ℕ) (old : List Interval) → IsMinima k tree bound → bound.least ≡ 1 → AddsDrawing k tree false bound path old old
uncut k tree bound path old m one =
    let l = m.lean in
    let s = same_drawn k tree l.one l.holds.0 in
    let as_many = l.holds.1 in
    let none = nothing_cut (intervals path 0 s.drawn.below) (omega (arith, length-intervals path 0 s.drawn.below, s.as_many, as_many, one)) in
    record {
      drawn = s.drawn;
      tree_is = s.tree_is;
      reaches = same_reaches k bound.least bound.lean tree l.one s (omega (arith, as_many)) (omega (arith, l.reached));
      added = sym (append-nil old) ∙ ap (λ l. old ++ l) (sym none);
    }

-- the bounds of a tree before those of the trees beside it
pub record AreParted (k : ℕ) (t : OrderedTree) (beside : Forest) (bounds : List Bound) : Type 0 where
  pub here : AreMinimaIn k (Plant t.node t.below Empty) bounds
  pub rest : AreMinimaIn k beside (drop (1 + nodes t.below) bounds)
  pub own : tops (Plant t.node t.below beside) bounds ≡ first_bound bounds ∷ tops beside (drop (1 + nodes t.below) bounds)

pub parted : (k : ℕ) (t : OrderedTree) (beside : Forest) (bounds : List Bound) → AreMinimaIn k (Plant t.node t.below beside) bounds → AreParted k t beside bounds
parted k t beside [] m = absurd m
parted k t beside (bound ∷ bounds) m =
    let n : suc (nodes t.below) ≡ 1 + nodes t.below = omega arith in
    let same : drop (nodes t.below) bounds ≡ drop (1 + nodes t.below) (bound ∷ bounds) = ap (λ j. drop j (bound ∷ bounds)) n in
    record { here = (m.0, m.1, tt); rest = subst (AreMinimaIn k beside) same m.2; own = ap (λ bs. bound ∷ tops beside bs) same }

-- What a walk over the trees of a forest below the node at a path has to do: the trees have these minima and are to stand so, and the list has these intervals before.
pub record Course : Type 0 where
  pub k : ℕ
  pub forest : Forest
  pub path : List ℕ
  pub stands : List Stand
  pub own : List Bound
  pub old : List Interval

-- It has drawn the first trees and written their intervals; `rest` are the other trees, which stand as `left` says and begin at the position.
pub record IsWalked (c : Course) (rest : Forest) (left : List Stand) (bounds : List Bound) (position : ℕ) (now : List Interval) : Type 0 where
  pub trees : List CutTree
  pub formed : (others : List CutTree) → AreFormed c.k left (tops rest bounds) others → AreFormed c.k c.stands c.own (trees ++ others)
  pub same : (others : List CutTree) → forest_under others ≡ rest → forest_under (trees ++ others) ≡ c.forest
  pub added : (others : List CutTree) → now ++ listed c.path position left others ≡ c.old ++ listed c.path 0 c.stands (trees ++ others)
  pub minima : AreMinimaIn c.k rest bounds

pub walked_start : (c : Course) (bounds : List Bound) → AreMinimaIn c.k c.forest bounds → tops c.forest bounds ≡ c.own → IsWalked c c.forest c.stands bounds 0 c.old
walked_start c bounds m e =
    record { trees = []; formed = λ others h. subst (λ l. AreFormed c.k c.stands l others) e h; same = λ others f. f; added = λ others. refl; minima = m }

pub walked_more : {c : Course} {rest : Forest} {left : List Stand} {bounds next : List Bound} {position : ℕ} {now mid new : List Interval} (t : OrderedTree) (stand : Stand)
    → IsWalked c (Plant t.node t.below rest) (stand ∷ left) bounds position now → mid ≡ now ++ interval_begun c.path position stand
    → AddsDrawing c.k t (takes_second stand) (first_bound bounds) (c.path ++ position ∷ []) mid new → drop (1 + nodes t.below) bounds ≡ next → IsWalked c rest left next (position + 1) new
walked_more {c} {rest} {left} {bounds} {next} {position} {now} {mid} {new} t stand w opens p jump =
    let q = parted c.k t rest bounds w.minima in
    let own : tops (Plant t.node t.below rest) bounds ≡ first_bound bounds ∷ tops rest next = q.own ∙ ap (λ bs. first_bound bounds ∷ tops rest bs) jump in
    let inner = intervals (c.path ++ position ∷ []) 0 p.drawn.below in
    let wrote : new ≡ now ++ (interval_begun c.path position stand ++ inner) = p.added ∙ ap (λ l. l ++ inner) opens ∙ append_assoc now (interval_begun c.path position stand) inner in
    record {
      trees = w.trees ++ p.drawn ∷ [];
      formed = λ others h.
          subst (AreFormed c.k c.stands c.own) (sym (append_assoc w.trees (p.drawn ∷ []) others))
          (w.formed (p.drawn ∷ others) (subst (λ l. AreFormed c.k (stand ∷ left) l (p.drawn ∷ others)) (sym own) (p.reaches, h)));
      same = λ others f.
          ap forest_under (append_assoc w.trees (p.drawn ∷ []) others)
          ∙ w.same (p.drawn ∷ others) (ap (λ (u : OrderedTree). Plant u.node u.below (forest_under others)) p.tree_is ∙ ap (Plant t.node t.below) f);
      added = λ others.
          let tail = listed c.path (position + 1) left others in
          ap (λ l. l ++ tail) wrote
          ∙ append_assoc now (interval_begun c.path position stand ++ inner) tail
          ∙ w.added (p.drawn ∷ others)
          ∙ ap (λ l. c.old ++ listed c.path 0 c.stands l) (sym (append_assoc w.trees (p.drawn ∷ []) others));
      minima = subst (AreMinimaIn c.k rest) jump q.rest;
    }

-- The same by an index of the children and the place of the next tree's bounds, where the walk stands at the path.
pub record IsWalkedTo (c : Course) (ts : List OrderedTree) (bounds : List Bound) (i next : ℕ) (path : List ℕ) (now : List Interval) : Type 0 where
  pub walked : IsWalked c (forest_of (drop i ts)) (drop i c.stands) (drop next bounds) i now
  pub same_path : path ≡ c.path
  pub left : next + nodes (forest_of (drop i ts)) ≡ 1 + nodes c.forest

pub walked_to_start : (c : Course) (ts : List OrderedTree) (bounds : List Bound) → AreMinimaIn c.k c.forest (drop 1 bounds) → tops c.forest (drop 1 bounds) ≡ c.own → forest_of ts ≡ c.forest → IsWalkedTo c ts bounds 0 1 c.path c.old
walked_to_start c ts bounds m e f =
    record {
      walked = subst (λ (g : Forest). IsWalked c g c.stands (drop 1 bounds) 0 c.old) (sym f) (walked_start c (drop 1 bounds) m e);
      same_path = refl;
      left = omega (arith, ap nodes f);
    }

-- the next tree's bounds, and that of the walk behind it
pub walked_to_next : {c : Course} {ts : List OrderedTree} {bounds : List Bound} {i next : ℕ} {path : List ℕ} {now : List Interval} (t : OrderedTree) → IsWalkedTo c ts bounds i next path now → drop i ts ≡ t ∷ drop (i + 1) ts
    → AreMinimaIn c.k (Plant t.node t.below Empty) (drop next bounds) × (next + 1 + nodes t.below ≤ 1 + nodes c.forest)
walked_to_next {c} {ts} {bounds} {i} {next} t w e =
    let d = ap (λ (xs : List OrderedTree). nodes (forest_of xs)) e in (
      (parted c.k t (forest_of (drop (i + 1) ts)) (drop next bounds) (subst (λ (xs : List OrderedTree). AreMinimaIn c.k (forest_of xs) (drop next bounds)) e w.walked.minima)).here,
      omega (arith, w.left, d),
    )

pub walked_to_more : {c : Course} {ts : List OrderedTree} {bounds : List Bound} {i next n : ℕ} {path longer shorter : List ℕ} {now mid new : List Interval} (t : OrderedTree) (stand : Stand)
    → IsWalkedTo c ts bounds i next path now → (drop i ts ≡ t ∷ drop (i + 1) ts) × (drop i c.stands ≡ stand ∷ drop (i + 1) c.stands) × (n ≡ 1 + nodes t.below)
    → mid ≡ now ++ interval_begun path i stand → longer ≡ path ++ i ∷ [] → AddsDrawing c.k t (takes_second stand) (first_bound (drop next bounds)) longer mid new → shorter ≡ path
    → IsWalkedTo c ts bounds (i + 1) (next + n) shorter new
walked_to_more {c} {ts} {bounds} {i} {next} {n} {path} {longer} {shorter} {now} {mid} {new} t stand w e opens push p pop =
    let d = ap (λ (xs : List OrderedTree). nodes (forest_of xs)) e.0 in
    let size = e.2 in
    let here = subst (λ (xs : List OrderedTree). IsWalked c (forest_of xs) (drop i c.stands) (drop next bounds) i now) e.0 w.walked in
    let there = subst (λ l. IsWalked c (Plant t.node t.below (forest_of (drop (i + 1) ts))) l (drop next bounds) i now) e.1 here in
    record {
      walked = walked_more t stand there (opens ∙ ap (λ l. now ++ interval_begun l i stand) w.same_path)
          (subst (λ l. AddsDrawing c.k t (takes_second stand) (first_bound (drop next bounds)) l mid new) (push ∙ ap (λ l. l ++ i ∷ []) w.same_path) p)
          (drop-drop (1 + nodes t.below) next bounds ∙ ap (λ m. drop (next + m) bounds) (sym size));
      same_path = pop ∙ w.same_path;
      left = omega (arith, w.left, d, size);
    }

-- at the end the whole tree is drawn
pub walked_end : {k : ℕ} {tree : OrderedTree} {second : Bool} {bound : Bound} {path now_path : List ℕ} {bounds : List Bound} {stands : List Stand} {old now : List Interval} {next : ℕ} (own : List Bound) (ts : List OrderedTree) (i : ℕ)
    → IsChoice k (weight tree.node) (number_in second bound) (weight_in second bound) (seen own) stands
    → IsWalkedTo (record { k = k; forest = tree.below; path = path; stands = stands; own = own; old = old }) ts bounds i next now_path now → drop i ts ≡ [] → drop i stands ≡ [] → AddsDrawing k tree second bound path old now
walked_end {k} {tree} {path = path} {bounds = bounds} {stands = stands} {old = old} {now = now} {next = next} own ts i c w none no_stand =
    let course : Course = record { k = k; forest = tree.below; path = path; stands = stands; own = own; old = old } in
    let here = subst (λ (xs : List OrderedTree). IsWalked course (forest_of xs) (drop i stands) (drop next bounds) i now) none w.walked in
    let there = subst (λ l. IsWalked course Empty l (drop next bounds) i now) no_stand here in
    planned own (there.trees ++ []) c (there.formed [] tt) (there.same [] refl) (sym (append-nil now) ∙ there.added [])

-- a path with its last position taken off
pub popped : {path longer shorter : List ℕ} (position n : ℕ) → longer ≡ path ++ position ∷ [] → n ≡ length longer → shorter ≡ take (n - 1) longer → shorter ≡ path
popped {path} {longer} {shorter} position n e len s =
    let l = ap length e in
    s ∙ ap (take (n - 1)) e ∙ take_at path (position ∷ []) (n - 1) (omega (arith, len, l, length-append path (position ∷ [])))
