-- A sketch with its intervals drawn in is a plan.
use Rattle.std.proofs.Common.{◌≡◌, ℕ, ◌+◌, ◌<◌, ◌≤◌, IsTrue, List, [], ◌∷◌, ◌++◌, length, get_or, Option, None, Some, refl, sym, ap, subst, ◌∙◌, arith, append_assoc, inl, inr}
use Rattle.std.specs.Prelude.{Contains}
use Rattle.std.specs.List.{AllByRecursion}
use Rattle.std.specs.Option.{option_or}
use Rattle.std.proofs.lemmas.Bool.{cases_lt}
use Rattle.std.proofs.lemmas.List.Elements.{All-contains, All-from_recursion, Contains-append_left, Contains-append_right, Contains-get_or}
use Rattle.std.proofs.lemmas.List.Quantifiers.{position-Some}
use Rattle.nx_lists.proofs.ListLemmas.{contains_here, contains_there}
use Rattle.nx_matrix.specs.declared.rule.Entry.{Entry}
use Rattle.nx_matrix.specs.declared.rule.Entry.TheVariants.{Standalone, Cluster, Free}
use Rattle.nx_parts.specs.declared.interval.Interval.{Interval}
use Rattle.nx_parts.specs.declared.interval.Interval.TheVariants.{Root, Run}
use Rattle.nx_parts.specs.Order.{AreInOrder}
use Rattle.nx_parts.specs.Partitioning.{has_member, ShareMember, holder, owner}
use Rattle.nx_parts.proofs.OwnerLemmas.{owner-longer}
use Rattle.nx_cuts.proofs.PairLemmas.{all_pairs, both, weaker}
use Rattle.nx_cuts.proofs.FeasibleLemmas.{deeper}
use Rattle.nx_division.specs.declared.cut.Cut.{Cut}
use Rattle.nx_division.specs.declared.cut.Cut.TheVariants.{Stays, Begins, GoesOn}
use Rattle.nx_sketch.specs.Sketch.{Placed, placed, placed_in}
use Rattle.nx_sketch.specs.Plan.{HasNodeAt, IsInside, IsPlanOfPart, IsFeasiblePlan, KeepsClusters}
use Rattle.nx_division.specs.Drawn.{Drawn, Bare, Grown, bare, end_position, drawn_intervals, interval_count, heaviest, Rises, IsSoundDrawing, opened, NoneStays, AreKept}
use Rattle.nx_division.proofs.LookLemmas.{Comes, sorted}
use Rattle.nx_division.proofs.NumberLemmas.{IsNumbered, none_some, some_same, open_end, length-drawn_intervals}
use Rattle.nx_division.proofs.WeightLemmas.{IsWhole, whole_apart, whole_numbered, whole_weight, weight-most, weight-heaviest}

pub all_of : {X : Type 0} (P : X → Type 0) (xs : List X) → AllByRecursion P xs → (x : X) → Contains xs x → P x
all_of P xs a x c = All-contains P xs x (All-from_recursion P xs a) c

-- the nodes stand below the one at the path
pub placed_from : (low : ℕ) (path : List ℕ) (d : Drawn) → Rises low d → AllByRecursion (λ (node : Placed). (step : ℕ) × (way : List ℕ) × (node.path ≡ path ++ step ∷ way) × (low ≤ step)) (placed_in path (bare d))
placed_from low path Bare r = tt
placed_from low path (Grown p w e cut b s) r = (
  (p, [], refl, r.0),
  both _ (placed_in (path ++ p ∷ []) (bare b)) (placed_in path (bare s))
      (weaker _ (placed_in (path ++ p ∷ []) (bare b)) (λ node f. (p, f.0 ∷ f.1, f.2 ∙ append_assoc path (p ∷ []) (f.0 ∷ f.1), r.0)) (placed_from 0 (path ++ p ∷ []) b r.1))
      (weaker _ (placed_in path (bare s)) (λ node f. (f.0, f.1, f.2, (let far = f.3 in let near = r.0 in omega arith))) (placed_from (p + 1) path s r.2)),
)

row_placed : (path : List ℕ) (last i : ℕ) (s : Drawn) → IsSoundDrawing (Some last) s → last < i → i ≤ end_position last s → HasNodeAt (placed_in path (bare s)) (path ++ i ∷ [])
row_placed path last i Bare h a b = absurd (omega arith)
row_placed path last i (Grown p w e Stays x s) h a b = absurd (omega arith)
row_placed path last i (Grown p w e Begins x s) h a b = absurd (omega arith)
row_placed path last i (Grown p w e GoesOn x s) h a b = elim (cases_lt p i) [
  | inl lt ↦
      let f = row_placed path p i s h.5 lt b in
      (f.0, contains_there _ (placed_in (path ++ p ∷ []) (bare x) ++ placed_in path (bare s)) f.0 (Contains-append_right (placed_in (path ++ p ∷ []) (bare x)) (placed_in path (bare s)) f.0 f.1), f.2)
  | inr ge ↦
      let last_same : last ≡ h.0 = some_same h.1 in
      let next = h.2 in
      let same : p ≡ i = omega arith in
      let node : Placed = record { path = path ++ p ∷ []; weight = w; entry = e } in
      (node, contains_here node (placed_in (path ++ p ∷ []) (bare x) ++ placed_in path (bare s)) node refl, ap (λ j. path ++ j ∷ []) same)
]

pub alone_end : (p : ℕ) (s : Drawn) → IsSoundDrawing None s → end_position p s ≡ p
alone_end p Bare h = refl
alone_end p (Grown q w e Stays b s) h = refl
alone_end p (Grown q w e Begins b s) h = refl
alone_end p (Grown q w e GoesOn b s) h = absurd (none_some h.1)

opened_placed : (path : List ℕ) (e : Entry) (p i : ℕ) (s : Drawn) → IsSoundDrawing (opened e p) s → p < i → i ≤ end_position p s → HasNodeAt (placed_in path (bare s)) (path ++ i ∷ [])
opened_placed path Standalone p i s h a b = absurd (let x = alone_end p s h in omega arith)
opened_placed path Cluster p i s h a b = row_placed path p i s h a b
opened_placed path Free p i s h a b = row_placed path p i s h a b

-- what stands in a stretch of the nodes stands among all of them
abbrev pub AreAmong : {X : Type 0} → List X → List X → Type 0
AreAmong {X} xs whole = (x : X) → Contains xs x → Contains whole x

begun_inside : (whole : List Placed) (path : List ℕ) (p w : ℕ) (e : Entry) (b s : Drawn) → IsSoundDrawing (opened e p) s → AreAmong (placed_in path (bare (Grown p w e Begins b s))) whole → IsInside whole (Run path p (end_position p s))
begun_inside whole path p w e b s h among = (
  open_end e p s h,
  (λ i low high. elim (cases_lt p i) [
    | inl lt ↦
        let f = opened_placed path e p i s h lt high in
        (f.0, among f.0 (contains_there _ (placed_in (path ++ p ∷ []) (bare b) ++ placed_in path (bare s)) f.0 (Contains-append_right (placed_in (path ++ p ∷ []) (bare b)) (placed_in path (bare s)) f.0 f.1)), f.2)
    | inr ge ↦
        let same : p ≡ i = omega arith in
        let node : Placed = record { path = path ++ p ∷ []; weight = w; entry = e } in
        (node, among node (contains_here node (placed_in (path ++ p ∷ []) (bare b) ++ placed_in path (bare s)) node refl), ap (λ j. path ++ j ∷ []) same)
  ]),
)

pub among_below : (whole : List Placed) (path : List ℕ) (p w : ℕ) (e : Entry) (cut : Cut) (b s : Drawn) → AreAmong (placed_in path (bare (Grown p w e cut b s))) whole → AreAmong (placed_in (path ++ p ∷ []) (bare b)) whole
among_below whole path p w e cut b s among x c = among x (contains_there _ (placed_in (path ++ p ∷ []) (bare b) ++ placed_in path (bare s)) x (Contains-append_left (placed_in (path ++ p ∷ []) (bare b)) (placed_in path (bare s)) x c))

pub among_beside : (whole : List Placed) (path : List ℕ) (p w : ℕ) (e : Entry) (cut : Cut) (b s : Drawn) → AreAmong (placed_in path (bare (Grown p w e cut b s))) whole → AreAmong (placed_in path (bare s)) whole
among_beside whole path p w e cut b s among x c = among x (contains_there _ (placed_in (path ++ p ∷ []) (bare b) ++ placed_in path (bare s)) x (Contains-append_right (placed_in (path ++ p ∷ []) (bare b)) (placed_in path (bare s)) x c))

-- the intervals are rows of nodes
pub all_inside : (whole : List Placed) (before : Option ℕ) (path : List ℕ) (d : Drawn) → IsSoundDrawing before d → AreAmong (placed_in path (bare d)) whole → AllByRecursion (IsInside whole) (drawn_intervals path d)
all_inside whole before path Bare h among = tt
all_inside whole before path (Grown p w e Stays b s) h among =
    both (IsInside whole) (drawn_intervals (path ++ p ∷ []) b) (drawn_intervals path s)
    (all_inside whole None (path ++ p ∷ []) b h.1 (among_below whole path p w e Stays b s among)) (all_inside whole None path s h.2 (among_beside whole path p w e Stays b s among))
all_inside whole before path (Grown p w e Begins b s) h among = (
  begun_inside whole path p w e b s h.1 among,
  both (IsInside whole) (drawn_intervals (path ++ p ∷ []) b) (drawn_intervals path s)
      (all_inside whole None (path ++ p ∷ []) b h.0 (among_below whole path p w e Begins b s among)) (all_inside whole (opened e p) path s h.1 (among_beside whole path p w e Begins b s among)),
)
all_inside whole before path (Grown p w e GoesOn b s) h among =
    both (IsInside whole) (drawn_intervals (path ++ p ∷ []) b) (drawn_intervals path s)
    (all_inside whole None (path ++ p ∷ []) b h.4 (among_below whole path p w e GoesOn b s among)) (all_inside whole (Some p) path s h.5 (among_beside whole path p w e GoesOn b s among))

-- the place of the holder of a node below the one at the path, where there is one
abbrev pub IsRowHeld : (List ℕ → Option ℕ) → List ℕ → Placed → Type 0
IsRowHeld h path node = (i : ℕ) → node.path ≡ path ++ i ∷ [] → (place : ℕ) × (h (path ++ i ∷ []) ≡ Some place)

held_here : (h : List ℕ → Option ℕ) (path : List ℕ) (p w place : ℕ) (e : Entry) → h (path ++ p ∷ []) ≡ Some place → IsRowHeld h path (record { path = path ++ p ∷ []; weight = w; entry = e })
held_here h path p w place e is i same = (place, ap h (sym same) ∙ is)

not_row : (h : List ℕ → Option ℕ) (path : List ℕ) (p : ℕ) (b : Drawn) → Rises 0 b → AllByRecursion (IsRowHeld h path) (placed_in (path ++ p ∷ []) (bare b))
not_row h path p b r = weaker _ (placed_in (path ++ p ∷ []) (bare b)) (λ node f i same. absurd (deeper path i p f.0 f.1 (sym same ∙ f.2 ∙ append_assoc path (p ∷ []) (f.0 ∷ f.1)))) (placed_from 0 (path ++ p ∷ []) b r)

row_held : (h : List ℕ → Option ℕ) (run base low : ℕ) (path : List ℕ) (d : Drawn) → Rises low d → IsNumbered h run base path d → NoneStays d → AllByRecursion (IsRowHeld h path) (placed_in path (bare d))
row_held h run base low path Bare r n m = tt
row_held h run base low path (Grown p w e Stays b s) r n m = absurd m
row_held h run base low path (Grown p w e Begins b s) r n m = (
  held_here h path p w base e n.0,
  both _ (placed_in (path ++ p ∷ []) (bare b)) (placed_in path (bare s)) (not_row h path p b r.1) (row_held h base (base + 1 + interval_count b) (p + 1) path s r.2 n.2 m),
)
row_held h run base low path (Grown p w e GoesOn b s) r n m = (
  held_here h path p w run e n.0,
  both _ (placed_in (path ++ p ∷ []) (bare b)) (placed_in path (bare s)) (not_row h path p b r.1) (row_held h run (base + interval_count b) (p + 1) path s r.2 n.2 m),
)

-- the holder of a node is an interval that has it as a member
pub holder_member : (parts : List Interval) (q : List ℕ) (place : ℕ) → holder parts q ≡ Some place → (d : Interval) → Contains parts (get_or parts place d) × IsTrue (has_member (get_or parts place d) q) × (place < length parts)
holder_member parts q place is d = let f = position-Some (λ x. has_member x q) parts place d is in (Contains-get_or parts place d f.0, f.1, f.0)

pub last_same : (u v : List ℕ) (i j : ℕ) → u ++ i ∷ [] ≡ v ++ j ∷ [] → (u ≡ v) × (i ≡ j)
last_same [] [] i j e = (refl, (cc))
last_same [] (y ∷ []) i j e = absurd (cc)
last_same [] (y ∷ z ∷ v) i j e = absurd (cc)
last_same (x ∷ []) [] i j e = absurd (cc)
last_same (x ∷ z ∷ u) [] i j e = absurd (cc)
last_same (x ∷ u) (y ∷ v) i j e =
    let head : x ≡ y = cc in
    let tail : u ++ i ∷ [] ≡ v ++ j ∷ [] = cc in
    let rest = last_same u v i j tail in
    ((λ k. head k ∷ rest.0 k), rest.1)

-- a standalone node is an interval alone
abbrev pub StandsAlone : List Interval → Placed → Type 0
StandsAlone parts node = node.entry ≡ Standalone → (parent : List ℕ) (i : ℕ) → node.path ≡ parent ++ i ∷ [] → Contains parts (Run parent i i)

stands_alone : (parts : List Interval) (before : Option ℕ) (path : List ℕ) (d : Drawn) → IsSoundDrawing before d → AreAmong (drawn_intervals path d) parts → AllByRecursion (StandsAlone parts) (placed_in path (bare d))
stands_alone parts before path Bare h among = tt
stands_alone parts before path (Grown p w e Stays b s) h among = (
  (λ is parent i same. absurd (h.0 is)),
  both _ (placed_in (path ++ p ∷ []) (bare b)) (placed_in path (bare s))
      (stands_alone parts None (path ++ p ∷ []) b h.1 (λ x c. among x (Contains-append_left (drawn_intervals (path ++ p ∷ []) b) (drawn_intervals path s) x c)))
      (stands_alone parts None path s h.2 (λ x c. among x (Contains-append_right (drawn_intervals (path ++ p ∷ []) b) (drawn_intervals path s) x c))),
)
stands_alone parts before path (Grown p w e Begins b s) h among =
    let rest = drawn_intervals (path ++ p ∷ []) b ++ drawn_intervals path s in
    let x = Run path p (end_position p s) in (
      (λ is parent i same.
          let l = last_same path parent p i same in
          let end : end_position p s ≡ p = alone_end p s (subst (λ f. IsSoundDrawing (opened f p) s) is h.1) in
          let run : Run path p (end_position p s) ≡ Run parent i i = ap (λ j. Run path p j) end ∙ (λ k. Run (l.0 k) (l.1 k) (l.1 k)) in
          subst (Contains parts) run (among x (contains_here x rest x refl))),
      both _ (placed_in (path ++ p ∷ []) (bare b)) (placed_in path (bare s))
          (stands_alone parts None (path ++ p ∷ []) b h.0 (λ y c. among y (contains_there x rest y (Contains-append_left (drawn_intervals (path ++ p ∷ []) b) (drawn_intervals path s) y c))))
          (stands_alone parts (opened e p) path s h.1 (λ y c. among y (contains_there x rest y (Contains-append_right (drawn_intervals (path ++ p ∷ []) b) (drawn_intervals path s) y c)))),
    )
stands_alone parts before path (Grown p w e GoesOn b s) h among = (
  (λ is parent i same. absurd (h.3 is)),
  both _ (placed_in (path ++ p ∷ []) (bare b)) (placed_in path (bare s))
      (stands_alone parts None (path ++ p ∷ []) b h.4 (λ x c. among x (Contains-append_left (drawn_intervals (path ++ p ∷ []) b) (drawn_intervals path s) x c)))
      (stands_alone parts (Some p) path s h.5 (λ x c. among x (Contains-append_right (drawn_intervals (path ++ p ∷ []) b) (drawn_intervals path s) x c))),
)

-- a sketch with its intervals drawn in, in which no root stays with the helper, is a plan
pub drawn_plan : (d : Drawn) → IsWhole d → NoneStays d → IsPlanOfPart (placed (bare d)) (drawn_intervals [] d)
drawn_plan d h m =
    let parts = drawn_intervals [] d in
    let nodes = placed (bare d) in
    record {
      inside = All-from_recursion (IsInside nodes) parts (all_inside nodes None [] d h.sound (λ x c. c));
      disjoint = all_pairs (λ a b. ¬ ShareMember a b) parts (whole_apart d h);
      rooted = λ i at.
          let f = all_of (IsRowHeld (holder parts) []) nodes (row_held (holder parts) 0 0 0 [] d h.rises (whole_numbered d h) m) at.0 at.1 i at.2 in
          let g = holder_member parts (i ∷ []) f.0 f.1 Root in (get_or parts f.0 Root, g.0, g.1);
      alone = λ parent i has. all_of (StandsAlone parts) nodes (stands_alone parts None [] d h.sound (λ x c. c)) has.0 has.1 has.3 parent i has.2;
    }

pub drawn_order : (d : Drawn) → IsWhole d → AreInOrder (drawn_intervals [] d)
drawn_order d h = all_pairs Comes (drawn_intervals [] d) (sorted 0 [] d h.rises)

pub drawn_feasible : (k : ℕ) (d : Drawn) → IsWhole d → NoneStays d → heaviest d ≤ k → IsFeasiblePlan k (placed (bare d)) (drawn_intervals [] d)
drawn_feasible k d h m light = record { plan = drawn_plan d h m; light = λ index lt. omega (arith, whole_weight d h index, weight-most index 0 d) }

pub drawn_heavy : (k : ℕ) (d : Drawn) → IsWhole d → k < heaviest d → ¬ IsFeasiblePlan k (placed (bare d)) (drawn_intervals [] d)
drawn_heavy k d h heavy f =
    let g = weight-heaviest k 0 d heavy in
    let n = length-drawn_intervals [] d in
    let lt = g.1 in
    let more = g.2 in
    omega (arith, whole_weight d h g.0, f.light g.0 (omega arith))

-- cluster children aren't held
abbrev pub IsKeptNode : (List ℕ → Option ℕ) → Placed → Type 0
IsKeptNode h node = node.entry ≡ Cluster → h node.path ≡ None

kept_nodes : (h : List ℕ → Option ℕ) (run base : ℕ) (path : List ℕ) (d : Drawn) → IsNumbered h run base path d → AreKept d → AllByRecursion (IsKeptNode h) (placed_in path (bare d))
kept_nodes h run base path Bare n k = tt
kept_nodes h run base path (Grown p w e Stays b s) n k = (
  (λ is. n.0),
  both _ (placed_in (path ++ p ∷ []) (bare b)) (placed_in path (bare s)) (kept_nodes h 0 base (path ++ p ∷ []) b n.1 k.1) (kept_nodes h 0 (base + interval_count b) path s n.2 k.2),
)
kept_nodes h run base path (Grown p w e Begins b s) n k = (
  (λ is. absurd (let no = k.0 is in no_begin no)),
  both _ (placed_in (path ++ p ∷ []) (bare b)) (placed_in path (bare s)) (kept_nodes h 0 (base + 1) (path ++ p ∷ []) b n.1 k.1) (kept_nodes h base (base + 1 + interval_count b) path s n.2 k.2),
)
  where
    no_begin : Begins ≡ Stays → ⊥
    no_begin e = cc
kept_nodes h run base path (Grown p w e GoesOn b s) n k = (
  (λ is. absurd (let no = k.0 is in no_go no)),
  both _ (placed_in (path ++ p ∷ []) (bare b)) (placed_in path (bare s)) (kept_nodes h 0 base (path ++ p ∷ []) b n.1 k.1) (kept_nodes h run (base + interval_count b) path s n.2 k.2),
)
  where
    no_go : GoesOn ≡ Stays → ⊥
    no_go e = cc

pub drawn_keeps : (d : Drawn) → IsWhole d → AreKept d → KeepsClusters (placed (bare d)) (drawn_intervals [] d)
drawn_keeps d h k parent i has =
    let parts = drawn_intervals [] d in
    let none = all_of (IsKeptNode (holder parts)) (placed (bare d)) (kept_nodes (holder parts) 0 0 [] d (whole_numbered d h) k) has.0 has.1 has.3 in
    let here : holder parts (parent ++ i ∷ []) ≡ None = ap (holder parts) (sym has.2) ∙ none in
    owner-longer parts parent i ∙ ap (λ (o : Option ℕ). option_or o (owner parts parent)) here
