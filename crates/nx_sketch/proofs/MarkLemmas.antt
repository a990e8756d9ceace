-- What the nodes before a node weigh, and what its subtree weighs, in the order of the list.
use Rattle.std.proofs.Common.{◌≡◌, ℕ, ◌+◌, ◌*◌, ◌/◌, ◌^◌, ◌<◌, ◌≤◌, if◌then◌else◌, Bool, true, false, List, [], ◌∷◌, ◌++◌, map, length, drop, refl, sym, ap, subst, ◌∙◌, arith, append_assoc, append-nil}
use Rattle.std.specs.Prelude.{nat_le, nat_lt, ◌&&◌}
use Rattle.std.specs.List.{AllByRecursion, sum_by}
use Rattle.std.proofs.lemmas.List.{map-append, drop_all}
use Rattle.std.proofs.Math.Nat.{mul-le-mul}
use Rattle.std.proofs.lemmas.List.Sums.{sum_by-cons, sum_by-append}
use Rattle.nx_matrix.specs.declared.rule.Entry.{Entry}
use Rattle.nx_sketch.specs.declared.spot.Spot.{Spot}
use Rattle.nx_sketch.specs.Sketch.{Sketch, Empty, Plant, spot_count, Placed, placed, placed_in, spots_of, sketch_weight, AreRising, IsFlat}
use Rattle.nx_sketch.specs.Plan.{is_prefix}
use Rattle.nx_sketch.specs.Separator.{is_before, weight_before, weight_within, is_marked, marks, point}
use Rattle.nx_sketch.proofs.PathLemmas.{before_less, not_before_less, before_below, not_before_below, not_before_itself, prefix_other, prefix_below, not_prefix_below}

both : {A : Type 0} (P : A → Type 0) (xs ys : List A) → AllByRecursion P xs → AllByRecursion P ys → AllByRecursion P (xs ++ ys)
both P [] ys a b = b
both P (x ∷ xs) ys a b = (a.0, both P xs ys a.1 b)

weaker : {A : Type 0} {P : A → Type 0} (Q : A → Type 0) (xs : List A) → ((x : A) → P x → Q x) → AllByRecursion P xs → AllByRecursion Q xs
weaker Q [] f a = tt
weaker Q (x ∷ xs) f a = (f x a.0, weaker Q xs f a.1)

-- the nodes stand below the one at the path
pub placed_from : (low : ℕ) (path : List ℕ) (s : Sketch) → AreRising low s → AllByRecursion (λ (node : Placed). (step : ℕ) × (way : List ℕ) × (node.path ≡ path ++ step ∷ way) × (low ≤ step)) (placed_in path s)
placed_from low path Empty r = tt
placed_from low path (Plant p w e b s) r = (
  (p, [], refl, r.0),
  both _ (placed_in (path ++ p ∷ []) b) (placed_in path s)
      (weaker _ (placed_in (path ++ p ∷ []) b) (λ node f. (p, f.0 ∷ f.1, f.2 ∙ append_assoc path (p ∷ []) (f.0 ∷ f.1), r.0)) (placed_from 0 (path ++ p ∷ []) b r.1))
      (weaker _ (placed_in path s) (λ node f. (f.0, f.1, f.2, (let far = f.3 in let near = r.0 in omega arith))) (placed_from (p + 1) path s r.2)),
)

-- what the nodes weigh
abbrev pub weights : List Placed → ℕ
weights nodes = sum_by (λ node. node.weight) nodes

pub weights-placed : (path : List ℕ) (s : Sketch) → weights (placed_in path s) ≡ sketch_weight s
weights-placed path Empty = refl
weights-placed path (Plant p w e b s) =
    let node : Placed = record { path = path ++ p ∷ []; weight = w; entry = e } in
    omega (arith, sum_by-cons (λ (n : Placed). n.weight) node (placed_in (path ++ p ∷ []) b ++ placed_in path s), sum_by-append (λ (n : Placed). n.weight) (placed_in (path ++ p ∷ []) b) (placed_in path s), weights-placed (path ++ p ∷ []) b, weights-placed path s)

-- a test of nodes picks all, or none
abbrev pub Picks : (Placed → Bool) → Bool → List Placed → Type 0
Picks test t nodes = AllByRecursion (λ node. test node ≡ t) nodes

abbrev pub picked : (Placed → Bool) → List Placed → ℕ
picked test nodes = sum_by (λ node. if test node then node.weight else 0) nodes

if_is : (t u : Bool) (x : ℕ) → t ≡ u → (if t then x else 0) ≡ (if u then x else 0)
if_is t u x e = ap (λ b. if b then x else 0) e

picked_all : (test : Placed → Bool) (nodes : List Placed) → Picks test true nodes → picked test nodes ≡ weights nodes
picked_all test [] a = refl
picked_all test (x ∷ nodes) a =
    omega (arith, sum_by-cons (λ (n : Placed). if test n then n.weight else 0) x nodes, sum_by-cons (λ (n : Placed). n.weight) x nodes, if_is (test x) true x.weight a.0, picked_all test nodes a.1)

picked_none : (test : Placed → Bool) (nodes : List Placed) → Picks test false nodes → picked test nodes ≡ 0
picked_none test [] a = refl
picked_none test (x ∷ nodes) a = omega (arith, sum_by-cons (λ (n : Placed). if test n then n.weight else 0) x nodes, if_is (test x) false x.weight a.0, picked_none test nodes a.1)

-- the weights before each node and within its subtree are those of the list
abbrev pub IsWeighed : List Placed → ℕ → List ℕ → Sketch → Type 0
IsWeighed all a path Empty = Unit {0}
IsWeighed all a path (Plant p w e b s) =
    (weight_before all (path ++ p ∷ []) ≡ a) × (weight_within all (path ++ p ∷ []) ≡ w + sketch_weight b)
    × IsWeighed all (a + w) (path ++ p ∷ []) b × IsWeighed all (a + w + sketch_weight b) path s

-- the nodes come before those that stand at later steps below the path, and none of these above them
abbrev pub ComeBefore : ℕ → List ℕ → List Placed → Type 0
ComeBefore low path nodes = AllByRecursion (λ node. (step : ℕ) (way : List ℕ) → low ≤ step → (is_before node.path (path ++ step ∷ way) ≡ true) × (is_prefix (path ++ step ∷ way) node.path ≡ false)) nodes

-- the nodes come behind all that stand below the path
abbrev pub ComeBehind : List ℕ → List Placed → Type 0
ComeBehind path nodes = AllByRecursion (λ node. (step : ℕ) (way : List ℕ) → (is_before node.path (path ++ step ∷ way) ≡ false) × (is_prefix (path ++ step ∷ way) node.path ≡ false)) nodes

module _ (path : List ℕ) (p w : ℕ) (e : Entry) (b s : Sketch) (low : ℕ) (r : AreRising low (Plant p w e b s)) where
  here : List ℕ
  here = path ++ p ∷ []

  own_below : Picks (λ x. is_before x.path (path ++ p ∷ [])) false (placed_in (path ++ p ∷ []) b) × Picks (λ x. is_prefix (path ++ p ∷ []) x.path) true (placed_in (path ++ p ∷ []) b)
  own_below = (
    weaker _ (placed_in (path ++ p ∷ []) b) (λ x f. ap (λ q. is_before q (path ++ p ∷ [])) (f.2 ∙ append_assoc path (p ∷ []) (f.0 ∷ f.1)) ∙ not_before_below path p f.0 f.1) (placed_from 0 (path ++ p ∷ []) b r.1),
    weaker _ (placed_in (path ++ p ∷ []) b) (λ x f. ap (is_prefix (path ++ p ∷ [])) (f.2 ∙ append_assoc path (p ∷ []) (f.0 ∷ f.1)) ∙ prefix_below path p (f.0 ∷ f.1)) (placed_from 0 (path ++ p ∷ []) b r.1),
  )

  -- later neighbours, and what stands below them
  pub later : (way : List ℕ) → Picks (λ x. is_before x.path (path ++ p ∷ way)) false (placed_in path s) × Picks (λ x. is_prefix (path ++ p ∷ way) x.path) false (placed_in path s)
  later way = (
    weaker _ (placed_in path s) (λ x f. let far = f.3 in ap (λ q. is_before q (path ++ p ∷ way)) f.2 ∙ not_before_less path f.0 p f.1 way (omega arith)) (placed_from (p + 1) path s r.2),
    weaker _ (placed_in path s) (λ x f. let far = f.3 in ap (is_prefix (path ++ p ∷ way)) f.2 ∙ prefix_other path p f.0 way f.1 (λ same. omega arith)) (placed_from (p + 1) path s r.2),
  )

  before_node : ComeBefore 0 (path ++ p ∷ []) (record { path = path ++ p ∷ []; weight = w; entry = e } ∷ [])
  before_node = (
    (λ step way le. (
      ap (is_before (path ++ p ∷ [])) (append_assoc path (p ∷ []) (step ∷ way)) ∙ before_below path p step way,
      ap (λ q. is_prefix q (path ++ p ∷ [])) (append_assoc path (p ∷ []) (step ∷ way)) ∙ not_prefix_below path p step way,
    )),
    tt,
  )

  -- the node and what stands below it come before its later neighbours
  before_beside : ComeBefore (p + 1) path (record { path = path ++ p ∷ []; weight = w; entry = e } ∷ placed_in (path ++ p ∷ []) b)
  before_beside = (
    (λ step way le. (before_less path p step [] way (omega arith), prefix_other path step p way [] (λ same. omega arith))),
    weaker _ (placed_in (path ++ p ∷ []) b) (λ x f step way le.
        let q = f.2 ∙ append_assoc path (p ∷ []) (f.0 ∷ f.1) in (
          ap (λ u. is_before u (path ++ step ∷ way)) q ∙ before_less path p step (f.0 ∷ f.1) way (omega arith),
          ap (is_prefix (path ++ step ∷ way)) q ∙ prefix_other path step p way (f.0 ∷ f.1) (λ same. omega arith),
        )) (placed_from 0 (path ++ p ∷ []) b r.1),
  )

  prefix_below_node : (front : List Placed) → ComeBefore low path front → ComeBefore 0 (path ++ p ∷ []) (front ++ record { path = path ++ p ∷ []; weight = w; entry = e } ∷ [])
  prefix_below_node front f =
      both _ front (record { path = path ++ p ∷ []; weight = w; entry = e } ∷ [])
      (weaker _ front (λ x g step way le.
      let h = g p (step ∷ way) r.0 in
      let q = append_assoc path (p ∷ []) (step ∷ way) in (ap (is_before x.path) q ∙ h.0, ap (λ u. is_prefix u x.path) q ∙ h.1)) f)
      before_node

  back_below_node : (back : List Placed) → ComeBehind path back → ComeBehind (path ++ p ∷ []) (placed_in path s ++ back)
  back_below_node back f =
      both _ (placed_in path s) back
      (weaker _ (placed_in path s) (λ x g step way.
      let far = g.3 in
      let q = append_assoc path (p ∷ []) (step ∷ way) in (
        ap (λ u. is_before u ((path ++ p ∷ []) ++ step ∷ way)) g.2 ∙ ap (is_before (path ++ g.0 ∷ g.1)) q ∙ not_before_less path g.0 p g.1 (step ∷ way) (omega arith),
        ap (is_prefix ((path ++ p ∷ []) ++ step ∷ way)) g.2 ∙ ap (λ u. is_prefix u (path ++ g.0 ∷ g.1)) q ∙ prefix_other path p g.0 (step ∷ way) g.1 (λ same. omega arith),
      )) (placed_from (p + 1) path s r.2))
      (weaker _ back (λ x g step way.
      let h = g p (step ∷ way) in
      let q = append_assoc path (p ∷ []) (step ∷ way) in (ap (is_before x.path) q ∙ h.0, ap (λ u. is_prefix u x.path) q ∙ h.1)) f)

  front_beside_node : (front : List Placed) → ComeBefore low path front → ComeBefore (p + 1) path (front ++ record { path = path ++ p ∷ []; weight = w; entry = e } ∷ placed_in (path ++ p ∷ []) b)
  front_beside_node front f =
      both _ front (record { path = path ++ p ∷ []; weight = w; entry = e } ∷ placed_in (path ++ p ∷ []) b)
      (weaker _ front (λ x g step way le. let near = r.0 in g step way (omega arith)) f)
      before_beside

five : (f : Placed → ℕ) (front : List Placed) (node : Placed) (bs ss back : List Placed) → sum_by f (front ++ node ∷ (bs ++ (ss ++ back))) ≡ sum_by f front + f node + sum_by f bs + sum_by f ss + sum_by f back
five f front node bs ss back =
    omega (arith, sum_by-append f front (node ∷ (bs ++ (ss ++ back))), sum_by-cons f node (bs ++ (ss ++ back)), sum_by-append f bs (ss ++ back), sum_by-append f ss back)

-- the weights of a stretch of the list
pub weighed : (all front back : List Placed) (low : ℕ) (path : List ℕ) (s : Sketch) → all ≡ front ++ (placed_in path s ++ back) → AreRising low s → ComeBefore low path front → ComeBehind path back → IsWeighed all (weights front) path s
weighed all front back low path Empty is r f g = tt
weighed all front back low path (Plant p w e b s) is r f g =
    let here = path ++ p ∷ [] in
    let node : Placed = record { path = here; weight = w; entry = e } in
    let bs = placed_in here b in
    let ss = placed_in path s in
    let whole : all ≡ front ++ node ∷ (bs ++ (ss ++ back)) = is ∙ ap (λ l. front ++ node ∷ l) (append_assoc bs ss back) in
    let split : all ≡ (front ++ node ∷ []) ++ (bs ++ (ss ++ back)) = whole ∙ sym (append_assoc front (node ∷ []) (bs ++ (ss ++ back))) in
    let rest : all ≡ (front ++ node ∷ bs) ++ (ss ++ back) = whole ∙ sym (append_assoc front (node ∷ bs) (ss ++ back)) in
    let test_before = λ (x : Placed). is_before x.path here in
    let test_within = λ (x : Placed). is_prefix here x.path in
    let own = own_below path p w e b s low r in
    let next = later path p w e b s low r [] in
    let fb = picked_all test_before front (weaker _ front (λ x h. (h p [] r.0).0) f) in
    let fw = picked_none test_within front (weaker _ front (λ x h. (h p [] r.0).1) f) in
    let bb = picked_none test_before bs own.0 in
    let bw = picked_all test_within bs own.1 in
    let sb = picked_none test_before ss next.0 in
    let sw = picked_none test_within ss next.1 in
    let kb = picked_none test_before back (weaker _ back (λ x h. (h p []).0) g) in
    let kw = picked_none test_within back (weaker _ back (λ x h. (h p []).1) g) in
    let nb : (if is_before here here then w else 0) ≡ 0 = if_is (is_before here here) false w (not_before_itself path p) in
    let nw : (if is_prefix here here then w else 0) ≡ w = if_is (is_prefix here here) true w (prefix_below path p []) in
    let sum_b : weight_before all here ≡ picked test_before front + (if is_before here here then w else 0) + picked test_before bs + picked test_before ss + picked test_before back =
    ap (picked test_before) whole ∙ five (λ x. if test_before x then x.weight else 0) front node bs ss back in
    let sum_w : weight_within all here ≡ picked test_within front + (if is_prefix here here then w else 0) + picked test_within bs + picked test_within ss + picked test_within back =
    ap (picked test_within) whole ∙ five (λ x. if test_within x then x.weight else 0) front node bs ss back in
    let tb = weights-placed here b in
    let one : weights (front ++ node ∷ []) ≡ weights front + w = omega (arith, sum_by-append (λ (n : Placed). n.weight) front (node ∷ []), sum_by-cons (λ (n : Placed). n.weight) node []) in
    let more : weights (front ++ node ∷ bs) ≡ weights front + w + sketch_weight b = omega (arith, sum_by-append (λ (n : Placed). n.weight) front (node ∷ bs), sum_by-cons (λ (n : Placed). n.weight) node bs, tb) in (
      omega (arith, sum_b, fb, nb, bb, sb, kb),
      omega (arith, sum_w, fw, nw, bw, sw, kw, tb),
      subst (λ n. IsWeighed all n here b) one (weighed all (front ++ node ∷ []) (ss ++ back) 0 here b split r.1 (prefix_below_node path p w e b s low r front f) (back_below_node path p w e b s low r back g)),
      subst (λ n. IsWeighed all n path s) more (weighed all (front ++ node ∷ bs) back (p + 1) path s rest r.2 (front_beside_node path p w e b s low r front f) g),
    )

pub all_weighed : (s : Sketch) → AreRising 0 s → IsWeighed (placed s) 0 [] s
all_weighed s r = weighed (placed s) [] [] 0 [] s (sym (append-nil (placed s))) r tt tt

-- the marks of a list of nodes, by what comes before
abbrev pub marks_from : ℕ → ℕ → ℕ → List Spot → List Bool
marks_from t tolerance a [] = []
marks_from t tolerance a (spot ∷ spots) = (nat_le a t && nat_lt t (a + spot.within) && nat_lt tolerance spot.within) ∷ marks_from t tolerance (a + spot.weight) spots

pub marks-from : (t tolerance a : ℕ) (all : List Placed) (path : List ℕ) (s : Sketch) (rest : List Spot) → IsWeighed all a path s
    → marks_from t tolerance a (spots_of s ++ rest) ≡ map (λ node. is_marked all t tolerance node.path) (placed_in path s) ++ marks_from t tolerance (a + sketch_weight s) rest
marks-from t tolerance a all path Empty rest h = ap (λ n. marks_from t tolerance n rest) (let e : a ≡ a + 0 = omega arith in e)
marks-from t tolerance a all path (Plant p w e b s) rest h =
    let here = path ++ p ∷ [] in
    let f = λ (node : Placed). is_marked all t tolerance node.path in
    let own : (nat_le a t && nat_lt t (a + (w + sketch_weight b)) && nat_lt tolerance (w + sketch_weight b)) ≡ is_marked all t tolerance here =
    (λ i. nat_le (sym h.0 i) t && nat_lt t (sym h.0 i + sym h.1 i) && nat_lt tolerance (sym h.1 i)) in
    let x = marks-from t tolerance (a + w) all here b (spots_of s ++ rest) h.2 in
    let y = marks-from t tolerance (a + w + sketch_weight b) all path s rest h.3 in
    let end : a + w + sketch_weight b + sketch_weight s ≡ a + (w + sketch_weight b + sketch_weight s) = omega arith in
    (λ i. own i ∷ (ap (marks_from t tolerance (a + w)) (append_assoc (spots_of b) (spots_of s) rest)
    ∙ x ∙ ap (λ l. map f (placed_in here b) ++ l) (y ∙ ap (λ n. map f (placed_in path s) ++ marks_from t tolerance n rest) end)
    ∙ sym (append_assoc (map f (placed_in here b)) (map f (placed_in path s)) (marks_from t tolerance (a + (w + sketch_weight b + sketch_weight s)) rest))
    ∙ ap (λ l. l ++ marks_from t tolerance (a + (w + sketch_weight b + sketch_weight s)) rest) (sym (map-append f (placed_in here b) (placed_in path s)))) i)

-- the marks of a sketch
pub marks_all : (t tolerance : ℕ) (s : Sketch) (spots : List Spot) → spots ≡ spots_of s → AreRising 0 s → marks_from t tolerance 0 spots ≡ marks (placed s) t tolerance
marks_all t tolerance s spots is r =
    ap (marks_from t tolerance 0) (is ∙ sym (append-nil (spots_of s))) ∙ marks-from t tolerance 0 (placed s) [] s [] (all_weighed s r) ∙ append-nil (map (λ node. is_marked (placed s) t tolerance node.path) (placed s))

-- what a list of nodes weighs
pub weights-spots : (s : Sketch) → sum_by (λ spot. spot.weight) (spots_of s) ≡ sketch_weight s
weights-spots Empty = refl
weights-spots (Plant p w e b s) =
    let spot : Spot = record { position = p; weight = w; within = w + sketch_weight b; entry = e; below = spot_count b } in
    omega (arith, sum_by-cons (λ (x : Spot). x.weight) spot (spots_of b ++ spots_of s), sum_by-append (λ (x : Spot). x.weight) (spots_of b) (spots_of s), weights-spots b, weights-spots s)

-- no subtree weighs more than all
pub within_most : (s : Sketch) → AllByRecursion (λ (x : Spot). x.within ≤ sketch_weight s) (spots_of s)
within_most Empty = tt
within_most (Plant p w e b s) = (
  omega arith,
  both _ (spots_of b) (spots_of s) (weaker _ (spots_of b) (λ x h. omega arith) (within_most b)) (weaker _ (spots_of s) (λ x h. omega arith) (within_most s)),
)

-- the marks of the first nodes are there
pub record MarkedSoFar (t tolerance : ℕ) (spots : List Spot) (index before : ℕ) (found : List Bool) : Type 0 where
  pub rest : found ++ marks_from t tolerance before (drop index spots) ≡ marks_from t tolerance 0 spots
  pub left : before + sum_by (λ spot. spot.weight) (drop index spots) ≡ sum_by (λ spot. spot.weight) spots

pub weight_small : (spots : List Spot) → IsFlat spots → sum_by (λ spot. spot.weight) spots < 2 ^ 24
weight_small spots h = let w : sum_by (λ (x : Spot). x.weight) spots ≡ sketch_weight h.sketch = ap (sum_by (λ (x : Spot). x.weight)) h.is ∙ weights-spots h.sketch in let small = h.small in omega arith

-- where the part is divided, from the list of its nodes
pub point_is : (s : Sketch) (spots : List Spot) (target : ℕ) → spots ≡ spots_of s → sum_by (λ spot. spot.weight) spots * target / 100 ≡ point (placed s) target
point_is s spots target is = ap (λ n. n * target / 100) (ap (sum_by (λ (x : Spot). x.weight)) is ∙ weights-spots s ∙ sym (weights-placed [] s))

-- at the end all marks are there
pub all_marked : (t tolerance : ℕ) (spots : List Spot) (index before : ℕ) (found : List Bool) → MarkedSoFar t tolerance spots index before found → length spots ≤ index → found ≡ marks_from t tolerance 0 spots
all_marked t tolerance spots index before found h end =
    let none : drop index spots ≡ [] = drop_all index spots end in
    sym (append-nil found) ∙ ap (λ l. found ++ marks_from t tolerance before l) (sym none) ∙ h.rest

pub small_product : (weight target : ℕ) → weight < 2 ^ 24 → target < 2 ^ 32 → weight * target < 2 ^ 64
small_product weight target a b = let m : weight * target ≤ 2 ^ 24 * 2 ^ 32 = mul-le-mul {n₁ = weight} {m₁ = target} {n₂ = 2 ^ 24} {m₂ = 2 ^ 32} (omega arith) (omega arith) in omega arith
