-- A node or an interval put into a row of what one record has.
use Rattle.std.proofs.Common.{◌≡◌, ℕ, zero, suc, ◌+◌, ◌-◌, ◌<◌, ◌≤◌, nat_le, nat_lt, if◌then◌else◌, Bool, true, false, List, [], ◌∷◌, ◌++◌, length, take, drop, refl, sym, ap, ap₂, ◌∙◌, subst, arith, inl, inr, append_assoc, length-append}
use Rattle.std.proofs.lemmas.Bool.{cases_lt}
use Rattle.std.proofs.lemmas.Bool.Decides.{nat_tests}
use Rattle.std.proofs.Math.Seq.{take-append-add, drop-append-add}
use Rattle.nx_tree.specs.Forest.{nodes}
use Rattle.nx_weights.specs.Weight.{weight}
use Rattle.nx_piece.specs.declared.piece.Proxy.{Proxy}
use Rattle.nx_piece.specs.Gapped.{Gapped, End, Grow, Gap, with_gap}
use Rattle.nx_piece.specs.Locate.{roots_of}
use Rattle.nx_piece_edits.specs.Planting.{passed, put_in_gap, put_at}
use Rattle.nx_piece_edits.proofs.LeftLemmas.{less_is, not_less}
use Rattle.nx_cuts.specs.Cut.{Bare, Grown, Kept, width, AreFree}
use Rattle.nx_layouts.specs.Layout.{RecordPlace, LaidNode, Layout, Stock, in_record, laid_forest, laid_weight, AreLaidParts, gap_more, piece_body, proxies_of, proxy_of, places_of, nodes_in, AreHeld}
use Rattle.nx_layouts.specs.Nodes.{NodesChange}
use Rattle.nx_layouts.specs.Planting.{FallsBetween, put_between, proxies_before, with_node, with_interval, NodeIsPlanted, IntervalIsPlanted}
use Rattle.nx_layouts.proofs.NodeLemmas.{change_behind}
use Rattle.nx_layouts.proofs.DrawnLemmas.{drawn_wide}
use Rattle.nx_layouts.proofs.WithoutLemmas.{gap_more_is, gap_more_with, roots_more, take_more, drop_more, minus_both, drop_below, nodes_joined}

-- Proxies that are passed:

most_is : {T : Type 0} (a b : ℕ) (x y : T) → a ≤ b → (if nat_le a b then x else y) ≡ x
most_is a b x y most = let e : nat_le a b ≡ true = grind (arith, nat_tests) in subst (λ (t : Bool). (if t then x else y) ≡ x) (sym e) refl

not_most : {T : Type 0} (a b : ℕ) (x y : T) → b < a → (if nat_le a b then x else y) ≡ y
not_most a b x y less = let e : nat_le a b ≡ false = grind (arith, nat_tests) in subst (λ (t : Bool). (if t then x else y) ≡ y) (sym e) refl

pub passed_one : (position : ℕ) (proxy : Proxy) (proxies : List Proxy) → proxy.roots ≤ position → passed position (proxy ∷ proxies) ≡ 1 + passed (position - proxy.roots) proxies
passed_one position proxy proxies most = most_is proxy.roots position (1 + passed (position - proxy.roots) proxies) 0 most

passed_none : (proxy : Proxy) (proxies : List Proxy) → 1 ≤ proxy.roots → passed 0 (proxy ∷ proxies) ≡ 0
passed_none proxy proxies some = not_most proxy.roots 0 (1 + passed (0 - proxy.roots) proxies) 0 some

-- a gap in front isn't empty, and its first proxy has a root
abbrev pub BeginsWithRoots : Gapped → List Proxy → Type 0
BeginsWithRoots End proxies = Unit {0}
BeginsWithRoots (Grow node below beside) proxies = Unit {0}
BeginsWithRoots (Gap count beside) proxies = (1 ≤ count) × (passed 0 (take count proxies) ≡ 0)

begins_more : (x : Gapped) (proxy : Proxy) (proxies : List Proxy) → 1 ≤ proxy.roots → BeginsWithRoots (gap_more x) (proxy ∷ proxies)
begins_more End proxy proxies some = (omega arith, passed_none proxy [] some)
begins_more (Grow n b s) proxy proxies some = (omega arith, passed_none proxy [] some)
begins_more (Gap c s) proxy proxies some = (omega arith, ap (passed 0) (take_more c proxy proxies) ∙ passed_none proxy (take c proxies) some)

pub body_begins : (k : ℕ) (row : Layout) (more : List Proxy) → AreLaidParts k row → BeginsWithRoots (piece_body row) (proxies_of row ++ more)
body_begins k Bare more h = tt
body_begins k (Grown n b s) more h = tt
body_begins k (Kept p m s) more h = begins_more (piece_body s) (proxy_of p (width m)) (proxies_of s ++ more) (subst (λ (w : ℕ). 1 ≤ w) (drawn_wide m) h.0)

-- Something put behind one proxy more:

module _ (put : Gapped → Gapped) where
  -- in a gap behind the first proxy
  in_gap_more : (before count : ℕ) (s : Gapped) → put_in_gap put (1 + before) (count + 1) s ≡ gap_more (put_in_gap put before count s)
  in_gap_more before count s =
      ap (λ (n : ℕ). with_gap (1 + before) (put (Gap n s))) (let e : count + 1 - (1 + before) ≡ count - before = omega arith in e)
      ∙ ap (λ (n : ℕ). with_gap n (put (Gap (count - before) s))) (let e : 1 + before ≡ before + 1 = omega arith in e)
      ∙ gap_more_with before (put (Gap (count - before) s))

  -- behind a gap of one proxy
  behind_one : (position : ℕ) (x : Gapped) (proxy : Proxy) (proxies : List Proxy) → proxy.roots ≤ suc position
      → put_at put (suc position) (Gap 1 x) (proxy ∷ proxies) ≡ gap_more (put_at put (suc position - proxy.roots) x proxies)
  behind_one position x proxy proxies most =
      let one : passed (suc position) (proxy ∷ []) ≡ 1 = passed_one (suc position) proxy [] most in
      let roots : roots_of (proxy ∷ []) ≡ proxy.roots = roots_more proxy [] ∙ (let e : proxy.roots + 0 ≡ proxy.roots = omega arith in e) in
      not_less (passed (suc position) (proxy ∷ [])) 1 (put_in_gap put (passed (suc position) (proxy ∷ [])) 1 x) (with_gap 1 (put_at put (suc position - roots_of (proxy ∷ [])) x proxies)) (omega (arith, one))
      ∙ ap (λ (r : ℕ). with_gap 1 (put_at put (suc position - r) x proxies)) roots
      ∙ sym (gap_more_is (put_at put (suc position - proxy.roots) x proxies))

  -- in or behind a gap, of which one proxy more stands in front
  behind_gap : (q c : ℕ) (s : Gapped) (proxies : List Proxy) → BeginsWithRoots (Gap c s) proxies
      → (if nat_lt (1 + passed q (take c proxies)) (c + 1) then put_in_gap put (1 + passed q (take c proxies)) (c + 1) s else with_gap (c + 1) (put_at put (q - roots_of (take c proxies)) s (drop c proxies)))
      ≡ gap_more (put_at put q (Gap c s) proxies)
  behind_gap zero c s proxies begins =
      let none = begins.1 in
      let some = begins.0 in
      less_is (1 + passed 0 (take c proxies)) (c + 1) (put_in_gap put (1 + passed 0 (take c proxies)) (c + 1) s) (with_gap (c + 1) (put_at put (0 - roots_of (take c proxies)) s (drop c proxies))) (omega (arith, none, some))
      ∙ ap (λ (n : ℕ). put_in_gap put (1 + n) (c + 1) s) none
      ∙ ap (λ (n : ℕ). with_gap 1 (put (Gap n s))) (let e : c + 1 - 1 ≡ c = omega arith in e)
      ∙ sym (gap_more_is (put (Gap c s)))
  behind_gap (suc q) c s proxies begins =
      let n : ℕ = passed (suc q) (take c proxies) in
      let rest : Gapped = put_at put (suc q - roots_of (take c proxies)) s (drop c proxies) in
      elim (cases_lt (passed (suc q) (take c proxies)) c) [
        | inl less ↦
            less_is (1 + n) (c + 1) (put_in_gap put (1 + n) (c + 1) s) (with_gap (c + 1) rest) (omega (arith, less))
            ∙ in_gap_more n c s
            ∙ ap gap_more (sym (less_is n c (put_in_gap put n c s) (with_gap c rest) less))
        | inr most ↦
            not_less (1 + n) (c + 1) (put_in_gap put (1 + n) (c + 1) s) (with_gap (c + 1) rest) (omega (arith, most))
            ∙ gap_more_with c rest
            ∙ ap gap_more (sym (not_less n c (put_in_gap put n c s) (with_gap c rest) most))
      ]

  put_behind : (position : ℕ) (x : Gapped) (proxy : Proxy) (proxies : List Proxy) → proxy.roots ≤ suc position → BeginsWithRoots x proxies
      → put_at put (suc position) (gap_more x) (proxy ∷ proxies) ≡ gap_more (put_at put (suc position - proxy.roots) x proxies)
  put_behind position End proxy proxies most begins = behind_one position End proxy proxies most
  put_behind position (Grow n b s) proxy proxies most begins = behind_one position (Grow n b s) proxy proxies most
  put_behind position (Gap c s) proxy proxies most begins =
      let q : ℕ = suc position - proxy.roots in
      let all : List Proxy = proxy ∷ proxies in
      let seen : passed (suc position) (take (c + 1) all) ≡ 1 + passed q (take c proxies) = ap (passed (suc position)) (take_more c proxy proxies) ∙ passed_one (suc position) proxy (take c proxies) most in
      let roots : roots_of (take (c + 1) all) ≡ proxy.roots + roots_of (take c proxies) = ap roots_of (take_more c proxy proxies) ∙ roots_more proxy (take c proxies) in
      ap (λ (m : ℕ). if nat_lt m (c + 1) then put_in_gap put m (c + 1) s else with_gap (c + 1) (put_at put (suc position - roots_of (take (c + 1) all)) s (drop (c + 1) all))) seen
      ∙ ap₂ (λ (r : ℕ) (ps : List Proxy). chosen (with_gap (c + 1) (put_at put (suc position - r) s ps))) roots (drop_more c proxy proxies)
      ∙ ap (λ (r : ℕ). chosen (with_gap (c + 1) (put_at put r s (drop c proxies)))) (minus_both (suc position) proxy.roots (roots_of (take c proxies)))
      ∙ behind_gap q c s proxies begins
    where
      chosen : Gapped → Gapped
      chosen other = if nat_lt (1 + passed (suc position - proxy.roots) (take c proxies)) (c + 1) then put_in_gap put (1 + passed (suc position - proxy.roots) (take c proxies)) (c + 1) s else other

-- What the record has:

body_put : (put : Layout → Layout) (set : Gapped → Gapped) → ((r : Layout) → piece_body (put r) ≡ set (piece_body r)) → (k position : ℕ) (row : Layout) (more : List Proxy) → AreLaidParts k row → FallsBetween position row
    → piece_body (put_between put position row) ≡ put_at set position (piece_body row) (proxies_of row ++ more)
body_put put set same k zero row more h f = same row
body_put put set same k (suc position) Bare more h f = absurd f
body_put put set same k (suc position) (Grown n b s) more h f =
    ap (λ (c : Gapped). Grow (in_record n) (piece_body b) c)
    (body_put put set same k position s more h.1 f ∙ ap (λ (ps : List Proxy). put_at set position (piece_body s) ps) (sym (drop_below b s more)))
body_put put set same k (suc position) (Kept p m s) more h f =
    ap gap_more (body_put put set same k (suc position - width m) s more h.4 f.1)
    ∙ sym (put_behind set position (piece_body s) (proxy_of p (width m)) (proxies_of s ++ more) f.0 (body_begins k s more h.4))

-- A node more:

proxies_planted : (node : LaidNode) (position : ℕ) (row : Layout) → FallsBetween position row → proxies_of (with_node node position row) ≡ proxies_of row
proxies_planted node zero row f = refl
proxies_planted node (suc position) Bare f = absurd f
proxies_planted node (suc position) (Grown n b s) f = ap (λ (ps : List Proxy). proxies_of b ++ ps) (proxies_planted node position s f)
proxies_planted node (suc position) (Kept p m s) f = ap (λ (ps : List Proxy). proxy_of p (width m) ∷ ps) (proxies_planted node (suc position - width m) s f.1)

places_planted : (node : LaidNode) (position : ℕ) (row : Layout) → FallsBetween position row → places_of (with_node node position row) ≡ places_of row
places_planted node zero row f = refl
places_planted node (suc position) Bare f = absurd f
places_planted node (suc position) (Grown n b s) f = ap (λ (ps : List RecordPlace). places_of b ++ ps) (places_planted node position s f)
places_planted node (suc position) (Kept p m s) f = ap (λ (ps : List RecordPlace). p ∷ places_of m ++ ps) (places_planted node (suc position - width m) s f.1)

-- Of a node or an interval:

held_put : (stock : Stock) (put : Layout → Layout) → ((r : Layout) → AreHeld stock r → AreHeld stock (put r)) → (position : ℕ) (row : Layout) → AreHeld stock row → AreHeld stock (put_between put position row)
held_put stock put keeps zero row h = keeps row h
held_put stock put keeps (suc position) Bare h = tt
held_put stock put keeps (suc position) (Grown n b s) h = (h.0, h.1, held_put stock put keeps position s h.2)
held_put stock put keeps (suc position) (Kept p m s) h = (h.0, h.1, held_put stock put keeps (suc position - width m) s h.2)

light_put : (k : ℕ) (put : Layout → Layout) → ((r : Layout) → AreLaidParts k r → AreLaidParts k (put r)) → (position : ℕ) (row : Layout) → AreLaidParts k row → AreLaidParts k (put_between put position row)
light_put k put keeps zero row h = keeps row h
light_put k put keeps (suc position) Bare h = tt
light_put k put keeps (suc position) (Grown n b s) h = (h.0, light_put k put keeps position s h.1)
light_put k put keeps (suc position) (Kept p m s) h = (h.0, h.1, h.2, h.3, light_put k put keeps (suc position - width m) s h.4)

width_put : (more : ℕ) (put : Layout → Layout) → ((r : Layout) → width (put r) ≡ width r + more) → (position : ℕ) (row : Layout) → FallsBetween position row → width (put_between put position row) ≡ width row + more
width_put more put adds zero row f = adds row
width_put more put adds (suc position) Bare f = absurd f
width_put more put adds (suc position) (Grown n b s) f = let e = width_put more put adds position s f in omega (arith, e)
width_put more put adds (suc position) (Kept p m s) f = let e = width_put more put adds (suc position - width m) s f.1 in omega (arith, e)

weight_put : (more : ℕ) (put : Layout → Layout) → ((r : Layout) → laid_weight (put r) ≡ laid_weight r + more) → (position : ℕ) (row : Layout) → FallsBetween position row → laid_weight (put_between put position row) ≡ laid_weight row + more
weight_put more put adds zero row f = adds row
weight_put more put adds (suc position) Bare f = absurd f
weight_put more put adds (suc position) (Grown n b s) f = let e = weight_put more put adds position s f in omega (arith, e)
weight_put more put adds (suc position) (Kept p m s) f = weight_put more put adds (suc position - width m) s f.1

nodes_put : (more : ℕ) (put : Layout → Layout) → ((r : Layout) → nodes (laid_forest (put r)) ≡ nodes (laid_forest r) + more) → (position : ℕ) (row : Layout) → FallsBetween position row → nodes (laid_forest (put_between put position row)) ≡ nodes (laid_forest row) + more
nodes_put more put adds zero row f = adds row
nodes_put more put adds (suc position) Bare f = absurd f
nodes_put more put adds (suc position) (Grown n b s) f = let e = nodes_put more put adds position s f in omega (arith, e)
nodes_put more put adds (suc position) (Kept p m s) f =
    let e = nodes_put more put adds (suc position - width m) s f.1 in
    let i = nodes_joined (laid_forest m) (laid_forest s) in
    let j = nodes_joined (laid_forest m) (laid_forest (put_between put (suc position - width m) s)) in
    omega (arith, e, i, j)

-- the nodes of what is put in, which have all of the row behind them
nodes_come : (come : List LaidNode) (put : Layout → Layout) → ((r : Layout) → nodes_in (put r) ≡ come ++ nodes_in r) → (position : ℕ) (row : Layout) → FallsBetween position row
    → NodesChange (nodes_in row) (nodes_in (put_between put position row)) [] come
nodes_come come put adds zero row f = record { before = []; behind = nodes_in row; were = refl; are = adds row }
nodes_come come put adds (suc position) Bare f = absurd f
nodes_come come put adds (suc position) (Grown n b s) f = change_behind (nodes_come come put adds position s f) (n ∷ nodes_in b)
nodes_come come put adds (suc position) (Kept p m s) f = change_behind (nodes_come come put adds (suc position - width m) s f.1) (nodes_in m)

free_planted : (node : LaidNode) (position : ℕ) (row : Layout) → AreFree row → AreFree (with_node node position row)
free_planted node zero row h = h
free_planted node (suc position) Bare h = tt
free_planted node (suc position) (Grown n b s) h = free_planted node position s h
free_planted node (suc position) (Kept p m s) h = absurd h

pub node_is_planted : NodeIsPlanted
node_is_planted k node position row f =
    let put : Layout → Layout = λ r. Grown node Bare r in
    record {
      body = λ h more. body_put put (λ g. Grow (in_record node) End g) (λ r. refl) k position row more h f;
      proxies = proxies_planted node position row f;
      places = places_planted node position row f;
      changes = nodes_come (node ∷ []) put (λ r. refl) position row f;
      held = λ stock read h. held_put stock put (λ r held. (read, tt, held)) position row h;
      wide = width_put 1 put (λ r. omega arith) position row f;
      weighs = weight_put (weight node.node) put (λ r. omega arith) position row f;
      free = free_planted node position row;
      light = λ h. light_put k put (λ r parts. (tt, parts)) position row h;
      counted = nodes_put 1 put (λ r. omega arith) position row f;
    }

-- An interval more:

-- what is put between, behind more
between_more : {A : Type 0} (front all : List A) (x : A) (i : ℕ) → front ++ (take i all ++ (x ∷ drop i all)) ≡ take (length front + i) (front ++ all) ++ (x ∷ drop (length front + i) (front ++ all))
between_more front all x i =
    sym (append_assoc front (take i all) (x ∷ drop i all))
    ∙ ap₂ (λ ys zs. ys ++ (x ∷ zs)) (sym (take-append-add front all i)) (sym (drop-append-add front all i))

proxies_fenced : (place : RecordPlace) (members : Layout) (position : ℕ) (row : Layout) → FallsBetween position row
    → proxies_of (with_interval place members position row) ≡ take (proxies_before position row) (proxies_of row) ++ (proxy_of place (width members) ∷ drop (proxies_before position row) (proxies_of row))
proxies_fenced place members zero row f = refl
proxies_fenced place members (suc position) Bare f = absurd f
proxies_fenced place members (suc position) (Grown n b s) f =
    ap (λ (ps : List Proxy). proxies_of b ++ ps) (proxies_fenced place members position s f) ∙ between_more (proxies_of b) (proxies_of s) (proxy_of place (width members)) (proxies_before position s)
proxies_fenced place members (suc position) (Kept p m s) f =
    let one : Proxy = proxy_of p (width m) in
    ap (λ (ps : List Proxy). one ∷ ps) (proxies_fenced place members (suc position - width m) s f.1)
    ∙ between_more (one ∷ []) (proxies_of s) (proxy_of place (width members)) (proxies_before (suc position - width m) s)

before_within : (position : ℕ) (row : Layout) → proxies_before position row ≤ length (proxies_of row)
before_within zero row = omega arith
before_within (suc position) Bare = omega arith
before_within (suc position) (Grown n b s) = let e = before_within position s in let l = length-append (proxies_of b) (proxies_of s) in omega (arith, e, l)
before_within (suc position) (Kept p m s) = let e = before_within (suc position - width m) s in omega (arith, e)

record StandsBetween (place : RecordPlace) (members : Layout) (position : ℕ) (row : Layout) : Type 0 where
  before : List RecordPlace
  behind : List RecordPlace
  were : places_of row ≡ before ++ behind
  are : places_of (with_interval place members position row) ≡ before ++ ((place ∷ places_of members) ++ behind)

places_fenced : (place : RecordPlace) (members : Layout) (position : ℕ) (row : Layout) → FallsBetween position row → StandsBetween place members position row
places_fenced place members zero row f = record { before = []; behind = places_of row; were = refl; are = refl }
places_fenced place members (suc position) Bare f = absurd f
places_fenced place members (suc position) (Grown n b s) f =
    let r = places_fenced place members position s f in
    record {
      before = places_of b ++ r.before;
      behind = r.behind;
      were = ap (λ (ps : List RecordPlace). places_of b ++ ps) r.were ∙ sym (append_assoc (places_of b) r.before r.behind);
      are = ap (λ (ps : List RecordPlace). places_of b ++ ps) r.are ∙ sym (append_assoc (places_of b) r.before ((place ∷ places_of members) ++ r.behind));
    }
places_fenced place members (suc position) (Kept p m s) f =
    let r = places_fenced place members (suc position - width m) s f.1 in
    record {
      before = p ∷ (places_of m ++ r.before);
      behind = r.behind;
      were = ap (λ (ps : List RecordPlace). p ∷ (places_of m ++ ps)) r.were ∙ ap (λ (ps : List RecordPlace). p ∷ ps) (sym (append_assoc (places_of m) r.before r.behind));
      are = ap (λ (ps : List RecordPlace). p ∷ (places_of m ++ ps)) r.are ∙ ap (λ (ps : List RecordPlace). p ∷ ps) (sym (append_assoc (places_of m) r.before ((place ∷ places_of members) ++ r.behind)));
    }

pub interval_is_planted : IntervalIsPlanted
interval_is_planted k place members position row f =
    let put : Layout → Layout = λ r. Kept place members r in
    let places = places_fenced place members position row f in
    record {
      body = λ h more. body_put put (λ g. with_gap 1 g) (λ r. gap_more_is (piece_body r)) k position row more h f;
      proxies = proxies_fenced place members position row f;
      within = before_within position row;
      before = places.before;
      behind = places.behind;
      places_were = places.were;
      places_are = places.are;
      changes = nodes_come (nodes_in members) put (λ r. refl) position row f;
      held = λ stock h new. held_put stock put (λ r held. (new.0, new.1, held)) position row h;
      wide = width_put (width members) put (λ r. omega arith) position row f;
      weighs = weight_put 0 put (λ r. omega arith) position row f ∙ (let e : laid_weight row + 0 ≡ laid_weight row = omega arith in e);
      light = λ h new. light_put k put (λ r parts. (new.0, new.1, new.2, new.3, parts)) position row h;
      counted = nodes_put (nodes (laid_forest members)) put (λ r. let e = nodes_joined (laid_forest members) (laid_forest r) in omega (arith, e)) position row f;
    }
