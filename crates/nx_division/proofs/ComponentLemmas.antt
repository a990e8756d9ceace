-- Where no cluster component is too heavy, nothing that has to stay together is.
use Rattle.std.proofs.Common.{◌≡◌, ℕ, ◌+◌, ◌≤◌, eqb, if◌then◌else◌, Bool, true, false, ◌&&◌, List, [], ◌∷◌, ◌++◌, length, drop, refl, sym, ap, subst, ◌∙◌, arith, append_assoc, append-nil}
use Rattle.std.specs.Prelude.{Contains}
use Rattle.std.specs.List.{sum_by}
use Rattle.std.specs.Str.{bytes_eq}
use Rattle.std.proofs.lemmas.Bool.Decides.{nat_tests}
use Rattle.std.proofs.lemmas.List.Folds.{list_any_at}
use Rattle.std.proofs.lemmas.List.Sums.{sum_by-cons, sum_by-append}
use Rattle.std.proofs.lemmas.List.Elements.{Contains-append_left, Contains-append_right}
use Rattle.std.proofs.lemmas.Slice.Eq.{bytes_eq-Decides}
use Rattle.nx_lists.proofs.ListLemmas.{contains_here, contains_there}
use Rattle.nx_matrix.specs.declared.rule.Entry.{Entry}
use Rattle.nx_matrix.specs.declared.rule.Entry.TheVariants.{Standalone, Cluster, Free}
use Rattle.nx_sketch.specs.Sketch.{Sketch, Empty, Plant, Placed, placed, placed_in}
use Rattle.nx_sketch.specs.Plan.{is_prefix, is_cluster, is_cluster_at, clusters_down, is_joined, component_weight, AreComponentsLight}
use Rattle.nx_division.specs.Settled.{core, AreTopsLight}
use Rattle.nx_division.proofs.PlanLemmas.{AreAmong}
use Rattle.nx_division.proofs.CoreLemmas.{if_true, if_false}

same_eqb : (p : ℕ) → eqb p p ≡ true
same_eqb p = grind (arith, nat_tests)

prefix_append : (top way : List ℕ) → is_prefix top (top ++ way) ≡ true
prefix_append [] way = refl
prefix_append (step ∷ top) way = ap (λ t. t && is_prefix top (top ++ way)) (same_eqb step) ∙ prefix_append top way

drop_top : (top way : List ℕ) → drop (length top) (top ++ way) ≡ way
drop_top [] way = refl
drop_top (step ∷ top) way = drop_top top way

clusters_push : (all : List Placed) (path way : List ℕ) (p : ℕ) → clusters_down all path way ≡ true → is_cluster_at all ((path ++ way) ++ p ∷ []) ≡ true → clusters_down all path (way ++ p ∷ []) ≡ true
clusters_push all path [] p down here = ap (λ t. t && true) (ap (λ q. is_cluster_at all (q ++ p ∷ [])) (sym (append-nil path)) ∙ here)
clusters_push all path (step ∷ way) p down here =
    let parts = both (is_cluster_at all (path ++ step ∷ [])) (clusters_down all (path ++ step ∷ []) way) down in
    let rest = clusters_push all (path ++ step ∷ []) way p parts.1 (ap (λ q. is_cluster_at all (q ++ p ∷ [])) (append_assoc path (step ∷ []) way) ∙ here) in
    λ i. parts.0 i && rest i
  where
    both : (a b : Bool) → a && b ≡ true → (a ≡ true) × (b ≡ true)
    both true true e = (refl, refl)
    both true false e = absurd (cc)
    both false b e = absurd (cc)

joined_way : (all : List Placed) (top way : List ℕ) → clusters_down all top way ≡ true → is_joined all top (top ++ way) ≡ true
joined_way all top way down = λ i. prefix_append top way i && (ap (clusters_down all top) (drop_top top way) ∙ down) i

cluster_there : (all : List Placed) (node : Placed) → Contains all node → is_cluster node.entry ≡ true → is_cluster_at all node.path ≡ true
cluster_there all node c is =
    list_any_at (λ (x : Placed). bytes_eq x.path node.path && is_cluster x.entry) all c.0 node c.1
    (ap (λ (x : Placed). bytes_eq x.path node.path && is_cluster x.entry) c.2 ∙ (λ i. (bytes_eq-Decides node.path node.path).1 refl i && is i))

-- the nodes that are joined to one above them
abbrev pub joined : List Placed → List ℕ → List Placed → ℕ
joined all top nodes = sum_by (λ node. if is_joined all top node.path then node.weight else 0) nodes

joined_parts : (all : List Placed) (top : List ℕ) (node : Placed) (xs ys : List Placed) → joined all top (node ∷ xs ++ ys) ≡ (if is_joined all top node.path then node.weight else 0) + joined all top xs + joined all top ys
joined_parts all top node xs ys =
    let f = λ (x : Placed). if is_joined all top x.path then x.weight else 0 in
    omega (arith, sum_by-cons f node (xs ++ ys), sum_by-append f xs ys)

-- what has to stay with a node is joined to the one that it is joined to
core_joined : (all : List Placed) (top way : List ℕ) (s : Sketch) → clusters_down all top way ≡ true → AreAmong (placed_in (top ++ way) s) all → core true s ≤ joined all top (placed_in (top ++ way) s)
core_joined all top way Empty down among = omega arith
core_joined all top way (Plant p w e b s) down among =
    let path = top ++ way in
    let node : Placed = record { path = path ++ p ∷ []; weight = w; entry = e } in
    let bs = placed_in (path ++ p ∷ []) b in
    let ss = placed_in path s in
    let parts = joined_parts all top node bs ss in
    let beside = core_joined all top way s down (λ x c. among x (contains_there node (bs ++ ss) x (Contains-append_right bs ss x c))) in
    by (is_cluster e) refl
    (λ is.
    let at : is_cluster_at all (path ++ p ∷ []) ≡ true = cluster_there all node (among node (contains_here node (bs ++ ss) node refl)) is in
    let longer = clusters_push all top way p down at in
    let same : top ++ (way ++ p ∷ []) ≡ path ++ p ∷ [] = sym (append_assoc top way (p ∷ [])) in
    let here : is_joined all top (path ++ p ∷ []) ≡ true = ap (is_joined all top) (sym same) ∙ joined_way all top (way ++ p ∷ []) longer in
    let below : core true b ≤ joined all top bs = subst (λ q. core true b ≤ joined all top (placed_in q b)) same (core_joined all top (way ++ p ∷ []) b longer (subst (λ q. AreAmong (placed_in q b) all) (sym same) (λ x c. among x (contains_there node (bs ++ ss) x (Contains-append_left bs ss x c))))) in
    omega (arith, parts, beside, below, if_true (is_joined all top (path ++ p ∷ [])) w 0 here, if_true (is_cluster e) (w + core true b) 0 is))
    (λ is. omega (arith, parts, beside, if_false (is_cluster e) (w + core true b) 0 is))
  where
    by : (t : Bool) → is_cluster e ≡ t → (is_cluster e ≡ true → core true (Plant p w e b s) ≤ joined all top (placed_in (top ++ way) (Plant p w e b s))) → (is_cluster e ≡ false → core true (Plant p w e b s) ≤ joined all top (placed_in (top ++ way) (Plant p w e b s))) → core true (Plant p w e b s) ≤ joined all top (placed_in (top ++ way) (Plant p w e b s))
    by true is f g = f is
    by false is f g = g is

five : (f : Placed → ℕ) (front : List Placed) (node : Placed) (bs ss back : List Placed) → sum_by f (front ++ node ∷ (bs ++ (ss ++ back))) ≡ sum_by f front + f node + sum_by f bs + sum_by f ss + sum_by f back
five f front node bs ss back =
    omega (arith, sum_by-append f front (node ∷ (bs ++ (ss ++ back))), sum_by-cons f node (bs ++ (ss ++ back)), sum_by-append f bs (ss ++ back), sum_by-append f ss back)

not_cluster : (e : Entry) → is_cluster e ≡ false → ¬ (e ≡ Cluster)
not_cluster Standalone h = λ e. cc
not_cluster Cluster h = absurd (cc)
not_cluster Free h = λ e. cc

own_top : (k : ℕ) (all front back : List Placed) (path : List ℕ) (p w : ℕ) (e : Entry) (b s : Sketch) → AreComponentsLight k all → all ≡ front ++ record { path = path ++ p ∷ []; weight = w; entry = e } ∷ (placed_in (path ++ p ∷ []) b ++ (placed_in path s ++ back)) → AreAmong (placed_in path (Plant p w e b s)) all
    → is_cluster e ≡ false → w + core true b ≤ k
own_top k all front back path p w e b s light is among goes =
    let here = path ++ p ∷ [] in
    let node : Placed = record { path = here; weight = w; entry = e } in
    let bs = placed_in here b in
    let ss = placed_in path s in
    let f = λ (x : Placed). if is_joined all here x.path then x.weight else 0 in
    let within = light node (among node (contains_here node (bs ++ ss) node refl)) (not_cluster e goes) in
    let nil : here ++ [] ≡ here = append-nil here in
    let own : is_joined all here here ≡ true = ap (is_joined all here) (sym nil) ∙ joined_way all here [] refl in
    let below : core true b ≤ joined all here bs = subst (λ q. core true b ≤ joined all here (placed_in q b)) nil (core_joined all here [] b refl (subst (λ q. AreAmong (placed_in q b) all) (sym nil) (λ x c. among x (contains_there node (bs ++ ss) x (Contains-append_left bs ss x c))))) in
    let sum : component_weight all here ≡ sum_by f front + f node + sum_by f bs + sum_by f ss + sum_by f back = ap (sum_by f) is ∙ five f front node bs ss back in
    let mine : f node ≡ w = if_true (is_joined all here here) w 0 own in
    omega (arith, within, below, sum, mine)

-- nothing that has to stay together is too heavy
tops_in : (k : ℕ) (all front back : List Placed) (path : List ℕ) (s : Sketch) → AreComponentsLight k all → all ≡ front ++ (placed_in path s ++ back) → AreAmong (placed_in path s) all → AreTopsLight k true s
tops_in k all front back path Empty light is among = tt
tops_in k all front back path (Plant p w e b s) light is among =
    let here = path ++ p ∷ [] in
    let node : Placed = record { path = here; weight = w; entry = e } in
    let bs = placed_in here b in
    let ss = placed_in path s in
    let whole : all ≡ front ++ node ∷ (bs ++ (ss ++ back)) = is ∙ ap (λ l. front ++ node ∷ l) (append_assoc bs ss back) in
    let split : all ≡ (front ++ node ∷ []) ++ (bs ++ (ss ++ back)) = whole ∙ sym (append_assoc front (node ∷ []) (bs ++ (ss ++ back))) in
    let rest : all ≡ (front ++ node ∷ bs) ++ (ss ++ back) = whole ∙ sym (append_assoc front (node ∷ bs) (ss ++ back)) in (
      own_top k all front back path p w e b s light whole among,
      tops_in k all (front ++ node ∷ []) (ss ++ back) here b light split (λ x c. among x (contains_there node (bs ++ ss) x (Contains-append_left bs ss x c))),
      tops_in k all (front ++ node ∷ bs) back path s light rest (λ x c. among x (contains_there node (bs ++ ss) x (Contains-append_right bs ss x c))),
    )

pub light_tops : (k : ℕ) (s : Sketch) → AreComponentsLight k (placed s) → AreTopsLight k true s
light_tops k s light = tops_in k (placed s) [] [] [] s light (sym (append-nil (placed s))) (λ x c. c)
