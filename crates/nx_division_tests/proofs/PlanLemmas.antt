-- What the tests of a plan, of clusters and of neighbours decide.
use Rattle.std.proofs.Common.{◌≡◌, ℕ, ◌+◌, ◌-◌, ◌<◌, ◌≤◌, eqb, leb, ltb, ◌&&◌, ◌||◌, not, List, [], ◌∷◌, ◌++◌, length, take, Some, refl, sym, ap, subst, ◌∙◌, arith}
use Rattle.std.specs.Bool.{Decides, IsTrue}
use Rattle.std.specs.List.{AllPairs, Contains, enumerate_from, list_all, list_any, range_with_len, slice_get}
use Rattle.std.specs.Str.{bytes_eq}
use Rattle.std.proofs.lemmas.Bool.{false≢true}
use Rattle.std.proofs.lemmas.Bool.Decides.{Decides-and, Decides-eqb, Decides-like, Decides-ltb, Decides-not}
use Rattle.std.proofs.lemmas.Slice.Eq.{bytes_eq-Decides}
use Rattle.nx_matrix.specs.declared.rule.Entry.{Entry}
use Rattle.nx_matrix.specs.declared.rule.Entry.TheVariants.{Standalone, Cluster, Free}
use Rattle.nx_tree.specs.Document.{is_empty}
use Rattle.nx_parts.specs.declared.interval.Interval.{Interval}
use Rattle.nx_parts.specs.declared.interval.Interval.TheVariants.{Root, Run}
use Rattle.nx_parts.specs.Partitioning.{ShareMember, has_member, owner}
use Rattle.nx_sketch.specs.Sketch.{Placed}
use Rattle.nx_sketch.specs.Plan.{AreComponentsLight, AreNeighboursFull, HasEntry, IsAlone, IsFeasiblePlan, IsHeld, IsInside, IsOrdinary, HasNodeAt, IsPlanOfPart, KeepsClusters, component_weight, is_cluster, placed_part_weight}
use Rattle.nx_division_tests.specs.Tests.{alone_member, alone_test, apart_test, beside_test, feasible_test, full_test, inside_test, is_standalone, kept_test, light_test, neighbours_test, ordinary_test, pairs_test, placed_test, plan_test, rooted_test, same_place, share_test}
use Rattle.nx_division_tests.proofs.TestLemmas.{Decides-implies, Decides-implies_unless, Decides-leb, Decides-unless, all_decides, any_decides, each_decides, pairs_decides, places_decide, range_decides}
use Rattle.nx_division_tests.proofs.PathLemmas.{AreBeside, beside_decides, end_of, front_of, lone_decides, not_empty, same_place-Decides, share_decides}

pub standalone_decides : (e : Entry) → Decides (is_standalone e) (e ≡ Standalone)
standalone_decides Standalone = (λ _. refl, λ _. refl)
standalone_decides Cluster = (λ h. absurd (false≢true h), λ e. cc)
standalone_decides Free = (λ h. absurd (false≢true h), λ e. cc)

pub cluster_decides : (e : Entry) → Decides (is_cluster e) (e ≡ Cluster)
cluster_decides Standalone = (λ h. absurd (false≢true h), λ e. cc)
cluster_decides Cluster = (λ _. refl, λ _. refl)
cluster_decides Free = (λ h. absurd (false≢true h), λ e. cc)

pub placed_decides : (nodes : List Placed) (path : List ℕ) → Decides (placed_test nodes path) (HasNodeAt nodes path)
placed_decides nodes path = any_decides (λ (n : Placed). bytes_eq n.path path) (λ (n : Placed). n.path ≡ path) (λ n. bytes_eq-Decides n.path path) nodes

pub inside_decides : (nodes : List Placed) (interval : Interval) → Decides (inside_test nodes interval) (IsInside nodes interval)
inside_decides nodes Root = (λ h. absurd (false≢true h), λ h. absurd h)
inside_decides nodes (Run parent first last) =
    Decides-like (inside_test nodes (Run parent first last))
    (λ h. (h.0, λ i low high. let le = h.0 in h.1 i low (omega arith)))
    (λ h. (h.0, λ i low high. h.1 i low (let le = h.0 in omega arith)))
    (Decides-and (leb first last) (list_all (λ i. placed_test nodes (parent ++ i ∷ [])) (range_with_len first (last + 1 - first))) (Decides-leb first last)
    (range_decides (λ i. placed_test nodes (parent ++ i ∷ [])) (λ i. HasNodeAt nodes (parent ++ i ∷ [])) (λ i. placed_decides nodes (parent ++ i ∷ [])) first (last + 1 - first)))

disjoint_decides : (parts : List Interval) → Decides (pairs_test apart_test parts) (AllPairs (λ a b. ¬ ShareMember a b) parts)
disjoint_decides parts = pairs_decides apart_test (λ a b. ¬ ShareMember a b) (λ a b. Decides-not (share_test a b) (share_decides a b)) parts

one_step : (path : List ℕ) → length path ≡ 1 → (position : ℕ) × (path ≡ position ∷ [])
one_step [] e = absurd (omega arith)
one_step (x ∷ []) e = (x, refl)
one_step (x ∷ y ∷ xs) e = absurd (omega arith)

held_decides : (parts : List Interval) (path : List ℕ) → Decides (list_any (λ interval. has_member interval path) parts) (IsHeld parts path)
held_decides parts path = any_decides (λ interval. has_member interval path) (λ interval. IsTrue (has_member interval path)) (λ interval. (λ h. h, λ h. h)) parts

rooted_decides : (nodes : List Placed) (parts : List Interval) → Decides (list_all (rooted_test parts) nodes) ((position : ℕ) → HasNodeAt nodes (position ∷ []) → IsHeld parts (position ∷ []))
rooted_decides nodes parts =
    Decides-like (list_all (rooted_test parts) nodes)
    (λ h position at. subst (IsHeld parts) at.2 (h at.0 at.1 (ap length at.2)))
    (λ f node c len. let r = one_step node.path len in subst (IsHeld parts) (sym r.1) (f r.0 (node, c, r.1)))
    (each_decides (rooted_test parts) (λ (n : Placed). length n.path ≡ 1 → IsHeld parts n.path)
    (λ n. Decides-implies (eqb (length n.path) 1) (list_any (λ interval. has_member interval n.path) parts) (Decides-eqb (length n.path) 1) (held_decides parts n.path)) nodes)

-- a node with this path, as a child, is an interval alone
abbrev pub IsLone : List Interval → List ℕ → Type 0
IsLone parts path = (interval : Interval) × Contains parts interval × IsTrue (alone_member path interval)

alone_decides : (nodes : List Placed) (parts : List Interval) → Decides (list_all (alone_test parts) nodes) ((parent : List ℕ) (position : ℕ) → HasEntry nodes (parent ++ position ∷ []) Standalone → IsAlone parts parent position)
alone_decides nodes parts =
    Decides-like (list_all (alone_test parts) nodes)
    (λ h parent position at.
    let lone : IsLone parts (parent ++ position ∷ []) = subst (IsLone parts) at.2 (h at.0 at.1 at.3 (λ e. not_empty parent position (subst (λ q. IsTrue (is_empty q)) at.2 e))) in
    subst (Contains parts) ((lone_decides parent position lone.0).0 lone.2) lone.1)
    (λ f node c s n.
    let r = end_of node.path n in
    let at = f r.0 r.1 (node, c, r.2, s) in
    (Run r.0 r.1 r.1, at, subst (λ q. IsTrue (alone_member q (Run r.0 r.1 r.1))) (sym r.2) ((lone_decides r.0 r.1 (Run r.0 r.1 r.1)).1 refl)))
    (each_decides (alone_test parts) (λ (n : Placed). n.entry ≡ Standalone → ¬ IsTrue (is_empty n.path) → IsLone parts n.path)
    (λ n. Decides-implies_unless (is_standalone n.entry) (is_empty n.path) (list_any (alone_member n.path) parts) (standalone_decides n.entry) (λ h. h, λ h. h)
    (any_decides (alone_member n.path) (λ interval. IsTrue (alone_member n.path interval)) (λ interval. (λ h. h, λ h. h)) parts)) nodes)

pub plan_decides : (nodes : List Placed) (parts : List Interval) → Decides (plan_test nodes parts) (IsPlanOfPart nodes parts)
plan_decides nodes parts =
    let a = list_all (inside_test nodes) parts in let b = pairs_test apart_test parts in
    let c = list_all (rooted_test parts) nodes in let d = list_all (alone_test parts) nodes in
    Decides-like (plan_test nodes parts) (λ h. record { inside = h.0.0.0; disjoint = h.0.0.1; rooted = h.0.1; alone = h.1 }) (λ p. (((p.inside, p.disjoint), p.rooted), p.alone))
    (Decides-and (a && b && c) d (Decides-and (a && b) c (Decides-and a b (all_decides (inside_test nodes) (IsInside nodes) (inside_decides nodes) parts) (disjoint_decides parts)) (rooted_decides nodes parts)) (alone_decides nodes parts))

pub feasible_decides : (k : ℕ) (nodes : List Placed) (parts : List Interval) → Decides (feasible_test k nodes parts) (IsFeasiblePlan k nodes parts)
feasible_decides k nodes parts =
    let light = λ (index : ℕ). leb (placed_part_weight nodes parts index) k in
    Decides-like (feasible_test k nodes parts)
    (λ h. record { plan = h.0; light = λ index within. h.1 index (omega arith) (omega arith) })
    (λ p. (p.plan, λ index low high. p.light index (omega arith)))
    (Decides-and (plan_test nodes parts) (list_all light (range_with_len 0 (length parts))) (plan_decides nodes parts)
    (range_decides light (λ index. placed_part_weight nodes parts index ≤ k) (λ index. Decides-leb (placed_part_weight nodes parts index) k) 0 (length parts)))

-- a cluster child has its parent's owner
pub kept_decides : (nodes : List Placed) (parts : List Interval) → Decides (list_all (kept_test parts) nodes) (KeepsClusters nodes parts)
kept_decides nodes parts =
    let above = λ (q : List ℕ). owner parts (take (length q - 1) q) in
    let IsKept : List ℕ → Type 0 = λ q. owner parts q ≡ above q in
    Decides-like (list_all (kept_test parts) nodes)
    (λ h parent position at.
    let kept : IsKept (parent ++ position ∷ []) = subst IsKept at.2 (h at.0 at.1 at.3 (λ e. not_empty parent position (subst (λ q. IsTrue (is_empty q)) at.2 e))) in
    kept ∙ ap (owner parts) (front_of parent position))
    (λ f node c s n.
    let r = end_of node.path n in
    subst IsKept (sym r.2) (f r.0 r.1 (node, c, r.2, s) ∙ ap (owner parts) (sym (front_of r.0 r.1))))
    (each_decides (kept_test parts) (λ (n : Placed). n.entry ≡ Cluster → ¬ IsTrue (is_empty n.path) → IsKept n.path)
    (λ n. Decides-implies_unless (is_cluster n.entry) (is_empty n.path) (same_place (owner parts n.path) (above n.path)) (cluster_decides n.entry) (λ h. h, λ h. h)
    (same_place-Decides (owner parts n.path) (above n.path))) nodes)

pub light_decides : (k : ℕ) (nodes : List Placed) → Decides (list_all (light_test k nodes) nodes) (AreComponentsLight k nodes)
light_decides k nodes =
    each_decides (light_test k nodes) (λ (n : Placed). ¬ (n.entry ≡ Cluster) → component_weight nodes n.path ≤ k)
    (λ n. Decides-unless (is_cluster n.entry) (leb (component_weight nodes n.path) k) (cluster_decides n.entry) (Decides-leb (component_weight nodes n.path) k)) nodes

pub ordinary_decides : (nodes : List Placed) (interval : Interval) → Decides (ordinary_test nodes interval) (IsOrdinary nodes interval)
ordinary_decides nodes interval =
    Decides-like (ordinary_test nodes interval)
    (λ h path m at. h at.0 at.1 at.3 (subst (λ q. IsTrue (has_member interval q)) (sym at.2) m))
    (λ f node c s m. f node.path m (node, c, refl, s))
    (each_decides (λ (n : Placed). not (is_standalone n.entry) || not (has_member interval n.path)) (λ (n : Placed). n.entry ≡ Standalone → ¬ IsTrue (has_member interval n.path))
    (λ n. Decides-implies (is_standalone n.entry) (not (has_member interval n.path)) (standalone_decides n.entry) (Decides-not (has_member interval n.path) (λ h. h, λ h. h))) nodes)

-- two intervals, by their places, that have to be full where they are neighbours
abbrev pub IsPairFull : ℕ → List Placed → List Interval → ℕ × Interval → ℕ × Interval → Type 0
IsPairFull k nodes parts one other =
    (AreBeside one.1 other.1 × IsOrdinary nodes one.1) × IsOrdinary nodes other.1 → k < placed_part_weight nodes parts one.0 + placed_part_weight nodes parts other.0

pair_decides : (k : ℕ) (nodes : List Placed) (parts : List Interval) (one other : ℕ × Interval) → Decides (full_test k nodes parts one other) (IsPairFull k nodes parts one other)
pair_decides k nodes parts one other =
    let sum = placed_part_weight nodes parts one.0 + placed_part_weight nodes parts other.0 in
    let beside = beside_test one.1 other.1 in let first = ordinary_test nodes one.1 in let second = ordinary_test nodes other.1 in
    Decides-implies (beside && first && second) (ltb k sum)
    (Decides-and (beside && first) second (Decides-and beside first (beside_decides one.1 other.1) (ordinary_decides nodes one.1)) (ordinary_decides nodes other.1))
    (Decides-ltb k sum)

pub neighbours_decides : (k : ℕ) (nodes : List Placed) (parts : List Interval) → Decides (neighbours_test k nodes parts) (AreNeighboursFull k nodes parts)
neighbours_decides k nodes parts =
    let all = λ (one : ℕ × Interval). list_all (full_test k nodes parts one) (enumerate_from 0 parts) in
    let IsFull : ℕ × Interval → Type 0 = λ one. (j : ℕ) (y : Interval) → slice_get parts j ≡ Some y → IsPairFull k nodes parts one (j, y) in
    Decides-like (neighbours_test k nodes parts)
    (λ h i j parent first last end a b o p. h i (Run parent first last) a j (Run parent (last + 1) end) b (((parent, first, last, end, refl, refl), o), p))
    (λ f i x a j y b h.
    let s = h.0.0 in
    f i j s.0 s.1 s.2 s.3 (a ∙ ap Some s.4) (b ∙ ap Some s.5) (subst (IsOrdinary nodes) s.4 h.0.1) (subst (IsOrdinary nodes) s.5 h.1))
    (places_decide all IsFull (λ one. places_decide (full_test k nodes parts one) (IsPairFull k nodes parts one) (pair_decides k nodes parts one) parts) parts)
