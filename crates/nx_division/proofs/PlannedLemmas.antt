-- The intervals of the separator's plan are all drawn.
use Rattle.std.proofs.Common.{◌≡◌, ◌≢◌, ℕ, ◌+◌, ◌-◌, ◌≤◌, Bool, true, false, nat_le, IsTrue, List, [], ◌∷◌, ◌++◌, get_or, Option, None, Some, refl, sym, ap, subst, ◌∙◌, arith, append_assoc, ◌⊎◌, inl, inr}
use Rattle.std.specs.Prelude.{Contains}
use Rattle.std.specs.List.{AllByRecursion}
use Rattle.std.proofs.lemmas.Bool.{cases_lt}
use Rattle.nx_lists.proofs.ListLemmas.{contains_parts}
use Rattle.nx_matrix.specs.declared.rule.Entry.{Entry}
use Rattle.nx_matrix.specs.declared.rule.Entry.TheVariants.{Standalone, Cluster, Free}
use Rattle.nx_parts.specs.declared.interval.Interval.{Interval}
use Rattle.nx_parts.specs.declared.interval.Interval.TheVariants.{Root, Run}
use Rattle.nx_parts.specs.Partitioning.{has_member, holder}
use Rattle.nx_cuts.proofs.PairLemmas.{PairsBy, both, weaker, pairs-append}
use Rattle.nx_cuts.proofs.FeasibleLemmas.{child_reaches, deeper, same_step}
use Rattle.nx_sketch.specs.Sketch.{Sketch, Empty, Plant, Placed, placed, placed_in, sketch_weight, AreRising, AreUnclustered, IsSketch}
use Rattle.nx_sketch.specs.Plan.{HasEntry}
use Rattle.nx_sketch.specs.Separator.{is_marked, IsLoose, IsSingle, IsSeparatorRun, IsSeparatorPlan}
use Rattle.nx_sketch.proofs.MarkLemmas.{all_weighed, placed_from}
use Rattle.nx_division.specs.declared.cut.Cut.{Cut}
use Rattle.nx_division.specs.declared.cut.Cut.TheVariants.{Stays, Begins, GoesOn}
use Rattle.nx_division.specs.declared.separate.Side.{Side}
use Rattle.nx_division.specs.declared.separate.Kind.TheVariants.{Loose, Inner}
use Rattle.nx_division.specs.Drawn.{Drawn, Grown, interval_count, drawn_intervals}
use Rattle.nx_division.specs.Divided.{separator_plan}
use Rattle.nx_division.specs.Separated.{mark_by, spot_kind, cut_of, side_of, separated}
use Rattle.nx_division.proofs.NumberLemmas.{IsNumbered}
use Rattle.nx_division.proofs.WeightLemmas.{IsWhole, whole_numbered}
use Rattle.nx_division.proofs.PlanLemmas.{all_of, last_same, holder_member, drawn_order}
use Rattle.nx_division.proofs.SeparatedLemmas.{bare-separated, rises_bare, sound-separated, is_loose_kind, kind_inner, stays_cut}
use Rattle.nx_division.proofs.RunLemmas.{IsRow, here_marked, row_below, row_beside, runs_are}

-- a node that the separator's plan makes a member of an interval
abbrev pub IsAsked : List Placed → ℕ → ℕ → Placed → List ℕ → Type 0
IsAsked all t tol node parent = (node.entry ≡ Standalone) ⊎ (parent ≡ []) ⊎ ((node.entry ≡ Free) × (is_marked all t tol node.path ≡ false) × (is_marked all t tol parent ≡ true))

abbrev pub HeldIfAsked : List Placed → ℕ → ℕ → (List ℕ → Option ℕ) → Placed → Type 0
HeldIfAsked all t tol h node = (parent : List ℕ) (i : ℕ) → node.path ≡ parent ++ i ∷ [] → IsAsked all t tol node parent → (place : ℕ) × (h node.path ≡ Some place)

-- what is known of a row: its parent is the helper exactly where its nodes are roots, and opens it where it is marked
pub record IsOpen (all : List Placed) (t tol : ℕ) (path : List ℕ) (root wide : Bool) (s : Sketch) : Type 0 where
  pub helper : path ≡ [] → (root ≡ true) × (wide ≡ true) × AreUnclustered s
  pub marked : is_marked all t tol path ≡ true → wide ≡ true

held_by : (h : List ℕ → Option ℕ) (run base : ℕ) (path : List ℕ) (p w : ℕ) (e : Entry) (bd sd : Drawn) (cut : Cut) → cut ≢ Stays → IsNumbered h run base path (Grown p w e cut bd sd) → (place : ℕ) × (h (path ++ p ∷ []) ≡ Some place)
held_by h run base path p w e bd sd Stays n x = absurd (n refl)
held_by h run base path p w e bd sd Begins n x = (base, x.0)
held_by h run base path p w e bd sd GoesOn n x = (run, x.0)

below_numbered : (h : List ℕ → Option ℕ) (run base : ℕ) (path : List ℕ) (p w : ℕ) (e : Entry) (bd sd : Drawn) (cut : Cut) → IsNumbered h run base path (Grown p w e cut bd sd) → (n : ℕ) × IsNumbered h 0 n (path ++ p ∷ []) bd
below_numbered h run base path p w e bd sd Stays x = (base, x.1)
below_numbered h run base path p w e bd sd Begins x = (base + 1, x.1)
below_numbered h run base path p w e bd sd GoesOn x = (base, x.1)

beside_numbered : (h : List ℕ → Option ℕ) (run base : ℕ) (path : List ℕ) (p w : ℕ) (e : Entry) (bd sd : Drawn) (cut : Cut) → IsNumbered h run base path (Grown p w e cut bd sd) → (r : ℕ) × (n : ℕ) × IsNumbered h r n path sd
beside_numbered h run base path p w e bd sd Stays x = (0, base + interval_count bd, x.2)
beside_numbered h run base path p w e bd sd Begins x = (base, base + 1 + interval_count bd, x.2)
beside_numbered h run base path p w e bd sd GoesOn x = (run, base + interval_count bd, x.2)

-- such a node isn't left with its parent
asked_kind : (e : Entry) (root wide m : Bool) → spot_kind e root wide m ≡ Inner → (e ≡ Standalone) ⊎ (((root ≡ true) × (wide ≡ true) × (e ≢ Cluster)) ⊎ ((e ≡ Free) × (m ≡ false) × (wide ≡ true))) → ⊥
asked_kind e root wide m k (inl alone) = kind_inner e root wide m k alone
asked_kind e root wide m k (inr (inr loose)) = let z = sym (is_loose_kind e root wide m loose.0 loose.2 loose.1) ∙ k in loose_inner z
  where
    loose_inner : Loose ≡ Inner → ⊥
    loose_inner z = cc
asked_kind Standalone root wide m k (inr (inl top)) = kind_inner Standalone root wide m k refl
asked_kind Cluster root wide m k (inr (inl top)) = top.2 refl
asked_kind Free true true true k (inr (inl top)) = cc
asked_kind Free true true false k (inr (inl top)) = cc
asked_kind Free false wide m k (inr (inl top)) = let f = top.0 in cc
asked_kind Free true false m k (inr (inl top)) = let f = top.1 in cc

module _ (all : List Placed) (t tol : ℕ) (h : List ℕ → Option ℕ) where
  here_held : (run base : ℕ) (path : List ℕ) (a low : ℕ) (root wide : Bool) (side : Option Side) (p w : ℕ) (e : Entry) (b s : Sketch) → IsRow all t tol path a low root wide side (Plant p w e b s) → IsOpen all t tol path root wide (Plant p w e b s)
      → IsNumbered h run base path (separated t tol a root wide side (Plant p w e b s)) → HeldIfAsked all t tol h (record { path = path ++ p ∷ []; weight = w; entry = e })
  here_held run base path a low root wide side p w e b s r o n parent i is asked =
      let m = mark_by t tol a (w + sketch_weight b) in
      let k = spot_kind e root wide m in
      let same : path ≡ parent = (last_same path parent p i is).0 in
      let here = here_marked all t tol path a low root wide side p w e b s r in
      held_by h run base path p w e _ _ (cut_of k side p (nat_le (a + (w + sketch_weight b)) t))
      (λ st. asked_kind e root wide m (stays_cut k side p (nat_le (a + (w + sketch_weight b)) t) st)
      (elim asked [
        | inl alone ↦ inl alone
        | inr other ↦ elim other [
          | inl top ↦ let f = o.helper (same ∙ top) in inr (inl (f.0, f.1, f.2.0))
          | inr loose ↦ inr (inr (loose.0, sym here ∙ loose.1, o.marked (ap (is_marked all t tol) same ∙ loose.2)))
        ]
      ]))
      n

  pub held_asked : (run base : ℕ) (path : List ℕ) (a low : ℕ) (root wide : Bool) (side : Option Side) (s : Sketch) → IsRow all t tol path a low root wide side s → IsOpen all t tol path root wide s
      → IsNumbered h run base path (separated t tol a root wide side s) → AllByRecursion (HeldIfAsked all t tol h) (placed_in path s)
  held_asked run base path a low root wide side Empty r o n = tt
  held_asked run base path a low root wide side (Plant p w e b s) r o n =
      let m = mark_by t tol a (w + sketch_weight b) in
      let k = spot_kind e root wide m in
      let cut = cut_of k side p (nat_le (a + (w + sketch_weight b)) t) in
      let nb = below_numbered h run base path p w e _ _ cut n in
      let ns = beside_numbered h run base path p w e _ _ cut n in (
        here_held run base path a low root wide side p w e b s r o n,
        both (HeldIfAsked all t tol h) (placed_in (path ++ p ∷ []) b) (placed_in path s)
            (held_asked 0 nb.0 (path ++ p ∷ []) (a + w) 0 false m None b (row_below all t tol path a low root wide side p w e b s r)
            (record { helper = λ none. absurd (not_nil path p none); marked = λ is. sym (here_marked all t tol path a low root wide side p w e b s r) ∙ is })
            nb.1)
            (held_asked ns.0 ns.1 path (a + (w + sketch_weight b)) (p + 1) root wide (side_of k p (nat_le (a + (w + sketch_weight b)) t)) s (row_beside all t tol path a low root wide side p w e b s r)
            (record { helper = λ none. let f = o.helper none in (f.0, f.1, f.2.1); marked = o.marked })
            ns.2),
      )
    where
      not_nil : (path : List ℕ) (p : ℕ) → path ++ p ∷ [] ≡ [] → ⊥
      not_nil [] p e = cc
      not_nil (x ∷ path) p e = cc

-- no two nodes have one path
distinct : (low : ℕ) (path : List ℕ) (s : Sketch) → AreRising low s → PairsBy (λ (a b : Placed). a.path ≢ b.path) (placed_in path s)
distinct low path Empty r = tt
distinct low path (Plant p w e b s) r =
    let fb = placed_from 0 (path ++ p ∷ []) b r.1 in
    let fs = placed_from (p + 1) path s r.2 in (
      both _ (placed_in (path ++ p ∷ []) b) (placed_in path s)
          (weaker _ (placed_in (path ++ p ∷ []) b) (λ x f same. deeper path p p f.0 f.1 (same ∙ f.2 ∙ append_assoc path (p ∷ []) (f.0 ∷ f.1))) fb)
          (weaker _ (placed_in path s) (λ x f same. let step = same_step path p f.0 [] f.1 (same ∙ f.2) in let far = f.3 in omega arith) fs),
      pairs-append (λ (a b : Placed). a.path ≢ b.path) (placed_in (path ++ p ∷ []) b) (placed_in path s) fb fs
          (λ x y f g same. let step = same_step path p g.0 (f.0 ∷ f.1) g.1 (sym (f.2 ∙ append_assoc path (p ∷ []) (f.0 ∷ f.1)) ∙ same ∙ g.2) in let far = g.3 in omega arith)
          (distinct 0 (path ++ p ∷ []) b r.1) (distinct (p + 1) path s r.2),
    )

one_path : (xs : List Placed) → PairsBy (λ (a b : Placed). a.path ≢ b.path) xs → (x y : Placed) → Contains xs x → Contains xs y → x.path ≡ y.path → x ≡ y
one_path [] p x y cx cy same = absurd (let lt = cx.1 in omega arith)
one_path (z ∷ zs) p x y cx cy same = elim (contains_parts z zs x cx) [
  | inl zx ↦ elim (contains_parts z zs y cy) [
    | inl zy ↦ sym zx ∙ zy
    | inr later ↦ absurd (all_of _ zs p.0 y later (ap (λ (n : Placed). n.path) zx ∙ same))
  ]
  | inr later ↦ elim (contains_parts z zs y cy) [
    | inl zy ↦ absurd (all_of _ zs p.0 x later (ap (λ (n : Placed). n.path) zy ∙ sym same))
    | inr also ↦ one_path zs p.1 x y later also same
  ]
]

module _ (s : Sketch) (t tol : ℕ) (r : AreRising 0 s) where
  -- a node has one entry
  one_entry : (q : List ℕ) (x y : Entry) → HasEntry (placed s) q x → HasEntry (placed s) q y → x ≡ y
  one_entry q x y a b =
      let same = one_path (placed s) (distinct 0 [] s r) a.0 b.0 a.1 b.1 (a.2 ∙ sym b.2) in
      sym a.3 ∙ ap (λ (n : Placed). n.entry) same ∙ b.3

  single_not_loose : (parent : List ℕ) (i : ℕ) (x : Bool) → IsSingle (placed s) t tol parent i → IsLoose (placed s) t tol x (parent ++ i ∷ []) → ⊥
  single_not_loose parent i x (inl alone) loose = let e = one_entry (parent ++ i ∷ []) Standalone Free alone loose.free in alone_free e
    where
      alone_free : Standalone ≡ Free → ⊥
      alone_free e = cc
  single_not_loose parent i x (inr root) loose =
      let m : is_marked (placed s) t tol (parent ++ i ∷ []) ≡ true = ap (λ q. is_marked (placed s) t tol (q ++ i ∷ [])) root.0 ∙ root.2 in
      true_false (sym m ∙ loose.unmarked)
    where
      true_false : true ≡ false → ⊥
      true_false e = cc

  -- two intervals of the plan with a member in common are one
  same_run : (parent : List ℕ) (f l g m : ℕ) → IsSeparatorRun (placed s) t tol (Run parent f l) → IsSeparatorRun (placed s) t tol (Run parent g m) → g ≤ f → f ≤ m → (g ≡ f) × (m ≡ l)
  same_run parent f l g m (inl one) (inl two) ge le = let x = one.0 in let y = two.0 in (omega arith, omega arith)
  same_run parent f l g m (inl one) (inr row) ge le = absurd (single_not_loose parent f row.left one.1 (row.loose f ge le))
  same_run parent f l g m (inr row) (inl two) ge le =
      let y = two.0 in
      let same : g ≡ f = omega arith in
      absurd (single_not_loose parent f row.left (subst (IsSingle (placed s) t tol parent) same two.1) (row.loose f (omega arith) row.some))
  same_run parent f l g m (inr row) (inr other) ge le =
      let here = row.loose f (omega arith) row.some in
      let there = other.loose f ge le in
      let side : other.left ≡ row.left = sym there.side ∙ here.side in
      let begin : g ≡ f = elim (cases_lt g f) [
        | inl lt ↦
            let q : f - 1 + 1 ≡ f = omega arith in
            absurd (row.begins (f - 1) q (subst (λ x. IsLoose (placed s) t tol x (parent ++ (f - 1) ∷ [])) side (other.loose (f - 1) (omega arith) (omega arith))))
        | inr more ↦ omega arith
      ] in
      let end : m ≡ l = elim (cases_lt l m) [
        | inl lt ↦ absurd (row.ends (subst (λ x. IsLoose (placed s) t tol x (parent ++ (l + 1) ∷ [])) side (other.loose (l + 1) (let some = row.some in omega arith) (omega arith))))
        | inr more ↦ elim (cases_lt m l) [
          | inl lt ↦ absurd (other.ends (subst (λ x. IsLoose (placed s) t tol x (parent ++ (m + 1) ∷ [])) (sym side) (row.loose (m + 1) (omega arith) (omega arith))))
          | inr less ↦ omega arith
        ]
      ] in (begin, end)

-- the whole sketch, as a row below the helper
pub top_row : (s : Sketch) (t tol : ℕ) → IsSketch s → IsRow (placed s) t tol [] 0 0 true true None s
top_row s t tol h = record {
  rising = h.rising;
  weighed = all_weighed s h.rising;
  among = λ x c. c;
  only = λ node c q way is le. c;
  top = λ is. refl;
  opens = λ is. inl refl;
  near = λ is q x next. absurd (omega arith);
}

pub separator_whole : (s : Sketch) (t tol : ℕ) → IsSketch s → IsWhole (separator_plan s t tol)
separator_whole s t tol h = record {
  rises = rises_bare 0 (separator_plan s t tol) (subst (AreRising 0) (sym (bare-separated t tol 0 true true None s)) h.rising);
  sound = sound-separated t tol 0 true true None s;
}

-- each interval of the plan is drawn
all_drawn : (s : Sketch) (t tol : ℕ) → IsSketch s → (x : Interval) → IsSeparatorRun (placed s) t tol x → Contains (drawn_intervals [] (separator_plan s t tol)) x
all_drawn s t tol h Root run = absurd run
all_drawn s t tol h (Run parent f l) run =
    let d = separator_plan s t tol in
    let parts = drawn_intervals [] d in
    let all = placed s in
    let row = top_row s t tol h in
    let claims = held_asked all t tol (holder parts) 0 0 [] 0 0 true true None s row (record { helper = λ none. (refl, refl, h.unclustered); marked = λ is. refl }) (whole_numbered d (separator_whole s t tol h)) in
    let asked : (node : Placed) × Contains all node × (node.path ≡ parent ++ f ∷ []) × IsAsked all t tol node parent = by_run run in
    let held = all_of (HeldIfAsked all t tol (holder parts)) all claims asked.0 asked.1 parent f asked.2 asked.3 in
    let member = holder_member parts asked.0.path held.0 held.1 Root in
    found (get_or parts held.0 Root) member.0 (all_of (IsSeparatorRun all t tol) parts (runs_are all t tol [] 0 0 true true None s row) (get_or parts held.0 Root) member.0) (subst (λ q. IsTrue (has_member (get_or parts held.0 Root) q)) asked.2 member.1)
  where
    by_run : IsSeparatorRun (placed s) t tol (Run parent f l) → (node : Placed) × Contains (placed s) node × (node.path ≡ parent ++ f ∷ []) × IsAsked (placed s) t tol node parent
    by_run (inl one) = elim one.1 [
      | inl alone ↦ (alone.0, alone.1, alone.2, inl alone.3)
      | inr root ↦ (root.1.0, root.1.1, root.1.2 ∙ ap (λ q. q ++ f ∷ []) (sym root.0), inr (inl root.0))
    ]
    by_run (inr row) =
        let loose = row.loose f (omega arith) row.some in (
          loose.free.0,
          loose.free.1,
          loose.free.2,
          elim row.opened [
            | inl helper ↦ inr (inl helper)
            | inr marked ↦ inr (inr (loose.free.3, ap (is_marked (placed s) t tol) loose.free.2 ∙ loose.unmarked, marked))
          ],
        )

    found : (x : Interval) → Contains (drawn_intervals [] (separator_plan s t tol)) x → IsSeparatorRun (placed s) t tol x → IsTrue (has_member x (parent ++ f ∷ [])) → Contains (drawn_intervals [] (separator_plan s t tol)) (Run parent f l)
    found Root c is m = absurd is
    found (Run other g n) c is m =
        let reach = child_reaches other g n (parent ++ f ∷ []) m in
        let same = last_same other parent reach.0 f (sym reach.1) in
        let ge : g ≤ f = let x = reach.2 in let y = same.1 in omega arith in
        let le : f ≤ n = let x = reach.3 in let y = same.1 in omega arith in
        let it = same_run s t tol h.rising parent f l g n run (subst (λ q. IsSeparatorRun (placed s) t tol (Run q g n)) same.0 is) ge le in
        subst (Contains (drawn_intervals [] (separator_plan s t tol))) (λ i. Run (same.0 i) (it.0 i) (it.1 i)) c

-- the plan that is drawn is the separator's
pub planned : (s : Sketch) (t tol : ℕ) → IsSketch s → IsSeparatorPlan (placed s) t tol (drawn_intervals [] (separator_plan s t tol))
planned s t tol h = record {
  order = drawn_order (separator_plan s t tol) (separator_whole s t tol h);
  runs = λ x. (
    all_of (IsSeparatorRun (placed s) t tol) (drawn_intervals [] (separator_plan s t tol)) (runs_are (placed s) t tol [] 0 0 true true None s (top_row s t tol h)) x,
    all_drawn s t tol h x,
  );
}
