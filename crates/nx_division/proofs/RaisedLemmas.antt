-- The root of the separator that joins the part above: what is drawn then is the plan without that root's interval.
use Rattle.std.proofs.Common.{◌≡◌, ◌≢◌, ℕ, ◌+◌, ◌<◌, ◌≤◌, Bool, true, false, ◌&&◌, if◌then◌else◌, ◌==◌, nat_le, nat_lt, List, [], ◌∷◌, ◌++◌, length, Option, None, Some, refl, sym, ap, subst, ◌∙◌, arith, append_assoc, length-append, ◌⊎◌, inl, inr}
use Rattle.std.specs.Prelude.{Contains}
use Rattle.std.proofs.lemmas.Bool.{cases_Bool, cases_lt}
use Rattle.std.proofs.lemmas.Bool.Decides.{nat_tests}
use Rattle.nx_matrix.specs.declared.rule.Entry.{Entry}
use Rattle.nx_matrix.specs.declared.rule.Entry.TheVariants.{Standalone, Cluster, Free}
use Rattle.nx_parts.specs.declared.interval.Interval.{Interval}
use Rattle.nx_parts.specs.declared.interval.Interval.TheVariants.{Run}
use Rattle.nx_sketch.specs.Sketch.{Sketch, Empty, Plant, Placed, sketch_weight}
use Rattle.nx_sketch.specs.Plan.{HasNodeAt, HasEntry}
use Rattle.nx_sketch.specs.Separator.{is_marked}
use Rattle.nx_division.specs.declared.cut.Cut.{Cut}
use Rattle.nx_division.specs.declared.cut.Cut.TheVariants.{Stays, Begins, GoesOn}
use Rattle.nx_division.specs.declared.separate.Side.{Side}
use Rattle.nx_division.specs.declared.separate.Kind.TheVariants.{Single}
use Rattle.nx_division.specs.Drawn.{Drawn, Bare, Grown, bare, staying_weight, goes, end_position, drawn_intervals, interval_count, run_of, IsSoundDrawing}
use Rattle.nx_division.specs.Separated.{mark_by, spot_kind, cut_of, side_of, separated}
use Rattle.nx_division.specs.Raised.{may_join, raised_root, raised_plan}
use Rattle.nx_division.proofs.NumberLemmas.{none_some, some_same, length-drawn_intervals}
use Rattle.nx_division.proofs.WeightLemmas.{weight_at, weight-below, weight-above, same_if, goes_none}
use Rattle.nx_division.proofs.PlanLemmas.{alone_end}
use Rattle.nx_division.proofs.SeparatedLemmas.{bare-separated, sound-separated, own_entry, none_before}
use Rattle.nx_division.proofs.RunLemmas.{IsRow, here_placed, here_marked, row_beside}

pub pick_true : {X : Type 0} (b : Bool) (x y : X) → b ≡ true → (if b then x else y) ≡ x
pick_true true x y e = refl
pick_true false x y e = absurd (cc)

pub pick_false : {X : Type 0} (b : Bool) (x y : X) → b ≡ false → (if b then x else y) ≡ y
pick_false true x y e = absurd (cc)
pick_false false x y e = refl

picks_some : (b : Bool) (p q : ℕ) → (if b then Some p else None) ≡ Some q → (b ≡ true) × (p ≡ q)
picks_some true p q e = (refl, some_same e)
picks_some false p q e = absurd (none_some e)

picks_none : (b : Bool) (p : ℕ) → (if b then Some p else None) ≡ None → b ≡ false
picks_none true p e = absurd (none_some (sym e))
picks_none false p e = refl

may_light : (room : ℕ) (e : Entry) (load : ℕ) → may_join room e load ≡ true → (load ≤ room) × (e ≢ Standalone)
may_light room Standalone load h = absurd (cc)
may_light room Cluster load h = ((grind (arith, nat_tests)), λ e. cc)
may_light room Free load h = ((grind (arith, nat_tests)), λ e. cc)

light_may : (room : ℕ) (e : Entry) (load : ℕ) → e ≢ Standalone → load ≤ room → may_join room e load ≡ true
light_may room Standalone load n le = absurd (n refl)
light_may room Cluster load n le = grind (arith, nat_tests)
light_may room Free load n le = grind (arith, nat_tests)

single_kind : (e : Entry) (m : Bool) → m ≡ true → spot_kind e true true m ≡ Single
single_kind Standalone m h = refl
single_kind Cluster true h = refl
single_kind Cluster false h = absurd (cc)
single_kind Free true h = refl
single_kind Free false h = absurd (cc)

-- where no root joins, all stays as it is drawn
pub raised_none : (room t tol a : ℕ) (d : Drawn) → raised_root room t tol a d ≡ None → raised_plan room t tol a d ≡ d
raised_none room t tol a Bare h = refl
raised_none room t tol a (Grown p w e cut b s) h = elim (cases_Bool (mark_by t tol a (w + sketch_weight (bare b)))) [
  | inl m ↦
      let f = picks_none (may_join room e (w + staying_weight b)) p (sym (pick_true (mark_by t tol a (w + sketch_weight (bare b))) _ _ m) ∙ h) in
      pick_true (mark_by t tol a (w + sketch_weight (bare b))) _ _ m ∙ pick_false (may_join room e (w + staying_weight b)) _ _ f
  | inr m ↦
      let rest = raised_none room t tol (a + (w + sketch_weight (bare b))) s (sym (pick_false (mark_by t tol a (w + sketch_weight (bare b))) _ _ m) ∙ h) in
      pick_false (mark_by t tol a (w + sketch_weight (bare b))) _ _ m ∙ ap (Grown p w e cut b) rest
]

-- the intervals of one node more, and what one behind it weighs
one_intervals : (path : List ℕ) (p w : ℕ) (e : Entry) (cut : Cut) (b s : Drawn) → drawn_intervals path (Grown p w e cut b s) ≡ run_of path p cut s ++ (drawn_intervals (path ++ p ∷ []) b ++ drawn_intervals path s)
one_intervals path p w e Stays b s = refl
one_intervals path p w e Begins b s = refl
one_intervals path p w e GoesOn b s = refl

one_weight : (index base n : ℕ) (path : List ℕ) (p w : ℕ) (e : Entry) (cut : Cut) (b s : Drawn) → n ≡ base + length (run_of path p cut s) + interval_count b → n ≤ index → weight_at index base (Grown p w e cut b s) ≡ weight_at index n s
one_weight index base n path p w e Stays b s is le =
    let same : n ≡ base + interval_count b = omega arith in
    omega (arith, weight-above index base b (omega arith), ap (λ m. weight_at index m s) same)
one_weight index base n path p w e Begins b s is le =
    let same : n ≡ base + 1 + interval_count b = omega arith in
    omega (arith, not_this base index (w + staying_weight b + goes s) (omega arith), weight-above index (base + 1) b (omega arith), ap (λ m. weight_at index m s) same)
  where
    not_this : (m k x : ℕ) → m < k → (if m == k then x else 0) ≡ 0
    not_this m k x h = grind (arith, nat_tests)
one_weight index base n path p w e GoesOn b s is le =
    let same : n ≡ base + interval_count b = omega arith in
    omega (arith, weight-above index base b (omega arith), ap (λ m. weight_at index m s) same)

root_weight : (index base p w : ℕ) (e : Entry) (b s : Drawn) → index ≡ base → IsSoundDrawing None s → weight_at index base (Grown p w e Begins b s) ≡ w + staying_weight b
root_weight index base p w e b s is sound =
    subst (λ n. weight_at n base (Grown p w e Begins b s) ≡ w + staying_weight b) (sym is)
    (omega (arith, same_if base (w + staying_weight b + goes s), weight-below base (base + 1) b (omega arith), weight-below base (base + 1 + interval_count b) s (omega arith), goes_none s sound))

-- what is gone on with behind a node ends where it did
end_by : (cut : Cut) (q p w : ℕ) (e : Entry) (b x y : Drawn) → end_position p x ≡ end_position p y → end_position q (Grown p w e cut b x) ≡ end_position q (Grown p w e cut b y)
end_by Stays q p w e b x y h = refl
end_by Begins q p w e b x y h = refl
end_by GoesOn q p w e b x y h = h

run_same : (path : List ℕ) (p : ℕ) (cut : Cut) (x y : Drawn) → end_position p x ≡ end_position p y → run_of path p cut x ≡ run_of path p cut y
run_same path p Stays x y h = refl
run_same path p Begins x y h = ap (λ end. Run path p end ∷ []) h
run_same path p GoesOn x y h = refl

module _ (t tol a p w : ℕ) (e : Entry) (side : Option Side) (b s : Sketch) where
  -- the node below the helper, as it is drawn
  abbrev here_drawn : Drawn
  here_drawn = separated t tol a true true side (Plant p w e b s)

  abbrev lower : Drawn
  lower = separated t tol (a + w) false (mark_by t tol a (w + sketch_weight b)) None b

  -- those beside it, where it is of the separator
  abbrev later : Drawn
  later = separated t tol (a + (w + sketch_weight b)) true true None s

  root_drawn : mark_by t tol a (w + sketch_weight b) ≡ true → here_drawn ≡ Grown p w e Begins lower later
  root_drawn m =
      let k = single_kind e (mark_by t tol a (w + sketch_weight b)) m in
      let l = nat_le (a + (w + sketch_weight b)) t in
      λ i. Grown p w e (cut_of (k i) side p l) lower (separated t tol (a + (w + sketch_weight b)) true true (side_of (k i) p l) s)

  mark_bare : mark_by t tol a (w + sketch_weight (bare lower)) ≡ mark_by t tol a (w + sketch_weight b)
  mark_bare = ap (λ x. mark_by t tol a (w + sketch_weight x)) (bare-separated t tol (a + w) false (mark_by t tol a (w + sketch_weight b)) None b)

  next_bare : a + (w + sketch_weight (bare lower)) ≡ a + (w + sketch_weight b)
  next_bare = ap (λ x. a + (w + sketch_weight x)) (bare-separated t tol (a + w) false (mark_by t tol a (w + sketch_weight b)) None b)

  sound_later : IsSoundDrawing None later
  sound_later = sound-separated t tol (a + (w + sketch_weight b)) true true None s

  module _ (room : ℕ) (cut : Cut) (x : Drawn) where
    root_there : mark_by t tol a (w + sketch_weight b) ≡ false → raised_root room t tol a (Grown p w e cut lower x) ≡ raised_root room t tol (a + (w + sketch_weight b)) x
    root_there m = pick_false (mark_by t tol a (w + sketch_weight (bare lower))) _ _ (mark_bare ∙ m) ∙ ap (λ n. raised_root room t tol n x) next_bare

    plan_there : mark_by t tol a (w + sketch_weight b) ≡ false → raised_plan room t tol a (Grown p w e cut lower x) ≡ Grown p w e cut lower (raised_plan room t tol (a + (w + sketch_weight b)) x)
    plan_there m = pick_false (mark_by t tol a (w + sketch_weight (bare lower))) _ _ (mark_bare ∙ m) ∙ ap (λ n. Grown p w e cut lower (raised_plan room t tol n x)) next_bare

    root_here : mark_by t tol a (w + sketch_weight b) ≡ true → raised_root room t tol a (Grown p w e cut lower x) ≡ (if may_join room e (w + staying_weight lower) then Some p else None)
    root_here m = pick_true (mark_by t tol a (w + sketch_weight (bare lower))) _ _ (mark_bare ∙ m)

    plan_here : mark_by t tol a (w + sketch_weight b) ≡ true
        → raised_plan room t tol a (Grown p w e cut lower x) ≡ (if may_join room e (w + staying_weight lower) then Grown p w e Stays lower x else Grown p w e cut lower x)
    plan_here m = pick_true (mark_by t tol a (w + sketch_weight (bare lower))) _ _ (mark_bare ∙ m)

end_raised : (room t tol a q : ℕ) (side : Option Side) (s : Sketch) → end_position q (raised_plan room t tol a (separated t tol a true true side s)) ≡ end_position q (separated t tol a true true side s)
end_raised room t tol a q side Empty = refl
end_raised room t tol a q side (Plant p w e b s) = elim (cases_Bool (mark_by t tol a (w + sketch_weight b))) [
  | inl m ↦
      let d = root_drawn t tol a p w e side b s m in
      subst (λ x. end_position q (raised_plan room t tol a x) ≡ end_position q x) (sym d)
      (ap (end_position q) (plan_here t tol a p w e side b s room Begins (later t tol a p w e side b s) m) ∙ stays (may_join room e (w + staying_weight (lower t tol a p w e side b s))) (lower t tol a p w e side b s) (later t tol a p w e side b s))
  | inr m ↦
      let l = nat_le (a + (w + sketch_weight b)) t in
      let k = spot_kind e true true (mark_by t tol a (w + sketch_weight b)) in
      ap (end_position q) (plan_there t tol a p w e side b s room (cut_of k side p l) (separated t tol (a + (w + sketch_weight b)) true true (side_of k p l) s) m)
      ∙ end_by (cut_of k side p l) q p w e (lower t tol a p w e side b s) _ _ (end_raised room t tol (a + (w + sketch_weight b)) p (side_of k p l) s)
]
  where
    stays : (may : Bool) (x y : Drawn) → end_position q (if may then Grown p w e Stays x y else Grown p w e Begins x y) ≡ q
    stays true x y = refl
    stays false x y = refl

module _ (all : List Placed) (t tol room : ℕ) where
  -- the root joins: its interval is left out
  pub record RaisesAt (a base : ℕ) (d : Drawn) (root : ℕ) : Type 0 where
    pub front : List Interval
    pub back : List Interval
    pub plan_is : drawn_intervals [] d ≡ front ++ Run [] root root ∷ back
    pub rest_is : drawn_intervals [] (raised_plan room t tol a d) ≡ front ++ back
    pub light : weight_at (base + length front) base d ≤ room
    pub marked : is_marked all t tol (root ∷ []) ≡ true
    pub unbound : ¬ HasEntry all (root ∷ []) Standalone

  raises_here : (a base low p w : ℕ) (e : Entry) (side : Option Side) (b s : Sketch) → IsRow all t tol [] a low true true side (Plant p w e b s) → (root : ℕ) → mark_by t tol a (w + sketch_weight b) ≡ true
      → raised_root room t tol a (Grown p w e Begins (lower t tol a p w e side b s) (later t tol a p w e side b s)) ≡ Some root → RaisesAt a base (Grown p w e Begins (lower t tol a p w e side b s) (later t tol a p w e side b s)) root
  raises_here a base low p w e side b s r root m is =
      let x = lower t tol a p w e side b s in
      let y = later t tol a p w e side b s in
      let f = picks_some (may_join room e (w + staying_weight x)) p root (sym (root_here t tol a p w e side b s room Begins y m) ∙ is) in
      let may = may_light room e (w + staying_weight x) f.0 in
      let sound = sound_later t tol a p w e side b s in
      let end = alone_end p y sound in
      let back = drawn_intervals (p ∷ []) x ++ drawn_intervals [] y in
      let le = may.0 in
      let nothing : List Interval = [] in
      record {
        front = [];
        back = back;
        plan_is = λ i. Run [] (f.1 i) ((end ∙ f.1) i) ∷ back;
        rest_is = ap (drawn_intervals []) (plan_here t tol a p w e side b s room Begins y m ∙ pick_true (may_join room e (w + staying_weight x)) _ _ f.0);
        light = omega (arith, root_weight (base + length nothing) base p w e x y (omega arith) sound);
        marked = subst (λ q. is_marked all t tol (q ∷ []) ≡ true) f.1 (here_marked all t tol [] a low true true side p w e b s r ∙ m);
        unbound = λ has. may.1 (own_entry [] p w e b s low r.rising all r.only Standalone (subst (λ q. HasEntry all (q ∷ []) Standalone) (sym f.1) has));
      }

  pub raises : (a base low : ℕ) (side : Option Side) (s : Sketch) → IsRow all t tol [] a low true true side s → (root : ℕ) → raised_root room t tol a (separated t tol a true true side s) ≡ Some root → RaisesAt a base (separated t tol a true true side s) root
  raises a base low side Empty r root is = absurd (none_some is)
  raises a base low side (Plant p w e b s) r root is = elim (cases_Bool (mark_by t tol a (w + sketch_weight b))) [
    | inl m ↦
        let d = root_drawn t tol a p w e side b s m in
        subst (λ x. RaisesAt a base x root) (sym d) (raises_here a base low p w e side b s r root m (sym (ap (raised_root room t tol a) d) ∙ is))
    | inr m ↦
        let l = nat_le (a + (w + sketch_weight b)) t in
        let k = spot_kind e true true (mark_by t tol a (w + sketch_weight b)) in
        let cut = cut_of k side p l in
        let x = lower t tol a p w e side b s in
        let y = separated t tol (a + (w + sketch_weight b)) true true (side_of k p l) s in
        let run = run_of [] p cut y in
        let mid = drawn_intervals (p ∷ []) x in
        let next = base + length run + interval_count x in
        let ih = raises (a + (w + sketch_weight b)) next (p + 1) (side_of k p l) s (row_beside all t tol [] a low true true side p w e b s r) root (sym (root_there t tol a p w e side b s room cut y m) ∙ is) in
        let front = run ++ (mid ++ ih.front) in
        let joins : (rest : List Interval) → run ++ (mid ++ (ih.front ++ rest)) ≡ front ++ rest = λ rest. ap (λ l. run ++ l) (sym (append_assoc mid ih.front rest)) ∙ sym (append_assoc run (mid ++ ih.front) rest) in
        let place : base + length front ≡ next + length ih.front = omega (arith, length-append run (mid ++ ih.front), length-append mid ih.front, length-drawn_intervals (p ∷ []) x) in
        let weighs : weight_at (base + length front) base (Grown p w e cut x y) ≡ weight_at (next + length ih.front) next y =
        one_weight (base + length front) base next [] p w e cut x y refl (omega arith) ∙ ap (λ n. weight_at n next y) place in
        let le = ih.light in
        let ends : run_of [] p cut (raised_plan room t tol (a + (w + sketch_weight b)) y) ≡ run = run_same [] p cut _ y (end_raised room t tol (a + (w + sketch_weight b)) p (side_of k p l) s) in
        record {
          front = front;
          back = ih.back;
          plan_is = one_intervals [] p w e cut x y ∙ ap (λ l. run ++ (mid ++ l)) ih.plan_is ∙ joins (Run [] root root ∷ ih.back);
          rest_is = ap (drawn_intervals []) (plan_there t tol a p w e side b s room cut y m)
              ∙ one_intervals [] p w e cut x (raised_plan room t tol (a + (w + sketch_weight b)) y)
              ∙ (λ i. ends i ++ (mid ++ ih.rest_is i))
              ∙ joins ih.back;
          light = omega arith;
          marked = ih.marked;
          unbound = ih.unbound;
        }
  ]

  -- no root behind the point is of the separator
  later_unmarked : (a low : ℕ) (side : Option Side) (s : Sketch) → IsRow all t tol [] a low true true side s → t < a → (root : ℕ) → low ≤ root → HasNodeAt all (root ∷ []) → is_marked all t tol (root ∷ []) ≡ true → ⊥
  later_unmarked a low side Empty r lt root le at m = let h = r.only at.0 at.1 root [] at.2 le in let none = h.1 in omega arith
  later_unmarked a low side (Plant p w e b s) r lt root le at m = elim (cases_lt root p) [
    | inl less ↦ none_before [] p w e b s low r.rising all r.only root le less at
    | inr more ↦ elim (cases_lt p root) [
      | inl far ↦ later_unmarked (a + (w + sketch_weight b)) (p + 1) _ s (row_beside all t tol [] a low true true side p w e b s r) (omega arith) root (omega arith) at m
      | inr near ↦
          let same : root ≡ p = omega arith in
          let here : mark_by t tol a (w + sketch_weight b) ≡ true = sym (here_marked all t tol [] a low true true side p w e b s r) ∙ subst (λ q. is_marked all t tol (q ∷ []) ≡ true) same m in
          behind a (w + sketch_weight b) lt here
    ]
  ]
    where
      behind : (a n : ℕ) → t < a → mark_by t tol a n ≡ true → ⊥
      behind a n lt h = false_true (sym (ap (λ x. x && nat_lt t (a + n) && nat_lt tol n) (let f : nat_le a t ≡ false = grind (arith, nat_tests) in f)) ∙ h)
        where
          false_true : false ≡ true → ⊥
          false_true e = cc

  ends_behind : (a n : ℕ) → mark_by t tol a n ≡ true → t < a + n
  ends_behind a n h = grind (arith, nat_tests)

  -- a root that may join is found
  pub root_found : (a base low : ℕ) (side : Option Side) (s : Sketch) → IsRow all t tol [] a low true true side s → (root : ℕ) → low ≤ root → HasNodeAt all (root ∷ []) → is_marked all t tol (root ∷ []) ≡ true → ¬ HasEntry all (root ∷ []) Standalone
      → ((front back : List Interval) → drawn_intervals [] (separated t tol a true true side s) ≡ front ++ Run [] root root ∷ back → weight_at (base + length front) base (separated t tol a true true side s) ≤ room)
      → raised_root room t tol a (separated t tol a true true side s) ≡ Some root
  root_found a base low side Empty r root le at m free light = absurd (let h = r.only at.0 at.1 root [] at.2 le in let none = h.1 in omega arith)
  root_found a base low side (Plant p w e b s) r root le at m free light = elim (cases_lt root p) [
    | inl less ↦ absurd (none_before [] p w e b s low r.rising all r.only root le less at)
    | inr more ↦ elim (cases_lt p root) [
      | inl far ↦ elim (cases_Bool (mark_by t tol a (w + sketch_weight b))) [
        | inl here ↦
            absurd (later_unmarked (a + (w + sketch_weight b)) (p + 1) _ s (row_beside all t tol [] a low true true side p w e b s r) (ends_behind a (w + sketch_weight b) here) root (omega arith) at m)
        | inr there ↦
            let l = nat_le (a + (w + sketch_weight b)) t in
            let k = spot_kind e true true (mark_by t tol a (w + sketch_weight b)) in
            let cut = cut_of k side p l in
            let x = lower t tol a p w e side b s in
            let y = separated t tol (a + (w + sketch_weight b)) true true (side_of k p l) s in
            let run = run_of [] p cut y in
            let mid = drawn_intervals (p ∷ []) x in
            let next = base + length run + interval_count x in
            root_there t tol a p w e side b s room cut y there
            ∙ root_found (a + (w + sketch_weight b)) next (p + 1) (side_of k p l) s (row_beside all t tol [] a low true true side p w e b s r) root (omega arith) at m free
            (λ front back is.
            let whole = run ++ (mid ++ front) in
            let plan : drawn_intervals [] (Grown p w e cut x y) ≡ whole ++ Run [] root root ∷ back =
            one_intervals [] p w e cut x y ∙ ap (λ l. run ++ (mid ++ l)) is
            ∙ ap (λ l. run ++ l) (sym (append_assoc mid front (Run [] root root ∷ back)))
            ∙ sym (append_assoc run (mid ++ front) (Run [] root root ∷ back)) in
            let place : base + length whole ≡ next + length front = omega (arith, length-append run (mid ++ front), length-append mid front, length-drawn_intervals (p ∷ []) x) in
            let weighs : weight_at (base + length whole) base (Grown p w e cut x y) ≡ weight_at (next + length front) next y =
            one_weight (base + length whole) base next [] p w e cut x y refl (omega arith) ∙ ap (λ n. weight_at n next y) place in
            let most = light whole back plan in omega arith)
      ]
      | inr near ↦
          let same : p ≡ root = omega arith in
          let here : mark_by t tol a (w + sketch_weight b) ≡ true = sym (here_marked all t tol [] a low true true side p w e b s r) ∙ subst (λ q. is_marked all t tol (q ∷ []) ≡ true) (sym same) m in
          let x = lower t tol a p w e side b s in
          let y = later t tol a p w e side b s in
          let d = root_drawn t tol a p w e side b s here in
          let sound = sound_later t tol a p w e side b s in
          let back = drawn_intervals (p ∷ []) x ++ drawn_intervals [] y in
          let plan : drawn_intervals [] (here_drawn t tol a p w e side b s) ≡ [] ++ Run [] root root ∷ back =
          ap (drawn_intervals []) d ∙ (λ i. Run [] (same i) ((alone_end p y sound ∙ same) i) ∷ back) in
          let nothing : List Interval = [] in
          let most : weight_at (base + length nothing) base (Grown p w e Begins x y) ≤ room = subst (λ z. weight_at (base + length nothing) base z ≤ room) d (light [] back plan) in
          let weighs = root_weight (base + length nothing) base p w e x y (omega arith) sound in
          let entry : e ≢ Standalone = λ alone. free (subst (λ q. HasEntry all (q ∷ []) Standalone) same (let h = here_placed all t tol [] a low true true side p w e b s r in (h.0, h.1, h.2, h.3 ∙ alone))) in
          ap (raised_root room t tol a) d ∙ root_here t tol a p w e side b s room Begins y here
          ∙ pick_true (may_join room e (w + staying_weight x)) _ _ (light_may room e (w + staying_weight x) entry (omega arith))
          ∙ ap Some same
    ]
  ]
