-- The intervals that are drawn for the separator's plan are its own, and all of them.
use Rattle.std.proofs.Common.{◌≡◌, ℕ, ◌+◌, ◌<◌, ◌≤◌, Bool, true, false, ◌&&◌, nat_le, nat_lt, List, [], ◌∷◌, ◌++◌, Option, None, Some, refl, sym, ap, subst, ◌∙◌, arith, ◌⊎◌, inl, inr}
use Rattle.std.specs.List.{AllByRecursion}
use Rattle.std.proofs.lemmas.Bool.{cases_lt}
use Rattle.nx_lists.proofs.ListLemmas.{contains_here, contains_there}
use Rattle.std.proofs.lemmas.List.Elements.{Contains-append_left, Contains-append_right}
use Rattle.nx_matrix.specs.declared.rule.Entry.{Entry}
use Rattle.nx_matrix.specs.declared.rule.Entry.TheVariants.{Free}
use Rattle.nx_parts.specs.declared.interval.Interval.TheVariants.{Run}
use Rattle.nx_cuts.proofs.PairLemmas.{both}
use Rattle.nx_sketch.specs.Sketch.{Sketch, Empty, Plant, Placed, placed_in, sketch_weight, AreRising}
use Rattle.nx_sketch.specs.Plan.{HasNodeAt, HasEntry}
use Rattle.nx_sketch.specs.Separator.{weight_before, weight_within, is_marked, is_left, IsLoose, IsSeparatorRun}
use Rattle.nx_sketch.proofs.MarkLemmas.{IsWeighed}
use Rattle.nx_division.specs.declared.cut.Cut.{Cut}
use Rattle.nx_division.specs.declared.cut.Cut.TheVariants.{Stays, Begins, GoesOn}
use Rattle.nx_division.specs.declared.separate.Side.{Side}
use Rattle.nx_division.specs.declared.separate.Kind.{Kind}
use Rattle.nx_division.specs.declared.separate.Kind.TheVariants.{Single, Loose, Inner}
use Rattle.nx_division.specs.Drawn.{Drawn, Grown, end_position, drawn_intervals, IsSoundDrawing}
use Rattle.nx_division.specs.Separated.{mark_by, spot_kind, row_cut, cut_of, side_of, separated}
use Rattle.nx_division.proofs.NumberLemmas.{some_same}
use Rattle.nx_division.proofs.PlanLemmas.{AreAmong, alone_end}
use Rattle.nx_division.proofs.LookLemmas.{end_ge}
use Rattle.nx_division.proofs.SeparatedLemmas.{kind_single, kind_loose, is_loose_kind, goes_cut, begins_cut, stays_cut, sound-separated, OnlyHere, only_below, only_beside, own_entry, none_before}

module _ (all : List Placed) (t tol : ℕ) where
  -- the tests of a node, by what comes before it and what its subtree weighs
  marked_is : (q : List ℕ) (a n : ℕ) → weight_before all q ≡ a → weight_within all q ≡ n → is_marked all t tol q ≡ mark_by t tol a n
  marked_is q a n x y = λ i. nat_le (x i) t && nat_lt t (x i + y i) && nat_lt tol (y i)

  left_is : (q : List ℕ) (a n : ℕ) → weight_before all q ≡ a → weight_within all q ≡ n → is_left all t q ≡ nat_le (a + n) t
  left_is q a n x y = λ i. nat_le (x i + y i) t

  -- a row of nodes below the one at a path, from a position on, behind an open row
  pub record IsRow (path : List ℕ) (a low : ℕ) (root wide : Bool) (side : Option Side) (s : Sketch) : Type 0 where
    pub rising : AreRising low s
    pub weighed : IsWeighed all a path s
    pub among : AreAmong (placed_in path s) all
    pub only : OnlyHere all path low s
    pub top : root ≡ true → path ≡ []
    pub opens : wide ≡ true → (path ≡ []) ⊎ (is_marked all t tol path ≡ true)
    pub near : wide ≡ true → (q : ℕ) (l : Bool) → q + 1 ≡ low → IsLoose all t tol l (path ++ q ∷ []) → side ≡ Some (record { last = q; left = l })

  module _ (path : List ℕ) (a low : ℕ) (root wide : Bool) (side : Option Side) (p w : ℕ) (e : Entry) (b s : Sketch) (h : IsRow path a low root wide side (Plant p w e b s)) where
    abbrev m : Bool
    m = mark_by t tol a (w + sketch_weight b)

    abbrev l : Bool
    l = nat_le (a + (w + sketch_weight b)) t

    abbrev k : Kind
    k = spot_kind e root wide (mark_by t tol a (w + sketch_weight b))

    node : Placed
    node = record { path = path ++ p ∷ []; weight = w; entry = e }

    pub here_placed : HasEntry all (path ++ p ∷ []) e
    here_placed = (record { path = path ++ p ∷ []; weight = w; entry = e }, h.among _ (contains_here _ (placed_in (path ++ p ∷ []) b ++ placed_in path s) _ refl), refl, refl)

    pub here_marked : is_marked all t tol (path ++ p ∷ []) ≡ mark_by t tol a (w + sketch_weight b)
    here_marked = marked_is (path ++ p ∷ []) a (w + sketch_weight b) h.weighed.0 h.weighed.1

    pub loose_here : (x : Bool) → IsLoose all t tol x (path ++ p ∷ []) → (e ≡ Free) × (mark_by t tol a (w + sketch_weight b) ≡ false) × (nat_le (a + (w + sketch_weight b)) t ≡ x)
    loose_here x loose = (
      own_entry path p w e b s low h.rising all h.only Free loose.free,
      sym here_marked ∙ loose.unmarked,
      sym (left_is (path ++ p ∷ []) a (w + sketch_weight b) h.weighed.0 h.weighed.1) ∙ loose.side,
    )

    pub is_loose_here : e ≡ Free → mark_by t tol a (w + sketch_weight b) ≡ false → IsLoose all t tol (nat_le (a + (w + sketch_weight b)) t) (path ++ p ∷ [])
    is_loose_here free unmarked = record {
      free = (here_placed.0, here_placed.1, here_placed.2, here_placed.3 ∙ free);
      unmarked = here_marked ∙ unmarked;
      side = left_is (path ++ p ∷ []) a (w + sketch_weight b) h.weighed.0 h.weighed.1;
    }

    pub row_below : IsRow (path ++ p ∷ []) (a + w) 0 false (mark_by t tol a (w + sketch_weight b)) None b
    row_below = record {
      rising = h.rising.1;
      weighed = h.weighed.2;
      among = λ x c. h.among x (contains_there _ (placed_in (path ++ p ∷ []) b ++ placed_in path s) x (Contains-append_left (placed_in (path ++ p ∷ []) b) (placed_in path s) x c));
      only = only_below path p w e b s low h.rising all h.only;
      top = λ is. absurd (let f : false ≡ true = is in false_true f);
      opens = λ is. inr (here_marked ∙ is);
      near = λ is q x next. absurd (omega arith);
    }
      where
        false_true : false ≡ true → ⊥
        false_true f = cc

    pub row_beside : IsRow path (a + (w + sketch_weight b)) (p + 1) root wide (side_of (spot_kind e root wide (mark_by t tol a (w + sketch_weight b))) p (nat_le (a + (w + sketch_weight b)) t)) s
    row_beside = record {
      rising = h.rising.2;
      weighed = subst (λ n. IsWeighed all n path s) (let z : a + w + sketch_weight b ≡ a + (w + sketch_weight b) = omega arith in z) h.weighed.3;
      among = λ x c. h.among x (contains_there _ (placed_in (path ++ p ∷ []) b ++ placed_in path s) x (Contains-append_right (placed_in (path ++ p ∷ []) b) (placed_in path s) x c));
      only = only_beside path p w e b s low h.rising all h.only;
      top = h.top;
      opens = h.opens;
      near = λ is q x next loose.
          let same : q ≡ p = omega arith in
          let f = loose_here x (subst (λ n. IsLoose all t tol x (path ++ n ∷ [])) same loose) in
          ap (λ z. side_of z p (nat_le (a + (w + sketch_weight b)) t)) (is_loose_kind e root wide (mark_by t tol a (w + sketch_weight b)) f.0 is f.1) ∙ (λ i. Some (record { last = sym same i; left = f.2 i }));
    }

  loose_at : (cut : Cut) (path : List ℕ) (a low : ℕ) (root wide : Bool) (side : Option Side) (p w : ℕ) (e : Entry) (b s : Sketch) (bd sd : Drawn) → IsRow path a low root wide side (Plant p w e b s)
      → cut_of (spot_kind e root wide (mark_by t tol a (w + sketch_weight b))) side p (nat_le (a + (w + sketch_weight b)) t) ≡ cut
      → ((y : Side) → side_of (spot_kind e root wide (mark_by t tol a (w + sketch_weight b))) p (nat_le (a + (w + sketch_weight b)) t) ≡ Some y → (i : ℕ) → y.last < i → i ≤ end_position y.last sd → IsLoose all t tol y.left (path ++ i ∷ []))
      → (x : Side) → side ≡ Some x → (i : ℕ) → x.last < i → i ≤ end_position x.last (Grown p w e cut bd sd) → IsLoose all t tol x.left (path ++ i ∷ [])
  loose_at Stays path a low root wide side p w e b s bd sd h c ih x is i lt le = absurd (omega arith)
  loose_at Begins path a low root wide side p w e b s bd sd h c ih x is i lt le = absurd (omega arith)
  loose_at GoesOn path a low root wide side p w e b s bd sd h c ih x is i lt le =
      let g = goes_cut (spot_kind e root wide (mark_by t tol a (w + sketch_weight b))) side p (nat_le (a + (w + sketch_weight b)) t) c in
      let with_x : g.1.with ≡ x = some_same (sym g.1.is ∙ is) in
      let x_left : nat_le (a + (w + sketch_weight b)) t ≡ x.left = sym g.1.same ∙ ap (λ (y : Side). y.left) with_x in
      let kl = kind_loose e root wide (mark_by t tol a (w + sketch_weight b)) g.0 in
      let next_p : x.last + 1 ≡ p = ap (λ (y : Side). y.last + 1) (sym with_x) ∙ g.1.next in
      elim (cases_lt p i) [
        | inl far ↦ subst (λ y. IsLoose all t tol y (path ++ i ∷ [])) x_left (ih (record { last = p; left = nat_le (a + (w + sketch_weight b)) t }) (ap (λ z. side_of z p (nat_le (a + (w + sketch_weight b)) t)) g.0) i far le)
        | inr near ↦
            let same : p ≡ i = omega arith in
            subst (λ y. IsLoose all t tol y (path ++ i ∷ [])) x_left (subst (λ n. IsLoose all t tol (nat_le (a + (w + sketch_weight b)) t) (path ++ n ∷ [])) same (is_loose_here path a low root wide side p w e b s h kl.0 kl.2))
      ]

  -- those that go on with a row are loose, on its side
  pub run_loose : (path : List ℕ) (a low : ℕ) (root wide : Bool) (side : Option Side) (s : Sketch) → IsRow path a low root wide side s → (x : Side) → side ≡ Some x → (i : ℕ) → x.last < i → i ≤ end_position x.last (separated t tol a root wide side s) → IsLoose all t tol x.left (path ++ i ∷ [])
  run_loose path a low root wide side Empty h x is i lt le = absurd (omega arith)
  run_loose path a low root wide side (Plant p w e b s) h x is i lt le =
      loose_at _ path a low root wide side p w e b s _ _ h refl
      (run_loose path (a + (w + sketch_weight b)) (p + 1) root wide (side_of (spot_kind e root wide (mark_by t tol a (w + sketch_weight b))) p (nat_le (a + (w + sketch_weight b)) t)) s (row_beside path a low root wide side p w e b s h))
      x is i lt le

  -- right behind a row stands none that could go on with it
  no_next : (path : List ℕ) (a low : ℕ) (root wide : Bool) (side : Option Side) (p w : ℕ) (e : Entry) (b s : Sketch) → wide ≡ true → IsRow path a low root wide side (Plant p w e b s)
      → (x : Side) → side ≡ Some x → low ≡ x.last + 1 → (spot_kind e root wide (mark_by t tol a (w + sketch_weight b)) ≡ Loose → row_cut side p (nat_le (a + (w + sketch_weight b)) t) ≡ Begins) → ¬ IsLoose all t tol x.left (path ++ (x.last + 1) ∷ [])
  no_next path a low root wide side p w e b s wd h x is next row loose =
      let le = h.rising.0 in
      elim (cases_lt (x.last + 1) p) [
        | inl lt ↦ none_before path p w e b s low h.rising all h.only (x.last + 1) (omega arith) lt (loose.free.0, loose.free.1, loose.free.2)
        | inr ge ↦
            let same : x.last + 1 ≡ p = omega arith in
            let f = loose_here path a low root wide side p w e b s h x.left (subst (λ n. IsLoose all t tol x.left (path ++ n ∷ [])) same loose) in
            begins_cut side p x.last (nat_le (a + (w + sketch_weight b)) t) (row (is_loose_kind e root wide (mark_by t tol a (w + sketch_weight b)) f.0 wd f.1)) (is ∙ (λ i. Some (record { last = x.last; left = sym f.2 i }))) same
      ]

  stops_at : (cut : Cut) (path : List ℕ) (a low : ℕ) (root wide : Bool) (side : Option Side) (p w : ℕ) (e : Entry) (b s : Sketch) (bd sd : Drawn) → wide ≡ true → IsRow path a low root wide side (Plant p w e b s)
      → cut_of (spot_kind e root wide (mark_by t tol a (w + sketch_weight b))) side p (nat_le (a + (w + sketch_weight b)) t) ≡ cut
      → ((y : Side) → side_of (spot_kind e root wide (mark_by t tol a (w + sketch_weight b))) p (nat_le (a + (w + sketch_weight b)) t) ≡ Some y → p + 1 ≡ y.last + 1 → ¬ IsLoose all t tol y.left (path ++ (end_position y.last sd + 1) ∷ []))
      → (x : Side) → side ≡ Some x → low ≡ x.last + 1 → ¬ IsLoose all t tol x.left (path ++ (end_position x.last (Grown p w e cut bd sd) + 1) ∷ [])
  stops_at GoesOn path a low root wide side p w e b s bd sd wd h c ih x is next loose =
      let g = goes_cut (spot_kind e root wide (mark_by t tol a (w + sketch_weight b))) side p (nat_le (a + (w + sketch_weight b)) t) c in
      let with_x : g.1.with ≡ x = some_same (sym g.1.is ∙ is) in
      let x_left : x.left ≡ nat_le (a + (w + sketch_weight b)) t = ap (λ (y : Side). y.left) (sym with_x) ∙ g.1.same in
      ih (record { last = p; left = nat_le (a + (w + sketch_weight b)) t }) (ap (λ z. side_of z p (nat_le (a + (w + sketch_weight b)) t)) g.0) refl (subst (λ y. IsLoose all t tol y (path ++ (end_position p sd + 1) ∷ [])) x_left loose)
  stops_at Stays path a low root wide side p w e b s bd sd wd h c ih x is next loose = no_next path a low root wide side p w e b s wd h x is next (λ kl. absurd (let i = stays_cut (spot_kind e root wide (mark_by t tol a (w + sketch_weight b))) side p (nat_le (a + (w + sketch_weight b)) t) c in let z = sym kl ∙ i in loose_inner z)) loose
    where
      loose_inner : Loose ≡ Inner → ⊥
      loose_inner z = cc
  stops_at Begins path a low root wide side p w e b s bd sd wd h c ih x is next loose = no_next path a low root wide side p w e b s wd h x is next (λ kl. ap (λ z. cut_of z side p (nat_le (a + (w + sketch_weight b)) t)) (sym kl) ∙ c) loose

  pub run_ends : (path : List ℕ) (a low : ℕ) (root wide : Bool) (side : Option Side) (s : Sketch) → wide ≡ true → IsRow path a low root wide side s → (x : Side) → side ≡ Some x → low ≡ x.last + 1
      → ¬ IsLoose all t tol x.left (path ++ (end_position x.last (separated t tol a root wide side s) + 1) ∷ [])
  run_ends path a low root wide side Empty wd h x is next loose =
      let none = h.only loose.free.0 loose.free.1 (x.last + 1) [] loose.free.2 (omega arith) in
      let lt = none.1 in omega arith
  run_ends path a low root wide side (Plant p w e b s) wd h x is next loose =
      stops_at _ path a low root wide side p w e b s _ _ wd h refl
      (run_ends path (a + (w + sketch_weight b)) (p + 1) root wide (side_of (spot_kind e root wide (mark_by t tol a (w + sketch_weight b))) p (nat_le (a + (w + sketch_weight b)) t)) s wd (row_beside path a low root wide side p w e b s h))
      x is next loose

  -- an interval that is begun is one of the separator's plan
  begun_run : (kind : Kind) (path : List ℕ) (a low : ℕ) (root wide : Bool) (side : Option Side) (p w : ℕ) (e : Entry) (b s : Sketch) → IsRow path a low root wide side (Plant p w e b s)
      → spot_kind e root wide (mark_by t tol a (w + sketch_weight b)) ≡ kind → cut_of kind side p (nat_le (a + (w + sketch_weight b)) t) ≡ Begins
      → IsRow path (a + (w + sketch_weight b)) (p + 1) root wide (side_of kind p (nat_le (a + (w + sketch_weight b)) t)) s
      → IsSeparatorRun all t tol (Run path p (end_position p (separated t tol (a + (w + sketch_weight b)) root wide (side_of kind p (nat_le (a + (w + sketch_weight b)) t)) s)))
  begun_run Inner path a low root wide side p w e b s h k_is c hs = absurd (cc)
  begun_run Single path a low root wide side p w e b s h k_is c hs =
      let sd = separated t tol (a + (w + sketch_weight b)) root wide None s in
      let end : p ≡ end_position p sd = sym (alone_end p sd (sound-separated t tol (a + (w + sketch_weight b)) root wide None s)) in
      let has = here_placed path a low root wide side p w e b s h in
      inl (
        end,
        (elim (kind_single e root wide (mark_by t tol a (w + sketch_weight b)) k_is) [
          | inl alone ↦ inl (has.0, has.1, has.2, has.3 ∙ alone)
          | inr top ↦
              let none = h.top top.0 in
              let marked = here_marked path a low root wide side p w e b s h ∙ top.1 in
              inr (none, subst (λ q. HasNodeAt all (q ++ p ∷ [])) none (has.0, has.1, has.2), subst (λ q. is_marked all t tol (q ++ p ∷ []) ≡ true) none marked)
        ]),
      )
  begun_run Loose path a low root wide side p w e b s h k_is c hs =
      let l = nat_le (a + (w + sketch_weight b)) t in
      let sd = separated t tol (a + (w + sketch_weight b)) root wide (Some (record { last = p; left = l })) s in
      let kl = kind_loose e root wide (mark_by t tol a (w + sketch_weight b)) k_is in
      let here = is_loose_here path a low root wide side p w e b s h kl.0 kl.2 in
      let sound : IsSoundDrawing (Some p) sd = sound-separated t tol (a + (w + sketch_weight b)) root wide (Some (record { last = p; left = l })) s in
      inr (record {
        opened = h.opens kl.1;
        some = end_ge p sd sound;
        left = l;
        loose = λ i ge le. elim (cases_lt p i) [
          | inl far ↦ run_loose path (a + (w + sketch_weight b)) (p + 1) root wide (Some (record { last = p; left = l })) s hs (record { last = p; left = l }) refl i far le
          | inr near ↦ let same : p ≡ i = omega arith in subst (λ n. IsLoose all t tol l (path ++ n ∷ [])) same here
        ];
        begins = λ q next loose. elim (cases_lt q low) [
          | inl before ↦
              let le = h.rising.0 in
              let low_is : q + 1 ≡ low = omega arith in
              begins_cut side p q l c (h.near kl.1 q l low_is loose) next
          | inr after ↦ none_before path p w e b s low h.rising all h.only q after (omega arith) (loose.free.0, loose.free.1, loose.free.2)
        ];
        ends = run_ends path (a + (w + sketch_weight b)) (p + 1) root wide (Some (record { last = p; left = l })) s kl.1 hs (record { last = p; left = l }) refl refl;
      })

  interval_by : (cut : Cut) (path : List ℕ) (p w : ℕ) (e : Entry) (bd sd : Drawn) → (cut ≡ Begins → IsSeparatorRun all t tol (Run path p (end_position p sd))) → AllByRecursion (IsSeparatorRun all t tol) (drawn_intervals (path ++ p ∷ []) bd ++ drawn_intervals path sd)
      → AllByRecursion (IsSeparatorRun all t tol) (drawn_intervals path (Grown p w e cut bd sd))
  interval_by Stays path p w e bd sd f r = r
  interval_by Begins path p w e bd sd f r = (f refl, r)
  interval_by GoesOn path p w e bd sd f r = r

  pub runs_are : (path : List ℕ) (a low : ℕ) (root wide : Bool) (side : Option Side) (s : Sketch) → IsRow path a low root wide side s → AllByRecursion (IsSeparatorRun all t tol) (drawn_intervals path (separated t tol a root wide side s))
  runs_are path a low root wide side Empty h = tt
  runs_are path a low root wide side (Plant p w e b s) h =
      let kind = spot_kind e root wide (mark_by t tol a (w + sketch_weight b)) in
      let hs = row_beside path a low root wide side p w e b s h in
      interval_by _ path p w e _ _ (λ c. begun_run kind path a low root wide side p w e b s h refl c hs)
      (both (IsSeparatorRun all t tol) (drawn_intervals (path ++ p ∷ []) (separated t tol (a + w) false (mark_by t tol a (w + sketch_weight b)) None b)) (drawn_intervals path (separated t tol (a + (w + sketch_weight b)) root wide (side_of kind p (nat_le (a + (w + sketch_weight b)) t)) s))
      (runs_are (path ++ p ∷ []) (a + w) 0 false (mark_by t tol a (w + sketch_weight b)) None b (row_below path a low root wide side p w e b s h))
      (runs_are path (a + (w + sketch_weight b)) (p + 1) root wide (side_of kind p (nat_le (a + (w + sketch_weight b)) t)) s hs))
