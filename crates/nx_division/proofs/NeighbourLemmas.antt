-- Intervals beside each other weigh too much together where they are drawn so.
use Rattle.std.proofs.Common.{◌≡◌, ◌≢◌, ℕ, zero, suc, ◌+◌, ◌<◌, ◌≤◌, IsTrue, List, [], ◌∷◌, ◌++◌, length, get_or, Option, None, Some, refl, sym, ap, subst, ◌∙◌, arith, ◌⊎◌, inl, inr}
use Rattle.std.specs.Prelude.{Contains, slice_get}
use Rattle.std.specs.List.{AllByRecursion}
use Rattle.std.proofs.lemmas.Bool.{cases_lt}
use Rattle.nx_lists.proofs.ListLemmas.{contains_here, contains_there}
use Rattle.nx_matrix.specs.declared.rule.Entry.{Entry}
use Rattle.nx_matrix.specs.declared.rule.Entry.TheVariants.{Standalone, Cluster, Free}
use Rattle.nx_parts.specs.declared.interval.Interval.{Interval}
use Rattle.nx_parts.specs.declared.interval.Interval.TheVariants.{Root, Run}
use Rattle.nx_parts.specs.Partitioning.{has_member, ShareMember, holder}
use Rattle.nx_cuts.proofs.PairLemmas.{PairsBy, both}
use Rattle.nx_cuts.proofs.FeasibleLemmas.{reaches_child}
use Rattle.nx_division.specs.declared.cut.Cut.{Cut}
use Rattle.nx_division.specs.declared.cut.Cut.TheVariants.{Stays, Begins, GoesOn}
use Rattle.nx_sketch.specs.Sketch.{Placed, placed, placed_in}
use Rattle.nx_sketch.specs.Plan.{HasEntry, IsInside, IsOrdinary, AreNeighboursFull, placed_part_weight}
use Rattle.nx_division.specs.Drawn.{Drawn, Bare, Grown, bare, staying_weight, goes, drawn_intervals, interval_count, Rises, IsSoundDrawing, opened, AreNeighboursHeavy, stands_beside, moved}
use Rattle.nx_division.proofs.LookLemmas.{run_at, run_past, open_by}
use Rattle.nx_division.proofs.NumberLemmas.{IsNumbered, AreUnheld, all_unheld, held, none_some, some_same, unheld_below, unheld_beside}
use Rattle.nx_division.proofs.WeightLemmas.{IsWhole, whole_found, whole_apart, whole_numbered, whole_weight, weight_at, weight-below, weight-above, same_if, other_if}
use Rattle.nx_division.proofs.PlanLemmas.{AreAmong, among_below, among_beside, all_inside, all_of, holder_member, last_same}

-- two intervals that hold a node and the one right before it below the same node, neither with a standalone member, weigh more than k together
abbrev pub IsApartFrom : ℕ → (List ℕ → Option ℕ) → (ℕ → Type 0) → (ℕ → ℕ) → Placed → Type 0
IsApartFrom k h ordinary weigh node =
    (parent : List ℕ) (q i j : ℕ) → node.path ≡ parent ++ (q + 1) ∷ [] → h node.path ≡ Some j → h (parent ++ q ∷ []) ≡ Some i → i ≢ j → ordinary i → ordinary j → k < weigh i + weigh j

-- what is known of the neighbour before the first of these nodes
pub record IsBeside (h : List ℕ → Option ℕ) (ordinary : ℕ → Type 0) (weigh : ℕ → ℕ) (path : List ℕ) (low place : ℕ) (before : Option ℕ) (run : Option (ℕ × ℕ)) : Type 0 where
  -- an interval that it is a member of
  pub held : (q i : ℕ) → q + 1 ≡ low → h (path ++ q ∷ []) ≡ Some i → ordinary i → run ≡ Some (q, weigh i)
  -- the one that may be gone on with
  pub opened : (last : ℕ) → before ≡ Some last → (h (path ++ last ∷ []) ≡ Some place) × (run ≡ Some (last, weigh place))

abbrev pub AreApartFrom : ℕ → (List ℕ → Option ℕ) → (ℕ → Type 0) → (ℕ → ℕ) → List Placed → Type 0
AreApartFrom k h ordinary weigh nodes = AllByRecursion (IsApartFrom k h ordinary weigh) nodes

-- what the intervals weigh whose numbers are those of a stretch
abbrev pub Weighs : (ℕ → ℕ) → ℕ → Drawn → Type 0
Weighs weigh base d = (index : ℕ) → base ≤ index → index < base + interval_count d → weigh index ≡ weight_at index base d

-- a gap isn't held
abbrev pub NoneBetween : (List ℕ → Option ℕ) → List ℕ → ℕ → ℕ → Type 0
NoneBetween h path low p = (q : ℕ) → low ≤ q → q < p → h (path ++ q ∷ []) ≡ None

none_none : {i : ℕ} {o : Option ℕ} → o ≡ None → o ≡ Some i → ⊥
none_none n s = none_some (sym n ∙ s)

-- nothing stands before the first node of a row
pub nothing_before : (h : List ℕ → Option ℕ) (ordinary : ℕ → Type 0) (weigh : ℕ → ℕ) (path : List ℕ) → IsBeside h ordinary weigh path 0 0 None None
nothing_before h ordinary weigh path = record { held = λ q i next is ord. absurd (omega arith); opened = λ last is. absurd (none_some is) }

standalone_or : (e : Entry) → (e ≡ Standalone) ⊎ (e ≢ Standalone)
standalone_or Standalone = inl refl
standalone_or Cluster = inr (λ e. cc)
standalone_or Free = inr (λ e. cc)

stands_is : (e : Entry) (p w : ℕ) → e ≢ Standalone → stands_beside e p w ≡ Some (p, w)
stands_is Standalone p w n = absurd (n refl)
stands_is Cluster p w n = refl
stands_is Free p w n = refl

opened_is : (e : Entry) (p last : ℕ) → opened e p ≡ Some last → (last ≡ p) × (e ≢ Standalone)
opened_is Standalone p last h = absurd (none_some h)
opened_is Cluster p last h = (sym (some_same h), λ e. cc)
opened_is Free p last h = (sym (some_same h), λ e. cc)

module _ (k : ℕ) (whole : List Placed) (h : List ℕ → Option ℕ) (ordinary : ℕ → Type 0) (weigh : ℕ → ℕ) (plain : (q : List ℕ) (i : ℕ) → h q ≡ Some i → ordinary i → ¬ HasEntry whole q Standalone) where
  begins_apart : (low run base : ℕ) (before : Option ℕ) (kept : Option (ℕ × ℕ)) (path : List ℕ) (p w : ℕ) (e : Entry) (b s : Drawn)
      → low ≤ p → IsBeside h ordinary weigh path low run before kept → NoneBetween h path low p → HasEntry whole (path ++ p ∷ []) e
      → h (path ++ p ∷ []) ≡ Some base → weigh base ≡ w + staying_weight b + goes s
      → ((last first : ℕ) → kept ≡ Some (last, first) → p ≡ last + 1 → e ≢ Standalone → k < first + (w + staying_weight b + goes s))
      → IsApartFrom k h ordinary weigh (record { path = path ++ p ∷ []; weight = w; entry = e })
  begins_apart low run base before kept path p w e b s le near between has here weighs full parent q i j at jh ih other oi oj =
      let l = last_same path parent p (q + 1) at in
      let step = l.1 in
      let j_is : base ≡ j = some_same (sym here ∙ jh) in
      let q_held : h (path ++ q ∷ []) ≡ Some i = ap (λ u. h (u ++ q ∷ [])) l.0 ∙ ih in
      let not_alone : e ≢ Standalone = λ is. plain (path ++ p ∷ []) j jh oj (has.0, has.1, has.2, has.3 ∙ is) in
      elim (cases_lt q low) [
        | inl lt ↦
            let kept_is = near.held q i (omega arith) q_held oi in
            let f = full q (weigh i) kept_is (omega arith) not_alone in
            let wj : weigh base ≡ weigh j = ap weigh j_is in
            omega (arith, f, weighs, wj)
        | inr ge ↦ absurd (none_none (between q ge (omega arith)) q_held)
      ]

  goes_apart : (run last : ℕ) (path : List ℕ) (p w : ℕ) (e : Entry) → p ≡ last + 1 → h (path ++ last ∷ []) ≡ Some run → h (path ++ p ∷ []) ≡ Some run
      → IsApartFrom k h ordinary weigh (record { path = path ++ p ∷ []; weight = w; entry = e })
  goes_apart run last path p w e next before here parent q i j at jh ih other oi oj =
      let l = last_same path parent p (q + 1) at in
      let step = l.1 in
      let same : q ≡ last = omega arith in
      let q_held : h (path ++ last ∷ []) ≡ Some i = ap (λ x. h (path ++ x ∷ [])) (sym same) ∙ ap (λ u. h (u ++ q ∷ [])) l.0 ∙ ih in
      absurd (other (some_same (sym q_held ∙ before) ∙ some_same (sym here ∙ jh)))

  stays_apart : (path : List ℕ) (p w : ℕ) (e : Entry) → h (path ++ p ∷ []) ≡ None → IsApartFrom k h ordinary weigh (record { path = path ++ p ∷ []; weight = w; entry = e })
  stays_apart path p w e here parent q i j at jh ih other oi oj = absurd (none_none here jh)

  beside_stays : (path : List ℕ) (p : ℕ) → h (path ++ p ∷ []) ≡ None → IsBeside h ordinary weigh path (p + 1) 0 None None
  beside_stays path p here = record {
    held = λ q i next is ord. let same : q ≡ p = omega arith in absurd (none_none here (ap (λ x. h (path ++ x ∷ [])) (sym same) ∙ is));
    opened = λ last is. absurd (none_some is);
  }

  beside_begins : (path : List ℕ) (p base r : ℕ) (e : Entry) → HasEntry whole (path ++ p ∷ []) e → h (path ++ p ∷ []) ≡ Some base → weigh base ≡ r → IsBeside h ordinary weigh path (p + 1) base (opened e p) (stands_beside e p r)
  beside_begins path p base r e has here weighs = record {
    held = λ q i next is ord.
        let same : q ≡ p = omega arith in
        let p_held : h (path ++ p ∷ []) ≡ Some i = ap (λ x. h (path ++ x ∷ [])) (sym same) ∙ is in
        let i_is : i ≡ base = some_same (sym p_held ∙ here) in
        let not_alone : e ≢ Standalone = λ al. plain (path ++ p ∷ []) i p_held ord (has.0, has.1, has.2, has.3 ∙ al) in
        stands_is e p r not_alone ∙ (λ z. Some (sym same z, sym (ap weigh i_is ∙ weighs) z));
    opened = λ last is.
        let o = opened_is e p last is in (
          ap (λ x. h (path ++ x ∷ [])) o.0 ∙ here,
          stands_is e p r o.1 ∙ (λ z. Some (sym o.0 z, sym weighs z)),
        );
  }

  beside_goes : (path : List ℕ) (p run last : ℕ) (before : Option ℕ) (kept : Option (ℕ × ℕ)) (low : ℕ) → IsBeside h ordinary weigh path low run before kept → before ≡ Some last → h (path ++ p ∷ []) ≡ Some run → IsBeside h ordinary weigh path (p + 1) run (Some p) (moved kept p)
  beside_goes path p run last before kept low near is here =
      let kept_is = (near.opened last is).1 in
      let moved_is : moved kept p ≡ Some (p, weigh run) = ap (λ o. moved o p) kept_is in
      record {
        held = λ q i next at ord.
            let same : q ≡ p = omega arith in
            let p_held : h (path ++ p ∷ []) ≡ Some i = ap (λ x. h (path ++ x ∷ [])) (sym same) ∙ at in
            let i_is : run ≡ i = some_same (sym here ∙ p_held) in
            moved_is ∙ (λ z. Some (sym same z, ap weigh i_is z));
        opened = λ end e. let same : p ≡ end = some_same e in (ap (λ x. h (path ++ x ∷ [])) (sym same) ∙ here, moved_is ∙ (λ z. Some (same z, weigh run)));
      }

-- before the positions of a row nothing is found
run_low : (f low q : ℕ) (way : List ℕ) (d : Drawn) → Rises low d → q < low → run_at f (q ∷ way) d ≡ None
run_low f low q way Bare r lt = refl
run_low f low q way (Grown p w e cut b s) r lt = let le = r.0 in run_past f p w e cut b s q way (λ same. omega arith) ∙ run_low (open_by cut f p) (p + 1) q way s r.2 (omega arith)

gap_unheld : (parts : List Interval) (low : ℕ) (path : List ℕ) (p w : ℕ) (e : Entry) (cut : Cut) (b s : Drawn) → Rises low (Grown p w e cut b s) → AreUnheld low parts path (Grown p w e cut b s) → NoneBetween (holder parts) path low p
gap_unheld parts low path p w e cut b s r u q ge lt =
    u 0 q [] ge (run_past 0 p w e cut b s q [] (λ same. omega arith) ∙ run_low (open_by cut 0 p) (p + 1) q [] s r.2 (omega arith))

weighs_parts : (weigh : ℕ → ℕ) (base : ℕ) (b s : Drawn) → ((index : ℕ) → base ≤ index → index < base + interval_count b + interval_count s → weigh index ≡ weight_at index base b + weight_at index (base + interval_count b) s) → Weighs weigh base b × Weighs weigh (base + interval_count b) s
weighs_parts weigh base b s h = (
  (λ index ge lt. omega (arith, h index ge (omega arith), weight-below index (base + interval_count b) s lt)),
  (λ index ge lt. omega (arith, h index (omega arith) lt, weight-above index base b ge)),
)

weighs_begun : (weigh : ℕ → ℕ) (base p w : ℕ) (e : Entry) (b s : Drawn) → Weighs weigh base (Grown p w e Begins b s) → (weigh base ≡ w + staying_weight b + goes s) × Weighs weigh (base + 1) b × Weighs weigh (base + 1 + interval_count b) s
weighs_begun weigh base p w e b s h = (
  omega (arith, h base (omega arith) (omega arith), same_if base (w + staying_weight b + goes s), weight-below base (base + 1) b (omega arith), weight-below base (base + 1 + interval_count b) s (omega arith)),
  (λ index ge lt. omega (arith, h index (omega arith) (omega arith), other_if base index (w + staying_weight b + goes s) (λ same. omega arith), weight-below index (base + 1 + interval_count b) s lt)),
  (λ index ge lt. omega (arith, h index (omega arith) (omega arith), other_if base index (w + staying_weight b + goes s) (λ same. omega arith), weight-above index (base + 1) b ge)),
)

module _ (k : ℕ) (whole : List Placed) (parts : List Interval) (ordinary : ℕ → Type 0) (weigh : ℕ → ℕ) (plain : (q : List ℕ) (i : ℕ) → holder parts q ≡ Some i → ordinary i → ¬ HasEntry whole q Standalone) where
  pub apart_nodes : (low run base : ℕ) (before : Option ℕ) (kept : Option (ℕ × ℕ)) (path : List ℕ) (d : Drawn) → Rises low d → IsSoundDrawing before d → AreUnheld low parts path d → IsNumbered (holder parts) run base path d → AreNeighboursHeavy k kept d
      → Weighs weigh base d → AreAmong (placed_in path (bare d)) whole → IsBeside (holder parts) ordinary weigh path low run before kept → AreApartFrom k (holder parts) ordinary weigh (placed_in path (bare d))
  apart_nodes low run base before kept path Bare r h u n f g among near = tt
  apart_nodes low run base before kept path (Grown p w e Stays b s) r h u n f g among near =
      let here = path ++ p ∷ [] in
      let ws = weighs_parts weigh base b s (λ index ge lt. g index ge (omega arith)) in (
        stays_apart k whole (holder parts) ordinary weigh plain path p w e n.0,
        both _ (placed_in here (bare b)) (placed_in path (bare s))
            (apart_nodes 0 0 base None None here b r.1 h.1 (unheld_below parts path p w e Stays b s low r.0 u) n.1 f.0 ws.0 (among_below whole path p w e Stays b s among) (nothing_before (holder parts) ordinary weigh here))
            (apart_nodes (p + 1) 0 (base + interval_count b) None None path s r.2 h.2 (unheld_beside parts path p w e Stays b s low r.0 u) n.2 f.1 ws.1 (among_beside whole path p w e Stays b s among) (beside_stays k whole (holder parts) ordinary weigh plain path p n.0)),
      )
  apart_nodes low run base before kept path (Grown p w e Begins b s) r h u n f g among near =
      let here = path ++ p ∷ [] in
      let node : Placed = record { path = here; weight = w; entry = e } in
      let has : HasEntry whole here e = (node, among node (contains_here node (placed_in here (bare b) ++ placed_in path (bare s)) node refl), refl, refl) in
      let ws = weighs_begun weigh base p w e b s g in (
        begins_apart k whole (holder parts) ordinary weigh plain low run base before kept path p w e b s r.0 near (gap_unheld parts low path p w e Begins b s r u) has n.0 ws.0 f.0,
        both _ (placed_in here (bare b)) (placed_in path (bare s))
            (apart_nodes 0 0 (base + 1) None None here b r.1 h.0 (unheld_below parts path p w e Begins b s low r.0 u) n.1 f.1 ws.1 (among_below whole path p w e Begins b s among) (nothing_before (holder parts) ordinary weigh here))
            (apart_nodes (p + 1) base (base + 1 + interval_count b) (opened e p) (stands_beside e p (w + staying_weight b + goes s)) path s r.2 h.1 (unheld_beside parts path p w e Begins b s low r.0 u) n.2 f.2 ws.2 (among_beside whole path p w e Begins b s among)
            (beside_begins k whole (holder parts) ordinary weigh plain path p base (w + staying_weight b + goes s) e has n.0 ws.0)),
      )
  apart_nodes low run base before kept path (Grown p w e GoesOn b s) r h u n f g among near =
      let here = path ++ p ∷ [] in
      let ws = weighs_parts weigh base b s (λ index ge lt. g index ge (omega arith)) in (
        goes_apart k whole (holder parts) ordinary weigh plain run h.0 path p w e h.2 (near.opened h.0 h.1).0 n.0,
        both _ (placed_in here (bare b)) (placed_in path (bare s))
            (apart_nodes 0 0 base None None here b r.1 h.4 (unheld_below parts path p w e GoesOn b s low r.0 u) n.1 f.0 ws.0 (among_below whole path p w e GoesOn b s among) (nothing_before (holder parts) ordinary weigh here))
            (apart_nodes (p + 1) run (base + interval_count b) (Some p) (moved kept p) path s r.2 h.5 (unheld_beside parts path p w e GoesOn b s low r.0 u) n.2 f.1 ws.1 (among_beside whole path p w e GoesOn b s among)
            (beside_goes k whole (holder parts) ordinary weigh plain path p run h.0 before kept low near h.1 n.0)),
      )

-- the interval at a place holds its members
held_at : (parts : List Interval) → PairsBy (λ a b. ¬ ShareMember a b) parts → (i : ℕ) (x : Interval) → slice_get parts i ≡ Some x → (q : List ℕ) → IsTrue (has_member x q) → holder parts q ≡ Some i
held_at parts pairs i x at q t =
    let sp = split_at parts i x at in
    held q parts sp.0 x sp.1 sp.2 pairs t ∙ ap Some sp.3
  where
    split_at : (xs : List Interval) (i : ℕ) (x : Interval) → slice_get xs i ≡ Some x → (front : List Interval) × (back : List Interval) × (xs ≡ front ++ x ∷ back) × (length front ≡ i)
    split_at [] i x at = absurd (none_some at)
    split_at (y ∷ xs) zero x at = let same : y ≡ x = cc in ([], xs, ap (λ z. z ∷ xs) same, refl)
    split_at (y ∷ xs) (suc i) x at = let r = split_at xs i x at in (y ∷ r.0, r.1, ap (λ l. y ∷ l) r.2, ap suc r.3)

get_is : (parts : List Interval) (i : ℕ) (x d : Interval) → slice_get parts i ≡ Some x → get_or parts i d ≡ x
get_is [] i x d at = absurd (none_some at)
get_is (y ∷ xs) zero x d at = cc
get_is (y ∷ xs) (suc i) x d at = get_is xs i x d at

-- neighbours that are drawn so are full
pub drawn_full : (k : ℕ) (d : Drawn) → IsWhole d → AreNeighboursHeavy k None d → AreNeighboursFull k (placed (bare d)) (drawn_intervals [] d)
drawn_full k d h f i j parent first last end at_i at_j plain_i plain_j =
    let parts = drawn_intervals [] d in
    let nodes = placed (bare d) in
    let pairs = whole_apart d h in
    let ordinary = λ (n : ℕ). (x : Interval) → slice_get parts n ≡ Some x → IsOrdinary nodes x in
    let weigh = λ (n : ℕ). placed_part_weight nodes parts n in
    let plain : (q : List ℕ) (n : ℕ) → holder parts q ≡ Some n → ordinary n → ¬ HasEntry nodes q Standalone = λ q n is ord has.
    let m = holder_member parts q n is Root in
    ord (get_or parts n Root) (get_some parts n Root m.2) q m.1 has in
    let inside = all_inside nodes None [] d h.sound (λ x c. c) in
    let x_i : IsInside nodes (Run parent first last) = all_of (IsInside nodes) parts inside (Run parent first last) (there parts i (Run parent first last) at_i) in
    let x_j : IsInside nodes (Run parent (last + 1) end) = all_of (IsInside nodes) parts inside (Run parent (last + 1) end) (there parts j (Run parent (last + 1) end) at_j) in
    let le = x_i.0 in
    let node = x_j.1 (last + 1) (omega arith) x_j.0 in
    let claims = apart_nodes k nodes parts ordinary weigh plain 0 0 0 None None [] d h.rises h.sound (all_unheld d parts (whole_found d h)) (whole_numbered d h) f (λ index ge lt. whole_weight d h index) (λ x c. c) (nothing_before (holder parts) ordinary weigh []) in
    let claim = all_of (IsApartFrom k (holder parts) ordinary weigh) nodes claims node.0 node.1 in
    let held_j : holder parts node.0.path ≡ Some j = held_at parts pairs j (Run parent (last + 1) end) at_j node.0.path (subst (λ q. IsTrue (has_member (Run parent (last + 1) end) q)) (sym node.2) (reaches_child parent (last + 1) end (last + 1) (omega arith) x_j.0)) in
    let held_i : holder parts (parent ++ last ∷ []) ≡ Some i = held_at parts pairs i (Run parent first last) at_i (parent ++ last ∷ []) (reaches_child parent first last last le (omega arith)) in
    claim parent last i j node.2 held_j held_i
    (λ same. let two : Some (Run parent first last) ≡ Some (Run parent (last + 1) end) = sym at_i ∙ ap (slice_get parts) same ∙ at_j in let firsts : first ≡ last + 1 = cc in omega arith)
    (λ x at. subst (IsOrdinary nodes) (one at_i at) plain_i) (λ x at. subst (IsOrdinary nodes) (one at_j at) plain_j)
  where
    get_some : (xs : List Interval) (n : ℕ) (d : Interval) → n < length xs → slice_get xs n ≡ Some (get_or xs n d)
    get_some [] n d lt = absurd (omega arith)
    get_some (y ∷ xs) zero d lt = refl
    get_some (y ∷ xs) (suc n) d lt = get_some xs n d (omega arith)

    there : (xs : List Interval) (n : ℕ) (x : Interval) → slice_get xs n ≡ Some x → Contains xs x
    there [] n x at = absurd (none_some at)
    there (y ∷ xs) zero x at = let same : y ≡ x = cc in contains_here y xs x same
    there (y ∷ xs) (suc n) x at = contains_there y xs x (there xs n x at)

    one : {o : Option Interval} {x y : Interval} → o ≡ Some x → o ≡ Some y → x ≡ y
    one a b = cc
