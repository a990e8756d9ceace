-- Where the intervals of a drawn sketch stand: which nodes are members, and that they are drawn in document order and share none.
use Rattle.std.proofs.Common.{◌≡◌, ◌≢◌, ℕ, ◌+◌, ◌<◌, ◌≤◌, eqb, if◌then◌else◌, Bool, true, false, IsTrue, List, [], ◌∷◌, ◌++◌, Option, None, Some, refl, sym, ap, subst, ◌∙◌, arith, append_assoc, ◌⊎◌, inl, inr}
use Rattle.std.specs.List.{AllByRecursion}
use Rattle.std.proofs.lemmas.Bool.Decides.{nat_tests}
use Rattle.std.proofs.lemmas.Bool.{cases_lt}
use Rattle.std.proofs.lemmas.List.{append_cancel_left}
use Rattle.nx_matrix.specs.declared.rule.Entry.{Entry}
use Rattle.nx_matrix.specs.declared.rule.Entry.TheVariants.{Standalone, Cluster, Free}
use Rattle.nx_parts.specs.declared.interval.Interval.{Interval}
use Rattle.nx_parts.specs.declared.interval.Interval.TheVariants.{Root, Run}
use Rattle.nx_parts.specs.Order.{ComesBefore, first_member}
use Rattle.nx_parts.specs.Partitioning.{has_member, ShareMember}
use Rattle.nx_cuts.proofs.PairLemmas.{PairsBy, both, weaker, pairs-append}
use Rattle.nx_cuts.proofs.FeasibleLemmas.{child_reaches, no_truth}
use Rattle.nx_division.specs.declared.cut.Cut.{Cut}
use Rattle.nx_division.specs.declared.cut.Cut.TheVariants.{Stays, Begins, GoesOn}
use Rattle.nx_division.specs.Drawn.{Drawn, Bare, Grown, end_position, drawn_intervals, Rises, IsSoundDrawing, opened}

-- the first position of the interval that a node is a member of: `first` is that of the one that is open
abbrev pub first_by : Cut → ℕ → ℕ → Option ℕ
first_by Stays first position = None
first_by Begins first position = Some position
first_by GoesOn first position = Some first

abbrev pub open_by : Cut → ℕ → ℕ → ℕ
open_by Stays first position = first
open_by Begins first position = position
open_by GoesOn first position = first

abbrev pub here_or : List ℕ → Option ℕ → Option ℕ → Option ℕ
here_or [] here below = here
here_or (step ∷ way) here below = below

-- where the interval begins that has the node at the way down from here as a member
abbrev pub run_at : ℕ → List ℕ → Drawn → Option ℕ
run_at first [] d = None
run_at first (step ∷ way) Bare = None
run_at first (step ∷ way) (Grown position weight entry cut below beside) =
    if eqb step position then here_or way (first_by cut first position) (run_at 0 way below)
    else run_at (open_by cut first position) (step ∷ way) beside

cond_true : {X : Type 0} (b : Bool) (x y : X) → b ≡ true → (if b then x else y) ≡ x
cond_true true x y e = refl
cond_true false x y e = absurd (cc)

cond_false : {X : Type 0} (b : Bool) (x y : X) → b ≡ false → (if b then x else y) ≡ y
cond_false true x y e = absurd (cc)
cond_false false x y e = refl

same_eqb : (p : ℕ) → eqb p p ≡ true
same_eqb p = grind (arith, nat_tests)

other_eqb : (i p : ℕ) → i ≢ p → eqb i p ≡ false
other_eqb i p n = grind (arith, nat_tests)

pub run_here : (first p w : ℕ) (e : Entry) (cut : Cut) (b s : Drawn) (way : List ℕ) → run_at first (p ∷ way) (Grown p w e cut b s) ≡ here_or way (first_by cut first p) (run_at 0 way b)
run_here first p w e cut b s way = cond_true (eqb p p) _ _ (same_eqb p)

pub run_past : (first p w : ℕ) (e : Entry) (cut : Cut) (b s : Drawn) (i : ℕ) (way : List ℕ) → i ≢ p → run_at first (i ∷ way) (Grown p w e cut b s) ≡ run_at (open_by cut first p) (i ∷ way) s
run_past first p w e cut b s i way n = cond_false (eqb i p) _ _ (other_eqb i p n)

-- a run doesn't end before it begins
pub end_ge : (last : ℕ) (s : Drawn) → IsSoundDrawing (Some last) s → last ≤ end_position last s
end_ge last Bare h = omega arith
end_ge last (Grown p w e Stays b s) h = omega arith
end_ge last (Grown p w e Begins b s) h = omega arith
end_ge last (Grown p w e GoesOn b s) h =
    let q = h.2 in let g = end_ge p s h.5 in
    let same : last ≡ h.0 = some_same h.1 in omega arith
  where
    some_same : {x y : ℕ} → Some x ≡ Some y → x ≡ y
    some_same e = cc

-- those that go on are members of the open interval
pub run_row : (first last i : ℕ) (s : Drawn) → IsSoundDrawing (Some last) s → last < i → i ≤ end_position last s → run_at first (i ∷ []) s ≡ Some first
run_row first last i Bare h a b = absurd (omega arith)
run_row first last i (Grown p w e Stays x s) h a b = absurd (omega arith)
run_row first last i (Grown p w e Begins x s) h a b = absurd (omega arith)
run_row first last i (Grown p w e GoesOn x s) h a b = elim (cases_lt p i) [
  | inl lt ↦ run_past first p w e GoesOn x s i [] (λ same. omega arith) ∙ run_row first p i s h.5 lt b
  | inr ge ↦
      let last_same : last ≡ h.0 = some_same h.1 in
      let next = h.2 in
      let same : p ≡ i = omega arith in
      subst (λ j. run_at first (j ∷ []) (Grown p w e GoesOn x s) ≡ Some first) same (run_here first p w e GoesOn x s [])
]
  where
    some_same : {x y : ℕ} → Some x ≡ Some y → x ≡ y
    some_same e = cc

abbrev pub first_of : Interval → ℕ
first_of Root = 0
first_of (Run parent first last) = first

-- the member stands below the node at the path, and what is drawn there says where its interval begins
pub record IsFound (first low : ℕ) (path : List ℕ) (d : Drawn) (x : Interval) (q : List ℕ) : Type 0 where
  pub step : ℕ
  pub way : List ℕ
  pub leads : q ≡ path ++ step ∷ way
  pub within : low ≤ step
  pub begins : run_at first (step ∷ way) d ≡ Some (first_of x)

abbrev pub AreFound : ℕ → ℕ → List ℕ → Drawn → List Interval → Type 0
AreFound first low path d xs = AllByRecursion (λ x. (q : List ℕ) → IsTrue (has_member x q) → IsFound first low path d x q) xs

module _ (first low : ℕ) (path : List ℕ) (p w : ℕ) (e : Entry) (cut : Cut) (b s : Drawn) (le : low ≤ p) where
  found_below : (xs : List Interval) → AreFound 0 0 (path ++ p ∷ []) b xs → AreFound first low path (Grown p w e cut b s) xs
  found_below xs a = weaker _ xs (λ x f q t. let g = f q t in record {
    step = p;
    way = g.step ∷ g.way;
    leads = g.leads ∙ append_assoc path (p ∷ []) (g.step ∷ g.way);
    within = le;
    begins = run_here first p w e cut b s (g.step ∷ g.way) ∙ g.begins;
  }) a

  found_beside : (xs : List Interval) → AreFound (open_by cut first p) (p + 1) path s xs → AreFound first low path (Grown p w e cut b s) xs
  found_beside xs a = weaker _ xs (λ x f q t. let g = f q t in let far = g.within in record {
    step = g.step;
    way = g.way;
    leads = g.leads;
    within = omega arith;
    begins = run_past first p w e cut b s g.step g.way (λ same. omega arith) ∙ g.begins;
  }) a

opened_sound : (e : Entry) (p : ℕ) (s : Drawn) → IsSoundDrawing (opened e p) s → (last : ℕ) → end_position p s ≡ last → ((p ≡ last) ⊎ IsSoundDrawing (Some p) s)
opened_sound Standalone p Bare h last same = inl same
opened_sound Standalone p (Grown q w e Stays b s) h last same = inl same
opened_sound Standalone p (Grown q w e Begins b s) h last same = inl same
opened_sound Standalone p (Grown q w e GoesOn b s) h last same = absurd (no_some h.0 h.1)
  where
    no_some : (x : ℕ) → None ≡ Some x → ⊥
    no_some x e = cc
opened_sound Cluster p s h last same = inr h
opened_sound Free p s h last same = inr h

pub first_found : (first low : ℕ) (path : List ℕ) (p w : ℕ) (e : Entry) (b s : Drawn) → low ≤ p → IsSoundDrawing (opened e p) s → (q : List ℕ) → IsTrue (has_member (Run path p (end_position p s)) q) → IsFound first low path (Grown p w e Begins b s) (Run path p (end_position p s)) q
first_found first low path p w e b s le h q t =
    let r = child_reaches path p (end_position p s) q t in
    let here : run_at first (r.0 ∷ []) (Grown p w e Begins b s) ≡ Some p =
    elim (cases_lt p r.0) [
      | inl lt ↦ run_past first p w e Begins b s r.0 [] (λ same. omega arith) ∙ (elim (opened_sound e p s h (end_position p s) refl) [
        | inl same ↦ absurd (let far = r.3 in omega arith)
        | inr sound ↦ run_row p p r.0 s sound lt r.3
      ])
      | inr ge ↦
          let low' = r.2 in
          let same : p ≡ r.0 = omega arith in
          subst (λ j. run_at first (j ∷ []) (Grown p w e Begins b s) ≡ Some p) same (run_here first p w e Begins b s [])
    ] in
    let near = r.2 in
    record { step = r.0; way = []; leads = r.1; within = omega arith; begins = here }

-- each member of an interval that is drawn in is found
pub found : (first low : ℕ) (before : Option ℕ) (path : List ℕ) (d : Drawn) → Rises low d → IsSoundDrawing before d → AreFound first low path d (drawn_intervals path d)
found first low before path Bare r h = tt
found first low before path (Grown p w e Stays b s) r h =
    both _ (drawn_intervals (path ++ p ∷ []) b) (drawn_intervals path s)
    (found_below first low path p w e Stays b s r.0 (drawn_intervals (path ++ p ∷ []) b) (found 0 0 None (path ++ p ∷ []) b r.1 h.1))
    (found_beside first low path p w e Stays b s r.0 (drawn_intervals path s) (found first (p + 1) None path s r.2 h.2))
found first low before path (Grown p w e Begins b s) r h = (
  first_found first low path p w e b s r.0 h.1,
  both _ (drawn_intervals (path ++ p ∷ []) b) (drawn_intervals path s)
      (found_below first low path p w e Begins b s r.0 (drawn_intervals (path ++ p ∷ []) b) (found 0 0 None (path ++ p ∷ []) b r.1 h.0))
      (found_beside first low path p w e Begins b s r.0 (drawn_intervals path s) (found p (p + 1) (opened e p) path s r.2 h.1)),
)
found first low before path (Grown p w e GoesOn b s) r h =
    both _ (drawn_intervals (path ++ p ∷ []) b) (drawn_intervals path s)
    (found_below first low path p w e GoesOn b s r.0 (drawn_intervals (path ++ p ∷ []) b) (found 0 0 None (path ++ p ∷ []) b r.1 h.4))
    (found_beside first low path p w e GoesOn b s r.0 (drawn_intervals path s) (found first (p + 1) (Some p) path s r.2 h.5))

-- of two paths through one node the one with the lesser step comes first
pub before_step : (path : List ℕ) (a b : ℕ) (r s : List ℕ) → a < b → ComesBefore (path ++ a ∷ r) (path ++ b ∷ s)
before_step [] a b r s l = inl l
before_step (step ∷ path) a b r s l = inr (refl, before_step path a b r s l)

-- a node comes before those below it
pub before_below : (path : List ℕ) (a next : ℕ) (r : List ℕ) → ComesBefore (path ++ a ∷ []) (path ++ a ∷ next ∷ r)
before_below [] a next r = inr (refl, tt)
before_below (step ∷ path) a next r = inr (refl, before_below path a next r)

pub before_same : {a b c d : List ℕ} → a ≡ c → b ≡ d → ComesBefore c d → ComesBefore a b
before_same {a} {b} {c} {d} e f h = subst (λ x. ComesBefore x b) (sym e) (subst (λ y. ComesBefore c y) (sym f) h)

pub not_itself : (path : List ℕ) → ComesBefore path path → ⊥
not_itself [] h = h
not_itself (step ∷ path) (inl lt) = omega arith
not_itself (step ∷ path) (inr same) = not_itself path same.1

abbrev pub Comes : Interval → Interval → Type 0
Comes a b = ComesBefore (first_member a) (first_member b)

-- the first members stand below the node at the path
abbrev pub FirstsFrom : ℕ → List ℕ → List Interval → Type 0
FirstsFrom low path xs = AllByRecursion (λ x. (step : ℕ) × (way : List ℕ) × (first_member x ≡ path ++ step ∷ way) × (low ≤ step)) xs

with_first : (low : ℕ) (path : List ℕ) (p w : ℕ) (e : Entry) (cut : Cut) (b s : Drawn) → low ≤ p → FirstsFrom low path (drawn_intervals (path ++ p ∷ []) b ++ drawn_intervals path s) → FirstsFrom low path (drawn_intervals path (Grown p w e cut b s))
with_first low path p w e Stays b s le f = f
with_first low path p w e Begins b s le f = ((p, [], refl, le), f)
with_first low path p w e GoesOn b s le f = f

pub firsts : (low : ℕ) (path : List ℕ) (d : Drawn) → Rises low d → FirstsFrom low path (drawn_intervals path d)
firsts low path Bare r = tt
firsts low path (Grown p w e cut b s) r =
    with_first low path p w e cut b s r.0
    (both _ (drawn_intervals (path ++ p ∷ []) b) (drawn_intervals path s)
    (weaker _ (drawn_intervals (path ++ p ∷ []) b) (λ x f. (p, f.0 ∷ f.1, f.2 ∙ append_assoc path (p ∷ []) (f.0 ∷ f.1), r.0)) (firsts 0 (path ++ p ∷ []) b r.1))
    (weaker _ (drawn_intervals path s) (λ x f. (f.0, f.1, f.2, (let far = f.3 in let near = r.0 in omega arith))) (firsts (p + 1) path s r.2)))

begun_first : (path : List ℕ) (p : ℕ) (last : ℕ) (xs ys : List Interval) → FirstsFrom 0 (path ++ p ∷ []) xs → FirstsFrom (p + 1) path ys → AllByRecursion (Comes (Run path p last)) (xs ++ ys)
begun_first path p last xs ys f g =
    both _ xs ys
    (weaker _ xs (λ y f. before_same refl (f.2 ∙ append_assoc path (p ∷ []) (f.0 ∷ f.1)) (before_below path p f.0 f.1)) f)
    (weaker _ ys (λ y g. let far = g.3 in before_same refl g.2 (before_step path p g.0 [] g.1 (omega arith))) g)

with_sorted : (path : List ℕ) (p w : ℕ) (e : Entry) (cut : Cut) (b s : Drawn) → FirstsFrom 0 (path ++ p ∷ []) (drawn_intervals (path ++ p ∷ []) b) → FirstsFrom (p + 1) path (drawn_intervals path s)
    → PairsBy Comes (drawn_intervals (path ++ p ∷ []) b ++ drawn_intervals path s) → PairsBy Comes (drawn_intervals path (Grown p w e cut b s))
with_sorted path p w e Stays b s f g h = h
with_sorted path p w e Begins b s f g h = (begun_first path p (end_position p s) (drawn_intervals (path ++ p ∷ []) b) (drawn_intervals path s) f g, h)
with_sorted path p w e GoesOn b s f g h = h

pub sorted : (low : ℕ) (path : List ℕ) (d : Drawn) → Rises low d → PairsBy Comes (drawn_intervals path d)
sorted low path Bare r = tt
sorted low path (Grown p w e cut b s) r =
    let f = firsts 0 (path ++ p ∷ []) b r.1 in
    let g = firsts (p + 1) path s r.2 in
    with_sorted path p w e cut b s f g
    (pairs-append Comes (drawn_intervals (path ++ p ∷ []) b) (drawn_intervals path s) f g
    (λ x y f g. let far = g.3 in before_same (f.2 ∙ append_assoc path (p ∷ []) (f.0 ∷ f.1)) g.2 (before_step path p g.0 (f.0 ∷ f.1) g.1 (omega arith)))
    (sorted 0 (path ++ p ∷ []) b r.1) (sorted (p + 1) path s r.2))

-- two intervals that have a node in common and begin at one position begin with one node
same_first : (x y : Interval) (q : List ℕ) → IsTrue (has_member x q) → IsTrue (has_member y q) → q ≢ [] → first_of x ≡ first_of y → first_member x ≡ first_member y
same_first Root y [] a b n e = absurd (n refl)
same_first Root y (p ∷ q) a b n e = absurd (no_truth a)
same_first (Run parent first last) Root [] a b n e = absurd (n refl)
same_first (Run parent first last) Root (p ∷ q) a b n e = absurd (no_truth b)
same_first (Run parent first last) (Run other begin end) q a b n e =
    let r = child_reaches parent first last q a in
    let t = child_reaches other begin end q b in
    fronts_same parent other r.0 t.0 (sym r.1 ∙ t.1) first begin e
  where
    fronts_same : (u v : List ℕ) (i j : ℕ) → u ++ i ∷ [] ≡ v ++ j ∷ [] → (f g : ℕ) → f ≡ g → u ++ f ∷ [] ≡ v ++ g ∷ []
    fronts_same [] [] i j h f g e = ap (λ k. k ∷ []) e
    fronts_same [] (y ∷ []) i j h f g e = absurd (cc)
    fronts_same [] (y ∷ z ∷ v) i j h f g e = absurd (cc)
    fronts_same (x ∷ []) [] i j h f g e = absurd (cc)
    fronts_same (x ∷ z ∷ u) [] i j h f g e = absurd (cc)
    fronts_same (x ∷ u) (y ∷ v) i j h f g e =
        let head : x ≡ y = cc in
        let tail : u ++ i ∷ [] ≡ v ++ j ∷ [] = cc in
        let rest = fronts_same u v i j tail f g e in
        λ k. head k ∷ rest k

not_empty : (path : List ℕ) (i : ℕ) (way q : List ℕ) → q ≡ path ++ i ∷ way → q ≢ []
not_empty [] i way q e n = let h = sym n ∙ e in cc
not_empty (x ∷ path) i way q e n = let h = sym n ∙ e in cc

-- intervals in document order whose members are found share none
pub apart : (low : ℕ) (path : List ℕ) (d : Drawn) (xs : List Interval) → AreFound 0 low path d xs → PairsBy Comes xs → PairsBy (λ a b. ¬ ShareMember a b) xs
apart low path d [] a p = tt
apart low path d (x ∷ xs) a p = (one xs a.1 p.0, apart low path d xs a.1 p.1)
  where
    one : (ys : List Interval) → AreFound 0 low path d ys → AllByRecursion (Comes x) ys → AllByRecursion (λ y. ¬ ShareMember x y) ys
    one [] f c = tt
    one (y ∷ ys) f c = (
      (λ s.
          let g = a.0 s.0 s.1 in
          let h = f.0 s.0 s.2 in
          let steps : path ++ g.step ∷ g.way ≡ path ++ h.step ∷ h.way = sym g.leads ∙ h.leads in
          let ways : g.step ∷ g.way ≡ h.step ∷ h.way = append_cancel_left path (g.step ∷ g.way) (h.step ∷ h.way) steps in
          let firsts_same : first_of x ≡ first_of y = let both' : Some (first_of x) ≡ Some (first_of y) = sym g.begins ∙ ap (λ (l : List ℕ). run_at 0 l d) ways ∙ h.begins in cc in
          let same = same_first x y s.0 s.1 s.2 (not_empty path g.step g.way s.0 g.leads) firsts_same in
          not_itself (first_member y) (subst (λ m. ComesBefore m (first_member y)) same c.0)),
      one ys f.1 c.1,
    )
