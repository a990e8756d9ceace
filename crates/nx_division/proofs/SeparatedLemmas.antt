-- The intervals of the separator's plan as it is drawn are those that it has.
use Rattle.std.proofs.Common.{◌≡◌, ◌≢◌, ℕ, ◌+◌, ◌<◌, ◌≤◌, eqb, Bool, true, false, ◌&&◌, if◌then◌else◌, nat_le, List, [], ◌∷◌, ◌++◌, Option, None, Some, refl, sym, ap, subst, ◌∙◌, arith, append_assoc, ◌⊎◌, inl, inr}
use Rattle.std.specs.Prelude.{Contains}
use Rattle.std.proofs.lemmas.Bool.Decides.{nat_tests}
use Rattle.nx_lists.proofs.ListLemmas.{contains_parts}
use Rattle.std.proofs.lemmas.List.Elements.{Contains-append_cases}
use Rattle.nx_matrix.specs.declared.rule.Entry.{Entry}
use Rattle.nx_matrix.specs.declared.rule.Entry.TheVariants.{Standalone, Cluster, Free}
use Rattle.nx_cuts.proofs.FeasibleLemmas.{deeper, same_step}
use Rattle.nx_sketch.specs.Sketch.{Sketch, Empty, Plant, Placed, placed_in, sketch_weight, AreRising, AreUnclustered}
use Rattle.nx_sketch.specs.Plan.{HasNodeAt, HasEntry}
use Rattle.nx_sketch.proofs.MarkLemmas.{placed_from}
use Rattle.nx_division.specs.declared.cut.Cut.{Cut}
use Rattle.nx_division.specs.declared.cut.Cut.TheVariants.{Stays, Begins, GoesOn}
use Rattle.nx_division.specs.declared.separate.Side.{Side}
use Rattle.nx_division.specs.declared.separate.Kind.{Kind}
use Rattle.nx_division.specs.declared.separate.Kind.TheVariants.{Single, Loose, Inner}
use Rattle.nx_division.specs.Drawn.{Drawn, Bare, Grown, bare, Rises, IsSoundDrawing, NoneStays, opened}
use Rattle.nx_division.specs.Separated.{mark_by, spot_kind, same_side, row_cut, cut_of, side_of, separated}
use Rattle.nx_division.proofs.NumberLemmas.{none_some, some_same}
use Rattle.nx_division.proofs.PlanLemmas.{all_of}

abbrev pub last_side : Option Side → Option ℕ
last_side None = None
last_side (Some side) = Some side.last

pub bare-separated : (t tol a : ℕ) (root wide : Bool) (side : Option Side) (s : Sketch) → bare (separated t tol a root wide side s) ≡ s
bare-separated t tol a root wide side Empty = refl
bare-separated t tol a root wide side (Plant p w e b s) =
    let m = mark_by t tol a (w + sketch_weight b) in
    λ i. Plant p w e (bare-separated t tol (a + w) false m None b i)
    (bare-separated t tol (a + (w + sketch_weight b)) root wide (side_of (spot_kind e root wide m) p (nat_le (a + (w + sketch_weight b)) t)) s i)

pub rises_bare : (low : ℕ) (d : Drawn) → AreRising low (bare d) → Rises low d
rises_bare low Bare h = tt
rises_bare low (Grown p w e cut b s) h = (h.0, rises_bare 0 b h.1, rises_bare (p + 1) s h.2)

-- what a kind says of a node
pub kind_single : (e : Entry) (root wide m : Bool) → spot_kind e root wide m ≡ Single → (e ≡ Standalone) ⊎ ((root ≡ true) × (m ≡ true))
kind_single Standalone root wide m h = inl refl
kind_single Cluster true wide true h = inr (refl, refl)
kind_single Cluster true wide false h = absurd (cc)
kind_single Cluster false wide m h = absurd (cc)
kind_single Free true wide true h = inr (refl, refl)
kind_single Free false wide true h = absurd (cc)
kind_single Free root true false h = absurd (cc)
kind_single Free root false false h = absurd (cc)

pub kind_loose : (e : Entry) (root wide m : Bool) → spot_kind e root wide m ≡ Loose → (e ≡ Free) × (wide ≡ true) × (m ≡ false)
kind_loose Standalone root wide m h = absurd (cc)
kind_loose Cluster true wide true h = absurd (cc)
kind_loose Cluster true wide false h = absurd (cc)
kind_loose Cluster false wide m h = absurd (cc)
kind_loose Free true wide true h = absurd (cc)
kind_loose Free false wide true h = absurd (cc)
kind_loose Free root true false h = (refl, refl, refl)
kind_loose Free root false false h = absurd (cc)

pub kind_inner : (e : Entry) (root wide m : Bool) → spot_kind e root wide m ≡ Inner → e ≢ Standalone
kind_inner Standalone root wide m h = absurd (cc)
kind_inner Cluster root wide m h = λ e. cc
kind_inner Free root wide m h = λ e. cc

pub is_loose_kind : (e : Entry) (root wide m : Bool) → e ≡ Free → wide ≡ true → m ≡ false → spot_kind e root wide m ≡ Loose
is_loose_kind Standalone root wide m e w n = absurd (cc)
is_loose_kind Cluster root wide m e w n = absurd (cc)
is_loose_kind Free root true false e w n = refl
is_loose_kind Free root true true e w n = absurd (cc)
is_loose_kind Free root false m e w n = absurd (cc)

side_same : (x y : Bool) → same_side x y ≡ true → x ≡ y
side_same true true h = refl
side_same true false h = absurd (cc)
side_same false true h = absurd (cc)
side_same false false h = refl

same_sides : (x : Bool) → same_side x x ≡ true
same_sides true = refl
same_sides false = refl

both_true : (x y : Bool) → x && y ≡ true → (x ≡ true) × (y ≡ true)
both_true true true h = (refl, refl)
both_true true false h = absurd (cc)
both_true false y h = absurd (cc)

-- one that goes on is of the row of the one before it
pub record GoesWith (side : Option Side) (p : ℕ) (l : Bool) : Type 0 where
  pub with : Side
  pub is : side ≡ Some with
  pub next : with.last + 1 ≡ p
  pub same : with.left ≡ l

if_goes : (x : Bool) → (if x then GoesOn else Begins) ≡ GoesOn → x ≡ true
if_goes true h = refl
if_goes false h = absurd (cc)

if_begins : (x : Bool) → (if x then GoesOn else Begins) ≡ Begins → x ≡ false
if_begins true h = absurd (cc)
if_begins false h = refl

eqb_same : (x y : ℕ) → eqb x y ≡ true → x ≡ y
eqb_same x y h = grind (arith, nat_tests)

pub goes_cut : (k : Kind) (side : Option Side) (p : ℕ) (l : Bool) → cut_of k side p l ≡ GoesOn → (k ≡ Loose) × GoesWith side p l
goes_cut Single side p l h = absurd (cc)
goes_cut Inner side p l h = absurd (cc)
goes_cut Loose None p l h = absurd (cc)
goes_cut Loose (Some x) p l h =
    let t = both_true (eqb (x.last + 1) p) (same_side x.left l) (if_goes (eqb (x.last + 1) p && same_side x.left l) h) in
    (refl, record { with = x; is = refl; next = eqb_same (x.last + 1) p t.0; same = side_same x.left l t.1 })

pub begins_cut : (side : Option Side) (p q : ℕ) (l : Bool) → row_cut side p l ≡ Begins → side ≡ Some (record { last = q; left = l }) → q + 1 ≡ p → ⊥
begins_cut None p q l h is next = none_some is
begins_cut (Some x) p q l h is next =
    let f = if_begins (eqb (x.last + 1) p && same_side x.left l) h in
    let xs : x ≡ record { last = q; left = l } = some_same is in
    let u : eqb (x.last + 1) p ≡ true = ap (λ (y : Side). eqb (y.last + 1) p) xs ∙ ap (eqb (q + 1)) (sym next) ∙ same_eqb (q + 1) in
    let v : same_side x.left l ≡ true = ap (λ (y : Side). same_side y.left l) xs ∙ same_sides l in
    let both : eqb (x.last + 1) p && same_side x.left l ≡ true = λ i. u i && v i in cc
  where
    same_eqb : (n : ℕ) → eqb n n ≡ true
    same_eqb n = grind (arith, nat_tests)

row_not_stays : (side : Option Side) (p : ℕ) (l : Bool) → row_cut side p l ≡ Stays → ⊥
row_not_stays None p l h = cc
row_not_stays (Some x) p l h = by (eqb (x.last + 1) p && same_side x.left l) h
  where
    by : (b : Bool) → (if b then GoesOn else Begins) ≡ Stays → ⊥
    by true h = cc
    by false h = cc

pub stays_cut : (k : Kind) (side : Option Side) (p : ℕ) (l : Bool) → cut_of k side p l ≡ Stays → k ≡ Inner
stays_cut Single side p l h = absurd (cc)
stays_cut Loose side p l h = absurd (row_not_stays side p l h)
stays_cut Inner side p l h = refl

pub sound_any : (before : Option ℕ) (d : Drawn) → IsSoundDrawing None d → IsSoundDrawing before d
sound_any before Bare h = h
sound_any before (Grown p w e Stays b s) h = h
sound_any before (Grown p w e Begins b s) h = h
sound_any before (Grown p w e GoesOn b s) h = absurd (none_some h.1)

sound_by : (k : Kind) (side : Option Side) (p w : ℕ) (e : Entry) (l : Bool) (b s : Drawn) → (k ≡ Loose → e ≡ Free) → (k ≡ Inner → e ≢ Standalone) → IsSoundDrawing None b → IsSoundDrawing (last_side (side_of k p l)) s → (cut : Cut) → cut_of k side p l ≡ cut → IsSoundDrawing (last_side side) (Grown p w e cut b s)
sound_by k side p w e l b s lf inn hb hs Stays is = let k_is = stays_cut k side p l is in (inn k_is, hb, subst (λ z. IsSoundDrawing (last_side (side_of z p l)) s) k_is hs)
sound_by k side p w e l b s lf inn hb hs GoesOn is =
    let g = goes_cut k side p l is in
    let free = lf g.0 in (
      g.1.with.last,
      ap last_side g.1.is,
      sym g.1.next,
      (λ al. let z = sym free ∙ al in free_alone z),
      hb,
      subst (λ z. IsSoundDrawing (last_side (side_of z p l)) s) g.0 hs,
    )
  where
    free_alone : Free ≡ Standalone → ⊥
    free_alone h = cc
sound_by Single side p w e l b s lf inn hb hs Begins is = (hb, sound_any (opened e p) s hs)
sound_by Loose side p w e l b s lf inn hb hs Begins is = (hb, subst (λ z. IsSoundDrawing (opened z p) s) (sym (lf refl)) hs)
sound_by Inner side p w e l b s lf inn hb hs Begins is = absurd (cc)

pub sound-separated : (t tol a : ℕ) (root wide : Bool) (side : Option Side) (s : Sketch) → IsSoundDrawing (last_side side) (separated t tol a root wide side s)
sound-separated t tol a root wide side Empty = tt
sound-separated t tol a root wide side (Plant p w e b s) =
    let m = mark_by t tol a (w + sketch_weight b) in
    let l = nat_le (a + (w + sketch_weight b)) t in
    let k = spot_kind e root wide m in
    sound_by k side p w e l _ _ (λ h. (kind_loose e root wide m h).0) (kind_inner e root wide m)
    (sound-separated t tol (a + w) false m None b) (sound-separated t tol (a + (w + sketch_weight b)) root wide (side_of k p l) s) (cut_of k side p l) refl

member_by : (p w : ℕ) (e : Entry) (b s : Drawn) (cut : Cut) → cut ≢ Stays → NoneStays s → NoneStays (Grown p w e cut b s)
member_by p w e b s Stays n h = absurd (n refl)
member_by p w e b s Begins n h = h
member_by p w e b s GoesOn n h = h

root_kind : (e : Entry) (m : Bool) → e ≢ Cluster → spot_kind e true true m ≡ Inner → ⊥
root_kind Standalone m n h = cc
root_kind Cluster m n h = n refl
root_kind Free true n h = cc
root_kind Free false n h = cc

pub members-separated : (t tol a : ℕ) (side : Option Side) (s : Sketch) → AreUnclustered s → NoneStays (separated t tol a true true side s)
members-separated t tol a side Empty u = tt
members-separated t tol a side (Plant p w e b s) u =
    let m = mark_by t tol a (w + sketch_weight b) in
    let l = nat_le (a + (w + sketch_weight b)) t in
    let k = spot_kind e true true m in
    member_by p w e _ _ (cut_of k side p l) (λ h. root_kind e m u.0 (stays_cut k side p l h)) (members-separated t tol (a + (w + sketch_weight b)) (side_of k p l) s u.1)

-- what stands at this step or later below the path stands in this row or below it
abbrev pub OnlyHere : List Placed → List ℕ → ℕ → Sketch → Type 0
OnlyHere all path low s = (node : Placed) → Contains all node → (q : ℕ) (way : List ℕ) → node.path ≡ path ++ q ∷ way → low ≤ q → Contains (placed_in path s) node

module _ (path : List ℕ) (p w : ℕ) (e : Entry) (b s : Sketch) (low : ℕ) (r : AreRising low (Plant p w e b s)) where
  -- a node of this row or below it, by the first step
  first_step : (node : Placed) (q : ℕ) (way : List ℕ) → Contains (placed_in path (Plant p w e b s)) node → node.path ≡ path ++ q ∷ way
      → ((q ≡ p) × ((record { path = path ++ p ∷ []; weight = w; entry = e } ≡ node) ⊎ Contains (placed_in (path ++ p ∷ []) b) node)) ⊎ ((p < q) × Contains (placed_in path s) node)
  first_step node q way c is =
      elim (contains_parts (record { path = path ++ p ∷ []; weight = w; entry = e }) (placed_in (path ++ p ∷ []) b ++ placed_in path s) node c) [
        | inl same ↦ inl (same_step path q p way [] (sym is ∙ sym (ap (λ (n : Placed). n.path) same)), inl same)
        | inr rest ↦ elim (Contains-append_cases (placed_in (path ++ p ∷ []) b) (placed_in path s) node rest) [
          | inl lower ↦
              let f = all_of _ (placed_in (path ++ p ∷ []) b) (placed_from 0 (path ++ p ∷ []) b r.1) node lower in
              inl (same_step path q p way (f.0 ∷ f.1) (sym is ∙ f.2 ∙ append_assoc path (p ∷ []) (f.0 ∷ f.1)), inr lower)
          | inr later ↦
              let f = all_of _ (placed_in path s) (placed_from (p + 1) path s r.2) node later in
              let far = f.3 in
              let step = same_step path q f.0 way f.1 (sym is ∙ f.2) in
              inr (omega arith, later)
        ]
      ]

  pub only_below : (all : List Placed) → OnlyHere all path low (Plant p w e b s) → OnlyHere all (path ++ p ∷ []) 0 b
  only_below all only node c q way is le =
      let long : node.path ≡ path ++ p ∷ q ∷ way = is ∙ append_assoc path (p ∷ []) (q ∷ way) in
      elim (first_step node p (q ∷ way) (only node c p (q ∷ way) long r.0) long) [
        | inl here ↦ elim here.1 [
          | inl same ↦ absurd (deeper path p p q way (ap (λ (n : Placed). n.path) same ∙ long))
          | inr lower ↦ lower
        ]
        | inr later ↦ absurd (let far = later.0 in omega arith)
      ]

  pub only_beside : (all : List Placed) → OnlyHere all path low (Plant p w e b s) → OnlyHere all path (p + 1) s
  only_beside all only node c q way is le =
      let near = r.0 in
      elim (first_step node q way (only node c q way is (omega arith)) is) [
        | inl here ↦ absurd (let same = here.0 in omega arith)
        | inr later ↦ later.1
      ]

  -- the entry at the first node is its own, and nothing stands before it
  pub own_entry : (all : List Placed) → OnlyHere all path low (Plant p w e b s) → (x : Entry) → HasEntry all (path ++ p ∷ []) x → e ≡ x
  own_entry all only x has =
      elim (first_step has.0 p [] (only has.0 has.1 p [] has.2 r.0) has.2) [
        | inl here ↦ elim here.1 [
          | inl same ↦ ap (λ (n : Placed). n.entry) same ∙ has.3
          | inr lower ↦
              let f = all_of _ (placed_in (path ++ p ∷ []) b) (placed_from 0 (path ++ p ∷ []) b r.1) has.0 lower in
              absurd (deeper path p p f.0 f.1 (sym has.2 ∙ f.2 ∙ append_assoc path (p ∷ []) (f.0 ∷ f.1)))
        ]
        | inr later ↦ absurd (let far = later.0 in omega arith)
      ]

  pub none_before : (all : List Placed) → OnlyHere all path low (Plant p w e b s) → (q : ℕ) → low ≤ q → q < p → HasNodeAt all (path ++ q ∷ []) → ⊥
  none_before all only q le lt at =
      elim (first_step at.0 q [] (only at.0 at.1 q [] at.2 le) at.2) [
        | inl here ↦ let same = here.0 in omega arith
        | inr later ↦ let far = later.0 in omega arith
      ]
