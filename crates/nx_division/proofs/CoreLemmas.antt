-- What has to stay with a node, and when it isn't too much.
use Rattle.std.proofs.Common.{◌≡◌, ℕ, ◌+◌, ◌^◌, ◌<◌, ◌≤◌, Bool, true, false, ◌&&◌, if◌then◌else◌, List, [], refl, sym, ap, ◌∙◌, arith}
use Rattle.nx_matrix.specs.declared.rule.Entry.{Entry}
use Rattle.nx_sketch.specs.declared.spot.Spot.{Spot}
use Rattle.nx_sketch.specs.Sketch.{Sketch, Empty, Plant, spots_of, sketch_weight}
use Rattle.nx_sketch.specs.Sketch.{IsFlat}
use Rattle.nx_division.specs.Parts.{IsParted}
use Rattle.nx_sketch.specs.Plan.{is_cluster}
use Rattle.nx_division.specs.Settled.{core, AreTopsLight, IsOwnLight, CanBeDrawn}

pub core-sketch_weight : (keep : Bool) (s : Sketch) → core keep s ≤ sketch_weight s
core-sketch_weight keep Empty = omega arith
core-sketch_weight keep (Plant p w e b s) = by (keep && is_cluster e) (core-sketch_weight keep b) (core-sketch_weight keep s)
  where
    by : (t : Bool) → core keep b ≤ sketch_weight b → core keep s ≤ sketch_weight s → (if t then w + core keep b else 0) + core keep s ≤ w + sketch_weight b + sketch_weight s
    by true x y = omega arith
    by false x y = omega arith

pub no_spots : (spots : List Spot) (p w : ℕ) (e : Entry) (b s : Sketch) → spots ≡ [] → spots ≡ spots_of (Plant p w e b s) → ⊥
no_spots spots p w e b s none is = let f : [] ≡ spots_of (Plant p w e b s) = sym none ∙ is in cc

pub core_none : (keep : Bool) (spots : List Spot) → spots ≡ [] → (s : Sketch) → spots ≡ spots_of s → 0 ≡ core keep s
core_none keep spots none Empty is = refl
core_none keep spots none (Plant p w e b s) is = absurd (no_spots spots p w e b s none is)

pub if_true : (t : Bool) (x y : ℕ) → t ≡ true → (if t then x else y) ≡ x
if_true true x y e = refl
if_true false x y e = absurd (cc)

pub if_false : (t : Bool) (x y : ℕ) → t ≡ false → (if t then x else y) ≡ y
if_false true x y e = absurd (cc)
if_false false x y e = refl

-- what a call gave for a list
abbrev pub IsCore : Bool → List Spot → ℕ → Type 0
IsCore keep spots n = (s : Sketch) → spots ≡ spots_of s → n ≡ core keep s

module _ (keep : Bool) (spot : Spot) (below beside : List Spot) (x y : ℕ) (in_below : IsCore keep below x) (in_beside : IsCore keep beside y) where
  pub core_stays : keep && is_cluster spot.entry ≡ true → (s : Sketch) → IsParted spot below beside s → spot.weight + x + y ≡ core keep s
  core_stays stays Empty h = absurd h
  core_stays stays (Plant p w e b s) h =
      let t : keep && is_cluster e ≡ true = ap (λ i. keep && is_cluster i) (sym h.entry) ∙ stays in
      let u = if_true (keep && is_cluster e) (w + core keep b) 0 t in
      let v = in_below b h.below_is in
      let z = in_beside s h.beside_is in
      omega (arith, h.weight)

pub core_goes : (keep : Bool) (spot : Spot) (below beside : List Spot) (y : ℕ) → IsCore keep beside y → keep && is_cluster spot.entry ≡ false → (s : Sketch) → IsParted spot below beside s → y ≡ core keep s
core_goes keep spot below beside y in_beside goes Empty h = absurd h
core_goes keep spot below beside y in_beside goes (Plant p w e b s) h =
    let t : keep && is_cluster e ≡ false = ap (λ i. keep && is_cluster i) (sym h.entry) ∙ goes in
    let u = if_false (keep && is_cluster e) (w + core keep b) 0 t in
    let z = in_beside s h.beside_is in
    omega arith

pub core_small : (keep : Bool) (spot : Spot) (below beside : List Spot) (x y : ℕ) → IsCore keep below x → IsCore keep beside y → (s : Sketch) → IsParted spot below beside s → sketch_weight s < 2 ^ 24 → spot.weight + x + y < 2 ^ 24
core_small keep spot below beside x y in_below in_beside Empty h small = absurd h
core_small keep spot below beside x y in_below in_beside (Plant p w e b s) h small =
    omega (arith, in_below b h.below_is, in_beside s h.beside_is, core-sketch_weight keep b, core-sketch_weight keep s, h.weight)

pub own_small : (keep : Bool) (spot : Spot) (below beside : List Spot) (x : ℕ) → IsCore keep below x → (s : Sketch) → IsParted spot below beside s → sketch_weight s < 2 ^ 24 → spot.weight + x < 2 ^ 24
own_small keep spot below beside x in_below Empty h small = absurd h
own_small keep spot below beside x in_below (Plant p w e b s) h small = omega (arith, in_below b h.below_is, core-sketch_weight keep b, h.weight)

-- of the parts of a sketch that is ready
pub flat_ready : (k : ℕ) (keep : Bool) (spots : List Spot) → CanBeDrawn k keep spots → IsFlat spots
flat_ready k keep spots h = record { sketch = h.sketch; is = h.is; small = h.small }

module _ (k : ℕ) (keep : Bool) (spots : List Spot) (spot : Spot) (below beside : List Spot) where
  pub below_ready : (s : Sketch) → IsParted spot below beside s → sketch_weight s < 2 ^ 24 → AreTopsLight k keep s → CanBeDrawn k keep below
  below_ready Empty h small tops = absurd h
  below_ready (Plant p w e b s) h small tops = record { sketch = b; is = h.below_is; tops = tops.1; small = omega arith }

  pub beside_ready : (s : Sketch) → IsParted spot below beside s → sketch_weight s < 2 ^ 24 → AreTopsLight k keep s → CanBeDrawn k keep beside
  beside_ready Empty h small tops = absurd h
  beside_ready (Plant p w e b s) h small tops = record { sketch = s; is = h.beside_is; tops = tops.2; small = omega arith }

  pub own_light : (x : ℕ) → IsCore keep below x → keep && is_cluster spot.entry ≡ false → (s : Sketch) → IsParted spot below beside s → AreTopsLight k keep s → spot.weight + x ≤ k
  own_light x in_below goes Empty h tops = absurd h
  own_light x in_below goes (Plant p w e b s) h tops =
      let t : keep && is_cluster e ≡ false = ap (λ i. keep && is_cluster i) (sym h.entry) ∙ goes in
      omega (arith, tops.0 t, in_below b h.below_is, h.weight)

-- the check of what stays together
pub tops_none : (k : ℕ) (keep : Bool) (spots : List Spot) → spots ≡ [] → (s : Sketch) → spots ≡ spots_of s → AreTopsLight k keep s
tops_none k keep spots none Empty is = tt
tops_none k keep spots none (Plant p w e b s) is = absurd (no_spots spots p w e b s none is)

abbrev pub AreTopsOf : ℕ → Bool → List Spot → Type 0
AreTopsOf k keep spots = (s : Sketch) → spots ≡ spots_of s → AreTopsLight k keep s

abbrev pub AreNoTopsOf : ℕ → Bool → List Spot → Type 0
AreNoTopsOf k keep spots = (s : Sketch) → spots ≡ spots_of s → ¬ AreTopsLight k keep s

-- of the own weight of the first node
abbrev pub OwnLightOf : ℕ → Bool → Spot → List Spot → Type 0
OwnLightOf k keep spot below = (b : Sketch) → below ≡ spots_of b → IsOwnLight k keep spot b

abbrev pub NoOwnLightOf : ℕ → Bool → Spot → List Spot → Type 0
NoOwnLightOf k keep spot below = (b : Sketch) → below ≡ spots_of b → ¬ IsOwnLight k keep spot b

pub own_stays : (k : ℕ) (keep : Bool) (spot : Spot) (below : List Spot) → keep && is_cluster spot.entry ≡ true → OwnLightOf k keep spot below
own_stays k keep spot below stays b is goes = absurd (let e = sym stays ∙ goes in true_false e)
  where
    true_false : true ≡ false → ⊥
    true_false e = cc

pub own_by : (k : ℕ) (keep : Bool) (spot : Spot) (below : List Spot) (x : ℕ) → IsCore keep below x → spot.weight + x ≤ k → OwnLightOf k keep spot below
own_by k keep spot below x in_below le b is goes = omega (arith, in_below b is)

pub own_heavy : (k : ℕ) (keep : Bool) (spot : Spot) (below : List Spot) (x : ℕ) → IsCore keep below x → keep && is_cluster spot.entry ≡ false → k < spot.weight + x → NoOwnLightOf k keep spot below
own_heavy k keep spot below x in_below goes heavy b is light = omega (arith, light goes, in_below b is)

module _ (k : ℕ) (keep : Bool) (spot : Spot) (below beside : List Spot) where
  pub tops_all : OwnLightOf k keep spot below → AreTopsOf k keep below → AreTopsOf k keep beside → (s : Sketch) → IsParted spot below beside s → AreTopsLight k keep s
  tops_all own tb ts Empty h = absurd h
  tops_all own tb ts (Plant p w e b s) h = (
    (λ goes. omega (arith, own b h.below_is (ap (λ i. keep && is_cluster i) h.entry ∙ goes), h.weight)),
    tb b h.below_is,
    ts s h.beside_is,
  )

  pub no_tops_own : NoOwnLightOf k keep spot below → (s : Sketch) → IsParted spot below beside s → ¬ AreTopsLight k keep s
  no_tops_own never Empty h tops = absurd h
  no_tops_own never (Plant p w e b s) h tops =
      never b h.below_is (λ goes. omega (arith, tops.0 (ap (λ i. keep && is_cluster i) (sym h.entry) ∙ goes), h.weight))

  pub no_tops_below : AreNoTopsOf k keep below → (s : Sketch) → IsParted spot below beside s → ¬ AreTopsLight k keep s
  no_tops_below never Empty h tops = absurd h
  no_tops_below never (Plant p w e b s) h tops = never b h.below_is tops.1

  pub no_tops_beside : AreNoTopsOf k keep beside → (s : Sketch) → IsParted spot below beside s → ¬ AreTopsLight k keep s
  no_tops_beside never Empty h tops = absurd h
  no_tops_beside never (Plant p w e b s) h tops = never s h.beside_is tops.2

pub own_weight : (spot : Spot) (below beside : List Spot) (s : Sketch) → IsParted spot below beside s → sketch_weight s < 2 ^ 24 → spot.weight < 2 ^ 24
own_weight spot below beside Empty h small = absurd h
own_weight spot below beside (Plant p w e b s) h small = omega (arith, h.weight)
