-- The walk over the roots that lets one of them join the part above, node by node.
use Rattle.std.proofs.Common.{◌≡◌, ℕ, suc, ◌+◌, ◌-◌, ◌^◌, ◌<◌, ◌≤◌, Bool, true, false, if◌then◌else◌, List, [], ◌∷◌, ◌++◌, length, take, drop, set, Option, None, Some, refl, sym, ap, subst, ◌∙◌, arith, append-nil}
use Rattle.std.proofs.lemmas.List.{length-drop, drop_all}
use borrow.Rule.Slice.PartMut.{put_mid}
use Rattle.nx_sketch.specs.declared.spot.Spot.{Spot}
use Rattle.nx_sketch.specs.Sketch.{Sketch, Empty, Plant, spots_of, sketch_weight}
use Rattle.nx_division.specs.declared.cut.Cut.{Cut}
use Rattle.nx_division.specs.declared.cut.Cut.TheVariants.{Stays}
use Rattle.nx_division.specs.Parts.{IsParted}
use Rattle.nx_division.specs.Drawn.{Drawn, Grown, bare, drawn, staying_weight}
use Rattle.nx_division.specs.Separated.{mark_by}
use Rattle.nx_division.specs.Raised.{may_join, raised_root, raised_plan}
use Rattle.nx_division.proofs.SpotLemmas.{bare-drawn, take-front}
use Rattle.nx_division.proofs.CoreLemmas.{no_spots}
use Rattle.nx_division.proofs.DrawnLemmas.{AreCut, drawn_of, Weighs, staying_weight-sketch_weight}
use Rattle.nx_division.proofs.RaisedLemmas.{pick_true, pick_false}

-- what a call found
abbrev pub FindsRoot : (room t tol a : ℕ) → List Spot → List Cut → Option ℕ → Type 0
FindsRoot room t tol a spots cuts found = (s : Sketch) → spots ≡ spots_of s → found ≡ raised_root room t tol a (drawn s cuts)

abbrev pub DrawsPlan : (room t tol a : ℕ) → List Spot → (cuts now : List Cut) → Type 0
DrawsPlan room t tol a spots cuts now = (s : Sketch) → spots ≡ spots_of s → drawn s now ≡ raised_plan room t tol a (drawn s cuts)

pub root_none : (room t tol a : ℕ) (spots : List Spot) (cuts : List Cut) → spots ≡ [] → FindsRoot room t tol a spots cuts None
root_none room t tol a spots cuts none Empty is = refl
root_none room t tol a spots cuts none (Plant p w e b s) is = absurd (no_spots spots p w e b s none is)

pub plan_none : (room t tol a : ℕ) (spots : List Spot) (cuts : List Cut) → spots ≡ [] → DrawsPlan room t tol a spots cuts cuts
plan_none room t tol a spots cuts none Empty is = refl
plan_none room t tol a spots cuts none (Plant p w e b s) is = absurd (no_spots spots p w e b s none is)

-- the list with other cuts of the nodes beside
pub put_rest : (cuts xs ys zs : List Cut) (cut : Cut) (n : ℕ) → cuts ≡ cut ∷ xs ++ ys → length xs ≡ n → put_mid (1 + n) (length cuts - (1 + n)) cuts zs ≡ cut ∷ xs ++ zs
put_rest cuts xs ys zs cut n is len =
    let row : List Cut = cut ∷ (xs ++ ys) in
    let front : take (1 + n) cuts ≡ cut ∷ xs = ap (take (1 + n)) is ∙ ap (λ i. take i row) (let q : 1 + n ≡ suc n = omega arith in q) ∙ ap (λ l. cut ∷ l) (take-front xs ys n len) in
    let none : drop (length cuts - (1 + n)) (drop (1 + n) cuts) ≡ [] = drop_all (length cuts - (1 + n)) (drop (1 + n) cuts) (omega (arith, length-drop (1 + n) cuts)) in
    (λ i. front i ++ (zs ++ none i)) ∙ ap (λ l. (cut ∷ xs) ++ l) (append-nil zs)

module _ (room t tol a : ℕ) (spot : Spot) (below beside : List Spot) (cuts : List Cut) (cut : Cut) (xs ys : List Cut) (apart : AreCut cuts cut xs ys below) where
  within_is : (b : Sketch) (w : ℕ) → spot.within ≡ w + sketch_weight b → w + sketch_weight (bare (drawn b xs)) ≡ spot.within
  within_is b w is = ap (λ x. w + sketch_weight x) (bare-drawn b xs) ∙ sym is

  -- a node that isn't of the separator
  pub passed_root : (found : Option ℕ) → mark_by t tol a spot.within ≡ false → FindsRoot room t tol (a + spot.within) beside ys found → (s : Sketch) → IsParted spot below beside s → found ≡ raised_root room t tol a (drawn s cuts)
  passed_root found other finds Empty p = absurd p
  passed_root found other finds (Plant q w e b s) p =
      let n = within_is b w p.within in
      let d = drawn_of cuts cut xs ys below q w e b s apart p.below_is in
      finds s p.beside_is ∙ ap (λ m. raised_root room t tol (a + m) (drawn s ys)) (sym n)
      ∙ sym (pick_false (mark_by t tol a (w + sketch_weight (bare (drawn b xs)))) _ _ (ap (mark_by t tol a) n ∙ other)) ∙ ap (raised_root room t tol a) (sym d)

  pub passed_plan : (now zs : List Cut) → AreCut now cut xs zs below → mark_by t tol a spot.within ≡ false → DrawsPlan room t tol (a + spot.within) beside ys zs → (s : Sketch) → IsParted spot below beside s → drawn s now ≡ raised_plan room t tol a (drawn s cuts)
  passed_plan now zs after other draws Empty p = absurd p
  passed_plan now zs after other draws (Plant q w e b s) p =
      let n = within_is b w p.within in
      let d = drawn_of cuts cut xs ys below q w e b s apart p.below_is in
      drawn_of now cut xs zs below q w e b s after p.below_is ∙ ap (Grown q w e cut (drawn b xs)) (draws s p.beside_is ∙ ap (λ m. raised_plan room t tol (a + m) (drawn s ys)) (sym n))
      ∙ sym (pick_false (mark_by t tol a (w + sketch_weight (bare (drawn b xs)))) _ _ (ap (mark_by t tol a) n ∙ other)) ∙ ap (raised_plan room t tol a) (sym d)

  module _ (load staying going heavy : ℕ) (weighs : Weighs below xs staying going heavy) (load_is : load ≡ spot.weight + staying) (marked : mark_by t tol a spot.within ≡ true) where
    load_of : (b : Sketch) (w : ℕ) → below ≡ spots_of b → spot.weight ≡ w → w + staying_weight (drawn b xs) ≡ load
    load_of b w is weight_is = omega (arith, load_is, (weighs b is).stays, weight_is)

    -- a node of the separator that may not join
    pub kept_root : may_join room spot.entry load ≡ false → (s : Sketch) → IsParted spot below beside s → None ≡ raised_root room t tol a (drawn s cuts)
    kept_root other Empty p = absurd p
    kept_root other (Plant q w e b s) p =
        let n = within_is b w p.within in
        let d = drawn_of cuts cut xs ys below q w e b s apart p.below_is in
        let l = load_of b w p.below_is p.weight in
        sym (pick_false (may_join room e (w + staying_weight (drawn b xs))) (Some q) None ((λ i. may_join room (sym p.entry i) (l i)) ∙ other))
        ∙ sym (pick_true (mark_by t tol a (w + sketch_weight (bare (drawn b xs)))) _ _ (ap (mark_by t tol a) n ∙ marked)) ∙ ap (raised_root room t tol a) (sym d)

    pub kept_plan : may_join room spot.entry load ≡ false → (s : Sketch) → IsParted spot below beside s → drawn s cuts ≡ raised_plan room t tol a (drawn s cuts)
    kept_plan other Empty p = absurd p
    kept_plan other (Plant q w e b s) p =
        let n = within_is b w p.within in
        let d = drawn_of cuts cut xs ys below q w e b s apart p.below_is in
        let l = load_of b w p.below_is p.weight in
        d ∙ sym (pick_false (may_join room e (w + staying_weight (drawn b xs))) (Grown q w e Stays (drawn b xs) (drawn s ys)) _ ((λ i. may_join room (sym p.entry i) (l i)) ∙ other))
        ∙ sym (pick_true (mark_by t tol a (w + sketch_weight (bare (drawn b xs)))) _ _ (ap (mark_by t tol a) n ∙ marked)) ∙ ap (raised_plan room t tol a) (sym d)

    -- one that joins
    pub joined_root : may_join room spot.entry load ≡ true → (s : Sketch) → IsParted spot below beside s → Some spot.position ≡ raised_root room t tol a (drawn s cuts)
    joined_root may Empty p = absurd p
    joined_root may (Plant q w e b s) p =
        let n = within_is b w p.within in
        let d = drawn_of cuts cut xs ys below q w e b s apart p.below_is in
        let l = load_of b w p.below_is p.weight in
        ap Some p.position ∙ sym (pick_true (may_join room e (w + staying_weight (drawn b xs))) (Some q) None ((λ i. may_join room (sym p.entry i) (l i)) ∙ may))
        ∙ sym (pick_true (mark_by t tol a (w + sketch_weight (bare (drawn b xs)))) _ _ (ap (mark_by t tol a) n ∙ marked)) ∙ ap (raised_root room t tol a) (sym d)

    pub joined_plan : (now : List Cut) → AreCut now Stays xs ys below → may_join room spot.entry load ≡ true → (s : Sketch) → IsParted spot below beside s → drawn s now ≡ raised_plan room t tol a (drawn s cuts)
    joined_plan now after may Empty p = absurd p
    joined_plan now after may (Plant q w e b s) p =
        let n = within_is b w p.within in
        let d = drawn_of cuts cut xs ys below q w e b s apart p.below_is in
        let l = load_of b w p.below_is p.weight in
        drawn_of now Stays xs ys below q w e b s after p.below_is
        ∙ sym (pick_true (may_join room e (w + staying_weight (drawn b xs))) _ (Grown q w e cut (drawn b xs) (drawn s ys)) ((λ i. may_join room (sym p.entry i) (l i)) ∙ may))
        ∙ sym (pick_true (mark_by t tol a (w + sketch_weight (bare (drawn b xs)))) _ _ (ap (mark_by t tol a) n ∙ marked)) ∙ ap (raised_plan room t tol a) (sym d)

-- what stays below a node is other more than all that is there
pub load_fits : (spot : Spot) (below beside : List Spot) (xs : List Cut) (staying going heavy : ℕ) (s : Sketch) → IsParted spot below beside s → sketch_weight s < 2 ^ 24 → Weighs below xs staying going heavy → spot.weight + staying < 2 ^ 24
load_fits spot below beside xs staying going heavy Empty p small weighs = absurd p
load_fits spot below beside xs staying going heavy (Plant q w e b s) p small weighs = omega (arith, (weighs b p.below_is).stays, p.weight, staying_weight-sketch_weight b xs)
