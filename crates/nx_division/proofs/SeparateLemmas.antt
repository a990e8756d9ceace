-- One node more in the separator's plan as it is drawn.
use Rattle.std.proofs.Common.{◌≡◌, ℕ, ◌+◌, ◌<◌, Bool, false, nat_le, List, [], ◌∷◌, ◌++◌, length, Option, None, refl, ap, ◌∙◌, arith}
use Rattle.std.specs.List.{sum_by}
use Rattle.nx_sketch.specs.declared.spot.Spot.{Spot}
use Rattle.nx_sketch.specs.Sketch.{Sketch, Empty, Plant, spots_of, sketch_weight}
use Rattle.nx_sketch.proofs.MarkLemmas.{weights-spots}
use Rattle.nx_division.specs.declared.cut.Cut.{Cut}
use Rattle.nx_division.specs.declared.separate.Side.{Side}
use Rattle.nx_division.specs.declared.separate.Kind.{Kind}
use Rattle.nx_division.specs.Parts.{IsParted}
use Rattle.nx_division.specs.Drawn.{Grown, drawn}
use Rattle.nx_division.specs.Separated.{mark_by, spot_kind, cut_of, side_of, separated}
use Rattle.nx_division.proofs.SpotLemmas.{drawn-parts, length-spots}
use Rattle.nx_division.proofs.CoreLemmas.{no_spots}

-- what a call drew
abbrev pub Separates : ℕ → ℕ → ℕ → Bool → Bool → Option Side → List Spot → List Cut → Type 0
Separates t tol before root wide side spots cuts = (s : Sketch) → spots ≡ spots_of s → drawn s cuts ≡ separated t tol before root wide side s

pub separate_none : (t tol before : ℕ) (root wide : Bool) (side : Option Side) (spots : List Spot) (cuts : List Cut) → spots ≡ [] → Separates t tol before root wide side spots cuts
separate_none t tol before root wide side spots cuts none Empty is = refl
separate_none t tol before root wide side spots cuts none (Plant p w e b s) is = absurd (no_spots spots p w e b s none is)

module _ (t tol before : ℕ) (root wide : Bool) (side : Option Side) (spot : Spot) (below beside : List Spot) (xs ys cuts : List Cut) (cut : Cut) (m l : Bool) (k : Kind) where
  pub separate_parts : length xs ≡ length below → cuts ≡ cut ∷ xs ++ ys → m ≡ mark_by t tol before spot.within → l ≡ nat_le (before + spot.within) t → k ≡ spot_kind spot.entry root wide m → cut ≡ cut_of k side spot.position l
      → Separates t tol (before + spot.weight) false m None below xs → Separates t tol (before + spot.within) root wide (side_of k spot.position l) beside ys → (s : Sketch) → IsParted spot below beside s → drawn s cuts ≡ separated t tol before root wide side s
  separate_parts len is m_is l_is k_is cut_is hb hs Empty h = absurd h
  separate_parts len is m_is l_is k_is cut_is hb hs (Plant p w e b s) h =
      let d : drawn (Plant p w e b s) cuts ≡ Grown p w e cut (drawn b xs) (drawn s ys) = ap (drawn (Plant p w e b s)) is ∙ drawn-parts p w e b s cut xs ys (len ∙ ap length h.below_is ∙ length-spots b) in
      let m' : m ≡ mark_by t tol before (w + sketch_weight b) = m_is ∙ ap (mark_by t tol before) h.within in
      let l' : l ≡ nat_le (before + (w + sketch_weight b)) t = l_is ∙ ap (λ n. nat_le (before + n) t) h.within in
      let k' : k ≡ spot_kind e root wide (mark_by t tol before (w + sketch_weight b)) = k_is ∙ (λ i. spot_kind (h.entry i) root wide (m' i)) in
      let c' : cut ≡ cut_of (spot_kind e root wide (mark_by t tol before (w + sketch_weight b))) side p (nat_le (before + (w + sketch_weight b)) t) = cut_is ∙ (λ i. cut_of (k' i) side (h.position i) (l' i)) in
      let b' : drawn b xs ≡ separated t tol (before + w) false (mark_by t tol before (w + sketch_weight b)) None b = hb b h.below_is ∙ (λ i. separated t tol (before + h.weight i) false (m' i) None b) in
      let s' : drawn s ys ≡ separated t tol (before + (w + sketch_weight b)) root wide (side_of (spot_kind e root wide (mark_by t tol before (w + sketch_weight b))) p (nat_le (before + (w + sketch_weight b)) t)) s =
      hs s h.beside_is ∙ (λ i. separated t tol (before + h.within i) root wide (side_of (k' i) (h.position i) (l' i)) s) in
      d ∙ (λ i. Grown p w e (c' i) (b' i) (s' i))

-- what comes before the parts, and in them
pub parts_room : (before most : ℕ) (spots : List Spot) (spot : Spot) (below beside : List Spot) (s : Sketch) → spots ≡ spots_of s → IsParted spot below beside s → before + sum_by (λ x. x.weight) spots < most
    → (before + spot.weight + sum_by (λ x. x.weight) below < most) × (before + spot.within + sum_by (λ x. x.weight) beside < most)
parts_room before most spots spot below beside Empty is h room = absurd h
parts_room before most spots spot below beside (Plant p w e b s) is h room =
    let all : sum_by (λ (x : Spot). x.weight) spots ≡ sketch_weight (Plant p w e b s) = ap (sum_by (λ (x : Spot). x.weight)) is ∙ weights-spots (Plant p w e b s) in
    let one : sum_by (λ (x : Spot). x.weight) below ≡ sketch_weight b = ap (sum_by (λ (x : Spot). x.weight)) h.below_is ∙ weights-spots b in
    let two : sum_by (λ (x : Spot). x.weight) beside ≡ sketch_weight s = ap (sum_by (λ (x : Spot). x.weight)) h.beside_is ∙ weights-spots s in (
      omega (arith, h.weight),
      omega (arith, h.within),
    )
