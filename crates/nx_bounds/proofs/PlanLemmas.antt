-- What the checks of the parts of a plan say of the whole plan.
use Rattle.std.proofs.Common.{◌≡◌, ℕ, ◌<◌, ◌≤◌, List, length, sym, ap, ◌∙◌, subst, arith}
use Rattle.std.specs.Prelude.{slice_index}
use Rattle.std.proofs.lemmas.List.FromFn.{get_or-map-range_with_len, length-map-range_with_len}
use Rattle.nx_tree.specs.Forest.{OrderedTree}
use Rattle.nx_parts.specs.declared.interval.Interval.{Interval}
use Rattle.nx_parts.specs.declared.plan.Plan.{Plan}
use Rattle.nx_parts.specs.declared.error.PartsError.{PartsError}
use Rattle.nx_parts.specs.declared.error.PartsError.TheVariants as parts_error
use Rattle.nx_parts.specs.Partitioning.{IsFeasible, owned_weight, part_weights}
use Rattle.nx_parts.specs.Refusal.{IsNotFeasible}
use Rattle.nx_bounds.specs.declared.error.BoundsError.{BoundsError}
use Rattle.nx_bounds.specs.declared.error.BoundsError.TheVariants.{Parts, WrongWeight, Length, Unsupported, Count, BadPlanLine, Memory}
use Rattle.nx_bounds.specs.Claim.{AreSupported}
use Rattle.nx_bounds.specs.Refusal.{error_of_parts, IsNotSupported, IsWrong, root_least, IsCertified, IsNotCertified}
use Rattle.nx_bounds.specs.Walk.{WeightsFail, CountFails}
use Rattle.nx_bounds.proofs.Law.{certified-optimal}

length-part_weights : (tree : OrderedTree) (parts : List Interval) → length (part_weights tree parts) ≡ length parts
length-part_weights tree parts = length-map-range_with_len (owned_weight tree parts) 0 (length parts)

owned_weight-at : (tree : OrderedTree) (parts : List Interval) (index : ℕ) → index < length parts → slice_index (part_weights tree parts) index ≡ owned_weight tree parts index
owned_weight-at tree parts index h = get_or-map-range_with_len (owned_weight tree parts) 0 (length parts) index index 0 h (omega arith)

pub length_found : (tree : OrderedTree) (parts : List Interval) (found : List ℕ) → found ≡ part_weights tree parts → length found ≡ length parts
length_found tree parts found e = ap length e ∙ length-part_weights tree parts

found_at : (tree : OrderedTree) (parts : List Interval) (found : List ℕ) (index : ℕ) → found ≡ part_weights tree parts → index < length parts → slice_index found index ≡ owned_weight tree parts index
found_at tree parts found index e h = ap (λ (ws : List ℕ). slice_index ws index) e ∙ owned_weight-at tree parts index h

-- each weight is the one that was found
abbrev pub AreAsFound : List ℕ → List ℕ → Type 0
AreAsFound found claimed = (index : ℕ) → index < length found → slice_index claimed index ≡ slice_index found index

weights_right : (tree : OrderedTree) (plan : Plan) (found : List ℕ) → found ≡ part_weights tree plan.parts → AreAsFound found plan.weights
    → (index : ℕ) → index < length plan.parts → slice_index plan.weights index ≡ owned_weight tree plan.parts index
weights_right tree plan found e h index within =
    let size : length found ≡ length plan.parts = length_found tree plan.parts found e in
    h index (omega arith) ∙ found_at tree plan.parts found index e within

none_wrong : (tree : OrderedTree) (plan : Plan) (found : List ℕ) → found ≡ part_weights tree plan.parts → AreAsFound found plan.weights → (index : ℕ) → IsWrong tree plan index → ⊥
none_wrong tree plan found e h index wrong = wrong.1 (weights_right tree plan found e h index wrong.0)

pub parts_refused : (k : ℕ) (tree : OrderedTree) (plan : Plan) (error : PartsError) → IsNotFeasible k tree plan.parts error → IsNotCertified k tree plan (error_of_parts error)
parts_refused k tree plan parts_error.Memory h = tt
parts_refused k tree plan (parts_error.OutOfTree index) h = (λ e. absurd (cc), h)
parts_refused k tree plan (parts_error.Overlap index) h = (λ e. absurd (cc), h)
parts_refused k tree plan parts_error.NoRoot h = (λ e. absurd (cc), h)
parts_refused k tree plan (parts_error.Heavy index slots) h = (λ e. absurd (cc), h)

weights_refused : (k : ℕ) (tree : OrderedTree) (plan : Plan) (found : List ℕ) → IsFeasible k tree plan.parts → found ≡ part_weights tree plan.parts
    → (error : BoundsError) → WeightsFail found plan.weights error → IsNotCertified k tree plan error
weights_refused k tree plan found f e (WrongWeight index claimed_weight found_weight) h =
    let size : length found ≡ length plan.parts = length_found tree plan.parts found e in
    let inside : index < length found = h.inside in
    let here : index < length plan.parts = omega arith in
    let at : slice_index found index ≡ owned_weight tree plan.parts index = found_at tree plan.parts found index e here in (
      f,
      record {
        holds = (here, λ same. h.other (same ∙ sym at));
        before = λ earlier lt wrong. (
            let within : earlier < length plan.parts = omega arith in
            wrong.1 (h.before earlier lt ∙ found_at tree plan.parts found earlier e within)
            );
      },
      h.is_claimed,
      h.is_found ∙ at,
    )
weights_refused k tree plan found f e Memory h = absurd h
weights_refused k tree plan found f e (Parts error) h = absurd h
weights_refused k tree plan found f e (Length a b) h = absurd h
weights_refused k tree plan found f e (Unsupported at field number value) h = absurd h
weights_refused k tree plan found f e (Count a b) h = absurd h
weights_refused k tree plan found f e (BadPlanLine line) h = absurd h

pub weights_refused_in : (k : ℕ) (tree : OrderedTree) (plan : Plan) (found claimed : List ℕ) → IsFeasible k tree plan.parts → found ≡ part_weights tree plan.parts → claimed ≡ plan.weights
    → (error : BoundsError) → WeightsFail found claimed error → IsNotCertified k tree plan error
weights_refused_in k tree plan found claimed f e same error h = weights_refused k tree plan found f e error (subst (λ (ws : List ℕ). WeightsFail found ws error) same h)

pub as_found_in : (found claimed weights : List ℕ) → claimed ≡ weights → AreAsFound found claimed → AreAsFound found weights
as_found_in found claimed weights same h = subst (AreAsFound found) same h

pub bounds_refused : (k : ℕ) (tree : OrderedTree) (plan : Plan) (found : List ℕ) → IsFeasible k tree plan.parts → found ≡ part_weights tree plan.parts → AreAsFound found plan.weights
    → (error : BoundsError) → IsNotSupported k tree plan.bounds error → IsNotCertified k tree plan error
bounds_refused k tree plan found f e w (Length a b) h = (f, none_wrong tree plan found e w, h)
bounds_refused k tree plan found f e w (Unsupported at field number value) h = (f, none_wrong tree plan found e w, h)
bounds_refused k tree plan found f e w Memory h = tt
bounds_refused k tree plan found f e w (Parts error) h = absurd h
bounds_refused k tree plan found f e w (WrongWeight index number value) h = absurd h
bounds_refused k tree plan found f e w (Count a b) h = absurd h
bounds_refused k tree plan found f e w (BadPlanLine line) h = absurd h

pub count_refused : (k : ℕ) (tree : OrderedTree) (plan : Plan) (found : List ℕ) → IsFeasible k tree plan.parts → found ≡ part_weights tree plan.parts → AreAsFound found plan.weights
    → AreSupported k tree plan.bounds → (error : BoundsError) → CountFails (length plan.parts) (root_least plan.bounds) error → IsNotCertified k tree plan error
count_refused k tree plan found f e w s (Count a b) h = (f, none_wrong tree plan found e w, s, h.0, h.1, h.2)
count_refused k tree plan found f e w s Memory h = absurd h
count_refused k tree plan found f e w s (Parts error) h = absurd h
count_refused k tree plan found f e w s (WrongWeight index number value) h = absurd h
count_refused k tree plan found f e w s (Length a b) h = absurd h
count_refused k tree plan found f e w s (Unsupported at field number value) h = absurd h
count_refused k tree plan found f e w s (BadPlanLine line) h = absurd h

pub plan_certified : (k : ℕ) (tree : OrderedTree) (plan : Plan) (found : List ℕ) → IsFeasible k tree plan.parts → found ≡ part_weights tree plan.parts → AreAsFound found plan.weights
    → AreSupported k tree plan.bounds → length plan.parts ≤ root_least plan.bounds → IsCertified k tree plan
plan_certified k tree plan found f e w s few = record {
  sound = record { feasible = f; weights = weights_right tree plan found e w; supported = s; enough = few };
  optimal = certified-optimal k tree plan.bounds plan.parts s f few;
}
