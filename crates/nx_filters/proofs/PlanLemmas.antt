-- What is said of the plans of an input.
use Rattle.std.proofs.Common.{◌≡◌, inl, inr, ℕ, ◌<◌, List, ◌++◌, length, None, Some, Ok, Err, sym, ap, ◌∙◌, subst, arith}
use Rattle.std.specs.Option.{option_map}
use Rattle.std.proofs.Math.Nat.{le_antisymm}
use Rattle.nx_host.specs.Disk.{Beside}
use Rattle.nx_host.specs.Input.{most_input}
use Rattle.nx_tree.specs.Forest.{OrderedTree}
use Rattle.nx_pyx.specs.declared.error.PyxError.{PyxError}
use Rattle.nx_pyx.specs.Reading.{Reads}
use Rattle.nx_pyx.proofs.DocumentLemmas.{no_fault}
use Rattle.nx_pyx.proofs.ShownFaultLemmas.{fault_shown}
use Rattle.nx_pyx.proofs.Reading.{one_reading}
use Rattle.nx_weights.specs.Weight.{first_heavy, weighed, IsAtMost}
use Rattle.nx_weights.proofs.AtMostLemmas.{light_none}
use Rattle.nx_parts.specs.declared.plan.Plan.{Plan}
use Rattle.nx_parts.proofs.MinimaLemmas.{minima_once}
use Rattle.nx_cuts.proofs.AtMostLemmas.{feasible_light}
use Rattle.nx_partition.specs.declared.error.PlanError.{PlanError}
use Rattle.nx_partition.specs.declared.error.PlanError.TheVariants as plan_error
use Rattle.nx_partition.specs.Bounding.{IsPlanRefused}
use Rattle.nx_partition.specs.Planning.{IsPlan}
use Rattle.nx_filters.specs.declared.refusal.Refusal.{Refusal}
use Rattle.nx_filters.specs.declared.refusal.Refusal.TheVariants.{Pyx, TooHeavy, Bounds}
use Rattle.nx_filters.specs.declared.take_error.TakeError.{TakeError}
use Rattle.nx_filters.specs.declared.take_error.TakeError.TheVariants.{Refused, ReadFault, TooMuch, NoMemory}
use Rattle.nx_filters.specs.TakeError.{take_error_of_plan}
use Rattle.nx_filters.specs.Outcome.{HoldsTogether, StopsBy, ReadsTo}
use Rattle.nx_filters.specs.Tidy.{ShowsDocument, RefusesDocument, tidy}
use Rattle.nx_filters.specs.Plan.{IsPlannedInput, RefusesToPlan, IsLightInput, AreEquallyGood, HasEqualPlans, plan}

none_else : (found : List ℕ × ℕ) → None ≡ Some found → ⊥
none_else found none = cc

light_not_refused : (k : ℕ) (tree : OrderedTree) (path : List ℕ) (slots : ℕ) → IsAtMost k tree → option_map weighed (first_heavy k tree) ≡ Some (path, slots) → ⊥
light_not_refused k tree path slots light refused =
    none_else (path, slots) (sym (ap (option_map weighed) (light_none k tree light)) ∙ refused)

-- What is said of an input holds together:

shown_stays : (k : ℕ) (taken more : List ℕ) (refusal : Refusal) → ShowsDocument taken (Err refusal) → RefusesToPlan k (taken ++ more) refusal
shown_stays k taken more (Pyx error) shown = fault_shown taken more error shown
shown_stays k taken more (TooHeavy path slots) shown = absurd shown
shown_stays k taken more (Bounds error) shown = absurd shown

faulty_not : {tree : OrderedTree} (input : List ℕ) (error : PyxError) → Reads input tree → RefusesDocument input (Pyx error) → ⊥
faulty_not {tree = tree} input error reads is = let none : None ≡ Some error = sym (no_fault input tree reads) ∙ is in cc

one_refused : (k : ℕ) (input : List ℕ) (first second : Refusal) → RefusesToPlan k input first → RefusesToPlan k input second → first ≡ second
one_refused k input (Pyx e) (Pyx f) is is' = let same : Some e ≡ Some f = sym is ∙ is' in ap (λ (x : PyxError). Pyx x) (cc same)
one_refused k input (Pyx e) (TooHeavy path slots) is (tree, reads, heavy) = absurd (faulty_not input e reads is)
one_refused k input (TooHeavy path slots) (Pyx e) (tree, reads, heavy) is = absurd (faulty_not input e reads is)
one_refused k input (TooHeavy path slots) (TooHeavy path' slots') (tree, reads, heavy) (tree', reads', heavy') =
    let one : Some (path, slots) ≡ Some (path', slots') =
    sym heavy ∙ ap (λ (t : OrderedTree). option_map weighed (first_heavy k t)) (one_reading input tree tree' reads reads') ∙ heavy' in
    let same : (path, slots) ≡ (path', slots') = cc one in
    ap (λ (p : List ℕ × ℕ). TooHeavy p.0 p.1) same
one_refused k input (Bounds e) second is is' = absurd is
one_refused k input first (Bounds e) is is' = absurd is'

not_both : (k : ℕ) (input : List ℕ) (plan : Plan) (refusal : Refusal) → IsPlannedInput k input plan → RefusesToPlan k input refusal → ⊥
not_both k input plan (Pyx error) planned is = faulty_not input error planned.reads is
not_both k input plan (TooHeavy path slots) planned (tree, reads, heavy) =
    let light = feasible_light k planned.tree plan.parts planned.planned.partitioning.lean.optimal.feasible in
    light_not_refused k tree path slots (subst (IsAtMost k) (one_reading input planned.tree tree planned.reads reads) light) heavy
not_both k input plan (Bounds error) planned is = is

pub plan_together : (k : ℕ) → HoldsTogether (plan k)
plan_together k = record { stays = shown_stays k; one_refusal = one_refused k; one_outcome = not_both k }

equally_good : (k : ℕ) (tree : OrderedTree) (first second : Plan) → IsPlan k tree first → IsPlan k tree second → AreEquallyGood tree first second
equally_good k tree first second p q = record {
  intervals = le_antisymm (p.partitioning.lean.optimal.fewest second.parts q.partitioning.lean.optimal.feasible) (q.partitioning.lean.optimal.fewest first.parts p.partitioning.lean.optimal.feasible);
  root = le_antisymm (p.partitioning.lean.lightest second.parts q.partitioning.lean.optimal) (q.partitioning.lean.lightest first.parts p.partitioning.lean.optimal);
  bounds = minima_once k tree first.bounds second.bounds p.bounds q.bounds;
}

planned_of : (k : ℕ) (input : List ℕ) (tree : OrderedTree) (plan : Plan) → Reads input tree → IsPlannedInput k input plan → IsPlan k tree plan
planned_of k input tree plan reads planned = subst (λ (t : OrderedTree). IsPlan k t plan) (one_reading input planned.tree tree planned.reads reads) planned.planned

pub equal_plans : (k : ℕ) → HasEqualPlans k
equal_plans k input tree first second reads p q = equally_good k tree first second (planned_of k input tree first reads p) (planned_of k input tree second reads q)

-- a document without a heavy node isn't refused
pub light_excludes : (k : ℕ) (input : List ℕ) (refusal : Refusal) → IsLightInput k input → RefusesToPlan k input refusal → ⊥
light_excludes k input (Pyx error) light is = faulty_not input error light.reads is
light_excludes k input (TooHeavy path slots) light (tree, reads, heavy) =
    light_not_refused k tree path slots (subst (IsAtMost k) (one_reading input light.tree tree light.reads reads) light.light) heavy
light_excludes k input (Bounds error) light is = is

-- What is read of an input:

document_refused : (k : ℕ) (refusal : Refusal) (input : List ℕ) → RefusesDocument input refusal → RefusesToPlan k input refusal
document_refused k (Pyx error) input is = is
document_refused k (TooHeavy path slots) input is = absurd is
document_refused k (Bounds error) input is = absurd is

-- the reading of the document stops
pub document_stops : (k : ℕ) (stop : TakeError) (old new : Beside) → StopsBy tidy stop old new → StopsBy (plan k) stop old new
document_stops k (Refused refusal) old new (taken, ends) = (
  taken,
  record {
    takes = ends.takes;
    few = ends.few;
    refused = elim ends.refused [ inl shown ↦ inl shown | inr whole ↦ inr (whole.0, whole.1, document_refused k refusal taken whole.2) ];
  },
)
document_stops k ReadFault old new (rose, taken, short, early) = (rose, taken, short, record { takes = early.takes; few = early.few; shows = early.shows })
document_stops k TooMuch old new (taken, long, early) = (taken, long, record { takes = early.takes; few = early.few; shows = early.shows })
document_stops k NoMemory old new stops = tt

-- the document has this plan
pub plan_read : (k : ℕ) (tree : OrderedTree) (answer : Plan) (old new : Beside) → ReadsTo tidy (Ok tree) old new → IsPlan k tree answer → ReadsTo (plan k) (Ok answer) old new
plan_read k tree answer old new (taken, whole, reads) planned = (taken, whole, record { tree = tree; reads = reads; planned = planned })

-- or none
pub plan_stops : (k : ℕ) (tree : OrderedTree) (error : PlanError) (old new : Beside) → ReadsTo tidy (Ok tree) old new → IsPlanRefused k tree error → StopsBy (plan k) (take_error_of_plan error) old new
plan_stops k tree (plan_error.TooHeavy path slots) old new (taken, whole, reads) heavy = (
  taken,
  record { takes = whole.takes; few = (let few : length taken < most_input = whole.few in omega arith); refused = inr (whole.end, whole.few, (tree, reads, heavy)) },
)
plan_stops k tree plan_error.Memory old new read heavy = tt
