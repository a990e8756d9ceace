-- What a split is, from the separator's plan.
use Rattle.std.proofs.Common.{◌≡◌, ℕ, eqb, Bool, false, ◌&&◌, List, refl, sym, subst, inl, inr}
use Rattle.std.specs.Bool.{Decides}
use Rattle.std.specs.Str.{bytes_eq}
use Rattle.std.proofs.lemmas.Bool.{false≢true}
use Rattle.std.proofs.lemmas.Bool.Decides.{Decides-and, Decides-eqb, Decides-like}
use Rattle.std.proofs.lemmas.Slice.Eq.{bytes_eq-Decides}
use Rattle.nx_parts.specs.declared.interval.Interval.{Interval}
use Rattle.nx_parts.specs.declared.interval.Interval.TheVariants.{Root, Run}
use Rattle.nx_parts.specs.Order.{AreInOrder}
use Rattle.nx_sketch.specs.Sketch.{Placed}
use Rattle.nx_sketch.specs.Plan.{AreComponentsLight, AreNeighboursFull, IsFeasiblePlan, KeepsClusters}
use Rattle.nx_sketch.specs.Separator.{IsSeparatorPlan, point}
use Rattle.nx_sketch.specs.Split.{IsSplit}
use Rattle.nx_division_tests.specs.Tests.{same_interval}
use Rattle.nx_sketch.proofs.OrderLemmas.{one_plan}

-- equal intervals
pub same_interval-Decides : (one other : Interval) → Decides (same_interval one other) (one ≡ other)
same_interval-Decides Root Root = (λ _. refl, λ _. refl)
same_interval-Decides Root (Run q g m) = (λ h. absurd (false≢true h), λ e. cc)
same_interval-Decides (Run p f l) Root = (λ h. absurd (false≢true h), λ e. cc)
same_interval-Decides (Run p f l) (Run q g m) =
    Decides-like (same_interval (Run p f l) (Run q g m)) (λ h i. Run (h.0 i) (h.1.0 i) (h.1.1 i))
    (λ e. let a : p ≡ q = cc in let b : f ≡ g = cc in let c : l ≡ m = cc in (a, (b, c)))
    (Decides-and (bytes_eq p q) (eqb f g && eqb l m) (bytes_eq-Decides p q) (Decides-and (eqb f g) (eqb l m) (Decides-eqb f g) (Decides-eqb l m)))

-- the plan of the separator
pub record HasPlan (nodes : List Placed) (target tolerance : ℕ) (plan : List Interval) : Type 0 where
  pub is : IsSeparatorPlan nodes (point nodes target) tolerance plan

pub unordered_decides : {nodes : List Placed} {k target tolerance : ℕ} (parts : List Interval) → ¬ AreInOrder parts → Decides false (IsSplit k nodes target tolerance parts)
unordered_decides parts n = (λ h. absurd (false≢true h), λ s. absurd (n s.order))

-- where the separator's plan is feasible, it is the split
pub separator_decides : {nodes : List Placed} {k target tolerance : ℕ} (parts plan : List Interval) (answer : Bool) → AreInOrder parts → HasPlan nodes target tolerance plan → IsFeasiblePlan k nodes plan → Decides answer (parts ≡ plan) → Decides answer (IsSplit k nodes target tolerance parts)
separator_decides {nodes} {k} {target} {tolerance} parts plan answer o p f d = (
  (λ h. let e = d.0 h in record {
    order = o;
    divides = inl (record { separator = subst (IsSeparatorPlan nodes (point nodes target) tolerance) (sym e) p.is; feasible = subst (IsFeasiblePlan k nodes) (sym e) f });
  }),
  (λ s. d.1 (elim s.divides as (λ _. parts ≡ plan) [
    | inl own ↦ one_plan nodes (point nodes target) tolerance parts plan own.separator p.is
    | inr other ↦ absurd (other.heavy (subst (IsFeasiblePlan k nodes) (one_plan nodes (point nodes target) tolerance plan other.separator p.is other.planned) f))
  ])),
)

-- where it isn't
pub other_decides : {nodes : List Placed} {k target tolerance : ℕ} (parts plan : List Interval) (answer : Bool) → AreInOrder parts → HasPlan nodes target tolerance plan → ¬ IsFeasiblePlan k nodes plan
    → Decides answer (IsFeasiblePlan k nodes parts × (AreNeighboursFull k nodes parts × (AreComponentsLight k nodes → KeepsClusters nodes parts))) → Decides answer (IsSplit k nodes target tolerance parts)
other_decides {nodes} {k} {target} {tolerance} parts plan answer o p n d = (
  (λ h. let r = d.0 h in record {
    order = o;
    divides = inr (record { separator = plan; planned = p.is; heavy = n; feasible = r.0; full = r.1.0; clusters = r.1.1 });
  }),
  (λ s. d.1 (elim s.divides as (λ _. IsFeasiblePlan k nodes parts × (AreNeighboursFull k nodes parts × (AreComponentsLight k nodes → KeepsClusters nodes parts))) [
    | inl own ↦ absurd (n (subst (IsFeasiblePlan k nodes) (one_plan nodes (point nodes target) tolerance parts plan own.separator p.is) own.feasible))
    | inr other ↦ (other.feasible, (other.full, other.clusters))
  ])),
)
