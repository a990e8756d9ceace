-- Minima are supported, and not refused.
use Rattle.std.proofs.Common.{◌≡◌, ℕ, ◌≤◌, min, max, List, [], ◌∷◌, drop, refl, sym, ap, ◌∙◌, subst, arith}
use Rattle.std.specs.List.{AllByRecursion}
use Rattle.nx_tree.specs.Forest.{OrderedTree, Forest, Empty, Plant, nodes}
use Rattle.nx_weights.specs.Weight.{weight}
use Rattle.nx_parts.specs.declared.bounds.Bound.{Bound}
use Rattle.nx_parts.specs.Minima.{IsMinima, AreMinimaIn}
use Rattle.nx_choices.specs.declared.child.Child.{Child}
use Rattle.nx_choices.specs.Claim.{IsSupported}
use Rattle.nx_choices.specs.Least.{IsLeastChoice}
use Rattle.nx_cuts.proofs.PairLemmas.{both}
use Rattle.nx_minima.specs.Seen.{as_child, seen, tops}
use Rattle.nx_minima.proofs.BoundLemmas.{within_bounds}
use Rattle.nx_minima.proofs.MinimaLemmas.{least_choices, minima-tops}
use Rattle.nx_bounds.specs.declared.error.BoundsError.{BoundsError}
use Rattle.nx_bounds.specs.declared.error.BoundsError.TheVariants.{Parts, WrongWeight, Length, Unsupported, Count, BadPlanLine, Memory}
use Rattle.nx_bounds.specs.Claim.{counts_as, claimed_child, claimed_children, claimed_in, AreSupported}
use Rattle.nx_bounds.specs.Law.{MinimaAreSupported}
use Rattle.nx_bounds.specs.Refusal.{IsNotSupported}
use Rattle.nx_bounds.proofs.VerdictLemmas.{supported_spared, length_spared}

same_count : (k own claimed : ℕ) → own ≤ claimed → claimed ≤ k → min k (max own claimed) ≡ claimed
same_count k own claimed low high = omega arith

-- minima count as they are
child-minima : (k : ℕ) (tree : OrderedTree) (bound : Bound) → IsMinima k tree bound → claimed_child k tree.node bound ≡ as_child bound
child-minima k tree bound m =
    let w = within_bounds k tree bound m in
    let own = w.own in
    let no_more = w.no_more in
    let light = w.light in
    let lean = same_count k (weight tree.node) bound.lean (omega arith) (omega arith) in
    let nearly = same_count k (weight tree.node) bound.nearly (omega arith) (omega arith) in
    ap (λ (n : ℕ). let c : Child = record { least = bound.least; lean = n; nearly = counts_as k tree.node bound.nearly } in c) lean
    ∙ ap (λ (n : ℕ). let c : Child = record { least = bound.least; lean = bound.lean; nearly = n } in c) nearly

-- the choices at a parent see minima as they are
children-minima : (k : ℕ) (forest : Forest) (bounds : List Bound) → AreMinimaIn k forest bounds → claimed_children k forest bounds ≡ seen (tops forest bounds)
children-minima k Empty bounds m = refl
children-minima k (Plant node below beside) [] m = absurd m
children-minima k (Plant node below beside) (bound ∷ bounds) m =
    ap (λ c. c ∷ claimed_children k beside (drop (nodes below) bounds)) (child-minima k (record { node = node; below = below }) bound m.0)
    ∙ ap (λ l. as_child bound ∷ l) (children-minima k beside (drop (nodes below) bounds) m.2)

-- what the least choices give is supported
least_supported : (k own : ℕ) (children : List Child) (bound : Bound) → IsLeastChoice k own children (as_child bound) → IsSupported k (record { own = own; children = children; bound = as_child bound })
least_supported k own children bound l =
    record { least = λ cells a s. l.least.least cells a; lean = λ cells a s. l.lean.least cells (a, s); nearly = λ cells a s. l.nearly.least cells (a, s) }

supported_in : (k : ℕ) (forest : Forest) (bounds : List Bound) → AreMinimaIn k forest bounds → AllByRecursion (IsSupported k) (claimed_in k forest bounds)
supported_in k Empty bounds m = tt
supported_in k (Plant node below beside) [] m = absurd m
supported_in k (Plant node below beside) (bound ∷ bounds) m =
    let tree : OrderedTree = record { node = node; below = below } in
    let own = tops below bounds in
    let l = (least_choices k tree bound own (minima-tops k below bounds m.1)).0 m.0 in (
      subst (λ cs. IsSupported k (record { own = weight node; children = cs; bound = as_child bound })) (sym (children-minima k below bounds m.1)) (least_supported k (weight node) (seen own) bound l),
      both (IsSupported k) (claimed_in k below bounds) (claimed_in k beside (drop (nodes below) bounds)) (supported_in k below bounds m.1) (supported_in k beside (drop (nodes below) bounds) m.2),
    )

pub minima_supported : MinimaAreSupported
minima_supported k tree bounds m = record { one_each = m.one_each; each = supported_in k (Plant tree.node tree.below Empty) bounds m.each }

-- supported claims aren't refused
pub not_refused : (k : ℕ) (tree : OrderedTree) (bounds : List Bound) (error : BoundsError) → AreSupported k tree bounds → IsNotSupported k tree bounds error → error ≡ Memory
not_refused k tree bounds (Length a b) s h = absurd (length_spared k tree bounds a b s.one_each h)
not_refused k tree bounds (Unsupported p f m a) s h = absurd (supported_spared k tree bounds p f m a s h)
not_refused k tree bounds Memory s h = refl
not_refused k tree bounds (Parts error) s h = absurd h
not_refused k tree bounds (WrongWeight index a b) s h = absurd h
not_refused k tree bounds (Count a b) s h = absurd h
not_refused k tree bounds (BadPlanLine line) s h = absurd h
