use Rattle.std.proofs.Common.{ℕ, zero, suc, ◌<◌, List, [], ◌∷◌, ◌++◌, length, sym, ap, ◌∙◌, subst, arith, All, get_or}
use Rattle.nx_tree.specs.Forest.{OrderedTree}
use Rattle.nx_weights.specs.Weight.{IsWithinLimits}
use Rattle.nx_weights.proofs.LimitLemmas.{document_within}
use Rattle.nx_par_tests.proofs.bounding.both_bounded.Goals as goal

both : (P : OrderedTree → Type 0) (x y : OrderedTree) → P x → P y → (i : ℕ) (d : OrderedTree) → i < length (x ∷ y ∷ []) → P (get_or (x ∷ y ∷ []) i d)
both P x y p q zero d lt = p
both P x y p q (suc zero) d lt = q
both P x y p q (suc (suc i)) d lt = absurd (omega arith)

pub first_heavy-requires : goal.first_heavy-requires
first_heavy-requires g c = document_within c.args.first c.requires.first

pub first_heavy-requires-else-heavy : goal.first_heavy-requires-else-heavy
first_heavy-requires-else-heavy g c = document_within c.args.second c.requires.second

pub bounds_of_all-requires-clause-limits : goal.bounds_of_all-requires-clause-limits
bounds_of_all-requires-clause-limits g c κs within =
    let trees = c.as_slice.ensures.value ∙ c.in_ok-push-2.ensures.items ∙ ap (λ (l : List OrderedTree). l ++ c.args.second ∷ []) c.in_ok-push.ensures.items
    ∙ ap (λ (l : List OrderedTree). (l ++ c.args.first ∷ []) ++ c.args.second ∷ []) c.new-trees.ensures.items in
    subst (All IsWithinLimits) (sym trees) (both IsWithinLimits c.args.first c.args.second (document_within c.args.first c.requires.first) (document_within c.args.second c.requires.second))
