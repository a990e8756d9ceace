use Rattle.std.proofs.Common.{◌≡◌, ◌≤◌, ℕ, List, [], ◌∷◌, ◌++◌, OnOk, refl, ap, ◌∙◌, subst, arith}
use Rattle.std.specs.Prelude.{codes, decimal}
use Rattle.nx_pyx.specs.Field.{greatest_position}
use Rattle.nx_pyx.specs.Path.{path_text}
use Rattle.nx_bounds.proofs.Pushed.{on_ok, positions_fit, word_pushed, field_pushed}
use Rattle.nx_bounds.proofs.GrownLemmas.{grown_none, grown_prefix, grown_or_not, grown_then}
use Rattle.nx_bounds.proofs.text.write.push_run.Goals as goal

pub returns-clause-text : goal.returns-clause-text
returns-clause-text c =
    let old = c.args.text.now in
    let word = codes "run" in
    let path = path_text c.args.parent.now in
    let first = decimal c.args.first in
    let last = decimal c.args.last in
    let to_path = word_pushed old word path c.push_path.new.block (
    c.in_ok-push_path.ensures.ok ∙ ap (λ (t : List ℕ). t ++ path) c.in_ok-extend_from_slice.ensures.ok
    ) in
    let to_first = field_pushed old word (path ∷ []) first c.push_path.new.block c.push_number.new.block to_path
    (c.in_ok-push_number.ensures.ok ∙ ap (λ n. c.push_path.new.block ++ (32 ∷ []) ++ decimal n) c.from.ensures) in
    let to_last = field_pushed old word (path ∷ first ∷ []) last c.push_number.new.block (c.push_number.new.block ++ (32 ∷ []) ++ last) to_first refl in
    subst (λ (t : List ℕ). OnOk c.push_number-2.result (c.push_number-2.new.block ≡ t))
    (ap (λ n. c.push_number.new.block ++ (32 ∷ []) ++ decimal n) c.from-2.ensures ∙ to_last) c.push_number-2.ensures.ok

pub returns-clause-fits : goal.returns-clause-fits
returns-clause-fits c =
    let first : c.args.first ≤ greatest_position = omega arith in
    let last : c.args.last ≤ greatest_position = omega arith in
    on_ok c.push_number-2.result (positions_fit c.args.parent.now c.type_inv.parent, first, last)

pub returns-in_err-extend_from_slice-clause-begun : goal.returns-in_err-extend_from_slice-clause-begun
returns-in_err-extend_from_slice-clause-begun c = grown_none _ _ c.in_err-extend_from_slice.ensures.err

pub returns-in_err-push_path-clause-begun : goal.returns-in_err-push_path-clause-begun
returns-in_err-push_path-clause-begun c =
    grown_then _ _ _ (grown_or_not _ _ _ c.extend_from_slice.result c.extend_from_slice.ensures.ok c.extend_from_slice.ensures.err) (grown_prefix _ _ _ c.push_path.ensures.prefix)

pub returns-in_err-push_number-clause-begun : goal.returns-in_err-push_number-clause-begun
returns-in_err-push_number-clause-begun c =
    grown_then _ _ _
    (grown_then _ _ _ (grown_or_not _ _ _ c.extend_from_slice.result c.extend_from_slice.ensures.ok c.extend_from_slice.ensures.err) (grown_prefix _ _ _ c.push_path.ensures.prefix))
    (grown_prefix _ _ _ c.push_number.ensures.prefix)

pub returns-clause-begun : goal.returns-clause-begun
returns-clause-begun c =
    grown_then _ _ _
    (grown_then _ _ _
    (grown_then _ _ _ (grown_or_not _ _ _ c.extend_from_slice.result c.extend_from_slice.ensures.ok c.extend_from_slice.ensures.err) (grown_prefix _ _ _ c.push_path.ensures.prefix))
    (grown_prefix _ _ _ c.push_number.ensures.prefix)) (grown_prefix _ _ _ c.push_number-2.ensures.prefix)
