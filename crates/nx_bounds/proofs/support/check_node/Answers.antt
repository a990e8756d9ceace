use Rattle.std.proofs.Common.{◌+◌, drop, refl, subst, ap, ◌∙◌}
use Rattle.std.proofs.lemmas.Option.{get_or_from_slice_get}
use Rattle.nx_choices.specs.Claim.{claim, FindsExceeded}
use Rattle.nx_parts.specs.declared.bounds.Bound.{Bound}
use Rattle.nx_minima.specs.Seen.{as_child}
use Rattle.nx_bounds.specs.Walk.{claim_at}
use Rattle.nx_bounds.proofs.support.check_node.Goals as goal

pub returns-in-Some-clause-err : goal.returns-in-Some-clause-err
returns-in-Some-clause-err c =
    λ b at.
    let h = subst (FindsExceeded c.args.k (claim_at c.args.k c.args.tree.now (drop (c.args.place + 1) c.args.bounds.now) b)) c.in-Some.is (c.in_ok-field.ensures b at) in
    (refl, record { fields_before = h.0; is_claimed = c.number.ensures ∙ ap (λ (x : Bound). claim c.in-Some.field (as_child x)) (get_or_from_slice_get c.args.bounds.now c.args.place b _ at); exceeded = h.1 })

pub returns-in-None-clause-ok : goal.returns-in-None-clause-ok
returns-in-None-clause-ok c =
    λ b at. subst (FindsExceeded c.args.k (claim_at c.args.k c.args.tree.now (drop (c.args.place + 1) c.args.bounds.now) b)) c.in-None.is (c.in_ok-field.ensures b at)
