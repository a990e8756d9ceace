use Rattle.std.proofs.Common.{◌≡◌, ℕ, List, [], ◌∷◌, ◌++◌, OnOk, ap, subst}
use Rattle.nx_bounds.proofs.Pushed.{on_ok, weight_pushed}
use Rattle.nx_bounds.proofs.GrownLemmas.{grown_prefix, grown_or_not, grown_then}
use Rattle.nx_bounds.proofs.text.write.push_part.Goals as goal

pub returns-clause-text : goal.returns-clause-text
returns-clause-text c =
    let line =
    weight_pushed c.args.interval.now c.args.text.now c.push_interval.new.text c.push_number.new.block c.args.weight c.in_ok-push_interval.ensures.text
    c.in_ok-push_number.ensures.ok in
    subst (λ (t : List ℕ). OnOk c.push.result (c.push.new.self ≡ t)) (ap (λ (t : List ℕ). t ++ 10 ∷ []) line) c.push.ensures.ok

pub returns-clause-fits : goal.returns-clause-fits
returns-clause-fits c = on_ok c.push.result (λ light. (c.in_ok-push_interval.ensures.fits, light))

pub returns-in_err-push_number-clause-begun : goal.returns-in_err-push_number-clause-begun
returns-in_err-push_number-clause-begun c = grown_then _ _ _ c.push_interval.ensures.begun (grown_prefix _ _ _ c.push_number.ensures.prefix)

pub returns-clause-begun : goal.returns-clause-begun
returns-clause-begun c =
    grown_then _ _ _ (grown_then _ _ _ c.push_interval.ensures.begun (grown_prefix _ _ _ c.push_number.ensures.prefix))
    (grown_or_not _ _ _ c.push.result c.push.ensures.ok c.push.ensures.err)
