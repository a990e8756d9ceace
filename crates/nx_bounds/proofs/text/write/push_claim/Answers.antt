use Rattle.std.proofs.Common.{◌≡◌, ◌≤◌, ℕ, List, [], ◌∷◌, ◌++◌, OnOk, ap, subst, arith, rules}
use Rattle.std.specs.Prelude.{codes, decimal}
use Rattle.nx_pyx.specs.Field.{greatest_position}
use Rattle.nx_bounds.proofs.Pushed.{on_ok, word_pushed, field_pushed}
use Rattle.nx_bounds.proofs.GrownLemmas.{grown_prefix, grown_or_not, grown_then}
use Rattle.nx_bounds.proofs.text.write.push_claim.Goals as goal

pub returns-clause-text : goal.returns-clause-text
returns-clause-text c =
    let old = c.args.text.now in
    let word = codes "bound" in
    let node = decimal c.args.node in
    let least = decimal c.args.bound.now.least in
    let lean = decimal c.args.bound.now.lean in
    let nearly = decimal c.args.bound.now.nearly in
    let second : c.push_number-2.new.block ≡ c.push_number.new.block ++ (32 ∷ []) ++ least = search rules in
    let third : c.push_number-3.new.block ≡ c.push_number-2.new.block ++ (32 ∷ []) ++ lean = search rules in
    let fourth : c.push_number-4.new.block ≡ c.push_number-3.new.block ++ (32 ∷ []) ++ nearly = search rules in
    let to_node = word_pushed old word node c.push_number.new.block c.in_ok-push_number.ensures.ok in
    let to_least = field_pushed old word (node ∷ []) least c.push_number.new.block c.push_number-2.new.block to_node second in
    let to_lean = field_pushed old word (node ∷ least ∷ []) lean c.push_number-2.new.block c.push_number-3.new.block to_least third in
    let to_nearly = field_pushed old word (node ∷ least ∷ lean ∷ []) nearly c.push_number-3.new.block c.push_number-4.new.block to_lean fourth in
    subst (λ (t : List ℕ). OnOk c.push.result (c.push.new.self ≡ t)) (ap (λ (t : List ℕ). t ++ 10 ∷ []) to_nearly) c.push.ensures.ok

pub returns-clause-fits : goal.returns-clause-fits
returns-clause-fits c =
    let least : c.args.bound.now.least ≤ greatest_position = omega arith in
    let lean : c.args.bound.now.lean ≤ greatest_position = omega arith in
    let nearly : c.args.bound.now.nearly ≤ greatest_position = omega arith in
    on_ok c.push.result (λ node. (node, least, lean, nearly))

pub returns-in_err-push_number-clause-begun : goal.returns-in_err-push_number-clause-begun
returns-in_err-push_number-clause-begun c = grown_prefix _ _ _ c.push_number.ensures.prefix

pub returns-in_err-push_number-2-clause-begun : goal.returns-in_err-push_number-2-clause-begun
returns-in_err-push_number-2-clause-begun c =
    grown_then _ _ _ (grown_prefix _ _ _ c.push_number.ensures.prefix) (grown_prefix _ _ _ c.push_number-2.ensures.prefix)

pub returns-in_err-push_number-3-clause-begun : goal.returns-in_err-push_number-3-clause-begun
returns-in_err-push_number-3-clause-begun c =
    grown_then _ _ _ (grown_then _ _ _ (grown_prefix _ _ _ c.push_number.ensures.prefix) (grown_prefix _ _ _ c.push_number-2.ensures.prefix)) (grown_prefix _ _ _ c.push_number-3.ensures.prefix)

pub returns-in_err-push_number-4-clause-begun : goal.returns-in_err-push_number-4-clause-begun
returns-in_err-push_number-4-clause-begun c =
    grown_then _ _ _
    (grown_then _ _ _ (grown_then _ _ _ (grown_prefix _ _ _ c.push_number.ensures.prefix) (grown_prefix _ _ _ c.push_number-2.ensures.prefix)) (grown_prefix _ _ _ c.push_number-3.ensures.prefix))
    (grown_prefix _ _ _ c.push_number-4.ensures.prefix)

pub returns-clause-begun : goal.returns-clause-begun
returns-clause-begun c =
    grown_then _ _ _
    (grown_then _ _ _
    (grown_then _ _ _ (grown_then _ _ _ (grown_prefix _ _ _ c.push_number.ensures.prefix) (grown_prefix _ _ _ c.push_number-2.ensures.prefix)) (grown_prefix _ _ _ c.push_number-3.ensures.prefix))
    (grown_prefix _ _ _ c.push_number-4.ensures.prefix)) (grown_or_not _ _ _ c.push.result c.push.ensures.ok c.push.ensures.err)
