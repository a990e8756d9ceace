use Rattle.std.proofs.Common.{◌≡◌, ℕ, [], ◌∷◌, Some, sym, ap, ◌∙◌, subst, arith}
use Rattle.std.specs.Prelude.{Option}
use Rattle.std.specs.Option.{option_to_list}
use Rattle.std.proofs.lemmas.Result.{err_from_is_err_and}
use Rattle.nx_piece.specs.declared.piece.Far.{Far}
use Rattle.nx_check.specs.declared.error.Stop.{Stop}
use Rattle.nx_check.specs.Come.{StopsSo}
use Rattle.nx_check.specs.Lists.{WalksLists, SaysLists}
use Rattle.nx_check.proofs.ChainLemmas.{SaysList}
use Rattle.nx_check.proofs.ComeLemmas.{stops_later, err_passed}
use Rattle.nx_check.proofs.RecordingLemmas.{one_list_walks, one_list_says}
use Rattle.nx_check.proofs.chains.pass_far.Goals as goal

pub returns-in_err-pass_list-in-Some-clause-refused : goal.returns-in_err-pass_list-in-Some-clause-refused
returns-in_err-pass_list-in-Some-clause-refused g c =
    let far : Far = record { first = c.in-Some.far.first; length = c.from.result } in
    let is : c.args.node.far ≡ Some far = c.in-Some.is ∙ ap (λ (n : ℕ). Some (record { first = c.in-Some.far.first; length = n })) (sym c.from.ensures) in
    err_passed c.from_residual.result (λ (e : Stop). StopsSo g.D.Disk c.args.disk.now c.pass_list.new.disk (SaysLists g.D.Disk c.args.walk.now c.args.disk.now c.args.by (option_to_list c.args.node.far)) e) c.in_err-pass_list-in-Some.field-0.0
    (err_from_is_err_and c.from_residual.result c.from_residual.ensures.1)
    (subst (λ (o : Option Far). StopsSo g.D.Disk c.args.disk.now c.pass_list.new.disk (SaysLists g.D.Disk c.args.walk.now c.args.disk.now c.args.by (option_to_list o)) c.in_err-pass_list-in-Some.field-0.0) (sym is)
    (stops_later g.D.Disk c.args.disk.now c.args.disk.now c.pass_list.new.disk (SaysList g.D.Disk c.args.walk.now c.args.disk.now c.args.by far.first far.length) (SaysLists g.D.Disk c.args.walk.now c.args.disk.now c.args.by (far ∷ []))
    c.in_err-pass_list-in-Some.field-0.0 (omega arith) (one_list_says g.D.Disk c.args.walk.now c.args.disk.now c.args.by far) c.in_err-pass_list-in-Some.ensures.refused))

pub returns-in_ok-pass_list-in-Some-clause-ok : goal.returns-in_ok-pass_list-in-Some-clause-ok
returns-in_ok-pass_list-in-Some-clause-ok g c =
    let far : Far = record { first = c.in-Some.far.first; length = c.from.result } in
    let is : c.args.node.far ≡ Some far = c.in-Some.is ∙ ap (λ (n : ℕ). Some (record { first = c.in-Some.far.first; length = n })) (sym c.from.ensures) in
    subst (λ (o : Option Far). WalksLists g.D.Disk c.args.walk.now c.args.disk.now c.pass_list.new.walk c.pass_list.new.disk (option_to_list o)) (sym is)
    (one_list_walks g.D.Disk c.args.walk.now c.pass_list.new.walk c.args.disk.now c.pass_list.new.disk far c.in_ok-pass_list-in-Some.ensures.ok)
