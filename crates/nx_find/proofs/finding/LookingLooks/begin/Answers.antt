use Rattle.std.proofs.Common.{List, sym, subst}
use Rattle.std.proofs.lemmas.Result.{on_ok_weaker}
use Rattle.nx_reach.specs.Seen.{Seen, Goes}
use Rattle.nx_reach.proofs.SeenLemmas.{goes_nothing}
use Rattle.nx_find.proofs.LookingLemmas.{begins_root, begins_other}
use Rattle.nx_find.proofs.finding.LookingLooks.begin.Goals as goal

pub returns-in-Doc : goal.returns-in-Doc
returns-in-Doc c = subst (λ (seen : List Seen). Goes c.args.self.now.finder seen c.args.self.now.finder) (sym (begins_root c.args.kind c.args.name.now c.in-Doc.is)) (goes_nothing c.args.self.now.finder)

pub returns-in_default : goal.returns-in_default
returns-in_default c =
    on_ok_weaker c.open.result (λ goes. subst (λ (seen : List Seen). Goes c.args.self.now.finder seen c.open.new.self) (sym (begins_other c.args.kind c.args.name.now c.in_default.not-Doc)) goes) c.open.ensures
