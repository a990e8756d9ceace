use Rattle.std.proofs.Common.{ℕ, ◌-◌, take, refl, ap, ◌∙◌}
use Rattle.nx_names.proofs.GatherLemmas.{ends_record}
use Rattle.nx_names.proofs.gatherer.Gatherer.leave.Goals as goal

pub returns : goal.returns
returns c = λ g is.
    let around = c.args.self.now.around in
    ends_record c.args.self.now _ g is (c.pop.ensures.rest ∙ ap (λ (n : ℕ). take (n - 1) around.items) around.ok.0) refl refl refl
