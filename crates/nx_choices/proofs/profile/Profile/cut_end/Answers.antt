use Rattle.nx_choices.proofs.ProfileLemmas.{cut_end}
use Rattle.nx_choices.proofs.profile.Profile.cut_end.Goals as goal

pub returns-in-Some-clause-profile : goal.returns-in-Some-clause-profile
returns-in-Some-clause-profile c = λ k room children p.
    rw c.truncate.ensures.items (cut_end k room children c.args.self.now.base c.args.self.now.lefts.items c.in-Some.index c.in-Some.ensures.1 p)
