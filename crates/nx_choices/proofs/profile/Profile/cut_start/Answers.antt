use Rattle.std.proofs.Common.{◌<◌, get_or, arith}
use Rattle.nx_choices.proofs.ProfileLemmas.{cut_first}
use Rattle.nx_choices.proofs.profile.Profile.cut_start.Goals as goal

pub returns-then-get_or_zero-room : goal.returns-then-get_or_zero-room
returns-then-get_or_zero-room c = λ k children p.
    let e = c.get_or_zero.ensures in let much : c.args.room < get_or c.args.self.now.lefts.items 0 0 = omega arith in
    rw c.remove.ensures.items (cut_first k c.args.room children c.args.self.now.base c.args.self.now.lefts.items much p)
