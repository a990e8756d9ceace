use Rattle.nx_front.proofs.InitLemmas.{makes, finds_pages, disk_fails}
use Rattle.nx_front.proofs.init.init.Goals as goal

pub returns-in-Ok : goal.returns-in-Ok
returns-in-Ok g c =
    makes c.args.settings c.say.result c.create.ensures.goes
    (λ was now settled is. let (at, alone, created) = c.in-Ok.ensures.ok was now settled is in (alone, created)) c.say.ensures.says c.say.ensures.alone

pub returns-in-Exists : goal.returns-in-Exists
returns-in-Exists g c =
    let refused = rw c.in-Exists.is at c.in-Err.ensures.refused in
    finds_pages c.args.settings c.say-in-Exists.result refused.0 refused.1 c.say-in-Exists.ensures.says c.say-in-Exists.ensures.alone

pub returns-in-Disk : goal.returns-in-Disk
returns-in-Disk g c =
    let refused = rw c.in-Disk.is at c.in-Err.ensures.refused in
    disk_fails c.args.settings c.create.ensures.goes refused.0 (λ was settled (p, some). refused.1 was p settled some)
