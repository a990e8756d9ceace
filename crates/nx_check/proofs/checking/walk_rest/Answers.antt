use Rattle.std.proofs.Common.{◌≡◌, ◌≤◌, ◌<◌, ℕ, [], sym, subst}
use Rattle.nx_replay.specs.Log.{replay}
use Rattle.nx_rules.specs.Tour.{all_reached, Tour, used_in}
use Rattle.nx_check.specs.declared.error.Stop.{Stop}
use Rattle.nx_check.specs.Between.{IsBetweenDocuments}
use Rattle.nx_check.specs.On.{StopsWalk}
use Rattle.nx_check.proofs.BetweenLemmas.{AreInUse, all_in_use, unused_below, unused_past, at_end}
use Rattle.nx_check.proofs.checking.walk_rest.Goals as goal

pub returns-in-Some-clause-refused : goal.returns-in-Some-clause-refused
returns-in-Some-clause-refused g c =
    subst (λ (e : Stop). StopsWalk g.D.Disk c.args.disk.now c.args.disk.now (λ was. (base : ℕ) × (tour : Tour) × IsBetweenDocuments g.D.Disk c.args.walk.now c.args.disk.now was base tour tour.visits [] × (c.args.pages ≡ tour.head.pages)) e) (sym c.broken.ensures)
    (λ was is.
    let page : ℕ = c.in-Some.page in
    let found = c.in-Some.ensures.some in
    let tour : Tour = is.1 in
    let use_there = found.2 (replay was) tour.free (used_in tour) (all_reached tour.visits) is.2.come.marked in
    unused_below g.D.Disk c.args.walk.now c.args.disk.now was is.0 tour page is.2 (subst (λ (n : ℕ). page < n) is.3 found.1) found.0 (all_in_use (replay was) tour page use_there.1) use_there.0)

pub returns-then-count-pages-clause-refused : goal.returns-then-count-pages-clause-refused
returns-then-count-pages-clause-refused g c =
    subst (λ (e : Stop). StopsWalk g.D.Disk c.args.disk.now c.page_count.new.disk (λ was. (base : ℕ) × (tour : Tour) × IsBetweenDocuments g.D.Disk c.args.walk.now c.args.disk.now was base tour tour.visits [] × (c.args.pages ≡ tour.head.pages)) e) (sym c.broken-then-count-pages.ensures)
    (λ was is.
    let tour : Tour = is.1 in
    let all : AreInUse (replay was) tour tour.head.pages = subst (λ (n : ℕ). AreInUse (replay was) tour n) is.3 (all_in_use (replay was) tour c.args.pages (c.in_default.ensures.none (replay was) tour.free (used_in tour) (all_reached tour.visits) is.2.come.marked)) in
    unused_past g.D.Disk c.args.walk.now c.args.disk.now was is.0 tour c.in-Ok.count is.2 (subst (λ (n : ℕ). n < c.in-Ok.count) is.3 c.if-count-pages.true) all (c.in-Ok.ensures.ok.2 was is.2.come.on.step))

pub returns-clause-ok : goal.returns-clause-ok
returns-clause-ok g c = λ was base tour at same.
    let all : AreInUse (replay was) tour tour.head.pages = subst (λ (n : ℕ). AreInUse (replay was) tour n) same (all_in_use (replay was) tour c.args.pages (c.in_default.ensures.none (replay was) tour.free (used_in tour) (all_reached tour.visits) at.come.marked)) in
    at_end g.D.Disk c.args.walk.now c.args.disk.now c.page_count.new.disk was base tour c.in-Ok.count at (subst (λ (n : ℕ). c.in-Ok.count ≤ n) same c.if-count-pages.false) all (c.in-Ok.ensures.ok.2 was at.come.on.step) c.page_count.ensures.reads
