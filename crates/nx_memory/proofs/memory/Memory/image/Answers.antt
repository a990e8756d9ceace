use Rattle.std.proofs.Common.{sym, subst}
use Rattle.nx_host.specs.Disk.{Image}
use Rattle.nx_memory.specs.History.{MayLeave}
use Rattle.nx_memory.specs.Memory.{changes_of, present_of}
use Rattle.nx_memory.proofs.CrashLemmas.{left_is, choice_left}
use Rattle.nx_memory.proofs.memory.Memory.image.Goals as goal

pub returns-clause-image : goal.returns-clause-image
returns-clause-image c =
    let m = c.args.self.now in
    let pages = rw (c.deref.ensures.value, c.deref-2.ensures.value, c.deref-3.ensures.value) at c.in_ok-pages.ensures in
    let log = rw (c.deref-4.ensures.value, c.deref-5.ensures.value, c.deref-6.ensures.value) at c.in_ok-log.ensures in
    left_is c.args.choice (changes_of m) (present_of m) (record { pages = c.in_ok-pages.pages; log = c.in_ok-log.log }) pages log

pub returns-clause-left : goal.returns-clause-left
returns-clause-left c =
    let m = c.args.self.now in
    let pages = rw (c.deref.ensures.value, c.deref-2.ensures.value, c.deref-3.ensures.value) at c.in_ok-pages.ensures in
    let log = rw (c.deref-4.ensures.value, c.deref-5.ensures.value, c.deref-6.ensures.value) at c.in_ok-log.ensures in
    let is = left_is c.args.choice (changes_of m) (present_of m) (record { pages = c.in_ok-pages.pages; log = c.in_ok-log.log }) pages log in
    subst (λ (i : Image). MayLeave (changes_of m) (present_of m) i) (sym is) (choice_left c.args.choice (changes_of m) (present_of m) m.sound)
