use Rattle.std.proofs.Common.{List, refl, ap, subst, ◌∙◌, ℕ}
use Rattle.std.specs.Prelude.{Option, IsSome}
use Rattle.std.proofs.lemmas.Bool.{false≢true}
use Rattle.std.specs.Option.{option_or}
use Rattle.nx_replay.specs.Log.{replay}
use Rattle.nx_wal.proofs.WalLemmas.{led}
use Rattle.nx_wal.proofs.PageLemmas.{page_waits, none_waits}
use Rattle.nx_wal.proofs.wal.Wal.load.Goals as goal

pub returns-in-Some-clause-ok : goal.returns-in-Some-clause-ok
returns-in-Some-clause-ok g c = (
  refl,
  c.if-self.false,
  λ was step. ap (λ (o : Option (List ℕ)). option_or o (replay was c.args.page)) (page_waits c.args.self.now.waiting.pages.entries c.args.page c.in-Some.bytes c.get.ensures c.in-Some.is),
)

pub returns-clause-ok : goal.returns-clause-ok
returns-clause-ok g c = (
  refl,
  c.if-self.false,
  λ was step.
      let here = led g.D.Disk c.args.self.now c.args.disk.now was step in
      ap (λ (o : Option (List ℕ)). option_or o (replay was c.args.page)) (none_waits c.args.self.now.waiting.pages.entries c.args.page c.in_default.ensures)
      ∙ c.in-Ok.ensures.found was (step.settled).here here.leads here.within,
)

pub returns-in_default-read_page-clause-waits : goal.returns-in_default-read_page-clause-waits
returns-in_default-read_page-clause-waits g c waits =
    absurd (false≢true (subst IsSome (none_waits c.args.self.now.waiting.pages.entries c.args.page c.in_default.ensures) waits))

pub returns-clause-waits : goal.returns-clause-waits
returns-clause-waits g c waits = absurd (false≢true (subst IsSome (none_waits c.args.self.now.waiting.pages.entries c.args.page c.in_default.ensures) waits))
