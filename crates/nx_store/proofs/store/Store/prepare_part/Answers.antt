use Rattle.std.proofs.Common.{◌≡◌, Bool, true, false, refl, sym, ◌∙◌}
use Rattle.nx_steps.specs.Step.{may_change}
use Rattle.nx_store.proofs.PrepareLemmas.{store_left}
use Rattle.nx_store.proofs.TransactLemmas.{other_part, next_part}
use Rattle.nx_store.proofs.store.Store.prepare_part.Goals as goal

pub returns-then-not-may_change-clause-ok : goal.returns-then-not-may_change-clause-ok
returns-then-not-may_change-clause-ok g c =
    let quiet : may_change c.args.command ≡ false = sym c.may_change.ensures.answer ∙ c.if-not-may_change.true in
    (store_left g.D.Disk c.args.self.now c.args.disk.now c.requires.runs, λ saved state at. other_part state c.args.command quiet)

pub prepare_change-requires-clause-may : goal.prepare_change-requires-clause-may
prepare_change-requires-clause-may g c κs apart = sym c.may_change.ensures.answer ∙ c.if-not-may_change.false

pub returns-clause-ok : goal.returns-clause-ok
returns-clause-ok g c =
    next_part g.D.Disk c.args.command (sym c.may_change.ensures.answer ∙ c.if-not-may_change.false) c.args.text.now c.prepare_change.new.text c.args.self.now c.prepare_change.new.self c.args.disk.now c.prepare_change.new.disk
    c.prepare_change.result c.prepare_change.ensures.ok
