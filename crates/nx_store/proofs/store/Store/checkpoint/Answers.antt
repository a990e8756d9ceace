use Rattle.std.proofs.Common.{refl, inl}
use Rattle.nx_store.proofs.LogLemmas.{log_emptied}
use Rattle.nx_store.proofs.ShowLemmas.{shows_written, written_areas}
use Rattle.nx_script.specs.declared.command.Command.TheVariants.{Checkpoint}
use Rattle.nx_script.specs.declared.reply.Reply.TheVariants.{Done}
use Rattle.nx_script.specs.declared.request.Request.TheVariants.{Single}
use Rattle.nx_store.proofs.StayingLemmas.{unasked_leaves, held_leaves, ended_leaves}
use Rattle.nx_store.proofs.store.Store.checkpoint.Goals as goal

pub returns-in_default-clause-applies : goal.returns-in_default-clause-applies
returns-in_default-clause-applies g c state at told = inl (shows_written g.D.Disk c.empty_log.ensures.goes told (λ i of. of state at))

pub returns-clause-applies : goal.returns-clause-applies
returns-clause-applies g c state at told =
    let after = c.in-Ok.ensures.ok.2 state at told in (
      state,
      inl (refl, refl),
      after,
      shows_written g.D.Disk c.empty_log.ensures.goes told (λ i of. inl (of state at)),
      log_emptied g.D.Disk c.empty_log.new.self Done state c.args.disk.now c.empty_log.new.disk refl (λ now. c.in-Ok.ensures.log state now at) after,
    )

pub returns-in_default-clause-areas : goal.returns-in_default-clause-areas
returns-in_default-clause-areas g c = written_areas g.D.Disk c.empty_log.ensures.goes

pub returns-clause-areas : goal.returns-clause-areas
returns-clause-areas g c = written_areas g.D.Disk c.empty_log.ensures.goes

pub returns-then-is_ended-clause-leaves : goal.returns-then-is_ended-clause-leaves
returns-then-is_ended-clause-leaves g c = unasked_leaves g.D.Disk (Single Checkpoint) c.args.self.now c.args.disk.now

pub returns-in_default-clause-leaves : goal.returns-in_default-clause-leaves
returns-in_default-clause-leaves g c = ended_leaves g.D.Disk (Single Checkpoint) c.args.self.now c.empty_log.new.self c.args.disk.now c.empty_log.new.disk (c.in_default.ensures.refused.2).1

pub returns-clause-leaves : goal.returns-clause-leaves
returns-clause-leaves g c = held_leaves g.D.Disk (Single Checkpoint) c.args.self.now c.empty_log.new.self c.args.disk.now c.empty_log.new.disk (λ runs. c.in-Ok.ensures.holds)

pub returns-clause-holds : goal.returns-clause-holds
returns-clause-holds g c =
    c.in-Ok.ensures.holds
