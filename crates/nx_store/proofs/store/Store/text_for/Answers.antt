use Rattle.std.proofs.Common.{◌≡◌, ℕ, List, sym, ap, subst, ◌∙◌}
use Rattle.nx_script.specs.declared.command.Command.{Command}
use Rattle.nx_script.specs.declared.request.Request.{Request}
use Rattle.nx_script.specs.declared.request.Request.TheVariants.{Single}
use Rattle.nx_store.specs.Changing.{IsCarriedWithText}
use Rattle.nx_store.specs.Reads.{needs_no_page_request, ReadsWithin}
use Rattle.nx_store.specs.Staying.{LeavesOthers}
use Rattle.nx_store.proofs.StayingLemmas.{unasked_leaves}
use Rattle.nx_store.proofs.ReadLemmas.{ended_reads, no_commands}
use Rattle.nx_store.proofs.store.Store.text_for.Goals as goal

pub returns-then-is_ended-clause-leaves : goal.returns-then-is_ended-clause-leaves
returns-then-is_ended-clause-leaves g c = unasked_leaves g.D.Disk c.args.request c.args.self.now c.args.disk.now

pub returns-then-is_ended-clause-reads : goal.returns-then-is_ended-clause-reads
returns-then-is_ended-clause-reads g c command is =
    ended_reads g.D.Disk command c.args.self.now c.args.disk.now c.args.disk.now (sym c.is_ended.ensures ∙ c.if-is_ended.true)

pub returns-in-Single-clause-writes : goal.returns-in-Single-clause-writes
returns-in-Single-clause-writes g c state at told =
    subst (λ (q : Request). IsCarriedWithText g.D.Disk c.text_of.result state q c.args.self.now c.text_of.new.self c.args.disk.now c.text_of.new.disk) (sym c.in-Single.is) (c.text_of.ensures.writes state at told)

pub returns-in-Single-clause-leaves : goal.returns-in-Single-clause-leaves
returns-in-Single-clause-leaves g c =
    subst (λ (q : Request). LeavesOthers g.D.Disk q c.args.self.now c.text_of.new.self c.args.disk.now c.text_of.new.disk) (sym c.in-Single.is) c.text_of.ensures.leaves

pub returns-in-Single-clause-reads : goal.returns-in-Single-clause-reads
returns-in-Single-clause-reads g c command is =
    let same : c.in-Single.command ≡ command = cc (c.in-Single.is, is) in
    subst (λ (k : Command). ReadsWithin g.D.Disk k c.args.self.now c.args.disk.now c.text_of.new.disk) same c.text_of.ensures.reads

pub returns-in-Transaction-clause-writes : goal.returns-in-Transaction-clause-writes
returns-in-Transaction-clause-writes g c state at told =
    subst (λ (q : Request). IsCarriedWithText g.D.Disk c.transact.result state q c.args.self.now c.transact.new.self c.args.disk.now c.transact.new.disk) (sym c.in-Transaction.is) (c.transact.ensures.transacts state at told)

pub returns-in-Transaction-clause-leaves : goal.returns-in-Transaction-clause-leaves
returns-in-Transaction-clause-leaves g c =
    subst (λ (q : Request). LeavesOthers g.D.Disk q c.args.self.now c.transact.new.self c.args.disk.now c.transact.new.disk) (sym c.in-Transaction.is) c.transact.ensures.leaves

pub returns-in-Single-clause-unread : goal.returns-in-Single-clause-unread
returns-in-Single-clause-unread g c none = c.text_of.ensures.unread (sym (ap needs_no_page_request c.in-Single.is) ∙ none)

pub returns-in-Transaction-clause-unread : goal.returns-in-Transaction-clause-unread
returns-in-Transaction-clause-unread g c none =
    c.transact.ensures.unread (no_commands c.in-Transaction.commands (sym (ap needs_no_page_request c.in-Transaction.is) ∙ none))
