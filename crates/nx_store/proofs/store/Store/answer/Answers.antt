use Rattle.std.proofs.Common.{◌≡◌, ℕ, List, sym, ap, subst, ◌∙◌}
use Rattle.nx_script.specs.declared.command.Command.{Command}
use Rattle.nx_script.specs.declared.command.Command.TheVariants.{Export}
use Rattle.nx_script.specs.declared.request.Request.{Request}
use Rattle.nx_script.specs.declared.request.Request.TheVariants.{Single}
use Rattle.nx_store.specs.Reads.{needs_no_page_request, ReadsWithin}
use Rattle.nx_store.specs.Staying.{LeavesOthers}
use Rattle.nx_store.specs.Store.{IsAnswered}
use Rattle.nx_store.proofs.store.Store.answer.Goals as goal

pub returns-in-Single-clause-answers : goal.returns-in-Single-clause-answers
returns-in-Single-clause-answers g c state at told =
    subst (λ (q : Request). IsAnswered g.H.Disk c.answer_one.result state q c.args.self.now c.answer_one.new.self c.args.host.now c.answer_one.new.host) (sym c.in-Single.is) (c.answer_one.ensures.answers state at told)

pub returns-in-Single-clause-leaves : goal.returns-in-Single-clause-leaves
returns-in-Single-clause-leaves g c =
    subst (λ (q : Request). LeavesOthers g.H.Disk q c.args.self.now c.answer_one.new.self c.args.host.now c.answer_one.new.host) (sym c.in-Single.is) c.answer_one.ensures.leaves

pub returns-in-Single-clause-reads : goal.returns-in-Single-clause-reads
returns-in-Single-clause-reads g c command is =
    let same : c.in-Single.command ≡ command = cc (c.in-Single.is, is) in
    subst (λ (k : Command). ReadsWithin g.H.Disk k c.args.self.now c.args.host.now c.answer_one.new.host) same c.answer_one.ensures.reads

pub returns-in-Transaction-clause-answers : goal.returns-in-Transaction-clause-answers
returns-in-Transaction-clause-answers g c state at told =
    subst (λ (q : Request). IsAnswered g.H.Disk c.answer_whole.result state q c.args.self.now c.answer_whole.new.self c.args.host.now c.answer_whole.new.host) (sym c.in-Transaction.is) (c.answer_whole.ensures.answers state at told)

pub returns-in-Transaction-clause-leaves : goal.returns-in-Transaction-clause-leaves
returns-in-Transaction-clause-leaves g c =
    subst (λ (q : Request). LeavesOthers g.H.Disk q c.args.self.now c.answer_whole.new.self c.args.host.now c.answer_whole.new.host) (sym c.in-Transaction.is) c.answer_whole.ensures.leaves

pub returns-in-Transaction-clause-reads : goal.returns-in-Transaction-clause-reads
returns-in-Transaction-clause-reads g c command is = absurd (let no : ⊥ = cc (c.in-Transaction.is, is) in no)

pub returns-in-Transaction-clause-early : goal.returns-in-Transaction-clause-early
returns-in-Transaction-clause-early g c name is = absurd (let no : ⊥ = cc (c.in-Transaction.is, is) in no)

pub returns-in-Single-clause-early : goal.returns-in-Single-clause-early
returns-in-Single-clause-early g c name is = let same : c.in-Single.command ≡ Export name = cc (c.in-Single.is, is) in c.answer_one.ensures.early name same

pub returns-in-Single-clause-unread : goal.returns-in-Single-clause-unread
returns-in-Single-clause-unread g c none = c.answer_one.ensures.unread (sym (ap needs_no_page_request c.in-Single.is) ∙ none)

pub returns-in-Transaction-clause-unread : goal.returns-in-Transaction-clause-unread
returns-in-Transaction-clause-unread g c none = c.answer_whole.ensures.unread (sym (ap needs_no_page_request c.in-Transaction.is) ∙ none)
