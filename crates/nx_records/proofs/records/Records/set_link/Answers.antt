use Rattle.std.proofs.Common.{subst}
use Rattle.std.proofs.lemmas.Result.{err_from_is_err_and}
use Rattle.nx_records.specs.declared.error.StoreError.{StoreError}
use Rattle.nx_records.specs.declared.records.Records.{Records}
use Rattle.nx_records.specs.Chains.{SetsLink, MayChange, NotGivenBack}
use Rattle.nx_records.proofs.RefusalLemmas.{err_passed, ended_now}
use Rattle.nx_records.proofs.WritingLemmas.{given_damaged}
use Rattle.nx_records.proofs.RewritingLemmas.{link_unread, may_not}
use Rattle.nx_records.proofs.records.Records.set_link.Goals as goal

pub returns-in_err-next-clause-refused : goal.returns-in_err-next-clause-refused
returns-in_err-next-clause-refused g c =
    err_passed c.from_residual.result (λ (e : StoreError). NotGivenBack g.D.Disk (MayChange c.args.page c.args.content.now) c.args.named e c.args.self.now c.see_link.new.self c.args.disk.now c.see_link.new.disk)
    c.in_err-next.field-0.0 (err_from_is_err_and c.from_residual.result c.from_residual.ensures.1)
    (link_unread g.D.Disk c.args.self.now c.see_link.new.self c.args.disk.now c.see_link.new.disk c.args.named c.args.page c.args.content.now c.requires.there c.in_err-next.field-0.0 c.requires.runs c.in_err-next.ensures.refused)

pub returns-then-not-may_stand-clause-refused : goal.returns-then-not-may_stand-clause-refused
returns-then-not-may_stand-clause-refused g c =
    let short = c.may_stand.ensures.no c.if-not-may_stand.true in
    given_damaged g.D.Disk c.args.self.now c.damaged.new.self c.args.disk.now c.see_link.new.disk c.args.named (MayChange c.args.page c.args.content.now) c.damaged.result c.damaged.ensures.result
    (ended_now {r0 = c.args.self.now} {r1 = c.see_link.new.self} {r2 = c.damaged.new.self} c.requires.runs c.in_ok-next.ensures.ok.0 c.damaged.ensures.ended)
    (may_not g.D.Disk c.args.self.now c.damaged.new.self c.args.disk.now c.see_link.new.disk c.args.named c.args.page c.args.content.now c.requires.there c.in_ok-next.ensures.ok.4 short)

pub returns-clause-ok : goal.returns-clause-ok
returns-clause-ok g c = (
  c.in_ok-next.ensures.ok.4,
  subst (λ (r : Records). SetsLink c.args.page c.in_ok-next.next c.in_ok-next.had.now c.args.content.now r c.put_over.new.self) c.in_ok-next.ensures.ok.0 c.in_ok-put_over.ensures.ok,
)
