use Rattle.std.proofs.Common.{◌≡◌, ◌∙◌, sym, ap, subst}
use Rattle.std.proofs.lemmas.Result.{err_from_is_err_and}
use Rattle.nx_holdings.specs.Holdings.{next_of}
use Rattle.nx_records.specs.declared.error.StoreError.{StoreError}
use Rattle.nx_records.specs.Chains.{NotGivenBack}
use Rattle.nx_records.proofs.RefusalLemmas.{err_passed}
use Rattle.nx_records.proofs.WritingLemmas.{give_steps, link_given}
use Rattle.nx_records.proofs.FreedLemmas.{freed_no_link}
use Rattle.nx_records.specs.Chains.{AddsNoLink}
use Rattle.nx_records.specs.declared.records.Records.{Records}
use Rattle.nx_holdings.specs.Holdings.{with_page, free_bytes}
use Rattle.nx_holdings.specs.declared.header.Header.{Header}
use Rattle.nx_wal.specs.Wal.{current}
use Rattle.nx_replay.specs.Log.{Pages}
use Rattle.nx_records.proofs.records.Records.give_link.Goals as goal

pub returns-in_err-link-clause-refused : goal.returns-in_err-link-clause-refused
returns-in_err-link-clause-refused g c =
    err_passed c.from_residual.result (λ (e : StoreError). NotGivenBack g.D.Disk (λ links. next_of links ≡ c.args.page) c.args.named e c.args.self.now c.link.new.self c.args.disk.now c.link.new.disk)
    c.in_err-link.field-0.0 (err_from_is_err_and c.from_residual.result c.from_residual.ensures.1)
    (link_given g.D.Disk c.args.self.now c.link.new.self c.args.disk.now c.link.new.disk c.args.named c.args.page c.in_err-link.field-0.0 c.requires.some c.requires.runs c.in_err-link.ensures.refused)

pub returns-clause-ok : goal.returns-clause-ok
returns-clause-ok g c =
    give_steps g.D.Disk c.args.self.now c.link.new.self c.release.new.self c.args.disk.now c.in_ok-link.link.content c.requires.some c.in_ok-link.ensures.ok.0 c.in_ok-link.ensures.ok.4 c.in_ok-release.ensures.ok

pub returns-clause-link : goal.returns-clause-link
returns-clause-link g c = (c.in_ok-link.ensures.ok.1, c.in_ok-link.ensures.ok.4)

pub returns-clause-fewer : goal.returns-clause-fewer
returns-clause-fewer g c =
    let same = c.in_ok-link.ensures.ok.0 in
    let stored = c.in_ok-release.ensures.ok in (
      ap (λ (h : Header). h.pages) stored.0 ∙ ap (λ (r : Records). r.head.pages) same,
      λ was.
          subst (λ (p : Pages). AddsNoLink (current c.args.self.now.wal was) p) (sym (stored.2 was))
          (subst (λ (r : Records). AddsNoLink (current r.wal was) (with_page (current c.link.new.self.wal was) c.args.page (free_bytes c.link.new.self.head.free))) same
          (freed_no_link (current c.link.new.self.wal was) c.args.page c.link.new.self.head.free)),
    )
