use Rattle.std.proofs.Common.{sym, subst}
use Rattle.std.proofs.lemmas.Bool.{false≢true}
use Rattle.nx_replay.specs.Log.{Pages, entry_pages}
use Rattle.nx_ship.specs.Next.{IsHeadedBy}
use Rattle.nx_ship.proofs.EntryLemmas.{base_is, base_only}
use Rattle.nx_ship.proofs.receiver.Receiver.is_base.Goals as goal

pub returns-in_default : goal.returns-in_default
returns-in_default c es kept = (
  λ holds. absurd (false≢true holds),
  λ base. absurd (c.in_default.ensures base.0 (subst (λ (pages : Pages). IsHeadedBy pages base.0) (sym kept.waits) base.1)),
)

pub returns : goal.returns
returns c es kept =
    let self = c.args.self.now in
    let h = c.in-Some.header in
    let headed : IsHeadedBy (entry_pages es) h = subst (λ (pages : Pages). IsHeadedBy pages h) kept.waits c.in-Some.ensures in
    let both = c.are_both.ensures in (
      λ holds.
          let are = both.0 holds in
          base_is self.reader.number c.args.last_page self.reader.taken es h kept.under_way kept.last kept.many headed are.0 are.1,
      λ base.
          both.1 (base_only self.reader.number c.args.last_page self.reader.taken es h kept.under_way kept.last kept.many headed base),
    )
