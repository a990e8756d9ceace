use Rattle.std.proofs.Common.{ℕ, List, refl, sym, subst}
use Rattle.nx_slots.specs.Edits.{IsOneOfSeveral}
use Rattle.nx_slots.specs.Slots.{slots_of, IsSlotted}
use Rattle.nx_wal.proofs.PageLemmas.{pending_found}
use Rattle.nx_wal.proofs.WalLemmas.{put_at, kept_of}
use Rattle.nx_wal.proofs.wal.Wal.clear_record.Goals as goal

pub returns-then-not-has_beside-clause-none : goal.returns-then-not-has_beside-clause-none
returns-then-not-has_beside-clause-none c same = (
  refl,
  λ runs page waits slotted several.
      let kept = kept_of c.args.self.now.waiting.pages.entries c.args.page page waits in
      c.if-not-has_beside.ensures.no refl kept.0 kept.1 (subst IsSlotted (sym kept.2) slotted) (subst (λ (bytes : List ℕ). IsOneOfSeveral (slots_of bytes) c.args.slot) (sym kept.2) several),
)

pub returns-clause-cleared : goal.returns-clause-cleared
returns-clause-cleared c same =
    let changes = c.clear_record.ensures in
    record {
      runs = c.if-self.false;
      was = changes.was.value.bytes;
      now = changes.now.value.bytes;
      waited = pending_found c.args.self.now.waiting.pages.entries c.args.page changes.was changes.there;
      takes = changes.changes;
      waits = λ i p. put_at c.args.self.now.waiting.pages c.clear_record.new.self.pages c.args.page changes.now changes.updates.0 p i;
    }
