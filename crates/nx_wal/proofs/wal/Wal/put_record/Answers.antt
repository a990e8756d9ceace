use Rattle.std.proofs.Common.{◌≡◌, List, ℕ, refl, sym, subst, inl, inr, ◌∙◌}
use Rattle.std.proofs.lemmas.Bool.{cases_lt, false≢true}
use Rattle.nx_slots.specs.Edits.{free_in, needed_for}
use Rattle.nx_slots.specs.Rooms.{HasRoom}
use Rattle.nx_slots.specs.Slots.{slots_of, IsSlotted}
use Rattle.nx_wal.proofs.PageLemmas.{pending_found}
use Rattle.nx_wal.proofs.ReadingLemmas.{some_same}
use Rattle.nx_wal.proofs.WalLemmas.{put_at, kept_of}
use Rattle.nx_wal.proofs.wal.Wal.put_record.Goals as goal

pub returns-in_default-clause-none : goal.returns-in_default-clause-none
returns-in_default-clause-none c = (
  refl,
  λ runs page waits slotted.
      let kept = kept_of c.args.self.now.waiting.pages.entries c.args.page page waits in
      absurd (c.in_default.ensures.none kept.0 kept.1 (subst IsSlotted (sym kept.2) slotted)),
)

pub returns-then-not-takes-clause-none : goal.returns-then-not-takes-clause-none
returns-then-not-takes-clause-none c = (
  refl,
  λ runs page waits slotted.
      let found = c.in-Some.ensures.some in
      let same : found.0.value.bytes ≡ page = some_same (sym (pending_found c.args.self.now.waiting.pages.entries c.args.page found.0 found.1) ∙ waits) in
      elim (cases_lt (free_in (slots_of page)) (needed_for (slots_of page) c.args.bytes.now)) [
        | inl few ↦ few
        | inr fits ↦
            let takes = (c.takes.ensures page c.args.bytes.now (subst (λ (bytes : List ℕ). HasRoom bytes c.in-Some.room) same found.2) refl).1 fits in
            absurd (false≢true (sym c.if-not-takes.true ∙ takes))
      ],
)

pub returns-clause-put : goal.returns-clause-put
returns-clause-put c =
    let changes = c.put_record-slot.ensures in
    record {
      runs = c.if-self.false;
      was = changes.was.value.bytes;
      now = changes.now.value.bytes;
      waited = pending_found c.args.self.now.waiting.pages.entries c.args.page changes.was changes.there;
      puts = changes.changes;
      waits = λ i p. put_at c.args.self.now.waiting.pages c.put_record-slot.new.self.pages c.args.page changes.now changes.updates.0 p i;
    }
