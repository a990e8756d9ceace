use Rattle.std.proofs.Common.{ℕ, Bool, List, sym, ap, ◌∙◌, subst}
use Rattle.nx_replay.specs.Log.{replay}
use Rattle.nx_wal.specs.Reading.{page_found}
use Rattle.nx_layouts.specs.Layout.{RecordPlace}
use Rattle.nx_rules.specs.Walked.{IsRecordAt}
use Rattle.nx_rules.specs.Tour.{all_reached}
use Rattle.nx_check.specs.declared.error.Stop.{Stop}
use Rattle.nx_check.specs.declared.reading.Walk.{Walk}
use Rattle.nx_check.specs.Marks.{AreMarked}
use Rattle.nx_check.specs.Come.{StopsSo}
use Rattle.nx_check.proofs.MarkLemmas.{slotted_record_in}
use Rattle.nx_check.proofs.RecordingLemmas.{SaysAt, at_missing, at_no_record, at_unslotted, at_twice, come_record}
use Rattle.nx_check.proofs.recording.read_record.Goals as goal

pub returns-then-not-branch-clause-refused : goal.returns-then-not-branch-clause-refused
returns-then-not-branch-clause-refused g c =
    subst (λ (e : Stop). StopsSo g.D.Disk c.args.disk.now c.load.new.disk (SaysAt g.D.Disk c.args.walk.now c.args.disk.now c.args.by c.args.page c.args.slot) e) (sym c.broken.ensures)
    (λ was base free used tour visit named come named_by here.
    at_missing (replay was) tour visit named c.args.by c.args.page c.args.slot named_by here ((c.in_ok-load.ensures.ok was come.on).1 ∙ ap (λ (b : Bool). page_found b c.load.new.walk.page.bytes) c.if-not-branch.true))

pub returns-then-not-is_slotted-clause-refused : goal.returns-then-not-is_slotted-clause-refused
returns-then-not-is_slotted-clause-refused g c =
    subst (λ (e : Stop). StopsSo g.D.Disk c.args.disk.now c.load.new.disk (SaysAt g.D.Disk c.args.walk.now c.args.disk.now c.args.by c.args.page c.args.slot) e) (sym c.broken-then-not-is_slotted.ensures)
    (λ was base free used tour visit named come named_by here.
    let bytes : List ℕ = c.load.new.walk.page.bytes in
    let there = (c.in_ok-load.ensures.ok was come.on).1 ∙ ap (λ (b : Bool). page_found b bytes) c.if-not-branch.false in
    at_unslotted (replay was) tour visit named c.args.by c.args.page c.args.slot bytes here there (c.is_slotted.ensures.no c.if-not-is_slotted.true))

pub returns-in-None-clause-refused : goal.returns-in-None-clause-refused
returns-in-None-clause-refused g c =
    subst (λ (e : Stop). StopsSo g.D.Disk c.args.disk.now c.load.new.disk (SaysAt g.D.Disk c.args.walk.now c.args.disk.now c.args.by c.args.page c.args.slot) e) (sym c.broken-in-None.ensures)
    (λ was base free used tour visit named come named_by here.
    let bytes : List ℕ = c.load.new.walk.page.bytes in
    let there = (c.in_ok-load.ensures.ok was come.on).1 ∙ ap (λ (b : Bool). page_found b bytes) c.if-not-branch.false in
    let slotted = c.is_slotted.ensures.yes c.if-not-is_slotted.false in
    at_no_record (replay was) tour visit named c.args.by c.args.page c.args.slot bytes named_by here (record { there = there; slotted = slotted }) (slotted_record_in bytes c.args.slot slotted ∙ c.in-None.ensures))

pub returns-then-not-branch-2-clause-refused : goal.returns-then-not-branch-2-clause-refused
returns-then-not-branch-2-clause-refused g c =
    subst (λ (e : Stop). StopsSo g.D.Disk c.args.disk.now c.load.new.disk (SaysAt g.D.Disk c.args.walk.now c.args.disk.now c.args.by c.args.page c.args.slot) e) (sym c.broken-then-not-branch-2.ensures)
    (λ was base free used tour visit named come named_by here.
    let bytes : List ℕ = c.load.new.walk.page.bytes in
    let there = (c.in_ok-load.ensures.ok was come.on).1 ∙ ap (λ (b : Bool). page_found b bytes) c.if-not-branch.false in
    let slotted = c.is_slotted.ensures.yes c.if-not-is_slotted.false in
    let own : List ℕ = c.in-Some.found.now in
    let found : IsRecordAt (replay was) (record { page = c.args.page; slot = c.args.slot }) own = record { page = bytes; slotted = record { there = there; slotted = slotted }; there = slotted_record_in bytes c.args.slot slotted ∙ c.in-Some.ensures } in
    let marked : AreMarked c.load.new.walk.uses c.load.new.walk.left (replay was) free used (all_reached tour.visits) = subst (λ (w : Walk). AreMarked w.uses w.left (replay was) free used (all_reached tour.visits)) (sym c.in_ok-load.ensures.same) come.marked in
    at_twice (replay was) tour visit named c.args.by c.args.page c.args.slot own here found (c.in_ok-reach.ensures.again c.if-not-branch-2.true (replay was) free used (all_reached tour.visits) own marked there found))

pub returns-clause-ok : goal.returns-clause-ok
returns-clause-ok g c = λ was base free used reached come.
    let bytes : List ℕ = c.load.new.walk.page.bytes in
    let read = c.in_ok-load.ensures.ok was come.on in
    let there = read.1 ∙ ap (λ (b : Bool). page_found b bytes) c.if-not-branch.false in
    let slotted = c.is_slotted.ensures.yes c.if-not-is_slotted.false in
    let place : RecordPlace = record { page = c.args.page; slot = c.args.slot } in
    let own : List ℕ = c.in-Some.found.now in
    let found : IsRecordAt (replay was) place own = record { page = bytes; slotted = record { there = there; slotted = slotted }; there = slotted_record_in bytes c.args.slot slotted ∙ c.in-Some.ensures } in
    let marked : AreMarked c.load.new.walk.uses c.load.new.walk.left (replay was) free used reached = subst (λ (w : Walk). AreMarked w.uses w.left (replay was) free used reached) (sym c.in_ok-load.ensures.same) come.marked in
    let new = c.in_ok-reach.ensures.new c.if-not-branch-2.false (replay was) free used reached own marked there found in (
      subst (λ (b : List ℕ). IsRecordAt (replay was) place b) (sym c.in_ok-from_slice.ensures) found,
      new.0,
      come_record g.D.Disk c.args.walk.now c.load.new.walk c.reach.new.uses c.reach.new.left c.args.disk.now c.load.new.disk was base free used reached place come read.0 c.load.ensures.reads new.1,
    )
