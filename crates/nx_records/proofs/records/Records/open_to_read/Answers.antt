use Rattle.std.proofs.Common.{List, ℕ, refl, sym, ap, ◌∙◌, inl, inr}
use Rattle.std.specs.Prelude.{Some, Bool}
use Rattle.nx_host.specs.Disk.{Image}
use Rattle.nx_host.specs.Still.{IsSettled}
use Rattle.nx_replay.specs.Log.{Pages}
use Rattle.nx_wal.specs.Wal.{pending}
use Rattle.nx_wal.specs.Reading.{page_found}
use Rattle.nx_records.proofs.StandLemmas.{current_none}
use Rattle.nx_records.proofs.FirstLemmas.{opened_stands}
use Rattle.nx_records.proofs.LostLemmas.{step_after, lost_unsound, headless_unsound, no_header, has_lost, has_lost_none}
use Rattle.nx_records.proofs.records.Records.open_to_read.Goals as goal

pub returns-clause-ok : goal.returns-clause-ok
returns-clause-ok g c was held settled holds =
    let step = (c.in-Ok.ensures.ok was settled).0 in
    let same = c.in-Ok-page.ensures.ok.0 in
    let kept = c.in-Ok-first_lost.ensures.ok.0 in
    let none = c.in-Ok.ensures.fresh.1 in
    opened_stands _ (refl, ap pending (kept ∙ same) ∙ none, refl, c.new.ensures)
    (step_after _ _ c.first_lost.ensures.still kept (step_after _ _ c.page.ensures.still same step))
    (ap (λ (p : Pages). p 0) (sym (current_none c.in-Ok.wal was none)) ∙ c.in-Ok-page.ensures.ok.2 was step ∙ ap (λ (b : Bool). page_found b c.page.new.into.bytes) c.if-not-found.false
    ∙ ap (λ (x : List ℕ). Some x) c.in-Some.ensures.are)
    c.in-Some.ensures.range holds

pub returns-clause-step : goal.returns-clause-step
returns-clause-step g c was settled =
    let opened = c.in-Ok.ensures.ok was settled in
    (step_after _ _ c.first_lost.ensures.still c.in-Ok-first_lost.ensures.ok.0 (step_after _ _ c.page.ensures.still c.in-Ok-page.ensures.ok.0 opened.0), opened.1)

pub returns-clause-header : goal.returns-clause-header
returns-clause-header g c was settled =
    let step = (c.in-Ok.ensures.ok was settled).0 in
    let none = c.in-Ok.ensures.fresh.1 in
    ap (λ (p : Pages). p 0) (sym (current_none c.in-Ok.wal was none)) ∙ c.in-Ok-page.ensures.ok.2 was step ∙ ap (λ (b : Bool). page_found b c.page.new.into.bytes) c.if-not-found.false
    ∙ ap (λ (x : List ℕ). Some x) c.in-Some.ensures.are

pub returns-clause-whole : goal.returns-clause-whole
returns-clause-whole g c was settled =
    let step = (c.in-Ok.ensures.ok was settled).0 in
    let none = c.in-Ok.ensures.fresh.1 in
    has_lost_none was c.in-Some.header
    (ap (λ (p : Pages). p 0) (sym (current_none c.in-Ok.wal was none)) ∙ c.in-Ok-page.ensures.ok.2 was step ∙ ap (λ (b : Bool). page_found b c.page.new.into.bytes) c.if-not-found.false
    ∙ ap (λ (x : List ℕ). Some x) c.in-Some.ensures.are)
    c.in-Some.ensures.range c.in-Ok-first_lost.lost c.in_default-lost.is
    (c.in-Ok-first_lost.ensures.ok.2 was (step_after _ _ c.page.ensures.still c.in-Ok-page.ensures.ok.0 step))

pub returns-in_default-read_header-clause-refused : goal.returns-in_default-read_header-clause-refused
returns-in_default-read_header-clause-refused g c =
    let none = c.in-Ok.ensures.fresh.1 in
    let lacks = λ (was : Image) (settled : IsSettled g.D.Disk c.args.disk.now was).
    no_header was c.page.new.into.bytes
    (ap (λ (p : Pages). p 0) (sym (current_none c.in-Ok.wal was none)) ∙ c.in-Ok-page.ensures.ok.2 was (c.in-Ok.ensures.ok was settled).0 ∙ ap (λ (b : Bool). page_found b c.page.new.into.bytes) c.if-not-found.false)
    c.in_default-read_header.ensures in
    (λ was settled. inl (refl, lacks was settled), λ was settled. ((c.in-Ok.ensures.ok was settled).1, headless_unsound was (lacks was settled)))

pub returns-in-Some-lost-clause-refused : goal.returns-in-Some-lost-clause-refused
returns-in-Some-lost-clause-refused g c =
    let none = c.in-Ok.ensures.fresh.1 in
    let found = λ (was : Image) (settled : IsSettled g.D.Disk c.args.disk.now was).
    has_lost was c.in-Some.header
    (ap (λ (p : Pages). p 0) (sym (current_none c.in-Ok.wal was none)) ∙ c.in-Ok-page.ensures.ok.2 was (c.in-Ok.ensures.ok was settled).0 ∙ ap (λ (b : Bool). page_found b c.page.new.into.bytes) c.if-not-found.false
    ∙ ap (λ (x : List ℕ). Some x) c.in-Some.ensures.are)
    c.in-Some.ensures.range c.in-Ok-first_lost.lost c.in-Some-lost.page c.in-Some-lost.is
    (c.in-Ok-first_lost.ensures.ok.2 was (step_after _ _ c.page.ensures.still c.in-Ok-page.ensures.ok.0 (c.in-Ok.ensures.ok was settled).0)) in
    (λ was settled. inr (found was settled), λ was settled. ((c.in-Ok.ensures.ok was settled).1, lost_unsound was c.in-Some-lost.page (found was settled)))
