use Rattle.std.proofs.Common.{ℕ, Bool, List, refl, sym, ap, ◌∙◌, subst}
use Rattle.nx_replay.specs.Log.{replay, HasMark}
use Rattle.nx_wal.specs.Reading.{page_found}
use Rattle.nx_check.specs.On.{IsOn, StopsWalk}
use Rattle.nx_check.specs.declared.error.Stop.{Stop}
use Rattle.nx_check.proofs.HeadLemmas.{no_page, no_form, no_room, has_header}
use Rattle.nx_check.proofs.listing.walk_header.Goals as goal

pub returns-then-not-branch-clause-refused : goal.returns-then-not-branch-clause-refused
returns-then-not-branch-clause-refused g c =
    subst (λ (e : Stop). StopsWalk g.D.Disk c.args.disk.now c.load.new.disk (λ was. IsOn g.D.Disk c.args.walk.now c.args.disk.now was × HasMark (replay was)) e) (sym c.broken.ensures)
    (λ was h. (refl, no_page (replay was) ((c.in_ok-load.ensures.ok was h.0).1 ∙ ap (λ (b : Bool). page_found b c.load.new.walk.page.bytes) c.if-not-branch.true) h.1))

pub returns-in-None-clause-refused : goal.returns-in-None-clause-refused
returns-in-None-clause-refused g c =
    subst (λ (e : Stop). StopsWalk g.D.Disk c.args.disk.now c.load.new.disk (λ was. IsOn g.D.Disk c.args.walk.now c.args.disk.now was × HasMark (replay was)) e) (sym c.broken-in-None.ensures)
    (λ was h.
    let bytes : List ℕ = c.load.new.walk.page.bytes in
    let there = (c.in_ok-load.ensures.ok was h.0).1 ∙ ap (λ (b : Bool). page_found b bytes) c.if-not-branch.false in
    (refl, no_form (replay was) bytes there c.in-None.ensures h.1))

pub returns-then-not-branch-2-clause-refused : goal.returns-then-not-branch-2-clause-refused
returns-then-not-branch-2-clause-refused g c =
    subst (λ (e : Stop). StopsWalk g.D.Disk c.args.disk.now c.has_room_page.new.disk (λ was. IsOn g.D.Disk c.args.walk.now c.args.disk.now was × HasMark (replay was)) e) (sym c.broken-then-not-branch-2.ensures)
    (λ was h.
    let bytes : List ℕ = c.load.new.walk.page.bytes in
    let read = c.in_ok-load.ensures.ok was h.0 in
    let there = read.1 ∙ ap (λ (b : Bool). page_found b bytes) c.if-not-branch.false in
    (refl, no_room (replay was) bytes c.in-Some.head there c.in-Some.ensures (c.in_ok-has_room_page.ensures.no was read.0 c.if-not-branch-2.true) h.1))

pub returns-clause-ok : goal.returns-clause-ok
returns-clause-ok g c = λ was on.
    let bytes : List ℕ = c.load.new.walk.page.bytes in
    let read = c.in_ok-load.ensures.ok was on in
    let there = read.1 ∙ ap (λ (b : Bool). page_found b bytes) c.if-not-branch.false in
    (c.in_ok-has_room_page.ensures.on was read.0, has_header (replay was) bytes c.in-Some.head there c.in-Some.ensures (λ some. c.in_ok-has_room_page.ensures.yes was read.0 c.if-not-branch-2.false some))
