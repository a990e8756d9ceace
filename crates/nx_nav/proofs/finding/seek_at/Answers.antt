use Rattle.std.proofs.Common.{◌≡◌, ◌≤◌, ◌-◌, List, ℕ, None, length, take, drop, refl, sym, ap, ◌∙◌, subst, arith}
use Rattle.std.proofs.lemmas.Result.{err_from_is_err_and}
use Rattle.std.proofs.lemmas.List.{length-drop}
use Rattle.nx_host.proofs.DiskLemmas.{still_then}
use Rattle.nx_records.proofs.LeaveLemmas.{leaves_add_up, leaves_same}
use Rattle.nx_tree.specs.Edit.{at}
use Rattle.nx_cuts.specs.Cut.{tree_of}
use Rattle.nx_layouts.specs.Layout.{RecordPlace}
use Rattle.nx_hold.specs.Changes.{place_of, place_named}
use Rattle.nx_nav.specs.Refusals.{OfEach, HoldsNoDocument}
use Rattle.nx_nav.proofs.NodeLemmas.{too_deep}
use Rattle.nx_nav.proofs.RefusalLemmas.{is_damaged}
use Rattle.nx_nav.proofs.SeekLemmas.{IsSeeking, part_left, seek_begins, seek_refused}
use Rattle.nx_nav.proofs.WrittenLemmas.{written_as, written_reads_there, none_written, written_finds, written_none_such, written_names, written_nowhere, written_leads_on}
use Rattle.nx_nav.proofs.finding.seek_at.Goals as goal

pub loop-written-init : goal.loop-written-init
loop-written-init g c = (1, seek_begins)

pub returns-then-path-gt-DEEPEST-clause-refused : goal.returns-then-path-gt-DEEPEST-clause-refused
returns-then-path-gt-DEEPEST-clause-refused g c = (
  λ document h. too_deep c.args.path.now (tree_of document) h.laid.laid.is_document (let deep = c.if-path-gt-DEEPEST.true in omega (arith, deep)),
  sym c.is_ended.ensures ∙ c.if-is_ended.false,
  leaves_same refl,
)

-- the record wasn't read
pub returns-in_err-written-clause-refused : goal.returns-in_err-written-clause-refused
returns-in_err-written-clause-refused g c =
    let p = err_from_is_err_and c.from_residual.result c.from_residual.ensures.1 in
    rw (p.1, p.2)
    (seek_refused c.written_at.new.records c.written_at.new.disk c.loop-written.invariant.1 (OfEach g.D.Disk c.args.records.now c.args.disk.now (place_of c.args.root) (λ document. at (tree_of document) c.args.path.now ≡ None))
    c.in_err-written.field-0.0 (c.in_err-written.ensures.refused c.loop-written.invariant.0))

pub returns-in_err-written-clause-reads : goal.returns-in_err-written-clause-reads
returns-in_err-written-clause-reads g c = λ document h.
    (written_reads_there c.loop-written.invariant.1 c.written_at.new.disk (let short = c.if-path-gt-DEEPEST.false in let fewer = (c.loop-written.invariant.1).fewer in omega (arith, short, fewer)) c.written_at.ensures.reads document h).0

pub returns-in_err-written-clause-still : goal.returns-in_err-written-clause-still
returns-in_err-written-clause-still g c = still_then (c.loop-written.invariant.1).still c.written_at.ensures.still

-- the bytes are those of no piece
pub returns-in-None-clause-refused : goal.returns-in-None-clause-refused
returns-in-None-clause-refused g c =
    let seeking = c.loop-written.invariant.1 in
    is_damaged g.D.Disk (OfEach g.D.Disk c.args.records.now c.args.disk.now (place_of c.args.root) (λ document. at (tree_of document) c.args.path.now ≡ None)) ⊥
    (HoldsNoDocument g.D.Disk c.args.records.now c.args.disk.now (place_of c.args.root)) {r0 = c.args.records.now} {r1 = c.written_at.new.records} {r2 = c.damaged.new.records} c.args.disk.now c.written_at.new.disk c.damaged.result c.damaged.ensures.result
    (sym (seeking.stays).ended_stays ∙ c.in_ok-written.ensures.stays.0) (leaves_add_up seeking.stays c.in_ok-written.ensures.stays.1) c.damaged.ensures.ends
    (none_written seeking c.in_ok-written.written.record c.in_ok-written.written.list c.in_ok-written.ensures.ok (λ piece w. c.in-None.ensures.found piece (written_as piece c.as_slice.ensures c.as_slice-in-loop-written.ensures w)))

pub returns-in-None-clause-reads : goal.returns-in-None-clause-reads
returns-in-None-clause-reads g c = λ document h.
    (written_reads_there c.loop-written.invariant.1 c.written_at.new.disk (let short = c.if-path-gt-DEEPEST.false in let fewer = (c.loop-written.invariant.1).fewer in omega (arith, short, fewer)) c.written_at.ensures.reads document h).0

pub returns-in-None-clause-still : goal.returns-in-None-clause-still
returns-in-None-clause-still g c = still_then (c.loop-written.invariant.1).still c.written_at.ensures.still

-- memory was wanted
pub returns-in_err-found-in-Some-Here-clause-refused : goal.returns-in_err-found-in-Some-Here-clause-refused
returns-in_err-found-in-Some-Here-clause-refused g c =
    let p = err_from_is_err_and c.from_residual-in_err-found-in-Some-Here.result c.from_residual-in_err-found-in-Some-Here.ensures.1 in
    let seeking = c.loop-written.invariant.1 in
    rw (p.1, p.2) (sym (seeking.stays).ended_stays ∙ c.in_ok-written.ensures.stays.0, leaves_add_up seeking.stays c.in_ok-written.ensures.stays.1)

pub returns-in_err-found-in-Some-Here-clause-reads : goal.returns-in_err-found-in-Some-Here-clause-reads
returns-in_err-found-in-Some-Here-clause-reads g c = λ document h.
    (written_reads_there c.loop-written.invariant.1 c.written_at.new.disk (let short = c.if-path-gt-DEEPEST.false in let fewer = (c.loop-written.invariant.1).fewer in omega (arith, short, fewer)) c.written_at.ensures.reads document h).0

pub returns-in_err-found-in-Some-Here-clause-still : goal.returns-in_err-found-in-Some-Here-clause-still
returns-in_err-found-in-Some-Here-clause-still g c = still_then (c.loop-written.invariant.1).still c.written_at.ensures.still

-- no document has such a node
pub returns-then-not-is_shown-clause-refused : goal.returns-then-not-is_shown-clause-refused
returns-then-not-is_shown-clause-refused g c =
    let seeking = c.loop-written.invariant.1 in
    let found = c.in_ok-found-in-Some-Here.ensures in
    is_damaged g.D.Disk (OfEach g.D.Disk c.args.records.now c.args.disk.now (place_of c.args.root) (λ document. at (tree_of document) c.args.path.now ≡ None)) ⊥
    (HoldsNoDocument g.D.Disk c.args.records.now c.args.disk.now (place_of c.args.root)) {r0 = c.args.records.now} {r1 = c.written_at.new.records} {r2 = c.damaged-then-not-is_shown.new.records} c.args.disk.now c.written_at.new.disk
    c.damaged-then-not-is_shown.result c.damaged-then-not-is_shown.ensures.result
    (sym (seeking.stays).ended_stays ∙ c.in_ok-written.ensures.stays.0) (leaves_add_up seeking.stays c.in_ok-written.ensures.stays.1) c.damaged-then-not-is_shown.ensures.ends
    (written_none_such seeking c.in_ok-written.written.record c.in_ok-written.written.list c.in_ok-written.ensures.ok c.in_ok-found-in-Some-Here.found
    (λ piece w.
    let told = (rw c.in-Some-Here.field-0-is at c.in-Some-Here.ensures.found) piece (written_as piece c.as_slice.ensures c.as_slice-in-loop-written.ensures w) in
    (told.0, told.1, told.2, found.0 ∙ told.3, found.1 ∙ told.4))
    (λ can. absurd (let yes = c.is_shown.ensures.1 can in let no = c.if-not-is_shown.true in cc)))

pub returns-then-not-is_shown-clause-reads : goal.returns-then-not-is_shown-clause-reads
returns-then-not-is_shown-clause-reads g c = λ document h.
    (written_reads_there c.loop-written.invariant.1 c.written_at.new.disk (let short = c.if-path-gt-DEEPEST.false in let fewer = (c.loop-written.invariant.1).fewer in omega (arith, short, fewer)) c.written_at.ensures.reads document h).0

pub returns-then-not-is_shown-clause-still : goal.returns-then-not-is_shown-clause-still
returns-then-not-is_shown-clause-still g c = still_then (c.loop-written.invariant.1).still c.written_at.ensures.still

-- the node was found
pub returns-in-Some-Here-clause-stays : goal.returns-in-Some-Here-clause-stays
returns-in-Some-Here-clause-stays g c =
    let seeking = c.loop-written.invariant.1 in
    (sym (seeking.stays).ended_stays ∙ c.in_ok-written.ensures.stays.0, leaves_add_up seeking.stays c.in_ok-written.ensures.stays.1)

pub returns-in-Some-Here-clause-finds : goal.returns-in-Some-Here-clause-finds
returns-in-Some-Here-clause-finds g c = λ document h.
    let found = c.in_ok-found-in-Some-Here.ensures in
    written_finds c.loop-written.invariant.1 c.in_ok-written.written.record c.in_ok-written.written.list c.in_ok-written.ensures.ok c.in_ok-found-in-Some-Here.found
    (λ piece w.
    let told = (rw c.in-Some-Here.field-0-is at c.in-Some-Here.ensures.found) piece (written_as piece c.as_slice.ensures c.as_slice-in-loop-written.ensures w) in
    (told.0, told.1, told.2, found.0 ∙ told.3, found.1 ∙ told.4)) document h

pub returns-in-Some-Here-clause-named : goal.returns-in-Some-Here-clause-named
returns-in-Some-Here-clause-named g c = λ document h.
    let found = c.in_ok-found-in-Some-Here.ensures in
    let there = written_reads_there c.loop-written.invariant.1 c.written_at.new.disk (let short = c.if-path-gt-DEEPEST.false in let fewer = (c.loop-written.invariant.1).fewer in omega (arith, short, fewer)) c.written_at.ensures.reads document h in (
      there.0,
      λ far named. (
        place_of c.loop-written.rid,
        there.1,
        written_names c.loop-written.invariant.1 c.in_ok-written.written.record c.in_ok-written.written.list c.in_ok-written.ensures.ok c.in_ok-found-in-Some-Here.found
            (λ piece w.
            let told = (rw c.in-Some-Here.field-0-is at c.in-Some-Here.ensures.found) piece (written_as piece c.as_slice.ensures c.as_slice-in-loop-written.ensures w) in
            (told.0, told.1, told.2, found.0 ∙ told.3, found.1 ∙ told.4)) document h far named,
      ),
    )

pub returns-in-Some-Here-clause-reads : goal.returns-in-Some-Here-clause-reads
returns-in-Some-Here-clause-reads g c = λ document h.
    (written_reads_there c.loop-written.invariant.1 c.written_at.new.disk (let short = c.if-path-gt-DEEPEST.false in let fewer = (c.loop-written.invariant.1).fewer in omega (arith, short, fewer)) c.written_at.ensures.reads document h).0

pub returns-in-Some-Here-clause-still : goal.returns-in-Some-Here-clause-still
returns-in-Some-Here-clause-still g c = still_then (c.loop-written.invariant.1).still c.written_at.ensures.still

-- the path leads nowhere
pub returns-in-Some-Nowhere-clause-refused : goal.returns-in-Some-Nowhere-clause-refused
returns-in-Some-Nowhere-clause-refused g c =
    let seeking = c.loop-written.invariant.1 in (
      written_nowhere seeking c.in_ok-written.written.record c.in_ok-written.written.list c.in_ok-written.ensures.ok
          (λ piece w. (rw c.in-Some-Nowhere.field-0-is at c.in-Some-Nowhere.ensures.found) piece (written_as piece c.as_slice.ensures c.as_slice-in-loop-written.ensures w)),
      sym (seeking.stays).ended_stays ∙ c.in_ok-written.ensures.stays.0,
      leaves_add_up seeking.stays c.in_ok-written.ensures.stays.1,
    )

pub returns-in-Some-Nowhere-clause-reads : goal.returns-in-Some-Nowhere-clause-reads
returns-in-Some-Nowhere-clause-reads g c = λ document h.
    (written_reads_there c.loop-written.invariant.1 c.written_at.new.disk (let short = c.if-path-gt-DEEPEST.false in let fewer = (c.loop-written.invariant.1).fewer in omega (arith, short, fewer)) c.written_at.ensures.reads document h).0

pub returns-in-Some-Nowhere-clause-still : goal.returns-in-Some-Nowhere-clause-still
returns-in-Some-Nowhere-clause-still g c = still_then (c.loop-written.invariant.1).still c.written_at.ensures.still

-- it leads on
pub slice_bounds-rest-count : goal.slice_bounds-rest-count
slice_bounds-rest-count g c = (rw c.in-Some-Away.field-0-is at c.in-Some-Away.ensures.used).1

pub slice_bounds-rest-start : goal.slice_bounds-rest-start
slice_bounds-rest-start g c = (rw c.in-Some-Away.field-0-is at c.in-Some-Away.ensures.used).1

pub loop-written-smaller : goal.loop-written-smaller
loop-written-smaller g c =
    let uses = rw c.in-Some-Away.field-0-is at c.in-Some-Away.ensures.used in
    let some : 1 ≤ c.in-Some-Away.used = uses.0 in
    let few : c.in-Some-Away.used ≤ length c.loop-written.rest.now = uses.1 in
    let left = ap length (part_left c.loop-written.rest.now c.in-Some-Away.used) in
    let long = length-drop c.in-Some-Away.used c.loop-written.rest.now in
    omega arith

pub loop-written-preserved : goal.loop-written-preserved
loop-written-preserved g c =
    let uses = rw c.in-Some-Away.field-0-is at c.in-Some-Away.ensures.used in
    let left = part_left c.loop-written.rest.now c.in-Some-Away.used in (
      c.in-Some-Away.proxy.roots,
      subst (λ (place : RecordPlace). IsSeeking g.D.Disk c.args.records.now c.written_at.new.records c.args.disk.now c.written_at.new.disk (place_of c.args.root) c.args.path.now place c.in-Some-Away.proxy.roots c.in-Some-Away.next
          (take (length c.loop-written.rest.now - c.in-Some-Away.used) (drop c.in-Some-Away.used c.loop-written.rest.now))) (sym c.rid_of-rid.ensures)
          (subst (λ (rest : List ℕ). IsSeeking g.D.Disk c.args.records.now c.written_at.new.records c.args.disk.now c.written_at.new.disk (place_of c.args.root) c.args.path.now (place_named c.in-Some-Away.proxy) c.in-Some-Away.proxy.roots c.in-Some-Away.next rest) (sym left)
          (written_leads_on c.loop-written.invariant.1 c.in_ok-written.written.record c.in_ok-written.written.list c.in_ok-written.ensures.ok c.in_ok-written.ensures.stays.0 c.in_ok-written.ensures.stays.1 c.written_at.ensures.still c.written_at.ensures.reads
          c.in-Some-Away.proxy c.in-Some-Away.field-0-1 c.in-Some-Away.next c.in-Some-Away.used uses.0 uses.1
          (λ piece w. (rw c.in-Some-Away.field-0-is at c.in-Some-Away.ensures.found) piece (written_as piece c.as_slice.ensures c.as_slice-in-loop-written.ensures w)))),
    )
