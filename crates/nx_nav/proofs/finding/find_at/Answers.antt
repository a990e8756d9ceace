use Rattle.std.proofs.Common.{arith, refl, ◌≡◌, ◌≤◌, ◌-◌, List, ℕ, Option, None, length, take, drop, ap, ◌∙◌, sym, subst}
use Rattle.std.proofs.lemmas.Result.{err_from_is_err_and}
use Rattle.std.proofs.lemmas.List.{length-drop}
use Rattle.nx_host.proofs.DiskLemmas.{still_then}
use Rattle.nx_records.proofs.LeaveLemmas.{leaves_add_up, leaves_same}
use Rattle.nx_tree.specs.Document.{deepest}
use Rattle.nx_tree.specs.Edit.{at}
use Rattle.nx_piece.specs.PieceNode.{PieceNode}
use Rattle.nx_piece.specs.Viewing.{seen_tree}
use Rattle.nx_cuts.specs.Cut.{tree_of}
use Rattle.nx_layouts.specs.Layout.{RecordPlace}
use Rattle.nx_hold.specs.Changes.{place_of, place_named}
use Rattle.nx_nav.specs.Refusals.{OfEach, HoldsNoDocument}
use Rattle.nx_nav.specs.Beside.{child_asked, ReadsChild}
use Rattle.nx_nav.specs.declared.routing.PassedRecord.{PassedRecord}
use Rattle.nx_nav.proofs.NodeLemmas.{too_deep}
use Rattle.nx_nav.proofs.RefusalLemmas.{is_damaged}
use Rattle.nx_nav.proofs.SeekLemmas.{part_left, finds_there, finds_none_such, finds_none, names_there, reads_no_more, reads_same_places, seek_falls, seek_reads_there, seek_refused}
use Rattle.nx_nav.proofs.RouteLemmas.{HasPassed, passed_none, passes_by, passed_to, kept_route}
use Rattle.nx_nav.proofs.BesideLemmas.{below_begins, below_goes_on, below_reads, kind_found, child_refused, asked_reads, IsSeekingBelow}
use Rattle.nx_nav.proofs.finding.find_at.Goals as goal

pub loop-bytes-init : goal.loop-bytes-init
loop-bytes-init g c = (
  below_begins,
  λ keeps. subst (λ (ps : List PassedRecord). HasPassed g.D.Disk c.args.records.now c.args.disk.now (place_of c.args.root) c.args.path.now (place_of c.args.root) 0 c.args.path.now ps) (sym c.new-passed.ensures.items) passed_none,
)

pub returns-in_err-piece-clause-refused : goal.returns-in_err-piece-clause-refused
returns-in_err-piece-clause-refused g c =
    let p = err_from_is_err_and c.from_residual.result c.from_residual.ensures.1 in
    rw (p.1, p.2)
    (seek_refused c.piece_at.new.records c.piece_at.new.disk c.loop-bytes.invariant.0.own (OfEach g.D.Disk c.args.records.now c.args.disk.now (place_of c.args.root) (λ document. at (tree_of document) c.args.path.now ≡ None))
    c.in_err-piece.field-0.0 c.in_err-piece.ensures.refused)

pub returns-in-Here-clause-stays : goal.returns-in-Here-clause-stays
returns-in-Here-clause-stays g c = (
  sym (c.loop-bytes.invariant.0.own.stays).ended_stays ∙ c.in_ok-piece.ensures.stays.0,
  leaves_add_up c.loop-bytes.invariant.0.own.stays (leaves_add_up c.in_ok-piece.ensures.stays.1 c.in_ok-kind-in-Here.ensures.ok.0),
)

pub returns-in-Here-clause-finds : goal.returns-in-Here-clause-finds
returns-in-Here-clause-finds g c = λ document h.
    finds_there c.loop-bytes.invariant.0.own c.in_ok-piece.piece c.in_ok-piece.ensures.ok (seen_tree c.in-Here.tree) c.in-Here.first c.in-Here.ensures.0 c.in_ok-found-in-Here.found c.in_ok-found-in-Here.ensures.0 c.in_ok-found-in-Here.ensures.1 document h

pub returns-in-Here-clause-child : goal.returns-in-Here-clause-child
returns-in-Here-clause-child g c = λ document h.
    kind_found c.loop-bytes.invariant.0 c.in_ok-piece.piece c.in_ok-piece.ensures.ok c.in_ok-piece.ensures.stays.0 c.in_ok-piece.ensures.stays.1 c.piece_at.ensures.still c.piece_at.ensures.reads c.in_ok-piece.ensures.valid (seen_tree c.in-Here.tree) c.in-Here.first c.in-Here.ensures.0 c.args.child c.in_ok-kind-in-Here.kind c.in_ok-kind-in-Here.ensures.ok.1 document h

pub returns-in-Here-clause-named : goal.returns-in-Here-clause-named
returns-in-Here-clause-named g c = λ none document h.
    let few : length c.args.path.now ≤ deepest = let few = c.if-path-gt-DEEPEST.false in omega (arith, few) in
    let read = subst (λ (o : Option ℕ). ReadsChild g.D.Disk c.piece_at.new.records c.piece_at.new.disk c.kind_at.new.disk c.in_ok-piece.piece.proxies (child_asked c.in_ok-piece.piece.proxies (seen_tree c.in-Here.tree) c.in-Here.first o)) none c.kind_at.ensures.reads in
    let own = c.loop-bytes.invariant.0.own in
    let there = seek_reads_there c.piece_at.new.disk own (let fewer = own.fewer in omega (arith, fewer, few)) c.piece_at.ensures.reads document h in (
      reads_no_more (g.D.Disk.reads c.kind_at.new.disk) read there.0,
      λ far named. (place_of c.loop-bytes.rid, reads_same_places there.0 read there.1, names_there own c.in_ok-piece.piece c.in_ok-piece.ensures.ok (seen_tree c.in-Here.tree) c.in-Here.first c.in-Here.ensures.0 document h far (sym (ap (λ (p : PieceNode). p.far) c.in_ok-found-in-Here.ensures.0) ∙ named)),
    )

pub returns-then-not-is_shown-clause-refused : goal.returns-then-not-is_shown-clause-refused
returns-then-not-is_shown-clause-refused g c =
    is_damaged g.D.Disk (OfEach g.D.Disk c.args.records.now c.args.disk.now (place_of c.args.root) (λ document. at (tree_of document) c.args.path.now ≡ None)) ⊥
    (HoldsNoDocument g.D.Disk c.args.records.now c.args.disk.now (place_of c.args.root)) {r0 = c.args.records.now} {r1 = c.piece_at.new.records} {r2 = c.damaged.new.records} c.args.disk.now c.piece_at.new.disk c.damaged.result c.damaged.ensures.result
    (sym (c.loop-bytes.invariant.0.own.stays).ended_stays ∙ c.in_ok-piece.ensures.stays.0) (leaves_add_up c.loop-bytes.invariant.0.own.stays c.in_ok-piece.ensures.stays.1) c.damaged.ensures.ends
    (finds_none_such c.loop-bytes.invariant.0.own c.in_ok-piece.piece c.in_ok-piece.ensures.ok (seen_tree c.in-Here.tree) c.in-Here.first c.in-Here.ensures.0 c.in_ok-found-in-Here.found c.in_ok-found-in-Here.ensures.0 c.in_ok-found-in-Here.ensures.1
    (λ can. absurd (let yes = c.is_shown.ensures.1 can in let no = c.if-not-is_shown.true in cc)))

pub slice_bounds-rest-count : goal.slice_bounds-rest-count
slice_bounds-rest-count g c = (seek_falls c.loop-bytes.invariant.0.own c.in_ok-piece.piece c.in_ok-piece.ensures.ok c.in-Away.index c.in-Away.next c.in-Away.used c.in_ok-piece.ensures.valid c.in-Away.ensures.0).1

pub slice_bounds-rest-start : goal.slice_bounds-rest-start
slice_bounds-rest-start g c = (seek_falls c.loop-bytes.invariant.0.own c.in_ok-piece.piece c.in_ok-piece.ensures.ok c.in-Away.index c.in-Away.next c.in-Away.used c.in_ok-piece.ensures.valid c.in-Away.ensures.0).1

pub returns-in-Nowhere-clause-refused : goal.returns-in-Nowhere-clause-refused
returns-in-Nowhere-clause-refused g c = (
  finds_none c.loop-bytes.invariant.0.own c.in_ok-piece.piece c.in_ok-piece.ensures.ok c.in-Nowhere.ensures,
  sym (c.loop-bytes.invariant.0.own.stays).ended_stays ∙ c.in_ok-piece.ensures.stays.0,
  leaves_add_up c.loop-bytes.invariant.0.own.stays c.in_ok-piece.ensures.stays.1,
)

pub loop-bytes-smaller : goal.loop-bytes-smaller
loop-bytes-smaller g c =
    let falls = seek_falls c.loop-bytes.invariant.0.own c.in_ok-piece.piece c.in_ok-piece.ensures.ok c.in-Away.index c.in-Away.next c.in-Away.used c.in_ok-piece.ensures.valid c.in-Away.ensures.0 in
    let some : 1 ≤ c.in-Away.used = falls.0 in
    let few : c.in-Away.used ≤ length c.loop-bytes.rest.now = falls.1 in
    let left = ap length (part_left c.loop-bytes.rest.now c.in-Away.used) in
    let long = length-drop c.in-Away.used c.loop-bytes.rest.now in
    omega arith

pub loop-bytes-preserved : goal.loop-bytes-preserved
loop-bytes-preserved g c =
    let left = part_left c.loop-bytes.rest.now c.in-Away.used in (
      subst (λ (place : RecordPlace). IsSeekingBelow g.D.Disk c.args.records.now c.piece_at.new.records c.args.disk.now c.piece_at.new.disk (place_of c.args.root) c.args.path.now place c.in-Away.proxy.roots c.in-Away.next (take (length c.loop-bytes.rest.now - c.in-Away.used) (drop c.in-Away.used c.loop-bytes.rest.now)))
          (sym c.rid_of-rid.ensures)
          (subst (λ (rest : List ℕ). IsSeekingBelow g.D.Disk c.args.records.now c.piece_at.new.records c.args.disk.now c.piece_at.new.disk (place_of c.args.root) c.args.path.now (place_named c.in-Away.proxy) c.in-Away.proxy.roots c.in-Away.next rest) (sym left)
          (below_goes_on c.loop-bytes.invariant.0 c.in_ok-piece.piece c.in_ok-piece.ensures.ok c.in_ok-piece.ensures.stays.0 c.in_ok-piece.ensures.stays.1 c.piece_at.ensures.still c.piece_at.ensures.reads c.in_ok-piece.ensures.valid c.in-Away.proxy c.in-Away.index c.in-Away.next c.in-Away.used c.in-Away.ensures.0 c.in-Away.ensures.1)),
      λ keeps.
          let one = c.in_ok-pass_record-in-Away.ensures keeps c.in-Away.proxy c.in-Away.index c.in-Away.next c.in-Away.used refl in
          subst (λ (place : RecordPlace). HasPassed g.D.Disk c.args.records.now c.args.disk.now (place_of c.args.root) c.args.path.now place c.in-Away.next (take (length c.loop-bytes.rest.now - c.in-Away.used) (drop c.in-Away.used c.loop-bytes.rest.now)) c.pass_record.new.passed.items)
          (sym c.rid_of-rid.ensures)
          (subst (λ (rest : List ℕ). HasPassed g.D.Disk c.args.records.now c.args.disk.now (place_of c.args.root) c.args.path.now (place_named c.in-Away.proxy) c.in-Away.next rest c.pass_record.new.passed.items) (sym left)
          (passes_by c.loop-bytes.invariant.0.own c.in_ok-piece.piece c.in_ok-piece.ensures.ok (c.loop-bytes.invariant.1 keeps) c.pass_record.new.passed.items one.0 c.in-Away.proxy c.in-Away.next c.in-Away.used
          one.1 one.2 one.3 one.4 c.in_ok-piece.ensures.valid one.5)),
    )

pub returns-then-path-gt-DEEPEST-clause-refused : goal.returns-then-path-gt-DEEPEST-clause-refused
returns-then-path-gt-DEEPEST-clause-refused g c = (
  λ document h. too_deep c.args.path.now (tree_of document) h.laid.laid.is_document (let deep = c.if-path-gt-DEEPEST.true in omega (arith, deep)),
  sym c.is_ended.ensures ∙ c.if-is_ended.false,
  leaves_same refl,
)

pub returns-then-not-is_shown-clause-still : goal.returns-then-not-is_shown-clause-still
returns-then-not-is_shown-clause-still g c = still_then c.loop-bytes.invariant.0.own.still c.piece_at.ensures.still

pub returns-in_err-found-in-Here-clause-refused : goal.returns-in_err-found-in-Here-clause-refused
returns-in_err-found-in-Here-clause-refused g c =
    let p = err_from_is_err_and c.from_residual-in_err-found-in-Here.result c.from_residual-in_err-found-in-Here.ensures.1 in
    rw (p.1, p.2) (sym (c.loop-bytes.invariant.0.own.stays).ended_stays ∙ c.in_ok-piece.ensures.stays.0, leaves_add_up c.loop-bytes.invariant.0.own.stays c.in_ok-piece.ensures.stays.1)

pub returns-in_err-kind-in-Here-clause-refused : goal.returns-in_err-kind-in-Here-clause-refused
returns-in_err-kind-in-Here-clause-refused g c =
    let p = err_from_is_err_and c.from_residual-in_err-kind-in-Here.result c.from_residual-in_err-kind-in-Here.ensures.1 in
    rw (p.1, p.2)
    (child_refused c.loop-bytes.invariant.0 c.in_ok-piece.piece c.in_ok-piece.ensures.ok c.in_ok-piece.ensures.stays.0 c.in_ok-piece.ensures.stays.1 c.piece_at.ensures.still c.piece_at.ensures.reads c.in_ok-piece.ensures.valid (seen_tree c.in-Here.tree) c.in-Here.first c.in-Here.ensures.0
    c.kind_at.new.records c.kind_at.new.disk c.args.child (OfEach g.D.Disk c.args.records.now c.args.disk.now (place_of c.args.root) (λ document. at (tree_of document) c.args.path.now ≡ None)) c.in_err-kind-in-Here.field-0.0 c.in_err-kind-in-Here.ensures.refused)

pub returns-in_err-found-in-Here-clause-reads : goal.returns-in_err-found-in-Here-clause-reads
returns-in_err-found-in-Here-clause-reads g c = below_reads c.piece_at.new.disk c.loop-bytes.invariant.0 c.piece_at.ensures.reads c.args.child (let few = c.if-path-gt-DEEPEST.false in omega (arith, few))

pub returns-then-not-is_shown-clause-reads : goal.returns-then-not-is_shown-clause-reads
returns-then-not-is_shown-clause-reads g c = below_reads c.piece_at.new.disk c.loop-bytes.invariant.0 c.piece_at.ensures.reads c.args.child (let few = c.if-path-gt-DEEPEST.false in omega (arith, few))

pub returns-in-Nowhere-clause-reads : goal.returns-in-Nowhere-clause-reads
returns-in-Nowhere-clause-reads g c = below_reads c.piece_at.new.disk c.loop-bytes.invariant.0 c.piece_at.ensures.reads c.args.child (let few = c.if-path-gt-DEEPEST.false in omega (arith, few))

pub returns-in_err-piece-clause-reads : goal.returns-in_err-piece-clause-reads
returns-in_err-piece-clause-reads g c = below_reads c.piece_at.new.disk c.loop-bytes.invariant.0 c.piece_at.ensures.reads c.args.child (let few = c.if-path-gt-DEEPEST.false in omega (arith, few))

pub returns-in_err-kind-in-Here-clause-reads : goal.returns-in_err-kind-in-Here-clause-reads
returns-in_err-kind-in-Here-clause-reads g c =
    asked_reads c.loop-bytes.invariant.0 c.in_ok-piece.piece c.in_ok-piece.ensures.ok c.in_ok-piece.ensures.stays.0 c.in_ok-piece.ensures.stays.1 c.piece_at.ensures.still c.piece_at.ensures.reads c.in_ok-piece.ensures.valid (seen_tree c.in-Here.tree) c.in-Here.first c.in-Here.ensures.0
    c.kind_at.new.disk c.args.child (let few = c.if-path-gt-DEEPEST.false in omega (arith, few)) c.kind_at.ensures.reads

pub returns-in-Here-clause-reads : goal.returns-in-Here-clause-reads
returns-in-Here-clause-reads g c =
    asked_reads c.loop-bytes.invariant.0 c.in_ok-piece.piece c.in_ok-piece.ensures.ok c.in_ok-piece.ensures.stays.0 c.in_ok-piece.ensures.stays.1 c.piece_at.ensures.still c.piece_at.ensures.reads c.in_ok-piece.ensures.valid (seen_tree c.in-Here.tree) c.in-Here.first c.in-Here.ensures.0
    c.kind_at.new.disk c.args.child (let few = c.if-path-gt-DEEPEST.false in omega (arith, few)) c.kind_at.ensures.reads

pub returns-in_err-kind-in-Here-clause-still : goal.returns-in_err-kind-in-Here-clause-still
returns-in_err-kind-in-Here-clause-still g c = still_then c.loop-bytes.invariant.0.own.still (still_then c.piece_at.ensures.still c.kind_at.ensures.still)

pub returns-in-Here-clause-still : goal.returns-in-Here-clause-still
returns-in-Here-clause-still g c = still_then c.loop-bytes.invariant.0.own.still (still_then c.piece_at.ensures.still c.kind_at.ensures.still)

pub returns-in_err-route-in-Here-clause-refused : goal.returns-in_err-route-in-Here-clause-refused
returns-in_err-route-in-Here-clause-refused g c =
    let p = err_from_is_err_and c.from_residual-in_err-route-in-Here.result c.from_residual-in_err-route-in-Here.ensures.1 in
    rw (p.1, p.2) (sym (c.loop-bytes.invariant.0.own.stays).ended_stays ∙ c.in_ok-piece.ensures.stays.0, leaves_add_up c.loop-bytes.invariant.0.own.stays (leaves_add_up c.in_ok-piece.ensures.stays.1 c.in_ok-kind-in-Here.ensures.ok.0))

pub returns-in_err-route-in-Here-clause-reads : goal.returns-in_err-route-in-Here-clause-reads
returns-in_err-route-in-Here-clause-reads g c =
    asked_reads c.loop-bytes.invariant.0 c.in_ok-piece.piece c.in_ok-piece.ensures.ok c.in_ok-piece.ensures.stays.0 c.in_ok-piece.ensures.stays.1 c.piece_at.ensures.still c.piece_at.ensures.reads c.in_ok-piece.ensures.valid (seen_tree c.in-Here.tree) c.in-Here.first c.in-Here.ensures.0
    c.kind_at.new.disk c.args.child (let few = c.if-path-gt-DEEPEST.false in omega (arith, few)) c.kind_at.ensures.reads

pub returns-in_err-route-in-Here-clause-still : goal.returns-in_err-route-in-Here-clause-still
returns-in_err-route-in-Here-clause-still g c = still_then c.loop-bytes.invariant.0.own.still (still_then c.piece_at.ensures.still c.kind_at.ensures.still)

pub returns-in-Here-clause-route : goal.returns-in-Here-clause-route
returns-in-Here-clause-route g c = λ keeps.
    let r = c.in_ok-route-in-Here.ensures keeps in
    let to = passed_to c.loop-bytes.invariant.0.own c.in_ok-piece.piece c.in_ok-piece.ensures.ok (c.loop-bytes.invariant.1 keeps) (seen_tree c.in-Here.tree) c.in-Here.first c.in_ok-piece.ensures.valid c.in-Here.ensures.0 in
    (r.0, r.1, kept_route r.0 r.2 r.3 to.0 to.1)

pub returns-in_err-pass_record-in-Away-clause-still : goal.returns-in_err-pass_record-in-Away-clause-still
returns-in_err-pass_record-in-Away-clause-still g c = still_then c.loop-bytes.invariant.0.own.still c.piece_at.ensures.still

pub returns-in_err-pass_record-in-Away-clause-reads : goal.returns-in_err-pass_record-in-Away-clause-reads
returns-in_err-pass_record-in-Away-clause-reads g c = below_reads c.piece_at.new.disk c.loop-bytes.invariant.0 c.piece_at.ensures.reads c.args.child (let few = c.if-path-gt-DEEPEST.false in omega (arith, few))

pub returns-in_err-pass_record-in-Away-clause-refused : goal.returns-in_err-pass_record-in-Away-clause-refused
returns-in_err-pass_record-in-Away-clause-refused g c =
    let p = err_from_is_err_and c.from_residual-in_err-pass_record-in-Away.result c.from_residual-in_err-pass_record-in-Away.ensures.1 in
    rw (p.1, p.2) (sym (c.loop-bytes.invariant.0.own.stays).ended_stays ∙ c.in_ok-piece.ensures.stays.0, leaves_add_up c.loop-bytes.invariant.0.own.stays c.in_ok-piece.ensures.stays.1)
