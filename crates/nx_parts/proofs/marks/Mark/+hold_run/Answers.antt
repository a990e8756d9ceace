use Rattle.std.proofs.Common.{◌≡◌, ◌+◌, ◌<◌, ◌≤◌, length, Some, refl, arith}
use Rattle.std.specs.Prelude.{slice_get}
use Rattle.std.specs.Vec.{with_item}
use Rattle.std.proofs.lemmas.Option.{slice_get_read}
use Rattle.std.proofs.lemmas.Result.{on_ok_weaker, IfErr-weaker}
use Rattle.nx_parts.specs.declared.marks.Mark.{Mark, out-Mark}
use Rattle.nx_parts.specs.declared.marks.Mark.TheOpen.{Mark-F}
use Rattle.nx_parts.specs.declared.marks.Mark.TheViews.{roll-Mark}
use Rattle.nx_parts.specs.Partitioning.{is_child_path}
use Rattle.nx_parts.specs.Marks.{IsClash}
use Rattle.nx_parts.proofs.MarkLemmas.{next_rolled, grown-same, grown-room, run-holds, run-clashes}
use Rattle.nx_parts.proofs.marks.Mark.+hold_run.Goals as goal

pub returns-clause-ok : goal.returns-clause-ok
returns-clause-ok t c =
    let g : Mark-F Mark = record { holder = (out-Mark c.args.self.now).holder; below = c.grow.new.marks } in
    let items = (out-Mark (roll-Mark g)).below.items in
    let room : c.in-Some.position.now + 1 ≤ length items = grown-room g (c.in-Some.position.now + 1) c.in_ok-grow.ensures.len in
    let within : c.in-Some.position.now < length items = omega arith in
    let item : slice_get items c.in-Some.position.now ≡ Some c.index_mut.result.now = slice_get_read items (length items) c.in-Some.position.now c.index_mut.result.now refl within c.index_mut.ensures.value in
    on_ok_weaker c.hold_run.result
    (run-holds c.args.self.now (roll-Mark g) (grown-same c.args.self.now g refl c.grow.ensures.same) c.in-Some.position.now c.in-Some.path.now c.args.first c.args.last c.args.index c.args.parent.now
    c.in-Some.ensures.cases.0 _ c.index_mut.result.now c.hold_run.new.self
    (next_rolled (roll-Mark g) (record { holder = (out-Mark (roll-Mark g)).holder; below = with_item (out-Mark (roll-Mark g)).below c.in-Some.position.now c.hold_run.new.self })
    c.in-Some.position.now c.index_mut.result.now c.hold_run.new.self refl refl item))
    c.hold_run.ensures.ok

pub returns-clause-err : goal.returns-clause-err
returns-clause-err t c =
    let g : Mark-F Mark = record { holder = (out-Mark c.args.self.now).holder; below = c.grow.new.marks } in
    let items = (out-Mark (roll-Mark g)).below.items in
    let room : c.in-Some.position.now + 1 ≤ length items = grown-room g (c.in-Some.position.now + 1) c.in_ok-grow.ensures.len in
    let within : c.in-Some.position.now < length items = omega arith in
    let item : slice_get items c.in-Some.position.now ≡ Some c.index_mut.result.now = slice_get_read items (length items) c.in-Some.position.now c.index_mut.result.now refl within c.index_mut.ensures.value in
    IfErr-weaker c.hold_run.result (IsClash (is_child_path c.in-Some.path.now c.args.first c.args.last) c.args.index c.index_mut.result.now) (IsClash (is_child_path c.args.parent.now c.args.first c.args.last) c.args.index c.args.self.now)
    (λ error h. run-clashes c.args.self.now (roll-Mark g) (grown-same c.args.self.now g refl c.grow.ensures.same) c.in-Some.position.now c.in-Some.path.now c.args.first c.args.last c.args.index c.args.parent.now
    c.in-Some.ensures.cases.0 c.index_mut.result.now error item h)
    c.hold_run.ensures.err
