use Rattle.std.proofs.Common.{◌≡◌, ◌+◌, ◌<◌, [], length, Some, refl, arith}
use Rattle.std.specs.Prelude.{slice_get}
use Rattle.std.specs.Vec.{with_item}
use Rattle.std.proofs.lemmas.Option.{slice_get_read}
use Rattle.std.proofs.lemmas.Result.{err_from_is_err_and}
use Rattle.nx_parts.specs.declared.marks.Mark.{out-Mark}
use Rattle.nx_parts.specs.Partitioning.{is_child_path}
use Rattle.nx_parts.specs.Marks.{IsClash}
use Rattle.nx_parts.proofs.MarkLemmas.{err_passed, next_rolled, children-begin, children-more, children-end, children-clash}
use Rattle.nx_parts.proofs.marks.Mark.hold_children.Goals as goal

pub loop-position-init : goal.loop-position-init
loop-position-init c =
    children-begin c.args.first (c.args.last + 1) c.args.index c.args.self.now (record { holder = (out-Mark c.args.self.now).holder; below = c.grow.new.marks }) refl c.grow.ensures.same
    c.in_ok-grow.ensures.len

pub returns-in_err-hold-clause-err : goal.returns-in_err-hold-clause-err
returns-in_err-hold-clause-err c =
    let items = (out-Mark c.loop-position.self).below.items in
    let room = c.loop-position.invariant.room in
    let within : c.loop-position.position < length items = omega arith in
    let item : slice_get items c.loop-position.position ≡ Some c.index_mut.result.now = slice_get_read items (length items) c.loop-position.position c.index_mut.result.now refl within c.index_mut.ensures.value in
    err_passed c.from_residual-in_err-hold.result (IsClash (is_child_path [] c.args.first c.args.last) c.args.index c.args.self.now) _
    (err_from_is_err_and c.from_residual-in_err-hold.result c.from_residual-in_err-hold.ensures.1)
    (children-clash c.args.first c.args.last c.loop-position.position (c.args.last + 1) c.args.index c.args.self.now c.loop-position.self c.index_mut.result.now _
    c.loop-position.invariant refl c.loop-position-test.true item c.in_err-hold.ensures.err)

pub loop-position-preserved : goal.loop-position-preserved
loop-position-preserved c =
    let items = (out-Mark c.loop-position.self).below.items in
    let room = c.loop-position.invariant.room in
    let within : c.loop-position.position < length items = omega arith in
    let item : slice_get items c.loop-position.position ≡ Some c.index_mut.result.now = slice_get_read items (length items) c.loop-position.position c.index_mut.result.now refl within c.index_mut.ensures.value in
    children-more c.args.first c.loop-position.position (c.args.last + 1) c.args.index c.args.self.now c.loop-position.self _ c.index_mut.result.now c.hold.new.self
    c.loop-position.invariant c.loop-position-test.true
    (next_rolled c.loop-position.self (record { holder = (out-Mark c.loop-position.self).holder; below = with_item (out-Mark c.loop-position.self).below c.loop-position.position c.hold.new.self })
    c.loop-position.position c.index_mut.result.now c.hold.new.self refl refl item)
    c.in_ok-hold.ensures.ok

pub returns-clause-ok : goal.returns-clause-ok
returns-clause-ok c =
    children-end c.args.first c.args.last c.loop-position.position (c.args.last + 1) c.args.index c.args.self.now c.loop-position.self c.loop-position.invariant refl c.loop-position-test.false
