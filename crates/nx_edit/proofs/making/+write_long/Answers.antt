use Rattle.std.proofs.Common.{◌≡◌, ◌<◌, length, sym, ap, ◌∙◌, arith}
use Rattle.std.proofs.lemmas.Result.{err_from_is_err_and, on_ok_weaker, IfErr-weaker}
use Rattle.nx_records.specs.declared.error.StoreError.{StoreError}
use Rattle.nx_records.proofs.RefusalLemmas.{err_passed}
use Rattle.nx_piece.specs.Gapped.{GappedTree, End, Grow, item_count}
use Rattle.nx_piece.specs.Items.{gapped_of}
use Rattle.nx_edit.proofs.LongLemmas.{IsThereLong}
use Rattle.nx_edit.proofs.LongCalls.{IsUnwritten, below_refused, below_written, child_falls, child_is, child_small, child_some, no_run, own_refused, own_written, there_below}
use Rattle.nx_edit.proofs.making.+write_long.Goals as goal

pub returns-in_err-first-clause-refused : goal.returns-in_err-first-clause-refused
returns-in_err-first-clause-refused g t c =
    err_passed c.from_residual.result (λ (e : StoreError). IsUnwritten g.D.Disk e c.args.records.now c.write_list.new.self c.args.disk.now c.write_list.new.disk (Grow c.args.tree.now.node c.args.tree.now.below End))
    c.in_err-first.field-0.0 (err_from_is_err_and c.from_residual.result c.from_residual.ensures.1)
    (own_refused g.D.Disk c.args.records.now c.write_list.new.self c.args.disk.now c.write_list.new.disk (record { node = record { node = c.tree.inside.node; far = c.tree.inside.far }; below = c.tree.inside.children }) c.args.tree.now
    c.as_slice.result.now c.tree.view_is (sym c.needs_list.ensures ∙ c.if-needs_list.true) c.as_slice.ensures c.in_err-first.field-0.0 c.in_err-first.ensures.refused)

pub returns-then-needs_list-clause-ok : goal.returns-then-needs_list-clause-ok
returns-then-needs_list-clause-ok g t c =
    own_written g.D.Disk c.args.records.now c.write_list.new.self c.args.disk.now c.write_list.new.disk (record { node = record { node = c.tree.inside.node; far = c.tree.inside.far }; below = c.tree.inside.children }) c.args.tree.now
    c.as_slice.result.now c.tree.view_is (sym c.needs_list.ensures ∙ c.if-needs_list.true) c.as_slice.ensures c.in_ok-first.first c.len-length.result c.new.result c.len-length.ensures c.new.ensures c.in_ok-first.ensures.ok

pub index_mut-requires : goal.index_mut-requires
index_mut-requires g t c =
    let there : IsThereLong c.into_vec-items.result.items c.in-Some.index =
    there_below c.tree.inside.children c.as_slice-2.result.now c.into_vec-items.result.items c.in-Some.index c.as_slice-2.ensures (c.into_vec-items.ensures ∙ c.replace.ensures.value) c.in-Some.ensures in
    let within : c.in-Some.index < length c.into_vec-items.result.items = there.within in
    omega (arith, within)

pub write_long-done-requires : goal.write_long-done-requires
write_long-done-requires g t c κs within =
    let whole : gapped_of c.into_vec-items.result.items ≡ c.tree.inside.children = c.into_vec-items.ensures ∙ c.replace.ensures.value in
    let all : gapped_of c.into_vec-items.result.items ≡ c.args.tree.now.below = whole ∙ ap (λ (t : GappedTree). t.below) c.tree.view_is in
    let there : IsThereLong c.into_vec-items.result.items c.in-Some.index = there_below c.tree.inside.children c.as_slice-2.result.now c.into_vec-items.result.items c.in-Some.index c.as_slice-2.ensures whole c.in-Some.ensures in
    let is : c.in-Tree.child ≡ there.tree = child_is there c.index_mut.result.now c.index_mut.ensures.value c.in-Tree.child c.in-Tree.is in
    let falls : item_count c.in-Tree.child.below < item_count c.args.tree.now.below = child_falls there c.in-Tree.child is c.args.tree.now.below all in (
      omega (arith, falls),
      (within, (c.requires.runs, (child_some there c.in-Tree.child is, child_small there c.in-Tree.child is c.args.tree.now all c.requires.small))),
    )

pub unreachable-requires-in-Run : goal.unreachable-requires-in-Run
unreachable-requires-in-Run g t c =
    let whole : gapped_of c.into_vec-items.result.items ≡ c.tree.inside.children = c.into_vec-items.ensures ∙ c.replace.ensures.value in
    let there : IsThereLong c.into_vec-items.result.items c.in-Some.index = there_below c.tree.inside.children c.as_slice-2.result.now c.into_vec-items.result.items c.in-Some.index c.as_slice-2.ensures whole c.in-Some.ensures in
    no_run there c.index_mut.result.now c.index_mut.ensures.value c.in-Run.count c.in-Run.is

pub returns-clause-ok : goal.returns-clause-ok
returns-clause-ok g t c =
    let whole : gapped_of c.into_vec-items.result.items ≡ c.tree.inside.children = c.into_vec-items.ensures ∙ c.replace.ensures.value in
    let all : gapped_of c.into_vec-items.result.items ≡ c.args.tree.now.below = whole ∙ ap (λ (t : GappedTree). t.below) c.tree.view_is in
    let there : IsThereLong c.into_vec-items.result.items c.in-Some.index = there_below c.tree.inside.children c.as_slice-2.result.now c.into_vec-items.result.items c.in-Some.index c.as_slice-2.ensures whole c.in-Some.ensures in
    let is : c.in-Tree.child ≡ there.tree = child_is there c.index_mut.result.now c.index_mut.ensures.value c.in-Tree.child c.in-Tree.is in
    on_ok_weaker c.write_long-done.result
    (below_written there c.in-Tree.child is g.D.Disk c.args.records.now c.write_long-done.new.records c.args.disk.now c.write_long-done.new.disk (record { node = record { node = c.tree.inside.node; far = c.tree.inside.far }; below = c.tree.inside.children }) c.args.tree.now c.tree.view_is
    (sym c.needs_list.ensures ∙ c.if-needs_list.false) all c.write_long-done.new.tree c.from_vec.result c.from_vec.ensures) c.write_long-done.ensures.ok

pub returns-clause-refused : goal.returns-clause-refused
returns-clause-refused g t c =
    let whole : gapped_of c.into_vec-items.result.items ≡ c.tree.inside.children = c.into_vec-items.ensures ∙ c.replace.ensures.value in
    let all : gapped_of c.into_vec-items.result.items ≡ c.args.tree.now.below = whole ∙ ap (λ (t : GappedTree). t.below) c.tree.view_is in
    let there : IsThereLong c.into_vec-items.result.items c.in-Some.index = there_below c.tree.inside.children c.as_slice-2.result.now c.into_vec-items.result.items c.in-Some.index c.as_slice-2.ensures whole c.in-Some.ensures in
    let is : c.in-Tree.child ≡ there.tree = child_is there c.index_mut.result.now c.index_mut.ensures.value c.in-Tree.child c.in-Tree.is in
    IfErr-weaker c.write_long-done.result (λ (e : StoreError). IsUnwritten g.D.Disk e c.args.records.now c.write_long-done.new.records c.args.disk.now c.write_long-done.new.disk (Grow c.in-Tree.child.node c.in-Tree.child.below End))
    (λ (e : StoreError). IsUnwritten g.D.Disk e c.args.records.now c.write_long-done.new.records c.args.disk.now c.write_long-done.new.disk (Grow c.args.tree.now.node c.args.tree.now.below End))
    (below_refused there c.in-Tree.child is g.D.Disk c.args.records.now c.write_long-done.new.records c.args.disk.now c.write_long-done.new.disk (record { node = record { node = c.tree.inside.node; far = c.tree.inside.far }; below = c.tree.inside.children }) c.args.tree.now c.tree.view_is
    (sym c.needs_list.ensures ∙ c.if-needs_list.false) all) c.write_long-done.ensures.refused
