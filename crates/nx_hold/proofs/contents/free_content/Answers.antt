use Rattle.std.proofs.Common.{◌≡◌, Some, sym, ap, ◌∙◌}
use Rattle.nx_records.specs.declared.error.StoreError.{StoreError}
use Rattle.nx_records.proofs.StandLemmas.{on_ok_then, if_err_then}
use Rattle.nx_piece.specs.Gapped.{GappedTree}
use Rattle.nx_hold.proofs.NodeLemmas.{far_freed, far_freed_alone, far_not_changed}
use Rattle.nx_hold.proofs.contents.free_content.Goals as goal

pub returns-in-Some-clause-ok : goal.returns-in-Some-clause-ok
returns-in-Some-clause-ok g c =
    let is : c.args.at.now.node.far ≡ Some c.in-Some.far = sym (ap (λ (t : GappedTree). t.node.far) c.at.view_is) ∙ c.in-Some.is in
    on_ok_then c.free_far.result c.free_far.ensures.ok (λ comes. far_freed c.args.at.now.node c.in-Some.far is g.D.Disk c.args.records.now c.free_far.new.records c.args.disk.now c.free_far.new.disk comes)

pub returns-in-Some-clause-own : goal.returns-in-Some-clause-own
returns-in-Some-clause-own g c =
    let is : c.args.at.now.node.far ≡ Some c.in-Some.far = sym (ap (λ (t : GappedTree). t.node.far) c.at.view_is) ∙ c.in-Some.is in
    on_ok_then c.free_far.result c.free_far.ensures.own (λ comes. far_freed_alone c.args.at.now.node c.in-Some.far is g.D.Disk c.args.records.now c.free_far.new.records c.args.disk.now c.free_far.new.disk comes)

pub returns-in-Some-clause-refused : goal.returns-in-Some-clause-refused
returns-in-Some-clause-refused g c =
    let is : c.args.at.now.node.far ≡ Some c.in-Some.far = sym (ap (λ (t : GappedTree). t.node.far) c.at.view_is) ∙ c.in-Some.is in
    if_err_then c.free_far.result c.free_far.ensures.refused
    (λ (e : StoreError) refused. far_not_changed c.args.at.now.node c.in-Some.far is g.D.Disk c.args.records.now c.free_far.new.records c.args.disk.now c.free_far.new.disk e refused)
