use Rattle.std.proofs.Common.{◌≡◌, ℕ, List, Some, sym, ap, ◌∙◌}
use Rattle.nx_records.specs.declared.error.StoreError.{StoreError}
use Rattle.nx_records.proofs.StandLemmas.{if_ok_then, if_err_then}
use Rattle.nx_piece.specs.Gapped.{GappedTree}
use Rattle.nx_hold.proofs.NodeLemmas.{far_content_is, far_not_read}
use Rattle.nx_hold.proofs.contents.content.Goals as goal

pub returns-in-Some-clause-ok : goal.returns-in-Some-clause-ok
returns-in-Some-clause-ok g c =
    let is : c.args.at.now.node.far ≡ Some c.in-Some.far = sym (ap (λ (t : GappedTree). t.node.far) c.at.view_is) ∙ c.in-Some.is in
    if_ok_then c.far_content.result c.far_content.ensures.ok
    (λ (bytes : List ℕ) read. (read.0, read.1, λ saved now stands held content. read.2 saved now stands held (far_content_is c.args.at.now.node c.in-Some.far is now held content)))

pub returns-in-Some-clause-refused : goal.returns-in-Some-clause-refused
returns-in-Some-clause-refused g c =
    let is : c.args.at.now.node.far ≡ Some c.in-Some.far = sym (ap (λ (t : GappedTree). t.node.far) c.at.view_is) ∙ c.in-Some.is in
    if_err_then c.far_content.result c.far_content.ensures.refused
    (λ (e : StoreError) refused. far_not_read c.args.at.now.node c.in-Some.far is g.D.Disk c.args.records.now c.far_content.new.records c.args.disk.now c.far_content.new.disk e refused)
