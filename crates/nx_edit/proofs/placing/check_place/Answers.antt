use Rattle.std.proofs.Common.{◌≡◌, ℕ, ◌-◌, sym, ap, ◌∙◌, subst}
use Rattle.nx_cuts.specs.Cut.{tree_of}
use Rattle.nx_nav.specs.Shows.{kind_below}
use Rattle.nx_edit.specs.declared.error.EditError.{EditError}
use Rattle.nx_edit.specs.Refusals.{seen_error, NotEdited}
use Rattle.nx_edit.specs.Inserting.{is_of_insertion, place_fault}
use Rattle.nx_edit.proofs.PlaceLemmas.{order_told}
use Rattle.nx_edit.proofs.CheckLemmas.{parent_refused, outside_refused, look_refused, unordered_refused, ordered_there, first_free, repeated_refused, place_free}
use Rattle.nx_edit.proofs.ToldLemmas.{told_so}
use Rattle.nx_edit.proofs.placing.check_place.Goals as goal

pub returns-in-Err-clause-refused : goal.returns-in-Err-clause-refused
returns-in-Err-clause-refused g c =
    told_so (seen_error c.in-Err.error) (λ (e : EditError). NotEdited g.D.Disk is_of_insertion (place_fault c.args.node.now c.args.position c.args.parent.now) (λ document layout. 0) c.args.entry e c.args.records.now c.get_route.new.records c.args.disk.now c.get_route.new.disk)
    c.seen_error.result c.seen_error.ensures
    (parent_refused g.D.Disk c.args.entry c.args.node.now c.args.position c.args.parent.now c.args.records.now c.args.disk.now c.get_route.new.records c.get_route.new.disk c.get_route.ensures.still c.in-Err.error c.in-Err.ensures.refused)

pub returns-then-is_outside-clause-refused : goal.returns-then-is_outside-clause-refused
returns-then-is_outside-clause-refused g c =
    outside_refused g.D.Disk c.args.entry c.args.node.now c.args.position c.args.parent.now c.args.records.now c.args.disk.now c.requires c.in-Ok.found.shown (λ document has. (c.in-Ok.ensures.ok.2 document has).0) c.get_route.new.records c.get_route.new.disk c.in-Ok.ensures.ok.1 c.get_route.ensures.still (sym c.is_outside.ensures.is ∙ c.if-is_outside.true)

pub returns-then-is_unordered-clause-refused : goal.returns-then-is_unordered-clause-refused
returns-then-is_unordered-clause-refused g c =
    unordered_refused g.D.Disk c.args.entry c.args.node.now c.args.position c.args.parent.now c.args.records.now c.args.disk.now c.requires c.in-Ok.found.shown (λ document has. (c.in-Ok.ensures.ok.2 document has).0) c.get_route.new.records c.get_route.new.disk c.in-Ok.ensures.ok.1 c.get_route.ensures.still
    (sym c.is_outside.ensures.is ∙ c.if-is_outside.false) c.is_unordered.result (λ document has.
    order_told c.args.node.now.kind c.args.position c.neighbour-asked.result c.in-Ok.found.kind c.is_unordered.result c.neighbour-asked.ensures.before c.neighbour-asked.ensures.there c.is_unordered.ensures.first c.is_unordered.ensures.later c.is_unordered.ensures.other (tree_of document) c.args.parent.now
    ((has.laid).laid).is_document (c.in-Ok.ensures.ok.2 document has).1 c.in-Ok.found.shown.children (c.is_outside.ensures.within c.if-is_outside.false)) c.if-is_unordered.true

pub returns-in-Err-is_repeated-clause-refused : goal.returns-in-Err-is_repeated-clause-refused
returns-in-Err-is_repeated-clause-refused g c =
    told_so (seen_error c.in-Err-is_repeated.error) (λ (e : EditError). NotEdited g.D.Disk is_of_insertion (place_fault c.args.node.now c.args.position c.args.parent.now) (λ document layout. 0) c.args.entry e c.args.records.now c.is_repeated.new.records c.args.disk.now c.is_repeated.new.disk)
    c.seen_error-in-Err-is_repeated.result c.seen_error-in-Err-is_repeated.ensures
    (look_refused g.D.Disk c.args.entry c.args.node.now c.args.position c.args.parent.now c.args.records.now c.args.disk.now c.requires c.in-Ok.found.shown (λ document has. (c.in-Ok.ensures.ok.2 document has).0) c.get_route.new.records c.get_route.new.disk c.in-Ok.ensures.ok.1 c.get_route.ensures.still c.is_repeated.new.records c.is_repeated.new.disk c.is_repeated.ensures.still c.in-Err-is_repeated.error c.in-Err-is_repeated.ensures.refused)

pub returns-then-repeated-clause-refused : goal.returns-then-repeated-clause-refused
returns-then-repeated-clause-refused g c =
    repeated_refused g.D.Disk c.args.entry c.args.node.now c.args.position c.args.parent.now c.args.records.now c.args.disk.now c.requires c.in-Ok.found.shown (λ document has. (c.in-Ok.ensures.ok.2 document has).0) c.get_route.new.records c.get_route.new.disk c.in-Ok.ensures.ok.1 c.get_route.ensures.still (sym c.is_outside.ensures.is ∙ c.if-is_outside.false)
    (ordered_there g.D.Disk c.args.entry c.args.node.now c.args.position c.args.parent.now c.args.records.now c.args.disk.now c.requires c.in-Ok.found.shown (λ document has. (c.in-Ok.ensures.ok.2 document has).0) c.get_route.new.records c.get_route.new.disk c.in-Ok.ensures.ok.1 c.get_route.ensures.still
    (sym c.is_outside.ensures.is ∙ c.if-is_outside.false) c.is_unordered.result (λ document has.
    order_told c.args.node.now.kind c.args.position c.neighbour-asked.result c.in-Ok.found.kind c.is_unordered.result c.neighbour-asked.ensures.before c.neighbour-asked.ensures.there c.is_unordered.ensures.first c.is_unordered.ensures.later c.is_unordered.ensures.other (tree_of document) c.args.parent.now
    ((has.laid).laid).is_document (c.in-Ok.ensures.ok.2 document has).1 c.in-Ok.found.shown.children (c.is_outside.ensures.within c.if-is_outside.false)) c.if-is_unordered.false)
    c.is_repeated.new.records c.is_repeated.new.disk c.in-Ok-is_repeated.ensures.ok.0 c.is_repeated.ensures.still c.in-Ok-is_repeated.repeated c.in-Ok-is_repeated.ensures.ok.1 c.if-repeated.true

pub returns-clause-ok : goal.returns-clause-ok
returns-clause-ok g c =
    place_free g.D.Disk c.args.entry c.args.node.now c.args.position c.args.parent.now c.args.records.now c.args.disk.now c.requires c.in-Ok.found.shown (λ document has. (c.in-Ok.ensures.ok.2 document has).0) c.get_route.new.records c.get_route.new.disk c.in-Ok.ensures.ok.1 c.get_route.ensures.still (sym c.is_outside.ensures.is ∙ c.if-is_outside.false)
    (ordered_there g.D.Disk c.args.entry c.args.node.now c.args.position c.args.parent.now c.args.records.now c.args.disk.now c.requires c.in-Ok.found.shown (λ document has. (c.in-Ok.ensures.ok.2 document has).0) c.get_route.new.records c.get_route.new.disk c.in-Ok.ensures.ok.1 c.get_route.ensures.still
    (sym c.is_outside.ensures.is ∙ c.if-is_outside.false) c.is_unordered.result (λ document has.
    order_told c.args.node.now.kind c.args.position c.neighbour-asked.result c.in-Ok.found.kind c.is_unordered.result c.neighbour-asked.ensures.before c.neighbour-asked.ensures.there c.is_unordered.ensures.first c.is_unordered.ensures.later c.is_unordered.ensures.other (tree_of document) c.args.parent.now
    ((has.laid).laid).is_document (c.in-Ok.ensures.ok.2 document has).1 c.in-Ok.found.shown.children (c.is_outside.ensures.within c.if-is_outside.false)) c.if-is_unordered.false)
    c.is_repeated.new.records c.is_repeated.new.disk c.in-Ok-is_repeated.ensures.ok.0 c.is_repeated.ensures.still c.in-Ok-is_repeated.repeated c.in-Ok-is_repeated.ensures.ok.1 c.if-repeated.false

pub returns-then-is_first_attribute-clause-ok : goal.returns-then-is_first_attribute-clause-ok
returns-then-is_first_attribute-clause-ok g c =
    let first = c.is_first_attribute.ensures c.if-is_first_attribute.true in
    let asked : c.neighbour-asked.result ≡ 0 = c.neighbour-asked.ensures.before first.0 ∙ ap (λ (n : ℕ). n - 1) first.1 in
    first_free g.D.Disk c.args.entry c.args.node.now c.args.position c.args.parent.now c.args.records.now c.args.disk.now c.requires c.in-Ok.found.shown (λ document has. (c.in-Ok.ensures.ok.2 document has).0) c.get_route.new.records c.get_route.new.disk c.in-Ok.ensures.ok.1 c.get_route.ensures.still (sym c.is_outside.ensures.is ∙ c.if-is_outside.false)
    (ordered_there g.D.Disk c.args.entry c.args.node.now c.args.position c.args.parent.now c.args.records.now c.args.disk.now c.requires c.in-Ok.found.shown (λ document has. (c.in-Ok.ensures.ok.2 document has).0) c.get_route.new.records c.get_route.new.disk c.in-Ok.ensures.ok.1 c.get_route.ensures.still
    (sym c.is_outside.ensures.is ∙ c.if-is_outside.false) c.is_unordered.result (λ document has.
    order_told c.args.node.now.kind c.args.position c.neighbour-asked.result c.in-Ok.found.kind c.is_unordered.result c.neighbour-asked.ensures.before c.neighbour-asked.ensures.there c.is_unordered.ensures.first c.is_unordered.ensures.later c.is_unordered.ensures.other (tree_of document) c.args.parent.now
    ((has.laid).laid).is_document (c.in-Ok.ensures.ok.2 document has).1 c.in-Ok.found.shown.children (c.is_outside.ensures.within c.if-is_outside.false)) c.if-is_unordered.false)
    first.0 c.in-Ok.found.kind (λ document has. subst (λ (n : ℕ). c.in-Ok.found.kind ≡ kind_below (tree_of document) c.args.parent.now n) asked (c.in-Ok.ensures.ok.2 document has).1) first.2
