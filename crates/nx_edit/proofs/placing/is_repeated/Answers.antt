use Rattle.std.proofs.Common.{sym, ap₂, ◌∙◌, arith}
use Rattle.std.specs.Str.{bytes_eq}
use Rattle.std.proofs.lemmas.Result.{err_from_is_err_and}
use Rattle.nx_cuts.specs.Cut.{tree_of}
use Rattle.nx_hold.specs.Changes.{place_of}
use Rattle.nx_nav.specs.declared.error.NavError.{NavError}
use Rattle.nx_nav.specs.Refusals.{OfEach, HoldsNoDocument, IsRefused}
use Rattle.nx_edit.specs.Inserting.{OfParent}
use Rattle.nx_edit.proofs.DeleteLemmas.{handed_on}
use Rattle.nx_edit.proofs.PlaceLemmas.{child_refused, looking_first, looking_last, leaves_more, looking_none, looking_this, looking_more}
use Rattle.nx_edit.proofs.placing.is_repeated.Goals as goal

pub loop-position-init : goal.loop-position-init
loop-position-init g c = looking_first g.D.Disk (place_of c.args.root) c.args.node.now.name c.args.parent.now c.args.children c.args.records.now c.args.disk.now

pub returns-in_err-other-clause-refused : goal.returns-in_err-other-clause-refused
returns-in_err-other-clause-refused g c =
    handed_on c.from_residual.result
    (λ (e : NavError). IsRefused g.D.Disk (OfEach g.D.Disk c.args.records.now c.args.disk.now (place_of c.args.root) (λ document. OfParent (tree_of document) c.args.parent.now c.args.children (λ t. ⊥))) ⊥
    (HoldsNoDocument g.D.Disk c.args.records.now c.args.disk.now (place_of c.args.root)) e c.args.records.now c.child_at.new.records c.args.disk.now c.child_at.new.disk)
    c.in_err-other.field-0.0 (err_from_is_err_and c.from_residual.result c.from_residual.ensures.1)
    (child_refused g.D.Disk (place_of c.args.root) c.args.parent.now c.args.children c.loop-position.position {r0 = c.args.records.now} {r1 = c.loop-position.records} c.loop-position.invariant.leaves c.loop-position.invariant.still c.requires.runs
    c.loop-position-test.true c.child_at.new.records c.child_at.new.disk c.in_err-other.field-0.0 c.in_err-other.ensures.refused)

pub returns-then-not-is_attribute-2-clause-ok : goal.returns-then-not-is_attribute-2-clause-ok
returns-then-not-is_attribute-2-clause-ok g c = (
  leaves_more g.D.Disk (place_of c.args.root) c.args.node.now c.args.parent.now c.args.children c.loop-position.position c.args.records.now c.loop-position.records c.args.disk.now c.loop-position.disk c.loop-position.invariant (sym c.is_attribute.ensures ∙ c.if-not-is_attribute.false)
      c.child_at.new.records c.child_at.new.disk c.in_ok-other.other c.in_ok-other.ensures.ok.0 c.in_ok-other.ensures.ok.1,
  looking_none g.D.Disk (place_of c.args.root) c.args.node.now c.args.parent.now c.args.children c.loop-position.position c.args.records.now c.loop-position.records c.args.disk.now c.loop-position.disk c.loop-position.invariant (sym c.is_attribute.ensures ∙ c.if-not-is_attribute.false)
      c.child_at.new.records c.child_at.new.disk c.in_ok-other.other c.in_ok-other.ensures.ok.0 c.in_ok-other.ensures.ok.1
      (sym c.is_attribute-in-loop-position.ensures ∙ c.if-not-is_attribute-2.true),
)

pub returns-then-eq-clause-ok : goal.returns-then-eq-clause-ok
returns-then-eq-clause-ok g c = (
  leaves_more g.D.Disk (place_of c.args.root) c.args.node.now c.args.parent.now c.args.children c.loop-position.position c.args.records.now c.loop-position.records c.args.disk.now c.loop-position.disk c.loop-position.invariant (sym c.is_attribute.ensures ∙ c.if-not-is_attribute.false)
      c.child_at.new.records c.child_at.new.disk c.in_ok-other.other c.in_ok-other.ensures.ok.0 c.in_ok-other.ensures.ok.1,
  looking_this g.D.Disk (place_of c.args.root) c.args.node.now c.args.parent.now c.args.children c.loop-position.position c.args.records.now c.loop-position.records c.args.disk.now c.loop-position.disk c.loop-position.invariant (sym c.is_attribute.ensures ∙ c.if-not-is_attribute.false)
      c.child_at.new.records c.child_at.new.disk c.in_ok-other.other c.in_ok-other.ensures.ok.0 c.in_ok-other.ensures.ok.1
      (sym c.is_attribute-in-loop-position.ensures ∙ c.if-not-is_attribute-2.false) (sym (c.if-eq.ensures ∙ ap₂ bytes_eq c.as_slice.ensures c.as_slice-in-loop-position.ensures)),
)

pub loop-position-preserved : goal.loop-position-preserved
loop-position-preserved g c =
    looking_more g.D.Disk (place_of c.args.root) c.args.node.now c.args.parent.now c.args.children c.loop-position.position c.args.records.now c.loop-position.records c.args.disk.now c.loop-position.disk c.loop-position.invariant (sym c.is_attribute.ensures ∙ c.if-not-is_attribute.false)
    c.child_at.new.records c.child_at.new.disk c.in_ok-other.other c.in_ok-other.ensures.ok.0 c.in_ok-other.ensures.ok.1
    (sym c.is_attribute-in-loop-position.ensures ∙ c.if-not-is_attribute-2.false) (sym (c.if-eq.ensures ∙ ap₂ bytes_eq c.as_slice.ensures c.as_slice-in-loop-position.ensures)) c.child_at.ensures.still c.loop-position-test.true

pub returns-clause-ok : goal.returns-clause-ok
returns-clause-ok g c = (
  c.loop-position.invariant.leaves,
  looking_last g.D.Disk (place_of c.args.root) c.args.node.now c.args.parent.now c.args.children c.loop-position.position c.args.records.now c.loop-position.records c.args.disk.now c.loop-position.disk c.loop-position.invariant (sym c.is_attribute.ensures ∙ c.if-not-is_attribute.false)
      (let end = c.loop-position-test.false in omega (arith, end)),
)
