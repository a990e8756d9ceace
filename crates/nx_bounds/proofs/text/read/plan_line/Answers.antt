use Rattle.std.proofs.Common.{◌≡◌, Option, IfOk, sym, subst, ◌∙◌}
use Rattle.nx_bounds.specs.declared.text.PlanLine.{PlanLine}
use Rattle.nx_bounds.proofs.PlanFields.{behind_some, behind_none, tested, word_alone, root_word, run_word, bound_word, other_word}
use Rattle.nx_bounds.proofs.text.read.plan_line.Goals as goal

pub returns-in_default : goal.returns-in_default
returns-in_default c = sym (word_alone c.args.line.now (behind_none c.args.line.now c.split_field.result.1 c.in_default.is c.split_field.ensures.behind))

pub returns-then-eq : goal.returns-then-eq
returns-then-eq c =
    let more = behind_some c.args.line.now c.split_field.result.1 c.in-Some.others c.in-Some.is c.split_field.ensures.behind in
    c.root_line.ensures
    ∙ sym (root_word c.args.line.now c.in-Some.others.now more (tested _ _ _ _ _ c.if-eq.ensures c.split_field.ensures.field c.as_slice.ensures))

pub returns-then-eq-2 : goal.returns-then-eq-2
returns-then-eq-2 c =
    let more = behind_some c.args.line.now c.split_field.result.1 c.in-Some.others c.in-Some.is c.split_field.ensures.behind in
    let is = run_word c.args.line.now c.in-Some.others.now more
    (tested _ _ _ _ _ c.if-eq.ensures c.split_field.ensures.field c.as_slice.ensures)
    (tested _ _ _ _ _ c.if-eq-2.ensures c.split_field.ensures.field c.as_slice-else-eq.ensures) in
    subst (λ (line : Option PlanLine). IfOk c.run_line.result (λ said. said ≡ line)) (sym is) c.run_line.ensures

pub returns-then-eq-3 : goal.returns-then-eq-3
returns-then-eq-3 c =
    let more = behind_some c.args.line.now c.split_field.result.1 c.in-Some.others c.in-Some.is c.split_field.ensures.behind in
    c.bound_line.ensures
    ∙ sym (bound_word c.args.line.now c.in-Some.others.now more
    (tested _ _ _ _ _ c.if-eq.ensures c.split_field.ensures.field c.as_slice.ensures)
    (tested _ _ _ _ _ c.if-eq-2.ensures c.split_field.ensures.field c.as_slice-else-eq.ensures)
    (tested _ _ _ _ _ c.if-eq-3.ensures c.split_field.ensures.field c.as_slice-else-eq-2.ensures))

pub returns-else-eq-3 : goal.returns-else-eq-3
returns-else-eq-3 c =
    let more = behind_some c.args.line.now c.split_field.result.1 c.in-Some.others c.in-Some.is c.split_field.ensures.behind in
    sym (other_word c.args.line.now c.in-Some.others.now more
    (tested _ _ _ _ _ c.if-eq.ensures c.split_field.ensures.field c.as_slice.ensures)
    (tested _ _ _ _ _ c.if-eq-2.ensures c.split_field.ensures.field c.as_slice-else-eq.ensures)
    (tested _ _ _ _ _ c.if-eq-3.ensures c.split_field.ensures.field c.as_slice-else-eq-2.ensures))
