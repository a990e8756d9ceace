use Rattle.std.proofs.Common.{◌≡◌, List, ℕ, ap, subst, sym, ◌∙◌, get_or}
use Rattle.nx_matrix.specs.declared.rule.Rule.{Rule}
use Rattle.nx_matrix.specs.Label.{label, behind_mark}
use Rattle.nx_matrix.specs.Rules.{AreRules, IsRuleAt, IsGap}
use Rattle.nx_matrix.proofs.EntryLemmas.{at_before, entry_at, entry_none, gap_none}
use Rattle.nx_matrix.proofs.matrix.Matrix.entry.Goals as goal

pub returns-in-Ok : goal.returns-in-Ok
returns-in-Ok c =
    let rules = c.args.self.now in
    let are : AreRules rules = subst AreRules c.self.view_is c.self.invariant in
    let parent : behind_mark c.mark_of.result c.unmarked.result.now ≡ label c.args.parent.now = ap (λ m. behind_mark m c.unmarked.result.now) c.mark_of.ensures ∙ c.unmarked.ensures in
    let child : behind_mark c.mark_of-2.result c.unmarked-2.result.now ≡ label c.args.child.now = ap (λ m. behind_mark m c.unmarked-2.result.now) c.mark_of-2.ensures ∙ c.unmarked-2.ensures in
    let is_at : IsRuleAt rules (label c.args.parent.now, label c.args.child.now) c.in-Ok.place = subst (λ (x : List ℕ). IsRuleAt rules (x, label c.args.child.now) c.in-Ok.place) parent (subst (λ (y : List ℕ). IsRuleAt rules (behind_mark c.mark_of.result c.unmarked.result.now, y) c.in-Ok.place) child c.in-Ok.ensures.found) in
    ap (λ (r : Rule). r.entry) (c.index.ensures ∙ ap (λ (rs : List Rule). get_or rs c.in-Ok.place c.index.result.now) c.self.view_is)
    ∙ sym (entry_at rules (label c.args.parent.now) (label c.args.child.now) c.in-Ok.place c.index.result.now is_at (at_before rules (label c.args.parent.now, label c.args.child.now) c.in-Ok.place are is_at))

pub returns-in-Err : goal.returns-in-Err
returns-in-Err c =
    let rules = c.args.self.now in
    let parent : behind_mark c.mark_of.result c.unmarked.result.now ≡ label c.args.parent.now = ap (λ m. behind_mark m c.unmarked.result.now) c.mark_of.ensures ∙ c.unmarked.ensures in
    let child : behind_mark c.mark_of-2.result c.unmarked-2.result.now ≡ label c.args.child.now = ap (λ m. behind_mark m c.unmarked-2.result.now) c.mark_of-2.ensures ∙ c.unmarked-2.ensures in
    let gap : IsGap rules (label c.args.parent.now, label c.args.child.now) c.in-Err.field-0 = subst (λ (x : List ℕ). IsGap rules (x, label c.args.child.now) c.in-Err.field-0) parent (subst (λ (y : List ℕ). IsGap rules (behind_mark c.mark_of.result c.unmarked.result.now, y) c.in-Err.field-0) child c.in-Err.ensures.absent) in
    sym (entry_none rules (label c.args.parent.now) (label c.args.child.now) (gap_none rules (label c.args.parent.now, label c.args.child.now) c.in-Err.field-0 gap))
