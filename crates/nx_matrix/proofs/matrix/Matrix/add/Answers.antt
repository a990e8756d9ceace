use Rattle.std.proofs.Common.{◌≡◌, ◌≢◌, List, cond, ap, subst, sym, ◌∙◌, length, arith}
use Rattle.std.specs.List.{insert}
use Rattle.nx_matrix.specs.declared.rule.Entry.TheVariants.{Free}
use Rattle.nx_matrix.specs.declared.rule.Rule.{Rule}
use Rattle.nx_matrix.specs.Rules.{IsGap, IsLabel, entry_of, pair_of}
use Rattle.nx_matrix.proofs.OrderLemmas.{insert_rules, Pair}
use Rattle.nx_matrix.proofs.EntryLemmas.{asked, entry_insert, gap_none, has_none, memory_refused}
use Rattle.nx_matrix.proofs.matrix.Matrix.add.Goals as goal

pub returns-then-len-ge-MOST_RULES-clause-cause : goal.returns-then-len-ge-MOST_RULES-clause-cause
returns-then-len-ge-MOST_RULES-clause-cause c =
    let pair : Pair = (c.args.parent.now, c.args.child.now) in
    let few = c.self.invariant.few in
    let same = ap length c.self.view_is in
    ((c.requires.bound, has_none c.args.self.now c.args.parent.now c.args.child.now (gap_none c.args.self.now pair c.args.place c.requires.gap)), omega arith)

pub returns-in_err-rule-clause-cause : goal.returns-in_err-rule-clause-cause
returns-in_err-rule-clause-cause c =
    let pair : Pair = (c.args.parent.now, c.args.child.now) in
    let same = ap length c.self.view_is in
    memory_refused c.args.self.now c.args.parent.now c.args.child.now c.args.entry _ (gap_none c.args.self.now pair c.args.place c.requires.gap) c.requires.bound (omega arith) c.from_residual.ensures.1

pub returns-in_err-insert-clause-cause : goal.returns-in_err-insert-clause-cause
returns-in_err-insert-clause-cause c =
    let pair : Pair = (c.args.parent.now, c.args.child.now) in
    let same = ap length c.self.view_is in
    memory_refused c.args.self.now c.args.parent.now c.args.child.now c.args.entry _ (gap_none c.args.self.now pair c.args.place c.requires.gap) c.requires.bound (omega arith) c.from_residual-in_err-insert.ensures.1

pub invariant_of-self-2 : goal.invariant_of-self-2
invariant_of-self-2 c =
    let pair : Pair = (c.args.parent.now, c.args.child.now) in
    let rules = c.self.inside.rules.items in
    let gap : IsGap rules pair c.args.place = subst (λ (rs : List Rule). IsGap rs pair c.args.place) (sym c.self.view_is) c.requires.gap in
    let rule = c.in_ok-rule.rule in
    let is : rule ≡ record { parent = c.args.parent.now; child = c.args.child.now; entry = c.args.entry } = c.in_ok-rule.ensures in
    let bound : rule.entry ≢ Free = subst (λ (r : Rule). r.entry ≢ Free) (sym is) c.requires.bound in
    let labelled : IsLabel rule.parent × IsLabel rule.child = subst (λ (r : Rule). IsLabel r.parent × IsLabel r.child) (sym is) (c.requires.parent, c.requires.child) in
    rw c.in_ok-insert.ensures.items (insert_rules rules c.self.invariant pair c.args.place gap rule (ap pair_of is) bound labelled (omega arith))

pub returns-clause-ok : goal.returns-clause-ok
returns-clause-ok c = λ p q.
    let pair : Pair = (c.args.parent.now, c.args.child.now) in
    let rules = c.args.self.now in
    let rule = c.in_ok-rule.rule in
    let is : rule ≡ record { parent = c.args.parent.now; child = c.args.child.now; entry = c.args.entry } = c.in_ok-rule.ensures in
    let gap = c.requires.gap in
    ap (λ (rs : List Rule). entry_of rs p q) (c.in_ok-insert.ensures.items ∙ ap (λ (rs : List Rule). insert rs c.args.place rule) c.self.view_is)
    ∙ entry_insert pair p q rules c.args.place rule (ap pair_of is) gap.within (λ k d lt. gap_none rules pair c.args.place gap k d (omega (arith, gap.within)))
    ∙ ap (λ (r : Rule). cond (asked pair p q) r.entry (entry_of rules p q)) is
