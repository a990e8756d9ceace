use Rattle.std.proofs.Common.{◌≡◌, ap, subst, sym, ◌∙◌, cond, set, get_or, List}
use Rattle.std.specs.List.{remove}
use Rattle.nx_matrix.specs.declared.rule.Rule.{Rule}
use Rattle.nx_matrix.specs.Rules.{AreRules, entry_of, pair_of}
use Rattle.nx_matrix.proofs.OrderLemmas.{Pair}
use Rattle.nx_matrix.proofs.EntryLemmas.{asked, entry_set, entry_remove, at_before, at_behind}
use Rattle.nx_matrix.proofs.matrix.Matrix.change.Goals as goal

pub returns-in-Free : goal.returns-in-Free
returns-in-Free c = λ p q.
    let pair : Pair = (c.args.parent.now, c.args.child.now) in
    let rules = c.args.self.now in
    let are : AreRules rules = subst AreRules c.self.view_is c.self.invariant in
    ap (λ (rs : List Rule). entry_of rs p q) (c.remove.ensures.items ∙ ap (λ (rs : List Rule). remove rs c.args.place) c.self.view_is)
    ∙ entry_remove pair p q rules c.args.place c.requires (at_before rules pair c.args.place are c.requires) (at_behind rules pair c.args.place are c.requires)
    ∙ ap (λ e. cond (asked pair p q) e (entry_of rules p q)) (sym c.in-Free.is)

pub returns-in_default : goal.returns-in_default
returns-in_default c = λ p q.
    let pair : Pair = (c.args.parent.now, c.args.child.now) in
    let rules = c.args.self.now in
    let are : AreRules rules = subst AreRules c.self.view_is c.self.invariant in
    let changed : Rule = record { parent = c.index_mut.result.now.parent; child = c.index_mut.result.now.child; entry = c.args.entry } in
    let same : pair_of changed ≡ pair = ap pair_of (c.index_mut.ensures.value ∙ ap (λ (rs : List Rule). get_or rs c.args.place c.index_mut.result.now) c.self.view_is) ∙ c.requires.same c.index_mut.result.now in
    ap (λ (rs : List Rule). entry_of (set rs c.args.place changed) p q) c.self.view_is
    ∙ entry_set pair p q rules c.args.place changed same c.requires (at_before rules pair c.args.place are c.requires)
