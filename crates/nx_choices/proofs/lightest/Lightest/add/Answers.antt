use Rattle.std.proofs.Common.{◌≡◌, ℕ, List, length, sym, subst, ◌∙◌, arith}
use Rattle.nx_choices.specs.Lightest.{HasAddedChild, IsSkipped}
use Rattle.nx_choices.proofs.LightestLemmas.{lightest_added}
use Rattle.nx_choices.proofs.lightest.Lightest.add.Goals as goal

pub returns : goal.returns
returns c = λ children a.
    let child = c.args.child.now in let k = c.args.k in let extras = c.args.extras in
    let old = c.args.self.now.weights.items in let fewest = c.args.self.now.fewest in
    let longer = c.lengthen.new.self.weights.items in
    let same = c.skip.ensures.weights in
    let number : c.len-number.result ≡ length old = omega (arith, c.len-number.ensures, c.args.self.now.weights.ok.0) in
    let u = subst (λ (n : ℕ). HasAddedChild child n c.len-number.result longer c.update.new.self.weights.items) c.lengthen.ensures.fewest c.update.ensures.weights in
    let v = subst (λ (n : ℕ). HasAddedChild child fewest n longer c.update.new.self.weights.items) number u in
    let w = subst (λ (xs : List ℕ). HasAddedChild child fewest (length old) longer xs) (sym same) v in
    let s = subst (λ (n : ℕ). IsSkipped k c.skip.new.self.weights.items n c.skip.new.self.fewest) (c.update.ensures.fewest ∙ c.lengthen.ensures.fewest) c.skip.ensures.fewest in
    lightest_added k children child extras fewest old longer c.skip.new.self.weights.items c.skip.new.self.fewest c.requires.lean c.requires.nearly a c.in_ok-lengthen.ensures.weights w s
