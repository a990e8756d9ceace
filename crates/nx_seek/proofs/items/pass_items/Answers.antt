use Rattle.std.proofs.Common.{◌≡◌, ◌≤◌, ◌-◌, ℕ, subst, arith}
use Rattle.nx_seek.proofs.ItemLemmas.{IsPassing, passes_on, all_passed}
use Rattle.nx_seek.proofs.items.pass_items.Goals as goal

pub returns-in_default-checked_add : goal.returns-in_default-checked_add
returns-in_default-checked_add c f tail h wide =
    let some : 1 ≤ c.loop-left.left = let t = c.loop-left-test.true in omega arith in
    let step = passes_on c.in-Some.behind.now c.in-Some.count c.in-Some.below (c.loop-left.invariant f tail h wide) some h.few_proxies (λ g stands more. c.in-Some.ensures.passed g tail stands more) (c.loop-left.left - 1) (omega arith) in
    let fits = step.more_fits in let over = c.in_default-checked_add.ensures in omega arith

pub returns : goal.returns
returns c f tail h wide =
    let none : c.loop-left.left ≡ 0 = let t = c.loop-left-test.false in omega arith in
    all_passed (subst (λ (n : ℕ). IsPassing f tail c.loop-left.proxies n c.loop-left.rest.now) none (c.loop-left.invariant f tail h wide))
