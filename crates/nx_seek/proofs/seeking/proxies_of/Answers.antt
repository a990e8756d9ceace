use Rattle.std.proofs.Common.{◌≡◌, ◌-◌, ◌*◌, List, ℕ, length, drop, sym, subst, arith}
use Rattle.std.proofs.lemmas.List.{take_all, length-drop}
use Rattle.nx_seek.specs.Children.{AreProxies}
use Rattle.nx_seek.proofs.WayLemmas.{proxies_stand}
use Rattle.nx_seek.proofs.seeking.proxies_of.Goals as goal

pub returns-then-behind-size : goal.returns-then-behind-size
returns-then-behind-size c piece nodes written read =
    let one : c.args.head.form ≡ 1 = let t = c.if-head-ne1.false in omega arith in
    let fits = ((proxies_stand piece nodes c.args.list.now c.args.head c.args.behind.now written read).inner one).0 in
    let short = c.if-behind-size.true in
    omega arith

pub returns : goal.returns
returns c piece nodes written read =
    let one : c.args.head.form ≡ 1 = let t = c.if-head-ne1.false in omega arith in
    let there = (proxies_stand piece nodes c.args.list.now c.args.head c.args.behind.now written read).inner one in
    let start = length c.args.behind.now - 8 * c.args.head.proxies in
    let fits = there.0 in
    subst (λ (l : List ℕ). AreProxies l piece.proxies)
    (sym (take_all (length c.args.behind.now - start) (drop start c.args.behind.now) (let l = length-drop start c.args.behind.now in omega arith))) there.1
