use Rattle.std.proofs.Common.{◌≡◌, ◌+◌, ◌-◌, ◌*◌, ℕ, length, take, drop, suc, subst, arith}
use Rattle.std.proofs.lemmas.List.{take_all, length-drop}
use Rattle.nx_seek.proofs.ChildLemmas.{WalksProxies, proxies_missing, walk_begins, next_proxy, no_proxy, one_passed, is_root}
use Rattle.nx_seek.proofs.children.member_at.Goals as goal

pub returns-then-proxies-start : goal.returns-then-proxies-start
returns-then-proxies-start c all are fits = proxies_missing c.args.proxies.now c.args.first c.args.count all (let short = c.if-proxies-start.true in omega arith) are fits

pub loop-offset-init : goal.loop-offset-init
loop-offset-init c all are fits =
    walk_begins c.args.proxies.now (take (length c.args.proxies.now - 8 * c.args.first) (drop (8 * c.args.first) c.args.proxies.now)) c.args.first c.args.count c.args.position (c.args.count - 0) (c.args.first + 0) all are
    (take_all (length c.args.proxies.now - 8 * c.args.first) (drop (8 * c.args.first) c.args.proxies.now) (let l = length-drop (8 * c.args.first) c.args.proxies.now in omega arith)) (omega arith) (omega arith)

pub returns-in_default : goal.returns-in_default
returns-in_default c all are fits =
    let walk = c.loop-offset.invariant all are fits in
    let within = c.loop-offset-test.true in
    no_proxy all (c.args.first + c.loop-offset.offset) c.loop-offset.rest.now (omega arith) walk.same c.in_default.ensures

pub returns-then-left-roots : goal.returns-then-left-roots
returns-then-left-roots c all are fits =
    let walk = c.loop-offset.invariant all are fits in
    let within = c.loop-offset-test.true in
    let more : c.args.count - c.loop-offset.offset ≡ suc (c.args.count - (c.loop-offset.offset + 1)) = omega arith in
    let next = next_proxy all (c.args.first + c.loop-offset.offset) c.in-Some.proxy c.loop-offset.rest.now c.in-Some.behind.now are.ranged are.numbers (omega arith) walk.same c.in-Some.ensures in
    is_root c.in-Some.proxy c.in-Some.behind.now
    (subst (λ (n : ℕ). WalksProxies all c.args.first c.args.count c.args.position (c.args.first + c.loop-offset.offset) c.loop-offset.left n c.loop-offset.rest.now) more walk) next
    (let roots = c.from-roots.ensures in let few = c.if-left-roots.true in omega arith)

pub loop-offset-preserved : goal.loop-offset-preserved
loop-offset-preserved c all are fits =
    let walk = c.loop-offset.invariant all are fits in
    let within = c.loop-offset-test.true in
    let more : c.args.count - c.loop-offset.offset ≡ suc (c.args.count - (c.loop-offset.offset + 1)) = omega arith in
    let here : c.args.first + c.loop-offset.offset + 1 ≡ c.args.first + (c.loop-offset.offset + 1) = omega arith in
    let roots : c.in-Some.proxy.roots ≡ c.from-roots.result = let same = c.from-roots.ensures in omega arith in
    let next = next_proxy all (c.args.first + c.loop-offset.offset) c.in-Some.proxy c.loop-offset.rest.now c.in-Some.behind.now are.ranged are.numbers (omega arith) walk.same c.in-Some.ensures in
    let on = one_passed c.in-Some.proxy c.in-Some.behind.now
    (subst (λ (n : ℕ). WalksProxies all c.args.first c.args.count c.args.position (c.args.first + c.loop-offset.offset) c.loop-offset.left n c.loop-offset.rest.now) more walk) next
    (let few = c.if-left-roots.false in omega arith) in
    subst (λ (h : ℕ). WalksProxies all c.args.first c.args.count c.args.position h (c.loop-offset.left - c.from-roots.result) (c.args.count - (c.loop-offset.offset + 1)) c.in-Some.behind.now) here
    (subst (λ (r : ℕ). WalksProxies all c.args.first c.args.count c.args.position (c.args.first + c.loop-offset.offset + 1) (c.loop-offset.left - r) (c.args.count - (c.loop-offset.offset + 1)) c.in-Some.behind.now) roots on)
