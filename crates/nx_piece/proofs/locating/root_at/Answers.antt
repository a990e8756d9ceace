use Rattle.std.proofs.Common.{arith, ap, []}
use Rattle.nx_piece.specs.Gapped.{proxies_in}
use Rattle.nx_piece.proofs.WalkLemmas.{next_root}
use Rattle.nx_piece.proofs.LocateLemmas.{tree_passed}
use Rattle.nx_piece.proofs.locating.root_at.Goals as goal

pub proxies_below-first-requires : goal.proxies_below-first-requires
proxies_below-first-requires c =
    let d = ap proxies_in (next_root _ _ _ c.loop-root-test.true c.root-item.is) in
    let h = (c.loop-root.invariant []).fits in
    omega arith

pub overflow_add-first : goal.overflow_add-first
overflow_add-first c =
    let d = ap proxies_in (next_root _ _ _ c.loop-root-test.true c.root-item.is) in
    let h = (c.loop-root.invariant []).fits in
    omega arith

pub loop-root-preserved : goal.loop-root-preserved
loop-root-preserved c proxies =
    tree_passed c.root-item.result c.proxies_below-first.result (c.loop-root.invariant proxies) (next_root _ _ _ c.loop-root-test.true c.root-item.is) (omega arith) c.proxies_below-first.ensures
