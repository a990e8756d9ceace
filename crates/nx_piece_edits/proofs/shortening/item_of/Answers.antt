use Rattle.std.proofs.Common.{arith, ◌≤◌}
use Rattle.nx_piece.proofs.WalkLemmas.{next_left}
use Rattle.nx_piece_edits.proofs.ShortLemmas.{next_few, item_passed}
use Rattle.nx_piece_edits.proofs.shortening.item_of.Goals as goal

pub proxies_of-own-requires : goal.proxies_of-own-requires
proxies_of-own-requires c = next_few c.args.items.now c.loop-place.place c.index-items-place.result (next_left _ _ _ c.loop-place-test.true c.index-items-place.is) c.requires.few

pub loop-place-preserved : goal.loop-place-preserved
loop-place-preserved c =
    let most : c.proxies_of-own.result ≤ c.loop-place.left = omega arith in
    item_passed c.index-items-place.result c.loop-place.invariant (next_left _ _ _ c.loop-place-test.true c.index-items-place.is) c.proxies_of-own.ensures most
