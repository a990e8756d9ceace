use Rattle.std.proofs.Common.{arith, ◌≤◌}
use Rattle.nx_piece.proofs.WalkLemmas.{next_left}
use Rattle.nx_piece_edits.proofs.ShortLemmas.{root_few, root_passed}
use Rattle.nx_piece_edits.proofs.shortening.root_of.Goals as goal

pub proxies_below-below-requires : goal.proxies_below-below-requires
proxies_below-below-requires c = root_few c.args.roots.now c.loop-place.place c.index-roots-place.result (next_left _ _ _ c.loop-place-test.true c.index-roots-place.is) c.requires.few

pub loop-place-preserved : goal.loop-place-preserved
loop-place-preserved c =
    let most : c.proxies_below-below.result ≤ c.loop-place.left = omega arith in
    root_passed c.index-roots-place.result c.loop-place.invariant (next_left _ _ _ c.loop-place-test.true c.index-roots-place.is) c.proxies_below-below.ensures most
