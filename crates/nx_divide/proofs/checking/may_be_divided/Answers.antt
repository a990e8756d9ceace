use Rattle.std.proofs.Common.{◌≡◌, ap, arith, length, subst, sym}
use Rattle.nx_piece.specs.Gapped.{grown_of, proxies_in}
use Rattle.nx_piece.specs.Weight.{HaveShortNodes}
use Rattle.nx_piece.proofs.Laws.{are_short}
use Rattle.nx_divide.specs.Marked.{many}
use Rattle.nx_divide.proofs.HeavyLemmas.{many_few}
use Rattle.nx_divide.proofs.checking.may_be_divided.Goals as goal

pub are_light-requires : goal.are_light-requires
are_light-requires c = subst HaveShortNodes (sym c.as_slice-roots.ensures) (are_short c.args.piece.now.body.roots c.requires.body.small c.requires.body.far)

pub count_all-requires : goal.count_all-requires
count_all-requires c =
    let same : many (grown_of c.as_slice-roots.result.now) ≡ many c.args.piece.now.body.roots = ap many c.as_slice-roots.ensures in
    let counted : proxies_in c.args.piece.now.body.roots ≡ length c.args.piece.now.proxies = c.requires.body.counted in
    omega (arith, same, many_few c.args.piece.now.body.roots, c.requires.body.small, counted, c.requires.body.few_proxies)
