use Rattle.std.proofs.Common.{arith, ◌≤◌, length}
use Rattle.std.proofs.lemmas.Bool.Decides.{nat_tests}
use Rattle.nx_piece.specs.Valid.{inline_length, longest_inline}
use Rattle.nx_piece.proofs.WalkLemmas.{slots_few}
use Rattle.nx_piece.proofs.writing.fits_inline.Goals as goal

pub returns-then-len-le251 : goal.returns-then-len-le251
returns-then-len-le251 c =
    let few = slots_few c.args.piece.now.body.roots c.requires.body.apart in
    let small = c.requires.body.small in let long = c.len.ensures in let least = c.if-len-le251.true in
    let fits : inline_length c.args.piece.now.body.roots (length c.args.piece.now.proxies) ≤ longest_inline = omega arith in
    grind (arith, nat_tests, fits)
