use Rattle.std.proofs.Common.{arith}
use Rattle.std.proofs.lemmas.Bool.Decides.{nat_tests}
use Rattle.nx_pyx.proofs.UnescapeLemmas.{length-unescape}
use Rattle.nx_pyx.proofs.line.is_long_with.Goals as goal

pub returns-else-content-room : goal.returns-else-content-room
returns-else-content-room c = grind (arith, nat_tests, length-unescape c.args.content.now)
