use Rattle.std.proofs.Common.{◌≡◌, ap, false, nat_lt, length, arith}
use Rattle.std.proofs.lemmas.Bool.Decides.{nat_tests}
use Rattle.nx_pyx.specs.Event.{unescape}
use Rattle.nx_pyx.proofs.UnescapeLemmas.{length-unescape}
use Rattle.nx_script.specs.declared.command.TextBody.TheVariants.{Read}
use Rattle.nx_script.proofs.line.text_body.Goals as goal

pub returns : goal.returns
returns c =
    let bytes = c.args.bytes.now in
    let fits : nat_lt 1048576 (length (unescape bytes)) ≡ false = grind (arith, nat_tests, length-unescape bytes) in
    rw fits (ap Read c.in_ok-unescaped.ensures)
