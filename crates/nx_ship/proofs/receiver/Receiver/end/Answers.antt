use Rattle.std.proofs.Common.{sym, ◌∙◌, refl}
use Rattle.std.proofs.lemmas.Bool.{false≢true}
use Rattle.nx_ship.proofs.OpenLemmas.{some_bytes_left}
use Rattle.nx_ship.proofs.receiver.Receiver.end.Goals as goal

pub returns-then-is_between-clause-ends : goal.returns-then-is_between-clause-ends
returns-then-is_between-clause-ends c bytes groups es fed =
    let (rest, stream, empty) = c.is_between.ensures bytes groups es fed in
    (rest, stream, empty.0 c.if-is_between.true)

pub returns-else-is_between-clause-ends : goal.returns-else-is_between-clause-ends
returns-else-is_between-clause-ends c bytes groups es fed =
    let (rest, stream, empty) = c.is_between.ensures bytes groups es fed in
    (rest, stream, (refl, some_bytes_left rest (λ none. false≢true (sym c.if-is_between.false ∙ empty.1 none))))
