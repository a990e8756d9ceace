use Rattle.std.proofs.Common.{refl, List, ℕ, take, subst, ◌++◌, Bool}
use Rattle.nx_script.specs.Body.{AwaitsOrHasDot}
use Rattle.nx_script.proofs.ParserLemmas.{body_goes_on, body_ends}
use Rattle.nx_script.proofs.parser.Parser.take_body.Goals as goal

pub returns-then-ended-clause-given : goal.returns-then-ended-clause-given
returns-then-ended-clause-given c =
    let bytes : List ℕ = take c.in_ok-len.len c.args.bytes.now in
    body_ends c.args.self.now c.in_ok-loaded.field-0 (c.requires.taken, refl)
    (λ s within. subst (λ (b : Bool). AwaitsOrHasDot b c.take.new.self (s ++ bytes)) c.if-ended.true (c.in_ok-len.ensures.stands s within))
    c.in_ok-loaded.ensures

pub returns-clause-given : goal.returns-clause-given
returns-clause-given c =
    let bytes : List ℕ = take c.in_ok-len.len c.args.bytes.now in
    body_goes_on c.args.self.now refl refl
    (λ s within. subst (λ (b : Bool). AwaitsOrHasDot b c.take.new.self (s ++ bytes)) c.if-ended.false (c.in_ok-len.ensures.stands s within))
