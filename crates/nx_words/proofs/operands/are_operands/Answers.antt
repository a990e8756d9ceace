use Rattle.std.proofs.Common.{rules, tests}
use Rattle.std.proofs.lemmas.Iterator.{YieldsList-from_slice}
use Rattle.std.proofs.lemmas.Iterator.Search.{all_from_yields_List}
use Rattle.std.proofs.lemmas.Bool.{le-leb}
use Rattle.nx_words.specs.Operands.{is_operand}
use Rattle.nx_words.proofs.operands.are_operands.Goals as goal

pub returns-then-words-ge2-clause-test : goal.returns-then-words-ge2-clause-test
returns-then-words-ge2-clause-test c =
    let all = all_from_yields_List is_operand _ _ c.all.result c.all.ensures.ran (YieldsList-from_slice c.args.words.now cc) (λ x b q k. search (rules, tests)) in
    let two = le-leb 2 _ c.if-words-ge2.true in
    rw two all
