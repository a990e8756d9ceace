use Rattle.std.proofs.Common.{inl, inr, arith}
use Rattle.std.proofs.lemmas.Bool.{cases_lt}
use Rattle.nx_choices.proofs.lightest.Lightest.update.Goals as goal

pub returns-else-self-eq0-clause-weights : goal.returns-else-self-eq0-clause-weights
returns-else-self-eq0-clause-weights c =
    let i = c.loop-most.invariant in let f = i.fewest in let n = c.if-self-eq0.false in let m = c.max-most-start.ensures in
    record {
      len = i.len;
      kept = λ most less. elim (cases_lt most c.loop-most.most) [
        | inl before ↦ i.lesser most before
        | inr past ↦ elim (cases_lt most c.args.number) [
          | inl inside ↦ elim i.ends [ inl all ↦ absurd (omega arith) | inr start ↦ absurd (omega arith) ]
          | inr behind ↦ i.behind most behind
        ]
      ];
      first = λ none. absurd (omega arith);
      others = λ most some from inside. let t = c.loop-most-test.false in i.greater most some (omega arith) (omega arith) inside;
      behind = i.behind;
    }
