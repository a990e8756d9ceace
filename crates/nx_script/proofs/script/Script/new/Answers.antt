use Rattle.std.proofs.Common.{◌≡◌, true, false, [], sym}
use Rattle.nx_script.proofs.script.Script.new.Goals as goal

pub returns-clause-ok : goal.returns-clause-ok
returns-clause-ok c = λ first.
    let took = c.in_ok-new.ensures.none first in
    record {
      given = record {
        counted = took.counted;
        ended = λ is. absurd (let no_end : false ≡ true = is in cc);
        drained = λ _. c.in_ok-new.ensures.empty;
        given = ([], sym c.in_ok-new.ensures.empty, c.new.ensures.commands);
      };
      takes = took.takes;
      end = λ is. absurd (let no_end : false ≡ true = is in cc);
    }

pub returns-clause-lines : goal.returns-clause-lines
returns-clause-lines c = λ first.
    let took = c.in_ok-new.ensures.none first in
    record {
      given = record {
        counted = took.counted;
        ended = λ is. absurd (let no_end : false ≡ true = is in cc);
        drained = λ _. c.in_ok-new.ensures.empty;
        given = ([], sym c.in_ok-new.ensures.empty, c.new.ensures.lines);
      };
      takes = took.takes;
      end = λ is. absurd (let no_end : false ≡ true = is in cc);
    }
