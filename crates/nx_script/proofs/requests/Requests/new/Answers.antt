use Rattle.std.proofs.Common.{inl, refl, []}
use Rattle.nx_script.proofs.requests.Requests.new.Goals as goal

pub returns-clause-ok : goal.returns-clause-ok
returns-clause-ok c = λ first.
    let given = c.in_ok-new.ensures.ok first in
    record {
      given = record { commands = []; script = given.given; grouped = inl (record { rest = []; gives = refl; keeps = refl }) };
      takes = given.takes;
      end = given.end;
    }
