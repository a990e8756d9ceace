use Rattle.std.proofs.Common.{◌≡◌, true, if◌then◌else◌, Option, None, Ok, sym, ap, subst, ◌∙◌}
use Rattle.std.specs.Bool.{MatchBool}
use Rattle.nx_script.specs.declared.command.Command.{Command}
use Rattle.nx_script.specs.declared.request.Request.{Request}
use Rattle.nx_script.specs.declared.script.Script.{Script}
use Rattle.nx_script.specs.Commands.{AreCommands, AreWhole}
use Rattle.nx_script.specs.Script.{HasGiven}
use Rattle.nx_script.specs.Requests.{HasGivenRequests, with_request}
use Rattle.nx_script.proofs.RequestLemmas.{IsStopped, last_request, gives_last, gives_request, none_left}
use Rattle.nx_script.proofs.requests.Requests.ready.Goals as goal

-- the script has given no command, and what was kept is let go at the input's end
stopped : (c : goal.After-last) → IsStopped c.loop-command.self c.last.new.self
stopped c = record {
  none = λ taken commands given.
      subst (λ (s : Script). HasGiven s taken commands × MatchBool s.ended (AreCommands taken commands) (AreWhole taken commands)) (sym c.last.ensures.script)
      (c.in_ok-command.ensures.none (ap (λ (o : Option Command). Ok o) c.in_default.is) taken commands given);
  finished = subst (λ (s : Script). s.ended ≡ true → s.finished ≡ true) (sym c.last.ensures.script) (c.in_ok-command.ensures.finished (ap (λ (o : Option Command). Ok o) c.in_default.is));
  same_end = ap (λ (s : Script). s.ended) c.last.ensures.script ∙ c.ready.ensures.ended;
  begun_is = c.last.ensures.begun ∙ ap (λ (s : Script). if s.ended then None else c.loop-command.self.begun) (sym c.last.ensures.script);
}

last_is : (c : goal.After-last) → last_request ((c.last.new.self.script).ended) c.loop-command.self.begun ≡ c.last.result
last_is c = ap (λ (s : Script). last_request s.ended c.loop-command.self.begun) c.last.ensures.script ∙ sym c.last.ensures.last

pub returns-clause-given : goal.returns-clause-given
returns-clause-given c =
    gives_request c.args.self.now c.last.new.self c.last.result
    (λ taken told given.
    subst (λ (o : Option Request). HasGivenRequests c.last.new.self taken (with_request told o)) (last_is c)
    (gives_last (stopped c) taken told (c.loop-command.invariant.given taken told given)))

pub returns-clause-none : goal.returns-clause-none
returns-clause-none c = λ none taken told given.
    let is : c.last.result ≡ None = cc in
    let before = c.loop-command.invariant.given taken told given in (
      subst (λ (o : Option Request). HasGivenRequests c.last.new.self taken (with_request told o)) (last_is c ∙ is) (gives_last (stopped c) taken told before),
      none_left (stopped c) (last_is c ∙ is) taken told before,
    )
