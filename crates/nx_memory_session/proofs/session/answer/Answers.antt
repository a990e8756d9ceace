use Rattle.std.proofs.Common.{Some, refl, ap, ◌∙◌}
use Rattle.nx_front.specs.declared.words.CommandLine.TheVariants.{Run}
use Rattle.nx_front.specs.CommandLine.{command_line}
use Rattle.nx_state.specs.State.{new_state}
use Rattle.nx_memory.specs.Memory.{areas_of}
use Rattle.nx_memory_session.proofs.SessionLemmas.{answers, answered_in, told_is, is_told, none_rose, is_run}
use Rattle.nx_memory_session.proofs.session.answer.Goals as goal

pub returns : goal.returns
returns g c = λ settings script few made was_told told.
    let a = c.args.host.now in
    let b = c.run.new.host in
    let line = ap command_line c.requires ∙ is_run in
    answered_in settings script c.run.result a b was_told told made.output_is
    (answers _ a b c.run.result (areas_of a.memory) (new_state settings) script (c.run.ensures.carried Run line) (c.run.ensures.complete Run line)
    (record {
      settled = record { here = told_is a.full (areas_of a.memory) was_told; only = made.only };
      disk_told = is_told b.full (areas_of b.memory) told;
      input_is = ap (λ input. Some input) made.input_is;
      input_told = refl;
      few = few;
      disk = none_rose;
      read = none_rose;
      written = none_rose;
    })
    made.recovers)
