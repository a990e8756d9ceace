use Rattle.std.proofs.Common.{◌≡◌, Some, sym, ap, ◌∙◌}
use Rattle.nx_front.specs.declared.words.CommandLine.TheVariants.{Init}
use Rattle.nx_memory.specs.Memory.{changes_of, present_of, areas_of}
use Rattle.nx_memory.specs.Source.{bytes_left}
use Rattle.nx_memory.proofs.HistoryLemmas.{unchanged_left}
use Rattle.nx_memory_session.proofs.SessionLemmas.{makes, made_in, told_is, is_told, none_rose}
use Rattle.nx_memory_session.proofs.session.make_store.Goals as goal

pub returns : goal.returns
returns g c = λ settings script is fresh told.
    let a = c.args.host.now in
    let b = c.run.new.host in
    let carried = c.run.ensures.carried (Init settings) is in
    let input : bytes_left b.memory.source ≡ bytes_left a.memory.source = let same : Some (bytes_left a.memory.source) ≡ Some (bytes_left b.memory.source) = carried.input_stays in sym (cc same) in
    made_in settings script c.run.result a b fresh.told told fresh.no_output (input ∙ fresh.input_is)
    (makes _ a b settings c.run.result (areas_of b.memory) carried (c.run.ensures.complete (Init settings) is)
    (record {
      settled = record {
        here = told_is a.full (areas_of a.memory) fresh.told ∙ ap (λ image. Some image) fresh.areas_are;
        only = λ i left. unchanged_left (changes_of a.memory) (present_of a.memory) fresh.unchanged i left ∙ fresh.areas_are;
      };
      still_told = is_told b.full (areas_of b.memory) told;
      disk = none_rose;
      written = none_rose;
    })
    (told_is b.full (areas_of b.memory) told))
