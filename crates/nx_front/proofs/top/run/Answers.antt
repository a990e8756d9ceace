use Rattle.std.proofs.Common.{◌≡◌, Some, inr, refl, sym, ◌∙◌}
use Rattle.nx_lists.proofs.CaseLemmas.{some_value}
use Rattle.nx_filters.specs.declared.status.Status.TheVariants.{NoMemory}
use Rattle.nx_front.specs.CommandLine.{command_line}
use Rattle.nx_front.specs.declared.words.CommandLine.TheVariants.{Plan, Verify}
use Rattle.nx_front.proofs.ClockLemmas.{HasClock}
use Rattle.nx_front.proofs.TopLemmas.{carried_as, carried_bounded, carried_counts, carried_completes, not_usage, usage_not, starved, completes_light, completes_sound}
use Rattle.nx_front.proofs.top.run.Given.{Over}
use Rattle.nx_front.proofs.top.run.Goals as goal

clock : (g : Over) → HasClock g.H.Disk
clock g = record { stands_now = g.met.H.Disk.stands_now; only_now = g.met.H.Disk.only_now }

pub returns-in-Ok-Some : goal.returns-in-Ok-Some
returns-in-Ok-Some g c =
    let d = g.H.Disk in
    let a = c.args.host.now in
    let b = c.carry_out.new.host in
    let mine = c.in-Ok-Some.line in
    let status = c.carry_out.result in
    let done = c.carry_out.ensures in
    let is : command_line c.args.words.now ≡ Some mine = sym (rw c.in-Ok-Some.field-0-is at c.in-Ok-Some.ensures.line) in
    record {
      carried = λ line command. carried_as d a b mine line status (sym is ∙ command) done;
      bounded = carried_bounded d a b mine status done;
      counts = carried_counts d a b mine status done;
      usage = usage_not d a b mine status is done;
      untouched = λ usage. absurd (not_usage d a b mine status done usage);
      complete = λ line command. carried_completes d a b line status (carried_as d a b mine line status (sym is ∙ command) done);
      planned = λ k input command calm sure.
          completes_light k input status (carried_completes d a b (Plan k) status (carried_as d a b mine (Plan k) status (sym is ∙ command) done) input calm) sure;
      certified = λ k input command calm sure.
          completes_sound k input status (carried_completes d a b (Verify k) status (carried_as d a b mine (Verify k) status (sym is ∙ command) done) input calm) sure;
    }

pub returns-in-Err : goal.returns-in-Err
returns-in-Err g c =
    let d = g.H.Disk in
    let a = c.args.host.now in
    let (mine, is) = some_value (command_line c.args.words.now) c.in-Err.ensures.memory in
    let done = starved d a mine (clock g) in
    record {
      carried = λ line command. carried_as d a a mine line NoMemory (sym is ∙ command) done;
      bounded = carried_bounded d a a mine NoMemory done;
      counts = carried_counts d a a mine NoMemory done;
      usage = usage_not d a a mine NoMemory is done;
      untouched = λ usage. absurd (not_usage d a a mine NoMemory done usage);
      complete = λ line command. carried_completes d a a line NoMemory (carried_as d a a mine line NoMemory (sym is ∙ command) done);
      planned = λ k input command calm sure. inr refl;
      certified = λ k input command calm sure. inr refl;
    }
