use Rattle.std.proofs.Common.{◌≤◌, ℕ, List, length, sym, ap, ◌∙◌, subst}
use Rattle.nx_filters.specs.declared.status.Status.{Status}
use Rattle.nx_front.specs.Carrying.{CarriesOut}
use Rattle.nx_front.specs.Conversation.{status_of_engine}
use Rattle.nx_front.specs.Generating.{generated_requests, Generates}
use Rattle.nx_front.proofs.ClockLemmas.{HasClock}
use Rattle.nx_front.proofs.GeneratingLemmas.{generates_unopened, generates_starved, generates_found, generates_stopped, generates_all}
use Rattle.nx_front.proofs.generate.generate.Given.{Over}
use Rattle.nx_front.proofs.generate.generate.Goals as goal

clock : (g : Over) → HasClock g.H.Disk
clock g = record { stands_now = g.met.H.Disk.stands_now; only_now = g.met.H.Disk.only_now }

pub returns-in-Err : goal.returns-in-Err
returns-in-Err g c =
    subst (λ (s : Status). Generates g.H.Disk c.args.seed c.args.n s c.args.host.now c.open.new.disk) (sym c.status_of.ensures)
    (generates_unopened c.args.seed c.args.n c.in-Err.error (clock g) c.open.ensures.still c.in-Err.ensures.refused)

pub returns-in-Ok-Some : goal.returns-in-Ok-Some
returns-in-Ok-Some g c =
    generates_found c.args.seed c.args.n (clock g) c.open.ensures.still c.in-Ok.ensures.renewed c.in-Ok.ensures.ok c.in-Ok.ensures.marked c.in-Ok-Some.field-0-0 c.say.result
    (sym c.in-Ok-Some.field-0-is ∙ c.in-Ok-Some.ensures.ok) c.say.ensures.says c.say.ensures.alone

pub returns-in-Err-generated_nodes : goal.returns-in-Err-generated_nodes
returns-in-Err-generated_nodes g c =
    subst (λ (s : Status). Generates g.H.Disk c.args.seed c.args.n s c.args.host.now c.open.new.disk)
    (sym (c.status_of-in-Err-generated_nodes.ensures ∙ ap status_of_engine c.in-Err-generated_nodes.ensures.err))
    (generates_starved c.args.seed c.args.n (clock g) c.open.ensures.still c.in-Ok.ensures.renewed c.in-Ok.ensures.ok c.in-Ok.ensures.marked)

pub say-requires-in-Ok-carry_out : goal.say-requires-in-Ok-carry_out
say-requires-in-Ok-carry_out g c = subst (λ (l : List ℕ). 1 ≤ length l) (sym c.as_bytes.ensures.value) c.in-Ok-carry_out.ensures.some

pub returns-in-Ok-carry_out : goal.returns-in-Ok-carry_out
returns-in-Ok-carry_out g c =
    generates_all c.args.seed c.args.n (clock g) c.open.ensures.still c.in-Ok.ensures.renewed c.in-Ok.ensures.ok c.in-Ok.ensures.marked (sym c.in-Ok-None.field-0-is ∙ c.in-Ok-None.ensures.ok) c.say-in-Ok-carry_out.result
    (subst (λ (l : List ℕ). CarriesOut g.H.Disk (generated_requests c.args.seed c.args.n) l c.in-Ok.store c.carry_out.new.store c.open.new.disk c.carry_out.new.disk) (sym c.as_bytes.ensures.value)
    c.in-Ok-carry_out.ensures.ok)
    c.carry_out.ensures.areas c.say-in-Ok-carry_out.ensures.says c.say-in-Ok-carry_out.ensures.alone

pub returns : goal.returns
returns g c =
    subst (λ (s : Status). Generates g.H.Disk c.args.seed c.args.n s c.args.host.now c.carry_out.new.disk) (sym c.status_of-in-Err-carry_out.ensures)
    (generates_stopped c.args.seed c.args.n (clock g) c.open.ensures.still c.in-Ok.ensures.renewed c.in-Ok.ensures.ok c.in-Ok.ensures.marked (sym c.in-Ok-None.field-0-is ∙ c.in-Ok-None.ensures.ok) c.in-Err-carry_out.error
    c.in-Err-carry_out.ensures.err c.in-Err-carry_out.ensures.cause c.carry_out.ensures.areas)
