use Rattle.std.proofs.Common.{◌≡◌, ◌≤◌, ◌+◌, ◌*◌, ℕ, List, [], ◌∷◌, ◌++◌, map, length, sym, ap, ◌∙◌, subst, arith, string_bytes}
use Rattle.std.proofs.lemmas.Result.{err_from_is_err_and}
use Rattle.std.proofs.lemmas.List.{map-append, length-map}
use Rattle.nx_script.specs.declared.command.Command.{Command}
use Rattle.nx_script.specs.declared.command.Command.TheVariants.{Export}
use Rattle.nx_script.specs.declared.request.Request.{Request}
use Rattle.nx_script.specs.declared.request.Request.TheVariants.{Single}
use Rattle.nx_gen.specs.Commands.{gen_name, commands}
use Rattle.nx_gen.proofs.CountLemmas.{export_last, few_commands}
use Rattle.nx_store.specs.declared.error.EngineError.{EngineError}
use Rattle.nx_store.specs.declared.error.EngineError.TheVariants as engine
use Rattle.nx_front.specs.Carrying.{StopsCarrying}
use Rattle.nx_front.specs.Generating.{generated_requests}
use Rattle.nx_front.proofs.GeneratingLemmas.{amid_first, amid_few, amid_more, amid_done, amid_starved, amid_stops, none_remains, passed, some_text}
use Rattle.nx_front.proofs.generate.carry_out.Goals as goal

-- commands, each a request of its own
abbrev alone : List Command → List Request
alone commands = map (λ command. Single command) commands

pub loop-command-init : goal.loop-command-init
loop-command-init g c = amid_first c.in_ok-commands.ensures c.new-counts.ensures.commands c.new-counts.ensures.errors c.new-counts.ensures.bytes

pub returns-in_err-command-clause-err : goal.returns-in_err-command-clause-err
returns-in_err-command-clause-err g c =
    passed c.from_residual-in_err-command.result (λ (e : EngineError). StopsCarrying g.D.Disk (generated_requests c.args.seed c.args.n) e c.args.store.now c.args.disk.now c.loop-command.disk) engine.Memory
    (err_from_is_err_and c.from_residual-in_err-command.result c.from_residual-in_err-command.ensures.1) (amid_starved c.loop-command.invariant)

pub returns-in_err-reply-clause-err : goal.returns-in_err-reply-clause-err
returns-in_err-reply-clause-err g c =
    passed c.from_residual-in_err-reply.result (λ (e : EngineError). StopsCarrying g.D.Disk (generated_requests c.args.seed c.args.n) e c.args.store.now c.args.disk.now c.apply.new.disk) c.in_err-reply.field-0.0
    (err_from_is_err_and c.from_residual-in_err-reply.result c.from_residual-in_err-reply.ensures.1)
    (amid_stops c.apply.new.self c.in-Some.command c.in_err-reply.field-0.0 (rw c.in-Some.is at c.in_ok-command.ensures.ok) c.loop-command.invariant c.apply.ensures.areas c.in_err-reply.ensures.applies)

pub add-requires-clause-few : goal.add-requires-clause-few
add-requires-clause-few g c =
    let all = commands c.args.seed c.args.n in
    let sum : c.loop-command.counts.commands + length c.loop-command.commands ≡ length (generated_requests c.args.seed c.args.n) = (amid_few c.loop-command.invariant).0 in
    let as_many : length (generated_requests c.args.seed c.args.n) ≡ length all = length-map all (λ command. Single command) in
    let few : length (commands c.args.seed c.args.n) ≤ 2 * c.args.n + 2 = few_commands c.args.seed c.args.n in
    let most : c.args.n ≤ 100000 = c.requires.few in
    omega (arith, sum, as_many, few, most)

pub loop-command-preserved : goal.loop-command-preserved
loop-command-preserved g c =
    amid_more c.in-Some.command c.in_ok-reply.reply (rw c.in-Some.is at c.in_ok-command.ensures.ok) c.add.ensures.commands c.add.ensures.errors c.add.ensures.bytes c.loop-command.invariant c.apply.ensures.areas
    c.in_ok-reply.ensures.applies

pub returns-in_err-nodes-clause-err : goal.returns-in_err-nodes-clause-err
returns-in_err-nodes-clause-err g c =
    let stops = λ (e : EngineError). StopsCarrying g.D.Disk (generated_requests c.args.seed c.args.n) e c.args.store.now c.args.disk.now c.loop-command.disk in
    passed c.from_residual-in_err-nodes.result stops c.in_err-nodes.field-0.0 (err_from_is_err_and c.from_residual-in_err-nodes.result c.from_residual-in_err-nodes.ensures.1)
    (subst stops (sym c.in_err-nodes.ensures.err) (amid_starved c.loop-command.invariant))

pub returns-in_err-summary-clause-err : goal.returns-in_err-summary-clause-err
returns-in_err-summary-clause-err g c =
    passed c.from_residual-in_err-summary.result (λ (e : EngineError). StopsCarrying g.D.Disk (generated_requests c.args.seed c.args.n) e c.args.store.now c.args.disk.now c.loop-command.disk) engine.Memory
    (err_from_is_err_and c.from_residual-in_err-summary.result c.from_residual-in_err-summary.ensures.1) (amid_starved c.loop-command.invariant)

pub returns-clause-ok : goal.returns-clause-ok
returns-clause-ok g c =
    let (before, ends) = export_last c.args.seed c.args.n in
    let all : generated_requests c.args.seed c.args.n ≡ alone before ++ Single (Export gen_name) ∷ [] = ap alone ends ∙ map-append (λ c. Single c) before (Export gen_name ∷ []) in
    amid_done (string_bytes c.in_ok-summary.field-0) c.in_ok-nodes.nodes (alone before) (none_remains c.loop-command.commands c.next.new.self c.in_ok-command.field-0 c.in_default.not-Some c.in_ok-command.ensures.ok) all c.loop-command.invariant
    c.in_ok-nodes.ensures.ok c.unwrap_or.ensures c.in_ok-summary.ensures

pub returns-clause-some : goal.returns-clause-some
returns-clause-some g c =
    subst (λ (l : List ℕ). 1 ≤ length l) (sym c.in_ok-summary.ensures)
    (some_text c.loop-command.counts.commands c.loop-command.counts.errors c.unwrap_or.result c.loop-command.counts.bytes)
