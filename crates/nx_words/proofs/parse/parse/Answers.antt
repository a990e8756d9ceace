use Rattle.std.proofs.Common.{rules, ap, ap₂, ◌∙◌, ◌≡◌, true, false, sym}
use Rattle.std.proofs.lemmas.List.{map-id}
use Rattle.clap.specs.Words.{app_of, found_of, is_simple, matches_of, takes}
use Rattle.nx_words.proofs.OperandsLemmas.{any_number, finds, made_so, natix, natix_is_simple, ranged_rule, required_rule, takes_words}
use Rattle.nx_words.proofs.parse.parse.Goals as goal
use Rattle.nx_words.proofs.parse.parse.Goals.{in-OutOfMemory, in_default}

pub prove-unreachable-requires : goal.prove-unreachable-requires
prove-unreachable-requires c =
    let is : app_of c.in_ok-natix.natix ≡ natix = made_so c.new-4.result c.no_binary_name.result c.disable_help_flag.result c.in_ok-arg.field-0 c.in_ok-arg-2.field-0 c.in_ok-natix.natix
    c.required-store.result c.required-command.result c.num_args-arguments.result
    c.new-4.ensures.app c.no_binary_name.ensures c.disable_help_flag.ensures
    (search rules, required_rule c.new.result c.required-store.result _ c.required-store.ensures c.new.ensures.rule)
    (search rules, required_rule c.new-2.result c.required-command.result _ c.required-command.ensures c.new-2.ensures.rule)
    (search rules, ranged_rule c.new-3.result c.num_args-arguments.result _ any_number c.num_args-arguments.ensures.0 c.num_args-arguments.ensures.1 c.new-3.ensures.rule)
    c.in_ok-arg.ensures c.in_ok-arg-2.ensures c.in_ok-natix.ensures in
    let kind = c.in-Err.ensures.passes (ap₂ takes is (map-id c.args.words.now) ∙ takes_words c.args.words.now c.requires.operands c.requires.few) in
    elim c.match-matches.branch [
      | in-OutOfMemory w ↦ absurd (let wrong : true ≡ false = sym w.matches-is ∙ c.if-prove.true in cc)
      | in_default w ↦ w.in_default.not-OutOfMemory (c.kind.ensures ∙ kind)
    ]

pub returns-in-Ok : goal.returns-in-Ok
returns-in-Ok c =
    let is : app_of c.in_ok-natix.natix ≡ natix = made_so c.new-4.result c.no_binary_name.result c.disable_help_flag.result c.in_ok-arg.field-0 c.in_ok-arg-2.field-0 c.in_ok-natix.natix
    c.required-store.result c.required-command.result c.num_args-arguments.result
    c.new-4.ensures.app c.no_binary_name.ensures c.disable_help_flag.ensures
    (search rules, required_rule c.new.result c.required-store.result _ c.required-store.ensures c.new.ensures.rule)
    (search rules, required_rule c.new-2.result c.required-command.result _ c.required-command.ensures c.new-2.ensures.rule)
    (search rules, ranged_rule c.new-3.result c.num_args-arguments.result _ any_number c.num_args-arguments.ensures.0 c.num_args-arguments.ensures.1 c.new-3.ensures.rule)
    c.in_ok-arg.ensures c.in_ok-arg-2.ensures c.in_ok-natix.ensures in
    let (rows, subcommand) = c.in-Ok.ensures.matches (ap is_simple is ∙ natix_is_simple) in
    let found = finds (found_of c.in-Ok.matches) c.args.words.now c.requires.operands (rows ∙ ap₂ matches_of is (map-id c.args.words.now)) in
    record { store = found.store; command = found.command; arguments = found.arguments }
