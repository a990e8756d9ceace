use Rattle.std.proofs.Common.{◌+◌, ◌-◌, List, drop, get_or, subst, sym, arith}
use Rattle.std.proofs.lemmas.List.{take_rest}
use Rattle.nx_choices.specs.declared.child.Child.{Child}
use Rattle.nx_choices.specs.Choice.{AreWeighed}
use Rattle.nx_choices.specs.Lightest.{AreLightest}
use Rattle.nx_choices.proofs.BuildLemmas.{weighed_drop}
use Rattle.nx_choices.proofs.LightestLemmas.{fewest_some, fewest_least, looser}
use Rattle.nx_choices.proofs.WalkLemmas.{form_free, form_not, form_may}
use Rattle.nx_choices.proofs.walk.may_be_first.Goals as goal

pub weigh-requires-clause-weighed : goal.weigh-requires-clause-weighed
weigh-requires-clause-weighed c =
    subst (λ (cs : List Child). AreWeighed 256 cs) (sym (take_rest c.args.members.now 1)) (weighed_drop 256 c.args.members.now 1 c.requires.weighed)

pub returns-then-extra-eq0 : goal.returns-then-extra-eq0
returns-then-extra-eq0 c = form_free c.args.limit c.args.members.now c.args.extra c.requires.some (omega arith) c.requires.interval

pub returns-then-limit-lean : goal.returns-then-limit-lean
returns-then-limit-lean c =
    let blank : Child = record { least = 0; lean = 0; nearly = 0 } in
    form_not c.args.limit c.args.members.now c.args.extra blank c.requires.some c.requires.interval (λ fits i. let h = c.if-limit-lean.true in omega arith)

pub returns-in-Some : goal.returns-in-Some
returns-in-Some c =
    let blank : Child = record { least = 0; lean = 0; nearly = 0 } in
    let limit = c.args.limit in let members = c.args.members.now in let extra = c.args.extra in let lean = (get_or members 0 blank).lean in
    let weights = c.weigh.new.self.weights.items in let fewest = c.weigh.new.self.fewest in
    let l = subst (λ (cs : List Child). AreLightest (limit - lean) cs (extra + 1) weights fewest) (take_rest members 1) c.in_ok-weigh.ensures in
    let most = l.most in let less = c.in-Some.ensures.1 in let fits = c.if-limit-lean.false in
    form_may limit members extra blank c.requires.some fits
    (looser (limit - lean) (drop 1 members) fewest (limit - lean) extra (omega arith) (omega arith) (fewest_some (limit - lean) (drop 1 members) (extra + 1) weights fewest l less))

pub returns-in-None : goal.returns-in-None
returns-in-None c =
    let blank : Child = record { least = 0; lean = 0; nearly = 0 } in
    let limit = c.args.limit in let members = c.args.members.now in let extra = c.args.extra in let lean = (get_or members 0 blank).lean in
    let weights = c.weigh.new.self.weights.items in let fewest = c.weigh.new.self.fewest in
    let l = subst (λ (cs : List Child). AreLightest (limit - lean) cs (extra + 1) weights fewest) (take_rest members 1) c.in_ok-weigh.ensures in
    let past = c.in-None.ensures in
    form_not limit members extra blank c.requires.some c.requires.interval
    (λ fits i. let f = (fewest_least (limit - lean) (drop 1 members) (extra + 1) weights fewest extra l (omega arith) i).0 in omega arith)
