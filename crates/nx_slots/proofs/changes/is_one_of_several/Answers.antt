use Rattle.std.proofs.Common.{subst, sym, refl, arith}
use Rattle.std.specs.Prelude.{IsSome}
use Rattle.std.proofs.lemmas.Bool.{ltb-true, ltb-false}
use Rattle.nx_slots.specs.Slots.{slots_of}
use Rattle.nx_slots.specs.Edits.{HasRecord}
use Rattle.nx_slots.proofs.ChangeLemmas.{cleared_is, record_there, one_of_several, none_of_several}
use Rattle.nx_slots.proofs.changes.is_one_of_several.Goals as goal

pub returns-clause-yes : goal.returns-clause-yes
returns-clause-yes c some =
    let has : HasRecord (slots_of c.args.page.now) c.args.slot = subst IsSome (sym c.in-Some.ensures) refl in
    let low = record_there c.args.page.now c.args.slot c.requires has in
    one_of_several c.args.page.now c.args.slot c.slots_without.result has
    (cleared_is c.args.page.now c.args.slot c.slots_without.result c.requires low.0 c.slots_without.ensures.within c.slots_without.ensures.last c.slots_without.ensures.rest)
    (ltb-true 0 c.slots_without.result some)

pub returns-clause-no : goal.returns-clause-no
returns-clause-no c none =
    let has : HasRecord (slots_of c.args.page.now) c.args.slot = subst IsSome (sym c.in-Some.ensures) refl in
    let low = record_there c.args.page.now c.args.slot c.requires has in
    none_of_several c.args.page.now c.args.slot c.slots_without.result
    (cleared_is c.args.page.now c.args.slot c.slots_without.result c.requires low.0 c.slots_without.ensures.within c.slots_without.ensures.last c.slots_without.ensures.rest)
    (let few = ltb-false 0 c.slots_without.result none in omega arith)
