use Rattle.std.proofs.Common.{◌≡◌, ◌+◌, ◌-◌, ◌<◌, ◌≤◌, ◌⊎◌, inl, inr, drop, length, take, refl, sym, arith}
use Rattle.std.proofs.lemmas.Bool.{cases_lt}
use Rattle.std.proofs.lemmas.List.{length-drop, length-take-le}
use Rattle.nx_choices.specs.declared.child.Child.{Child}
use Rattle.nx_choices.proofs.ReachLemmas.{weighed_at}
use Rattle.nx_choices.proofs.LightestLemmas.{lightest_next}
use Rattle.nx_choices.proofs.BuildLemmas.{row_fits}
use Rattle.nx_choices.proofs.WalkLemmas.{cut_few, interval_most, row_behind, tried_next}
use Rattle.nx_choices.proofs.walk.Walk.find.Goals as goal

pub add-requires-clause-lean : goal.add-requires-clause-lean
add-requires-clause-lean c =
    let blank : Child = record { least = 0; lean = 0; nearly = 0 } in
    let most = c.min-most.ensures in
    let w = (weighed_at c.args.k c.args.rest.now c.loop-at.at blank c.requires.weighed (omega arith)).lean_most in omega arith

pub add-requires-clause-nearly : goal.add-requires-clause-nearly
add-requires-clause-nearly c =
    let blank : Child = record { least = 0; lean = 0; nearly = 0 } in
    let most = c.min-most.ensures in
    let w = (weighed_at c.args.k c.args.rest.now c.loop-at.at blank c.requires.weighed (omega arith)).nearly_most in omega arith

pub add-requires-clause-some : goal.add-requires-clause-some
add-requires-clause-some c = c.loop-at.invariant.lightest.some

pub add-requires-clause-small : goal.add-requires-clause-small
add-requires-clause-small c = λ index.
    let most = c.min-most.ensures in let s = c.loop-at.invariant.lightest.small index in
    let len = length-take-le c.loop-at.at c.args.rest.now (omega arith) in omega arith

pub goes_on-requires-clause-weights : goal.goes_on-requires-clause-weights
goes_on-requires-clause-weights c =
    let blank : Child = record { least = 0; lean = 0; nearly = 0 } in
    let k = c.args.k in let rest = c.args.rest.now in let at = c.loop-at.at in let room = c.requires.profiles.0 in let lefts = c.args.profiles.now.lefts.items in
    let extras = c.saturating_sub-extras.result in let most = c.min-most.ensures in
    let here : at < length rest = omega arith in
    let l = lightest_next k rest at blank extras c.add.new.self.weights.items c.add.new.self.fewest here (c.in_ok-add.ensures (take at rest) c.loop-at.invariant.lightest) in
    let few = l.few in let len = length-take-le (at + 1) rest (omega arith) in omega arith

pub goes_on-requires-clause-base : goal.goes_on-requires-clause-base
goes_on-requires-clause-base c =
    let blank : Child = record { least = 0; lean = 0; nearly = 0 } in
    let k = c.args.k in let rest = c.args.rest.now in let at = c.loop-at.at in let room = c.requires.profiles.0 in let lefts = c.args.profiles.now.lefts.items in
    let extras = c.saturating_sub-extras.result in let most = c.min-most.ensures in
    let here : at < length rest = omega arith in
    let f = row_fits k room (drop (at + 1) rest) lefts c.of_last-beyond.result (row_behind k room rest lefts c.of_last-beyond.result (at + 1) (length rest - (at + 1)) (omega arith) refl (c.of_last-beyond.ensures k room rest (omega arith) c.requires.profiles.2)) in
    let len = length-drop (at + 1) rest in omega arith

pub goes_on-requires-clause-inside : goal.goes_on-requires-clause-inside
goes_on-requires-clause-inside c =
    let blank : Child = record { least = 0; lean = 0; nearly = 0 } in
    let k = c.args.k in let rest = c.args.rest.now in let at = c.loop-at.at in let room = c.requires.profiles.0 in let lefts = c.args.profiles.now.lefts.items in
    let extras = c.saturating_sub-extras.result in let most = c.min-most.ensures in
    let here : at < length rest = omega arith in
    let r = row_behind k room rest lefts c.of_last-beyond.result (at + 1) (length rest - (at + 1)) (omega arith) refl (c.of_last-beyond.ensures k room rest (omega arith) c.requires.profiles.2) in r.inside

pub returns-in-Some : goal.returns-in-Some
returns-in-Some c =
    let blank : Child = record { least = 0; lean = 0; nearly = 0 } in
    let k = c.args.k in let rest = c.args.rest.now in let at = c.loop-at.at in let room = c.requires.profiles.0 in let lefts = c.args.profiles.now.lefts.items in
    let extras = c.saturating_sub-extras.result in let most = c.min-most.ensures in
    let here : at < length rest = omega arith in
    let l = lightest_next k rest at blank extras c.add.new.self.weights.items c.add.new.self.fewest here (c.in_ok-add.ensures (take at rest) c.loop-at.invariant.lightest) in
    let r = (row_behind k room rest lefts c.of_last-beyond.result (at + 1) (length rest - (at + 1)) (omega arith) refl (c.of_last-beyond.ensures k room rest (omega arith) c.requires.profiles.2)) in
    let t = c.in-Some.ensures k room extras (take (at + 1) rest) (drop (at + 1) rest) c.requires.profiles.1 l r in
    record { some = omega arith; within = omega arith; interval = t.0; much = t.1; rest = t.2 }

pub loop-at-preserved : goal.loop-at-preserved
loop-at-preserved c =
    let blank : Child = record { least = 0; lean = 0; nearly = 0 } in
    let k = c.args.k in let rest = c.args.rest.now in let at = c.loop-at.at in let room = c.requires.profiles.0 in let lefts = c.args.profiles.now.lefts.items in
    let extras = c.saturating_sub-extras.result in let most = c.min-most.ensures in
    let here : at < length rest = omega arith in
    let l = lightest_next k rest at blank extras c.add.new.self.weights.items c.add.new.self.fewest here (c.in_ok-add.ensures (take at rest) c.loop-at.invariant.lightest) in
    let r = (row_behind k room rest lefts c.of_last-beyond.result (at + 1) (length rest - (at + 1)) (omega arith) refl (c.of_last-beyond.ensures k room rest (omega arith) c.requires.profiles.2)) in
    let t = c.in_default.ensures k room extras (take (at + 1) rest) (drop (at + 1) rest) c.requires.profiles.1 l r in
    let far = row_behind k room rest lefts c.of_last-far.result c.min-most.result (length rest - c.min-most.result) (omega arith) refl (c.of_last-far.ensures k room rest (omega arith) c.requires.profiles.2) in
    let enough : (k ≤ c.min-most.result) ⊎ (length rest ≤ c.min-most.result) = elim (cases_lt k (length rest)) [ inl less ↦ inl (omega arith) | inr more ↦ inr (omega arith) ] in
    let few = cut_few k room rest lefts c.of_last-far.result c.args.self.cost c.args.self.left c.min-most.result c.requires.weighed c.requires.profiles.1 far enough in
    let e : c.args.self.cost - c.of_last-far.result.base ≡ extras = sym c.saturating_sub-extras.ensures in
    record {
      lightest = l;
      none = tried_next k rest c.args.self.cost c.args.self.left at extras t c.loop-at.invariant.none (λ number extra cut. let f = few number extra cut in omega arith);
    }

pub returns : goal.returns
returns c =
    let cut = c.requires.there.2 in let within = cut.within in
    let most = c.min-most.ensures in let m = interval_most c.args.k c.args.rest.now c.requires.there.0 c.requires.there.1 c.requires.weighed within cut.interval in
    let t = c.loop-at-test.false in
    absurd (c.loop-at.invariant.none c.requires.there.0 c.requires.there.1 (omega arith) cut)
