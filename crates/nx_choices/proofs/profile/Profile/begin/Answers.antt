use Rattle.std.proofs.Common.{drop, arith}
use Rattle.std.proofs.lemmas.List.{length-drop}
use Rattle.nx_choices.specs.declared.child.Child.{Child}
use Rattle.nx_choices.specs.Profile.{lefts_of}
use Rattle.nx_choices.proofs.BuildLemmas.{row_beyond, row_fits, draft_first}
use Rattle.nx_choices.proofs.profile.Profile.begin.Goals as goal

pub start-requires-clause-after_inside : goal.start-requires-clause-after_inside
start-requires-clause-after_inside c =
    let children = c.args.children.now in let len = length-drop 1 children in let within = c.requires.plain.1.within in
    (c.of_last-after.ensures c.args.cuts.k c.args.cuts.room (drop 1 children) (omega arith) c.requires.profiles).inside

pub start-requires-clause-beyond_inside : goal.start-requires-clause-beyond_inside
start-requires-clause-beyond_inside c =
    let children = c.args.children.now in let len = length-drop 1 children in let within = c.requires.plain.1.within in
    (c.of_last-beyond.ensures c.args.cuts.k c.args.cuts.room (drop 1 children) (omega arith) c.requires.profiles).inside

pub start-requires-clause-after : goal.start-requires-clause-after
start-requires-clause-after c =
    let k = c.args.cuts.k in let room = c.args.cuts.room in let children = c.args.children.now in let len = length-drop 1 children in let within = c.requires.plain.1.within in
    let r = row_beyond k room children c.args.profiles.now.lefts.items c.of_last-after.result 1 (omega arith) (omega arith) (c.of_last-after.ensures k room (drop 1 children) (omega arith) c.requires.profiles) in
    let f = row_fits k room (drop 1 children) c.args.profiles.now.lefts.items c.of_last-after.result r in omega arith

pub start-requires-clause-beyond : goal.start-requires-clause-beyond
start-requires-clause-beyond c =
    let k = c.args.cuts.k in let room = c.args.cuts.room in let children = c.args.children.now in let plain = c.args.cuts.plain in let len = length-drop 1 children in let within = c.requires.plain.1.within in
    let r = row_beyond k room children c.args.profiles.now.lefts.items c.of_last-beyond.result plain c.requires.some within (c.of_last-beyond.ensures k room (drop 1 children) (omega arith) c.requires.profiles) in
    let f = row_fits k room (drop plain children) c.args.profiles.now.lefts.items c.of_last-beyond.result r in let dropped = length-drop plain children in omega arith

pub start-requires-clause-small : goal.start-requires-clause-small
start-requires-clause-small c =
    let k = c.args.cuts.k in let room = c.args.cuts.room in let children = c.args.children.now in let len = length-drop 1 children in let within = c.requires.plain.1.within in
    let r = c.of_last-after.ensures k room (drop 1 children) (omega arith) c.requires.profiles in
    λ index. let s = r.profile.small index in omega arith

pub returns : goal.returns
returns c =
    let k = c.args.cuts.k in let room = c.args.cuts.room in let children = c.args.children.now in let plain = c.args.cuts.plain in let len = length-drop 1 children in let within = c.requires.plain.1.within in
    let lefts = c.args.profiles.now.lefts.items in
    let blank : Child = record { least = 0; lean = 0; nearly = 0 } in
    let after = row_beyond k room children lefts c.of_last-after.result 1 (omega arith) (omega arith) (c.of_last-after.ensures k room (drop 1 children) (omega arith) c.requires.profiles) in
    let beyond = row_beyond k room children lefts c.of_last-beyond.result plain c.requires.some within (c.of_last-beyond.ensures k room (drop 1 children) (omega arith) c.requires.profiles) in
    draft_first k room children plain c.requires.plain.0 blank c.of_last-after.result.base (lefts_of lefts c.of_last-after.result) c.of_last-beyond.result.base (lefts_of lefts c.of_last-beyond.result) c.start.new.self.base c.start.new.self.lefts.items
    c.requires.plain.1 c.requires.some after.profile beyond.profile c.in_ok-start.ensures.base c.in_ok-start.ensures.lefts
