use Rattle.std.proofs.Common.{◌≡◌, ◌+◌, ◌-◌, ℕ, List, drop, get_or, length, take, refl, sym, ap, subst, ◌∙◌, arith}
use Rattle.std.proofs.lemmas.List.{drop-drop, get_or-drop, length-drop, length-take-le, take_rest}
use Rattle.nx_choices.specs.declared.child.Child.{Child}
use Rattle.nx_choices.specs.declared.walk.Walk.{Walk}
use Rattle.nx_choices.specs.Choice.{AreWeighed}
use Rattle.nx_choices.specs.Profile.{AreProfiles, IsAchievable}
use Rattle.nx_choices.specs.Walk.{AddsInterval, IsCutAt}
use Rattle.nx_choices.proofs.BuildLemmas.{profiles_drop, row_fits, weighed_drop, weighed_take, weighed_more}
use Rattle.nx_choices.proofs.WalkLemmas.{goes_cut, goes_uncut, interval_most, must_cut, row_behind}
use Rattle.nx_choices.proofs.walk.Walk.step.Goals as goal

pub without-requires-clause-base : goal.without-requires-clause-base
without-requires-clause-base c =
    let blank : Child = record { least = 0; lean = 0; nearly = 0 } in
    let k = c.args.k in let children = c.args.children.now in let at = c.args.self.at in let before = c.requires.before in
    let room = c.requires.profiles.0 in let lefts = c.args.profiles.now.lefts.items in
    let tail = take_rest children at in let len = ap length tail ∙ length-drop at children in
    let row = row_behind k room children lefts c.of_last-after.result (at + 1) (length (take (length children - at) (drop at children)) - 1) (omega arith) (omega arith) (c.of_last-after.ensures k room children (omega arith) c.requires.profiles.2) in
    let f = row_fits k room (drop (at + 1) children) lefts c.of_last-after.result row in let dropped = length-drop (at + 1) children in omega arith

pub without-requires-clause-inside : goal.without-requires-clause-inside
without-requires-clause-inside c =
    let blank : Child = record { least = 0; lean = 0; nearly = 0 } in
    let k = c.args.k in let children = c.args.children.now in let at = c.args.self.at in let before = c.requires.before in
    let room = c.requires.profiles.0 in let lefts = c.args.profiles.now.lefts.items in
    let tail = take_rest children at in let len = ap length tail ∙ length-drop at children in
    let row = row_behind k room children lefts c.of_last-after.result (at + 1) (length (take (length children - at) (drop at children)) - 1) (omega arith) (omega arith) (c.of_last-after.ensures k room children (omega arith) c.requires.profiles.2) in
    row.inside

pub returns-in-Some : goal.returns-in-Some
returns-in-Some c =
    let blank : Child = record { least = 0; lean = 0; nearly = 0 } in
    let k = c.args.k in let children = c.args.children.now in let at = c.args.self.at in let before = c.requires.before in
    let room = c.requires.profiles.0 in let lefts = c.args.profiles.now.lefts.items in
    let tail = take_rest children at in let len = ap length tail ∙ length-drop at children in
    let row = row_behind k room children lefts c.of_last-after.result (at + 1) (length (take (length children - at) (drop at children)) - 1) (omega arith) (omega arith) (c.of_last-after.ensures k room children (omega arith) c.requires.profiles.2) in
    let u = c.in-Some.ensures k room (drop (at + 1) children) c.requires.profiles.1 row in let sums = u.0 in
    let same : get_or (take (length children - at) (drop at children)) 0 blank ≡ get_or children at blank = ap (λ (cs : List Child). get_or cs 0 blank) tail ∙ get_or-drop at children 0 blank ∙ ap (λ (n : ℕ). get_or children n blank) (let e : at + 0 ≡ at = omega arith in e) in
    let leans = ap (λ (child : Child). child.lean) same in
    record {
      on = omega arith;
      within = omega arith;
      little = omega arith;
      goes = λ most room' first p. goes_uncut k children most room' first c.args.self (record { at = at + 1; cost = c.args.self.cost; left = c.in-Some.left }) c.args.stands.now.items c.push.new.self.items blank before refl refl (omega arith) u.1 c.in_ok-push.ensures.items p;
    }

pub find-requires-clause-weighed : goal.find-requires-clause-weighed
find-requires-clause-weighed c = subst (λ (cs : List Child). AreWeighed c.args.k cs) (sym (take_rest c.args.children.now c.args.self.at)) (weighed_drop c.args.k c.args.children.now c.args.self.at c.requires.weighed)

pub find-requires-clause-profiles : goal.find-requires-clause-profiles
find-requires-clause-profiles c =
    let blank : Child = record { least = 0; lean = 0; nearly = 0 } in
    let k = c.args.k in let children = c.args.children.now in let at = c.args.self.at in let before = c.requires.before in
    let room = c.requires.profiles.0 in let lefts = c.args.profiles.now.lefts.items in
    let tail = take_rest children at in let len = ap length tail ∙ length-drop at children in
    (room, c.requires.profiles.1, subst (λ (cs : List Child). AreProfiles k room cs c.args.profiles.now) (sym tail) (profiles_drop k room children c.args.profiles.now at (omega arith) c.requires.profiles.2))

pub find-requires-clause-there : goal.find-requires-clause-there
find-requires-clause-there c =
    let blank : Child = record { least = 0; lean = 0; nearly = 0 } in
    let k = c.args.k in let children = c.args.children.now in let at = c.args.self.at in let before = c.requires.before in
    let room = c.requires.profiles.0 in let lefts = c.args.profiles.now.lefts.items in
    let tail = take_rest children at in let len = ap length tail ∙ length-drop at children in
    let row = row_behind k room children lefts c.of_last-after.result (at + 1) (length (take (length children - at) (drop at children)) - 1) (omega arith) (omega arith) (c.of_last-after.ensures k room children (omega arith) c.requires.profiles.2) in
    let u = c.in_default.ensures k room (drop (at + 1) children) c.requires.profiles.1 row in
    let behind : drop 1 (take (length children - at) (drop at children)) ≡ drop (at + 1) children = ap (drop 1) tail ∙ drop-drop 1 at children in
    must_cut k (take (length children - at) (drop at children)) blank c.args.self.cost c.args.self.left (omega arith) (subst (λ (cs : List Child). IsAchievable k cs c.args.self.cost c.args.self.left) (sym tail) c.requires.within)
    (λ fits h. u fits (subst (λ (cs : List Child). IsAchievable k cs c.args.self.cost (c.args.self.left - (get_or (take (length children - at) (drop at children)) 0 blank).lean)) behind h))

pub push_interval-requires-clause-some : goal.push_interval-requires-clause-some
push_interval-requires-clause-some c =
    let blank : Child = record { least = 0; lean = 0; nearly = 0 } in
    let k = c.args.k in let children = c.args.children.now in let at = c.args.self.at in let before = c.requires.before in
    let room = c.requires.profiles.0 in let lefts = c.args.profiles.now.lefts.items in
    let tail = take_rest children at in let len = ap length tail ∙ length-drop at children in
    let cut = c.in_ok-cut.ensures in let some = cut.some in let taken = length-take-le c.in_ok-cut.cut.number (take (length children - at) (drop at children)) cut.within in omega arith

pub push_interval-requires-clause-number : goal.push_interval-requires-clause-number
push_interval-requires-clause-number c =
    let blank : Child = record { least = 0; lean = 0; nearly = 0 } in
    let k = c.args.k in let children = c.args.children.now in let at = c.args.self.at in let before = c.requires.before in
    let room = c.requires.profiles.0 in let lefts = c.args.profiles.now.lefts.items in
    let tail = take_rest children at in let len = ap length tail ∙ length-drop at children in
    let cut = subst (λ (cs : List Child). IsCutAt k cs c.args.self.cost c.args.self.left c.in_ok-cut.cut.number c.in_ok-cut.cut.extra) tail c.in_ok-cut.ensures in
    let number = c.in_ok-cut.cut.number in let extra = c.in_ok-cut.cut.extra in
    let some = cut.some in let within = cut.within in let dropped = length-drop at children in
    let all = weighed_drop k children at c.requires.weighed in
    let m = interval_most k (drop at children) number extra all within cut.interval in let taken = length-take-le number (take (length children - at) (drop at children)) (omega arith) in omega arith

pub push_interval-requires-clause-weighed : goal.push_interval-requires-clause-weighed
push_interval-requires-clause-weighed c =
    let blank : Child = record { least = 0; lean = 0; nearly = 0 } in
    let k = c.args.k in let children = c.args.children.now in let at = c.args.self.at in let before = c.requires.before in
    let room = c.requires.profiles.0 in let lefts = c.args.profiles.now.lefts.items in
    let tail = take_rest children at in let len = ap length tail ∙ length-drop at children in
    weighed_take 256 (take (length children - at) (drop at children)) c.in_ok-cut.cut.number (weighed_more k 256 (take (length children - at) (drop at children)) c.requires.k (subst (λ (cs : List Child). AreWeighed k cs) (sym tail) (weighed_drop k children at c.requires.weighed)))

pub push_interval-requires-clause-interval : goal.push_interval-requires-clause-interval
push_interval-requires-clause-interval c = c.in_ok-cut.ensures.interval

pub returns : goal.returns
returns c =
    let blank : Child = record { least = 0; lean = 0; nearly = 0 } in
    let k = c.args.k in let children = c.args.children.now in let at = c.args.self.at in let before = c.requires.before in
    let room = c.requires.profiles.0 in let lefts = c.args.profiles.now.lefts.items in
    let tail = take_rest children at in let len = ap length tail ∙ length-drop at children in
    let cut = subst (λ (cs : List Child). IsCutAt k cs c.args.self.cost c.args.self.left c.in_ok-cut.cut.number c.in_ok-cut.cut.extra) tail c.in_ok-cut.ensures in
    let number = c.in_ok-cut.cut.number in let extra = c.in_ok-cut.cut.extra in
    let some = cut.some in let within = cut.within in let dropped = length-drop at children in
    let all = weighed_drop k children at c.requires.weighed in
    let adds = subst (λ (cs : List Child). AddsInterval k (take number cs) extra c.args.stands.now.items c.push_interval.new.stands.items) tail c.in_ok-push_interval.ensures in
    let next : Walk = record { at = at + number; cost = c.args.self.cost - 1 - extra; left = c.args.self.left } in
    record {
      on = omega arith;
      within = omega arith;
      little = omega arith;
      goes = λ most room' first p. goes_cut k children most room' first c.args.self next c.args.stands.now.items c.push_interval.new.stands.items number extra before refl refl refl cut adds p;
    }
