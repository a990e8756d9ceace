use Rattle.std.proofs.Common.{◌≡◌, ◌+◌, ◌≤◌, ◌<◌, ℕ, drop, length, take, ap, sym, subst, arith}
use Rattle.std.proofs.lemmas.List.{length-drop, length-take-le}
use Rattle.nx_choices.specs.declared.child.Child.{Child}
use Rattle.nx_choices.specs.declared.profile.Profile.{Profile}
use Rattle.nx_choices.specs.Profile.{lefts_of, IsDraftOf, IsLowered}
use Rattle.nx_choices.proofs.ReachLemmas.{weighed_at}
use Rattle.nx_choices.proofs.LightestLemmas.{lightest_next}
use Rattle.nx_choices.proofs.BuildLemmas.{row_beyond, row_fits, weighed_take, weighed_more, draft_short, draft_cut, draft_uncut, draft_idle, draft_ended}
use Rattle.nx_choices.proofs.profile.Profile.cut_longer.Goals as goal
use Rattle.nx_choices.proofs.profile.Profile.cut_longer.Goals.{in-Some, in_default}

pub of_last-last-requires : goal.of_last-last-requires
of_last-last-requires c = let within = c.requires.light.1.within in let some = c.requires.some in let longer = c.requires.longer in omega arith

pub end-requires : goal.end-requires
end-requires c =
    let s = draft_short c.args.cuts.k c.args.cuts.room c.args.children.now (c.args.cuts.plain + 1) c.args.self.now.base c.args.self.now.lefts.items c.requires.draft in
    omega arith

pub overflow_add-last : goal.overflow_add-last
overflow_add-last c =
    let k = c.args.cuts.k in let room = c.args.cuts.room in let children = c.args.children.now in let light = c.args.cuts.light in
    let len = length-drop 1 children in let within = c.requires.light.1.within in let some = c.requires.some in let longer = c.requires.longer in
    let r = row_beyond k room children c.args.profiles.now.lefts.items c.of_last-last.result light (omega arith) within (c.of_last-last.ensures k room (drop 1 children) (omega arith) c.requires.profiles) in
    let f = row_fits k room (drop light children) c.args.profiles.now.lefts.items c.of_last-last.result r in let dropped = length-drop light children in
    record { fits = omega arith }

pub weigh-requires-clause-weighed : goal.weigh-requires-clause-weighed
weigh-requires-clause-weighed c = weighed_take 256 c.args.children.now c.args.cuts.plain (weighed_more c.args.cuts.k 256 c.args.children.now c.requires.k c.requires.weighed)

pub add-requires-clause-lean : goal.add-requires-clause-lean
add-requires-clause-lean c =
    let blank : Child = record { least = 0; lean = 0; nearly = 0 } in
    let within = c.requires.light.1.within in
    let most = (weighed_at c.args.cuts.k c.args.children.now c.loop-len.len blank c.requires.weighed (omega arith)).lean_most in omega arith

pub add-requires-clause-nearly : goal.add-requires-clause-nearly
add-requires-clause-nearly c =
    let blank : Child = record { least = 0; lean = 0; nearly = 0 } in
    let within = c.requires.light.1.within in
    let most = (weighed_at c.args.cuts.k c.args.children.now c.loop-len.len blank c.requires.weighed (omega arith)).nearly_most in omega arith

pub add-requires-clause-some : goal.add-requires-clause-some
add-requires-clause-some c = c.loop-len.invariant.lightest.some

pub add-requires-clause-small : goal.add-requires-clause-small
add-requires-clause-small c = λ index.
    let within = c.requires.light.1.within in let s = c.loop-len.invariant.lightest.small index in
    let len = length-take-le c.loop-len.len c.args.children.now (omega arith) in omega arith

pub fewest-requires : goal.fewest-requires
fewest-requires c =
    let blank : Child = record { least = 0; lean = 0; nearly = 0 } in
    let within = c.requires.light.1.within in let here : c.loop-len.len < length c.args.children.now = omega arith in
    let l = lightest_next c.args.cuts.k c.args.children.now c.loop-len.len blank c.saturating_sub-extras.result c.add.new.self.weights.items c.add.new.self.fewest here (c.in_ok-add.ensures (take c.loop-len.len c.args.children.now) c.loop-len.invariant.lightest) in
    let few = l.few in let len = length-take-le (c.loop-len.len + 1) c.args.children.now (omega arith) in omega arith

pub lower-requires-clause-inside : goal.lower-requires-clause-inside
lower-requires-clause-inside c =
    let children = c.args.children.now in let len = length-drop 1 children in
    (c.of_last-beyond.ensures c.args.cuts.k c.args.cuts.room (drop 1 children) (omega arith) c.requires.profiles).inside

pub lower-requires-clause-beyond : goal.lower-requires-clause-beyond
lower-requires-clause-beyond c =
    let blank : Child = record { least = 0; lean = 0; nearly = 0 } in
    let k = c.args.cuts.k in let room = c.args.cuts.room in let children = c.args.children.now in let at = c.loop-len.len in
    let len = length-drop 1 children in let within = c.requires.light.1.within in let here : at < length children = omega arith in
    let r = row_beyond k room children c.args.profiles.now.lefts.items c.of_last-beyond.result (at + 1) (omega arith) (omega arith) (c.of_last-beyond.ensures k room (drop 1 children) (omega arith) c.requires.profiles) in
    let f = row_fits k room (drop (at + 1) children) c.args.profiles.now.lefts.items c.of_last-beyond.result r in let dropped = length-drop (at + 1) children in
    let l = lightest_next k children at blank c.saturating_sub-extras.result c.add.new.self.weights.items c.add.new.self.fewest here (c.in_ok-add.ensures (take at children) c.loop-len.invariant.lightest) in
    let few = l.few in let taken = length-take-le (at + 1) children (omega arith) in let found = c.in-Some.ensures in let less = found.1 in let same = found.0 in
    omega arith

pub loop-len-preserved : goal.loop-len-preserved
loop-len-preserved c =
    let blank : Child = record { least = 0; lean = 0; nearly = 0 } in
    let k = c.args.cuts.k in let room = c.args.cuts.room in let children = c.args.children.now in let at = c.loop-len.len in let light = c.args.cuts.light in
    let lefts = c.args.profiles.now.lefts.items in let extras = c.saturating_sub-extras.result in
    let len = length-drop 1 children in let within = c.requires.light.1.within in let here : at < length children = omega arith in
    let inv = c.loop-len.invariant in let some = c.requires.some in let longer = c.requires.longer in
    let l = lightest_next k children at blank extras c.add.new.self.weights.items c.add.new.self.fewest here (c.in_ok-add.ensures (take at children) inv.lightest) in
    let last = row_beyond k room children lefts c.of_last-last.result light (omega arith) within (c.of_last-last.ensures k room (drop 1 children) (omega arith) c.requires.profiles) in
    let b = inv.base in let n = inv.len in let e = c.end.ensures in let x = c.saturating_sub-extras.ensures in
    let v = c.args.self.now.lefts.ok.0 in let more = c.if-extras-eq0.false in
    let ends : c.loop-len.self.base + length c.loop-len.self.lefts.items ≤ extras + (c.of_last-last.result.base + 1) = omega arith in
    let blunt : Profile → ℕ = λ p. p.base in let count : Profile → ℕ = λ p. length p.lefts.items in
    elim c.match-fewest.branch [
      | in-Some w ↦
          let bases = ap blunt w.self-is in let lens = ap count w.self-is in
          let kept = w.lower.ensures.base in let low = w.lower.ensures.lefts in let same = low.len in
          let found = w.in-Some.ensures.0 in
          let beyond = row_beyond k room children lefts w.of_last-beyond.result (at + 1) (omega arith) (omega arith) (w.of_last-beyond.ensures k room (drop 1 children) (omega arith) c.requires.profiles) in
          let lowered = subst (λ n. IsLowered (room + 1) c.loop-len.self.base c.loop-len.self.lefts.items (w.of_last-beyond.result.base + (1 + n)) (lefts_of lefts w.of_last-beyond.result) w.lower.new.self.lefts.items) found low in
          let d = draft_cut k room children (at + 1) light c.loop-len.self.base c.loop-len.self.lefts.items extras c.add.new.self.weights.items c.add.new.self.fewest w.of_last-beyond.result.base (lefts_of lefts w.of_last-beyond.result) w.lower.new.self.lefts.items c.of_last-last.result.base (lefts_of lefts c.of_last-last.result)
          inv.draft (omega arith) (omega arith) l w.in-Some.ensures.1 beyond.profile last.profile ends lowered in
          record {
            base = omega arith;
            len = omega arith;
            lightest = l;
            draft = subst (λ (p : Profile). IsDraftOf k room children (at + 1 + 1) p.base p.lefts.items) (sym w.self-is)
                (subst (λ n. IsDraftOf k room children (at + 1 + 1) n w.lower.new.self.lefts.items) (sym kept) d);
          }
      | in_default w ↦
          let bases = ap blunt w.self-is in let lens = ap count w.self-is in
          let d = draft_uncut k room children (at + 1) light c.loop-len.self.base c.loop-len.self.lefts.items extras c.add.new.self.weights.items c.add.new.self.fewest c.of_last-last.result.base (lefts_of lefts c.of_last-last.result)
          inv.draft (omega arith) l w.in_default.ensures last.profile ends in
          record {
            base = omega arith;
            len = omega arith;
            lightest = l;
            draft = subst (λ (p : Profile). IsDraftOf k room children (at + 1 + 1) p.base p.lefts.items) (sym w.self-is) d;
          }
    ]

pub returns-then-cuts : goal.returns-then-cuts
returns-then-cuts c =
    let same : c.args.cuts.plain ≡ c.args.cuts.light = omega arith in
    let d = subst (λ n. IsDraftOf c.args.cuts.k c.args.cuts.room c.args.children.now (n + 1) c.args.self.now.base c.args.self.now.lefts.items) same c.requires.draft in
    draft_ended c.args.cuts.k c.args.cuts.room c.args.children.now c.args.cuts.light c.requires.light.0 c.args.self.now.base c.args.self.now.lefts.items d c.requires.light.1

pub returns-then-extras-eq0 : goal.returns-then-extras-eq0
returns-then-extras-eq0 c =
    let k = c.args.cuts.k in let room = c.args.cuts.room in let children = c.args.children.now in let light = c.args.cuts.light in
    let lefts = c.args.profiles.now.lefts.items in
    let len = length-drop 1 children in let within = c.requires.light.1.within in let some = c.requires.some in let longer = c.requires.longer in
    let last = row_beyond k room children lefts c.of_last-last.result light (omega arith) within (c.of_last-last.ensures k room (drop 1 children) (omega arith) c.requires.profiles) in
    let e = c.end.ensures in let x = c.saturating_sub-extras.ensures in
    let ends : c.args.self.now.base + length c.args.self.now.lefts.items ≤ c.of_last-last.result.base + 1 = omega arith in
    let d = draft_idle k room children (c.args.cuts.plain + 1) light c.args.self.now.base c.args.self.now.lefts.items c.of_last-last.result.base (lefts_of lefts c.of_last-last.result) c.requires.draft last.profile ends in
    draft_ended k room children light c.requires.light.0 c.args.self.now.base c.args.self.now.lefts.items d c.requires.light.1

pub cut_end-requires : goal.cut_end-requires
cut_end-requires c =
    let s = draft_short c.args.cuts.k c.args.cuts.room c.args.children.now (c.loop-len.len + 1) c.loop-len.self.base c.loop-len.self.lefts.items c.loop-len.invariant.draft in
    omega arith

pub returns : goal.returns
returns c =
    let k = c.args.cuts.k in let room = c.args.cuts.room in let children = c.args.children.now in let light = c.args.cuts.light in
    let longer = c.requires.longer in let t = c.loop-len-test.false in
    let all : c.loop-len.len ≡ light = omega arith in
    let d = subst (λ n. IsDraftOf k room children (n + 1) c.loop-len.self.base c.loop-len.self.lefts.items) all c.loop-len.invariant.draft in
    c.cut_end.ensures.profile k room children (draft_ended k room children light c.requires.light.0 c.loop-len.self.base c.loop-len.self.lefts.items d c.requires.light.1)
