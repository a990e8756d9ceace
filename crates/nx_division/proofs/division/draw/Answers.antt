use Rattle.std.proofs.Common.{◌≡◌, ◌<◌, ◌≤◌, refl, ap, subst, ◌∙◌, arith, inl, inr}
use Rattle.nx_sketch.proofs.MarkLemmas.{weight_small}
use Rattle.nx_division.specs.Drawn.{drawn, heaviest}
use Rattle.nx_division.specs.Divided.{separator_plan}
use Rattle.nx_division.specs.Raised.{raised_plan, raised_root}
use Rattle.nx_division.proofs.SplitLemmas.{flat_of, ready_of, settled_divides}
use Rattle.nx_division.proofs.division.draw.Goals as goal

pub separate-requires-clause-room : goal.separate-requires-clause-room
separate-requires-clause-room c = let w = weight_small c.args.spots.now (flat_of c.args.k c.args.spots.now c.requires.sketch) in omega arith

pub raise-requires-clause-small : goal.raise-requires-clause-small
raise-requires-clause-small c = let w = weight_small c.args.spots.now (flat_of c.args.k c.args.spots.now c.requires.sketch) in omega arith

pub settle-requires-clause-ready : goal.settle-requires-clause-ready
settle-requires-clause-ready c = ready_of c.args.k c.tops_light-keep.result c.args.spots.now c.requires.sketch (record { yes = c.tops_light-keep.ensures.yes; no_tops = c.tops_light-keep.ensures.no })

pub returns-then-heaviest-k : goal.returns-then-heaviest-k
returns-then-heaviest-k c = λ s is sketch light.
    let plan : drawn s c.separate.new.cuts ≡ separator_plan s c.args.t c.args.tolerance = c.separate.ensures s is in
    let less = c.if-heaviest-k.true in
    let most : heaviest (separator_plan s c.args.t c.args.tolerance) ≤ c.args.k = subst (λ d. heaviest d ≤ c.args.k) plan (subst (λ n. n ≤ c.args.k) (c.weigh-heaviest.ensures s is).most less) in
    inl (c.raise.ensures.plan s is ∙ ap (raised_plan c.args.room c.args.t c.args.tolerance 0) plan, c.raise.ensures.root s is ∙ ap (raised_root c.args.room c.args.t c.args.tolerance 0) plan, most)

pub returns : goal.returns
returns c = λ s is sketch light.
    let plan : drawn s c.separate.new.cuts ≡ separator_plan s c.args.t c.args.tolerance = c.separate.ensures s is in
    let more = c.if-heaviest-k.false in
    let heavy : c.args.k < heaviest (separator_plan s c.args.t c.args.tolerance) = subst (λ d. c.args.k < heaviest d) plan (subst (λ n. c.args.k < n) (c.weigh-heaviest.ensures s is).most more) in
    inr (settled_divides c.args.k c.args.t c.args.tolerance c.tops_light-keep.result c.args.spots.now c.settle.new.cuts c.settle.result s is sketch light (record { yes = c.tops_light-keep.ensures.yes; no_tops = c.tops_light-keep.ensures.no }) heavy c.settle.ensures, refl)
