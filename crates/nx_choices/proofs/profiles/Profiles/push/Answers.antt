use Rattle.std.proofs.Common.{List, [], ◌∷◌, ◌++◌, ap, ◌∙◌, arith}
use Rattle.std.proofs.lemmas.List.{take_all}
use Rattle.nx_choices.specs.declared.profiles.Profiles.{Profiles}
use Rattle.nx_choices.specs.declared.profiles.Row.{Row}
use Rattle.nx_choices.proofs.BuildLemmas.{profiles_push}
use Rattle.nx_choices.proofs.profiles.Profiles.push.Goals as goal

pub returns-clause-profiles : goal.returns-clause-profiles
returns-clause-profiles c = λ k room children many all p.
    let new : Profiles = record { rows = c.push-2.new.self; lefts = c.loop-left.self.lefts } in
    let row : Row = record { start = c.len.result; len = c.len-2.result; base = c.args.profile.now.base } in
    let inv = c.loop-left.invariant in let past = c.loop-left-test.false in
    profiles_push k room children c.args.self.now new row c.args.profile.now.lefts.items
    (c.in_ok-push-2.ensures.items ∙ ap (λ (rs : List Row). rs ++ row ∷ []) inv.items)
    (inv.lefts ∙ ap (λ xs. c.args.self.now.lefts.items ++ xs) (take_all c.loop-left.left-index c.args.profile.now.lefts.items (omega arith)))
    (omega (arith, c.len.ensures, c.args.self.now.lefts.ok.0)) (omega (arith, c.len-2.ensures, c.args.profile.now.lefts.ok.0)) (omega (arith, many, c.args.self.now.rows.ok.0)) all p
