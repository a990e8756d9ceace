use Rattle.std.proofs.Common.{◌+◌, ◌-◌, ℕ, Bool, not, List, [], ◌∷◌, ◌++◌, drop, get_or, length, refl, sym, ap, subst, ◌∙◌, arith}
use Rattle.std.proofs.lemmas.List.{take_rest}
use Rattle.nx_choices.specs.declared.child.Child.{Child}
use Rattle.nx_choices.specs.declared.child.Stand.{Stand}
use Rattle.nx_choices.specs.Choice.{First, Second, AreWeighed}
use Rattle.nx_choices.specs.Profile.{IsInterval}
use Rattle.nx_choices.specs.Walk.{stand_at, AreFormed, IsForm}
use Rattle.nx_choices.proofs.BuildLemmas.{weighed_drop}
use Rattle.nx_choices.proofs.WalkLemmas.{formed_push, form_first, form_second}
use Rattle.nx_choices.proofs.walk.push_interval.Goals as goal
use Rattle.nx_choices.proofs.walk.push_interval.Goals.{then-first, else-first}

pub may_be_first-requires-clause-weighed : goal.may_be_first-requires-clause-weighed
may_be_first-requires-clause-weighed c =
    subst (λ (cs : List Child). AreWeighed 256 cs) (sym (take_rest c.args.members.now c.loop-at.at)) (weighed_drop 256 c.args.members.now c.loop-at.at c.requires.weighed)

pub may_be_first-requires-clause-interval : goal.may_be_first-requires-clause-interval
may_be_first-requires-clause-interval c =
    subst (λ (cs : List Child). IsInterval c.loop-at.limit cs c.loop-at.extra) (sym (take_rest c.args.members.now c.loop-at.at)) c.loop-at.invariant.rest

pub loop-at-preserved : goal.loop-at-preserved
loop-at-preserved c =
    let blank : Child = record { least = 0; lean = 0; nearly = 0 } in
    let k = c.args.k in let members = c.args.members.now in let at = c.loop-at.at in let before = c.loop-at-test.true in
    let limit = c.loop-at.limit in let extra = c.loop-at.extra in let old = c.args.stands.now.items in let new = c.loop-at.stands.items in let next = c.push.new.self.items in
    let form = subst (λ (cs : List Child). IsForm limit cs extra c.in_ok-first.first) (take_rest members at) c.in_ok-first.ensures in
    let added = c.in_ok-push.ensures.items ∙ ap (λ (s : Stand). new ++ s ∷ []) c.stand_at.ensures in
    elim c.if-first.branch [
      | then-first w ↦
          let h = form_first limit members at extra blank before (subst (λ (b : Bool). IsForm limit (drop at members) extra b) w.if-first.true form) in
          let told = added ∙ ap (λ (b : Bool). new ++ stand_at (length members) at (not b) ∷ []) w.if-first.true in
          let fits = h.0 in
          subst (λ (n : ℕ). AreFormed k members c.args.extra (at + 1) n c.if-first.extra old next) (sym w.limit-is)
          (subst (λ (n : ℕ). AreFormed k members c.args.extra (at + 1) (limit - (get_or members at blank).lean) n old next) (sym w.extra-is)
          (formed_push k members c.args.extra at limit extra old new next blank (First (get_or members at blank)) (limit - (get_or members at blank).lean) extra before refl (omega arith) (omega arith) h.1 told c.loop-at.invariant))
      | else-first w ↦
          let h = form_second limit members at extra blank before (subst (λ (b : Bool). IsForm limit (drop at members) extra b) w.if-first.false form) in
          let told = added ∙ ap (λ (b : Bool). new ++ stand_at (length members) at (not b) ∷ []) w.if-first.false in
          let fits = h.0 in let some = h.1 in
          subst (λ (n : ℕ). AreFormed k members c.args.extra (at + 1) n c.if-first.extra old next) (sym w.limit-is)
          (subst (λ (n : ℕ). AreFormed k members c.args.extra (at + 1) (limit - (get_or members at blank).nearly) n old next) (sym w.extra-is)
          (formed_push k members c.args.extra at limit extra old new next blank (Second (get_or members at blank)) (limit - (get_or members at blank).nearly) (extra - 1) before refl (omega arith) (omega arith) h.2 told c.loop-at.invariant))
    ]
